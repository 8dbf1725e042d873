-- Words that speak of nothing of this project.
pub mod Deciding
