-- Laws of windows worked out, of the window table, and of the windows that a scalar opens.
pub mod Sizes
pub mod Digits
pub mod Opened
