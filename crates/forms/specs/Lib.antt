-- Functions that code follows, each shown in proofs/ to give the string that the meaning asks for.
pub mod Fractional
pub mod Closest
