-- What the proofs of the lines cite.
pub mod Puts
pub mod Texts
pub mod Numbers
