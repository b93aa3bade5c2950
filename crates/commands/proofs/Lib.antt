-- What the proofs of the commands cite, and the laws for those above.
pub mod Signed
pub mod Sizes
pub mod Fronts
pub mod Stays
