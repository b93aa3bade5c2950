-- What the proofs of the recorder and of the whole stream cite.
pub mod Parts
pub mod Feeding
