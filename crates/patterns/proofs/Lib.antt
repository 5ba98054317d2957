-- Laws that the proofs and the programs above cite.
pub mod Text
mod Patterns
