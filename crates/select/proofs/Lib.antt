-- Laws that the function proofs and the build above cite.
pub mod Parting
pub mod Ranks
pub mod Loops
