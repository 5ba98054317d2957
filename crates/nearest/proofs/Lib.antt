-- Laws that the proofs and the layers above cite.
pub mod Entry
pub mod Least
pub mod Promise
