-- Laws that the proofs and the layers above cite.
pub mod Laws
