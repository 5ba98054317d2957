-- Laws that the proofs cite.
pub mod Waiting
pub mod Fed
pub mod Serving
pub mod Spending
