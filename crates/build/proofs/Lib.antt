-- Laws that the function proofs and the layers above cite.
pub mod Weave
pub mod Boxes
pub mod Plain
pub mod Parts
pub mod Step
pub mod Sum
pub mod Numbering
pub mod Whole
pub mod Plan
pub mod Outcomes
pub mod Unique
pub mod Accept
pub mod Once
