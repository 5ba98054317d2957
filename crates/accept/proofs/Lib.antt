-- Laws that the function proofs cite, from the bottom up; `Decides` has the theorems for those who call the check.
pub mod Bits
pub mod Times
pub mod Turns
pub mod Extents
pub mod Nodes
pub mod Decides
pub mod Entry
