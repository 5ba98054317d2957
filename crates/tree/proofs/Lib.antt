-- Laws that the function proofs and the layers above cite.
pub mod ChildNumbers
pub mod Counting
pub mod NotFinite
pub mod Checked
pub mod Sound
pub mod Entries
pub mod Swaps
pub mod Each
pub mod Insert
pub mod Rising
