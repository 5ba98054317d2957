-- The theorems.
pub mod Worked
pub mod Demands
