-- Laws of the sort; Sorting has those that its users cite.
pub mod Sinking
pub mod Parting
pub mod Sorting
