-- Laws that every query cites.
pub mod Fold
pub mod Whole
pub mod Alike
pub mod Rank
pub mod Own
pub mod Steps
pub mod Turning
pub mod Unrefused
pub mod Fronts
pub mod Written
pub mod Answered
pub mod Parts
