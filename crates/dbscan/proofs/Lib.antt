-- Laws of the labels as they grow.
pub mod State
pub mod Claims
pub mod Rounds
pub mod Asks
pub mod Verdicts
pub mod Ends
pub mod Once
