-- What the contracts of `build` cite.
pub mod Built
pub mod Outcome
pub mod Agree
pub mod Steps
