-- What the contracts of `tree`, and of all that stands on a tree, cite.
pub mod Points
pub mod Node
pub mod Count
pub mod Accepted
pub mod Lent
pub mod Entries
pub mod Inner
