-- What the contract of `nearest_neighbour` cites.
pub mod Nearest
