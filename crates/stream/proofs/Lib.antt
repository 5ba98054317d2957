-- Laws that the proofs and the layers above cite.
pub mod Keeping
pub mod Raised
pub mod Nearby
pub mod Listing
pub mod Several
pub mod Around
pub mod Lists
pub mod Labelled
pub mod Steps
pub mod Turns
pub mod Pieces
pub mod Printing
pub mod Once
