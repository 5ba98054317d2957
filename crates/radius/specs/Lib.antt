-- What the contracts of the radius query cite: Within for its users, Keeping for its inner functions.
pub mod Within
pub mod Keeping
