-- What the contracts of `select`, and of the build above it, cite.
pub mod Parts
pub mod Order
