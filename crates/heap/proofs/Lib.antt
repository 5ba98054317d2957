-- Laws of the heap that queries cite.
pub mod Steps
pub mod Pairs
pub mod Settles
pub mod Order
pub mod Unload
pub mod Each
pub mod Image
pub mod Least
