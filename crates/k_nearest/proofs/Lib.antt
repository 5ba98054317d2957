-- Laws of the k-nearest query.
pub mod Full
pub mod Heaps
pub mod Filled
pub mod Entry
pub mod Keep
pub mod Tied
pub mod Promise
