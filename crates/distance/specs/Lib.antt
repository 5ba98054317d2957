-- What the contracts of `distance` cite.
pub mod Distance
pub mod TotalOrder
