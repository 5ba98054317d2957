-- What the contracts of the k-nearest query cite.
pub mod Scan
pub mod Query
pub mod Inner
