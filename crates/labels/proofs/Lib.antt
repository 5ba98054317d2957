-- Laws of the labels, for `dbscan`; and a test of labels that computes, for worked examples.
pub mod Neighbours
pub mod Unique
pub mod Test
pub mod Tables
pub mod Exists
