-- What the contracts of the heap cite.
pub mod Heap
