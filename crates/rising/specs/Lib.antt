pub mod Sort
