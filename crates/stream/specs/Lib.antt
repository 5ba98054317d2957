-- What the contracts of `stream` cite: Prints and Stream say what a stream prints, Feeding how it is taken in pieces,
-- Printing how it is printed whole; Asked is for the inner functions.
pub mod Prints
pub mod Stream
pub mod Feeding
pub mod Printing
pub mod Asked
