-- What the contracts of `patterns` cite.
pub mod Digits
