-- What the contracts of the queries cite.
pub mod Turn
pub mod Walk
pub mod Order
pub mod Rules
pub mod Refusal
pub mod Result
pub mod Answer
