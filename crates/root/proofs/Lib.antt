mod Squares
mod Scaling
mod Patterns
mod Halfway
pub mod Floats
pub mod Unique
pub mod Worked
pub mod NoNan
