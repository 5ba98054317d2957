-- The worked examples, as statements about the definitions.
pub mod Examples
