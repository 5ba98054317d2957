-- What the contracts of `serve` cite: Waiting is for the input's buffer, Serving for what the loop makes of reader and writer.
pub mod Waiting
pub mod Serving
