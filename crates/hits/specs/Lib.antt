-- What the contracts of the thin entry cite.
pub mod Records
