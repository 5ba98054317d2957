-- That a call has one outcome.
pub mod Once
