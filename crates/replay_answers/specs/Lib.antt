-- What the contracts of `replay_answers` cite.
pub mod Lines
