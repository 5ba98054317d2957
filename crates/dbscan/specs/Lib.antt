-- What the contracts of `dbscan` cite: Outcome for its users, Growing for its inner functions.
pub mod Outcome
pub mod Growing
