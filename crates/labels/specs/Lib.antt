-- What the contracts of `dbscan` cite.
pub mod Labels
