-- Laws that the layers above cite.
--   Same   a refusal is known by its number and its detail
pub mod Same
