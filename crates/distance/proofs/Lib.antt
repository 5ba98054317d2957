-- Laws that the layers above cite, from the ground up.
--   Finite    std's test of a finite float
--   Sign      the square of a rounded difference, with no sign left
--   Mono      squares and sums keep the order of what is not negative
--   Box       the box bound is never above the d2 of a point in the box
--   Order     `le` is a total order, antisymmetric as data
--   Prune     `lt` beside `le`; what a walk may pass over
--   Corner    the far corner is never below the d2 of a point in the box
--   Tight     the bound and the corner are each the d2 of a place in the box
--   Same      d2 is the same either way
--   Squares   what d2 gives
--   TotalKey  the order of the keys is totalOrder
pub mod Finite
pub mod Sign
pub mod Mono
pub mod Box
pub mod Order
pub mod Prune
pub mod Corner
pub mod Tight
pub mod Same
pub mod Squares
pub mod TotalKey
