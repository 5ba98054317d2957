-- Laws of the radius query. Its users cite Scan (the answer is the plain scan's), Unique (one outcome per input) and OwnHits
-- (what a hit is over any tree); the others serve the proofs of its functions.
pub mod Collecting
pub mod Measuring
pub mod Answers
pub mod Scan
pub mod Unique
pub mod OwnHits
