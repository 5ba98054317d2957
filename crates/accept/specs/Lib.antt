-- What the contracts of `accept` cite. `Answer` is the promise; `Inner` is what its inner functions promise one another.
pub mod Answer
pub mod Inner
