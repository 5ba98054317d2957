-- Laws of the thin entry. Its users cite Unique (one outcome per input); Records (what is set, and that there is room) serves
-- the proof of its function.
pub mod Records
pub mod Unique
