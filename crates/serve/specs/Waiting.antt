-- The bytes that wait in a buffer.
--   held used have bytes   those of the places used..have
--   longest_record         no record is longer: its kind, and a body of 24 bytes at most
--   Good n used have       of a buffer of n bytes: used lies in have, and that in the buffer, which has
--                          room for a whole record
use Rattle.std.specs.Prelude.{ℕ, ◌-◌, ◌≤◌, List, take, drop}

abbrev pub held : ℕ → ℕ → List ℕ → List ℕ
held used have bytes = take (have - used) (drop used bytes)

abbrev pub longest_record : ℕ
longest_record = 25

pub record Good (n used have : ℕ) : Type 0 where
  pub used_in : used ≤ have
  pub have_in : have ≤ n
  pub room : longest_record ≤ n
