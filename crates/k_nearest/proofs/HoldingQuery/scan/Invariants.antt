-- What is left to scan from here, with what is held here, comes to what was asked at the start.
use Rattle.std.proofs.Common.{◌≡◌, ◌≤◌, length, drop}
use Rattle.search.specs.Walk.{scan, outcome}
use Rattle.tree.specs.Accepted.{count}
use Rattle.k_nearest.specs.Query.{holding}
use Rattle.k_nearest.specs.Inner.{heap_of}
use Rattle.k_nearest.proofs.HoldingQuery.scan.Given as goal

abbrev pub invariant-loop-index : goal.invariant-loop-index
invariant-loop-index l = record {
  few : l.held ≤ length l.self.indices.now;
  long : length l.self.indices.now ≡ length l.fn.self.indices.now;
  same_i : l.self.indices.ghost_name ≡ l.fn.self.indices.ghost_name;
  same_d : l.self.d2s.ghost_name ≡ l.fn.self.d2s.ghost_name;
  rest : outcome (scan (count l.tree) (holding (length l.fn.self.indices.now) l.tree.points l.from).next 1 (heap_of l.fn.self.held l.fn.self.indices.now l.fn.self.d2s.now) l.part)
      ≡ outcome (scan (count l.tree) (holding (length l.fn.self.indices.now) l.tree.points l.from).next 1 (heap_of l.held l.self.indices.now l.self.d2s.now) (drop l.index-index l.part));
}
