-- The walk that keeps its hits in a slice goes hand in hand with the definition's: its hits, in the order in which they were
-- met, sort to the definition's, and stand in front of the slice where there is room for them. So a first walk over no slice
-- counts the hits, and a second one over a slice of just as many leaves them in it. Assumes nothing.
use mathlib.Core.Path.{◌≡◌, refl, sym, ap, ◌∙◌, subst}
use mathlib.Core.Bool.{Bool, true, false, cond}
use mathlib.Core.List.{List, [], ◌∷◌, ◌++◌, append-nil}
use Prim.Native.Nat.{ℕ, ◌+◌, ◌≤◌, ◌<◌}
use native.Mathlib.Numerals.{add-one}
use native.Mathlib.Omega.{arith}
use lib.Dec.{ltb}
use lib.Ieee.{Float, le}
use lib.ListN.{length, set, take, drop, length-append, length-set}
use lib.Seq.{take-set-le, take-suc-set, take_at, drop_at}
use borrow.Author.Tests.{lt-ltb, le-ltb}
use Rattle.std.proofs.Common.{Result, Ok, Err}
use Rattle.distance.specs.declared.Coord.{Coord}
use Rattle.refusal.specs.declared.Refusal.TheVariants.{NoRoom, DamagedTree}
use Rattle.tree.specs.Accepted.{Tree, count}
use Rattle.rising.specs.Sort.{insert, sort}
use Rattle.rising.proofs.Sorting.{sort-more, sort-length}
use Rattle.search.specs.Walk.{Walk, damage, done, Got, broken, got, outcome, walk, walk_all}
use Rattle.search.specs.Order.{point}
use Rattle.search.specs.Refusal.{told}
use Rattle.search.specs.Result.{zeros}
use Rattle.search.specs.declared.Damage.{Damage}
use Rattle.search.proofs.Alike.{Like, Alike, walk_alike}
use Rattle.radius.specs.Within.{within, finds, reply_of, Answered}
use Rattle.radius.specs.Keeping.{Held, held, put, keep, keeping, kept}

-- ---- what a put leaves of a slice
module _ (room n i : ℕ) (out : List ℕ) where
  put-long : length (put room n out i) ≡ length out
  put-long = go (ltb n room)
    where
      go : (b : Bool) → length (cond b (set out n i) out) ≡ length out
      go true = length-set out n i
      go false = refl

  put-before : take n (put room n out i) ≡ take n out
  put-before = go (ltb n room)
    where
      go : (b : Bool) → take n (cond b (set out n i) out) ≡ take n out
      go true = take-set-le n out n i (omega arith)
      go false = refl

  put-there : n < room → room ≤ length out → take (n + 1) (put room n out i) ≡ take n out ++ (i ∷ [])
  put-there h k = rw (lt-ltb n room h, add-one) (take-suc-set out n i (omega arith))

-- ---- hand in hand
-- order: the hits as they were met; where there is room for them the slice begins with them
pub record Tied (room : ℕ) (h : Held) (z : List ℕ) : Type 0 where
  pub order : List ℕ
  pub counted : h.count ≡ length order
  pub stored : h.count ≤ room → take h.count h.out ≡ order
  pub long : length h.out ≡ room
  pub sorted : sort order ≡ z

tied_none : (out : List ℕ) → Tied (length out) (held 0 out) []
tied_none out = record { order = []; counted = refl; stored = λ h. refl; long = refl; sorted = refl }

keep_tied : (room : ℕ) (hit : Bool) (h : Held) (z : List ℕ) (i : ℕ) → Tied room h z → Tied room (keep room hit h i) (cond hit (insert i z) z)
keep_tied room false h z i T = record {
  order = T.order;
  counted = T.counted;
  stored = λ l. put-before room h.count i h.out ∙ T.stored l;
  long = put-long room h.count i h.out ∙ T.long;
  sorted = T.sorted;
}
keep_tied room true h z i T = record {
  order = T.order ++ (i ∷ []);
  counted = ap (λ (n : ℕ). n + 1) T.counted ∙ sym (length-append T.order (i ∷ []));
  stored = λ l. put-there room h.count i h.out (omega arith) (omega (arith, T.long)) ∙ ap (λ (l : List ℕ). l ++ (i ∷ [])) (T.stored (omega arith));
  long = put-long room h.count i h.out ∙ T.long;
  sorted = sort-more T.order i ∙ ap (insert i) T.sorted;
}

keeping_like : (room : ℕ) (points : List Float) (q : Coord) (r2 : Float) (n : ℕ) → Like n (keeping room points q r2) (within points q r2) (Tied room)
keeping_like room points q r2 n = record {
  same_skip = λ s z b h. refl;
  same_first = λ l r. refl;
  both_next = λ s z i h o. keep_tied room (le (point points q i).d2 r2) s z i h;
  same_whole = λ b. refl;
  both_add = λ s z i h o. keep_tied room true s z i h;
}

-- ---- what two walks come to, side by side
abbrev pub Meets : ℕ → Got Held → Got (List ℕ) → Type 0
Meets room broken broken = Unit
Meets room broken (got z) = ⊥
Meets room (got h) broken = ⊥
Meets room (got h) (got z) = Tied room h z

alike_meets : (room : ℕ) (w : Walk Held) (u : Walk (List ℕ)) → Alike (Tied room) w u → Meets room (outcome w) (outcome u)
alike_meets room damage damage h = tt
alike_meets room (done s n d) (done z m e) h = h
alike_meets room damage (done z m e) h = elim h [ ]
alike_meets room (done s n d) damage h = elim h [ ]

module _ (t : Tree) (q : Coord) (r2 : Float) where
  abbrev u : Got (List ℕ)
  u = outcome (walk_all t (within t.points q r2) [])

  walk_meets : (out : List ℕ) (g : Got Held) → g ≡ outcome (walk_all t (keeping (length out) t.points q r2) (held 0 out)) → Meets (length out) g u
  walk_meets out g W =
      subst (λ (x : Got Held). Meets (length out) x u) (sym W)
      (alike_meets (length out) (walk_all t (keeping (length out) t.points q r2) (held 0 out)) (walk_all t (within t.points q r2) []) (go (ltb (length t.indices) (count t))))
    where
      go : (b : Bool) → Alike (Tied (length out)) (cond b damage (walk t (keeping (length out) t.points q r2) (count t) 0 0 (count t) (held 0 out))) (cond b damage (walk t (within t.points q r2) (count t) 0 0 (count t) []))
      go true = tt
      go false = walk_alike (Tied (length out)) t (keeping (length out) t.points q r2) (within t.points q r2) (keeping_like (length out) t.points q r2 (count t)) (count t) 0 0 (count t) (held 0 out) [] (tied_none out)

-- ---- the answers
answered-damage : (u : Got (List ℕ)) (room : ℕ) (is₀ is : List ℕ) → u ≡ broken → is ≡ zeros is₀ → Answered (reply_of u) room is₀ (Err DamagedTree) is
answered-damage u room is₀ is e z = rw e (record { told_is = refl; indices_are = z })

finds-short : (z is₀ : List ℕ) (room c : ℕ) → c ≡ length z → room < c → Answered (finds z) room is₀ (Err (NoRoom c)) is₀
finds-short z is₀ room c e h =
    let b : ltb room (length z) ≡ true = lt-ltb room (length z) (omega arith) in
    record {
      told_is = ap (λ (n : ℕ). told (Err (NoRoom n))) e ∙ ap (λ (x : Bool). record { number = cond x 8 0; detail = length z }) (sym b);
      indices_are = ap (λ (x : Bool). cond x is₀ (z ++ drop (length z) is₀)) (sym b);
    }

finds-room : (z is₀ is : List ℕ) (room c : ℕ) → c ≡ length z → c ≤ room → is ≡ z ++ drop (length z) is₀ → Answered (finds z) room is₀ (Ok c) is
finds-room z is₀ is room c e h i =
    let b : ltb room (length z) ≡ false = le-ltb room (length z) (omega arith) in
    record {
      told_is = ap (λ (n : ℕ). told (Ok n)) e ∙ ap (λ (x : Bool). record { number = cond x 8 0; detail = length z }) (sym b);
      indices_are = i ∙ ap (λ (x : Bool). cond x is₀ (z ++ drop (length z) is₀)) (sym b);
    }

meets_damage : (room : ℕ) (g : Got Held) (u : Got (List ℕ)) → Meets room g u → g ≡ broken → u ≡ broken
meets_damage room broken broken h e = refl
meets_damage room (got x) (got z) h e = let w : ◌≡◌ {A = ℕ} 0 1 = cc in absurd (omega arith)
meets_damage room broken (got z) h e = elim h [ ]
meets_damage room (got x) broken h e = elim h [ ]

kept-damaged : (r : Result ℕ Damage) (out : List ℕ) (d : Damage) → r ≡ Err d → kept r out ≡ broken
kept-damaged r out d h = ap (λ (x : Result ℕ Damage). kept x out) h

kept-count : (r : Result ℕ Damage) (out : List ℕ) (n : ℕ) → r ≡ Ok n → kept r out ≡ got (held n out)
kept-count r out n h = ap (λ (x : Result ℕ Damage). kept x out) h

-- ---- the two walks as they are made: the first over no slice, the second over one of as many entries as the first met
module _ (t : Tree) (q : Coord) (r2 : Float) (r : Result ℕ Damage) (none : List ℕ) (W : kept r none ≡ outcome (walk_all t (keeping 0 t.points q r2) (held 0 []))) where
  abbrev v : Got (List ℕ)
  v = outcome (walk_all t (within t.points q r2) [])

  first : (g : Got Held) → kept r none ≡ g → Meets 0 g v
  first g e = walk_meets t q r2 [] g (sym e ∙ W)

  pub first-damaged : (d : Damage) → r ≡ Err d → (room : ℕ) (is₀ is : List ℕ) → is ≡ zeros is₀ → Answered (reply_of v) room is₀ (Err DamagedTree) is
  first-damaged d e room is₀ is z =
      answered-damage v room is₀ is (meets_damage 0 broken v (first broken (kept-damaged r none d e)) refl) z

  module _ (c : ℕ) (e : r ≡ Ok c) where
    met : Meets 0 (got (held c none)) v
    met = first (got (held c none)) (kept-count r none c e)

    -- there is not room for all
    pub first_short : (room : ℕ) (is₀ : List ℕ) → room < c → Answered (reply_of v) room is₀ (Err (NoRoom c)) is₀
    first_short room is₀ h = go v met
      where
        go : (u : Got (List ℕ)) → Meets 0 (got (held c none)) u → Answered (reply_of u) room is₀ (Err (NoRoom c)) is₀
        go (got z) m = finds-short z is₀ room c (m.counted ∙ sym (sort-length m.order) ∙ ap length m.sorted) h
        go broken m = elim m [ ]

    -- there is: the second walk, and the sort
    module _ (front : List ℕ) (long : length front ≡ c) (s : Result ℕ Damage) (is₁ : List ℕ) (U : kept s is₁ ≡ outcome (walk_all t (keeping (length front) t.points q r2) (held 0 front))) where
      second : (g : Got Held) → kept s is₁ ≡ g → Meets (length front) g v
      second g h = walk_meets t q r2 front g (sym h ∙ U)

      pub second_whole : (d : Damage) → s ≡ Err d → ⊥
      second_whole d h = go v met (second broken (kept-damaged s is₁ d h))
        where
          go : (u : Got (List ℕ)) → Meets 0 (got (held c none)) u → Meets (length front) broken u → ⊥
          go broken m n = m
          go (got z) m n = n

      module _ (n : ℕ) (h : s ≡ Ok n) where
        met_again : Meets (length front) (got (held n is₁)) v
        met_again = second (got (held n is₁)) (kept-count s is₁ n h)

        pub second_many : n ≡ c
        second_many = go v met met_again
          where
            go : (u : Got (List ℕ)) → Meets 0 (got (held c none)) u → Meets (length front) (got (held n is₁)) u → n ≡ c
            go (got z) a b = omega (arith, a.counted, b.counted, sort-length a.order, sort-length b.order, ap length a.sorted, ap length b.sorted)
            go broken a b = elim a [ ]

        pub second_long : length is₁ ≡ n
        second_long = go v met_again
          where
            go : (u : Got (List ℕ)) → Meets (length front) (got (held n is₁)) u → length is₁ ≡ n
            go (got z) b = b.long ∙ long ∙ sym second_many
            go broken b = elim b [ ]

        -- the entries behind the front stay, and the front is sorted
        pub second_hits : (room : ℕ) (is₀ is₂ : List ℕ) → c ≤ room → is₂ ≡ sort (take n (is₁ ++ drop c is₀)) → Answered (reply_of v) room is₀ (Ok n) (is₂ ++ drop n (is₁ ++ drop c is₀))
        second_hits room is₀ is₂ fits S = go v met_again
          where
            go : (u : Got (List ℕ)) → Meets (length front) (got (held n is₁)) u → Answered (reply_of u) room is₀ (Ok n) (is₂ ++ drop n (is₁ ++ drop c is₀))
            go (got z) b =
                let e : n ≡ length z = b.counted ∙ sym (sort-length b.order) ∙ ap length b.sorted in
                let all : is₁ ≡ b.order = sym (take_at is₁ [] n second_long) ∙ ap (take n) (append-nil is₁) ∙ b.stored (omega (arith, second_many, long)) in
                let sorted : is₂ ≡ z = S ∙ ap sort (take_at is₁ (drop c is₀) n second_long ∙ all) ∙ b.sorted in
                finds-room z is₀ _ room n e (omega (arith, second_many))
                (ap (λ (l : List ℕ). l ++ drop n (is₁ ++ drop c is₀)) sorted
                ∙ ap (λ (l : List ℕ). z ++ l) (drop_at is₁ (drop c is₀) n second_long)
                ∙ ap (λ (k : ℕ). z ++ drop k is₀) (sym second_many ∙ e))
            go broken b = elim b [ ]
