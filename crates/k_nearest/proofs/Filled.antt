-- What the two slices hold once the heap in them is sorted and its roots are taken: the hits, in order, and then what
-- stood there. Assumes nothing.
use Rattle.std.proofs.Common.{false, ◌≡◌, refl, sym, ap, ◌∙◌, subst, List, [], ◌∷◌, ◌++◌, Result, Ok, Err, ℕ, length, drop, arith, append-nil}
use lib.ListN.{drop_of_length-le}
use lib.Seq.{take_all}
use lib.Ieee.{Float}
use lib.Dec.{T}
use Rattle.std.specs.Result.{is_err}
use Rattle.distance.specs.declared.Coord.{Coord}
use Rattle.tree.specs.Accepted.{Tree}
use Rattle.search.specs.Order.{before}
use Rattle.search.specs.Rules.{came_to}
use Rattle.search.specs.Walk.{outcome, walk_all}
use Rattle.search.specs.declared.Damage.{Damage}
use Rattle.search.specs.Result.{Roots, Rooted, Written, indices_of, squares_of}
use Rattle.search.specs.Answer.{Answer, Answers, hits}
use Rattle.search.specs.declared.Best.{Best}
use Rattle.heap.specs.Heap.{heap_sort, pairs, blank}
use Rattle.heap.proofs.Pairs.{pairs-size}
use Rattle.heap.proofs.Each.{heap_sort-size}
use Rattle.k_nearest.specs.Query.{sorted, found, holding}

indices-own : (is : List ℕ) (ds : List Float) → length ds ≡ length is → indices_of (pairs is ds) ≡ is
indices-own [] ds h = refl
indices-own (i ∷ is) [] h = absurd (omega arith)
indices-own (i ∷ is) (d ∷ ds) h = ap (λ (l : List ℕ). i ∷ l) (indices-own is ds (omega arith))

squares-own : (is : List ℕ) (ds : List Float) → length ds ≡ length is → squares_of (pairs is ds) ≡ ds
squares-own [] [] h = refl
squares-own [] (d ∷ ds) h = absurd (omega arith)
squares-own (i ∷ is) [] h = absurd (omega arith)
squares-own (i ∷ is) (d ∷ ds) h = ap (λ (l : List Float). d ∷ l) (squares-own is ds (omega arith))

-- the walk leaves n in is and ds, in front of the lent slices; the sort makes them js and es, and the roots gs of es
module _ (n : ℕ) (is₀ is js : List ℕ) (ds₀ ds es gs : List Float) (size-i : length is ≡ n) (size-d : length ds ≡ n) (long-i : length js ≡ n) (long-d : length es ≡ n)
    (S : pairs js es ≡ heap_sort before blank n (pairs is ds)) (R : Rooted n es gs) where
  abbrev found_hits : List Best
  found_hits = sorted (pairs is ds)

  count : length (pairs is ds) ≡ n
  count = pairs-size is ds (omega arith) ∙ size-i

  size : length found_hits ≡ n
  size = heap_sort-size before blank (length (pairs is ds)) (pairs is ds) ∙ count

  front : pairs js es ≡ found_hits
  front = S ∙ ap (λ (m : ℕ). heap_sort before blank m (pairs is ds)) (sym count)

  filled : Written found_hits is₀ (js ++ drop n is₀) ds₀ (gs ++ drop n ds₀)
  filled = record {
    roots = R.roots;
    each_root = subst (λ (l : List Float). Roots l R.roots) (take_all n es (omega arith) ∙ sym (squares-own js es (omega arith)) ∙ ap squares_of front) R.each_root;
    indices_are =
        ap (λ (l : List ℕ). l ++ drop n is₀) (sym (indices-own js es (omega arith)) ∙ ap indices_of front)
        ∙ ap (λ (m : ℕ). indices_of found_hits ++ drop m is₀) (sym size);
    distances_are =
        ap (λ (l : List Float). l ++ drop n ds₀) (R.are ∙ ap (λ (l : List Float). R.roots ++ l) (drop_of_length-le es {i = n} (omega arith)) ∙ append-nil R.roots)
        ∙ ap (λ (m : ℕ). R.roots ++ drop m ds₀) (sym size);
  }

  pub finished : (a : Answer) → hits found_hits ≡ a → Answers a is₀ ds₀ (Ok n) (js ++ drop n is₀) (gs ++ drop n ds₀)
  finished a e = subst (λ (x : Answer). Answers x is₀ ds₀ (Ok n) (js ++ drop n is₀) (gs ++ drop n ds₀)) e (record { kind = refl; tells = ap (λ (m : ℕ). record { number = 0; detail = m }) (sym size); leaves = filled })

-- a walk that met no damage found what it holds
pub found_is : (t : Tree) (q : Coord) (k j : ℕ) (r : Result Unit Damage) (l : List Best) → is_err r ≡ false → j ≡ k
    → came_to r l ≡ outcome (walk_all t (holding j t.points q) []) → hits (sorted l) ≡ found (outcome (walk_all t (holding k t.points q) []))
found_is t q k j (Err d) l h e w = absurd (subst T h tt)
found_is t q k j (Ok u) l h e w = ap found (w ∙ ap (λ (n : ℕ). outcome (walk_all t (holding n t.points q) [])) e)
