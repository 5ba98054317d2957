-- One outcome per input, for each function of the C interface: the returned number, the number in the cell, and every buffer
-- that the entry's own law says is one. After a build, and so after labels, index order inside a leaf and centres are free.
--   flats_one            where two promises allow one answer only, it is given as the same two numbers
--   checks_one, nears_one, k_nears_one, within-one, within-indices-one
--   builds_one, labels-one  the two numbers, and the buffers as the entries' laws have them
-- A slice or a cell of floats holds values of an f64 (`Held`, `fits`), as every one does. Assumes nothing.
use mathlib.Core.Path.{◌≡◌, sym, ap, subst, ◌∙◌}
use mathlib.Core.Logic.{◌⊎◌}
use mathlib.Core.List.{List}
use Prim.Native.Nat.{ℕ}
use lib.Dec.{T}
use lib.ListN.{length}
use lib.Ieee.{Float, binary64, of_bits, fits}
use Rattle.distance.specs.declared.Coord.{Coord}
use Rattle.tree.specs.Accepted.{Tree}
use Rattle.accept.proofs.Decides as check
use Rattle.refusal.specs.Numbers as code
use Rattle.refusal.proofs.Same as same
use Rattle.build.specs.Agree as build
use Rattle.build.proofs.Once as build-once
use Rattle.dbscan.specs.Outcome as label
use Rattle.dbscan.proofs.Once as label-once
use Rattle.nearest.specs.declared.Nearest.{Nearest}
use Rattle.nearest.specs.declared.Nearest.TheVariants.{Hit, Empty, Refused}
use Rattle.nearest.specs.Nearest.{told}
use Rattle.nearest.proofs.Promise.{Fits, answers_unique}
use Rattle.search.proofs.Written.{Held}
use Rattle.search.proofs.Answered as search
use Rattle.radius.specs.Within.{reply}
use Rattle.radius.proofs.Unique.{answered_unique, with_distances_unique}
use Rattle.capi.specs.Flat.{Flat, cell, Checks, Nears, Builds, KNears, Within, WithinIndices, Labels}

pub flats_one : {A : Type 0} {P Q : A → Type 0} {f g : A → ℕ} {number second number' second' : ℕ}
    → ((a b : A) → P a → Q b → a ≡ b) → Flat P f g number second → Flat Q f g number' second' → (number ≡ number') × (second ≡ second')
flats_one {f = f} {g} one r s =
    let e = one r.answer s.answer r.promised s.promised in
    (r.number_is ∙ ap f e ∙ sym s.number_is, r.second_is ∙ ap g e ∙ sym s.second_is)

pub checks_one : {t : Tree} {number detail number' detail' : ℕ} → Checks t number detail → Checks t number' detail' → (number ≡ number') × (detail ≡ detail')
checks_one {t} r s = flats_one (check.answers_unique t) r s

-- a hit's distance is the one in the cell
answer-fits : (a : Nearest) (old distance : Float) → distance ≡ cell (told a).number (of_bits binary64 0) (told a).distances old → T (fits binary64 distance) → Fits a
answer-fits (Hit i d) old distance e f = subst (λ (x : Float). T (fits binary64 x)) e f
answer-fits Empty old distance e f = tt
answer-fits (Refused n) old distance e f = tt

pub nears_one : {t : Tree} {q : Coord} {index₀ : ℕ} {distance₀ : Float} {number count index number' count' index' : ℕ} {distance distance' : Float}
    → T (fits binary64 distance) → T (fits binary64 distance')
    → Nears t q index₀ distance₀ number count index distance → Nears t q index₀ distance₀ number' count' index' distance'
    → ((number ≡ number') × (count ≡ count')) × (index ≡ index') × (distance ≡ distance')
nears_one {t} {q} {index₀} {distance₀} {distance = distance} {distance' = distance'} f g r s =
    let a = r.answer in
    let b = s.answer in
    let e : a ≡ b = answers_unique t q a b (answer-fits a distance₀ distance r.promised.distance_is f)
    (answer-fits b distance₀ distance' s.promised.distance_is g) r.promised.answers s.promised.answers in (
      (r.number_is ∙ ap (λ (z : Nearest). (told z).number) e ∙ sym s.number_is, r.second_is ∙ ap (λ (z : Nearest). length (told z).indices) e ∙ sym s.second_is),
      r.promised.index_is ∙ ap (λ (z : Nearest). cell (told z).number 0 (told z).indices index₀) e ∙ sym s.promised.index_is,
      r.promised.distance_is ∙ ap (λ (z : Nearest). cell (told z).number (of_bits binary64 0) (told z).distances distance₀) e ∙ sym s.promised.distance_is,
    )

pub k_nears_one : (t : Tree) (q : Coord) (k : ℕ) {is₀ is js : List ℕ} {ds₀ ds es : List Float} {number count number' count' : ℕ} → Held ds → Held es
    → KNears t q k is₀ ds₀ number count is ds → KNears t q k is₀ ds₀ number' count' js es
    → ((number ≡ number') × (count ≡ count')) × (is ≡ js) × (ds ≡ es)
k_nears_one t q k f g r s =
    let one = search.answers_unique r.promised s.promised f g in
    (flats_one (λ a b p w. (search.answers_unique p w f g).0) r s, one.1, one.2)

pub within-one : (t : Tree) (q : Coord) (radius : Float) {is₀ is js : List ℕ} {ds₀ ds es : List Float} {number count number' count' : ℕ} → Held ds → Held es
    → Within t q radius is₀ ds₀ number count is ds → Within t q radius is₀ ds₀ number' count' js es
    → ((number ≡ number') × (count ≡ count')) × (is ≡ js) × (ds ≡ es)
within-one t q radius {is₀} {is} {js} {ds₀} {ds} {es} f g r s =
    let one = with_distances_unique t.points q (reply t q radius) is₀ ds₀ r.answer s.answer is js ds es f g r.promised s.promised in (
      flats_one (λ a b p w. (with_distances_unique t.points q (reply t q radius) is₀ ds₀ a b is js ds es f g p w).same_front.same_answer) r s,
      one.same_front.same_indices,
      one.same_distances,
    )

pub within-indices-one : (t : Tree) (q : Coord) (radius : Float) {is₀ is js : List ℕ} {number count number' count' : ℕ}
    → WithinIndices t q radius is₀ number count is → WithinIndices t q radius is₀ number' count' js
    → ((number ≡ number') × (count ≡ count')) × (is ≡ js)
within-indices-one t q radius {is₀} {is} {js} r s = (
  flats_one (λ a b p w. (answered_unique (reply t q radius) (length is₀) is₀ a b is js p w).same_answer) r s,
  (answered_unique (reply t q radius) (length is₀) is₀ r.answer s.answer is js r.promised s.promised).same_indices,
)

pub builds_one : {leaf_size : ℕ} {t₀ t u : Tree} {number detail number' detail' : ℕ} → build.Held t₀.points
    → Builds leaf_size t₀ number detail t → Builds leaf_size t₀ number' detail' u
    → ((number ≡ number') × (detail ≡ detail')) × ((t ≡ u) ⊎ build.Agree leaf_size t u)
builds_one {leaf_size} {t₀} {t} {u} h r s = (
  flats_one (λ a b p q. same.told-one a b (build-once.outcome-one leaf_size t₀ (code.told a) (code.told b) t u p q)) r s,
  build-once.outcome_agree leaf_size t₀ (code.told r.answer) (code.told s.answer) t u h r.promised s.promised,
)

pub labels-one : {epsilon : Float} {m : ℕ} {s₀ s u : label.Slices} {number detail number' detail' : ℕ} → build.Held s₀.tree.points
    → Labels epsilon m s₀ number detail s → Labels epsilon m s₀ number' detail' u
    → ((number ≡ number') × (detail ≡ detail')) × (s.labels ≡ u.labels) × (s.work ≡ u.work) × ((s.tree ≡ u.tree) ⊎ build.Agree label.leaf_size s.tree u.tree)
labels-one {epsilon} {m} {s₀} {s} {u} h r w =
    let one = label-once.outcome-one epsilon m s₀ (code.done r.answer) (code.done w.answer) s u h r.promised w.promised in (
      flats_one (λ a b p q. same.done-one a b (label-once.outcome-one epsilon m s₀ (code.done a) (code.done b) s u h p q).told_is) r w,
      one.labels_are,
      one.work_is,
      one.tree_is,
    )
