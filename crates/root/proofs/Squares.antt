-- The root of a * 2 ^ 52 to the nearest whole number, from the root of a, cut, and a division. With g * g + over ≡ a and
-- over * 2 ^ 25 ≡ q * g + u, the number s = g * 2 ^ 26 + q has s * s + u * 2 ^ 27 ≡ a * 2 ^ 52 + q * q. So s is not too large,
-- q * q being below it; and it is too small exactly where u * 2 ^ 27 is above q * q + s. Assumes nothing.
use mathlib.Core.Path.{◌≡◌, refl, sym}
use Prim.Native.Nat.{ℕ, zero, suc, ◌+◌, ◌-◌, ◌*◌, ◌/◌, ◌%◌, ◌≤◌, ◌<◌}
use native.Mathlib.Nat.{mul-le-mul, mul-le-mul_left, mul-le-mul_right, div-add-mod', mod-lt, lt_of_mul-lt-mul_right, not-le_of_lt, lt_of_not-le}
use native.Mathlib.Omega.{arith}
use Rattle.root.specs.Steps.{half, lead, CutRoot, Rounds}

-- ---- the two searches for the root, cut
pub some : (a g : ℕ) → a < g * g → 1 ≤ g
some a zero h = omega arith
some a (suc g) h = omega arith

pub fits : (g : ℕ) → g < 4 * half → g * g ≤ 16 * lead
fits g h = let l : g ≤ 4 * half = omega arith in mul-le-mul l l

pub square_above : (g : ℕ) → g ≤ g * g
square_above zero = omega arith
square_above (suc g) = omega arith

-- ---- the cut root of a number of 53 or 54 digits has 27
module _ (a g over : ℕ) (h : lead ≤ a) (k : a < 4 * lead - 1) (c : CutRoot a g over) where
  g_low : half ≤ g
  g_low = let l = lt_of_not-le (λ (l : suc g ≤ half). go (mul-le-mul l l)) in omega arith
    where
      go : suc g * suc g ≤ half * half → ⊥
      go l = omega (arith, c.equal, c.small)

  g_high : g < 2 * half
  g_high = lt_of_not-le (λ (l : 2 * half ≤ g). go (mul-le-mul l l))
    where
      go : 2 * half * (2 * half) ≤ g * g → ⊥
      go l = omega (arith, c.equal)

-- a has at most 54 digits and is even where it has 54, so the nearest whole number to the root is below 2 ^ 53
root-high : (n r : ℕ) → r * r < n + r → n ≤ (4 * lead - 2) * lead → r < 2 * lead
root-high n r h k = lt_of_not-le (λ (g : 2 * lead ≤ r). not-le_of_lt (lt_of_mul-lt-mul_right (2 * lead - 1) (go (mul-le-mul_right r g))) g)
  where
    go : 2 * lead * r ≤ r * r → r * (2 * lead - 1) < 2 * lead * (2 * lead - 1)
    go l = omega arith

-- ---- the digits below
pub record Digits (a g over q u : ℕ) : Type 0 where
  pub cut : CutRoot a g over
  pub equal : over * (half / 2) ≡ q * g + u
  pub under : u < g
  pub g_low : half ≤ g
  pub g_high : g < 2 * half
  pub q_high : q ≤ half
  pub q_square : q * q ≤ q * half

quotient : (g over q u : ℕ) → over ≤ 2 * g → over * (half / 2) ≡ q * g + u → 1 ≤ g → q ≤ half
quotient g over q u h e p = let l = lt_of_not-le (λ (l : half + 1 ≤ q). go (mul-le-mul_right g l)) in omega arith
  where
    go : (half + 1) * g ≤ q * g → ⊥
    go l = omega arith

pub digits : (a g over : ℕ) → lead ≤ a → a < 4 * lead - 1 → CutRoot a g over → Digits a g over (over * (half / 2) / g) (over * (half / 2) % g)
digits a g over h k c =
    let t = over * (half / 2) in
    let l = g_low a g over h k c in
    let p : 1 ≤ g = omega arith in
    let e = sym (div-add-mod' t g) in
    let b = quotient g over (t / g) (t % g) c.small e p in
    record { cut = c; equal = e; under = mod-lt t p; g_low = l; g_high = g_high a g over h k c; q_high = b; q_square = mul-le-mul_left (t / g) b }

difference : (a g over q u s : ℕ) → g * g + over ≡ a → over * (half / 2) ≡ q * g + u → s ≡ g * half + q → s * s + u * (2 * half) ≡ a * lead + q * q
difference a g over q u s d e f = rw f (omega arith)

-- what the difference gives, with n for a * 2 ^ 52 and m for q * q
here-above : (n s m w : ℕ) → s * s + w ≡ n + m → m < s → s * s < n + s
here-above n s m w d l = omega arith

here-below : (n s m w : ℕ) → s * s + w ≡ n + m → w ≤ m + s → n ≤ s * s + s
here-below n s m w d l = omega arith

next-above : (n s m w : ℕ) → s * s + w ≡ n + m → m + s < w → (s + 1) * (s + 1) < n + (s + 1)
next-above n s m w d l = omega arith

next-below : (n s m w : ℕ) → s * s + w ≡ n + m → w ≤ 2 * s → n ≤ (s + 1) * (s + 1) + (s + 1)
next-below n s m w d l = omega arith

-- the two answers
module _ (a g over q u : ℕ) (k : a < 4 * lead - 1) (d : Digits a g over q u) where
  abbrev s : ℕ
  s = g * half + q

  apart : s * s + u * (2 * half) ≡ a * lead + q * q
  apart = difference a g over q u s d.cut.equal d.equal refl

  pub rounds-here : u * (2 * half) ≤ q * q + (g * half + q) → Rounds (a * lead) (g * half + q)
  rounds-here l =
      let above = here-above (a * lead) s (q * q) (u * (2 * half)) apart (omega (arith, d.g_low, d.q_high, d.q_square)) in
      record {
        above = above;
        below = here-below (a * lead) s (q * q) (u * (2 * half)) apart l;
        low = omega (arith, d.g_low);
        high = root-high (a * lead) s above (omega (arith, k));
      }

  pub rounds-next : q * q + (g * half + q) < u * (2 * half) → Rounds (a * lead) (g * half + q + 1)
  rounds-next l =
      let above = next-above (a * lead) s (q * q) (u * (2 * half)) apart l in
      record {
        above = above;
        below = next-below (a * lead) s (q * q) (u * (2 * half)) apart (omega (arith, d.under));
        low = omega (arith, d.g_low);
        high = root-high (a * lead) (s + 1) above (omega (arith, k));
      }
