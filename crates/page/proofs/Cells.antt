-- A cell of 11 columns, its first six columns and its last five apart.
--
--   short_cell           a number of at most five digits, behind spaces
--   long_cell            a larger one: its last five digits, behind the others
use mathlib.Core.Path.{◌≡◌, sym, ap, ap₂, ◌∙◌}
use mathlib.Core.List.{List, ◌++◌, append_assoc}
use Prim.Native.Nat.{ℕ, ◌+◌, ◌-◌, ◌/◌, ◌^◌, ◌<◌, ◌≤◌}
use native.Mathlib.Omega.{arith}
use lib.ListN.{length, length-append}
use Rattle.algebra.proofs.Stacks.{tab_more}
use Rattle.text.specs.Decimal.{decimal}
use Rattle.text.specs.Internal.{last_digits}
use Rattle.text.proofs.Decimals.{decimal_short, decimal_last, length_last_digits}
use Rattle.page.specs.Page.{spaces, cell}

-- spaces behind spaces
spaces_more : (a b : ℕ) → spaces a ++ spaces b ≡ spaces (a + b)
unfolding spaces
spaces_more a b = sym (tab_more (λ i. 32) a b)

pub short_cell : (n : ℕ) → n < 100000 → spaces 6 ++ cell 5 n ≡ cell 11 n
unfolding cell
short_cell n h =
    let few = decimal_short n h in
    let left : 6 + (5 - length (decimal n)) ≡ 11 - length (decimal n) = omega arith in
    sym (append_assoc (spaces 6) (spaces (5 - length (decimal n))) (decimal n))
    ∙ ap (λ (xs : List ℕ). xs ++ decimal n) (spaces_more 6 (5 - length (decimal n)) ∙ ap spaces left)

pub long_cell : (n : ℕ) → 100000 ≤ n → n < 2 ^ 32 → cell 6 (n / 100000) ++ last_digits 5 n ≡ cell 11 n
unfolding cell
long_cell n b h =
    let first = decimal (n / 100000) in
    let is : decimal n ≡ first ++ last_digits 5 n = decimal_last 5 n b (omega arith) in
    let left : 6 - length first ≡ 11 - length (decimal n) = omega (arith, ap length is, length-append first (last_digits 5 n), length_last_digits 5 n) in
    append_assoc (spaces (6 - length first)) first (last_digits 5 n)
    ∙ ap₂ (λ (k : ℕ) (xs : List ℕ). spaces k ++ xs) left (sym is)
