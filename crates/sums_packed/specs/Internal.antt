-- Two rows of small numbers as one, and the halves of the sums that are made of it.
-- A list reads as 0 past its end.
--
--   radix                   == what the second number of a pair is multiplied by: 127 products of numbers below 257 sum to less
--   pair a b                == a and b as one number, in 32 bits
--   packed rows out         == the pairs of two rows, the halves of a list, as many as have room; the rest of the output as it was
--   half upper n            == the second number of the pair n, or the first
--   halves upper sums       == the same of each sum
use Rattle.std.specs.Prelude.{Bool, cond, List, ◌++◌, ℕ, ◌+◌, ◌*◌, ◌/◌, ◌%◌, ◌^◌, min, length, get_or, drop}
use Rattle.algebra.specs.Lists.{tab}

abbrev pub radix : ℕ
radix = 2 ^ 23

abbrev pub pair : ℕ → ℕ → ℕ
pair a b = (a + radix * b) % 2 ^ 32

unfoldable pub packed : List ℕ → List ℕ → List ℕ
packed rows out =
    let second = length rows / 2 in
    let n = min second (length out) in
    tab (λ k. pair (get_or rows k 0) (get_or rows (second + k) 0)) n ++ drop n out

abbrev pub half : Bool → ℕ → ℕ
half upper n = cond upper (n / radix) (n % radix)

unfoldable pub halves : Bool → List ℕ → List ℕ
halves upper sums = tab (λ j. half upper (get_or sums j 0)) (length sums)
