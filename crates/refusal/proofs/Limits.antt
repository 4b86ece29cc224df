-- What the tests of limits tell.
--
--   Within most n          n is in 1..most
--   within_range               the test of such a number passes
--   within_both, within_all  two or three numbers are
--   blocks_fit             no block has over 4096 elements
use mathlib.Core.Path.{◌≡◌}
use mathlib.Core.Bool.{false, ◌||◌}
use Prim.Native.Nat.{ℕ, ◌*◌, ◌≤◌}
use lib.Dec.{ltb}
use borrow.Author.Tests.{ltb-false}
use Rattle.algebra.proofs.Tests.{or_left, or_right, or_all}
use Rattle.refusal.specs.Chain.{outside}
use Rattle.refusal.specs.Limits.{any_outside, over_block}
use Rattle.refusal.proofs.Chains.{inside_low, inside_high, inside}

pub record Within (most n : ℕ) : Type 0 where
  pub low : 1 ≤ n
  pub high : n ≤ most

pub within_range : {most n : ℕ} → Within most n → outside 1 most n ≡ false
within_range {most} {n} w = inside 1 most n w.low w.high

within : (most n : ℕ) → outside 1 most n ≡ false → Within most n
within most n e = record { low = inside_low 1 most n e; high = inside_high 1 most n e }

pub within_both : (most a b : ℕ) → (outside 1 most a || outside 1 most b) ≡ false → Within most a × Within most b
within_both most a b e =
    (within most a (or_left (outside 1 most a) (outside 1 most b) e), within most b (or_right (outside 1 most a) (outside 1 most b) e))

pub within_all : (most a b c : ℕ) → any_outside most a b c ≡ false → Within most a × Within most b × Within most c
unfolding any_outside
within_all most a b c e =
    let each = or_all (outside 1 most a) (outside 1 most b) (outside 1 most c) e in
    (within most a each.0, within most b each.1, within most c each.2)

pub blocks_fit : (rows inner columns : ℕ) → over_block rows inner columns ≡ false
    → (rows * inner ≤ 4096) × (inner * columns ≤ 4096) × (rows * columns ≤ 4096)
unfolding over_block
blocks_fit rows inner columns e =
    let each = or_all (ltb 4096 (rows * inner)) (ltb 4096 (inner * columns)) (ltb 4096 (rows * columns)) e in
    (ltb-false 4096 _ each.0, ltb-false 4096 _ each.1, ltb-false 4096 _ each.2)
