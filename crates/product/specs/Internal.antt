-- The shares of a call that no test refuses, and how many rows of their product are made at once.
--
--   Multiplicable q s a b room == the elements are below q, the lengths are those of the sizes s, and no block is too large; the
--                                 output has room for so many elements
--   AtOnce q inner count == count rows of A's share can be: one always, two where their elements are few and small enough to pack
use Rattle.std.specs.Prelude.{◌≡◌, List, ℕ, ◌*◌, ◌≤◌, length}
use Rattle.algebra.specs.Lists.{AllBelow}
use Rattle.refusal.specs.Limits.{most_elements}
use Rattle.product.specs.declared.Sizes.{Sizes}

pub record Multiplicable (q : ℕ) (s : Sizes) (a b : List ℕ) (room : ℕ) : Type 0 where
  pub below_a : AllBelow q a
  pub below_b : AllBelow q b
  pub length_a : length a ≡ s.rows * s.inner
  pub length_out : room ≡ s.rows * s.columns
  pub few : s.inner ≤ most_elements
  pub thin : s.columns ≤ most_elements
  pub block_a : s.rows * s.inner ≤ most_elements
  pub block_c : s.rows * s.columns ≤ most_elements

pub record AtOnce (q inner count : ℕ) : Type 0 where
  pub some : 1 ≤ count
  pub few : count ≤ 2
  pub room : 2 ≤ count → (q ≤ 257) × (inner ≤ 127)
