-- Which words are used, and what they fill (02, U3).
--
--   Filled q n words == the words fill n elements where n of them are usable: with masks below q, by the words that are used and no
--                       other
use Rattle.std.specs.Prelude.{◌≡◌, true, List, ℕ, ◌-◌, ◌≤◌, length, get_or, take}
use Rattle.algebra.specs.Lists.{AllBelow}
use Rattle.masks.specs.Drawing.{usable, kept, drawn, used}

pub record Filled (q n : ℕ) (words : List ℕ) : Type 0 where
  -- "or 0 when no element is wanted"
  pub none : n ≡ 0 → used q n words ≡ 0
  -- "skipped ones counted, up to and including the one that filled the last element"
  pub last : 1 ≤ n → n ≤ length (kept q words)
      → (1 ≤ used q n words) × (used q n words ≤ length words) × (usable q (get_or words (used q n words - 1) 0) ≡ true)
  pub front : n ≤ length (kept q words) → kept q (take (used q n words) words) ≡ drawn q n words
  pub masks : n ≤ length (kept q words) → (length (drawn q n words) ≡ n) × AllBelow q (drawn q n words)
