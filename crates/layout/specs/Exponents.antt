-- Exponents (01, "Exponents"; document 000, equations 16 to 22; 02, U2; document 001, lemma 2 and
-- corollary 1).
-- k, l, j and x count from 0 here, and from 1 on the sheet: what is k - 1 there is k here.
--
--   Exponents        == a layout as data: the exponents of A's blocks and masks, of B's, the places of C, and K
--   layout1, layout2 == the two layouts of the sheet
--   layout3          == the third (02, U2)
--   exponents        == the data of a layout
--   number           == its number on the sheet
--   better g a b     == of two layouts the one with the smaller K, at a tie the first
--   choice g         == the layout that is used
--   Chosen g l       == no layout has a smaller K than l, and none of a lower number the same
--   term e series i j == the exponent or place of a series at row i and column j
use Rattle.std.specs.Prelude.{◌≡◌, ℕ, ◌+◌, ◌-◌, ◌*◌, ◌≤◌, cond, nat_le}
use Rattle.layout.specs.declared.Parameters.{Parameters}
use Rattle.layout.specs.declared.Layout.{Layout}
use Rattle.layout.specs.declared.Layout.TheVariants.{First, Second, Third}
use Rattle.layout.specs.declared.Series.{Series}
use Rattle.layout.specs.declared.Series.TheVariants.{BlocksA, MasksA, BlocksB, MasksB, Places}

-- K, the number of answers needed, is `needed`: the recovery threshold.
pub record Exponents : Type 0 where
  pub block_a : ℕ → ℕ → ℕ
  pub mask_a : ℕ → ℕ
  pub block_b : ℕ → ℕ → ℕ
  pub mask_b : ℕ → ℕ
  pub place : ℕ → ℕ → ℕ
  pub needed : ℕ

-- D = np + X_B
unfoldable pub stride_d : Parameters → ℕ
stride_d g = g.n * g.p + g.xb

unfoldable pub layout1 : Parameters → Exponents
layout1 g = record {
  block_a = λ k l. k * stride_d g + l;
  mask_a = λ x. (g.m - 1) * stride_d g + g.n * g.p + x;
  block_b = λ l j. j * g.p + (g.p - 1 - l);
  mask_b = λ x. g.n * g.p + x;
  place = λ k j. k * stride_d g + ((j + 1) * g.p - 1);
  needed = (g.m + 1) * stride_d g + g.xa - g.xb - 1;
}

-- E = mp + X_A
unfoldable pub stride_e : Parameters → ℕ
stride_e g = g.m * g.p + g.xa

unfoldable pub layout2 : Parameters → Exponents
layout2 g = record {
  block_a = λ k l. k * g.p + l;
  mask_a = λ x. g.m * g.p + x;
  block_b = λ l j. j * stride_e g + (g.p - 1 - l);
  mask_b = λ x. (g.n - 1) * stride_e g + g.m * g.p + x;
  place = λ k j. j * stride_e g + ((k + 1) * g.p - 1);
  needed = (g.n + 1) * stride_e g + g.xb - g.xa - 1;
}

-- both sides' masks follow all places of C
unfoldable pub layout3 : Parameters → Exponents
layout3 g =
    let np = g.n * g.p in
    let mpn = g.m * np in
    record {
      block_a = λ k l. k * np + l;
      mask_a = λ x. mpn + x;
      block_b = λ l j. j * g.p + (g.p - 1 - l);
      mask_b = λ x. mpn + x;
      place = λ k j. k * np + ((j + 1) * g.p - 1);
      needed = 2 * mpn + g.xa + g.xb - 1;
    }

unfoldable pub exponents : Layout → Parameters → Exponents
exponents First = layout1
exponents Second = layout2
exponents Third = layout3

abbrev pub number : Layout → ℕ
number First = 1
number Second = 2
number Third = 3

unfoldable pub better : Parameters → Layout → Layout → Layout
better g a b = cond (nat_le (exponents a g).needed (exponents b g).needed) a b

unfoldable pub choice : Parameters → Layout
choice g = better g (better g First Second) Third

-- "The smallest K of the three wins, at a tie the lower layout number."
pub record Chosen (g : Parameters) (l : Layout) : Type 0 where
  pub smallest : (b : Layout) → (exponents l g).needed ≤ (exponents b g).needed
  pub lowest : (b : Layout) → (exponents b g).needed ≡ (exponents l g).needed → number l ≤ number b

-- a mask has a column alone
unfoldable pub term : Exponents → Series → ℕ → ℕ → ℕ
term e BlocksA i j = e.block_a i j
term e MasksA i j = e.mask_a j
term e BlocksB i j = e.block_b i j
term e MasksB i j = e.mask_b j
term e Places i j = e.place i j
