-- The lines of a plan by its strides are those of its layout.
--
--   row_is, grid_is    the exponents of a row of a series, and of all
--   side_is            the line of a side
--   places_is          the line of C
use mathlib.Core.Path.{◌≡◌, ap, ap₂}
use mathlib.Core.List.{[], ◌∷◌}
use Prim.Native.Nat.{ℕ, ◌^◌, ◌<◌}
use native.Mathlib.Omega.{arith}
use Rattle.algebra.specs.Lists.{tab, grid}
use Rattle.algebra.proofs.Grids.{tab_cong, grid_cong}
use Rattle.layout.specs.declared.Parameters.{Parameters}
use Rattle.layout.specs.declared.Series.{Series}
use Rattle.layout.specs.declared.Series.TheVariants.{Places}
use Rattle.layout.specs.declared.Strides.{Strides}
use Rattle.layout.specs.Exponents.{Exponents, term}
use Rattle.layout.specs.Internal.{exponent_by, Follows}
use Rattle.layout.proofs.Nests.{exponent_is}
use Rattle.text.specs.Ascii.{ascii}
use Rattle.lister.specs.declared.SideLine.{SideLine}
use Rattle.lister.specs.Listing.{line, side_line}
use Rattle.lister.specs.Internal.{side_text, places_text}

module _ {s : Strides} {g : Parameters} {e : Exponents} (f : Follows s g e) where
  row_is : (series : Series) (i columns : ℕ) → columns < 2 ^ 8 → tab (exponent_by s series i) columns ≡ tab (term e series i) columns
  row_is series i columns h =
      tab_cong (exponent_by s series i) (term e series i) columns (λ j l. exponent_is f series i j (omega arith))

  grid_is : (series : Series) (rows columns : ℕ) → columns < 2 ^ 8 → grid (exponent_by s series) rows columns ≡ grid (term e series) rows columns
  grid_is series rows columns h =
      grid_cong (exponent_by s series) (term e series) rows columns (λ i j k l. exponent_is f series i j (omega arith))

  pub side_is : (l : SideLine) → l.grid_columns < 2 ^ 8 → l.mask_count < 2 ^ 8
      → side_text l s ≡ side_line (l.label ∷ []) (grid (term e l.blocks) l.grid_rows l.grid_columns) (tab (term e l.masks 0) l.mask_count)
  unfolding side_text
  side_is l h k =
      ap₂ (side_line (l.label ∷ [])) (grid_is l.blocks l.grid_rows l.grid_columns h) (row_is l.masks 0 l.mask_count k)

  pub places_is : (rows columns : ℕ) → columns < 2 ^ 8 → places_text s rows columns ≡ line (ascii "C") (grid (term e Places) rows columns)
  unfolding places_text
  places_is rows columns h = ap (line (ascii "C")) (grid_is Places rows columns h)
