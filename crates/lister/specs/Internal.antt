-- A listing in its buffer, as a fact of the buffer before and after; and the lines of a plan by its strides.
--
--   Lists before text after end    == where a listing's buffer has room for the text, `after` is `before` with the text at its
--                                     front, and `end` is the text's length; in any case `end` does not leave the buffer
--   side_text line s                == the line of a side, by the strides s
--   places_text s rows columns      == the line of C, by the strides s
use Rattle.std.specs.Prelude.{◌≡◌, List, [], ◌∷◌, ◌++◌, ℕ, ◌≤◌, length, drop}
use Rattle.algebra.specs.Lists.{tab, grid}
use Rattle.layout.specs.declared.Strides.{Strides}
use Rattle.layout.specs.declared.Series.TheVariants.{Places}
use Rattle.layout.specs.Internal.{exponent_by}
use Rattle.text.specs.Ascii.{ascii}
use Rattle.lister.specs.declared.SideLine.{SideLine}
use Rattle.lister.specs.Listing.{line, side_line, listing_room}

pub record Lists (before text after : List ℕ) (end : ℕ) : Type 0 where
  pub within : end ≤ length after
  pub is : length text ≤ listing_room → after ≡ text ++ drop (length text) before
  pub long : length text ≤ listing_room → end ≡ length text

unfoldable pub side_text : SideLine → Strides → List ℕ
side_text l s =
    let blocks = grid (exponent_by s l.blocks) l.grid_rows l.grid_columns in
    side_line (l.label ∷ []) blocks (tab (exponent_by s l.masks 0) l.mask_count)

unfoldable pub places_text : Strides → ℕ → ℕ → List ℕ
places_text s rows columns = line (ascii "C") (grid (exponent_by s Places) rows columns)
