-- Positions in a text, by line and column.
--
-- A line ends at a line feed (10), at a carriage return (13), or at the two in this order, which are one line end.
--
--   paired before b                 == b is the line feed after a carriage return
--   moved before position b         == the position after b, where b stands at the position and `before` is the byte before it
--   position_from before position bs == the position after the bytes bs
--   position_of text at              == line and column of the byte at offset `at`, both counted from 1; at the text's length
--                                      and beyond, those of its end
use Rattle.std.specs.Prelude.{Bool, cond, ◌&&◌, List, [], ◌∷◌, ℕ, ◌+◌, eqb, take}
use Rattle.text_numbers.specs.declared.Position.{Position}
use Rattle.text_numbers.specs.Numbers.{ends_line}

unfoldable pub paired : ℕ → ℕ → Bool
paired before b = eqb before 13 && eqb b 10

-- The line feed after a carriage return moves nothing: the line has ended.
unfoldable pub moved : ℕ → Position → ℕ → Position
moved before position b =
    let lower : Position = record { line = position.line + 1; column = 1 } in
    let further : Position = record { line = position.line; column = position.column + 1 } in
    cond (paired before b) position (cond (ends_line b) lower further)

unfoldable pub position_from : ℕ → Position → List ℕ → Position
position_from before position [] = position
position_from before position (b ∷ bs) = position_from b (moved before position b) bs

unfoldable pub position_of : List ℕ → ℕ → Position
position_of text at = position_from 0 (record { line = 1; column = 1 }) (take at text)
