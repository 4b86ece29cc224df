-- The plan lister (01, "The plan lister"; 02, U7).
--
--   value n, values ns          == a number in decimal after a space, and numbers so
--   line label ns               == a line: its label, then its values
--   side_line label blocks masks == the line of a side: the exponents of its blocks, a bar, then those of its masks
--   number_lines hosts plan      == the lines of q, layout, N and K
--   a_line, b_line, c_line         == the lines of A, of B and of C
--   plan_text hosts plan         == the seven lines of a plan
--   refused_text n               == the line of a refusal
--   line_table ns                == the table of the ten numbers of a line
--   reply_text hosts planned     == the text of what planning returns
--   reply table                 == what is printed for a table, with the points 1..N
--   listing input               == what is printed for an input: 26 comes before all others
--   listing_room                 == the bytes in which every listing has room
use Rattle.std.specs.Prelude.{cond, List, [], ◌∷◌, ◌++◌, ℕ, suc, get_or, Result, Ok, Err}
use Rattle.algebra.specs.Lists.{tab, grid}
use Rattle.refusal.specs.declared.Refusal.{Refusal}
use Rattle.refusal.specs.Numbers.{number as refusal_number}
use Rattle.field.specs.Modulus.{prime}
use Rattle.layout.specs.declared.Parameters.{Parameters}
use Rattle.layout.specs.declared.Layout.{Layout}
use Rattle.layout.specs.Exponents.{exponents, number, term}
use Rattle.plan.specs.declared.Table.{Table}
use Rattle.plan.specs.declared.Plan.{Plan}
use Rattle.plan.specs.Planning.{planned, table_job}
use Rattle.text.specs.Ascii.{ascii}
use Rattle.text.specs.Decimal.{decimal}
use Rattle.lister_line.specs.Line.{line_of}
use Rattle.layout.specs.declared.Series.TheVariants.{BlocksA, MasksA, BlocksB, MasksB, Places}

unfoldable pub value : ℕ → List ℕ
value n = ascii " " ++ decimal n

unfoldable pub values : List ℕ → List ℕ
values [] = []
values (n ∷ ns) = value n ++ values ns

unfoldable pub line : List ℕ → List ℕ → List ℕ
line label ns = label ++ (values ns ++ ascii "\n")

unfoldable pub side_line : List ℕ → List ℕ → List ℕ → List ℕ
side_line label blocks masks = label ++ (values blocks ++ (ascii " |" ++ (values masks ++ ascii "\n")))

-- q; layout; N; K
unfoldable pub number_lines : ℕ → Plan → List ℕ
number_lines hosts plan =
    line (ascii "MODULUS") (prime plan.modulus ∷ [])
    ++ (line (ascii "LAYOUT") (number plan.layout ∷ [])
    ++ (line (ascii "HOSTS") (hosts ∷ [])
    ++ line (ascii "NEEDED") (plan.needed ∷ [])))

-- the exponents of A's blocks row by row, a bar, then those of its masks
unfoldable pub a_line : Layout → Parameters → List ℕ
a_line layout g =
    let e = exponents layout g in
    side_line (ascii "A") (grid (term e BlocksA) g.m g.p) (tab (term e MasksA 0) g.xa)

-- the same for B
unfoldable pub b_line : Layout → Parameters → List ℕ
b_line layout g =
    let e = exponents layout g in
    side_line (ascii "B") (grid (term e BlocksB) g.p g.n) (tab (term e MasksB 0) g.xb)

-- the places of C row by row
unfoldable pub c_line : Layout → Parameters → List ℕ
c_line layout g = line (ascii "C") (grid (term (exponents layout g) Places) g.m g.n)

unfoldable pub plan_text : ℕ → Plan → List ℕ
plan_text hosts plan =
    number_lines hosts plan
    ++ (a_line plan.layout plan.parameters
    ++ (b_line plan.layout plan.parameters
    ++ c_line plan.layout plan.parameters))

unfoldable pub refused_text : ℕ → List ℕ
refused_text n = line (ascii "REFUSED") (n ∷ [])

-- the lister knows no job number: it is 0
unfoldable pub line_table : List ℕ → Table
line_table ns = record {
  modulus = get_or ns 0 0;
  t = get_or ns 1 0;
  s = get_or ns 2 0;
  r = get_or ns 3 0;
  m = get_or ns 4 0;
  p = get_or ns 5 0;
  n = get_or ns 6 0;
  xa = get_or ns 7 0;
  xb = get_or ns 8 0;
  hosts = get_or ns 9 0;
  number = 0;
}

unfoldable pub reply_text : ℕ → Result Plan Refusal → List ℕ
reply_text hosts (Ok plan) = plan_text hosts plan
reply_text hosts (Err r) = refused_text (refusal_number r)

-- "the lister knows no window" (02, U7)
unfoldable pub reply : Table → List ℕ
reply table = reply_text table.hosts (planned (table_job table) (tab suc table.hosts))

unfoldable pub listing : List ℕ → List ℕ
listing input = let l = line_of input in cond l.ok (reply (line_table l.numbers)) (refused_text 26)

abbrev pub listing_room : ℕ
listing_room = 4096
