-- The lister's text always has room.
--
--   row_length, grid_length    each value takes at most six bytes
--   refused_room               the line of a refusal
--   plan_room                  the text of an accepted plan
--   room                       what is printed for any input
use mathlib.Core.Path.{◌≡◌, refl, ap}
use mathlib.Core.Bool.{Bool, true, false, cond}
use mathlib.Core.List.{List, [], ◌∷◌, ◌++◌}
use Prim.Native.Nat.{ℕ, zero, suc, ◌+◌, ◌*◌, ◌<◌, ◌≤◌}
use native.Mathlib.Nat.{mul-le-mul}
use native.Mathlib.Numerals.{add-one}
use native.Mathlib.Omega.{arith}
use lib.ListN.{length, length-append}
use Rattle.algebra.specs.Lists.{tab, grid}
use Rattle.std.proofs.Common.{Ok}
use Rattle.refusal.specs.Chain.{first, outcome, answered, refuse}
use Rattle.refusal.specs.Numbers.{number as refusal_number, refusal_of}
use Rattle.field.specs.Modulus.{prime}
use Rattle.layout.specs.declared.Parameters.{Parameters}
use Rattle.layout.specs.declared.Series.TheVariants.{BlocksA, MasksA, BlocksB, MasksB, Places}
use Rattle.layout.specs.Exponents.{Exponents, exponents, number, term}
use Rattle.layout.specs.Sound.{Cut, Sound}
use Rattle.layout.proofs.Soundness.{sound}
use Rattle.plan.specs.declared.Job.{Job}
use Rattle.plan.specs.declared.Table.{Table}
use Rattle.plan.specs.Planning.{parameters, modulus_of, layout_of, needed_of, plan_tests, plan_of, planned, table_job}
use Rattle.plan.proofs.Facts.{Fits, facts}
use Rattle.text.specs.Ascii.{ascii}
use Rattle.text.specs.Decimal.{decimal}
use Rattle.text.proofs.Decimals.{decimal_length, decimal_short}
use Rattle.lister_line.specs.Line.{line_of}
use Rattle.lister.specs.Listing.{value, values, line, side_line, number_lines, a_line, b_line, c_line, plan_text, refused_text, line_table, reply_text, reply, listing, listing_room}
use Rattle.lister.proofs.Lines.{row_more, grid_more, line_one}

value_length : (n : ℕ) → n < 100000 → length (value n) ≤ 6
unfolding value
value_length n h = omega (arith, length-append (ascii " ") (decimal n), decimal_short n h)

pub row_length : (f : ℕ → ℕ) (columns : ℕ) → ((j : ℕ) → j < columns → f j < 100000) → length (values (tab f columns)) ≤ 6 * columns
unfolding tab values
row_length f zero h = omega arith
row_length f (suc columns) h =
    omega (
      arith,
      rw add-one at (ap length (row_more f columns)),
      length-append (values (tab f columns)) (value (f columns)),
      row_length f columns (λ j l. h j (omega arith)),
      value_length (f columns) (h columns (omega arith)),
    )

pub grid_length : (f : ℕ → ℕ → ℕ) (rows columns : ℕ) → ((i j : ℕ) → i < rows → j < columns → f i j < 100000)
    → length (values (grid f rows columns)) ≤ 6 * (rows * columns)
unfolding grid values
grid_length f zero columns h = omega arith
grid_length f (suc rows) columns h =
    omega (
      arith,
      rw add-one at (ap length (grid_more f columns rows)),
      length-append (values (grid f rows columns)) (values (tab (f rows) columns)),
      grid_length f rows columns (λ i j a b. h i j (omega arith) b),
      row_length (f rows) columns (λ j l. h rows j (omega arith) l),
    )

-- a line of one number, which has at most ten digits
one_length : (label : List ℕ) (n : ℕ) → length (line label (n ∷ [])) ≤ length label + 12
unfolding value
one_length label n =
    omega (
      arith,
      ap length (line_one label n),
      length-append label (value n ++ ascii "\n"),
      length-append (value n) (ascii "\n"),
      length-append (ascii " ") (decimal n),
      decimal_length n,
    )

refused_room : (n : ℕ) → length (refused_text n) ≤ listing_room
unfolding refused_text
refused_room n = omega (arith, one_length (ascii "REFUSED") n)

-- ---- an accepted plan

-- eight by eight values
grid_room : (f : ℕ → ℕ → ℕ) (rows columns : ℕ) → rows ≤ 8 → columns ≤ 8 → ((i j : ℕ) → i < rows → j < columns → f i j < 100000)
    → length (values (grid f rows columns)) ≤ 384
grid_room f rows columns hr hc h = omega (arith, grid_length f rows columns h, mul-le-mul hr hc)

side_length : (label blocks masks : List ℕ) → length (side_line label blocks masks) ≡ length label + (length (values blocks) + (2 + (length (values masks) + 1)))
unfolding side_line
side_length label blocks masks =
    omega (
      arith,
      length-append label (values blocks ++ (ascii " |" ++ (values masks ++ ascii "\n"))),
      length-append (values blocks) (ascii " |" ++ (values masks ++ ascii "\n")),
      length-append (ascii " |") (values masks ++ ascii "\n"),
      length-append (values masks) (ascii "\n"),
    )

line_length : (label ns : List ℕ) → length (line label ns) ≡ length label + (length (values ns) + 1)
unfolding line
line_length label ns = omega (arith, length-append label (values ns ++ ascii "\n"), length-append (values ns) (ascii "\n"))

module _ (job : Job) (fits : Fits job) where
  g : Parameters
  g = parameters job

  e : Exponents
  e = exponents (layout_of job) g

  cut : Cut g
  unfolding g parameters
  cut = record { m = fits.ranged.m.low; p = fits.ranged.p.low; n = fits.ranged.n.low }

  s : Sound g e
  unfolding e
  s = sound (layout_of job) g cut

  few : e.needed ≤ 64
  unfolding e g needed_of
  few = omega (arith, fits.enough, fits.hosts_high)

  a_room : length (a_line (layout_of job) g) ≤ 500
  unfolding a_line g e parameters term
  a_room =
      omega (
        arith,
        side_length (ascii "A") (grid (term e BlocksA) job.m job.p) (tab (term e MasksA 0) job.xa),
        grid_room (term e BlocksA) job.m job.p fits.ranged.m.high fits.ranged.p.high
            (λ i j hi hj. omega (arith, s.bounded.below i j j 0 hi hj hj cut.n, few)),
        row_length (term e MasksA 0) job.xa (λ x hx. omega (arith, s.bounded.below_a x 0 0 hx cut.p cut.n, few)),
        fits.ranged.xa.high,
      )

  b_room : length (b_line (layout_of job) g) ≤ 500
  unfolding b_line g e parameters term
  b_room =
      omega (
        arith,
        side_length (ascii "B") (grid (term e BlocksB) job.p job.n) (tab (term e MasksB 0) job.xb),
        grid_room (term e BlocksB) job.p job.n fits.ranged.p.high fits.ranged.n.high
            (λ l j hl hj. omega (arith, s.bounded.below 0 l l j cut.m hl hl hj, few)),
        row_length (term e MasksB 0) job.xb (λ y hy. omega (arith, s.bounded.below_b 0 0 y cut.m cut.p hy, few)),
        fits.ranged.xb.high,
      )

  c_room : length (c_line (layout_of job) g) ≤ 400
  unfolding c_line g e parameters term
  c_room =
      omega (
        arith,
        line_length (ascii "C") (grid (term e Places) job.m job.n),
        grid_room (term e Places) job.m job.n fits.ranged.m.high fits.ranged.n.high
            (λ u v hu hv. omega (arith, s.meet u 0 v hu cut.p hv, s.bounded.below u 0 0 v hu cut.p cut.p hv, few)),
      )

  number_room : length (number_lines job.hosts (plan_of job)) ≤ 100
  unfolding number_lines plan_of
  number_room =
      let a = line (ascii "MODULUS") (prime (modulus_of job) ∷ []) in
      let b = line (ascii "LAYOUT") (number (layout_of job) ∷ []) in
      let c = line (ascii "HOSTS") (job.hosts ∷ []) in
      let d = line (ascii "NEEDED") (needed_of job ∷ []) in
      omega (
        arith,
        length-append a (b ++ (c ++ d)),
        length-append b (c ++ d),
        length-append c d,
        one_length (ascii "MODULUS") (prime (modulus_of job)),
        one_length (ascii "LAYOUT") (number (layout_of job)),
        one_length (ascii "HOSTS") job.hosts,
        one_length (ascii "NEEDED") (needed_of job),
      )

  plan_room : length (plan_text job.hosts (plan_of job)) ≤ listing_room
  unfolding plan_text plan_of g
  plan_room =
      let n = number_lines job.hosts (plan_of job) in
      let a = a_line (layout_of job) g in
      let b = b_line (layout_of job) g in
      let c = c_line (layout_of job) g in
      omega (arith, length-append n (a ++ (b ++ c)), length-append a (b ++ c), length-append b c, number_room, a_room, b_room, c_room)

reply_room : (table : Table) → length (reply table) ≤ listing_room
unfolding reply reply_text planned answered table_job outcome
reply_room table = go (first (plan_tests job (tab suc job.hosts))) refl
  where
    job : Job
    job = table_job table

    go : (n : ℕ) → first (plan_tests job (tab suc job.hosts)) ≡ n → length (reply_text job.hosts (outcome n (Ok (plan_of job)) refuse)) ≤ listing_room
    go zero e = plan_room job (facts job (tab suc job.hosts) e).fits
    go (suc n) e = refused_room (refusal_number (refusal_of (suc n)))

pub room : (input : List ℕ) → length (listing input) ≤ listing_room
unfolding listing
room input = go (line_of input).ok
  where
    go : (b : Bool) → length (cond b (reply (line_table (line_of input).numbers)) (refused_text 26)) ≤ listing_room
    go true = reply_room (line_table (line_of input).numbers)
    go false = refused_room 26
