-- Demand 2 (00): what the calls leave equals the published formulas.
--
--   modulo_grid   a grid of remainders is such a matrix
--   needed        K of an accepted job
--   decoded       the decoded table, and the polynomials that it is read off
--   demand_2      the demand holds
use mathlib.Core.Path.{◌≡◌, refl, sym, ap, ap₂, ◌∙◌}
use mathlib.Core.List.{List, map}
use Prim.Native.Nat.{ℕ, ◌+◌, ◌*◌, ◌/◌, ◌%◌, ◌^◌, ◌<◌, ◌≤◌}
use native.Mathlib.Nat.{mod-lt}
use native.Mathlib.Omega.{arith}
use lib.Arith.{digits_div, digits_mod}
use lib.ListN.{length, get_or, take, drop, length-map}
use lib.Seq.{take_at}
use Rattle.algebra.specs.Lists.{tab, grid, entry, AllBelow}
use Rattle.algebra.specs.Modular.{⟨◌⟩◌≈◌}
use Rattle.algebra.specs.Polynomials.{ev, coefficient}
use Rattle.algebra.proofs.Orders.{row_end}
use Rattle.algebra.proofs.Lists.{length_tab, get_or_tab, get_d_map, below_tab}
use Rattle.algebra.proofs.Grids.{length_grid, entry_grid, below_grid}
use Rattle.algebra.proofs.Modular.{≈_trans, ≈_of_eq}
use Rattle.algebra.proofs.Interpolation.{interpolates, recover}
use Rattle.refusal.specs.Chain.{first}
use Rattle.refusal.proofs.Chains.{first_clear, unless_done}
use Rattle.field.specs.Modulus.{modulus}
use Rattle.field.proofs.Moduli.{known_number}
use Rattle.layout.specs.Exponents.{exponents}
use Rattle.layout.proofs.Soundness.{threshold}
use Rattle.layout.proofs.Choice.{chosen as layout-chosen}
use Rattle.plan.specs.declared.Job.{Job}
use Rattle.plan.specs.Planning.{prime, parameters, block_rows, block_columns, layout_of, needed_of, plan_tests}
use Rattle.plan.proofs.Facts.{Facts, facts}
use Rattle.plan.proofs.Sizes.{sizes, job_cut, place_below}
use Rattle.share.specs.Sharing.{host_share, share_of, share_after}
use Rattle.product.specs.Product.{product_entry, product_of, product_after}
use Rattle.message_bytes.specs.Bytes.{bytes_of, elements_of}
use Rattle.message_bytes.proofs.Bytes.{elements_of_bytes}
use Rattle.mukerihe.specs.Host.{host_tests, host_product, host_after}
use Rattle.message_bytes.proofs.Words.{number_of_four}
use Rattle.message_header.specs.declared.Header.{Header}
use Rattle.message_header.specs.Header.{header_of, element_count}
use Rattle.message.specs.Format.{elements, message_tests}
use Rattle.message.specs.RoundTrips.{ReadsBack}
use Rattle.message.proofs.Fields.{readable}
use Rattle.message.proofs.RoundTrips.{reads_back, round_trips}
use Rattle.mukerihe.specs.Answer.{pair_header, pair_tests, host_answer, host_answer_tests, host_answer_after}
use Rattle.mukerihe.proofs.Answers.{answer_written, answer_parts}
use Rattle.decode.specs.Decoding.{answer_entry, chosen, table_entry, blocks, table_of, table_length, decode_tests, table_after}
use Rattle.decode.proofs.Outcomes.{known, told, chosen_are}
use Rattle.decode.proofs.Chosen.{Chosen}
use Rattle.promise.specs.Demand2.{Modulo, Needed, Decoded, Demand2}
use Rattle.promise.proofs.Exact.{blocks_grid}

pub modulo_grid : (q rows columns : ℕ) (f : ℕ → ℕ → ℕ) {xs : List ℕ} → xs ≡ grid (λ i j. f i j % q) rows columns → Modulo q rows columns f xs
modulo_grid q rows columns f is = record {
  whole = ap length is ∙ length_grid (λ i j. f i j % q) rows columns;
  each = λ i j a b. ap (λ (xs : List ℕ). entry columns xs i j) is ∙ entry_grid (λ i j. f i j % q) rows columns i j a b;
}

-- ---- the decoded table

module _ (f : ℕ → ℕ → ℕ → ℕ → ℕ) (m rows n columns : ℕ) where
  -- a table that is made block by block, by row and column
  by_row : ℕ → ℕ → ℕ
  by_row u w = f (u / rows) (w / columns) (u % rows) (w % columns)

  in_block : (k j i v : ℕ) → i < rows → v < columns → by_row (k * rows + i) (j * columns + v) ≡ f k j i v
  unfolding by_row
  in_block k j i v hi hv =
      ap₂ (λ (a b : ℕ). f a b ((k * rows + i) % rows) ((j * columns + v) % columns)) (digits_div k hi) (digits_div j hv)
      ∙ ap₂ (λ (a b : ℕ). f k j a b) (digits_mod k hi) (digits_mod j hv)

  blocks_whole : blocks f m rows n columns ≡ grid by_row (m * rows) (n * columns)
  blocks_whole = blocks_grid f by_row m rows n columns (λ k j i v hk hj hi hv. sym (in_block k j i v hi hv))

  entry_blocks : (k j i v : ℕ) → k < m → j < n → i < rows → v < columns
      → entry (n * columns) (blocks f m rows n columns) (k * rows + i) (j * columns + v) ≡ f k j i v
  entry_blocks k j i v hk hj hi hv =
      ap (λ (xs : List ℕ). entry (n * columns) xs (k * rows + i) (j * columns + v)) blocks_whole
      ∙ entry_grid by_row (m * rows) (n * columns) (k * rows + i) (j * columns + v) (omega (arith, row_end rows hk)) (omega (arith, row_end columns hj))
      ∙ in_block k j i v hi hv

module _ (job : Job) (points : List ℕ) (heard : ℕ) (store table : List ℕ) (clear : first (decode_tests job points heard store (length table)) ≡ 0) where
  f : Facts job points
  f = known job points heard store (length table) clear

  c : Chosen job points heard
  c = chosen_are job points heard store (length table) f (told job points heard store (length table) clear)

  -- the points of the hosts used, and the elements at i, v of their answers
  xs : List ℕ
  xs = map (λ h. get_or points h 0) (chosen job heard)

  ys : ℕ → ℕ → List ℕ
  ys i v = map (λ h. answer_entry job store h i v) (chosen job heard)

  count : length xs ≡ needed_of job
  unfolding xs
  count = length-map (chosen job heard) (λ h. get_or points h 0) ∙ c.count

  point_is : (n : ℕ) → n < needed_of job → get_or xs n 0 ≡ get_or points (get_or (chosen job heard) n 0) 0
  unfolding xs
  point_is n l = get_d_map (λ h. get_or points h 0) (chosen job heard) n (omega (arith, c.count))

  value_is : (i v n : ℕ) → n < needed_of job → get_or (ys i v) n 0 ≡ answer_entry job store (get_or (chosen job heard) n 0) i v
  unfolding ys
  value_is i v n l = get_d_map (λ h. answer_entry job store h i v) (chosen job heard) n (omega (arith, c.count))

  positive : 0 < prime job
  positive = omega (arith, f.fits.known.is_prime.above_one)

  through_points : (i v : ℕ) → List ℕ
  through_points i v = tab (coefficient (prime job) xs (ys i v)) (needed_of job)

  passes : (i v n : ℕ) → n < needed_of job
      → ⟨ prime job ⟩ ev (through_points i v) (get_or points (get_or (chosen job heard) n 0) 0) ≈ answer_entry job store (get_or (chosen job heard) n 0) i v
  unfolding through_points xs
  passes i v n l =
      ≈_trans
      (≈_of_eq (ap₂ (λ (k x : ℕ). ev (tab (coefficient (prime job) xs (ys i v)) k) x) (sym count) (sym (point_is n l))))
      (≈_trans (interpolates f.fits.known.is_prime xs (ys i v) c.below c.distinct n (omega (arith, count))) (≈_of_eq (value_is i v n l)))

  alone : (i v : ℕ) (cs : List ℕ) → length cs ≤ needed_of job
      → ((n : ℕ) → n < needed_of job → ⟨ prime job ⟩ answer_entry job store (get_or (chosen job heard) n 0) i v ≈ ev cs (get_or points (get_or (chosen job heard) n 0) 0))
      → (e : ℕ) → e < needed_of job → get_or (through_points i v) e 0 ≡ get_or cs e 0 % prime job
  unfolding through_points xs
  alone i v cs short at e l =
      get_or_tab (coefficient (prime job) xs (ys i v)) (needed_of job) e 0 l
      ∙ recover f.fits.known.is_prime xs (ys i v) c.below c.distinct cs (omega (arith, count))
      (λ n h.
      let inside : n < needed_of job = omega (arith, count) in
      ≈_trans (≈_of_eq (value_is i v n inside)) (≈_trans (at n inside) (≈_of_eq (ap (ev cs) (sym (point_is n inside))))))
      e

  table_is : table_after job points heard store table ≡ table_of job points heard store
  unfolding table_after
  table_is = unless_done _ _ table clear

  at_place : (k j i v : ℕ) → k < job.m → j < job.n → i < block_rows job → v < block_columns job
      → entry job.r (table_after job points heard store table) (k * block_rows job + i) (j * block_columns job + v)
      ≡ get_or (through_points i v) ((exponents (layout_of job) (parameters job)).place k j) 0
  unfolding table_of table_entry through_points xs ys
  at_place k j i v hk hj hi hv =
      ap₂ (λ (n : ℕ) (ws : List ℕ). entry n ws (k * block_rows job + i) (j * block_columns job + v)) (sizes job f.fits).r table_is
      ∙ entry_blocks (table_entry job points heard store) job.m (block_rows job) job.n (block_columns job) k j i v hk hj hi hv
      ∙ sym (get_or_tab (coefficient (prime job) xs (ys i v)) (needed_of job) ((exponents (layout_of job) (parameters job)).place k j) 0 (place_below job f.fits k j hk hj))

  whole_table : length (table_after job points heard store table) ≡ table_length job
  unfolding table_of table_length
  whole_table =
      let z = sizes job f.fits in
      ap length (table_is ∙ blocks_whole (table_entry job points heard store) job.m (block_rows job) job.n (block_columns job))
      ∙ length_grid _ (job.m * block_rows job) (job.n * block_columns job)
      ∙ ap₂ ◌*◌ (sym z.t) (sym z.r)

  coefficient_below : (i v e : ℕ) → coefficient (prime job) xs (ys i v) e < prime job
  unfolding coefficient
  coefficient_below i v e = mod-lt _ positive

  decoded : Decoded job points heard store (table_after job points heard store table)
  unfolding through_points
  decoded = record {
    used = c.count;
    used_heard = λ n l. c.are_heard n (omega (arith, c.count));
    polynomial = through_points;
    degree = λ i v. length_tab _ (needed_of job);
    elements = λ i v. below_tab (prime job) _ (needed_of job) (coefficient_below i v);
    through = passes;
    only = alone;
    whole = whole_table;
    placed = at_place;
  }

-- ---- K

needed : (job : Job) (points : List ℕ) → first (plan_tests job points) ≡ 0 → Needed job
unfolding layout_of needed_of parameters
needed job points e =
    let f = (facts job points e).fits in
    let best = layout-chosen (parameters job) in
    record {
      threshold = threshold (layout_of job) (parameters job) (job_cut job f) f.ranged.xa.low f.ranged.xb.low;
      smallest = best.smallest;
      at_a_tie = best.lowest;
    }

-- ---- the product on bytes

module _ (n rows inner columns : ℕ) (a b out : List ℕ) (clear : first (host_tests n rows inner columns a b (length out)) ≡ 0) where
  product : List ℕ
  product = product_of (modulus n) rows inner columns (elements_of (rows * inner) a) (elements_of (inner * columns) b)

  product_small : AllBelow (2 ^ 32) product
  unfolding product product_of host_tests
  product_small =
      let k = known_number n (first_clear _ 0 _ clear).0 in
      let positive : 0 < modulus n = omega (arith, k.is_prime.above_one) in
      below_grid _ (2 ^ 32) rows columns (λ i j. omega (arith, k.small, mod-lt (product_entry inner columns (elements_of (rows * inner) a) (elements_of (inner * columns) b) i j) positive))

  on_bytes : elements_of (rows * columns) (host_after n rows inner columns a b out) ≡ product
  unfolding host_after host_product product product_of
  on_bytes =
      ap₂ elements_of (sym (length_grid _ rows columns)) (unless_done _ (bytes_of product) out clear) ∙ elements_of_bytes product product_small

-- ---- a host's whole part

-- the number that four bytes of a message tell
number_small : (message : List ℕ) → AllBelow 256 message → 16 ≤ length message → (header_of message).number < 2 ^ 32
unfolding header_of
number_small message bytes long =
    omega (arith, number_of_four message 12, bytes 12 (omega arith), bytes 13 (omega arith), bytes 14 (omega arith), bytes 15 (omega arith))

module _ (a b out : List ℕ) (bytes : AllBelow 256 a) (clear : first (host_answer_tests a b (length out)) ≡ 0) where
  -- the headers of the two messages
  abbrev g : Header
  g = header_of a

  abbrev h : Header
  h = header_of b

  parts : (first (message_tests a) ≡ 0) × (first (message_tests b) ≡ 0) × (first (pair_tests g h (length out)) ≡ 0)
  parts = answer_parts a b (length out) clear

  back : ReadsBack (pair_header g h) (product_of (modulus g.modulus) g.rows g.columns h.columns (elements a) (elements b))
  unfolding pair_header
  back =
      reads_back _ _ _ (number_small a bytes (readable a parts.0).head.long)
      (answer_written a b parts.0 parts.1 (length out) parts.2 _ refl)

  -- the answer stands at the front of the output
  front : take (16 + 4 * element_count (pair_header g h)) (host_answer_after a b out) ≡ host_answer a b
  unfolding host_answer_after host_answer
  front =
      let n = 16 + 4 * element_count (pair_header g h) in
      ap (take n) (unless_done _ _ out clear) ∙ take_at (host_answer a b) (drop (length (host_answer a b)) out) n back.whole

  answer : let sent = take (16 + 4 * element_count (pair_header g h)) (host_answer_after a b out) in
      (first (message_tests sent) ≡ 0) × (header_of sent ≡ pair_header g h)
      × Modulo (modulus g.modulus) g.rows h.columns (product_entry g.columns h.columns (elements a) (elements b)) (elements sent)
  unfolding host_answer product_of
  answer = (
    ap (λ (m : List ℕ). first (message_tests m)) front ∙ back.accepted,
    ap header_of front ∙ back.same_header,
    modulo_grid _ _ _ _ (ap elements front ∙ back.same_elements),
  )

pub demand_2 : Demand2
unfolding share_after host_share share_of product_after product_of product
demand_2 = record {
  share = λ m job points host xs ms out clear. modulo_grid _ _ _ _ (unless_done _ _ out clear);
  needed = needed;
  product = λ n rows inner columns a b out clear. modulo_grid _ _ _ _ (unless_done _ _ out clear);
  host = λ n rows inner columns a b out clear. modulo_grid _ _ _ _ (on_bytes n rows inner columns a b out clear);
  answer = answer;
  table = decoded;
  messages = round_trips;
}
