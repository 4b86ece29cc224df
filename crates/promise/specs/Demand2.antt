-- Demand 2 (00): "Shares, number of answers needed, products and the decoded table equal the published formulas over the prime
-- field; a written message reads back to its fields, and every message that is read is the one that writing those fields gives."
-- It is said of what the calls leave and tell where they are carried out, element by element; i, j, k and v count from 0.
--
--   Modulo q rows columns f xs == xs is the matrix of so many rows and columns whose element at i, j is f i j modulo q
--   Needed job                 == K is one more than the largest sum of exponents in the layout that is used; no layout has a smaller
--                                 one, and none of a lower number the same
--   Decoded job points heard store table == the table is read off the polynomials that pass through the answers used
--   Demand2                    == the demand
use Rattle.std.specs.Prelude.{◌≡◌, true, List, ℕ, ◌+◌, ◌*◌, ◌%◌, ◌<◌, ◌≤◌, length, get_or, take}
use Rattle.algebra.specs.Lists.{entry, AllBelow}
use Rattle.algebra.specs.Modular.{⟨◌⟩◌≈◌}
use Rattle.algebra.specs.Polynomials.{ev}
use Rattle.refusal.specs.Chain.{first}
use Rattle.field.specs.Modulus.{modulus}
use Rattle.layout.specs.declared.Layout.{Layout}
use Rattle.layout.specs.Exponents.{exponents, number}
use Rattle.layout.specs.Sound.{Threshold}
use Rattle.plan.specs.declared.Job.{Job}
use Rattle.plan.specs.Planning.{prime, parameters, block_rows, block_columns, layout_of, needed_of, plan_tests}
use Rattle.share_side.specs.declared.Matrix.{Matrix}
use Rattle.share_side.specs.Sides.{side}
use Rattle.share.specs.Sharing.{share_entry, point, share_tests, share_after}
use Rattle.product.specs.Product.{product_entry, product_tests, product_after}
use Rattle.message_bytes.specs.Bytes.{elements_of}
use Rattle.message_header.specs.Header.{header_of, element_count}
use Rattle.message.specs.Format.{elements, message_tests}
use Rattle.mukerihe.specs.Host.{host_tests, host_after}
use Rattle.mukerihe.specs.Answer.{pair_header, host_answer_tests, host_answer_after}
use Rattle.message.specs.RoundTrips.{RoundTrips}
use Rattle.arrival_heard.specs.Heard.{is_heard}
use Rattle.decode.specs.Decoding.{answer_entry, chosen, table_length, decode_tests, table_after}

pub record Modulo (q rows columns : ℕ) (f : ℕ → ℕ → ℕ) (xs : List ℕ) : Type 0 where
  pub whole : length xs ≡ rows * columns
  pub each : (i j : ℕ) → i < rows → j < columns → entry columns xs i j ≡ f i j % q

pub record Needed (job : Job) : Type 0 where
  pub threshold : Threshold (parameters job) (exponents (layout_of job) (parameters job))
  pub smallest : (l : Layout) → needed_of job ≤ (exponents l (parameters job)).needed
  pub at_a_tie : (l : Layout) → (exponents l (parameters job)).needed ≡ needed_of job → number (layout_of job) ≤ number l

-- the polynomial of the elements at i, v of the answers used, those of the K lowest-numbered hosts heard, has K coefficients, which
-- are elements
pub record Decoded (job : Job) (points : List ℕ) (heard : ℕ) (store table : List ℕ) : Type 0 where
  pub used : length (chosen job heard) ≡ needed_of job
  pub used_heard : (c : ℕ) → c < needed_of job → is_heard heard (get_or (chosen job heard) c 0) ≡ true
  pub polynomial : ℕ → ℕ → List ℕ
  pub degree : (i v : ℕ) → length (polynomial i v) ≡ needed_of job
  pub elements : (i v : ℕ) → AllBelow (prime job) (polynomial i v)
  -- it passes through every answer used
  pub through : (i v c : ℕ) → c < needed_of job
      → let h = get_or (chosen job heard) c 0 in ⟨ prime job ⟩ ev (polynomial i v) (get_or points h 0) ≈ answer_entry job store h i v
  -- and it is the only one
  pub only : (i v : ℕ) (cs : List ℕ) → length cs ≤ needed_of job
      → ((c : ℕ) → c < needed_of job → let h = get_or (chosen job heard) c 0 in
      ⟨ prime job ⟩ answer_entry job store h i v ≈ ev cs (get_or points h 0))
      → (e : ℕ) → e < needed_of job → get_or (polynomial i v) e 0 ≡ get_or cs e 0 % prime job
  -- "Table block C(k,j) is the coefficient at" its place
  pub whole : length table ≡ table_length job
  pub placed : (k j i v : ℕ) → k < job.m → j < job.n → i < block_rows job → v < block_columns job
      → entry job.r table (k * block_rows job + i) (j * block_columns job + v)
      ≡ get_or (polynomial i v) ((exponents (layout_of job) (parameters job)).place k j) 0

pub record Demand2 : Type 0 where
  -- "A share is the sum of blocks and masks, each times the point to its exponent, mod q."
  pub share : (m : Matrix) (job : Job) (points : List ℕ) (host : ℕ) (xs ms out : List ℕ)
      → first (share_tests m job points host xs ms (length out)) ≡ 0
      → let s = side m job in
      Modulo (prime job) s.block_rows s.block_columns
      (share_entry (exponents (layout_of job) (parameters job)) s (point points host) xs ms)
      (share_after m job points host xs ms out)
  -- "K is the number of answers needed."
  pub needed : (job : Job) (points : List ℕ) → first (plan_tests job points) ≡ 0 → Needed job
  -- "An answer is A share times B share."
  pub product : (n rows inner columns : ℕ) (a b out : List ℕ) → first (product_tests n rows inner columns a b (length out)) ≡ 0
      → Modulo (modulus n) rows columns (product_entry inner columns a b) (product_after n rows inner columns a b out)
  pub host : (n rows inner columns : ℕ) (a b out : List ℕ) → first (host_tests n rows inner columns a b (length out)) ≡ 0
      → Modulo (modulus n) rows columns (product_entry inner columns (elements_of (rows * inner) a) (elements_of (inner * columns) b))
      (elements_of (rows * columns) (host_after n rows inner columns a b out))
  -- as many bytes of the output as the answer has are a message that is read; a byte is below 256
  pub answer : (a b out : List ℕ) → AllBelow 256 a → first (host_answer_tests a b (length out)) ≡ 0
      → let g = header_of a in let h = header_of b in
      let sent = take (16 + 4 * element_count (pair_header g h)) (host_answer_after a b out) in
      (first (message_tests sent) ≡ 0) × (header_of sent ≡ pair_header g h)
      × Modulo (modulus g.modulus) g.rows h.columns (product_entry g.columns h.columns (elements a) (elements b)) (elements sent)
  -- "Decoding interpolates the answers of the K lowest-numbered hosts heard, and places the C(k,j) as the table."
  pub table : (job : Job) (points : List ℕ) (heard : ℕ) (store table : List ℕ)
      → first (decode_tests job points heard store (length table)) ≡ 0
      → Decoded job points heard store (table_after job points heard store table)
  -- "a written message reads back to its fields, and every message that is read is the one that writing those fields gives"
  pub messages : RoundTrips
