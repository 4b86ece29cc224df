-- Shares, products and messages of an accepted job are made: no call that makes them is refused.
--
--   side_rows, side_columns, side_block  the sizes of a side's blocks
--   share_length, share_below    a share fills its block, with elements below q
--   product-length, product-below  so does an answer
--   share_done         sharing is carried out
--   share_written      so is writing a share's message
--   product_done, product-written  the same of an answer
--   host_done          so is the product on bytes, of the payloads of both messages
--   answer_clear, answer_made  so is the host's whole part, of both messages
--   made               K and the messages of demand 3 are what these calls give
use mathlib.Core.Path.{◌≡◌, refl, sym, ap, ap₂, ◌∙◌}
use mathlib.Core.Bool.{not, ◌||◌}
use mathlib.Core.List.{List, ◌∷◌, ◌++◌}
use Prim.Native.Nat.{ℕ, suc, ◌+◌, ◌*◌, ◌<◌, ◌≤◌}
use native.Mathlib.Nat.{mod-lt}
use native.Mathlib.Omega.{arith}
use lib.ListN.{length, drop}
use lib.Seq.{drop_at}
use borrow.Author.Tests.{le-ltb}
use Rattle.algebra.specs.Lists.{AllBelow, all_below}
use Rattle.algebra.proofs.Tests.{alike}
use Rattle.algebra.proofs.Lists.{below_test}
use Rattle.algebra.proofs.Grids.{length_grid, below_grid}
use Rattle.refusal.specs.Chain.{Test, first}
use Rattle.field.specs.Modulus.{modulus, no_modulus}
use Rattle.refusal.specs.Limits.{any_outside, sizes_outside, over_block}
use Rattle.refusal.proofs.Chains.{first_none, first_miss, first_append, outcome_done, unless_done, inside}
use Rattle.refusal.proofs.Limits.{Within, within_range}
use Rattle.plan.specs.Planning.{parameters, prime, block_rows, block_inner, block_columns}
use Rattle.plan.proofs.Facts.{Fits, facts}
use Rattle.plan.proofs.Sizes.{Sizes, sizes}
use Rattle.plan.proofs.Outcomes.{plan_told}
use Rattle.plan.proofs.Then.{then_own}
use Rattle.share_side.specs.declared.Matrix.{Matrix}
use Rattle.share_side.specs.declared.Matrix.TheVariants.{A, B}
use Rattle.share_side.specs.Sides.{side, block_length, matrix_length, mask_length, matrix_tests}
use Rattle.share.specs.Sharing.{share_of, host_share, share_tests, share_after}
use Rattle.product.specs.Product.{product_of, product_tests, product_after}
use Rattle.message_header.specs.declared.Header.{Header}
use Rattle.message_bytes.specs.Bytes.{bytes_of, elements_of}
use Rattle.message_bytes.proofs.Bytes.{length_bytes_of, elements_of_bytes}
use Rattle.mukerihe.specs.Host.{host_tests, host_product, host_after}
use Rattle.mukerihe.specs.Answer.{pair_header, pair_tests, host_answer, host_answer_tests, host_answer_after}
use Rattle.message_header.proofs.Fields.{fields_pass}
use Rattle.message_header.proofs.Headers.{length_header}
use Rattle.message_header.specs.Header.{header, element_count}
use Rattle.message.specs.Format.{message_of, payload, elements, element_test, message_tests, write_tests, written}
use Rattle.message.specs.RoundTrips.{ReadsBack}
use Rattle.message.proofs.Tests.{message_numbered}
use Rattle.message.proofs.Fields.{writes}
use Rattle.message.proofs.Outcomes.{written_done}
use Rattle.message.proofs.RoundTrips.{reads_back}
use Rattle.promise.specs.Demand3.{Task, Accepted, Masks, Made, matrix, kind_of, header_for, share_header, answer_header, share_for, share_message, true_product}

-- a size of a block is one of a matrix
in_size : {n : ℕ} → Within 4096 n → Within 16384 n
in_size w = record { low = w.low; high = omega (arith, w.high) }

module _ (x : Task) (ok : Accepted x) (i : ℕ) (low : i < x.job.hosts) where
  fits : Fits x.job
  fits = (facts x.job x.points ok.planned).fits

  size : Sizes x.job
  size = sizes x.job fits

  q : ℕ
  q = prime x.job

  positive : 0 < q
  unfolding q
  positive = omega (arith, fits.known.is_prime.above_one)

  host : Within 64 (suc i)
  host = record { low = omega arith; high = omega (arith, fits.hosts_high) }

  -- the sides' matrices are of exact length, with elements below q
  exact : (m : Matrix) → length (matrix m x) ≡ matrix_length (side m x.job)
  unfolding matrix matrix_length block_length side parameters
  exact A =
      let z = size in
      ok.length_a ∙ ap₂ ◌*◌ z.t z.s ∙ (let e : x.job.m * block_rows x.job * (x.job.p * block_inner x.job) ≡ x.job.m * x.job.p * (block_rows x.job * block_inner x.job) = omega arith in e)
  exact B =
      let z = size in
      ok.length_b ∙ ap₂ ◌*◌ z.s z.r ∙ (let e : x.job.p * block_inner x.job * (x.job.n * block_columns x.job) ≡ x.job.p * x.job.n * (block_inner x.job * block_columns x.job) = omega arith in e)

  below : (m : Matrix) → AllBelow q (matrix m x)
  unfolding matrix q
  below A = ok.below_a
  below B = ok.below_b

  pub share_done : (m : Matrix) (ms out : List ℕ) → Masks m x ms → length out ≡ block_length (side m x.job)
      → first (share_tests m x.job x.points (suc i) (matrix m x) ms (length out)) ≡ 0
  unfolding share_tests matrix_tests q
  share_done m ms out masks room =
      let s = side m x.job in
      then_own x.job x.points _ ok.planned
      ∙ first_miss _ 12 _ (inside 1 x.job.hosts (suc i) (omega arith) (omega arith))
      ∙ first_miss _ 13 _
      (ap₂ ◌||◌ (ap₂ ◌||◌ (alike (length (matrix m x)) (matrix_length s) (exact m)) (alike (length ms) (mask_length s) masks.exact))
      (alike (length out) (block_length s) room))
      ∙ first_miss _ 14 _ (ap not (below_test q (matrix m x) (below m)))
      ∙ first_miss _ 15 _ (ap not (below_test q ms masks.below))
      ∙ first_none

  pub share_length : (m : Matrix) (ms : List ℕ) → length (share_for m x (suc i) ms) ≡ block_length (side m x.job)
  unfolding share_for host_share share_of block_length
  share_length m ms = length_grid _ _ _

  pub share_below : (m : Matrix) (ms : List ℕ) → AllBelow (prime x.job) (share_for m x (suc i) ms)
  unfolding share_for host_share share_of q
  share_below m ms = below_grid _ _ _ _ (λ k l. mod-lt _ positive)

  -- what sharing leaves
  shared : (m : Matrix) (ms out : List ℕ) → Masks m x ms → length out ≡ block_length (side m x.job)
      → share_after m x.job x.points (suc i) (matrix m x) ms out ≡ share_for m x (suc i) ms
  unfolding share_after share_for
  shared m ms out masks room = unless_done _ _ out (share_done m ms out masks room)

  -- a block of a side is not empty, and not over 4096
  side_rows : (m : Matrix) → Within 16384 (side m x.job).block_rows
  unfolding side
  side_rows A = in_size size.rows
  side_rows B = in_size size.inner

  side_columns : (m : Matrix) → Within 16384 (side m x.job).block_columns
  unfolding side
  side_columns A = in_size size.inner
  side_columns B = in_size size.columns

  side_block : (m : Matrix) → block_length (side m x.job) ≤ 4096
  unfolding side block_length
  side_block A = fits.block_a
  side_block B = fits.block_b

  kind : (m : Matrix) → Within 3 (kind_of m)
  unfolding kind_of
  kind A = record { low = omega arith; high = omega arith }
  kind B = record { low = omega arith; high = omega arith }

  pub share_written : (m : Matrix) (ms : List ℕ) (room : ℕ) → room ≡ 16 + 4 * element_count (share_header m x (suc i))
      → first (write_tests (share_header m x (suc i)) (share_for m x (suc i) ms) room) ≡ 0
  unfolding share_header header_for element_count block_length element_test prime
  share_written m ms room e =
      writes (share_header m x (suc i)) _ room (record {
        fields = fields_pass (share_header m x (suc i)) (kind m) fits.known.is_number host (side_rows m) (side_columns m) (side_block m);
        count = share_length m ms;
        room = e;
        below = ap not (below_test _ _ (share_below m ms));
      })

  -- the numbers of the product are those of an accepted job
  numbers_pass : (tests : List Test) → let job = x.job in
      first ((no_modulus job.modulus, 1)
      ∷ (sizes_outside (block_rows job) (block_inner job) (block_columns job), 2)
      ∷ (over_block (block_rows job) (block_inner job) (block_columns job), 6)
      ∷ tests)
      ≡ first tests
  unfolding sizes_outside any_outside over_block
  numbers_pass tests =
      let z = size in
      first_miss _ 1 _ fits.known.is_number
      ∙ first_miss _ 2 _ (ap₂ ◌||◌ (ap₂ ◌||◌ (within_range (in_size z.rows)) (within_range (in_size z.inner))) (within_range (in_size z.columns)))
      ∙ first_miss _ 6 _ (ap₂ ◌||◌ (ap₂ ◌||◌ (le-ltb 4096 _ fits.block_a) (le-ltb 4096 _ fits.block_b)) (le-ltb 4096 _ fits.block_c))

  module _ (ma mb : List ℕ) where
    unfoldable pub answer : List ℕ
    answer = product_of (prime x.job) (block_rows x.job) (block_inner x.job) (block_columns x.job) (share_for A x (suc i) ma) (share_for B x (suc i) mb)

    answer_length_lem : length answer ≡ block_rows x.job * block_columns x.job
    unfolding answer product_of
    answer_length_lem = length_grid _ _ _

    answer_below : AllBelow (prime x.job) answer
    unfolding answer product_of q
    answer_below = below_grid _ _ _ _ (λ k l. mod-lt _ positive)

    product_done : (out : List ℕ) → length out ≡ block_rows x.job * block_columns x.job
        → first (product_tests x.job.modulus (block_rows x.job) (block_inner x.job) (block_columns x.job) (share_for A x (suc i) ma) (share_for B x (suc i) mb) (length out)) ≡ 0
    unfolding product_tests block_length side prime
    product_done out room =
        numbers_pass _
        ∙ first_miss _ 13 _ (ap₂ ◌||◌ (ap₂ ◌||◌ (alike _ _ (share_length A ma)) (alike _ _ (share_length B mb))) (alike (length out) _ room))
        ∙ first_miss _ 14 _ (ap₂ ◌||◌ (ap not (below_test _ _ (share_below A ma))) (ap not (below_test _ _ (share_below B mb))))
        ∙ first_none

    multiplied : (out : List ℕ) → length out ≡ block_rows x.job * block_columns x.job
        → product_after x.job.modulus (block_rows x.job) (block_inner x.job) (block_columns x.job) (share_for A x (suc i) ma) (share_for B x (suc i) mb) out ≡ answer
    unfolding product_after answer prime
    multiplied out room = unless_done _ _ out (product_done out room)

    pub answer_written : (room : ℕ) → room ≡ 16 + 4 * element_count (answer_header x (suc i))
        → first (write_tests (answer_header x (suc i)) answer room) ≡ 0
    unfolding answer_header header_for element_count element_test prime
    answer_written room e =
        writes (answer_header x (suc i)) _ room (record {
          fields = fields_pass (answer_header x (suc i)) (record { low = omega arith; high = omega arith }) fits.known.is_number host (in_size size.rows) (in_size size.columns) fits.block_c;
          count = answer_length_lem;
          room = e;
          below = ap not (below_test _ _ answer_below);
        })

    -- the bytes of the two shares
    bytes : (m : Matrix) → List ℕ → List ℕ
    bytes m ms = bytes_of (share_for m x (suc i) ms)

    payload_is : (m : Matrix) (ms : List ℕ) → payload (share_message m x (suc i) ms) ≡ bytes m ms
    unfolding payload share_message message_of bytes
    payload_is m ms = drop_at (header (share_header m x (suc i))) _ 16 (length_header _)

    elements_are : (m : Matrix) (ms : List ℕ) (n : ℕ) → n ≡ block_length (side m x.job) → elements_of n (bytes m ms) ≡ share_for m x (suc i) ms
    unfolding bytes
    elements_are m ms n e =
        ap (λ (k : ℕ). elements_of k (bytes m ms)) (e ∙ sym (share_length m ms))
        ∙ elements_of_bytes (share_for m x (suc i) ms) (λ k l. omega (arith, share_below m ms k l, fits.known.small))

    host_done : (out : List ℕ) → length out ≡ 4 * element_count (answer_header x (suc i))
        → first (host_tests x.job.modulus (block_rows x.job) (block_inner x.job) (block_columns x.job) (bytes A ma) (bytes B mb) (length out)) ≡ 0
    unfolding host_tests bytes block_length side prime answer_header header_for element_count q
    host_done out room =
        let a = length_bytes_of (share_for A x (suc i) ma) ∙ ap (λ (n : ℕ). 4 * n) (share_length A ma) in
        let b = length_bytes_of (share_for B x (suc i) mb) ∙ ap (λ (n : ℕ). 4 * n) (share_length B mb) in
        numbers_pass _
        ∙ first_miss _ 13 _ (ap₂ ◌||◌ (ap₂ ◌||◌ (alike _ _ a) (alike _ _ b)) (alike (length out) _ room))
        ∙ first_miss _ 14 _
        (ap₂ ◌||◌ (ap not (ap (all_below q) (elements_are A ma _ refl) ∙ below_test _ _ (share_below A ma)))
        (ap not (ap (all_below q) (elements_are B mb _ refl) ∙ below_test _ _ (share_below B mb))))
        ∙ first_none

    host_made : (out : List ℕ) → length out ≡ 4 * element_count (answer_header x (suc i))
        → host_after x.job.modulus (block_rows x.job) (block_inner x.job) (block_columns x.job) (bytes A ma) (bytes B mb) out ≡ bytes_of answer
    unfolding host_after host_product answer block_length side prime q
    host_made out room =
        unless_done _ _ out (host_done out room)
        ∙ ap bytes_of (ap₂ (product_of q (block_rows x.job) (block_inner x.job) (block_columns x.job)) (elements_are A ma _ refl) (elements_are B mb _ refl))

    -- the A message and the B message read back
    message_back : (m : Matrix) (ms : List ℕ) → ReadsBack (share_header m x (suc i)) (share_for m x (suc i) ms)
    unfolding share_header header_for
    message_back m ms = reads_back _ _ _ ok.number (share_written m ms _ refl)

    pair_clear : (room : ℕ) → 16 + 4 * element_count (answer_header x (suc i)) ≤ room → first (pair_tests (share_header A x (suc i)) (share_header B x (suc i)) room) ≡ 0
    unfolding pair_tests pair_header share_header answer_header header_for kind_of side element_count
    pair_clear room enough =
        first_miss _ 1001 _ refl
        ∙ first_miss _ 1003 _ (alike x.job.modulus _ refl)
        ∙ first_miss _ 1004 _ (alike (suc i) _ refl)
        ∙ first_miss _ 1005 _ (alike x.job.number _ refl)
        ∙ first_miss _ 1006 _ (alike (block_inner x.job) _ refl)
        ∙ first_miss _ 6 _ (le-ltb 4096 _ fits.block_c)
        ∙ first_miss _ 13 _ (le-ltb room _ enough)
        ∙ first_none

    answer_clear : (room : ℕ) → 16 + 4 * element_count (answer_header x (suc i)) ≤ room
        → first (host_answer_tests (share_message A x (suc i) ma) (share_message B x (suc i) mb) room) ≡ 0
    unfolding host_answer_tests share_message
    answer_clear room enough =
        let a = message_back A ma in
        let b = message_back B mb in
        first_append (message_tests _) _ (message_numbered _) a.accepted
        ∙ first_append (message_tests _) _ (message_numbered _) b.accepted
        ∙ ap₂ (λ (g h : Header). first (pair_tests g h room)) a.same_header b.same_header
        ∙ pair_clear room enough

    true_answer : host_answer (share_message A x (suc i) ma) (share_message B x (suc i) mb) ≡ true_product x (suc i) ma mb
    unfolding host_answer share_message true_product pair_header share_header answer_header header_for side prime
    true_answer =
        let a = message_back A ma in
        let b = message_back B mb in
        let answer-of : Header → Header → List ℕ → List ℕ → List ℕ = λ g h xs ys. message_of (pair_header g h) (product_of (modulus g.modulus) g.rows g.columns h.columns xs ys) in
        ap₂ (λ (g h : Header). answer-of g h (elements (share_message A x (suc i) ma)) (elements (share_message B x (suc i) mb))) a.same_header b.same_header
        ∙ ap₂ (answer-of (share_header A x (suc i)) (share_header B x (suc i))) a.same_elements b.same_elements

    answer_made : (out : List ℕ) → 16 + 4 * element_count (answer_header x (suc i)) ≤ length out
        → host_answer_after (share_message A x (suc i) ma) (share_message B x (suc i) mb) out ≡ true_product x (suc i) ma mb ++ drop (length (true_product x (suc i) ma mb)) out
    unfolding host_answer_after
    answer_made out enough =
        unless_done _ _ out (answer_clear (length out) enough) ∙ ap (λ (zs : List ℕ). zs ++ drop (length zs) out) true_answer

    pub made : Masks A x ma → Masks B x mb → Made x (suc i) ma mb
    unfolding share_message true_product answer share_for matrix payload message_of
    made masks-a masks-b =
        record {
          plan = plan_told x.job x.points ∙ outcome_done _ _ _ ok.planned;
          share = λ m ms out message masks room whole. (
            shared m ms out masks room,
            written_done (share_header m x (suc i)) (share_for m x (suc i) ms) message (share_written m ms (length message) whole),
          );
          product = λ out message room whole.
              ap (λ (xs : List ℕ). written (answer_header x (suc i)) xs message) (multiplied out room)
              ∙ written_done (answer_header x (suc i)) answer message (answer_written (length message) whole);
          host = λ out room.
              ap₂ (λ (xs ys : List ℕ). host_after x.job.modulus (block_rows x.job) (block_inner x.job) (block_columns x.job) xs ys out) (payload_is A ma) (payload_is B mb)
              ∙ host_made out room
              ∙ sym (drop_at (header (answer_header x (suc i))) (bytes_of answer) 16 (length_header _));
          answer = λ out enough. (answer_clear (length out) enough, answer_made out enough);
        }
