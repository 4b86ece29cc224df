-- What a call of decoding returns and leaves.
--
--   few_needed      K is at most 64
--   plan_refused, own_answered   planning refuses: so does the call; planning accepts: its own tests decide
--   plan_is, few, room_length, wide, limited   the plan that planning returns is the job's, has room in an array of 64, and keeps
--                   the limits
--   kept            the call is refused: the table stays
--   Passed          what decoding's own tests tell, once they have passed
--   known, told     what all the tests tell then: of the plan, and of the hosts heard, the store and the table
--   chosen_are, lowest_are   then K hosts are chosen: the lowest-numbered of all
--   cleared, lowest_chosen, as_many   no test of the call holds, and the chosen hosts fill the room for K indices
--   within, roomy, decoded_is   these indices have points, the chosen hosts' weights have room, and the table that is put together
--                   from their answers is the decoded one: all of the plan, the indices and points that the code has made
use mathlib.Core.Path.{◌≡◌, refl, sym, ap, ap₂, ◌∙◌, subst}
use mathlib.Core.Bool.{true, false, not, ◌||◌}
use mathlib.Core.List.{List, ◌++◌, map, append-nil}
use Prim.Native.Nat.{ℕ, ◌+◌, ◌*◌, ◌/◌, ◌%◌, ◌^◌, ◌<◌, ◌≤◌}
use native.Mathlib.Nat.{mul-le-mul}
use native.Mathlib.Omega.{arith}
use lib.Dec.{ltb}
use lib.Count.{ones}
use lib.ListN.{length, get_or, take, drop, replicate, length-map, drop_of_length-le}
use lib.Seq.{length-take-le, get_or-take, get_or-drop}
use borrow.Author.Tests.{ltb-false, leb-false, not-false}
use Rattle.algebra.specs.Lists.{entry, AllBelow}
use Rattle.algebra.specs.Polynomials.{coefficient}
use Rattle.algebra.proofs.Tests.{or_left, or_right, equal, alike}
use Rattle.algebra.proofs.Lists.{below_anywhere}
use Rattle.algebra.proofs.Grids.{grid_cong}
use Rattle.algebra.proofs.Points.{points_at}
use Rattle.refusal.specs.Chain.{first, answered, differs}
use Rattle.refusal.specs.Limits.{most_elements}
use Rattle.std.specs.Prelude.{Ok, Err}
use Rattle.refusal.specs.declared.Refusal.{Refusal}
use Rattle.refusal.proofs.Answered.{is_done, is_refused, refused_on, passed_on}
use Rattle.refusal.proofs.Chains.{first_clear, first_append_clear, unless_refused_lem, inside}
use Rattle.field.specs.Modulus.{prime as modulus_prime}
use Rattle.plan.specs.declared.Job.{Job}
use Rattle.plan.specs.declared.Plan.{Plan}
use Rattle.plan.specs.Planning.{prime, parameters, needed_of, block_rows, block_columns, plan_of, plan_tests, planned}
use Rattle.plan.proofs.Facts.{Facts, Fits, facts}
use Rattle.plan.proofs.Sizes.{sizes, place_below}
use Rattle.plan.proofs.Then.{own_prime, plan_numbered}
use Rattle.arrival_heard.specs.Heard.{some_above, lowest}
use Rattle.arrival_heard.proofs.Bits.{ones_size, lowest_within}
use Rattle.arrival.specs.Arriving.{answer_length, store_length, block_at}
use Rattle.decode_table.specs.declared.Shape.{Shape}
use Rattle.decode_table.specs.Internal.{block_count, block_length, piece_count, piece_row, piece_sum, pieces_of, sizes_test, misfit, Sized}
use Rattle.decode_table.proofs.Pieces.{piece_exact}
use Rattle.decode_table.proofs.Fits.{table_made}
use Rattle.decode.specs.Decoding.{answer_entry, chosen, table_entry, table_of, table_length, heard_below, table_tests, decode_tests, table_after}
use Rattle.decode.specs.Internal.{Limited, shape, place_of, decoding_weights, weighted_table, Roomy}
use Rattle.decode.proofs.Chosen.{Chosen, chosen_hosts}
use Rattle.decode.proofs.Stored.{heard_block}
use Rattle.decode.proofs.Tables.{blocks_pieces, weights_below, length_weights, piece_is}

pub few_needed : (job : Job) → Fits job → needed_of job ≤ 64
few_needed job f = omega (arith, f.enough, f.hosts_high)

module _ (job : Job) (points : List ℕ) (heard : ℕ) (store : List ℕ) (room : ℕ) where
  pub plan_refused : (r : Refusal) → Err r ≡ planned job points → Err r ≡ answered (decode_tests job points heard store room) (tt {0})
  unfolding planned decode_tests
  plan_refused = refused_on (plan_tests job points) (table_tests job heard store room) (plan_of job) tt

  pub own_answered : (plan : Plan) → Ok plan ≡ planned job points
      → answered (decode_tests job points heard store room) (tt {0}) ≡ answered (table_tests job heard store room) tt
  unfolding planned decode_tests
  own_answered plan e = passed_on (plan_tests job points) (table_tests job heard store room) (plan_of job) tt plan (plan_numbered job points) e

module _ (job : Job) (points : List ℕ) (plan : Plan) (accepted : Ok plan ≡ planned job points) where
  pub plan_is : plan ≡ plan_of job
  unfolding planned
  plan_is = (is_done (plan_tests job points) (plan_of job) plan accepted).1

  fitting : Fits job
  unfolding planned
  fitting = (facts job points (is_done (plan_tests job points) (plan_of job) plan accepted).0).fits

  pub few : plan.needed ≤ 64
  unfolding plan_of
  few = rw plan_is (few_needed job fitting)

  pub room_length : length (take plan.needed (replicate {A = ℕ} 64 0)) ≡ plan.needed
  room_length = length-take-le plan.needed (replicate 64 0) few

  pub wide : plan.columns ≤ most_elements
  unfolding plan_of
  wide = rw plan_is (sizes job fitting).columns.high

  pub limited : Limited job plan
  unfolding plan_of
  limited =
      let f = fitting in
      record {
        is = plan_is;
        modulus = ap (λ (p : Plan). modulus_prime p.modulus) plan_is ∙ own_prime job f.known.is_number;
        hosts = f.hosts_high;
        tall = f.ranged.t.high;
        wide = f.ranged.r.high;
        block = f.block_c;
      }

pub kept : (job : Job) (points : List ℕ) (heard : ℕ) (store table : List ℕ) (r : Refusal)
    → Err r ≡ answered (decode_tests job points heard store (length table)) (tt {0}) → table ≡ table_after job points heard store table
unfolding table_after
kept job points heard store table r e = sym (unless_refused_lem _ _ table (is_refused _ _ r e).0)

pub record Passed (job : Job) (heard : ℕ) (store : List ℕ) (room : ℕ) : Type 0 where
  pub none_above : heard < 2 ^ job.hosts
  pub stored : length store ≡ store_length job
  pub table : room ≡ table_length job
  pub enough : needed_of job ≤ ones heard
  pub below : heard_below (prime job) (answer_length job) heard store job.hosts ≡ true

passed : (job : Job) (heard : ℕ) (store : List ℕ) (room : ℕ) → first (table_tests job heard store room) ≡ 0 → Passed job heard store room
unfolding table_tests some_above
passed job heard store room e =
    let above = first_clear (some_above job.hosts heard) 20 _ e in
    let a = differs (length store) (store_length job) in
    let b = differs room (table_length job) in
    let len = first_clear (a || b) 12 _ above.1 in
    let few = first_clear (ltb (ones heard) (needed_of job)) 23 _ len.1 in
    let block = heard_below (prime job) (answer_length job) heard store job.hosts in
    let elements = first_clear (not block) 13 _ few.1 in
    record {
      none_above = leb-false (2 ^ job.hosts) heard above.0;
      stored = equal _ _ (or_left a b len.0);
      table = equal _ _ (or_right a b len.0);
      enough = ltb-false (ones heard) (needed_of job) few.0;
      below = not-false block elements.0;
    }

-- ---- a call whose tests have passed

module _ (job : Job) (points : List ℕ) (heard : ℕ) (store : List ℕ) (room : ℕ) (clear : first (decode_tests job points heard store room) ≡ 0) where
  tests : (first (plan_tests job points) ≡ 0) × (first (table_tests job heard store room) ≡ 0)
  unfolding decode_tests
  tests = first_append_clear (plan_tests job points) (table_tests job heard store room) (plan_numbered job points) clear

  pub known : Facts job points
  known = facts job points tests.0

  pub told : Passed job heard store room
  told = passed job heard store room tests.1

module _ (job : Job) (points : List ℕ) (heard : ℕ) (store : List ℕ) (room : ℕ) (f : Facts job points) (p : Passed job heard store room) where
  pub chosen_are : Chosen job points heard
  chosen_are = chosen_hosts job points f heard (omega (arith, p.enough, ones_size heard job.hosts p.none_above))

  -- the K lowest-numbered of all hosts heard are those of the job, and fill an output of K
  pub lowest_are : (out : List ℕ) → length out ≡ needed_of job
      → lowest (length out) heard 64 ++ drop (length (lowest (length out) heard 64)) out ≡ chosen job heard
  unfolding chosen
  lowest_are out size =
      let same : lowest (length out) heard 64 ≡ chosen job heard
      = ap (λ (k : ℕ). lowest k heard 64) size ∙ lowest_within heard (needed_of job) job.hosts p.none_above f.fits.hosts_high in
      ap (λ (l : List ℕ). l ++ drop (length l) out) same
      ∙ ap (λ (l : List ℕ). chosen job heard ++ l) (drop_of_length-le out {i = length (chosen job heard)} (omega (arith, chosen_are.count)))
      ∙ append-nil (chosen job heard)

  abbrev q : ℕ
  q = modulus_prime (plan_of job).modulus

  abbrev s : Shape
  s = shape (plan_of job)

  abbrev hosts : List ℕ
  hosts = chosen job heard

  abbrev xs : List ℕ
  xs = points_at points hosts

  abbrev ws : List ℕ
  ws = decoding_weights (plan_of job) xs

  same_prime : q ≡ prime job
  unfolding plan_of
  same_prime = own_prime job f.fits.known.is_number

  sized : Sized s (length hosts)
  unfolding shape plan_of parameters
  sized =
      let r = f.fits.ranged in
      let size = sizes job f.fits in
      record {
        split = r.n.low;
        tall = size.rows.low;
        some = omega (arith, chosen_are.count, place_below job f.fits 0 0 r.m.low r.n.low);
        grid_rows = omega (arith, r.m.high);
        grid_columns = omega (arith, r.n.high);
        rows_in_block = size.rows.high;
        columns_in_block = size.columns.high;
        few = omega (arith, chosen_are.count, few_needed job f.fits);
      }

  -- what the table is put together from is of the right sizes
  fits : misfit s (length hosts) (length ws) (plan_of job).columns room ≡ false
  unfolding misfit sizes_test shape plan_of parameters piece_count table_length
  fits =
      let r = f.fits.ranged in
      let size = sizes job f.fits in
      let each : length ws ≡ length hosts * block_count s
      = length_weights (plan_of job) xs ∙ ap (λ (n : ℕ). n * block_count s) (length-map hosts (λ h. get_or points h 0)) in
      let long : room ≡ job.m * block_rows job * job.n * block_columns job = p.table ∙ ap₂ ◌*◌ size.t size.r ∙ omega arith in
      let grid = ap₂ ◌||◌ (inside 1 most_elements job.m r.m.low sized.grid_rows) (inside 1 most_elements job.n r.n.low sized.grid_columns) in
      let block = ap₂ ◌||◌ (inside 1 most_elements (block_rows job) size.rows.low size.rows.high)
      (inside 1 most_elements (block_columns job) size.columns.low size.columns.high) in
      ap₂ ◌||◌ (ap₂ ◌||◌ (ap₂ ◌||◌ grid block) (inside 1 most_elements (length hosts) sized.some sized.few))
      (ap₂ ◌||◌ (ap₂ ◌||◌ (alike _ _ each) (alike (block_columns job) _ refl)) (alike _ _ long))

  -- the answers of the chosen hosts have elements below q
  below_at : (c i : ℕ) → c < length hosts → i < block_length s → entry (block_length s) store (get_or hosts c 0) i < q
  unfolding answer_length block_length shape plan_of entry block_at
  below_at c i l li =
      let h = get_or hosts c 0 in
      let size = answer_length job in
      let own : AllBelow (prime job) (block_at size store h) = heard_block (prime job) size heard store job.hosts p.below h (chosen_are.within c l) (chosen_are.are_heard c l) in
      let is : get_or (block_at size store h) i 0 ≡ get_or store (h * size + i) 0 = get_or-take size (drop (h * size) store) i 0 li ∙ get_or-drop (h * size) store i 0 in
      omega (arith, is, same_prime, below_anywhere (prime job) (block_at size store h) (omega (arith, f.fits.known.is_prime.above_one)) own i)

  entry_is : (w v : ℕ) → w < piece_count s → v < s.block_columns
      → piece_sum q s hosts ws store w v % 2 ^ 64 % q
      ≡ table_entry job points heard store (w / s.grid_columns / s.block_rows) (w % s.grid_columns) (w / s.grid_columns % s.block_rows) v
  unfolding table_entry answer_entry piece_row shape plan_of
  entry_is w v hw hv =
      let c = chosen_are in
      let pos : 0 < q = omega (arith, same_prime, f.fits.known.is_prime.above_one) in
      let place = place_of (plan_of job) (w / s.grid_columns / s.block_rows) (w % s.grid_columns) in
      piece_exact (plan_of job).modulus s hosts ws store sized (weights_below (plan_of job) xs pos) below_at w v hw hv
      ∙ piece_is (plan_of job) points hosts store sized (subst (λ (k : ℕ). AllBelow k xs) (sym same_prime) c.below) c.distinct w v hw
      ∙ ap (λ (k : ℕ). coefficient k xs (map (λ h. answer_entry job store h (w / s.grid_columns % s.block_rows) v) hosts) place) same_prime

  table_exact : pieces_of q s hosts ws store ≡ table_of job points heard store
  unfolding pieces_of table_of shape plan_of parameters piece_count
  table_exact =
      grid_cong _ (λ w v. table_entry job points heard store (w / job.n / block_rows job) (w % job.n) (w / job.n % block_rows job) v) (piece_count s) s.block_columns entry_is
      ∙ blocks_pieces (table_entry job points heard store) job.m (block_rows job) job.n (block_columns job)

module _ (job : Job) (points : List ℕ) (heard : ℕ) (store : List ℕ) (room : ℕ) (plan : Plan) (accepted : Ok plan ≡ planned job points)
    (passed : Ok tt ≡ answered (table_tests job heard store room) (tt {0})) where
  pub cleared : first (decode_tests job points heard store room) ≡ 0
  cleared = (is_done _ tt tt (passed ∙ sym (own_answered job points heard store room plan accepted))).0

  f : Facts job points
  f = known job points heard store room cleared

  p : Passed job heard store room
  p = told job points heard store room cleared

  is : plan ≡ plan_of job
  is = plan_is job points plan accepted

  needed_is : plan.needed ≡ needed_of job
  unfolding plan_of
  needed_is = ap (λ (p : Plan). p.needed) is

  pub lowest_chosen : (indices : List ℕ) → let out = take plan.needed (replicate {A = ℕ} 64 0) in
      indices ≡ lowest (length out) heard 64 ++ drop (length (lowest (length out) heard 64)) out → indices ≡ chosen job heard
  lowest_chosen indices e =
      e ∙ lowest_are job points heard store room f p (take plan.needed (replicate 64 0)) (room_length job points plan accepted ∙ needed_is)

  module _ (indices : List ℕ) (are : indices ≡ chosen job heard) where
    pub as_many : length indices ≡ plan.needed
    as_many = ap length are ∙ (chosen_are job points heard store room f p).count ∙ sym needed_is

    pub within : AllBelow (length points) indices
    within = rw are (λ i l. omega (arith, (chosen_are job points heard store room f p).within i l, f.points_length))

    pub roomy : (xs : List ℕ) → xs ≡ points_at points indices → Roomy plan (length xs)
    unfolding block_count shape plan_of parameters needed_of
    roomy xs e = rw (e, length-map indices (λ h. get_or points h 0), as_many, is) (record {
      few = few_needed job f.fits;
      split = f.fits.ranged.n.low;
      small = mul-le-mul f.fits.ranged.m.high f.fits.ranged.n.high;
      places = place_below job f.fits;
    })

    pub decoded_is : (xs : List ℕ) → xs ≡ points_at points indices → (table : List ℕ) → length table ≡ room
        → weighted_table plan indices xs store table ≡ table_of job points heard store
    unfolding weighted_table
    decoded_is xs xs-are table long = rw (xs-are, are, is)
        (sym (table_made _ _ _ _ store (plan_of job).columns table (rw long (fits job points heard store room f p)))
        ∙ table_exact job points heard store room f p)
