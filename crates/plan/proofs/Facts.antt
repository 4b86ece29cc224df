-- What an accepted plan tells: all that its tests rule out is ruled out.
--
--   Facts job points    the numbers are in range, divide, fit and suffice; the window opens before it closes; the points are N
--                       distinct elements that are not 0
--   facts               they hold where no plan number fits
--   planned_facts       planning does not refuse: no plan number fits
--   points_unseen       with over 64 hosts the points play no part
use mathlib.Core.Path.{◌≡◌, refl, sym, ap, ◌∙◌}
use mathlib.Core.Bool.{false, not, ◌||◌, true≢false}
use mathlib.Core.Logic.{⊎_elim}
use mathlib.Core.List.{List, ◌∷◌, ◌++◌, append_assoc}
use Prim.Native.Nat.{ℕ, zero, suc, ◌*◌, ◌%◌, ◌<◌, ◌≤◌}
use native.Mathlib.Nat.{not-suc-le-zero, eq-or-lt_of_le, le_of_suc-le-suc}
use native.Mathlib.Omega.{arith}
use lib.Dec.{eqb, leb}
use lib.ListN.{length, get_or, take}
use borrow.Author.Tests.{ltb-false, leb-false, eqb-false}
use Rattle.algebra.specs.Lists.{AllBelow, Distinct}
use Rattle.algebra.proofs.Orders.{le_or_lt}
use Rattle.algebra.proofs.Tests.{or_left, or_right, or_all, equal}
use Rattle.std.specs.Prelude.{Ok}
use Rattle.refusal.specs.Numbers.{refusal_of, sheet}
use Rattle.refusal.specs.Chain.{Test, first, outcome, answered, refuse, outside}
use Rattle.refusal.proofs.Chains.{first_clear, first_append_clear, first_append_hit, numbered, inside_low, inside_high}
use Rattle.refusal.proofs.Answered.{is_done}
use Rattle.refusal.proofs.Limits.{blocks_fit}
use Rattle.field.specs.Modulus.{no_modulus}
use Rattle.field.proofs.Moduli.{Known, known_number}
use Rattle.plan.specs.declared.Job.{Job}
use Rattle.plan.specs.declared.Plan.{Plan}
use Rattle.plan.specs.Planning.{prime, block_rows, block_inner, block_columns, needed_of, plan_of, range_tests, window_test, fit_tests, member, point_tests_at, all_point_tests, point_tests, plan_tests, planned}
use Rattle.plan.proofs.Ranges.{Ranged, ranged}
use Rattle.plan.proofs.Points.{member_at, points_numbered}

-- 1 to 8, and 29
pub record Fits (job : Job) : Type 0 where
  pub known : Known job.modulus (prime job)
  pub ranged : Ranged job
  pub divides_t : job.t % job.m ≡ 0
  pub divides_s : job.s % job.p ≡ 0
  pub divides_r : job.r % job.n ≡ 0
  pub block_a : block_rows job * block_inner job ≤ 4096
  pub block_b : block_inner job * block_columns job ≤ 4096
  pub block_c : block_rows job * block_columns job ≤ 4096
  pub hosts_low : 1 ≤ job.hosts
  pub hosts_high : job.hosts ≤ 64
  pub enough : needed_of job ≤ job.hosts
  pub opens_before : job.opening < job.closing

pub record Facts (job : Job) (points : List ℕ) : Type 0 where
  pub fits : Fits job
  pub points_length : length points ≡ job.hosts
  pub points_pos : (i : ℕ) → i < length points → 0 < get_or points i 0
  pub points_below : AllBelow (prime job) points
  pub points_distinct : Distinct points

module _ (job : Job) (modulus : no_modulus job.modulus ≡ false) (range : first (range_tests job) ≡ 0) (fit : first (fit_tests job) ≡ 0) where
  fits_of : Fits job
  unfolding fit_tests window_test prime
  fits_of =
      let division = first_clear _ 4 _ fit in
      let block = first_clear _ 5 _ division.1 in
      let hosts = first_clear _ 6 _ block.1 in
      let needed = first_clear _ 7 _ hosts.1 in
      let window = first_clear _ 28 _ needed.1 in
      let whole = or_all (not (eqb (job.t % job.m) 0)) (not (eqb (job.s % job.p) 0)) (not (eqb (job.r % job.n) 0)) division.0 in
      let small = blocks_fit (block_rows job) (block_inner job) (block_columns job) block.0 in
      let h1 = outside 1 64 job.hosts in
      let h2 = leb (prime job) job.hosts in
      record {
        known = known_number job.modulus modulus;
        ranged = ranged job range;
        divides_t = equal _ 0 whole.0;
        divides_s = equal _ 0 whole.1;
        divides_r = equal _ 0 whole.2;
        block_a = small.0;
        block_b = small.1;
        block_c = small.2;
        hosts_low = inside_low 1 64 _ (or_left h1 h2 hosts.0);
        hosts_high = inside_high 1 64 _ (or_left h1 h2 hosts.0);
        enough = ltb-false job.hosts _ needed.0;
        opens_before = leb-false job.closing job.opening window.0;
      }

-- ---- the points

module _ (q : ℕ) (points : List ℕ) where
  -- the tests of each point passed
  each : (n : ℕ) → first (all_point_tests q points n) ≡ 0 → (i : ℕ) → i < n → first (point_tests_at q points i) ≡ 0
  unfolding all_point_tests
  each zero e i h = absurd (not-suc-le-zero h)
  each (suc n) e i h =
      let parts = first_append_clear (all_point_tests q points n) (point_tests_at q points n) (points_numbered q points n) e in
      ⊎_elim (λ (s : i ≡ n). ap (λ (k : ℕ). first (point_tests_at q points k)) s ∙ parts.1)
      (λ (l : i < n). each n parts.0 i l) (eq-or-lt_of_le (le_of_suc-le-suc h))

  module _ (i : ℕ) (e : first (point_tests_at q points i) ≡ 0) where
    x : ℕ
    x = get_or points i 0

    good : (eqb x 0 || leb q x) ≡ false
    unfolding point_tests_at x
    good = (first_clear (eqb x 0 || leb q x) 9 _ e).0

    pos : 0 < get_or points i 0
    unfolding x
    pos = let ne : x ≡ 0 → ⊥ = eqb-false x 0 (or_left (eqb x 0) (leb q x) good) in omega arith

    below : get_or points i 0 < q
    unfolding x
    below = leb-false q x (or_right (eqb x 0) (leb q x) good)

    new : member (get_or points i 0) (take i points) ≡ false
    unfolding point_tests_at x
    new = (first_clear (member x (take i points)) 10 _ (first_clear (eqb x 0 || leb q x) 9 _ e).1).0

  -- an earlier point is another number
  apart : (i j : ℕ) → first (point_tests_at q points j) ≡ 0 → i < j → j < length points → get_or points i 0 ≡ get_or points j 0 → ⊥
  apart i j e h l s = true≢false (sym (member_at points j i (get_or points j 0) h (omega arith) s) ∙ new j e)

-- ---- the whole

module _ (job : Job) (points : List ℕ) where
  pub facts : first (plan_tests job points) ≡ 0 → Facts job points
  unfolding plan_tests point_tests range_tests fit_tests numbered refusal_of sheet
  facts e =
      let modulus = first_clear (no_modulus job.modulus) 0 _ e in
      let range = first_append_clear (range_tests job) (fit_tests job ++ point_tests (prime job) job.hosts points) tt modulus.1 in
      let fit = first_append_clear (fit_tests job) (point_tests (prime job) job.hosts points) tt range.1 in
      let size = first_clear (not (eqb (length points) job.hosts)) 8 _ fit.1 in
      let one = each (prime job) points (length points) size.1 in
      record {
        fits = fits_of job modulus.0 range.0 fit.0;
        points_length = equal (length points) job.hosts size.0;
        points_pos = λ i h. pos (prime job) points i (one i h);
        points_below = λ i h. below (prime job) points i (one i h);
        points_distinct = λ i j hi hj s.
            ⊎_elim (λ (l : i ≤ j). ⊎_elim (λ (z : i ≡ j). z) (λ (k : i < j). absurd (apart (prime job) points i j (one j hj) k hj s)) (eq-or-lt_of_le l))
            (λ (k : j < i). absurd (apart (prime job) points j i (one i hi) k hi (sym s))) (le_or_lt i j);
      }

  pub planned_facts : {plan : Plan} → planned job points ≡ Ok plan → (first (plan_tests job points) ≡ 0) × (plan ≡ plan_of job)
  unfolding planned
  planned_facts {plan} e = is_done (plan_tests job points) (plan_of job) plan (sym e)

-- the tests 1 to 8, and 29
fronts : Job → List Test
fronts job = (no_modulus job.modulus, 1) ∷ (range_tests job ++ fit_tests job)

fronts_first : (job : Job) (points : List ℕ) → plan_tests job points ≡ fronts job ++ point_tests (prime job) job.hosts points
unfolding plan_tests fronts
fronts_first job points =
    ap (λ (rows : List Test). (no_modulus job.modulus, 1) ∷ rows)
    (sym (append_assoc (range_tests job) (fit_tests job) (point_tests (prime job) job.hosts points)))

too_many : (job : Job) → 64 < job.hosts → first (fronts job) ≡ 0 → ⊥
unfolding fronts range_tests fit_tests numbered refusal_of sheet
too_many job h e =
    let modulus = first_clear (no_modulus job.modulus) 0 _ e in
    let range = first_append_clear (range_tests job) (fit_tests job) tt modulus.1 in
    omega (arith, (fits_of job modulus.0 range.0 range.1).hosts_high)

pub points_unseen : (job : Job) (xs ys : List ℕ) → 64 < job.hosts → planned job xs ≡ planned job ys
unfolding planned answered
points_unseen job xs ys h = ap (λ (n : ℕ). outcome n (Ok (plan_of job)) refuse) (told xs ∙ sym (told ys))
  where
    told : (zs : List ℕ) → first (plan_tests job zs) ≡ first (fronts job)
    told zs = ap first (fronts_first job zs) ∙ first_append_hit (fronts job) _ (first (fronts job)) (too_many job h) refl
