-- What a call of sharing returns and leaves.
--
--   unless_agree   two lists of tests that tell the same number, and the same made where it is 0: the same is left
--   share_made     what encoding leaves is the share, or what was there
--   kept           the call is refused: the output stays
--   plan_refused   planning refuses
--   host_refused   planning accepts, and test 12 holds
--   shared         planning accepts, and test 12 does not hold: what is then returned and left, by the plan
use mathlib.Core.Path.{◌≡◌, refl, sym, ap, ap₂, ◌∙◌}
use mathlib.Core.Bool.{true, false}
use mathlib.Core.List.{List, ◌++◌}
use Prim.Native.Nat.{ℕ, zero, suc}
use lib.ListN.{length}
use Rattle.std.specs.Prelude.{Result, Ok, Err}
use Rattle.algebra.specs.Lists.{AllBelow}
use Rattle.refusal.specs.declared.Refusal.{Refusal}
use Rattle.refusal.specs.Numbers.{refusal_of, sheet}
use Rattle.refusal.specs.Chain.{Test, first, outcome, answered, refuse, outside, unless_refused}
use Rattle.refusal.proofs.Chains.{first_hit, first_miss, unless_refused_lem}
use Rattle.refusal.proofs.Answered.{answered_refused, is_refused, refused_on}
use Rattle.field.specs.declared.Modulus.{Modulus}
use Rattle.field.specs.Modulus.{prime}
use Rattle.layout.specs.declared.Parameters.{Parameters}
use Rattle.layout.specs.declared.Strides.{Strides}
use Rattle.layout.specs.Exponents.{Exponents, exponents}
use Rattle.layout.specs.Internal.{Follows}
use Rattle.plan.specs.declared.Job.{Job}
use Rattle.plan.specs.declared.Plan.{Plan}
use Rattle.plan.specs.Planning.{prime as planning_prime, plan_of, plan_tests, planned}
use Rattle.plan.proofs.Facts.{facts}
use Rattle.plan.proofs.Then.{then_own, own_prime}
use Rattle.share_side.specs.declared.Matrix.{Matrix}
use Rattle.share_side.specs.declared.Side.{Side}
use Rattle.share_side.specs.Sides.{side, matrix_tests}
use Rattle.share_side.specs.Internal.{plan_side, Small, side_weights}
use Rattle.share_side.proofs.Sides.{plan_side_lem, passed}
use Rattle.share_blocks.specs.Internal.{encoded}
use Rattle.share_blocks.proofs.Fitting.{only_matrix}
use Rattle.share.specs.Sharing.{point, share_of, host_share, share_tests, share_after}
use Rattle.share.proofs.Sums.{share_exact}

pub unless_agree : {A : Type 0} (tests own : List Test) (made other was : A) → first tests ≡ first own → (first own ≡ 0 → made ≡ other)
    → unless_refused tests made was ≡ unless_refused own other was
unfolding unless_refused outcome
unless_agree {A} tests own made other was e same = ap (λ (n : ℕ). outcome n made (λ k. was)) e ∙ go (first own) same
  where
    go : (n : ℕ) → (n ≡ 0 → made ≡ other) → outcome n made (λ k. was) ≡ outcome n other (λ k. was)
    go zero same = same refl
    go (suc n) same = refl

-- of a side that keeps the limits, with the weights that the strides give, the encoded block is the share
pub share_made : (m : Modulus) {strides : Strides} {g : Parameters} {e : Exponents} → Follows strides g e → (s : Side) → Small s → (x : ℕ) (w rest xs ms out : List ℕ)
    → w ≡ side_weights (prime m) strides s x ++ rest → AllBelow (prime m) w
    → encoded (prime m) s w xs ms out ≡ unless_refused (matrix_tests (prime m) s xs ms (length out)) (share_of (prime m) e s x xs ms) out
unfolding encoded
share_made m f s small x w rest xs ms out is below =
    unless_agree _ _ _ _ out (only_matrix s (prime m) xs ms (length out) small) (λ z.
    let t = passed (prime m) s xs ms (length out) z in
    share_exact m f s small x w rest xs ms is (record { weights = below; matrix = t.below_matrix; masks = t.below_masks }))

module _ (m : Matrix) (job : Job) (points : List ℕ) (host : ℕ) (xs ms out : List ℕ) where
  pub kept : (r : Refusal) → Err r ≡ answered (share_tests m job points host xs ms (length out)) (tt {0}) → out ≡ share_after m job points host xs ms out
  unfolding share_after
  kept r e = sym (unless_refused_lem _ _ out (is_refused _ _ r e).0)

  pub plan_refused : (r : Refusal) → Err r ≡ planned job points → Err r ≡ answered (share_tests m job points host xs ms (length out)) (tt {0})
  unfolding planned share_tests
  plan_refused = refused_on (plan_tests job points) _ (plan_of job) tt

  module _ (planned : first (plan_tests job points) ≡ 0) where
    pub host_refused : outside 1 job.hosts host ≡ true → Err Refusal.Host ≡ answered (share_tests m job points host xs ms (length out)) (tt {0})
    unfolding share_tests refusal_of sheet
    host_refused e = sym (answered_refused _ tt 11 (then_own job points _ planned ∙ first_hit (outside 1 job.hosts host) 12 _ e))

    -- what is returned, and what the output holds, by the plan
    module _ (inside : outside 1 job.hosts host ≡ false) (plan : Plan) (is : plan ≡ plan_of job) (r : Result Unit Refusal) (after : List ℕ) where
      q : ℕ
      q = prime plan.modulus

      q_is : q ≡ planning_prime job
      unfolding q plan_of
      q_is = ap (λ (p : Plan). prime p.modulus) is ∙ own_prime job (facts job points planned).fits.known.is_number

      side_is : plan_side m plan ≡ side m job
      side_is = ap (plan_side m) is ∙ plan_side_lem m job

      own_tests : first (share_tests m job points host xs ms (length out)) ≡ first (matrix_tests q (plan_side m plan) xs ms (length out))
      unfolding share_tests
      own_tests =
          then_own job points _ planned
          ∙ first_miss (outside 1 job.hosts host) 12 _ inside
          ∙ ap₂ (λ (p : ℕ) (s : Side). first (matrix_tests p s xs ms (length out))) (sym q_is) (sym side_is)

      own_share : share_of q (exponents plan.layout plan.parameters) (plan_side m plan) (point points host) xs ms ≡ host_share m job points host xs ms
      unfolding host_share plan_of
      own_share =
          ap₂ (λ (p : ℕ) (s : Side). share_of p (exponents plan.layout plan.parameters) s (point points host) xs ms) q_is side_is
          ∙ ap (λ (p : Plan). share_of (planning_prime job) (exponents p.layout p.parameters) (side m job) (point points host) xs ms) is

      pub shared : r ≡ answered (matrix_tests (prime plan.modulus) (plan_side m plan) xs ms (length out)) tt
          → after ≡ unless_refused (matrix_tests (prime plan.modulus) (plan_side m plan) xs ms (length out))
          (share_of (prime plan.modulus) (exponents plan.layout plan.parameters) (plan_side m plan) (point points host) xs ms) out
          → (r ≡ answered (share_tests m job points host xs ms (length out)) tt) × (after ≡ share_after m job points host xs ms out)
      unfolding q share_after answered
      shared returned left =
          (returned ∙ ap (λ (n : ℕ). outcome n (Ok tt) refuse) (sym own_tests), left ∙ unless_agree _ _ _ _ out (sym own_tests) (λ z. own_share))
