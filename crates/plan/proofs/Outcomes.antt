-- What planning answers, by the parts of its tests.
--
--   modulus_refused  the job's modulus number names no modulus: planning is refused
--   range_refused    it names one, and a number is out of range
--   fit_refused      none is, and the numbers do not fit
--   point_refused    they do, and a point is refused
--   accepted         none is: planning returns the plan
--   layout_is, needed_is  the layout and K, from the parameters
--   plan_is          the plan, from its parts
--   plan_told        what planning tells on paper: the first number that fits, or the job's values
use mathlib.Core.Path.{◌≡◌, refl, sym, ap, ap₂, ◌∙◌}
use mathlib.Core.List.{List, [], ◌∷◌, ◌++◌, append-nil}
use Prim.Native.Nat.{ℕ, zero, suc, ◌/◌}
use native.Mathlib.Nat.{suc-ne-zero}
use Rattle.std.specs.Prelude.{Result, Ok, Err}
use Rattle.refusal.specs.declared.Refusal.{Refusal}
use Rattle.refusal.specs.Numbers.{number as refusal_number, refusal_of, sheet}
use Rattle.refusal.specs.Chain.{first, outcome, answered, done, refused}
use Rattle.refusal.proofs.Chains.{numbered, first_numbered}
use Rattle.refusal.proofs.Answered.{answered_done, is_done, refused_on, passed_on}
use Rattle.field.specs.declared.Modulus.{Modulus}
use Rattle.field.specs.Modulus.{no_modulus}
use Rattle.layout.specs.declared.Parameters.{Parameters}
use Rattle.layout.specs.declared.Layout.{Layout}
use Rattle.layout.specs.Exponents.{exponents, choice}
use Rattle.plan.specs.declared.Job.{Job}
use Rattle.plan.specs.Planning.{parameters, prime, modulus_of, block_rows, block_inner, block_columns, layout_of, needed_of, plan_of, range_tests, fit_tests, point_tests, plan_tests, planned, told, plan_values}
use Rattle.plan.proofs.Then.{plan_numbered}

module _ (job : Job) (points : List ℕ) where
  abbrev Named : Result Modulus Refusal → Type 0
  Named r = r ≡ answered ((no_modulus job.modulus, 1) ∷ []) (modulus_of job)

  pub modulus_refused : (r : Refusal) → Named (Err r) → Err r ≡ planned job points
  unfolding planned plan_tests
  modulus_refused = refused_on ((no_modulus job.modulus, 1) ∷ []) _ (modulus_of job) (plan_of job)

  module _ (m : Modulus) (is : Named (Ok m)) where
    past_modulus : planned job points ≡ answered (range_tests job ++ (fit_tests job ++ point_tests (prime job) job.hosts points)) (plan_of job)
    unfolding planned plan_tests numbered refusal_of sheet
    past_modulus = passed_on ((no_modulus job.modulus, 1) ∷ []) _ (modulus_of job) (plan_of job) m tt is

    pub range_refused : (r : Refusal) → Err r ≡ answered (range_tests job) (tt {0}) → Err r ≡ planned job points
    range_refused r e = refused_on (range_tests job) _ tt (plan_of job) r e ∙ sym past_modulus

    module _ (range : Ok tt ≡ answered (range_tests job) (tt {0})) where
      past_range : planned job points ≡ answered (fit_tests job ++ point_tests (prime job) job.hosts points) (plan_of job)
      unfolding range_tests numbered refusal_of sheet
      past_range = past_modulus ∙ passed_on (range_tests job) _ tt (plan_of job) tt tt range

      pub fit_refused : (r : Refusal) → Err r ≡ answered (fit_tests job) (tt {0}) → Err r ≡ planned job points
      fit_refused r e = refused_on (fit_tests job) _ tt (plan_of job) r e ∙ sym past_range

      module _ (fit : Ok tt ≡ answered (fit_tests job) (tt {0})) where
        past_fit : planned job points ≡ answered (point_tests (prime job) job.hosts points) (plan_of job)
        unfolding fit_tests numbered refusal_of sheet
        past_fit = past_range ∙ passed_on (fit_tests job) _ tt (plan_of job) tt tt fit

        pub point_refused : (r : Refusal) → Err r ≡ answered (point_tests (prime job) job.hosts points) (tt {0}) → Err r ≡ planned job points
        point_refused r e = (rw append-nil at (refused_on (point_tests (prime job) job.hosts points) [] tt (plan_of job) r e)) ∙ sym past_fit

        pub accepted : Ok tt ≡ answered (point_tests (prime job) job.hosts points) (tt {0}) → Ok (plan_of job) ≡ planned job points
        accepted e = sym (past_fit ∙ answered_done _ (plan_of job) (is_done _ tt tt e).0)

module _ (job : Job) (g : Parameters) (same : g ≡ parameters job) (layout : Layout) (chosen : layout ≡ choice g) where
  pub layout_is : layout ≡ layout_of job
  unfolding layout_of
  layout_is = chosen ∙ ap choice same

  pub needed_is : (exponents layout g).needed ≡ needed_of job
  unfolding needed_of
  needed_is = ap₂ (λ (l : Layout) (h : Parameters). (exponents l h).needed) layout_is same

pub plan_is : (job : Job) (m : Modulus) (layout : Layout) (g : Parameters) (needed : ℕ)
    → m ≡ modulus_of job → layout ≡ layout_of job → g ≡ parameters job → needed ≡ needed_of job
    → record { modulus = m; layout = layout; parameters = g; rows = job.t / job.m; inner = job.s / job.p; columns = job.r / job.n; needed = needed }
    ≡ plan_of job
unfolding plan_of block_rows block_inner block_columns
plan_is job m layout g needed is l same k =
    λ i. record { modulus = is i; layout = l i; parameters = same i; rows = block_rows job; inner = block_inner job; columns = block_columns job; needed = k i }

pub plan_told : (job : Job) (points : List ℕ) → told (planned job points) ≡ outcome (first (plan_tests job points)) (done (plan_values job)) refused
unfolding planned plan_of plan_values answered outcome
plan_told job points = go (first (plan_tests job points)) (first_numbered (plan_tests job points) (plan_numbered job points))
  where
    go : (n : ℕ) → ((n ≡ 0 → ⊥) → refusal_number (refusal_of n) ≡ n)
        → told (outcome n (Ok (plan_of job)) (λ k. Err (refusal_of k))) ≡ outcome n (done (plan_values job)) refused
    go zero is = refl
    go (suc n) is = ap refused (is (suc-ne-zero n))
