-- Decoding's own tests, by the numbers of a plan that keeps the limits.
use mathlib.Core.Path.{◌≡◌, ap}
use mathlib.Core.Bool.{not, ◌||◌}
use mathlib.Core.List.{List, [], ◌∷◌}
use Prim.Native.Nat.{ℕ, ◌*◌, ◌≤◌}
use native.Mathlib.Omega.{arith}
use lib.Count.{ones}
use lib.Dec.{ltb}
use lib.ListN.{length}
use Rattle.refusal.specs.Chain.{differs}
use Rattle.field.specs.Modulus.{prime}
use Rattle.plan.specs.declared.Job.{Job}
use Rattle.plan.specs.declared.Plan.{Plan}
use Rattle.plan.specs.Planning.{plan_of}
use Rattle.arrival_heard.specs.Heard.{some_above}
use Rattle.arrival.specs.Arriving.{answer_length, store_length}
use Rattle.decode.specs.Decoding.{table_length, heard_below, table_tests}
use Rattle.decode.specs.Internal.{Limited}

module _ (job : Job) (plan : Plan) (limits : Limited job plan) where
  pub small : plan.rows * plan.columns ≤ 4096
  unfolding plan_of
  small = omega (arith, ap (λ (p : Plan). p.rows * p.columns) limits.is, limits.block)

  pub own_tests : (heard : ℕ) (store : List ℕ) (room : ℕ) → let size = plan.rows * plan.columns in
      table_tests job heard store room
      ≡ (some_above job.hosts heard, 21)
      ∷ (differs (length store) (job.hosts * size) || differs room (job.t * job.r), 13)
      ∷ (ltb (ones heard) plan.needed, 24)
      ∷ (not (heard_below (prime plan.modulus) size heard store job.hosts), 14)
      ∷ []
  unfolding table_tests store_length answer_length table_length plan_of
  own_tests heard store room = rw (← limits.modulus, limits.is)
