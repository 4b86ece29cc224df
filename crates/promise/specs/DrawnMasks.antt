-- Masks drawn from random words (02, U3).
--
--   DrawnMasks == for any q above 0: no mask is likelier than another, and the words that are used fill the masks; and what a call
--                 draws for a side of a job are masks of demand 3
use Rattle.std.specs.Prelude.{◌≡◌, List, ℕ, ◌-◌, ◌^◌, ◌<◌, length}
use Rattle.refusal.specs.Chain.{first}
use Rattle.masks.specs.Drawing.{limit, draw_tests, masks_after}
use Rattle.masks.specs.Uniform.{Uniform}
use Rattle.masks.specs.Filled.{Filled}
use Rattle.share_side.specs.declared.Matrix.{Matrix}
use Rattle.share_side.specs.Sides.{side, mask_length}
use Rattle.promise.specs.Demand3.{Task, Masks}

pub record DrawnMasks : Type 0 where
  pub uniform : (q : ℕ) → 0 < q → Uniform q
  -- "For q = 65537 only 4294967295 is skipped, for 13 the top nine."
  pub top : (limit 65537 ≡ 4294967295) × (limit 13 ≡ 2 ^ 32 - 9)
  pub filled : (q n : ℕ) (words : List ℕ) → 0 < q → Filled q n words
  pub masks : (m : Matrix) (x : Task) (words out : List ℕ) → length out ≡ mask_length (side m x.job)
      → first (draw_tests x.job.modulus words (length out)) ≡ 0 → Masks m x (masks_after x.job.modulus words out)
