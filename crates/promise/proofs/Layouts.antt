-- Privacy and exact tables over any exponents that are sound, and so in every layout.
--
--   follow      the exponents of a side's masks follow one another
--   shown       what sound exponents show
--   job_shown   so do those of an accepted job
--   listed      only the listed exponents of a side matter
--   layouts     the statement of specs/Layouts.antt
use mathlib.Core.Path.{◌≡◌, sym, ap, ap₂, ◌∙◌}
use mathlib.Core.List.{List, map}
use Prim.Native.Nat.{ℕ, ◌+◌, ◌*◌, ◌^◌, ◌%◌, ◌<◌}
use native.Mathlib.Omega.{arith}
use lib.ListN.{get_or}
use Rattle.algebra.specs.Lists.{tab}
use Rattle.algebra.specs.Modular.{Prime}
use Rattle.algebra.proofs.Lists.{length_tab, get_or_tab, get_d_map}
use Rattle.algebra.proofs.Grids.{grid_cong}
use Rattle.algebra.proofs.Modular.{≈_trans, ≈_of_eq}
use Rattle.algebra.proofs.Sums.{sum_cong}
use Rattle.algebra.proofs.Interpolation.{recover}
use Rattle.layout.specs.declared.Parameters.{Parameters}
use Rattle.layout.specs.Exponents.{Exponents, exponents, term}
use Rattle.layout.specs.Sound.{Cut, Sound}
use Rattle.layout.proofs.Soundness.{sound, threshold, place_below}
use Rattle.layout.proofs.Choice.{chosen}
use Rattle.plan.specs.declared.Job.{Job}
use Rattle.plan.specs.Planning.{prime, parameters, block_rows, block_inner, block_columns, layout_of}
use Rattle.plan.proofs.Facts.{Fits}
use Rattle.plan.proofs.Sizes.{job_cut, job_sound}
use Rattle.share_side.specs.declared.Matrix.{Matrix}
use Rattle.share_side.specs.declared.Matrix.TheVariants.{A, B}
use Rattle.share_side.specs.declared.Side.{Side}
use Rattle.share_side.specs.Sides.{cut_side, side_exponents}
use Rattle.share_side.proofs.Sides.{block_listed, mask_listed}
use Rattle.share.specs.Sharing.{block_entry, mask_entry, share_entry, share_of}
use Rattle.promise.specs.Layouts.{answer_of, Shown, Layouts}
use Rattle.promise.proofs.Solvable.{solvable_powers}
use Rattle.promise.proofs.Matching.{matched}
use Rattle.promise.proofs.ExactAnswers.{coefficients, answer_is, place_is}

module _ {q : ℕ} (is_prime : Prime q) (g : Parameters) (rows inner columns : ℕ) (e : Exponents) (cut : Cut g) (s : Sound g e) where
  follow : (m : Matrix) → (base : ℕ) × ((y : ℕ) → term e (cut_side m g rows inner columns).masks 0 y ≡ base + y)
  unfolding term
  follow A = (s.first_a, s.masks_a)
  follow B = (s.first_b, s.masks_b)

  shown : Shown q g rows inner columns e
  shown = record {
    hides = λ m group points few xs ys.
        let own : Side = cut_side m g rows inner columns in
        let f = follow m in
        matched e own group
        (solvable_powers is_prime group points.below points.nonzero points.distinct own.mask_count few (term e own.masks 0) f.0 f.1)
        (omega (arith, is_prime.above_one)) xs ys;
    decodes = λ xs below distinct many a ma b mb k j i v hk hj hi hv.
        let cs : ℕ → ℕ = coefficients g rows inner columns e a ma b mb i v in
        let answer : ℕ → ℕ = λ x. get_or (answer_of q g rows inner columns e x a ma b mb) (i * columns + v) 0 in
        recover is_prime xs (map answer xs) below distinct (tab cs e.needed) (omega (arith, length_tab cs e.needed))
        (λ n l. ≈_trans (≈_of_eq (get_d_map answer xs n l)) (answer_is g rows inner columns e a ma b mb i v s (get_or xs n 0) hi hv))
        (e.place k j)
        ∙ ap (λ (n : ℕ). n % q) (get_or_tab cs e.needed (e.place k j) 0 (place_below g e cut s k j hk hj))
        ∙ (place_is g rows inner columns e a ma b mb i v s k j hk hj).same;
  }

pub job_shown : (job : Job) → Fits job
    → Shown (prime job) (parameters job) (block_rows job) (block_inner job) (block_columns job) (exponents (layout_of job) (parameters job))
job_shown job f = shown f.known.is_prime (parameters job) (block_rows job) (block_inner job) (block_columns job) _ (job_cut job f) (job_sound job f)

-- ---- only the listed exponents matter

module _ (e d : Exponents) (s : Side) (same : side_exponents e s ≡ side_exponents d s) where
  -- the lists have the same number at every place
  at : (n : ℕ) → get_or (side_exponents e s) n 0 ≡ get_or (side_exponents d s) n 0
  at n = ap (λ (es : List ℕ). get_or es n 0) same

  same_block : (k l : ℕ) → k < s.grid_rows → l < s.grid_columns → term e s.blocks k l ≡ term d s.blocks k l
  same_block k l hk hl = sym (block_listed e s k l hk hl) ∙ at _ ∙ block_listed d s k l hk hl

  same_mask : (y : ℕ) → y < s.mask_count → term e s.masks 0 y ≡ term d s.masks 0 y
  same_mask y h = sym (mask_listed e s y h) ∙ at _ ∙ mask_listed d s y h

  listed : (q x : ℕ) (xs ms : List ℕ) → share_of q e s x xs ms ≡ share_of q d s x xs ms
  unfolding share_of share_entry
  listed q x xs ms =
      grid_cong (λ i j. share_entry e s x xs ms i j % q) (λ i j. share_entry d s x xs ms i j % q) s.block_rows s.block_columns
      (λ i j hi hj.
      ap₂ (λ (b m : ℕ). (b + m) % q)
      (sum_cong s.grid_rows _ _ (λ k hk. sum_cong s.grid_columns _ _ (λ l hl. ap (λ (n : ℕ). block_entry s xs k l i j * x ^ n) (same_block k l hk hl))))
      (sum_cong s.mask_count _ _ (λ y hy. ap (λ (n : ℕ). mask_entry s ms y i j * x ^ n) (same_mask y hy))))

pub layouts : Layouts
layouts = record {
  shown = λ q is_prime. shown is_prime;
  listed = listed;
  sound = sound;
  threshold = threshold;
  chosen = chosen;
}
