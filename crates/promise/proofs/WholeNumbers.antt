-- The product modulo q as whole numbers (01, "Signed reading"; 02, U4).
--
--   whole_numbers    AB modulo q tells the exact entries of AB
use mathlib.Core.Path.{◌≡◌, sym, ap, ◌∙◌}
use mathlib.Core.List.{List}
use Prim.Native.Nat.{ℕ, suc, ◌+◌, ◌*◌, ◌%◌, ◌<◌, ◌≤◌}
use native.Mathlib.Nat.{mul-le-mul, mod-eq_of_lt, le_of_suc-le-suc, lt_of_le_of_lt}
use native.Mathlib.Omega.{arith}
use lib.IntN.{pos}
use Rattle.algebra.specs.Lists.{entry, AllBelow}
use Rattle.algebra.proofs.Lists.{below_anywhere}
use Rattle.algebra.proofs.Grids.{entry_grid}
use Rattle.algebra.proofs.Sums.{sum_bound}
use Rattle.plan.specs.Planning.{prime}
use Rattle.plan.proofs.Facts.{Fits, facts}
use Rattle.product.specs.Product.{product_entry, product_of}
use Rattle.field_signed.specs.Signed.{signed_outcome, signed_told, Exact}
use Rattle.field_signed.proofs.Exactness.{exact_reading}
use Rattle.promise.specs.Demand3.{Task, Accepted}
use Rattle.promise.specs.WholeNumbers.{exact_entry, WholeNumbers}

module _ (x : Task) (ok : Accepted x) where
  fits : Fits x.job
  fits = (facts x.job x.points ok.planned).fits

  holds : Exact (prime x.job)
  holds = exact_reading.exact (prime x.job) fits.known.is_prime.above_one

  product : List ℕ
  product = product_of (prime x.job) x.job.t x.job.s x.job.r x.a x.b

  entry_is : (u v : ℕ) → u < x.job.t → v < x.job.r
      → entry x.job.r product u v ≡ product_entry x.job.s x.job.r x.a x.b u v % prime x.job
  unfolding product product_of
  entry_is u v a b = entry_grid _ x.job.t x.job.r u v a b

  -- an entry of counts up to c times counts up to d
  small : (c d : ℕ) → AllBelow (suc c) x.a → AllBelow (suc d) x.b → (u v : ℕ)
      → product_entry x.job.s x.job.r x.a x.b u v ≤ x.job.s * (c * d)
  unfolding product_entry entry
  small c d ha hb u v =
      sum_bound x.job.s (c * d) _ (λ l h.
      mul-le-mul (le_of_suc-le-suc (below_anywhere (suc c) x.a (omega arith) ha (u * x.job.s + l)))
      (le_of_suc-le-suc (below_anywhere (suc d) x.b (omega arith) hb (l * x.job.r + v))))

  whole : (c d : ℕ) → x.job.s * (c * d) < prime x.job → AllBelow (suc c) x.a → AllBelow (suc d) x.b
      → (u v : ℕ) → u < x.job.t → v < x.job.r → entry x.job.r product u v ≡ product_entry x.job.s x.job.r x.a x.b u v
  whole c d room ha hb u v a b = entry_is u v a b ∙ mod-eq_of_lt (lt_of_le_of_lt (small c d ha hb u v) room)

  pub whole_numbers : WholeNumbers x (product_of (prime x.job) x.job.t x.job.s x.job.r x.a x.b)
  unfolding product exact_entry product_entry prime
  whole_numbers = record {
    reads = λ how range u v a b.
        ap (λ (z : ℕ). signed_told (signed_outcome x.job.modulus z)) (entry_is u v a b)
        ∙ exact_reading.reads x.job.modulus fits.known.is_number how x.job.s _ _ (range u v a b);
    stands = λ how range u v a b.
        let k = range u v a b in
        ap pos (entry_is u v a b ∙ holds.stands how x.job.s _ _ k.0 k.1 k.2) ∙ sym k.2;
    bounded = whole;
    depths = λ e. whole 362 362 (omega (arith, e, fits.ranged.s.high));
    counts = λ e. whole 2 2 (omega (arith, e, fits.ranged.s.high));
  }
