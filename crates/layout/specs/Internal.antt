-- How the code holds a layout: every exponent is a row number times a stride, plus what the rest gives.
--
--   exponent_by s series i j == the exponent or place that the strides s give, a mask's in 32 bits
--   Follows s g e           == the strides s, for the parameters g, give the exponents e
--   Nested outer p inner .. == the strides of a layout by its outer side, taken for A, and its inner side, taken for B
use Rattle.std.specs.Prelude.{◌≡◌, ℕ, ◌+◌, ◌-◌, ◌*◌, ◌%◌, ◌^◌, ◌<◌}
use Rattle.layout.specs.declared.Parameters.{Parameters}
use Rattle.layout.specs.declared.Series.{Series}
use Rattle.layout.specs.declared.Series.TheVariants.{BlocksA, MasksA, BlocksB, MasksB, Places}
use Rattle.layout.specs.declared.Strides.{Strides}
use Rattle.layout.specs.Exponents.{Exponents}

unfoldable pub exponent_by : Strides → Series → ℕ → ℕ → ℕ
exponent_by s BlocksA i j = i * s.stride_a + j
exponent_by s MasksA i j = (s.mask_a + j) % 2 ^ 32
exponent_by s BlocksB i j = j * s.stride_b + (s.p - 1 - i)
exponent_by s MasksB i j = (s.mask_b + j) % 2 ^ 32
exponent_by s Places i j = i * s.stride_a + (j * s.stride_b + (s.p - 1))

pub record Follows (s : Strides) (g : Parameters) (e : Exponents) : Type 0 where
  pub p : s.p ≡ g.p
  pub block_a : (k l : ℕ) → e.block_a k l ≡ k * s.stride_a + l
  pub mask_a : (x : ℕ) → e.mask_a x ≡ s.mask_a + x
  pub block_b : (l j : ℕ) → e.block_b l j ≡ j * s.stride_b + (g.p - 1 - l)
  pub mask_b : (x : ℕ) → e.mask_b x ≡ s.mask_b + x
  pub place : (k j : ℕ) → e.place k j ≡ k * s.stride_a + (j * s.stride_b + (g.p - 1))
  pub needed : e.needed ≡ s.needed
  pub small_mask_a : s.mask_a < 2 ^ 25
  pub small_mask_b : s.mask_b < 2 ^ 25

pub record Nested (outer p inner outer-masks inner-masks : ℕ) (s : Strides) : Type 0 where
  pub stride : s.stride_a ≡ inner * p + inner-masks
  pub inner_stride : s.stride_b ≡ p
  pub inner_p : s.p ≡ p
  pub outer_mask : s.mask_a ≡ (outer - 1) * s.stride_a + inner * p
  pub inner_mask : s.mask_b ≡ inner * p
  pub needed : s.needed ≡ (outer + 1) * s.stride_a + outer-masks - inner-masks - 1
  pub small_outer : s.mask_a < 2 ^ 25
  pub small_inner : s.mask_b < 2 ^ 25
