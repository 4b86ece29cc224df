-- Laws of strides.
--
--   less_one                    one row less
--   follows_first               layout 1 has A outside
--   follows_second              layout 2 has B outside
--   follows_third               layout 3 has its masks last
--   exponent_is                 the strides' exponents are the layout's
use Rattle.std.proofs.Common.{◌≡◌, ℕ, zero, suc, ◌+◌, ◌-◌, ◌*◌, ◌^◌, ◌<◌, sym, refl, ap, ◌∙◌, mod-eq_of_lt, arith}
use Rattle.layout.specs.declared.Parameters.{Parameters}
use Rattle.layout.specs.declared.Series.{Series}
use Rattle.layout.specs.declared.Series.TheVariants.{BlocksA, MasksA, BlocksB, MasksB, Places}
use Rattle.layout.specs.declared.Strides.{Strides}
use Rattle.layout.specs.declared.Layout.TheVariants.{First, Second}
use Rattle.layout.specs.Exponents.{Exponents, exponents, layout1, layout2, layout3, stride_d, stride_e, term}
use Rattle.layout.specs.Internal.{exponent_by, Follows, Nested}

pub less_one : (o s : ℕ) → o * s - s ≡ (o - 1) * s
less_one zero s = omega arith
less_one (suc o) s = let e : suc o - 1 ≡ o = omega arith in omega (arith, ap (λ (k : ℕ). k * s) e)

-- j p - 1 with j from 1
last_term : (j p : ℕ) → (j + 1) * p - 1 ≡ j * p + (p - 1)
last_term j zero = omega arith
last_term j (suc p) = omega arith

module _ (g : Parameters) (s : Strides) where
  pub follows_first : Nested g.m g.p g.n g.xa g.xb s → Follows s g (exponents First g)
  unfolding exponents layout1 stride_d
  follows_first h = record {
    p = h.inner_p;
    block_a = λ k l. ap (λ (d : ℕ). k * d + l) (sym h.stride);
    mask_a = λ x. ap (λ (d : ℕ). (g.m - 1) * d + g.n * g.p + x) (sym h.stride) ∙ ap (λ (d : ℕ). d + x) (sym h.outer_mask);
    block_b = λ l j. ap (λ (d : ℕ). j * d + (g.p - 1 - l)) (sym h.inner_stride);
    mask_b = λ x. ap (λ (d : ℕ). d + x) (sym h.inner_mask);
    place = λ k j. omega (arith, ap (λ (d : ℕ). k * d) h.stride, ap (λ (d : ℕ). j * d) h.inner_stride, last_term j g.p);
    needed = ap (λ (d : ℕ). (g.m + 1) * d + g.xa - g.xb - 1) (sym h.stride) ∙ sym h.needed;
    small_mask_a = h.small_outer;
    small_mask_b = h.small_inner;
  }

  pub follows_second : Nested g.n g.p g.m g.xb g.xa s
      → Follows (record { stride_a = s.stride_b; mask_a = s.mask_b; stride_b = s.stride_a; mask_b = s.mask_a; p = s.p; needed = s.needed }) g (exponents Second g)
  unfolding exponents layout2 stride_e
  follows_second h = record {
    p = h.inner_p;
    block_a = λ k l. ap (λ (d : ℕ). k * d + l) (sym h.inner_stride);
    mask_a = λ x. ap (λ (d : ℕ). d + x) (sym h.inner_mask);
    block_b = λ l j. ap (λ (d : ℕ). j * d + (g.p - 1 - l)) (sym h.stride);
    mask_b = λ x. ap (λ (d : ℕ). (g.n - 1) * d + g.m * g.p + x) (sym h.stride) ∙ ap (λ (d : ℕ). d + x) (sym h.outer_mask);
    place = λ k j. omega (arith, ap (λ (d : ℕ). j * d) h.stride, ap (λ (d : ℕ). k * d) h.inner_stride, last_term k g.p);
    needed = ap (λ (d : ℕ). (g.n + 1) * d + g.xb - g.xa - 1) (sym h.stride) ∙ sym h.needed;
    small_mask_a = h.small_inner;
    small_mask_b = h.small_outer;
  }

pub follows_third : (g : Parameters) (stride blocks needed : ℕ) → stride ≡ g.n * g.p + 0 → blocks ≡ g.m * stride + 0
    → needed ≡ 2 * blocks + g.xa + g.xb - 1 → blocks < 2 ^ 25
    → Follows (record { stride_a = stride; mask_a = blocks; stride_b = g.p; mask_b = blocks; p = g.p; needed = needed }) g (layout3 g)
unfolding layout3
follows_third g stride blocks needed is-stride is-blocks is-needed small =
    let row : g.n * g.p ≡ stride = omega arith in
    let all : g.m * (g.n * g.p) ≡ blocks = ap (λ (d : ℕ). g.m * d) row ∙ omega arith in
    record {
      p = refl;
      block_a = λ k l. ap (λ (d : ℕ). k * d + l) row;
      mask_a = λ x. ap (λ (d : ℕ). d + x) all;
      block_b = λ l j. refl;
      mask_b = λ x. ap (λ (d : ℕ). d + x) all;
      place = λ k j. omega (arith, ap (λ (d : ℕ). k * d) row, last_term j g.p);
      needed = omega (arith, all);
      small_mask_a = small;
      small_mask_b = small;
    }

module _ {s : Strides} {g : Parameters} {e : Exponents} (f : Follows s g e) where
  pub exponent_is : (series : Series) (i j : ℕ) → j < 2 ^ 8 → exponent_by s series i j ≡ term e series i j
  unfolding exponent_by term
  exponent_is BlocksA i j h = sym (f.block_a i j)
  exponent_is MasksA i j h = mod-eq_of_lt (omega (arith, f.small_mask_a)) ∙ sym (f.mask_a j)
  exponent_is BlocksB i j h = ap (λ (p : ℕ). j * s.stride_b + (p - 1 - i)) f.p ∙ sym (f.block_b i j)
  exponent_is MasksB i j h = mod-eq_of_lt (omega (arith, f.small_mask_b)) ∙ sym (f.mask_b j)
  exponent_is Places i j h = ap (λ (p : ℕ). i * s.stride_a + (j * s.stride_b + (p - 1))) f.p ∙ sym (f.place i j)
