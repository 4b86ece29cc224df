-- The layouts are sound, for any cuts and group sizes.
--
--   digits           two numbers in the base d are equal: so are their digits
--   sound1           layout 1
--   sound2           layout 2, which is layout 1 with A and B changed over
--   sound3           layout 3, whose blocks are those of layout 1 with no mask between
--   sound            every layout
--   threshold        K is one more than the largest sum
--   place_below      in a sound layout every place is below K
use Rattle.std.proofs.Common.{◌≡◌, ℕ, suc, ◌+◌, ◌-◌, ◌*◌, ◌/◌, ◌%◌, ◌<◌, ◌≤◌, sym, refl, ap, ◌∙◌, ⊎_elim, mul-le-mul_right, arith}
use lib.Arith.{digits_div, digits_mod}
use Rattle.algebra.proofs.Orders.{le_or_lt}
use Rattle.layout.specs.declared.Parameters.{Parameters}
use Rattle.layout.specs.declared.Layout.{Layout}
use Rattle.layout.specs.declared.Layout.TheVariants.{First, Second, Third}
use Rattle.layout.specs.Exponents.{Exponents, exponents, layout1, layout2, layout3, stride_d, stride_e}
use Rattle.layout.specs.Sound.{Cut, Sound, Threshold}

digits : (d a b u v : ℕ) → u < d → v < d → a * d + u ≡ b * d + v → (a ≡ b) × (u ≡ v)
digits d a b u v hu hv e =
    (sym (digits_div a hu) ∙ ap (λ (k : ℕ). k / d) e ∙ digits_div b hv, sym (digits_mod a hu) ∙ ap (λ (k : ℕ). k % d) e ∙ digits_mod b hv)

-- u runs over by less than r, and v is at least r: then the leading digits are the same all the same
leading : (d r a b u v : ℕ) → u < d + r → v < d → r ≤ v → a * d + u ≡ b * d + v → (a ≡ b) × (u ≡ v)
leading d r a b u v hu hv low e = ⊎_elim over under (le_or_lt d u)
  where
    under : u < d → (a ≡ b) × (u ≡ v)
    under h = digits d a b u v h hv e

    over : d ≤ u → (a ≡ b) × (u ≡ v)
    over h =
        let w : ℕ = u - d in
        let same = digits d (suc a) b w v (omega arith) hv (omega arith) in
        let clash : w ≡ v = same.1 in
        omega arith

-- one row less, times the stride
rows : (k m d : ℕ) → k < m → k * d ≤ (m - 1) * d
rows k m d h = let l : k ≤ m - 1 = omega arith in mul-le-mul_right d l

-- all rows but the last, and the last
last_row : (m d : ℕ) → 1 ≤ m → (m - 1) * d + d ≡ m * d
last_row m d h = let e : (m - 1) + 1 ≡ m = omega arith in omega (arith, ap (λ (k : ℕ). k * d) e)

-- ---- the layouts

module _ (g : Parameters) (cut : Cut g) where
  d : ℕ
  d = stride_d g

  stride : d ≡ g.n * g.p + g.xb
  unfolding d stride_d
  stride = refl

  -- a place within its row
  in_row : (v : ℕ) → v < g.n → (v + 1) * g.p - 1 < g.n * g.p
  in_row v h = omega (arith, rows v g.n g.p h, last_row g.n g.p cut.n, cut.p)

  pub sound1 : Sound g (layout1 g)
  unfolding layout1 d
  sound1 = record {
    first_a = (g.m - 1) * d + g.n * g.p;
    first_b = g.n * g.p;
    masks_a = λ x. refl;
    masks_b = λ x. refl;
    meet = λ k l j hk hl hj. omega arith;
    only = λ k l h j u v hk hl hh hj hu hv e.
        let in-d : l + (j * g.p + (g.p - 1 - h)) < d + (g.p - 1) = omega (arith, rows j g.n g.p hj, last_row g.n g.p cut.n, stride) in
        let lead = leading d (g.p - 1) k u _ ((v + 1) * g.p - 1) in-d (omega (arith, in_row v hv, stride)) (omega arith) (omega arith) in
        let low = digits g.p j v l h hl hh (omega (arith, lead.1)) in
        (lead.0, low.1, low.0);
    clear_a = λ x l j u v hx hl hj hu hv e. omega (arith, rows u g.m d hu, in_row v hv);
    clear_b = λ k l y u v hk hl hy hu hv e.
        let in-d : l + (g.n * g.p + y) < d + (g.p - 1) = omega (arith, stride) in
        let lead = leading d (g.p - 1) k u _ ((v + 1) * g.p - 1) in-d (omega (arith, in_row v hv, stride)) (omega arith) (omega arith) in
        omega (arith, lead.1, in_row v hv);
    clear_ab = λ x y u v hx hy hu hv e. omega (arith, rows u g.m d hu, in_row v hv);
    bounded = record {
      below = λ k l h j hk hl hh hj.
          omega (arith, rows k g.m d hk, last_row g.m d cut.m, rows j g.n g.p hj, last_row g.n g.p cut.n, stride);
      below_a = λ x l j hx hl hj. omega (arith, last_row g.m d cut.m, rows j g.n g.p hj, last_row g.n g.p cut.n, stride);
      below_b = λ k l y hk hl hy. omega (arith, rows k g.m d hk, last_row g.m d cut.m, last_row g.n g.p cut.n, stride);
      below_ab = λ x y hx hy. omega (arith, last_row g.m d cut.m, stride);
    };
  }

  -- the last masks' sum
  reached1 : 1 ≤ g.xa → 1 ≤ g.xb → suc ((layout1 g).mask_a (g.xa - 1) + (layout1 g).mask_b (g.xb - 1)) ≡ (layout1 g).needed
  unfolding layout1 d
  reached1 ha hb = omega (arith, last_row g.m d cut.m, stride)

-- layout 2 is layout 1 with A and B changed over: B is cut n by p from the back, l becomes p - 1 - l
over : Parameters → Parameters
over g = record { m = g.n; p = g.p; n = g.m; xa = g.xb; xb = g.xa }

cut_over : (g : Parameters) → Cut g → Cut (over g)
unfolding over
cut_over g cut = record { m = cut.n; p = cut.p; n = cut.m }

module _ (g : Parameters) (cut : Cut g) where
  turned : Sound (over g) (layout1 (over g))
  turned = sound1 (over g) (cut_over g cut)

  pub sound2 : Sound g (layout2 g)
  unfolding layout1 layout2 stride_d stride_e over
  sound2 =
      let s = turned in
      let p = g.p in
      record {
        first_a = s.first_b;
        first_b = s.first_a;
        masks_a = s.masks_b;
        masks_b = s.masks_a;
        meet = λ k l j hk hl hj. omega arith;
        only = λ k l h j u v hk hl hh hj hu hv e.
            let t = s.only j (p - 1 - h) (p - 1 - l) k v u hj (omega arith) (omega arith) hk hv hu (omega arith) in
            (t.2, omega (arith, t.1), t.0);
        clear_a = λ x l j u v hx hl hj hu hv e. s.clear_b j (p - 1 - l) x v u hj (omega arith) hx hv hu (omega arith);
        clear_b = λ k l y u v hk hl hy hu hv e. s.clear_a y (p - 1 - l) k v u hy (omega arith) hk hv hu (omega arith);
        clear_ab = λ x y u v hx hy hu hv e. s.clear_ab y x v u hy hx hv hu (omega arith);
        bounded = record {
          below = λ k l h j hk hl hh hj. omega (arith, s.bounded.below j (p - 1 - h) (p - 1 - l) k hj (omega arith) (omega arith) hk);
          below_a = λ x l j hx hl hj. omega (arith, s.bounded.below_b j (p - 1 - l) x hj (omega arith) hx);
          below_b = λ k l y hk hl hy. omega (arith, s.bounded.below_a y (p - 1 - l) k hy (omega arith) hk);
          below_ab = λ x y hx hy. omega (arith, s.bounded.below_ab y x hy hx);
        };
      }

-- layout 3 has the blocks and places of layout 1 with no mask between: its stride is np
bare : Parameters → Parameters
bare g = record { m = g.m; p = g.p; n = g.n; xa = g.xa; xb = 0 }

cut_bare : (g : Parameters) → Cut g → Cut (bare g)
unfolding bare
cut_bare g cut = record { m = cut.m; p = cut.p; n = cut.n }

module _ (g : Parameters) (cut : Cut g) where
  row : ℕ
  row = g.n * g.p

  -- no place reaches the masks
  place_low : (u v : ℕ) → u < g.m → v < g.n → u * row + ((v + 1) * g.p - 1) < g.m * row
  unfolding row
  place_low u v hu hv = omega (arith, rows u g.m (g.n * g.p) hu, last_row g.m (g.n * g.p) cut.m, in_row g cut v hv)

  pub sound3 : Sound g (layout3 g)
  unfolding layout3 layout1 stride_d bare row
  sound3 =
      let s = sound1 (bare g) (cut_bare g cut) in
      let all = last_row g.m row cut.m in
      let one = last_row g.n g.p cut.n in
      record {
        first_a = g.m * row;
        first_b = g.m * row;
        masks_a = λ x. refl;
        masks_b = λ x. refl;
        meet = λ k l j hk hl hj. omega arith;
        only = λ k l h j u v hk hl hh hj hu hv e. s.only k l h j u v hk hl hh hj hu hv (omega arith);
        clear_a = λ x l j u v hx hl hj hu hv e. omega (arith, place_low u v hu hv);
        clear_b = λ k l y u v hk hl hy hu hv e. omega (arith, place_low u v hu hv);
        clear_ab = λ x y u v hx hy hu hv e. omega (arith, place_low u v hu hv);
        bounded = record {
          below = λ k l h j hk hl hh hj. omega (arith, rows k g.m row hk, all, rows j g.n g.p hj, one);
          below_a = λ x l j hx hl hj. omega (arith, all, rows j g.n g.p hj, one);
          below_b = λ k l y hk hl hy. omega (arith, rows k g.m row hk, all, one);
          below_ab = λ x y hx hy. omega arith;
        };
      }

pub sound : (layout : Layout) (g : Parameters) → Cut g → Sound g (exponents layout g)
unfolding exponents
sound First = sound1
sound Second = sound2
sound Third = sound3

pub threshold : (layout : Layout) (g : Parameters) → Cut g → 1 ≤ g.xa → 1 ≤ g.xb → Threshold g (exponents layout g)
unfolding exponents layout1 layout2 layout3 stride_d stride_e over
threshold First g cut ha hb = record { bounded = (sound1 g cut).bounded; reached = reached1 g cut ha hb }
threshold Second g cut ha hb = record { bounded = (sound2 g cut).bounded; reached = omega (arith, reached1 (over g) (cut_over g cut) hb ha) }
threshold Third g cut ha hb = record { bounded = (sound3 g cut).bounded; reached = omega arith }

pub place_below : (g : Parameters) (e : Exponents) → Cut g → Sound g e → (k j : ℕ) → k < g.m → j < g.n → e.place k j < e.needed
place_below g e cut s k j hk hj = omega (arith, s.meet k 0 j hk cut.p hj, s.bounded.below k 0 0 j hk cut.p cut.p hj)
