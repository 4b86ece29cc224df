-- Masks drawn from random words (02, U3).
--
--   drawn_masks   the statement of specs/DrawnMasks.antt
use mathlib.Core.Path.{◌≡◌, refl, sym, ap, ◌∙◌, subst}
use mathlib.Core.Bool.{false}
use mathlib.Core.List.{List, []}
use Prim.Native.Nat.{ℕ, ◌≤◌}
use native.Mathlib.Omega.{arith}
use lib.Dec.{ltb}
use lib.ListN.{length}
use borrow.Author.Tests.{ltb-false}
use Rattle.algebra.specs.Lists.{AllBelow}
use Rattle.refusal.specs.Chain.{first}
use Rattle.refusal.proofs.Chains.{first_clear, unless_done}
use Rattle.field.specs.Modulus.{modulus, no_modulus}
use Rattle.field.proofs.Moduli.{known_number}
use Rattle.plan.specs.Planning.{prime}
use Rattle.masks.specs.Drawing.{limit, kept, drawn, draw_tests, masks_after}
use Rattle.masks.proofs.Filled.{filled}
use Rattle.masks.proofs.Uniform.{uniform}
use Rattle.promise.specs.DrawnMasks.{DrawnMasks}

-- a drawing that is carried out: its modulus number is known, and enough words are usable
clear : (n : ℕ) (words out : List ℕ) → first (draw_tests n words (length out)) ≡ 0
    → (no_modulus n ≡ false) × (length out ≤ length (kept (modulus n) words)) × (masks_after n words out ≡ drawn (modulus n) (length out) words)
unfolding draw_tests masks_after
clear n words out e =
    let one = first_clear (no_modulus n) 0 _ e in
    let two = first_clear (ltb (length (kept (modulus n) words)) (length out)) 26 [] one.1 in
    (one.0, ltb-false _ _ two.0, unless_done (draw_tests n words (length out)) _ out e)

pub drawn_masks : DrawnMasks
unfolding limit prime
drawn_masks = record {
  uniform = λ q pos. uniform q pos;
  top = (refl, refl);
  filled = λ q n words pos. filled q pos n words;
  masks = λ m x words out size e.
      let n = x.job.modulus in
      let c = clear n words out e in
      let are = (filled (modulus n) (omega (arith, (known_number n c.0).is_prime.above_one)) (length out) words).masks c.1 in
      record { exact = ap length c.2 ∙ are.0 ∙ size; below = subst (AllBelow (modulus n)) (sym c.2) are.1 };
}
