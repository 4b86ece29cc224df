-- `decode_basis::set_one` meets its contract.
use mathlib.Core.Path.{◌≡◌, sym, ap, ◌∙◌}
use mathlib.Core.List.{List}
use Prim.Native.Nat.{ℕ}
use native.Mathlib.Omega.{arith}
use lib.ListN.{length, set, replicate}
use Rattle.algebra.specs.Lists.{tab}
use Rattle.decode_basis.proofs.Steps.{one_is}
use Rattle.decode_basis.proofs.set_one.Goals as goal

pub returns-in-Some : goal.returns-in-Some
returns-in-Some c = ap (λ (xs : List ℕ). set xs 0 1) (c.fill.ensures.after (λ y e. e)) ∙ one_is (length c.args.out.now)

pub returns-in_default : goal.returns-in_default
unfolding tab
returns-in_default c =
    let none : length c.args.out.now ≡ 0 = omega (arith, c.fill.ensures.len, c.in_default.ensures.item) in
    c.fill.ensures.after (λ y e. e) ∙ ap (λ (n : ℕ). replicate n 0) none ∙ sym (ap (tab _) none)
