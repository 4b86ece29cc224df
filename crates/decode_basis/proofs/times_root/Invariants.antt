-- `decode_basis::times_root` meets its contract.
use mathlib.Core.Path.{◌≡◌}
use mathlib.Core.List.{◌∷◌, ◌++◌}
use Prim.Native.Nat.{ℕ, ◌-◌, ◌%◌}
use lib.ListN.{get_or, drop}
use Rattle.algebra.specs.Lists.{tab}
use Rattle.algebra.specs.Polynomials.{add_root}
use Rattle.field.specs.Modulus.{prime}
use Rattle.decode_basis.proofs.times_root.Given as goal

abbrev pub invariant-loop-c : goal.invariant-loop-c
invariant-loop-c l =
    let q = prime l.modulus in
    record {
      is : l.cs ≡ tab (λ (e : ℕ). get_or (add_root (q - l.y % q) l.initial.cs) e 0 % q) l.c-index ++ drop l.c-index l.initial.cs;
      last : l.before ≡ get_or (0 ∷ l.initial.cs) l.c-index 0;
    }
