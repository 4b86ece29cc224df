-- `decode_basis::divide_root` meets its contract.
use mathlib.Core.Path.{◌≡◌}
use lib.ListN.{length, drop}
use Rattle.algebra.specs.Lists.{tab}
use Rattle.field.specs.Modulus.{prime}
use Rattle.decode_basis.proofs.Steps.{after}
use Rattle.decode_basis.proofs.divide_root.Given as goal

abbrev pub invariant-loop-e : goal.invariant-loop-e
invariant-loop-e l =
    let n = length l.initial.out in
    record {
      is : drop l.e l.out ≡ drop l.e (tab (after (prime l.modulus) l.x l.cs n) n);
      last : l.value ≡ after (prime l.modulus) l.x l.cs n l.e;
    }
