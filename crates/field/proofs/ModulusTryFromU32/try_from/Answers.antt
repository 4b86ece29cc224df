-- `field::Modulus::try_from` meets its contract.
use mathlib.Core.Path.{◌≡◌, refl}
use native.Mathlib.Omega.{arith}
use lib.ListN.{length}
use Rattle.refusal.specs.Chain.{outside}
use Rattle.refusal.proofs.Chains.{over}
use Rattle.field.specs.declared.Modulus.TheVariants.{Q13, Q257, Q65537, Q2147483647}
use Rattle.field.specs.Modulus.{moduli, no_modulus}
use Rattle.field.proofs.Moduli.{named_unknown, named_known}
use Rattle.field.proofs.ModulusTryFromU32.try_from.Goals as goal

pub returns-in-1 : goal.returns-in-1
returns-in-1 c = rw c.in-1.is (named_known Q13)

pub returns-in-2 : goal.returns-in-2
returns-in-2 c = rw c.in-2.is (named_known Q257)

pub returns-in-3 : goal.returns-in-3
returns-in-3 c = rw c.in-3.is (named_known Q65537)

pub returns-in-4 : goal.returns-in-4
returns-in-4 c = rw c.in-4.is (named_known Q2147483647)

pub returns-in-0 : goal.returns-in-0
unfolding no_modulus moduli outside
returns-in-0 c = let none : c.args.number ≡ 0 = omega arith in rw none (named_unknown 0 refl)

pub returns-in-0-2 : goal.returns-in-0-2
unfolding no_modulus moduli
returns-in-0-2 c = let n = c.args.number in named_unknown n (over 1 (length moduli) n (omega arith) (omega arith))
