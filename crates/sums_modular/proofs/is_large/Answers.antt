-- `sums_modular::is_large` meets its contract.
use mathlib.Core.Path.{ap}
use Prim.Native.Nat.{◌^◌}
use lib.Dec.{leb}
use Rattle.sums_modular.specs.Internal.{large}
use Rattle.sums_modular.proofs.is_large.Goals as goal

pub returns : goal.returns
unfolding large
returns c = ap (leb (2 ^ 26)) c.prime_of.ensures
