-- Demand 3 whole (00), and the decoded table as whole numbers.
--
--   demand_3          the demand holds
--   decoded_numbers   the table that a decoding makes from true products tells the exact entries of AB
use mathlib.Core.Path.{refl, sym, subst}
use mathlib.Core.List.{◌∷◌, ◌++◌}
use Rattle.promise.specs.Demand3.{Demand3, decoding}
use Rattle.promise.specs.WholeNumbers.{WholeNumbers, DecodedNumbers}
use Rattle.promise.proofs.Privacy.{hidden}
use Rattle.promise.proofs.Made.{made}
use Rattle.promise.proofs.Yet.{true_fit, yet}
use Rattle.promise.proofs.WholeNumbers.{whole_numbers}

pub demand_3 : Demand3
demand_3 = record {
  hidden = hidden;
  yet = λ x ok ma mb masks-a masks-b store room calls. yet x ok ma mb store room calls;
  true_fit = λ x ok ma mb masks-a masks-b s room i minute low. true_fit x ok ma mb i low s room minute;
  made = λ x ok ma mb masks-a masks-b i low. made x ok i low ma mb masks-a masks-b;
}

pub decoded_numbers : DecodedNumbers
decoded_numbers = record {
  table = λ x ok ma mb masks-a masks-b store room before rest table exact enough true-first.
      subst (WholeNumbers x)
      (sym ((demand_3.yet x ok ma mb masks-a masks-b store room (before ++ (decoding table ∷ rest))).exact before rest table refl exact enough true-first))
      (whole_numbers x ok);
}
