-- `text::Writer::put_decimal` meets its contract.
use mathlib.Core.List.{List, ◌++◌}
use mathlib.Core.Path.{◌≡◌, sym, ap, ap₂, ◌∙◌}
use Prim.Native.Nat.{ℕ, ◌-◌}
use native.Mathlib.Omega.{arith}
use lib.ListN.{length, take, drop, replicate}
use lib.Seq.{take_all, drop_at, length-take-le}
use Rattle.text.specs.Decimal.{decimal}
use Rattle.text.specs.Internal.{put_last}
use Rattle.text.proofs.Decimals.{decimal_length}
use Rattle.text.proofs.Writer.put_decimal.Goals as goal

-- the digits that are handed on
handed : (n start : ℕ) (digits : List ℕ) → start ≡ 10 - length (decimal n) → digits ≡ put_last (replicate 10 48) (decimal n)
    → take (10 - start) (drop start digits) ≡ decimal n
unfolding put_last
handed n start digits first is =
    let zeros : List ℕ = replicate 10 48 in
    let few = decimal_length n in
    let none : length (decimal n) - 10 ≡ 0 = omega arith in
    ap (λ (xs : List ℕ). take (10 - start) (drop start xs)) (is ∙ ap₂ (λ (k m : ℕ). take k zeros ++ drop m (decimal n)) (sym first) none)
    ∙ ap (take (10 - start)) (drop_at (take start zeros) (decimal n) start (length-take-le start zeros (omega arith)))
    ∙ take_all (10 - start) (decimal n) (omega arith)

pub returns : goal.returns
returns c =
    let digits = c.put_digits-start.ensures in
    let is = handed c.args.n _ _ digits.start digits.digits in
    record { written = rw is at c.put.ensures.written; nothing = rw is at c.put.ensures.nothing }
