-- `masks::find_words` meets its contract.
use mathlib.Core.Path.{◌≡◌, ap, ◌∙◌}
use Prim.Native.Nat.{ℕ, ◌+◌, ◌-◌, ◌≤◌}
use native.Mathlib.Omega.{arith}
use lib.ListN.{length, take, drop, length-drop}
use lib.Seq.{length-take-le}
use Rattle.field.specs.Modulus.{prime}
use Rattle.std.specs.Prelude.{Ok}
use Rattle.masks.specs.Drawing.{kept}
use Rattle.masks.proofs.Steps.{kept_few}
use Rattle.masks.proofs.Loops.{searched_part, searched_few, searched_all}
use Rattle.masks.proofs.Outcomes.{found_few, found_enough}
use Rattle.masks.proofs.find_words.Goals as goal
use Rattle.masks.proofs.find_words.Goals.{After-count_usable-left}

pub returns-then-words-end : goal.returns-then-words-end
returns-then-words-end c = found_few _ _ _ (searched_few c.loop-left.invariant.so_far (omega arith))

-- the words that are counted: as many as there are elements left, and no more of them are usable
counted : (c : After-count_usable-left) → c.count_usable-left.result ≡ length (kept (prime c.args.modulus) (take c.loop-left.left (drop c.loop-left.end c.args.words.now)))
counted c =
    let size : c.loop-left.end + c.loop-left.left - c.loop-left.end ≡ c.loop-left.left = omega arith in
    c.count_usable-left.ensures ∙ ap (λ (n : ℕ). length (kept (prime c.args.modulus) (take n (drop c.loop-left.end c.args.words.now)))) size

few : (c : After-count_usable-left) → c.count_usable-left.result ≤ c.loop-left.left
few c =
    let words = c.args.words.now in
    let l = c.loop-left in
    let rest = drop l.end words in
    let size : l.left ≤ length rest = omega (arith, length-drop l.end words) in
    omega (arith, counted c, kept_few (prime c.args.modulus) (take l.left rest), length-take-le l.left rest size)

pub overflow_sub-left : goal.overflow_sub-left
overflow_sub-left c = few c

pub loop-left-preserved : goal.loop-left-preserved
loop-left-preserved c =
    record { few = omega arith; so_far = searched_part c.loop-left.invariant.so_far (omega arith) (counted (goal.at.loop-left-preserved c).After-count_usable-left) }

pub returns : goal.returns
returns c =
    let all = searched_all c.loop-left.invariant.so_far (omega arith) in
    ap Ok all.0 ∙ found_enough _ _ _ all.1
