-- `page::fill_long` meets its contract.
use mathlib.Core.Path.{◌≡◌, ap, ap₂, ◌∙◌}
use mathlib.Core.List.{◌++◌}
use Prim.Native.Nat.{ℕ, ◌/◌}
use native.Mathlib.Omega.{arith}
use lib.ListN.{length}
use Rattle.algebra.specs.Lists.{tab}
use Rattle.text.specs.Internal.{last_digits}
use Rattle.text.proofs.Decimals.{decimal_short}
use Rattle.page.specs.Page.{spaces, cell}
use Rattle.page.proofs.Cells.{short_cell, long_cell}
use Rattle.page.proofs.fill_long.Goals as goal
use Rattle.page.proofs.fill_long.Goals.{After-split_at_mut-front}

-- the last five bytes
five : (c : After-split_at_mut-front) → length c.split_at_mut-front.result.1.now ≡ 5
five c = omega (arith, c.split_at_mut-front.ensures.back_len, c.requires)

pub fill_short-requires : goal.fill_short-requires
fill_short-requires c = omega (arith, five (goal.at.fill_short-requires c).After-split_at_mut-front, decimal_short c.args.n (omega arith))

pub fill_short-requires-else-n-lt-LARGE : goal.fill_short-requires-else-n-lt-LARGE
fill_short-requires-else-n-lt-LARGE c =
    omega (arith, c.split_at_mut-front.ensures.front_len, decimal_short (c.args.n / 100000) (omega arith))

pub returns-then-n-lt-LARGE : goal.returns-then-n-lt-LARGE
unfolding spaces
returns-then-n-lt-LARGE c =
    let n = c.args.n in
    let back = five (goal.at.returns-then-n-lt-LARGE c).After-split_at_mut-front in
    ap₂ ◌++◌ (c.fill.ensures ∙ ap (tab (λ i. 32)) c.split_at_mut-front.ensures.front_len) (c.fill_short.ensures ∙ ap (λ (k : ℕ). cell k n) back)
    ∙ short_cell n (omega arith)

pub returns-else-n-lt-LARGE : goal.returns-else-n-lt-LARGE
returns-else-n-lt-LARGE c =
    let n = c.args.n in
    let back = five (goal.at.returns-else-n-lt-LARGE c).After-split_at_mut-front in
    ap₂ ◌++◌ (c.fill_short-else-n-lt-LARGE.ensures ∙ ap (λ (k : ℕ). cell k (n / 100000)) c.split_at_mut-front.ensures.front_len)
    (c.put_last_digits.ensures ∙ ap (λ (k : ℕ). last_digits k n) back)
    ∙ long_cell n (omega arith) (omega arith)
