-- `page::fill_short` meets its contract.
use mathlib.Core.Path.{◌≡◌, ap, ap₂, ◌∙◌}
use mathlib.Core.List.{List, ◌++◌}
use Prim.Native.Nat.{ℕ, ◌-◌, ◌≤◌}
use native.Mathlib.Omega.{arith}
use lib.ListN.{length, take, drop}
use Rattle.algebra.specs.Lists.{tab}
use Rattle.algebra.proofs.Lists.{length_tab, take_tab}
use Rattle.text.specs.Decimal.{decimal}
use Rattle.text.specs.Internal.{put_last}
use Rattle.page.specs.Page.{spaces, cell}
use Rattle.page.proofs.fill_short.Goals as goal

-- digits at the end of spaces
filled : (width n : ℕ) (blank : List ℕ) → blank ≡ tab (λ i. 32) width → length (decimal n) ≤ width → put_last blank (decimal n) ≡ cell width n
unfolding put_last cell spaces
filled width n blank is room =
    let wide : length blank ≡ width = ap length is ∙ length_tab {A = ℕ} (λ i. 32) width in
    let none : length (decimal n) - length blank ≡ 0 = omega arith in
    ap₂ (λ (k m : ℕ). take (k - length (decimal n)) blank ++ drop m (decimal n)) wide none
    ∙ ap (λ (xs : List ℕ). take (width - length (decimal n)) xs ++ decimal n) is
    ∙ ap (λ (xs : List ℕ). xs ++ decimal n) (take_tab {A = ℕ} (λ i. 32) (width - length (decimal n)) width (omega arith))

pub returns : goal.returns
returns c =
    let blank = c.fill in
    let a = c.args in
    c.put_digits.ensures.digits ∙ filled (length a.out.now) a.n _ blank.ensures c.requires
