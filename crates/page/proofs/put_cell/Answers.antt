-- `page::put_cell` meets its contract.
use mathlib.Core.Path.{◌≡◌, ap, ◌∙◌}
use Prim.Native.Nat.{ℕ, ◌+◌, ◌-◌, ◌<◌}
use native.Mathlib.Omega.{arith}
use lib.ListN.{length, take, drop, length-drop}
use lib.Seq.{length-take-le}
use Rattle.text.specs.declared.Writer.{Writer}
use Rattle.text.proofs.Decimals.{decimal_some}
use Rattle.text.proofs.Writes.{writes_part}
use Rattle.page.specs.Page.{cell}
use Rattle.page.proofs.Lengths.{length_cell}
use Rattle.page.proofs.put_cell.Goals as goal
use Rattle.page.proofs.put_cell.Goals.{then-at-w+then-width-w, else-at-w, else-at-w-via-then-at-w+else-width-w, else-at-w-via-else-at-w}

pub returns : goal.returns
returns c =
    let a = c.args in
    let w = a.w.now in
    let wide = length_cell a.width a.n c.requires in
    let some = decimal_some a.n in
    elim c.if-at-w.branch [
      | then-at-w+then-width-w b ↦
          let part : length (take (w.at + a.width - w.at) (drop w.at w.out.now)) ≡ a.width
          = length-take-le (w.at + a.width - w.at) (drop w.at w.out.now) (omega (arith, length-drop w.at w.out.now)) ∙ omega arith in
          writes_part w (cell a.width a.n) (omega arith) (b.fill_cell.ensures ∙ ap (λ (k : ℕ). cell k a.n) part) (omega arith)
          (ap (λ (x : Writer). x.out.ghost_name) b.w-is) (ap (λ (x : Writer). x.out.now) b.w-is) (omega arith)
      | else-at-w b ↦
          let none : length w.out.now < w.at + a.width = elim b.else-at-w.branch [
            | else-at-w-via-then-at-w+else-width-w e ↦ omega arith
            | else-at-w-via-else-at-w e ↦ omega arith
          ] in
          record {
            same_reference = ap (λ (x : Writer). x.out.ghost_name) b.w-is;
            kept = ap (λ (x : Writer). length x.out.now) b.w-is;
            within = λ h. omega arith;
            is = λ fits. absurd (omega arith);
            behind = λ fits. absurd (omega arith);
          }
    ]
