-- `decode_table::table_pieces` meets its contract.
use mathlib.Core.Path.{◌≡◌, sym, ap, ◌∙◌}
use Prim.Native.Nat.{ℕ}
use native.Mathlib.Omega.{arith}
use lib.ListN.{length}
use Rattle.algebra.specs.Lists.{tab}
use Rattle.field.specs.Modulus.{prime}
use Rattle.sums.specs.Internal.{zeros}
use Rattle.decode_table.proofs.Fits.{fit_told, table_made, table_stays}
use Rattle.decode_table.proofs.table_pieces.Goals as goal
use Rattle.decode_table.proofs.table_pieces.Goals.{then-not-misfit, else-not-misfit}

pub invariant_of-answers : goal.invariant_of-answers
invariant_of-answers c =
    let a = c.args in
    let fit = fit_told a.s (length a.indices.now) (length a.weights.now) (length a.sums.now) (length a.table.now) (sym c.misfit.ensures ∙ c.if-not-misfit.true) in
    record { weighted = record { sized = fit.sized; each = fit.each } }

pub put_pieces-requires : goal.put_pieces-requires
put_pieces-requires c =
    let a = c.args in
    let fit = fit_told a.s (length a.indices.now) (length a.weights.now) (length a.sums.now) (length a.table.now) (sym c.misfit.ensures ∙ c.if-not-misfit.true) in
    (fit.wide, fit.long)

pub returns : goal.returns
unfolding zeros
returns c =
    let a = c.args in
    let q = prime a.modulus in
    let same : length c.if-not-misfit.sums ≡ length a.sums.now = omega arith in
    record {
      table = elim c.if-not-misfit.branch [
        | then-not-misfit w ↦
            w.table-is ∙ w.put_pieces.ensures
            ∙ table_made q a.s a.indices.now a.weights.now a.store.now (length a.sums.now) a.table.now (sym c.misfit.ensures ∙ w.if-not-misfit.true)
        | else-not-misfit w ↦
            w.table-is
            ∙ table_stays q a.s a.indices.now a.weights.now a.store.now (length a.sums.now) a.table.now (sym c.misfit.ensures ∙ w.if-not-misfit.false)
      ];
      sums = c.clear.ensures ∙ ap (tab (λ (k : ℕ). 0)) same;
    }
