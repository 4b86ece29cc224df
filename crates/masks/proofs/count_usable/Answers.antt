-- `masks::count_usable` meets its contract: its loop knows the prime by the last usable word alone.
use native.Mathlib.Omega.{arith}
use Rattle.masks.proofs.Loops.{usable_at, skipped_at, counted_usable, counted_skipped, counted_all}
use Rattle.masks.proofs.count_usable.Goals as goal
use Rattle.masks.proofs.count_usable.Goals.{then-word-last, else-word-last}

pub loop-word-preserved : goal.loop-word-preserved
loop-word-preserved c =
    let so_far = c.loop-word.invariant.so_far in
    record {
      most = elim c.if-word-last.branch [ then-word-last w ↦ omega arith | else-word-last w ↦ omega arith ];
      so_far = λ q e.
          elim c.if-word-last.branch [
            | then-word-last w ↦ rw w.n-is (counted_usable q _ _ _ (so_far q e) (omega arith) (usable_at q _ e w.if-word-last.true))
            | else-word-last w ↦ rw w.n-is (counted_skipped q _ _ _ (so_far q e) (omega arith) (skipped_at q _ e w.if-word-last.false))
          ];
    }

pub returns : goal.returns
returns c = counted_all _ _ _ c.loop-word.word-index (c.loop-word.invariant.so_far _ c.last_usable-last.ensures) (omega arith)
