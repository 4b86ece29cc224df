-- `masks::put_usable` meets its contract.
use Prim.Native.Nat.{◌<◌}
use native.Mathlib.Omega.{arith}
use lib.ListN.{length, length-drop}
use Rattle.masks.proofs.Loops.{usable_at, skipped_at, put_room, put_usable, put_skipped, put_all}
use Rattle.masks.proofs.put_usable.Goals as goal
use Rattle.masks.proofs.put_usable.Goals.{After-element_of, then-word-last, else-word-last}

-- there is room for the remainder
room : (c : After-element_of) → c.loop-word.n < length c.loop-word.out
room c = put_room c.loop-word.word-index (omega arith) c.loop-word.invariant.so_far (usable_at _ _ c.loop-word.invariant.is_last c.if-word-last.true)

pub bounds-out-n : goal.bounds-out-n
bounds-out-n c = room c

pub loop-word-preserved : goal.loop-word-preserved
loop-word-preserved c =
    let i = c.loop-word.invariant in
    record {
      is_last = i.is_last;
      so_far =
          elim c.if-word-last.branch [
            | then-word-last w ↦ rw (w.out-is, w.n-is) (put_usable _ (omega arith) i.so_far (usable_at _ _ i.is_last w.if-word-last.true) w.element_of.ensures)
            | else-word-last w ↦ rw (w.out-is, w.n-is) (put_skipped _ (omega arith) i.so_far (skipped_at _ _ i.is_last w.if-word-last.false))
          ];
    }

pub returns : goal.returns
returns c = put_all c.loop-word.invariant.so_far (omega (arith, length-drop c.loop-word.word-index c.args.words.now))
