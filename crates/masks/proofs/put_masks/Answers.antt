-- `masks::put_masks` meets its contract.
use Rattle.std.proofs.Common.{rules}
use mathlib.Core.Path.{sym, ◌∙◌}
use Prim.Native.Nat.{◌+◌, ◌≤◌}
use native.Mathlib.Nat.{add-sub_cancel_left}
use native.Mathlib.Omega.{arith}
use lib.ListN.{length, drop, length-drop}
use lib.Seq.{length-take-le}
use Rattle.masks.proofs.Loops.{put_part, part_room, put_all}
use Rattle.masks.proofs.put_masks.Goals as goal
use Rattle.masks.proofs.put_masks.Goals.{After-count_usable-filled}

-- there is room for the part's remainders
room : (k : After-count_usable-filled) → k.loop-part.filled + k.count_usable-filled.result ≤ length k.loop-part.out
room k = part_room k.loop-part.invariant.so_far _ _ k.in-Some.ensures.steps.1.0 k.count_usable-filled.ensures

pub overflow_add-filled : goal.overflow_add-filled
overflow_add-filled c = omega (arith, room c)

pub put_part-requires : goal.put_part-requires
put_part-requires c =
    let k = (goal.at.put_part-requires c).After-count_usable-filled in
    let l = c.loop-part in
    rw add-sub_cancel_left
    (sym c.count_usable-filled.ensures ∙ sym (length-take-le c.count_usable-filled.result (drop l.filled l.out) (omega (arith, room k, length-drop l.filled l.out))))

pub slice_bounds-put_part-end : goal.slice_bounds-put_part-end
slice_bounds-put_part-end c = omega (arith, room (goal.at.slice_bounds-put_part-end c).After-count_usable-filled)

pub loop-part-preserved : goal.loop-part-preserved
loop-part-preserved c =
    record {
      can = search rules;
      ends = search rules;
      so_far =
          rw add-sub_cancel_left
          (put_part c.loop-part.invariant.so_far _ _ c.in-Some.ensures.steps.1.0 c.count_usable-filled.ensures c.put_part.ensures);
    }

pub returns : goal.returns
returns c = put_all c.loop-part.invariant.so_far c.in-None.ensures.steps.1.0
