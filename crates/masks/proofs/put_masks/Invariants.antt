-- `masks::put_masks` meets its contract.
use Rattle.std.specs.Slice.Iter.{chunks_rest}
use Rattle.field.specs.Modulus.{prime}
use Rattle.masks.proofs.Loops.{Put}
use Rattle.masks.proofs.put_masks.Given as goal

abbrev pub invariant-loop-part : goal.invariant-loop-part
invariant-loop-part l =
    record {
      can : (goal.iterator-loop-part).can_next l.part-iterator;
      ends : (goal.iterator-loop-part).is_finite l.part-iterator;
      so_far : Put (prime l.modulus) l.words l.out l.filled (chunks_rest l.part-iterator);
    }
