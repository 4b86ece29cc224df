-- `masks::put_all` meets its contract.
use mathlib.Core.Path.{refl}
use native.Mathlib.Omega.{arith}
use lib.ListN.{length-drop}
use Rattle.masks.proofs.Loops.{put_full, put_usable, put_all}
use Rattle.masks.proofs.put_all.Goals as goal

pub loop-i-preserved : goal.loop-i-preserved
loop-i-preserved c =
    let so_far = c.loop-i.invariant in
    put_usable c.loop-i.i (omega arith) so_far (put_full c.loop-i.i (omega arith) so_far refl (omega arith)) c.element_of.ensures

pub returns : goal.returns
returns c = put_all c.loop-i.invariant (omega (arith, length-drop c.loop-i.i c.args.words.now))
