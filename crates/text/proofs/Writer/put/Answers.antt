-- `text::Writer::put` meets its contract.
use native.Mathlib.Omega.{arith}
use mathlib.Core.Path.{refl}
use Rattle.text.proofs.Writes.{writes_part}
use Rattle.text.proofs.Writer.put.Goals as goal

pub returns-clause-written : goal.returns-clause-written
returns-clause-written c = writes_part c.args.self.now c.args.bytes.now (omega arith) (cc) (omega arith) refl refl refl
