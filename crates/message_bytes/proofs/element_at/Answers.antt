-- `message_bytes::element_at` meets its contract.
use native.Mathlib.Omega.{arith}
use Rattle.message_bytes.proofs.Words.{number_of_four}
use Rattle.message_bytes.proofs.element_at.Goals as goal

pub returns : goal.returns
returns c = omega (arith, number_of_four c.args.bytes.now c.args.start, c.from_be_bytes.ensures)
