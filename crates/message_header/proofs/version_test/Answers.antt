-- `message_header::version_test` meets its contract.
use mathlib.Core.Path.{sym, ap}
use mathlib.Core.Bool.{not}
use native.Mathlib.Omega.{arith}
use borrow.Author.Tests.{eq-eqb, ne_eqb}
use Rattle.message_bytes.proofs.Words.{number_of_two}
use Rattle.message_bytes.specs.Bytes.{number_at}
use Rattle.message_header.specs.Header.{version}
use Rattle.message_header.proofs.version_test.Goals as goal

pub returns-in-1 : goal.returns-in-1
unfolding version
returns-in-1 c =
    let bytes = c.args.message.now in
    sym (ap not (eq-eqb (number_at bytes 3 2) 1 (omega (arith, number_of_two bytes 3, c.from_be_bytes-version.ensures, c.in-1.is))))

pub returns-in-0 : goal.returns-in-0
unfolding version
returns-in-0 c =
    let bytes = c.args.message.now in
    sym (ap not (ne_eqb (number_at bytes 3 2) 1 (λ e. omega (arith, number_of_two bytes 3, c.from_be_bytes-version.ensures))))

pub returns-in-0-2 : goal.returns-in-0-2
unfolding version
returns-in-0-2 c =
    let bytes = c.args.message.now in
    sym (ap not (ne_eqb (number_at bytes 3 2) 1 (λ e. omega (arith, number_of_two bytes 3, c.from_be_bytes-version.ensures))))
