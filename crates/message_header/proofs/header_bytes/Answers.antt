-- `message_header::header_bytes` meets its contract.
use mathlib.Core.Path.{sym}
use Rattle.message_header.proofs.Headers.{header_is}
use Rattle.message_header.proofs.header_bytes.Goals as goal

pub returns : goal.returns
returns c =
    rw (c.to_be_bytes-kind.ensures, c.to_be_bytes-modulus.ensures, c.to_be_bytes-host.ensures, c.to_be_bytes-rows.ensures)
    (rw (c.to_be_bytes-columns.ensures, c.to_be_bytes-number.ensures) (sym (header_is c.args.h)))
