-- `message_header::Kind::try_from` meets its contract.
use mathlib.Core.Path.{sym}
use native.Mathlib.Omega.{arith}
use Rattle.refusal.specs.Numbers.{refusal_of, sheet}
use Rattle.refusal.specs.Chain.{first, outcome, answered, outside}
use Rattle.refusal.proofs.Chains.{under, over}
use Rattle.refusal.proofs.Answered.{answered_hit}
use Rattle.message_header.specs.Internal.{kind_of}
use Rattle.message_header.proofs.KindTryFromU32.try_from.Goals as goal

pub returns-in-1 : goal.returns-in-1
unfolding first outcome answered outside kind_of
returns-in-1 c = rw c.in-1.is

pub returns-in-2 : goal.returns-in-2
unfolding first outcome answered outside kind_of
returns-in-2 c = rw c.in-2.is

pub returns-in-3 : goal.returns-in-3
unfolding first outcome answered outside kind_of
returns-in-3 c = rw c.in-3.is

pub returns-in-0 : goal.returns-in-0
unfolding refusal_of sheet
returns-in-0 c = sym (answered_hit _ 15 _ _ (under 1 3 c.args.number (omega arith)))

pub returns-in-0-2 : goal.returns-in-0-2
unfolding refusal_of sheet
returns-in-0-2 c = sym (answered_hit _ 15 _ _ (over 1 3 c.args.number (omega arith) (omega arith)))
