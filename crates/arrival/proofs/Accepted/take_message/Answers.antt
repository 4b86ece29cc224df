-- `arrival::Accepted::take_message` meets its contract.
use mathlib.Core.Path.{◌≡◌, sym, ap, ap₂, ◌∙◌}
use mathlib.Core.Bool.{not}
use mathlib.Core.List.{[], ◌∷◌}
use Prim.Native.Nat.{ℕ, ◌+◌, ◌-◌, ◌*◌, ◌^◌, ◌%◌, ◌<◌, ◌≤◌}
use native.Mathlib.Omega.{arith}
use lib.ListN.{length}
use Rattle.std.specs.Prelude.{Ok, Err}
use Rattle.std.proofs.lemmas.Result.{err_from_is_err_and}
use Rattle.algebra.proofs.Orders.{row_end}
use Rattle.refusal.specs.declared.Refusal.{Refusal}
use Rattle.refusal.specs.Chain.{answered}
use Rattle.message_header.specs.Header.{header_of}
use Rattle.message.specs.Format.{elements}
use Rattle.arrival_heard.specs.Heard.{is_heard, with_host}
use Rattle.arrival_heard.proofs.Bits.{bit_of, with_below}
use Rattle.arrival.specs.declared.Arrived.TheVariants.{Taken, AlreadyIn}
use Rattle.arrival.specs.Arriving.{store_length, with_block, host_index, repeated}
use Rattle.arrival.specs.Internal.{received}
use Rattle.arrival.proofs.Outcomes.{Own, own, message_refused, answer_refused, minute_refused, taken, again, kept, kept_again, put}
use Rattle.arrival.proofs.Accepted.take_message.Goals as goal
use Rattle.arrival.proofs.Accepted.take_message.Goals.{In_err-check_answer, In_ok-check_answer, Then-not-in_window, After-is_heard}

-- the message is refused
pub returns-in_err-h-clause-outcome : goal.returns-in_err-h-clause-outcome
returns-in_err-h-clause-outcome c =
    let p = err_from_is_err_and c.from_residual.result c.from_residual.ensures.1 in
    rw (p.1, p.2) (message_refused _ _ _ _ _ _ c.in_err-h.ensures)

pub returns-in_err-h-clause-kept : goal.returns-in_err-h-clause-kept
returns-in_err-h-clause-kept c = kept _ _ _ _ _ _ (message_refused _ _ _ _ _ _ c.in_err-h.ensures)

-- 22 or 12
foreign : (c : In_err-check_answer)
    → Err c.in_err-check_answer.field-0.0 ≡ received c.args.self.now.job c.args.heard c.args.store.now c.args.message.now c.args.minute
foreign c = answer_refused _ _ _ _ _ _ c.in_ok-h.ensures _ c.in_err-check_answer.ensures

pub returns-in_err-check_answer-clause-outcome : goal.returns-in_err-check_answer-clause-outcome
returns-in_err-check_answer-clause-outcome c =
    let r = c.from_residual-in_err-check_answer in
    let p = err_from_is_err_and r.result r.ensures.1 in
    rw (p.1, p.2) (foreign (goal.at.returns-in_err-check_answer-clause-outcome c).In_err-check_answer)

pub returns-in_err-check_answer-clause-kept : goal.returns-in_err-check_answer-clause-kept
returns-in_err-check_answer-clause-kept c = kept _ _ _ _ _ _ (foreign (goal.at.returns-in_err-check_answer-clause-kept c).In_err-check_answer)

-- 30
outside : (c : Then-not-in_window)
    → Err Refusal.OutsideWindow ≡ received c.args.self.now.job c.args.heard c.args.store.now c.args.message.now c.args.minute
outside c = minute_refused _ _ _ _ _ _ c.in_ok-h.ensures c.in_ok-check_answer.ensures (sym c.in_window.ensures ∙ c.if-not-in_window.true)

pub returns-then-not-in_window-clause-outcome : goal.returns-then-not-in_window-clause-outcome
returns-then-not-in_window-clause-outcome c = outside c

pub returns-then-not-in_window-clause-kept : goal.returns-then-not-in_window-clause-kept
returns-then-not-in_window-clause-kept c = kept _ _ _ _ _ _ (outside c)

-- the message is fit
fit : (c : In_ok-check_answer) → Own c.args.self.now.job c.args.message.now c.in_ok-h.h
fit c = own _ _ _ c.in_ok-h.ensures c.in_ok-check_answer.ensures

-- its host's block is one of the store
lies : (c : In_ok-check_answer) → (c.in_ok-h.h.host - 1) * c.args.self.now.size + c.args.self.now.size ≤ length c.args.store.now
unfolding store_length
lies c =
    let me = c.args.self.now in
    let room = c.requires ∙ ap (λ (n : ℕ). me.job.hosts * n) (sym me.size_is) in
    omega (arith, row_end me.size (fit c).below, room)

-- its index is one of 64
few : (c : In_ok-check_answer) → c.in_ok-h.h.host - 1 < 64
few c = let p = fit c in omega (arith, c.args.self.now.few)

-- the hosts heard then
bit : (c : In_ok-check_answer) → c.args.heard + 1 * 2 ^ (c.in_ok-h.h.host - 1) % 2 ^ 64 ≡ with_host c.args.heard (host_index (header_of c.args.message.now))
unfolding with_host
bit c = ap (λ (x : ℕ). c.args.heard + x) (bit_of _ (few c) ∙ ap (λ (i : ℕ). 2 ^ i) (fit c).index)

pub overflow_sub-index : goal.overflow_sub-index
overflow_sub-index c = (fit (goal.at.overflow_sub-index c).In_ok-check_answer).low

pub heard_again-requires : goal.heard_again-requires
heard_again-requires c =
    let e = (goal.at.heard_again-requires c).In_ok-check_answer in
    let p = fit e in
    (p.index, omega (arith, c.args.self.now.size_is), lies e)

pub put_block-requires : goal.put_block-requires
put_block-requires c =
    let e = (goal.at.put_block-requires c).In_ok-check_answer in
    let p = fit e in
    (p.count ∙ sym c.args.self.now.size_is, omega (arith, c.args.self.now.size_is), lies e)

-- whether its host is heard
heard-is : (c : After-is_heard) → c.is_heard.result ≡ is_heard c.args.heard (host_index (header_of c.args.message.now))
heard-is c = c.is_heard.ensures ∙ ap (is_heard c.args.heard) (fit (goal.at-After-is_heard c).In_ok-check_answer).index

pub returns-then-is_heard-clause-outcome : goal.returns-then-is_heard-clause-outcome
returns-then-is_heard-clause-outcome c =
    let a = c.args in
    let old = sym (heard-is (goal.at.returns-then-is_heard-clause-outcome c).After-is_heard) ∙ c.if-is_heard.true in
    let inside = sym c.in_window.ensures ∙ c.if-not-in_window.false in
    c.heard_again.ensures
    ∙ ap (λ (n : ℕ). answered ((not (repeated n a.store.now a.message.now), 23) ∷ []) AlreadyIn) a.self.now.size_is
    ∙ sym (again _ _ _ _ _ _ c.in_ok-h.ensures c.in_ok-check_answer.ensures inside old)

pub returns-then-is_heard-clause-kept : goal.returns-then-is_heard-clause-kept
returns-then-is_heard-clause-kept c =
    kept_again _ _ _ _ _ (sym (heard-is (goal.at.returns-then-is_heard-clause-kept c).After-is_heard) ∙ c.if-is_heard.true)

pub overflow_shl-bit : goal.overflow_shl-bit
overflow_shl-bit c = few (goal.at.overflow_shl-bit c).In_ok-check_answer

pub overflow_add-after : goal.overflow_add-after
overflow_add-after c =
    let a = c.args in
    let all = goal.at.overflow_add-after c in
    let e = all.In_ok-check_answer in
    let i = host_index (header_of a.message.now) in
    let p = fit e in
    let there : i < 64 = omega (arith, few e) in
    let room : a.heard < 2 ^ 64 = omega arith in
    let next : with_host a.heard i < 2 ^ 64 = with_below a.heard i (sym (heard-is all.After-is_heard) ∙ c.if-is_heard.false) 64 room there in
    omega (arith, bit e, next)

-- it is taken
pub returns-clause-outcome : goal.returns-clause-outcome
returns-clause-outcome c =
    let all = goal.at.returns-clause-outcome c in
    let inside = sym c.in_window.ensures ∙ c.if-not-in_window.false in
    ap (λ (n : ℕ). Ok (Taken n)) (bit all.In_ok-check_answer)
    ∙ taken _ _ _ _ _ _ c.in_ok-h.ensures c.in_ok-check_answer.ensures inside (sym (heard-is all.After-is_heard) ∙ c.if-is_heard.false)

pub returns-clause-kept : goal.returns-clause-kept
returns-clause-kept c =
    let a = c.args in
    let all = goal.at.returns-clause-kept c in
    let inside = sym c.in_window.ensures ∙ c.if-not-in_window.false in
    let new = sym (heard-is all.After-is_heard) ∙ c.if-is_heard.false in
    c.put_block.ensures
    ∙ ap₂ (λ (n i : ℕ). with_block n a.store.now i (elements a.message.now)) a.self.now.size_is (fit all.In_ok-check_answer).index
    ∙ put _ _ _ _ _ _ (taken _ _ _ _ _ _ c.in_ok-h.ensures c.in_ok-check_answer.ensures inside new) new
