-- Retried uploads (02, U1): the promises hold.
--
--   written      a fit message is what writing the header of its host's answer and its elements gives
--   replied, reply_is  what an arrival is told, by its number and by whether its host is heard
--   reply_new    what a fit arrival is told, where its host is not heard
--   reply_heard  what it is told where its host is heard: what is stored for the host decides
--   retried      the promises hold
use mathlib.Core.Path.{◌≡◌, refl, sym, ap, ap₂, ◌∙◌, subst}
use mathlib.Core.Bool.{Bool, true, false, cond, ◌&&◌, ◌||◌, true≢false}
use mathlib.Core.Logic.{⊎_elim}
use mathlib.Core.List.{List, [], ◌∷◌}
use Prim.Native.Nat.{ℕ, suc, ◌^◌, ◌<◌}
use lib.Pow.{pow_pos}
use lib.Seq.{drop_at}
use Rattle.algebra.specs.Lists.{AllBelow, same}
use Rattle.algebra.proofs.Lists.{same_refl, same_eq, same_append}
use Rattle.algebra.proofs.Tests.{by_test}
use Rattle.refusal.specs.Numbers.{refusal_of, sheet}
use Rattle.refusal.specs.Chain.{first, outcome, answered}
use Rattle.refusal.proofs.Chains.{first_none, first_hit, first_miss}
use Rattle.message_bytes.specs.Bytes.{bytes_of}
use Rattle.message_header.specs.declared.Header.{Header}
use Rattle.message_header.specs.Header.{header}
use Rattle.message_header.proofs.Headers.{length_header}
use Rattle.message.specs.Format.{message_of, payload, elements}
use Rattle.message.proofs.RoundTrips.{is_written}
use Rattle.arrival_heard.specs.Heard.{is_heard}
use Rattle.arrival_heard.proofs.Bits.{none_heard}
use Rattle.arrival.proofs.Outcomes.{arrived_by}
use Rattle.arrival.specs.Arriving.{answer_length, block_at, repeated, entered, arrived, number_of, already_in}
use Rattle.promise.specs.Demand3.{Task, Call, arrival, decoding, State, Reply, arrives, after, reply, run}
use Rattle.promise.specs.Demand3.{fit, fit_for, has_fit, bytes, first_fit, begin, answer_header}
use Rattle.promise.specs.Retried.{index, Bytes, stored, taken, already, differing, RetriedUploads}
use Rattle.promise.proofs.Fits.{core, fit_message}
use Rattle.promise.proofs.Steps.{Good, number, after_again, fit_good, good_or_still, named, passed, number_fit}
use Rattle.promise.proofs.Trace.{ran, run_still, has_good, heard_is, replies_at}
use Rattle.promise.proofs.Order.{repeats, any_order}

-- ---- a fit message and what is stored

module _ (x : Task) (message : List ℕ) (made : AllBelow 256 message) (clear : first (core x.job message) ≡ 0) where
  head : List ℕ
  head = header (answer_header x (suc (index message)))

  written : message ≡ message_of (answer_header x (suc (index message))) (elements message)
  unfolding answer_header
  written =
      let own = fit_message x.job message clear in
      (is_written message made own.read).same ∙ ap (λ (h : Header). message_of h (elements message)) own.header

  own_payload : payload message ≡ bytes_of (elements message)
  unfolding payload message_of head
  own_payload = ap payload written ∙ drop_at head (bytes_of (elements message)) 16 (length_header (answer_header x (suc (index message))))

  -- the elements part decides whether it is what is stored
  repeated_is : (s : State) → repeated (answer_length x.job) s.store message ≡ same message (stored x s (index message))
  unfolding repeated stored message_of head
  repeated_is s =
      let block = bytes_of (block_at (answer_length x.job) s.store (index message)) in
      let ours = bytes_of (elements message) in
      ap (λ (l : List ℕ). same l block) own_payload
      ∙ sym (same_append head head ours block refl ∙ ap (λ (t : Bool). t && same ours block) (same_refl head))
      ∙ ap (λ (l : List ℕ). same l (stored x s (index message))) (sym written)

-- ---- what a fit arrival is told

-- what the number n tells, of a host that is heard or not
unfoldable pub replied : State → List ℕ → ℕ → Bool → Reply
replied s message n h =
    let r = arrived_by s.heard message n h in
    record { number = number_of r; already = already_in r; table = [] }

pub reply_is : (x : Task) (s : State) (message : List ℕ) (minute : ℕ) {n : ℕ} {h : Bool} → number x s message minute ≡ n
    → is_heard s.heard (index message) ≡ h → reply x s (arrival message minute) ≡ replied s message n h
unfolding reply arrives arrived entered answered outcome number replied
reply_is x s message minute e h = ap₂ (replied s message) e h

module _ (x : Task) (s : State) (good : Good x s) (message : List ℕ) (minute : ℕ) (f : fit x s message minute ≡ true) where
  reply_new : is_heard s.heard (index message) ≡ false → reply x s (arrival message minute) ≡ taken
  unfolding replied outcome taken
  reply_new h = reply_is x s message minute (number_fit x s good message minute f h refl ∙ first_miss false 23 [] refl ∙ first_none) h

  module _ (h : is_heard s.heard (index message) ≡ true) where
    by_repeated : (t : Bool) → repeated (answer_length x.job) s.store message ≡ t → reply x s (arrival message minute) ≡ cond t already differing
    unfolding replied outcome already differing refusal_of sheet
    by_repeated true e = reply_is x s message minute (number_fit x s good message minute f h e ∙ first_miss false 23 [] refl ∙ first_none) h
    by_repeated false e = reply_is x s message minute (number_fit x s good message minute f h e ∙ first_hit true 23 [] refl) h

    reply_heard : AllBelow 256 message → {kept : List ℕ} → stored x s (index message) ≡ kept
        → reply x s (arrival message minute) ≡ cond (same message kept) already differing
    reply_heard made e =
        by_repeated _ (repeated_is x message made (passed x s message minute f) s ∙ ap (λ (l : List ℕ). same message l) e)

-- ---- the first fit message

-- what a host's first fit message has
record First (x : Task) (i : ℕ) (message : List ℕ) : Type 0 where
  clear : first (core x.job message) ≡ 0
  at : index message ≡ i
  made : AllBelow 256 message

module _ (x : Task) (i : ℕ) where
  call_first : (c : Call) (cs : List Call) (s : State) → Bytes (c ∷ cs) → fit_for x s i c ≡ true → First x i (bytes x c)
  unfolding bytes fit_for
  call_first (arrival message minute) cs s made f =
      let own = named x s message minute i f in
      record { clear = passed x s message minute own.0; at = own.1; made = made [] cs message minute refl }
  call_first (decoding table) cs s made f = absurd (true≢false (sym f))

  first_fit_lem : (cs : List Call) (s : State) → Bytes cs → has_fit x s cs i ≡ true → First x i (first_fit x s cs i)
  unfolding has_fit first_fit
  first_fit_lem [] s made e = absurd (true≢false (sym e))
  first_fit_lem (c ∷ cs) s made e =
      go (fit_for x s i c) (call_first c cs s made)
      (first_fit_lem cs (after x s c) (λ before rest message minute is. made (c ∷ before) rest message minute (ap (λ (l : List Call). c ∷ l) is))) e
    where
      go : (t : Bool) → (t ≡ true → First x i (bytes x c)) → (has_fit x (after x s c) cs i ≡ true → First x i (first_fit x (after x s c) cs i))
          → (t || has_fit x (after x s c) cs i) ≡ true → First x i (cond t (bytes x c) (first_fit x (after x s c) cs i))
      go true own rest e = own refl
      go false own rest e = rest e

module _ (x : Task) (store : List ℕ) where
  none_above : (begin store).heard < 2 ^ x.job.hosts
  unfolding begin
  none_above = pow_pos x.job.hosts

  new_block : (cs : List Call) (i : ℕ) → has_fit x (begin store) cs i ≡ true
      → block_at (answer_length x.job) (run x (begin store) cs).store i ≡ elements (first_fit x (begin store) cs i)
  unfolding begin
  new_block cs i t = (ran x cs (begin store) (has_good x (begin store) cs i none_above t)).new i (none_heard i) t

  holds : (cs : List Call) (i : ℕ)
      → block_at (answer_length x.job) (run x (begin store) cs).store i
      ≡ cond (has_fit x (begin store) cs i) (elements (first_fit x (begin store) cs i)) (block_at (answer_length x.job) store i)
  unfolding begin
  holds cs i =
      let size = answer_length x.job in
      let held : Bool → List ℕ = λ t. cond t (elements (first_fit x (begin store) cs i)) (block_at size store i) in
      ⊎_elim (λ (t : has_fit x (begin store) cs i ≡ true). new_block cs i t ∙ sym (ap held t))
      (λ (f : has_fit x (begin store) cs i ≡ false).
      ⊎_elim (λ good. (ran x cs (begin store) good).other i f)
      (λ still. ap (λ (s : State). block_at size s.store i) (run_still x (begin store) still cs))
      (good_or_still x (begin store))
      ∙ sym (ap held f))
      (by_test (has_fit x (begin store) cs i))

  first_kept : (cs : List Call) → Bytes cs → (i : ℕ) → has_fit x (begin store) cs i ≡ true
      → stored x (run x (begin store) cs) i ≡ first_fit x (begin store) cs i
  unfolding stored
  first_kept cs made i t =
      let m = first_fit x (begin store) cs i in
      let own = first_fit_lem x i cs (begin store) made t in
      ap (message_of (answer_header x (suc i))) (new_block cs i t)
      ∙ ap (λ (k : ℕ). message_of (answer_header x (suc k)) (elements m)) (sym own.at)
      ∙ sym (written x m own.made own.clear)

  told : (before : List Call) (message : List ℕ) (minute : ℕ) → Bytes before → AllBelow 256 message → fit x (run x (begin store) before) message minute ≡ true
      → let i = index message in
      reply x (run x (begin store) before) (arrival message minute)
      ≡ cond (has_fit x (begin store) before i) (cond (same message (first_fit x (begin store) before i)) already differing) taken
  told before message minute bytes made f =
      let i = index message in
      let here = run x (begin store) before in
      let begun : Good x (begin store)
      = ⊎_elim (λ good. good)
      (λ still. fit_good x (begin store) message minute (subst (λ (s : State). fit x s message minute ≡ true) (run_still x (begin store) still before) f) none_above)
      (good_or_still x (begin store)) in
      let good = (ran x before (begin store) begun).good in
      let is : Bool → Reply = λ t. cond t (cond (same message (first_fit x (begin store) before i)) already differing) taken in
      ⊎_elim
      (λ (t : has_fit x (begin store) before i ≡ true).
      reply_heard x here good message minute f (heard_is x store begun before i ∙ t) made (first_kept before bytes i t) ∙ sym (ap is t))
      (λ (e : has_fit x (begin store) before i ≡ false).
      reply_new x here good message minute f (heard_is x store begun before i ∙ e) ∙ sym (ap is e))
      (by_test (has_fit x (begin store) before i))

pub retried : RetriedUploads
retried x = record {
  again = λ s none message minute made f h.
      let good = fit_good x s message minute f none in
      let kept = stored x s (index message) in
      let told : reply x s (arrival message minute) ≡ cond (same message kept) already differing = reply_heard x s good message minute f h made refl in
      let by : Bool → Reply = λ t. cond t already differing in (
        (λ e. told ∙ ap by (ap (λ (l : List ℕ). same message l) (sym e) ∙ same_refl message)),
        (λ ne.
            ⊎_elim (λ (t : same message kept ≡ true). absurd (ne (same_eq message kept t))) (λ (e : same message kept ≡ false). told ∙ ap by e)
            (by_test (same message kept))),
        after_again x s message minute h,
      );
  holds = holds x;
  first_kept = first_kept x;
  told = λ store before rest message minute bytes made f.
      replies_at x before rest (arrival message minute) (begin store) ∙ told x store before message minute bytes made f;
  any_order = λ s cs ds shuffled agree. any_order x s cs ds agree shuffled;
  table = λ s cs ds shuffled agree table.
      replies_at x ds [] (decoding table) s
      ∙ ap (λ (t : State). reply x t (decoding table)) (any_order x s cs ds agree shuffled)
      ∙ sym (replies_at x cs [] (decoding table) s);
  repeats = λ s cs ds agree. repeats x s cs ds agree;
}
