-- Retried uploads (02, U1).
-- A host's index counts from 0: host i has index i - 1.
--
--   index message        == the index of the host that a message names
--   stored x s i         == what is stored for the host of index i: the message that writing its block gives
--   Bytes cs             == every message in a list of calls is made of bytes
--   fit_messages x s cs i == the fit messages of the host of index i in a list of calls, in their order
--   Agree x s cs         == no two fit messages of one host differ
--   Among m ms           == m is one of ms
--   Shuffled cs ds       == the same calls, each as often, in any order
--   taken, already, differing == what a fit arrival is told: taken, "already in", 23
--   Retried x            == the promises of U1 for a job
--   RetriedUploads       == they hold for every job
use Rattle.std.specs.Prelude.{◌≡◌, true, false, cond, ◌↔◌, ℕ, suc, ◌^◌, ◌<◌, length, get_or}
use mathlib.Core.List.{List, [], ◌∷◌, ◌++◌, Permᴰ}
use Rattle.algebra.specs.Lists.{AllBelow, same}
use Rattle.message_header.specs.Header.{header_of}
use Rattle.message.specs.Format.{message_of, elements}
use Rattle.arrival_heard.specs.Heard.{is_heard}
use Rattle.arrival.specs.Arriving.{answer_length, block_at, host_index}
use Rattle.promise.specs.Demand3.{Task, Call, arrival, decoding, State, Reply, unanswered, after, reply, run, replies}
use Rattle.promise.specs.Demand3.{fit, fit_for, bytes, has_fit, first_fit, begin, answer_header}

abbrev pub index : List ℕ → ℕ
index message = host_index (header_of message)

unfoldable pub stored : Task → State → ℕ → List ℕ
stored x s i = message_of (answer_header x (suc i)) (block_at (answer_length x.job) s.store i)

abbrev pub Bytes : List Call → Type 0
Bytes cs =
    (before rest : List Call) (message : List ℕ) (minute : ℕ) → cs ≡ before ++ (arrival message minute ∷ rest) → AllBelow 256 message

module _ (x : Task) where
  unfoldable pub fit_messages : State → List Call → ℕ → List (List ℕ)
  fit_messages s [] i = []
  fit_messages s (c ∷ cs) i = let later = fit_messages (after x s c) cs i in cond (fit_for x s i c) (bytes x c ∷ later) later

abbrev pub Agree : Task → State → List Call → Type 0
Agree x s cs =
    (i j k : ℕ) → j < length (fit_messages x s cs i) → k < length (fit_messages x s cs i)
    → get_or (fit_messages x s cs i) j [] ≡ get_or (fit_messages x s cs i) k []

abbrev pub Among : List ℕ → List (List ℕ) → Type 0
Among m ms = (j : ℕ) × (j < length ms) × (get_or ms j [] ≡ m)

-- the library's permutations
abbrev pub Shuffled : List Call → List Call → Type 0
Shuffled = Permᴰ

unfoldable pub taken : Reply
taken = record { number = 0; already = false; table = [] }

unfoldable pub already : Reply
already = record { number = 0; already = true; table = [] }

unfoldable pub differing : Reply
differing = record { number = 23; already = false; table = [] }

pub record Retried (x : Task) : Type 0 where
  -- "An arrival of a host already heard, whose message equals, byte for byte, what is stored for that host, now answers
  -- "already in" and changes nothing. A differing second message still gets 23": in any state, also one come by otherwise, where
  -- 21 does not fit
  pub again : (s : State) → s.heard < 2 ^ x.job.hosts → (message : List ℕ) (minute : ℕ) → AllBelow 256 message
      → fit x s message minute ≡ true → is_heard s.heard (index message) ≡ true
      → (message ≡ stored x s (index message) → reply x s (arrival message minute) ≡ already)
      × ((message ≡ stored x s (index message) → ⊥) → reply x s (arrival message minute) ≡ differing)
      × (after x s (arrival message minute) ≡ s)
  -- "and the first stays stored": a host's block after any list of calls; without a fit message, what it was at first
  pub holds : (store : List ℕ) (cs : List Call) (i : ℕ)
      → block_at (answer_length x.job) (run x (begin store) cs).store i
      ≡ cond (has_fit x (begin store) cs i) (elements (first_fit x (begin store) cs i)) (block_at (answer_length x.job) store i)
  -- "the first stays stored", as a message, byte for byte
  pub first_kept : (store : List ℕ) (cs : List Call) → Bytes cs → (i : ℕ) → has_fit x (begin store) cs i ≡ true
      → stored x (run x (begin store) cs) i ≡ first_fit x (begin store) cs i
  -- "now answers "already in" .. A differing second message still gets 23": what a fit message is told, wherever it stands in a
  -- list of calls, by its host's first
  pub told : (store : List ℕ) (before rest : List Call) (message : List ℕ) (minute : ℕ) → Bytes before → AllBelow 256 message
      → fit x (run x (begin store) before) message minute ≡ true
      → get_or (replies x (begin store) (before ++ (arrival message minute ∷ rest))) (length before) unanswered
      ≡ cond (has_fit x (begin store) before (index message))
      (cond (same message (first_fit x (begin store) before (index message))) already differing)
      taken
  -- "Where no two fit messages of one host differ, order of arrival still makes no difference to the hosts heard, the store": from
  -- any state on
  pub any_order : (s : State) (cs ds : List Call) → Shuffled cs ds → Agree x s cs → run x s ds ≡ run x s cs
  -- "and the decoded table"
  pub table : (s : State) (cs ds : List Call) → Shuffled cs ds → Agree x s cs → (table : List ℕ)
      → get_or (replies x s (ds ++ (decoding table ∷ []))) (length ds) unanswered
      ≡ get_or (replies x s (cs ++ (decoding table ∷ []))) (length cs) unanswered
  -- "also with such repeats among the messages": how often each fit message comes makes no difference either
  pub repeats : (s : State) (cs ds : List Call) → Agree x s cs
      → ((i : ℕ) (m : List ℕ) → Among m (fit_messages x s cs i) ↔ Among m (fit_messages x s ds i))
      → run x s ds ≡ run x s cs

abbrev pub RetriedUploads : Type 0
RetriedUploads = (x : Task) → Retried x
