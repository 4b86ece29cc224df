-- Arrivals (01, "Arrivals" and "What is turned down", Arrival; 02, U1 and U7).
-- An index counts from 0: host i has index i - 1.
--
--   answer_length job     == how many elements an answer block has
--   store_length job      == N blocks
--   block_at size store i == the block of index i in a store of blocks of that size
--   with_block size store i xs == the store with the block of index i replaced by xs
--   host_index h          == the index of the host that a message's fields name
--   foreign job h        == kind not 3, or job number, modulus, rows or columns not this job's: the test of 22
--   repeated size store message == a message equals, byte for byte, what is stored for its host
--   state_tests job heard room == 21 and 13: the hosts heard and the store, which has room for that many elements
--   answer_tests job h    == 22 and 12: a message's fields beside the job
--   minute_tests job minute == 30: the minute of an arrival is outside the window
--   again_tests size heard store message == 23: a second message of a host that differs from the first
--   arrival_tests         == the tests of an arrival, in the sheet's order, the plan's first
--   entered heard message == what an arrival returns that no number fits: it is taken, or it is in already
--   store_entered size heard store message == what the store then holds
--   arrived              == what an arrival returns: the hosts heard after it, that it is in already, or a refusal
--   store_after           == what the store holds after any arrival
--   number_of, heard_after == the number that an outcome stands for, 0 is done, and the hosts heard after it
--   already_in            == the outcome is "already in"
use Rattle.std.specs.Prelude.{Bool, true, false, cond, not, ◌&&◌, ◌||◌, List, [], ◌∷◌, ◌++◌, ℕ, ◌+◌, ◌-◌, ◌*◌, ltb, length, take, drop, Result, Ok, Err}
use Rattle.algebra.specs.Lists.{same}
use Rattle.refusal.specs.declared.Refusal.{Refusal}
use Rattle.refusal.specs.Chain.{Test, answered, number_in, unless_refused, differs}
use Rattle.plan.specs.declared.Job.{Job}
use Rattle.plan.specs.Planning.{block_rows, block_columns, in_window, plan_tests}
use Rattle.message_bytes.specs.Bytes.{bytes_of}
use Rattle.message_header.specs.declared.Header.{Header}
use Rattle.message_header.specs.Header.{header_of}
use Rattle.message.specs.Format.{payload, elements, message_tests}
use Rattle.arrival_heard.specs.Heard.{is_heard, with_host, some_above}
use Rattle.arrival.specs.declared.Arrived.{Arrived}
use Rattle.arrival.specs.declared.Arrived.TheVariants.{Taken, AlreadyIn}

unfoldable pub answer_length : Job → ℕ
answer_length job = block_rows job * block_columns job

unfoldable pub store_length : Job → ℕ
store_length job = job.hosts * answer_length job

unfoldable pub block_at : ℕ → List ℕ → ℕ → List ℕ
block_at size store i = take size (drop (i * size) store)

unfoldable pub with_block : ℕ → List ℕ → ℕ → List ℕ → List ℕ
with_block size store i xs = take (i * size) store ++ (xs ++ drop (i * size + size) store)

unfoldable pub host_index : Header → ℕ
host_index h = h.host - 1

-- rows and columns are those of an answer block
unfoldable pub foreign : Job → Header → Bool
foreign job h =
    differs h.kind 3 || differs h.number job.number || differs h.modulus job.modulus
    || differs h.rows (block_rows job) || differs h.columns (block_columns job)

-- the header of a message that passed the tests before is that of what is stored, so the elements part decides
unfoldable pub repeated : ℕ → List ℕ → List ℕ → Bool
repeated size store message = same (payload message) (bytes_of (block_at size store (host_index (header_of message))))

unfoldable pub state_tests : Job → ℕ → ℕ → List Test
state_tests job heard room = (some_above job.hosts heard, 21) ∷ (differs room (store_length job), 13) ∷ []

unfoldable pub answer_tests : Job → Header → List Test
answer_tests job h = (foreign job h, 22) ∷ (ltb job.hosts h.host, 12) ∷ []

-- "30, arrival outside the window, just before 23 and before "already in"" (02, U7)
unfoldable pub minute_tests : Job → ℕ → List Test
minute_tests job minute = (not (in_window job minute), 30) ∷ []

-- "A differing second message still gets 23" (02, U1)
unfoldable pub again_tests : ℕ → ℕ → List ℕ → List ℕ → List Test
again_tests size heard store message = (is_heard heard (host_index (header_of message)) && not (repeated size store message), 23) ∷ []

unfoldable pub arrival_tests : Job → List ℕ → ℕ → List ℕ → List ℕ → ℕ → List Test
arrival_tests job points heard store message minute =
    plan_tests job points ++ (state_tests job heard (length store)
    ++ (message_tests message ++ (answer_tests job (header_of message)
    ++ (minute_tests job minute ++ again_tests (answer_length job) heard store message))))

-- of a host heard, it is "already in" and changes nothing (02, U1)
unfoldable pub entered : ℕ → List ℕ → Arrived
entered heard message = let index = host_index (header_of message) in cond (is_heard heard index) AlreadyIn (Taken (with_host heard index))

unfoldable pub store_entered : ℕ → ℕ → List ℕ → List ℕ → List ℕ
store_entered size heard store message =
    let index = host_index (header_of message) in cond (is_heard heard index) store (with_block size store index (elements message))

unfoldable pub arrived : Job → List ℕ → ℕ → List ℕ → List ℕ → ℕ → Result Arrived Refusal
arrived job points heard store message minute = answered (arrival_tests job points heard store message minute) (entered heard message)

unfoldable pub store_after : Job → List ℕ → ℕ → List ℕ → List ℕ → ℕ → List ℕ
store_after job points heard store message minute =
    unless_refused (arrival_tests job points heard store message minute) (store_entered (answer_length job) heard store message) store

abbrev pub number_of : Result Arrived Refusal → ℕ
number_of = number_in

abbrev pub heard_after : ℕ → Result Arrived Refusal → ℕ
heard_after before (Ok (Taken heard)) = heard
heard_after before (Ok AlreadyIn) = before
heard_after before (Err r) = before

abbrev pub already_in : Result Arrived Refusal → Bool
already_in (Ok (Taken heard)) = false
already_in (Ok AlreadyIn) = true
already_in (Err r) = false
