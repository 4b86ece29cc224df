-- A message is taken once the plan, the hosts heard and the store have passed: what only the contract of that part cites.
--
--   received_tests job heard store message minute == the tests that are left: those of the message, and 22, 12, 30 and 23
--   received job heard store message minute      == what is returned: the hosts heard after it, that it is in already, or a refusal
--   store_received job heard store message minute == what the store then holds
use Rattle.std.specs.Prelude.{List, ◌++◌, ℕ, Result}
use Rattle.refusal.specs.declared.Refusal.{Refusal}
use Rattle.refusal.specs.Chain.{Test, answered, unless_refused}
use Rattle.plan.specs.declared.Job.{Job}
use Rattle.message_header.specs.Header.{header_of}
use Rattle.message.specs.Format.{message_tests}
use Rattle.arrival.specs.declared.Arrived.{Arrived}
use Rattle.arrival.specs.Arriving.{answer_length, answer_tests, minute_tests, again_tests, entered, store_entered}

unfoldable pub received_tests : Job → ℕ → List ℕ → List ℕ → ℕ → List Test
received_tests job heard store message minute =
    message_tests message ++ (answer_tests job (header_of message)
    ++ (minute_tests job minute ++ again_tests (answer_length job) heard store message))

unfoldable pub received : Job → ℕ → List ℕ → List ℕ → ℕ → Result Arrived Refusal
received job heard store message minute = answered (received_tests job heard store message minute) (entered heard message)

unfoldable pub store_received : Job → ℕ → List ℕ → List ℕ → ℕ → List ℕ
store_received job heard store message minute =
    unless_refused (received_tests job heard store message minute) (store_entered (answer_length job) heard store message) store
