-- The bank's calls for C. A job (`job_of`, crates/plan/specs/Words.antt) and the fields of a message travel as words, with how
-- many there are: 1002, a number of the libraries' own, is told before all others where they are not so many.
--
--   header_of words            == the header of 6 words, in the order of the bytes
--   counted n words tests     == the tests of a call that takes n words: 1002, then the others
--   if_counted n words made was == `made` where there are n words, and otherwise what it was
--   already_after before r     == 1 where an arrival is in already, 0 where it is taken, what stood there where it is refused
use Rattle.std.specs.Prelude.{List, [], ◌∷◌, ℕ, length, get_or, Result, Ok, Err}
use Rattle.refusal.specs.declared.Refusal.{Refusal}
use Rattle.refusal.specs.Chain.{Test, unless_refused, differs}
use Rattle.message_header.specs.declared.Header.{Header}
use Rattle.arrival.specs.declared.Arrived.{Arrived}
use Rattle.arrival.specs.declared.Arrived.TheVariants.{Taken, AlreadyIn}

unfoldable pub header_of : List ℕ → Header
header_of words = record {
  kind = get_or words 0 0;
  modulus = get_or words 1 0;
  host = get_or words 2 0;
  rows = get_or words 3 0;
  columns = get_or words 4 0;
  number = get_or words 5 0;
}

unfoldable pub counted : ℕ → List ℕ → List Test → List Test
counted n words tests = (differs (length words) n, 1002) ∷ tests

unfoldable pub if_counted : {A : Type 0} → ℕ → List ℕ → A → A → A
if_counted n words made was = unless_refused (counted n words []) made was

unfoldable pub already_after : ℕ → Result Arrived Refusal → ℕ
already_after before (Ok (Taken heard)) = 0
already_after before (Ok AlreadyIn) = 1
already_after before (Err r) = before
