-- Values computed from the definitions: an edit of a definition must change one of them.
--
--   few                twelve words that all differ
--   numbers_of          the numbers of a job, in order
--   job_is, header_is  the fields of a job and of a header, from words that all differ
--   told words         the number of a call of 13 words with a test of its own that holds
--   numbers            one word too few, the right count, and one too many
--   left words         what such a call leaves, 5 where it is made and 4 before
--   lefts              the same three counts
--   alreadies          an arrival that is taken, one that is in already, and one that is refused
use mathlib.Core.Path.{◌≡◌, refl}
use mathlib.Core.Bool.{true}
use mathlib.Core.List.{List, [], ◌∷◌}
use Prim.Native.Nat.{ℕ}
use Rattle.std.specs.Prelude.{Ok, Err}
use Rattle.refusal.specs.declared.Refusal.{Refusal}
use Rattle.refusal.specs.Chain.{first, outcome, unless_refused}
use Rattle.plan.specs.declared.Job.{Job}
use Rattle.message_header.specs.Header.{fields}
use Rattle.arrival.specs.declared.Arrived.TheVariants.{Taken, AlreadyIn}
use Rattle.plan.specs.Words.{job_of}
use Rattle.mukerihe_bank.specs.Bank.{header_of, counted, if_counted, already_after}

abbrev few : List ℕ
few = 22 ∷ 23 ∷ 24 ∷ 25 ∷ 26 ∷ 27 ∷ 28 ∷ 29 ∷ 30 ∷ 31 ∷ 32 ∷ 33 ∷ []

abbrev numbers_of : Job → List ℕ
numbers_of job =
    job.modulus ∷ job.t ∷ job.s ∷ job.r ∷ job.m ∷ job.p ∷ job.n ∷ job.xa ∷ job.xb ∷ job.hosts ∷ job.number ∷ job.opening
    ∷ job.closing ∷ []

job_is : numbers_of (job_of (21 ∷ few)) ≡ 21 ∷ few
unfolding job_of
job_is = refl

header_is : fields (header_of (21 ∷ 22 ∷ 23 ∷ 24 ∷ 25 ∷ 26 ∷ [])) ≡ 21 ∷ 22 ∷ 23 ∷ 24 ∷ 25 ∷ 26 ∷ []
unfolding fields header_of
header_is = refl

abbrev told : List ℕ → ℕ
told words = first (counted 13 words ((true, 2) ∷ []))

numbers : told few ∷ told (21 ∷ few) ∷ told (20 ∷ 21 ∷ few) ∷ [] ≡ 1002 ∷ 2 ∷ 1002 ∷ []
unfolding first counted
numbers = refl

abbrev left : List ℕ → ℕ
left words = if_counted 13 words 5 4

lefts : left few ∷ left (21 ∷ few) ∷ left (20 ∷ 21 ∷ few) ∷ [] ≡ 4 ∷ 5 ∷ 4 ∷ []
unfolding first outcome unless_refused counted if_counted
lefts = refl

alreadies : already_after 7 (Ok (Taken 5)) ∷ already_after 7 (Ok AlreadyIn) ∷ already_after 7 (Err Refusal.Division) ∷ [] ≡ 0 ∷ 1 ∷ 7 ∷ []
unfolding already_after
alreadies = refl
