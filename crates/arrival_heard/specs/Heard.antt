-- The hosts heard (01, "Arrivals"): one 64-bit number, with bit i - 1 for host i.
-- An index counts from 0: host i has index i - 1. How many are heard is the number's count of ones (`lib.Count.ones`).
--
--   is_heard heard i     == the bit of index i is set
--   with_host heard i    == the bit of index i, which was clear, is set too
--   some_above n heard   == a bit is set for a host above n: the test of 21
--   lowest k heard n    == the indices of the k lowest-numbered hosts heard, of those numbered 1..n
use Rattle.std.specs.Prelude.{Bool, List, ℕ, ◌+◌, ◌/◌, ◌%◌, ◌^◌, eqb, leb, take}
use Rattle.algebra.specs.Sets.{members}

unfoldable pub is_heard : ℕ → ℕ → Bool
is_heard heard i = eqb (heard / 2 ^ i % 2) 1

unfoldable pub with_host : ℕ → ℕ → ℕ
with_host heard i = heard + 2 ^ i

unfoldable pub some_above : ℕ → ℕ → Bool
some_above n heard = leb (2 ^ n) heard

unfoldable pub lowest : ℕ → ℕ → ℕ → List ℕ
lowest k heard n = take k (members (is_heard heard) n)
