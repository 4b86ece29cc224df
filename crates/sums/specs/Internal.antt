-- Rows of sums.
--
--   zeros sums         == as many zeros as there are sums
--   reduced q sums out == the sums modulo q, as many as have room; the rest of the output as it was
use Rattle.std.specs.Prelude.{List, ◌++◌, ℕ, ◌%◌, min, length, get_or, drop}
use Rattle.algebra.specs.Lists.{tab}

unfoldable pub zeros : List ℕ → List ℕ
zeros sums = tab (λ j. 0) (length sums)

unfoldable pub reduced : ℕ → List ℕ → List ℕ → List ℕ
reduced q sums out =
    let n = min (length sums) (length out) in
    tab (λ j. get_or sums j 0 % q) n ++ drop n out
