-- Lagrange's basis polynomials by division: the basis polynomial of x is the product of (X - y) over all points y, divided by
-- (X - x), times the inverses of x - y over the other points. The points may be any numbers: modulo q, - y is q - y % q.
--
--   coefficients q cs n  == the first n coefficients of cs, modulo q
--   root_product q ys     == the product of (X - y) over the ys
--   quotient q x cs n    == the n coefficients, modulo q, of the first n + 1 of cs divided by (X - x): at e stands the value at
--                           x of what comes after e
--   basis_scale q x ys    == the product of the inverses of x - y over the y of ys other than x, modulo q
use Rattle.std.specs.Prelude.{cond, List, [], ◌∷◌, ℕ, suc, ◌+◌, ◌-◌, ◌*◌, ◌%◌, eqb, get_or, take, drop}
use Rattle.algebra.specs.Lists.{tab}
use Rattle.algebra.specs.Modular.{inverse}
use Rattle.algebra.specs.Polynomials.{ev, add_root}

unfoldable pub coefficients : ℕ → List ℕ → ℕ → List ℕ
coefficients q cs n = tab (λ e. get_or cs e 0 % q) n

unfoldable pub root_product : ℕ → List ℕ → List ℕ
root_product q [] = 1 ∷ []
root_product q (y ∷ ys) = add_root (q - y % q) (root_product q ys)

unfoldable pub quotient : ℕ → ℕ → List ℕ → ℕ → List ℕ
quotient q x cs n = tab (λ e. ev (drop (suc e) (take (suc n) cs)) x % q) n

unfoldable pub basis_scale : ℕ → ℕ → List ℕ → ℕ
basis_scale q x [] = 1
basis_scale q x (y ∷ ys) =
    let rest = basis_scale q x ys in
    cond (eqb (x % q) (y % q)) rest (inverse q (x % q + (q - y % q)) * rest % q)
