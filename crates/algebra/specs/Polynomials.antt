-- Polynomials as lists of coefficients, the constant one first.
--
--   ev cs x                == the value of the polynomial cs at x
--   scale c cs             == c times cs
--   add cs ds              == cs plus ds
--   add_root c cs           == (X + c) times cs
--   basis q x ys           == Lagrange's basis polynomial of x: the product of (X - y) / (x - y) over the y of ys other than x
--   coefficient q xs ys e  == the coefficient at e, modulo q, of the polynomial through the points (x, y) of xs and ys:
--                             the sum of y times the basis polynomial of x
use Rattle.std.specs.Prelude.{cond, List, [], ◌∷◌, map, ℕ, ◌+◌, ◌-◌, ◌*◌, ◌%◌, eqb, length, get_or}
use Rattle.algebra.specs.Sums.{sum}
use Rattle.algebra.specs.Modular.{inverse}

unfoldable pub ev : List ℕ → ℕ → ℕ
ev [] x = 0
ev (c ∷ cs) x = c + x * ev cs x

unfoldable pub scale : ℕ → List ℕ → List ℕ
scale c = map (λ d. c * d)

unfoldable pub add : List ℕ → List ℕ → List ℕ
add [] ds = ds
add (c ∷ cs) [] = c ∷ cs
add (c ∷ cs) (d ∷ ds) = (c + d) ∷ add cs ds

unfoldable pub add_root : ℕ → List ℕ → List ℕ
add_root c cs = add (scale c cs) (0 ∷ cs)

-- modulo q, - y is q - y
unfoldable pub basis : ℕ → ℕ → List ℕ → List ℕ
basis q x [] = 1 ∷ []
basis q x (y ∷ ys) =
    let rest = basis q x ys in
    cond (eqb x y) rest (scale (inverse q (x + (q - y))) (add_root (q - y) rest))

unfoldable pub coefficient : ℕ → List ℕ → List ℕ → ℕ → ℕ
coefficient q xs ys e = sum (length xs) (λ i. get_or ys i 0 * get_or (basis q (get_or xs i 0) xs) e 0) % q
