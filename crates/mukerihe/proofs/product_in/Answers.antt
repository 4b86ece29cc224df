-- `mukerihe::product_in` meets its contract.
use mathlib.Core.Path.{◌≡◌, sym, ◌∙◌}
use mathlib.Core.List.{List, ◌++◌}
use Prim.Native.Nat.{ℕ, ◌*◌, ◌/◌, ◌≤◌, min}
use native.Mathlib.Omega.{arith}
use lib.ListN.{length, replicate, length-replicate, take, drop}
use Rattle.std.proofs.lemmas.Result.{err_from_is_err_and}
use Rattle.refusal.specs.Chain.{first, answered}
use Rattle.refusal.specs.Limits.{most_elements}
use Rattle.refusal.proofs.Answered.{is_done, is_refused}
use Rattle.refusal.proofs.Chains.{unless_refused_lem}
use Rattle.message_bytes.specs.Bytes.{bytes_of, elements_of}
use Rattle.message_bytes.specs.Internal.{common}
use Rattle.product.specs.Product.{product_tests, product_after}
use Rattle.mukerihe.specs.declared.Numbers.{Numbers}
use Rattle.mukerihe.specs.Host.{host_tests, host_after}
use Rattle.mukerihe.specs.Internal.{whole_elements}
use Rattle.mukerihe.proofs.Outcomes.{counted_few, outcome_is, done}
use Rattle.mukerihe.proofs.product_in.Goals as goal

-- the arrays, new
abbrev zeros : ℕ → List ℕ
zeros N = replicate N 0

-- an array has room for the elements of a buffer
room : (N bytes n : ℕ) → n ≡ whole_elements bytes → min (bytes / 4) most_elements ≤ N → n ≤ length (zeros N)
room N bytes n e fits = omega (arith, length-replicate {A = ℕ} N 0, counted_few bytes n N e fits)

-- the call's numbers and buffers, how many elements these hold, and the elements as they were read
module _ (N : ℕ) (s : Numbers) (a b out : List ℕ) {na nb nc : ℕ} (ca : na ≡ whole_elements (length a)) (cb : nb ≡ whole_elements (length b))
    (cc : nc ≡ whole_elements (length out))
    (fits : min (length a / 4) most_elements ≤ N × min (length b / 4) most_elements ≤ N × min (length out / 4) most_elements ≤ N × N ≤ most_elements)
    {left right : List ℕ} (is-left : left ≡ elements_of (common a (zeros N)) a ++ drop (common a (zeros N)) (zeros N))
    (is_right : right ≡ elements_of (common b (zeros N)) b ++ drop (common b (zeros N)) (zeros N)) where
  outcome : answered (product_tests s.modulus s.rows s.inner s.columns (take na left) (take nb right) (length (take nc (zeros N)))) (tt {0})
      ≡ answered (host_tests s.modulus s.rows s.inner s.columns a b (length out)) (tt {0})
  outcome =
      outcome_is s.rows s.inner s.columns a b out na nb nc ca cb cc s.modulus (zeros N) (zeros N) (zeros N)
      (room N _ na ca fits.0) (room N _ nb cb fits.1) (room N _ nc cc fits.2) left right is-left is_right (tt {0})

  written : first (product_tests s.modulus s.rows s.inner s.columns (take na left) (take nb right) (length (take nc (zeros N)))) ≡ 0
      → (made after : List ℕ) → length made ≡ length (take nc (zeros N))
      → made ≡ product_after s.modulus s.rows s.inner s.columns (take na left) (take nb right) (take nc (zeros N))
      → after ≡ bytes_of (take (common out (take nc (made ++ drop nc (zeros N)))) (take nc (made ++ drop nc (zeros N))))
      ++ drop (common out (take nc (made ++ drop nc (zeros N))) * 4) out
      → after ≡ host_after s.modulus s.rows s.inner s.columns a b out
  written =
      done s.rows s.inner s.columns a b out na nb nc ca cb cc s.modulus (zeros N) (zeros N) (zeros N)
      (room N _ na ca fits.0) (room N _ nb cb fits.1) (room N _ nc cc fits.2) left right is-left is_right

pub shared_whole_as_front-product : goal.shared_whole_as_front-product
shared_whole_as_front-product g c = (counted_few _ _ _ c.element_count-left_count.ensures c.requires.0, omega arith)

pub shared_whole_as_front-product-2 : goal.shared_whole_as_front-product-2
shared_whole_as_front-product-2 g c = (counted_few _ _ _ c.element_count-right_count.ensures c.requires.1, omega arith)

pub whole_as_front-product : goal.whole_as_front-product
whole_as_front-product g c = (counted_few _ _ _ c.element_count-count.ensures c.requires.2, omega arith)

pub shared_whole_as_front-write_elements : goal.shared_whole_as_front-write_elements
shared_whole_as_front-write_elements g c = (counted_few _ _ _ c.element_count-count.ensures c.requires.2, omega arith)

pub returns-in_err-product-clause-number : goal.returns-in_err-product-clause-number
returns-in_err-product-clause-number g c =
    let p = err_from_is_err_and c.from_residual.result c.from_residual.ensures.1 in
    let is = outcome g.row.N c.args.n c.args.a.now c.args.b.now c.args.out.now c.element_count-left_count.ensures c.element_count-right_count.ensures
    c.element_count-count.ensures c.requires c.read_elements.ensures c.read_elements-2.ensures in
    rw (p.1, p.2) (c.in_err-product.ensures.number ∙ is)

pub returns-in_err-product-clause-block : goal.returns-in_err-product-clause-block
unfolding host_after
returns-in_err-product-clause-block g c =
    let is = outcome g.row.N c.args.n c.args.a.now c.args.b.now c.args.out.now c.element_count-left_count.ensures c.element_count-right_count.ensures
    c.element_count-count.ensures c.requires c.read_elements.ensures c.read_elements-2.ensures in
    sym (unless_refused_lem _ _ _ (is_refused _ _ _ (c.in_err-product.ensures.number ∙ is)).0)

pub returns-clause-number : goal.returns-clause-number
returns-clause-number g c =
    c.in_ok-product.ensures.number
    ∙ outcome g.row.N c.args.n c.args.a.now c.args.b.now c.args.out.now c.element_count-left_count.ensures c.element_count-right_count.ensures
    c.element_count-count.ensures c.requires c.read_elements.ensures c.read_elements-2.ensures

pub returns-clause-block : goal.returns-clause-block
returns-clause-block g c =
    written g.row.N c.args.n c.args.a.now c.args.b.now c.args.out.now c.element_count-left_count.ensures c.element_count-right_count.ensures
    c.element_count-count.ensures c.requires c.read_elements.ensures c.read_elements-2.ensures
    (is_done _ _ _ c.in_ok-product.ensures.number).0 c.product.new.out _ c.product.auto.out c.in_ok-product.ensures.block c.write_elements.ensures
