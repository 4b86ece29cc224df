-- `decode_basis::times_root` meets its contract.
use mathlib.Core.Path.{◌≡◌, refl, ap, ap₂, ◌∙◌}
use mathlib.Core.List.{List}
use Prim.Native.Nat.{ℕ, ◌+◌, ◌-◌, ◌*◌, ◌%◌}
use native.Mathlib.Numerals.{add-one}
use native.Mathlib.Omega.{arith}
use lib.ListN.{length, get_or, set}
use Rattle.algebra.specs.Lists.{tab}
use Rattle.algebra.specs.Polynomials.{add_root}
use Rattle.algebra.proofs.Fronts.{front_none, front_more, front_old, front_all}
use Rattle.algebra.proofs.Division.{get_or_add_root}
use Rattle.field.specs.Modulus.{prime}
use Rattle.decode_basis.specs.Internal.{coefficients}
use Rattle.decode_basis.proofs.Steps.{residue_below}
use Rattle.decode_basis.proofs.times_root.Goals as goal

-- a coefficient of the product
abbrev term : ℕ → ℕ → List ℕ → ℕ → ℕ
term q y cs e = get_or (add_root (q - y % q) cs) e 0 % q

pub overflow_sub-minus : goal.overflow_sub-minus
overflow_sub-minus c =
    let a = c.args in
    omega (arith, c.prime_of.ensures, c.reduce-root.ensures, residue_below a.modulus a.y)

pub loop-c-init : goal.loop-c-init
loop-c-init c = record { is = front_none _ c.args.cs.now; last = refl }

pub loop-c-preserved : goal.loop-c-preserved
loop-c-preserved c =
    let a = c.args in
    let l = c.loop-c in
    let e = l.c-index in
    let xs = a.cs.now in
    let q = prime a.modulus in
    let f = term q a.y xs in
    let minus : c.prime_of.result - c.reduce-root.result ≡ q - a.y % q
    = ap₂ (λ (p r : ℕ). p - r) c.prime_of.ensures c.reduce-root.ensures in
    let old : get_or l.cs e 0 ≡ get_or xs e 0
    = ap (λ (ys : List ℕ). get_or ys e 0) l.invariant.is ∙ front_old f xs e e (omega arith) in
    let product : (c.prime_of.result - c.reduce-root.result) * get_or l.cs e 0 ≡ (q - a.y % q) * get_or xs e 0
    = ap₂ (λ (k x : ℕ). k * x) minus old in
    let sum : l.before + (c.prime_of.result - c.reduce-root.result) * get_or l.cs e 0 ≡ get_or (add_root (q - a.y % q) xs) e 0
    = omega (arith, get_or_add_root (q - a.y % q) xs e) in
    let value : c.plus_product.result ≡ f e = c.plus_product.ensures ∙ ap (λ (k : ℕ). k % q) sum in
    record {
      is = ap (set l.cs e) value ∙ front_more f xs l.cs e (omega arith) l.invariant.is;
      last = rw add-one old;
    }

pub returns : goal.returns
unfolding coefficients
returns c =
    let a = c.args in
    let l = c.loop-c in
    let f = term (prime a.modulus) a.y a.cs.now in
    let all : l.c-index ≡ length a.cs.now = omega arith in
    l.invariant.is ∙ front_all f a.cs.now l.c-index (omega arith) ∙ ap (tab f) all
