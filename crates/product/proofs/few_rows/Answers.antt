-- `product::few_rows` meets its contract.
use mathlib.Core.Path.{◌≡◌, sym, ap, ap₂, ◌∙◌}
use mathlib.Core.Bool.{◌||◌, true≢false}
use mathlib.Core.Logic.{⊎_elim}
use Prim.Native.Nat.{ℕ, ◌*◌, ◌<◌, ◌≤◌}
use native.Mathlib.Omega.{arith}
use borrow.Author.Tests.{ltb-false, le-ltb}
use lib.Dec.{ltb}
use lib.ListN.{length, replicate}
use Rattle.algebra.proofs.Orders.{le_or_lt}
use Rattle.algebra.proofs.Tests.{or_left}
use Rattle.field.specs.Modulus.{prime}
use Rattle.product.specs.Product.{product_of}
use Rattle.product.proofs.Rows.{two_rows}
use Rattle.product.proofs.few_rows.Goals as goal
use Rattle.product.proofs.few_rows.Goals.{Else-count-large, Then-count-large}

-- one row, where two are not asked for
one_row : (c : Then-count-large) → c.args.count ≡ 1
one_row c =
    let q = c.prime_of-large.result in
    ⊎_elim
    (λ (h : 2 ≤ c.args.count).
    let small : q ≤ 257 = omega (arith, c.prime_of-large.ensures, (c.requires.0.room h).0) in
    absurd (true≢false (sym c.if-count-large.true ∙ ap₂ ◌||◌ (le-ltb c.args.count 2 h) (le-ltb 257 q small))))
    (λ (h : c.args.count < 2). omega (arith, c.requires.0.some))
    (le_or_lt 2 c.args.count)

pub product_row-requires : goal.product_row-requires
product_row-requires c =
    let a = c.args in
    let one = one_row (goal.at.product_row-requires c).Then-count-large in
    (c.requires.1, c.requires.2, omega (arith, ap (λ (k : ℕ). k * a.inner) one), omega (arith, ap (λ (k : ℕ). k * length a.sums.now) one))

pub returns-then-count-large : goal.returns-then-count-large
returns-then-count-large c =
    let a = c.args in
    let one = sym (one_row (goal.at.returns-then-count-large c).Then-count-large) in
    let inner : length a.part.now ≡ a.inner = omega (arith, ap (λ (k : ℕ). k * a.inner) one) in
    let columns : length a.out.now ≡ length a.sums.now = omega (arith, ap (λ (k : ℕ). k * length a.sums.now) one) in
    c.product_row.ensures
    ∙ ap₂ (λ (i n : ℕ). product_of (prime a.modulus) 1 i n a.part.now a.b.now) inner columns
    ∙ ap (λ (k : ℕ). product_of (prime a.modulus) k a.inner (length a.sums.now) a.part.now a.b.now) one

-- two rows that can be packed
two : (c : Else-count-large)
    → let a = c.args in
    (prime a.modulus ≤ 257) × (a.inner ≤ 127) × (2 ≡ a.count) × (length a.part.now ≡ 2 * a.inner) × (length a.out.now ≡ 2 * length a.sums.now)
two c =
    let a = c.args in
    let enough : 2 ≤ a.count = ltb-false a.count 2 (or_left _ (ltb 257 c.prime_of-large.result) c.if-count-large.false) in
    let fit = c.requires.0.room enough in
    let both : 2 ≡ a.count = omega arith in
    (fit.0, fit.1, both, omega (arith, ap (λ (k : ℕ). k * a.inner) both), omega (arith, ap (λ (k : ℕ). k * length a.sums.now) both))

pub returns : goal.returns
returns c =
    let t = two (goal.at.returns c).Else-count-large in
    let a = c.args in
    two_rows a.modulus a.inner a.part.now a.b.now t.0 t.1 t.3 c.requires.1 c.requires.2 (replicate 127 0) c.pack.new.out a.sums.now c.clear.new.sums
    c.add_rows.new.sums c.unpack.new.out c.unpack-2.new.out a.out.now t.1 (omega arith) c.pack.ensures
    c.clear.ensures c.add_rows.ensures t.4 c.unpack.ensures c.unpack-2.ensures
    ∙ ap (λ (k : ℕ). product_of (prime a.modulus) k a.inner (length a.sums.now) a.part.now a.b.now) t.2
