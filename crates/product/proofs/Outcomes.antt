-- What a call of the product returns and leaves.
--
--   refused       by a test that holds: the output stays
--   done          where none holds: the output holds the product
--   multiplicable what the tests 2, 6, 13 and 14 leave: sizes, lengths and elements
use mathlib.Core.Path.{◌≡◌, refl, sym, ◌∙◌}
use mathlib.Core.Bool.{false, not, ◌||◌}
use mathlib.Core.List.{List}
use Prim.Native.Nat.{ℕ, suc, ◌*◌, ◌≤◌}
use native.Mathlib.Omega.{arith}
use native.Mathlib.Nat.{mul-le-mul_right, suc-ne-zero}
use lib.ListN.{length}
use borrow.Author.Tests.{not-false}
use Rattle.algebra.specs.Lists.{all_below}
use Rattle.algebra.proofs.Lists.{all_below_test}
use Rattle.algebra.proofs.Tests.{or_left, or_right, or_all, equal}
use Rattle.std.specs.Prelude.{Ok, Err}
use Rattle.refusal.specs.Numbers.{refusal_of}
use Rattle.refusal.specs.Chain.{first, answered, differs}
use Rattle.refusal.specs.Limits.{sizes_outside, over_block}
use Rattle.refusal.proofs.Chains.{unless_done, unless_refused_lem}
use Rattle.refusal.proofs.Answered.{answered_done, answered_refused}
use Rattle.refusal.proofs.Limits.{within_all, blocks_fit}
use Rattle.field.specs.Modulus.{modulus}
use Rattle.product.specs.Product.{product_of, product_tests, product_after}
use Rattle.product.specs.Internal.{Multiplicable}

module _ (n rows inner columns : ℕ) (a b out : List ℕ) where
  pub refused : (k : ℕ) → first (product_tests n rows inner columns a b (length out)) ≡ suc k
      → record {
        number : Err (refusal_of (suc k)) ≡ answered (product_tests n rows inner columns a b (length out)) (tt {0});
        block : out ≡ product_after n rows inner columns a b out;
      }
  unfolding product_after
  refused k e =
      record { number = sym (answered_refused _ tt k e); block = sym (unless_refused_lem _ _ out (λ z. suc-ne-zero k (sym e ∙ z))) }

  pub done : first (product_tests n rows inner columns a b (length out)) ≡ 0 → (after : List ℕ) → after ≡ product_of (modulus n) rows inner columns a b
      → record {
        number : Ok (tt {0}) ≡ answered (product_tests n rows inner columns a b (length out)) (tt {0});
        block : after ≡ product_after n rows inner columns a b out;
      }
  unfolding product_after
  done e after is = record { number = sym (answered_done _ tt e); block = is ∙ sym (unless_done _ _ out e) }

pub multiplicable : (q rows inner columns : ℕ) (a b : List ℕ) (room : ℕ) → sizes_outside rows inner columns ≡ false → over_block rows inner columns ≡ false
    → (differs (length a) (rows * inner) || differs (length b) (inner * columns) || differs room (rows * columns)) ≡ false
    → (not (all_below q a) || not (all_below q b)) ≡ false
    → Multiplicable q (record { rows = rows; inner = inner; columns = columns }) a b (rows * columns) × (room ≡ rows * columns)
unfolding sizes_outside
multiplicable q rows inner columns a b room size block len below =
    let sizes = within_all 16384 rows inner columns size in
    let blocks = blocks_fit rows inner columns block in
    let each = or_all (differs (length a) (rows * inner)) (differs (length b) (inner * columns)) (differs room (rows * columns)) len in
    let one_row : 1 * inner ≤ rows * inner = mul-le-mul_right inner sizes.0.low in
    let one_line : 1 * columns ≤ rows * columns = mul-le-mul_right columns sizes.0.low in (
      record {
        below_a = all_below_test q a (not-false (all_below q a) (or_left _ _ below));
        below_b = all_below_test q b (not-false (all_below q b) (or_right (not (all_below q a)) _ below));
        length_a = equal _ _ each.0;
        length_out = refl;
        few = omega (arith, one_row, blocks.0);
        thin = omega (arith, one_line, blocks.2);
        block_a = blocks.0;
        block_c = blocks.2;
      },
      equal _ _ each.2,
    )
