-- The starred lines hold: one test that is computed over the whole table.
--
--   right lines      every line's two lists are the same, as a test
--   starred_right    the table is right
use mathlib.Core.Path.{◌≡◌, refl}
use mathlib.Core.Bool.{Bool, true, ◌&&◌, and-eq-true_iff}
use mathlib.Core.List.{List, [], ◌∷◌}
use Prim.Native.Nat.{zero, suc}
use native.Mathlib.Nat.{not-suc-le-zero, le_of_suc-le-suc}
use Rattle.algebra.specs.Lists.{tab, stack, grid, entry, all_below, same}
use Rattle.algebra.proofs.Lists.{same_eq}
use Rattle.algebra.specs.Sums.{sum}
use Rattle.refusal.specs.Numbers.{refusal_of, sheet}
use Rattle.refusal.specs.Chain.{first, outcome, answered, unless_refused, outside}
use Rattle.refusal.specs.Limits.{any_outside, sizes_outside, over_block}
use Rattle.field.specs.Modulus.{moduli, modulus, no_modulus, named}
use Rattle.layout.specs.Exponents.{exponents, layout1, layout2, layout3, stride_d, stride_e, better, choice, term}
use Rattle.plan.specs.Planning.{parameters, prime, modulus_of, block_rows, block_inner, block_columns, layout_of, needed_of, plan_of}
use Rattle.plan.specs.Planning.{range_tests, window_test, fit_tests, member, point_tests_at, all_point_tests, point_tests, plan_tests, planned}
use Rattle.product.specs.Product.{product_entry, product_of, product_tests, product_after}
use Rattle.share_side.specs.Sides.{side, block_length, matrix_length, mask_length, matrix_tests}
use Rattle.share.specs.Sharing.{block_entry, mask_entry, share_entry, share_of, point, host_share, share_tests, share_after}
use lib.Count.{ones, ones_in}
use Rattle.algebra.specs.Sets.{members}
use Rattle.algebra.specs.Modular.{last, inverse}
use Rattle.algebra.specs.Polynomials.{scale, add, add_root, basis, coefficient}
use Rattle.arrival_heard.specs.Heard.{is_heard, some_above, lowest}
use Rattle.arrival.specs.Arriving.{answer_length, store_length, block_at}
use Rattle.decode.specs.Decoding.{answer_entry, chosen, table_entry, blocks, table_of, table_length, heard_below, table_tests, decode_tests, table_after}
use Rattle.field_signed.specs.Signed.{half, signed, signed_tests, signed_outcome, signed_told}
use Rattle.promise.specs.Starred.{Line, Right, starred, plan, thresholds, smallest, share, decoded, signs, reading, job_with}
use Rattle.promise.specs.Starred.{answer as starred_answer}

right : List Line → Bool
right [] = true
right (l ∷ ls) = same l.0 l.1 && right ls

all_right : (ls : List Line) → right ls ≡ true → Right ls
unfolding right
all_right [] e i h = absurd (not-suc-le-zero h)
all_right (l ∷ ls) e zero h = same_eq l.0 l.1 ((and-eq-true_iff (same l.0 l.1) (right ls)).0 e).0
all_right (l ∷ ls) e (suc i) h = all_right ls ((and-eq-true_iff (same l.0 l.1) (right ls)).0 e).1 i (le_of_suc-le-suc h)

-- the planning definitions, opened to compute
computed : right starred ≡ true
unfolding right same starred plan thresholds smallest job_with tab refusal_of sheet first outcome answered unless_refused outside any_outside sizes_outside over_block moduli modulus no_modulus named exponents layout1 layout2 layout3 stride_d stride_e better choice parameters prime modulus_of block_rows block_inner block_columns layout_of needed_of plan_of range_tests window_test fit_tests member point_tests_at all_point_tests point_tests plan_tests planned sum grid entry all_below term product_entry product_of product_tests product_after side block_entry mask_entry share_entry share_of point host_share block_length matrix_length mask_length matrix_tests share_tests share_after share starred_answer decoded signs reading stack members basis scale add add_root coefficient inverse last ones ones_in is_heard some_above lowest answer_length store_length block_at answer_entry chosen table_entry blocks table_of table_length heard_below table_tests decode_tests table_after half signed signed_tests signed_outcome signed_told
computed = refl

pub starred_right : Right starred
starred_right = all_right starred computed
