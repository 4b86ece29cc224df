-- Values computed from the definitions: an edit of a definition must change one of them.
--
--   job hosts opening closing  the smallest job over q 13 with so many hosts and that window; it needs three answers
--   told hosts opening closing points  the number that planning tells
--   numbers        a window of two minutes, of one and of none, and one that closes before it opens; one of none with 8, 9 and 10;
--                  a right one with these
--   shown minute   1 where a minute is inside the window from 5 on up to 6
--   minutes        before the window from the minute 5 on up to 6, in it, and after it
--   unwindowed_is  the job without its window: opening, closing and job number
use mathlib.Core.Path.{◌≡◌, refl}
use mathlib.Core.Bool.{cond}
use mathlib.Core.List.{List, [], ◌∷◌}
use Prim.Native.Nat.{ℕ}
use Rattle.refusal.specs.Chain.{first, outside}
use Rattle.refusal.specs.Limits.{any_outside, sizes_outside, over_block}
use Rattle.field.specs.Modulus.{moduli, modulus, no_modulus}
use Rattle.layout.specs.Exponents.{stride_d, layout1, stride_e, layout2, layout3, exponents, better, choice}
use Rattle.plan.specs.declared.Job.{Job}
use Rattle.plan.specs.Planning.{parameters, prime, block_rows, block_inner, block_columns, layout_of, needed_of, range_tests, in_window, window_test, fit_tests}
use Rattle.plan.specs.Planning.{member, point_tests_at, all_point_tests, point_tests, plan_tests, table_for, table_job, unwindowed}

abbrev job : ℕ → ℕ → ℕ → Job
job hosts opening closing = record {
  modulus = 1;
  t = 1;
  s = 1;
  r = 1;
  m = 1;
  p = 1;
  n = 1;
  xa = 1;
  xb = 1;
  hosts = hosts;
  number = 4;
  opening = opening;
  closing = closing;
}

abbrev told : ℕ → ℕ → ℕ → List ℕ → ℕ
told hosts opening closing points = first (plan_tests (job hosts opening closing) points)

numbers : (told 3 5 7 (1 ∷ 2 ∷ 3 ∷ []) ∷ told 3 5 6 (1 ∷ 2 ∷ 3 ∷ []) ∷ told 3 5 5 (1 ∷ 2 ∷ 3 ∷ []) ∷ told 3 6 5 (1 ∷ 2 ∷ 3 ∷ []) ∷ [])
    ∷ (told 2 5 5 (1 ∷ 2 ∷ []) ∷ told 3 5 5 (1 ∷ 2 ∷ []) ∷ told 3 5 5 (0 ∷ 2 ∷ 3 ∷ []) ∷ [])
    ∷ (told 2 5 6 (1 ∷ 2 ∷ []) ∷ told 3 5 6 (1 ∷ 2 ∷ []) ∷ told 3 5 6 (0 ∷ 2 ∷ 3 ∷ []) ∷ [])
    ∷ []
    ≡ (0 ∷ 0 ∷ 29 ∷ 29 ∷ []) ∷ (8 ∷ 29 ∷ 29 ∷ []) ∷ (8 ∷ 9 ∷ 10 ∷ []) ∷ []
unfolding first outside any_outside sizes_outside over_block moduli modulus no_modulus stride_d layout1 stride_e layout2 layout3 exponents better choice parameters prime block_rows block_inner block_columns layout_of needed_of range_tests window_test fit_tests member point_tests_at all_point_tests point_tests plan_tests
numbers = refl

abbrev shown : ℕ → ℕ
shown minute = cond (in_window (job 3 5 7) minute) 1 0

minutes : shown 4 ∷ shown 5 ∷ shown 6 ∷ shown 7 ∷ [] ≡ 0 ∷ 1 ∷ 1 ∷ 0 ∷ []
unfolding in_window
minutes = refl

unwindowed_is : (unwindowed (job 3 5 7)).opening ∷ (unwindowed (job 3 5 7)).closing ∷ (unwindowed (job 3 5 7)).number ∷ [] ≡ 0 ∷ 1 ∷ 4 ∷ []
unfolding table_for table_job unwindowed
unwindowed_is = refl
