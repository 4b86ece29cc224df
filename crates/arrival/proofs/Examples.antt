-- Values computed from the definitions: an edit of a definition must change one of them.
--
--   job, store     a job of three hosts whose answers have two elements, with job number 4 and the window from the minute 5 on up
--                  to 6, and a store
--   told host heard k xs minute  what a message of a host gets at that minute, with job number k and these elements: its number, 1
--                  where it is in already, the hosts heard after it, and the store
--   values         host 2 is not heard; its block holds the same elements by chance; it is heard, and sends the same again; another
--                  message; one of another job
--   outside        before the window and after it: host 2 is not heard; it is heard, and sends the same again; another message; one
--                  of another job, and one of a host that the job has not
use mathlib.Core.Path.{◌≡◌, refl}
use mathlib.Core.Bool.{cond}
use mathlib.Core.List.{List, [], ◌∷◌}
use Prim.Native.Nat.{ℕ}
use Rattle.algebra.specs.Lists.{tab, all_below, same}
use Rattle.refusal.specs.Numbers.{refusal_of, sheet}
use Rattle.refusal.specs.Chain.{first, outcome, answered, unless_refused, outside as chain_outside}
use Rattle.refusal.specs.Limits.{any_outside, sizes_outside, over_block}
use Rattle.field.specs.Modulus.{moduli, modulus, no_modulus}
use Rattle.layout.specs.Exponents.{stride_d, layout1, stride_e, layout2, layout3, exponents, better, choice}
use Rattle.plan.specs.declared.Job.{Job}
use Rattle.plan.specs.Planning.{parameters, prime, block_rows, block_inner, block_columns, layout_of, needed_of, in_window, window_test, range_tests, fit_tests}
use Rattle.plan.specs.Planning.{member, point_tests_at, all_point_tests, point_tests, plan_tests}
use Rattle.message_bytes.specs.Bytes.{big_endian, number_at, bytes_of, elements_of}
use Rattle.message_header.specs.Header.{mark, version, header, header_of, element_count, field_tests, header_tests}
use Rattle.message.specs.Format.{message_of, payload, elements, element_test, message_tests}
use Rattle.arrival_heard.specs.Heard.{is_heard, with_host, some_above}
use Rattle.arrival.specs.Arriving.{answer_length, store_length, block_at, with_block, host_index, foreign, repeated, state_tests}
use Rattle.arrival.specs.Arriving.{answer_tests, minute_tests, again_tests, arrival_tests, entered, store_entered, arrived, store_after}
use Rattle.arrival.specs.Arriving.{number_of, heard_after, already_in}

abbrev job : Job
job = record { modulus = 1; t = 2; s = 1; r = 1; m = 1; p = 1; n = 1; xa = 1; xb = 1; hosts = 3; number = 4; opening = 5; closing = 7 }

abbrev store : List ℕ
store = 1 ∷ 2 ∷ 7 ∷ 8 ∷ 5 ∷ 6 ∷ []

abbrev told : ℕ → ℕ → ℕ → List ℕ → ℕ → List ℕ
told host heard k xs minute =
    let message = message_of (record { kind = 3; modulus = 1; host = host; rows = 2; columns = 1; number = k }) xs in
    let points : List ℕ = 1 ∷ 2 ∷ 3 ∷ [] in
    let r = arrived job points heard store message minute in
    number_of r ∷ cond (already_in r) 1 0 ∷ heard_after heard r ∷ store_after job points heard store message minute

values : told 2 1 4 (9 ∷ 8 ∷ []) 5 ∷ told 2 1 4 (7 ∷ 8 ∷ []) 6 ∷ told 2 2 4 (7 ∷ 8 ∷ []) 5 ∷ told 2 2 4 (7 ∷ 9 ∷ []) 6 ∷ told 2 2 6 (7 ∷ 9 ∷ []) 5 ∷ []
    ≡ (0 ∷ 0 ∷ 3 ∷ 1 ∷ 2 ∷ 9 ∷ 8 ∷ 5 ∷ 6 ∷ [])
    ∷ (0 ∷ 0 ∷ 3 ∷ 1 ∷ 2 ∷ 7 ∷ 8 ∷ 5 ∷ 6 ∷ [])
    ∷ (0 ∷ 1 ∷ 2 ∷ 1 ∷ 2 ∷ 7 ∷ 8 ∷ 5 ∷ 6 ∷ [])
    ∷ (23 ∷ 0 ∷ 2 ∷ 1 ∷ 2 ∷ 7 ∷ 8 ∷ 5 ∷ 6 ∷ [])
    ∷ (22 ∷ 0 ∷ 2 ∷ 1 ∷ 2 ∷ 7 ∷ 8 ∷ 5 ∷ 6 ∷ [])
    ∷ []
unfolding tab all_below same refusal_of sheet first outcome answered unless_refused chain_outside any_outside sizes_outside over_block moduli modulus no_modulus stride_d layout1 stride_e layout2 layout3 exponents better choice parameters prime block_rows block_inner block_columns layout_of needed_of in_window window_test range_tests fit_tests member point_tests_at all_point_tests point_tests plan_tests big_endian number_at bytes_of elements_of mark version header header_of element_count field_tests header_tests message_of payload elements element_test message_tests is_heard with_host some_above answer_length store_length block_at with_block host_index foreign repeated state_tests answer_tests minute_tests again_tests arrival_tests entered store_entered arrived store_after
values = refl

outside : told 2 1 4 (9 ∷ 8 ∷ []) 4 ∷ told 2 1 4 (9 ∷ 8 ∷ []) 7 ∷ told 2 2 4 (7 ∷ 8 ∷ []) 7 ∷ told 2 2 4 (7 ∷ 9 ∷ []) 4 ∷ told 2 2 6 (7 ∷ 9 ∷ []) 7 ∷ told 4 2 4 (7 ∷ 9 ∷ []) 7 ∷ []
    ≡ (30 ∷ 0 ∷ 1 ∷ 1 ∷ 2 ∷ 7 ∷ 8 ∷ 5 ∷ 6 ∷ [])
    ∷ (30 ∷ 0 ∷ 1 ∷ 1 ∷ 2 ∷ 7 ∷ 8 ∷ 5 ∷ 6 ∷ [])
    ∷ (30 ∷ 0 ∷ 2 ∷ 1 ∷ 2 ∷ 7 ∷ 8 ∷ 5 ∷ 6 ∷ [])
    ∷ (30 ∷ 0 ∷ 2 ∷ 1 ∷ 2 ∷ 7 ∷ 8 ∷ 5 ∷ 6 ∷ [])
    ∷ (22 ∷ 0 ∷ 2 ∷ 1 ∷ 2 ∷ 7 ∷ 8 ∷ 5 ∷ 6 ∷ [])
    ∷ (12 ∷ 0 ∷ 2 ∷ 1 ∷ 2 ∷ 7 ∷ 8 ∷ 5 ∷ 6 ∷ [])
    ∷ []
unfolding tab all_below same refusal_of sheet first outcome answered unless_refused chain_outside any_outside sizes_outside over_block moduli modulus no_modulus stride_d layout1 stride_e layout2 layout3 exponents better choice parameters prime block_rows block_inner block_columns layout_of needed_of in_window window_test range_tests fit_tests member point_tests_at all_point_tests point_tests plan_tests big_endian number_at bytes_of elements_of mark version header header_of element_count field_tests header_tests message_of payload elements element_test message_tests is_heard with_host some_above answer_length store_length block_at with_block host_index foreign repeated state_tests answer_tests minute_tests again_tests arrival_tests entered store_entered arrived store_after
outside = refl
