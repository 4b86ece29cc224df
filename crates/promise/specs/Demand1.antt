-- Demand 1 (00): "Every plan, share, product, message, arrival and decoding inside the sheet's limits is carried out, and only
-- the named part of a lent buffer is written. Every other input, a garden heard a second time included, gets the first refusal
-- number that fits it in the sheet's order, and no element of any lent buffer changes."
-- It is said of the definitions that the calls' contracts cite; what a call returns tells a number, and 0 means carried out. "A
-- garden heard a second time" gets 23 where its message differs from the first, and is "already in" where it does not (02, U1). A
-- drawing of masks (02, U3) and a page (02, U6) are calls like the others. An arrival carries its minute (02, U7). A host's whole
-- part, reading, the product and writing, is one call of the host's library for C; that its two messages belong together has
-- numbers of its own.
--
--   test tests i              == the test at i
--   Judged tests n            == n is 0 exactly where no test holds; otherwise it is the number of the first that does
--   Obeys tests n after made was == what a call with these tests returns tells n, judged by them; where n is 0 a lent buffer holds
--                                `made` after it, and otherwise what it held before
--   Tells tests t values      == what a call returns, on paper: its number is judged by the tests, and where it is 0 the values are
--                                these; a refusal has none
--   Demand1                   == every call is judged by its tests, in the sheet's order, and leaves its buffers so
use Rattle.std.specs.Prelude.{◌≡◌, true, false, cond, ◌↔◌, List, [], ◌∷◌, ◌++◌, ℕ, ◌+◌, ◌*◌, ◌<◌, length, get_or, drop}
use Rattle.refusal.specs.Chain.{Test, first, answered, number_in, Told}
use Rattle.field.specs.Modulus.{modulus}
use Rattle.plan.specs.declared.Job.{Job}
use Rattle.plan.specs.Planning.{plan_tests, planned, plan_values}
use Rattle.plan.specs.Planning.{told as planning_told}
use Rattle.masks.specs.Drawing.{drawn, used, draw_tests, draw_outcome, masks_after}
use Rattle.masks.specs.Drawing.{told as drawing_told}
use Rattle.share_side.specs.declared.Matrix.{Matrix}
use Rattle.share.specs.Sharing.{host_share, share_tests, share_after}
use Rattle.product.specs.Product.{product_of, product_tests, product_after}
use Rattle.message_header.specs.declared.Header.{Header}
use Rattle.mukerihe.specs.Host.{host_tests, host_product, host_after}
use Rattle.mukerihe.specs.Answer.{pair_header, host_answer, host_answer_tests, host_answer_after}
use Rattle.message_header.specs.Header.{header_of, element_count, fields}
use Rattle.message.specs.Format.{message_of, elements, write_tests, read_tests, written, read_as, read_into}
use Rattle.message.specs.Format.{told as format_told}
use Rattle.arrival_heard.specs.Heard.{is_heard, with_host}
use Rattle.arrival.specs.Arriving.{answer_length, with_block, host_index, arrival_tests, arrived, store_after, number_of, heard_after, already_in}
use Rattle.decode.specs.Decoding.{table_of, decode_tests, table_after}
use Rattle.page.specs.Page.{page as page_page, page_tests, page_after}

-- there is none past the end
abbrev pub test : List Test → ℕ → Test
test tests i = get_or tests i (false, 0)

pub record Judged (tests : List Test) (n : ℕ) : Type 0 where
  pub carried_out : (n ≡ 0) ↔ ((i : ℕ) → i < length tests → (test tests i).0 ≡ false)
  pub refused : (n ≡ 0 → ⊥)
      → (i : ℕ) × (i < length tests) × ((test tests i).0 ≡ true) × ((test tests i).1 ≡ n) × ((j : ℕ) → j < i → (test tests j).0 ≡ false)

pub record Obeys (tests : List Test) (n : ℕ) (after made was : List ℕ) : Type 0 where
  -- what it returns; where it is carried out, some calls return a value beside
  pub returned : number_in (answered tests (tt {0})) ≡ n
  pub judged : Judged tests n
  pub carried_out : n ≡ 0 → after ≡ made
  pub refused : (n ≡ 0 → ⊥) → after ≡ was

pub record Tells {A : Type 0} (tests : List Test) (t : Told A) (values : List A) : Type 0 where
  pub judged : Judged tests t.number
  pub carried_out : t.number ≡ 0 → t.values ≡ values
  pub refused : (t.number ≡ 0 → ⊥) → t.values ≡ []

pub record Demand1 : Type 0 where
  -- layout, K and the sizes of blocks are told
  pub plan : (job : Job) (points : List ℕ) → Tells (plan_tests job points) (planning_told (planned job points)) (plan_values job)
  -- how many words are used is told
  pub draw : (n : ℕ) (words out : List ℕ) → let tests = draw_tests n words (length out) in
      let t = drawing_told (draw_outcome n words (length out)) in
      Tells tests t (used (modulus n) (length out) words ∷ [])
      × Obeys tests t.number (masks_after n words out) (drawn (modulus n) (length out) words) out
  pub share : (m : Matrix) (job : Job) (points : List ℕ) (host : ℕ) (xs ms out : List ℕ)
      → let tests = share_tests m job points host xs ms (length out) in
      Obeys tests (first tests) (share_after m job points host xs ms out) (host_share m job points host xs ms) out
  pub product : (n rows inner columns : ℕ) (a b out : List ℕ) → let tests = product_tests n rows inner columns a b (length out) in
      Obeys tests (first tests) (product_after n rows inner columns a b out) (product_of (modulus n) rows inner columns a b) out
  -- the product that a partner links into a C program, on bytes
  pub host : (n rows inner columns : ℕ) (a b out : List ℕ) → let tests = host_tests n rows inner columns a b (length out) in
      Obeys tests (first tests) (host_after n rows inner columns a b out) (host_product n rows inner columns a b) out
  -- a host's whole part as one call, from two messages to the answer's; past the answer the output is untouched, and how many bytes
  -- the answer has is told
  pub answer : (a b out : List ℕ) → let tests = host_answer_tests a b (length out) in
      Obeys tests (first tests) (host_answer_after a b out) (host_answer a b ++ drop (length (host_answer a b)) out) out
      × (number_in (answered tests (length (host_answer a b))) ≡ first tests)
      × (first tests ≡ 0 → length (host_answer a b) ≡ 16 + 4 * element_count (pair_header (header_of a) (header_of b)))
  pub write : (h : Header) (xs out : List ℕ) → let tests = write_tests h xs (length out) in
      Obeys tests (first tests) (written h xs out) (message_of h xs) out
  -- the fields are told; past rows times columns the output is untouched
  pub read : (message out : List ℕ) → let tests = read_tests message (length out) in let t = format_told (read_as message (length out)) in
      Tells tests t (fields (header_of message))
      × Obeys tests t.number (read_into message out) (elements message ++ drop (element_count (header_of message)) out) out
  -- an arrival writes its own block and sets its own bit; where it is in already, it changes nothing
  pub arrival : (job : Job) (points : List ℕ) (heard : ℕ) (store message : List ℕ) (minute : ℕ)
      → let r = arrived job points heard store message minute in let index = host_index (header_of message) in
      Obeys (arrival_tests job points heard store message minute) (number_of r) (store_after job points heard store message minute)
      (cond (already_in r) store (with_block (answer_length job) store index (elements message))) store
      × (number_of r ≡ 0 → heard_after heard r ≡ cond (already_in r) heard (with_host heard index))
      × ((number_of r ≡ 0 → ⊥) → heard_after heard r ≡ heard)
      × ((already_in r ≡ true) ↔ ((number_of r ≡ 0) × (is_heard heard index ≡ true)))
  pub decode : (job : Job) (points : List ℕ) (heard : ℕ) (store table : List ℕ)
      → let tests = decode_tests job points heard store (length table) in
      Obeys tests (first tests) (table_after job points heard store table) (table_of job points heard store) table
  pub page : (n t r : ℕ) (table out : List ℕ) → let tests = page_tests n t r table (length out) in
      Obeys tests (first tests) (page_after n t r table out) (page_page t r table) out
