-- A host's answer to two messages.
--
--   Paired          what is used of what the tests of two headers ask
--   paired          they pass only where it holds
--   answer_written  writing the answer's message is carried out
--   length_answer   how many bytes it has
--   headed_length, done  the header is put to the front of the output, and then the product of the payloads: this is that message
--   answer_numbered every test of the call has a number
--   answer_parts    the call is carried out only where both messages pass their tests, and both together
--   first_refused, second_refused, pair_refused  a message is refused, or both together: so is the call
--   read            the headers of messages that pass their tests
--   carried_out     both pass their tests, by themselves and together: the call is carried out
--   kept            a refused call leaves the output as it was
use mathlib.Core.Path.{◌≡◌, refl, sym, ap, ap₂, ◌∙◌}
use mathlib.Core.Bool.{not, ◌||◌}
use mathlib.Core.List.{List, ◌++◌, append_assoc}
use Prim.Native.Nat.{ℕ, ◌+◌, ◌*◌, ◌≤◌}
use native.Mathlib.Nat.{mod-lt}
use native.Mathlib.Omega.{arith}
use lib.Dec.{T}
use lib.ListN.{length, take, drop, length-append, length-drop}
use lib.Seq.{take_at, drop_at, drop-drop}
use borrow.Author.Tests.{ltb-false, le-ltb}
use Rattle.algebra.specs.Lists.{AllBelow}
use Rattle.algebra.proofs.Tests.{equal, alike}
use Rattle.algebra.proofs.Lists.{below_test}
use Rattle.algebra.proofs.Grids.{length_grid, below_grid}
use Rattle.std.specs.Prelude.{Ok, Err}
use Rattle.refusal.specs.declared.Refusal.{Refusal}
use Rattle.refusal.specs.Numbers.{refusal_of, sheet, own}
use Rattle.refusal.specs.Chain.{Test, first, answered}
use Rattle.refusal.specs.Limits.{any_outside, sizes_outside, over_block}
use Rattle.refusal.proofs.Chains.{numbered, numbered_append, first_none, first_miss, first_clear, first_append, first_append_clear, unless_done, unless_refused_lem}
use Rattle.refusal.proofs.Limits.{within_range}
use Rattle.refusal.proofs.Answered.{is_done, is_refused, refused_on, passed_on}
use Rattle.field.specs.Modulus.{modulus}
use Rattle.field.proofs.Moduli.{known_number}
use Rattle.message_bytes.specs.Bytes.{bytes_of, elements_of}
use Rattle.message_bytes.proofs.Bytes.{length_bytes_of}
use Rattle.message_header.specs.declared.Header.{Header}
use Rattle.message_header.specs.Header.{header, header_of, element_count}
use Rattle.message_header.proofs.Fields.{Ranged, ranged, fields_pass}
use Rattle.message_header.proofs.Headers.{length_header}
use Rattle.message_header.proofs.Outcomes.{refused_by}
use Rattle.message.specs.Format.{message_of, payload, elements, element_test, write_tests, message_tests, examined}
use Rattle.message.proofs.Tests.{message_numbered}
use Rattle.message.proofs.Fields.{writes, readable}
use Rattle.product.specs.Product.{product_of}
use Rattle.mukerihe.specs.Host.{host_tests, host_product, host_after}
use Rattle.mukerihe.specs.Answer.{pair_header, pair_tests, host_answer, host_answer_tests, host_answer_after}

module _ (message : List ℕ) where
  -- the bytes of its elements
  payload_length : first (message_tests message) ≡ 0 → length (payload message) ≡ 4 * element_count (header_of message)
  unfolding payload
  payload_length clear = omega (arith, length-drop 16 message, (readable message clear).whole)

-- the same number, in the words of the product
count_is : (h : Header) → element_count h ≡ h.rows * h.columns
unfolding element_count
count_is h = refl

module _ (g h : Header) where
  pub record Paired (room : ℕ) : Type 0 where
    pub moduli : g.modulus ≡ h.modulus
    pub sizes : g.columns ≡ h.rows
    pub count : g.rows * h.columns ≤ 4096
    pub enough : 16 + 4 * (g.rows * h.columns) ≤ room

  pub paired : (room : ℕ) → first (pair_tests g h room) ≡ 0 → Paired room
  unfolding pair_tests pair_header element_count
  paired room e =
      let kinds = first_clear _ 1000 _ e in
      let moduli = first_clear _ 1002 _ kinds.1 in
      let hosts = first_clear _ 1003 _ moduli.1 in
      let jobs = first_clear _ 1004 _ hosts.1 in
      let sizes = first_clear _ 1005 _ jobs.1 in
      let block = first_clear _ 5 _ sizes.1 in
      let enough = first_clear _ 12 _ block.1 in
      record {
        moduli = equal _ _ moduli.0;
        sizes = equal _ _ sizes.0;
        count = ltb-false 4096 _ block.0;
        enough = ltb-false room _ enough.0;
      }

-- two messages that pass their tests, by themselves and together
module _ (a b : List ℕ) (clear-a : first (message_tests a) ≡ 0) (clear-b : first (message_tests b) ≡ 0) (room : ℕ)
    (clear : first (pair_tests (header_of a) (header_of b) room) ≡ 0) where
  abbrev g : Header
  g = header_of a

  abbrev h : Header
  h = header_of b

  abbrev block : List ℕ
  block = product_of (modulus g.modulus) g.rows g.columns h.columns (elements a) (elements b)

  p : Paired g h room
  p = paired g h room clear

  in_g : Ranged g
  in_g = ranged g (readable a clear-a).head.fields

  in_h : Ranged h
  in_h = ranged h (readable b clear-b).head.fields

  block_length : length block ≡ g.rows * h.columns
  unfolding product_of
  block_length = length_grid _ _ _

  block_below : AllBelow (modulus g.modulus) block
  unfolding product_of
  block_below = below_grid _ _ _ _ (λ k l. mod-lt _ (omega (arith, (known_number g.modulus in_g.known).is_prime.above_one)))

  pub answer_written : (k : ℕ) → k ≡ 16 + 4 * (g.rows * h.columns) → first (write_tests (pair_header g h) block k) ≡ 0
  unfolding pair_header element_count element_test
  answer_written k e =
      writes (pair_header g h) block k (record {
        fields = fields_pass (pair_header g h) (record { low = omega arith; high = omega arith }) in_g.known in_g.host in_g.rows in_h.columns p.count;
        count = block_length;
        room = e;
        below = ap not (below_test _ _ block_below);
      })

  -- B's rows are A's columns
  right_count : element_count h ≡ g.columns * h.columns
  unfolding element_count
  right_count = ap (λ (k : ℕ). k * h.columns) (sym p.sizes)

  -- the elements of the payloads, in the words of the product
  left_elements : elements_of (g.rows * g.columns) (payload a) ≡ elements a
  unfolding elements element_count
  left_elements = refl

  right_elements : elements_of (g.columns * h.columns) (payload b) ≡ elements b
  unfolding elements
  right_elements = ap (λ (k : ℕ). elements_of k (payload b)) (sym right_count)

  pub product_clear : (k : ℕ) → k ≡ 4 * (g.rows * h.columns)
      → first (host_tests g.modulus g.rows g.columns h.columns (payload a) (payload b) k) ≡ 0
  unfolding host_tests sizes_outside any_outside over_block element_test
  product_clear k e =
      let left-block : g.rows * g.columns ≤ 4096 = omega (arith, in_g.count, count_is g) in
      let right-block : g.columns * h.columns ≤ 4096 = omega (arith, in_h.count, right_count) in
      let left : length (payload a) ≡ 4 * (g.rows * g.columns) = payload_length a clear-a ∙ ap (λ (n : ℕ). 4 * n) (count_is g) in
      let right : length (payload b) ≡ 4 * (g.columns * h.columns) = payload_length b clear-b ∙ ap (λ (n : ℕ). 4 * n) right_count in
      first_miss _ 1 _ in_g.known
      ∙ first_miss _ 2 _ (ap₂ ◌||◌ (ap₂ ◌||◌ (within_range in_g.rows) (within_range in_g.columns)) (within_range in_h.columns))
      ∙ first_miss _ 6 _ (ap₂ ◌||◌ (ap₂ ◌||◌ (le-ltb 4096 _ left-block) (le-ltb 4096 _ right-block)) (le-ltb 4096 _ p.count))
      ∙ first_miss _ 13 _ (ap₂ ◌||◌ (ap₂ ◌||◌ (alike _ _ left) (alike _ _ right)) (alike k _ e))
      ∙ first_miss _ 14 _
      (ap₂ ◌||◌ (ap (element_test g.modulus) left_elements ∙ (readable a clear-a).below)
      (ap (element_test g.modulus) right_elements ∙ ap (λ (n : ℕ). element_test n (elements b)) p.moduli ∙ (readable b clear-b).below))
      ∙ first_none

  multiplied : (lent : List ℕ) → length lent ≡ 4 * (g.rows * h.columns)
      → host_after g.modulus g.rows g.columns h.columns (payload a) (payload b) lent ≡ bytes_of block
  unfolding host_after host_product
  multiplied lent e =
      unless_done _ _ lent (product_clear (length lent) e)
      ∙ ap bytes_of (ap₂ (product_of (modulus g.modulus) g.rows g.columns h.columns) left_elements right_elements)

  pub length_answer : length (host_answer a b) ≡ 16 + 4 * (g.rows * h.columns)
  unfolding host_answer message_of
  length_answer = omega (arith, length-append (header (pair_header g h)) (bytes_of block), length_header (pair_header g h), length_bytes_of block, block_length)

  -- the output with the header at its front, and the part after that which the product was written to
  module _ (out out' : List ℕ) (is-room : length out ≡ room) (k : Header) (is-k : k ≡ pair_header g h) (head : out' ≡ header k ++ drop 16 out) where
    pub headed_length : length out' ≡ room
    headed_length =
        ap length head ∙ omega (arith, length-append (header k) (drop 16 out), length_header k, length-drop 16 out, is-room, p.enough)

    pub done : (part lent left right : List ℕ) (n : ℕ) → n ≡ 4 * (g.rows * h.columns) → length lent ≡ n → left ≡ payload a → right ≡ payload b
        → part ≡ host_after g.modulus g.rows g.columns h.columns left right lent
        → take 16 out' ++ (part ++ drop n (drop 16 out')) ≡ host_answer a b ++ drop (length (host_answer a b)) out
    unfolding host_answer message_of
    done part lent left right n is-n whole is-left is_right is-part =
        let front = ap (take 16) head ∙ take_at (header k) (drop 16 out) 16 (length_header k) ∙ ap header is-k in
        let rest = ap (drop n) (ap (drop 16) head ∙ drop_at (header k) (drop 16 out) 16 (length_header k)) ∙ drop-drop n 16 out in
        let body =
        is-part
        ∙ ap₂ (λ (xs ys : List ℕ). host_after g.modulus g.rows g.columns h.columns xs ys lent) is-left is_right
        ∙ multiplied lent (whole ∙ is-n)
        in
        let end : 16 + n ≡ length (host_answer a b) = ap (λ (k : ℕ). 16 + k) is-n ∙ sym length_answer in
        ap₂ (λ (xs ys : List ℕ). xs ++ (part ++ ys)) front rest
        ∙ ap₂ (λ (xs : List ℕ) (i : ℕ). header (pair_header g h) ++ (xs ++ drop i out)) body end
        ∙ sym (append_assoc (header (pair_header g h)) (bytes_of block) _)

pair_numbered : (g h : Header) (room : ℕ) → T (numbered (pair_tests g h room))
unfolding pair_tests pair_header numbered refusal_of sheet own
pair_numbered g h room = tt

pub answer_numbered : (a b : List ℕ) (room : ℕ) → T (numbered (host_answer_tests a b room))
unfolding host_answer_tests
answer_numbered a b room =
    numbered_append (message_tests a) _ (message_numbered a)
    (numbered_append (message_tests b) _ (message_numbered b) (pair_numbered (header_of a) (header_of b) room))

pub answer_parts : (a b : List ℕ) (room : ℕ) → first (host_answer_tests a b room) ≡ 0
    → (first (message_tests a) ≡ 0) × (first (message_tests b) ≡ 0) × (first (pair_tests (header_of a) (header_of b) room) ≡ 0)
unfolding host_answer_tests
answer_parts a b room clear =
    let one = first_append_clear (message_tests a) _ (message_numbered a) clear in
    let two = first_append_clear (message_tests b) _ (message_numbered b) one.1 in
    (one.0, two.0, two.1)

-- two messages, their headers, and the output
module _ (a b out : List ℕ) where
  abbrev tests : List Test
  tests = host_answer_tests a b (length out)

  abbrev count : ℕ
  count = length (host_answer a b)

  -- a message is refused, or both together: so is the call
  pub first_refused : (r : Refusal) → Err r ≡ examined a → Err r ≡ answered tests count
  unfolding examined host_answer_tests
  first_refused r e = refused_on (message_tests a) _ _ _ r e

  module _ (g : Header) (is-read : Ok g ≡ examined a) where
    past_first : answered tests count ≡ answered (message_tests b ++ pair_tests (header_of a) (header_of b) (length out)) count
    unfolding examined host_answer_tests
    past_first = passed_on (message_tests a) _ _ count g (message_numbered a) is-read

    pub second_refused : (r : Refusal) → Err r ≡ examined b → Err r ≡ answered tests count
    unfolding examined
    second_refused r e = refused_on (message_tests b) _ _ _ r e ∙ sym past_first

    module _ (h : Header) (is-second : Ok h ≡ examined b) where
      -- the headers of messages that pass their tests
      pub read : (first (message_tests a) ≡ 0) × (g ≡ header_of a) × (first (message_tests b) ≡ 0) × (h ≡ header_of b)
      unfolding examined
      read =
          let one = is_done _ _ g is-read in
          let two = is_done _ _ h is-second in
          (one.0, one.1, two.0, two.1)

      past_both : first tests ≡ first (pair_tests g h (length out))
      unfolding host_answer_tests
      past_both =
          let m = read in
          first_append (message_tests a) _ (message_numbered a) m.0
          ∙ first_append (message_tests b) _ (message_numbered b) m.2
          ∙ ap₂ (λ (g h : Header). first (pair_tests g h (length out))) (sym m.1) (sym m.3)

      pub pair_refused : {A : Type 0} (value : A) (r : Refusal) → Err r ≡ answered (pair_tests g h (length out)) value → Err r ≡ answered tests count
      pair_refused value r e =
          let told = is_refused _ _ r e in
          refused_by tests count r (λ z. told.0 (sym past_both ∙ z)) (told.1 ∙ ap refusal_of (sym past_both))

      pub carried_out : first (pair_tests g h (length out)) ≡ 0 → first tests ≡ 0
      carried_out e = past_both ∙ e

  pub kept : (r : Refusal) → Err r ≡ answered tests count → out ≡ host_answer_after a b out
  unfolding host_answer_after
  kept r e = sym (unless_refused_lem tests _ out (is_refused tests count r e).0)
