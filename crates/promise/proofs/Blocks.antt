-- A store of blocks.
--
--   length_with    a store with one block replaced is as long
--   block_own      that block
--   block_other    the others stay
--   blocks_alike   two stores of the same blocks are the same
use mathlib.Core.Path.{◌≡◌, sym, ap, ap₂, ◌∙◌}
use mathlib.Core.Logic.{⊎_elim}
use mathlib.Core.List.{List, ◌++◌}
use Prim.Native.Nat.{ℕ, zero, suc, ◌+◌, ◌-◌, ◌*◌, ◌<◌, ◌≤◌, min}
use native.Mathlib.Nat.{mul-le-mul_right, eq-or-lt_of_le, lt-suc_self}
use native.Mathlib.Omega.{arith}
use lib.ListN.{length, get_or, take, drop, length-append, length-take, length-drop, get_or-append}
use lib.Seq.{length-take-le, take-add, take_all, take_at, drop_at, get_or-append-add, get_or-take, get_or-drop, ext_get_or}
use Rattle.algebra.proofs.Orders.{le_or_lt}
use Rattle.arrival.specs.Arriving.{block_at, with_block}

module _ (size : ℕ) (store : List ℕ) (i : ℕ) (xs : List ℕ) (room : i * size + size ≤ length store) (fills : length xs ≡ size) where
  front : length (take (i * size) store) ≡ i * size
  front = length-take-le (i * size) store (omega arith)

  pub length_with : length (with_block size store i xs) ≡ length store
  unfolding with_block
  length_with =
      omega (arith, length-append (take (i * size) store) (xs ++ drop (i * size + size) store), front, length-append xs (drop (i * size + size) store), length-drop (i * size + size) store)

  pub block_own : block_at size (with_block size store i xs) i ≡ xs
  unfolding block_at with_block
  block_own =
      ap (take size) (drop_at (take (i * size) store) (xs ++ drop (i * size + size) store) (i * size) front)
      ∙ take_at xs (drop (i * size + size) store) size fills

  before : (t : ℕ) → t < i * size → get_or (with_block size store i xs) t 0 ≡ get_or store t 0
  unfolding with_block
  before t l = get_or-append (take (i * size) store) _ 0 t (omega (arith, front)) ∙ get_or-take (i * size) store t 0 l

  behind : (u : ℕ) → get_or (with_block size store i xs) (i * size + size + u) 0 ≡ get_or store (i * size + size + u) 0
  unfolding with_block
  behind u =
      let far : i * size + size + u ≡ length (take (i * size) store) + (length xs + u) = omega (arith, front) in
      ap (λ (t : ℕ). get_or (take (i * size) store ++ (xs ++ drop (i * size + size) store)) t 0) far
      ∙ get_or-append-add (take (i * size) store) (xs ++ drop (i * size + size) store) (length xs + u) 0
      ∙ get_or-append-add xs (drop (i * size + size) store) u 0
      ∙ get_or-drop (i * size + size) store u 0

  -- an element outside of the block
  outside : (j e : ℕ) → (j ≡ i → ⊥) → e < size → get_or (with_block size store i xs) (j * size + e) 0 ≡ get_or store (j * size + e) 0
  outside j e ne l =
      ⊎_elim
      (λ (h : i ≤ j).
      let past : i < j = ⊎_elim (λ (s : i ≡ j). absurd (ne (sym s))) (λ (l : i < j). l) (eq-or-lt_of_le h) in
      let rows : (i + 1) * size ≤ j * size = mul-le-mul_right size (let k : i + 1 ≤ j = omega arith in k) in
      let at : i * size + size + (j * size + e - (i * size + size)) ≡ j * size + e = omega arith in
      ap (λ (t : ℕ). get_or (with_block size store i xs) t 0) (sym at)
      ∙ behind (j * size + e - (i * size + size))
      ∙ ap (λ (t : ℕ). get_or store t 0) at)
      (λ (h : j < i).
      let rows : (j + 1) * size ≤ i * size = mul-le-mul_right size (let k : j + 1 ≤ i = omega arith in k) in
      before (j * size + e) (omega arith))
      (le_or_lt i j)

  pub block_other : (j : ℕ) → (j ≡ i → ⊥) → block_at size (with_block size store i xs) j ≡ block_at size store j
  unfolding block_at
  block_other j ne =
      let w = with_block size store i xs in
      let long : length (take size (drop (j * size) w)) ≡ min size (length store - j * size)
      = length-take size (drop (j * size) w) ∙ ap (min size) (length-drop (j * size) w ∙ ap (λ (n : ℕ). n - j * size) length_with) in
      let same : length (take size (drop (j * size) store)) ≡ min size (length store - j * size)
      = length-take size (drop (j * size) store) ∙ ap (min size) (length-drop (j * size) store) in
      ext_get_or 0 (take size (drop (j * size) w)) (take size (drop (j * size) store)) (long ∙ sym same) (λ e l.
      let inside : e < size = omega (arith, long) in
      get_or-take size (drop (j * size) w) e 0 inside
      ∙ get_or-drop (j * size) w e 0
      ∙ outside j e ne inside
      ∙ sym (get_or-drop (j * size) store e 0)
      ∙ sym (get_or-take size (drop (j * size) store) e 0 inside))

module _ (size : ℕ) (xs ys : List ℕ) where
  -- the first n blocks
  fronts_alike : (n : ℕ) → ((i : ℕ) → i < n → block_at size xs i ≡ block_at size ys i) → take (n * size) xs ≡ take (n * size) ys
  unfolding block_at
  fronts_alike zero same =
      let none : 0 * size ≡ 0 = omega arith in
      ap (λ (k : ℕ). take k xs) none ∙ sym (ap (λ (k : ℕ). take k ys) none)
  fronts_alike (suc n) same =
      let next : suc n * size ≡ n * size + size = omega arith in
      ap (λ (k : ℕ). take k xs) next
      ∙ take-add (n * size) size xs
      ∙ ap₂ (λ (l r : List ℕ). l ++ r) (fronts_alike n (λ i l. same i (omega arith))) (same n (lt-suc_self n))
      ∙ sym (ap (λ (k : ℕ). take k ys) next ∙ take-add (n * size) size ys)

  pub blocks_alike : (n : ℕ) → length xs ≡ n * size → length ys ≡ n * size
      → ((i : ℕ) → i < n → block_at size xs i ≡ block_at size ys i) → xs ≡ ys
  blocks_alike n a b same =
      sym (take_all (n * size) xs (omega arith)) ∙ fronts_alike n same ∙ take_all (n * size) ys (omega arith)
