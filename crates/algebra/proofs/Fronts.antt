-- A list with a new front: its first n elements are those of f, the rest are as they were.
--
--   front_none, front_more    a loop makes the front one by one
--   front_old                 past the front stands what stood there
--   front_all                 a front of the whole length
--   front_rest                what stands past the front is what f has there
--
-- A list that a loop goes through from its end.
--
--   drop_back                 one element before what was passed
--   back_none, back_more      a loop makes the list from the back, one by one
use mathlib.Core.Path.{◌≡◌, refl, sym, ap, ap₂, ◌∙◌}
use mathlib.Core.Logic.{⊎_elim}
use mathlib.Core.List.{List, ◌∷◌, ◌++◌, append-nil}
use Prim.Native.Nat.{ℕ, suc, ◌+◌, ◌-◌, ◌<◌, ◌≤◌}
use native.Mathlib.Numerals.{add-one}
use native.Mathlib.Omega.{arith}
use lib.ListN.{length, get_or, drop, set, length-append, length-drop, length-set, drop_of_length-le, get_or-append}
use lib.Seq.{drop-cons, drop-set-lt, set_at, get_or-set_same, append_snoc, get_or-append-add, get_or-drop, ext_get_or}
use Rattle.algebra.specs.Lists.{tab}
use Rattle.algebra.proofs.Orders.{le_or_lt}
use Rattle.algebra.proofs.Lists.{length_tab, get_or_tab}

module _ (f : ℕ → ℕ) where
  pub front_none : (xs : List ℕ) → xs ≡ tab f 0 ++ drop 0 xs
  unfolding tab
  front_none xs = refl

  pub front_more : (xs ys : List ℕ) (n : ℕ) → n < length xs → ys ≡ tab f n ++ drop n xs → set ys n (f n) ≡ tab f (n + 1) ++ drop (n + 1) xs
  unfolding tab
  front_more xs ys n h e =
      rw add-one
      (ap (λ (l : List ℕ). set l n (f n)) (e ∙ ap (λ (l : List ℕ). tab f n ++ l) (drop-cons xs n 0 h))
      ∙ set_at (tab f n) (get_or xs n 0) (drop (suc n) xs) (f n) n (length_tab f n)
      ∙ sym (append_snoc (tab f n) (f n) (drop (suc n) xs)))

  -- the length stays
  front_length : (xs : List ℕ) (n : ℕ) → n ≤ length xs → length (tab f n ++ drop n xs) ≡ length xs
  front_length xs n h = omega (arith, length-append (tab f n) (drop n xs), length_tab f n, length-drop n xs)

  pub front_old : (xs : List ℕ) (n i : ℕ) → n ≤ i → get_or (tab f n ++ drop n xs) i 0 ≡ get_or xs i 0
  front_old xs n i h =
      let past : i ≡ length (tab f n) + (i - n) = omega (arith, length_tab f n) in
      let whole : n + (i - n) ≡ i = omega arith in
      ap (λ (k : ℕ). get_or (tab f n ++ drop n xs) k 0) past
      ∙ get_or-append-add (tab f n) (drop n xs) (i - n) 0
      ∙ get_or-drop n xs (i - n) 0
      ∙ ap (λ (k : ℕ). get_or xs k 0) whole

  pub front_all : (xs : List ℕ) (n : ℕ) → length xs ≤ n → tab f n ++ drop n xs ≡ tab f n
  front_all xs n h = ap (λ (l : List ℕ). tab f n ++ l) (drop_of_length-le xs {i = n} h) ∙ append-nil (tab f n)

  pub front_rest : (xs : List ℕ) (n : ℕ) → n ≤ length xs → ((i : ℕ) → n ≤ i → i < length xs → get_or xs i 0 ≡ f i)
      → tab f n ++ drop n xs ≡ tab f (length xs)
  front_rest xs n h e =
      let same = front_length xs n h in
      ext_get_or 0 (tab f n ++ drop n xs) (tab f (length xs)) (same ∙ sym (length_tab f (length xs)))
      (λ i l.
      let within : i < length xs = omega (arith, same) in
      ⊎_elim (λ (past : n ≤ i). front_old xs n i past ∙ e i past within ∙ sym (get_or_tab f (length xs) i 0 within))
      (λ (front : i < n).
      get_or-append (tab f n) (drop n xs) 0 i (omega (arith, length_tab f n)) ∙ get_or_tab f n i 0 front ∙ sym (get_or_tab f (length xs) i 0 within))
      (le_or_lt n i))

pub drop_back : (xs : List ℕ) (i : ℕ) → 0 < i → i ≤ length xs → drop (i - 1) xs ≡ get_or xs (i - 1) 0 ∷ drop i xs
drop_back xs i pos h =
    let next : suc (i - 1) ≡ i = omega arith in
    drop-cons xs (i - 1) 0 (omega arith) ∙ ap (λ (k : ℕ). get_or xs (i - 1) 0 ∷ drop k xs) next

module _ (f : ℕ → ℕ) where
  pub back_none : (xs : List ℕ) (n : ℕ) → length xs ≡ n → drop n xs ≡ drop n (tab f n)
  back_none xs n same =
      drop_of_length-le xs {i = n} (omega arith) ∙ sym (drop_of_length-le (tab f n) {i = n} (omega (arith, length_tab f n)))

  pub back_more : (xs : List ℕ) (n e : ℕ) → length xs ≡ n → 0 < e → e ≤ n → drop e xs ≡ drop e (tab f n)
      → drop (e - 1) (set xs (e - 1) (f (e - 1))) ≡ drop (e - 1) (tab f n)
  back_more xs n e same pos h is =
      let here : get_or (set xs (e - 1) (f (e - 1))) (e - 1) 0 ≡ get_or (tab f n) (e - 1) 0
      = get_or-set_same xs (e - 1) (f (e - 1)) 0 (omega arith) ∙ sym (get_or_tab f n (e - 1) 0 (omega arith)) in
      drop_back (set xs (e - 1) (f (e - 1))) e pos (omega (arith, length-set xs (e - 1) (f (e - 1))))
      ∙ ap₂ (λ (y : ℕ) (ys : List ℕ). y ∷ ys) here (drop-set-lt e xs (e - 1) (f (e - 1)) (omega arith) ∙ is)
      ∙ sym (drop_back (tab f n) e pos (omega (arith, length_tab f n)))
