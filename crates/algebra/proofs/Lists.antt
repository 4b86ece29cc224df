-- Laws of lists by index.
--
--   length_tab, get_or_tab      a tabulated list has its length and its elements
--   take_tab                  the first elements of a tabulated list
--   get_d_map                  an element of a mapped list
--   fill_none, fill_more, fill_all  a list that is filled from the front becomes a tabulated one
--   all_below_test            what the test `all_below` tells
--   below_test                a list of small numbers passes it
--   below_anywhere            past the end of a list stands 0
--   below_append, below_tab   small numbers after small numbers, and a tabulated list of them
--   rest_is                   a list from some index on, up to its end
--   take_clipped              so many elements from the front, clipped at the end
--   rest_clipped              a list from some index on, clipped at its end
--   below_drop, below_part    a part of a list
--   below_none, below_step, below_more, below_all  the test, element by element
--   below_stop                one element that is not below
--   same_refl, same_eq        equal lists pass the test `same`, and those that pass it are equal
--   same_long                 lists of unlike lengths fail it
--   same_append               lists in two parts, the first ones of equal lengths
--   same_none, same_step, same_all  the test, element by element
use mathlib.Core.Path.{◌≡◌, refl, sym, ap, ap₂, ◌∙◌}
use mathlib.Core.Bool.{Bool, true, false, ◌&&◌, true≢false, and-eq-true_iff, and-true, and_assoc}
use mathlib.Core.Logic.{⊎_elim}
use mathlib.Core.List.{List, [], ◌∷◌, ◌++◌, map}
use Prim.Native.Nat.{ℕ, zero, suc, ◌+◌, ◌-◌, ◌<◌, ◌≤◌, min, suc-le-suc}
use native.Mathlib.Nat.{not-suc-le-zero, le_of_suc-le-suc, eq-or-lt_of_le, suc-ne-zero}
use native.Mathlib.Numerals.{add-one}
use native.Mathlib.Omega.{arith}
use lib.Dec.{T, eqb, ltb, ltb→lt}
use lib.ListN.{length, get_or, take, drop, set, length-append, get_or-append, get_or-eq_default, length-take, length-drop, drop_of_length-le}
use lib.Seq.{get_or_at, get_or-take, get_or-drop, take_all, take-append-le, take-suc, take-suc-set, length-take-le}
use Rattle.algebra.specs.Lists.{tab, AllBelow, all_below, same}
use borrow.Author.Tests.{lt-ltb, eqb-true, eq-eqb}
use Rattle.algebra.proofs.Orders.{le_or_lt}
use Rattle.algebra.proofs.Tests.{by_test, and_left, and_right}

module _ {ℓ} {A : Type ℓ} (f : ℕ → A) where
  pub length_tab : (n : ℕ) → length (tab f n) ≡ n
  unfolding tab
  length_tab zero = refl
  length_tab (suc n) = omega (arith, length-append (tab f n) (f n ∷ []), length_tab n)

  pub get_or_tab : (n i : ℕ) (d : A) → i < n → get_or (tab f n) i d ≡ f i
  unfolding tab
  get_or_tab zero i d h = absurd (not-suc-le-zero h)
  get_or_tab (suc n) i d h =
      ⊎_elim (λ e. get_or_at (tab f n) (f n) [] d i (length_tab n ∙ sym e) ∙ ap f (sym e))
      (λ l. get_or-append (tab f n) (f n ∷ []) d i (omega (arith, length_tab n)) ∙ get_or_tab n i d l)
      (eq-or-lt_of_le (le_of_suc-le-suc h))

  pub take_tab : (n m : ℕ) → n ≤ m → take n (tab f m) ≡ tab f n
  unfolding tab
  take_tab n zero h = let z : n ≡ 0 = omega arith in rw z
  take_tab n (suc m) h =
      ⊎_elim (λ (e : n ≡ suc m). rw e (take_all (suc m) (tab f (suc m)) (omega (arith, length_tab (suc m)))))
      (λ (l : n < suc m). take-append-le n (tab f m) (f m ∷ []) (omega (arith, length_tab m)) ∙ take_tab n m (le_of_suc-le-suc l))
      (eq-or-lt_of_le h)

  pub fill_none : (xs : List A) → take 0 xs ≡ tab f 0
  unfolding tab
  fill_none xs = refl

  pub fill_more : (xs : List A) (i : ℕ) → i < length xs → take i xs ≡ tab f i → take (i + 1) (set xs i (f i)) ≡ tab f (i + 1)
  unfolding tab
  fill_more xs i h e = rw add-one (take-suc-set xs i (f i) h ∙ ap (λ (l : List A). l ++ (f i ∷ [])) e)

  pub fill_all : (xs : List A) (n : ℕ) → length xs ≡ n → take n xs ≡ tab f n → xs ≡ tab f n
  fill_all xs n h e = sym (take_all n xs (omega arith)) ∙ e

pub get_d_map : (f : ℕ → ℕ) (xs : List ℕ) (i : ℕ) → i < length xs → get_or (map f xs) i 0 ≡ f (get_or xs i 0)
get_d_map f [] i h = absurd (not-suc-le-zero h)
get_d_map f (x ∷ xs) zero h = refl
get_d_map f (x ∷ xs) (suc i) h = get_d_map f xs i (le_of_suc-le-suc h)

all_below_lem : (q : ℕ) (xs : List ℕ) → T (all_below q xs) → AllBelow q xs
unfolding all_below
all_below_lem q [] t i h = absurd (not-suc-le-zero h)
all_below_lem q (x ∷ xs) t zero h = ltb→lt x q (and_left (ltb x q) (all_below q xs) t)
all_below_lem q (x ∷ xs) t (suc i) h = all_below_lem q xs (and_right (ltb x q) (all_below q xs) t) i (le_of_suc-le-suc h)

pub all_below_test : (q : ℕ) (xs : List ℕ) → all_below q xs ≡ true → AllBelow q xs
all_below_test q xs e = all_below_lem q xs (rw e tt)

pub below_test : (q : ℕ) (xs : List ℕ) → AllBelow q xs → all_below q xs ≡ true
unfolding all_below
below_test q [] h = refl
below_test q (x ∷ xs) h = ap₂ ◌&&◌ (lt-ltb x q (h 0 (omega arith))) (below_test q xs (λ i l. h (suc i) (suc-le-suc l)))

pub below_anywhere : (q : ℕ) (xs : List ℕ) → 0 < q → AllBelow q xs → (i : ℕ) → get_or xs i 0 < q
below_anywhere q xs pos h i =
    ⊎_elim (λ (over : length xs ≤ i). omega (arith, get_or-eq_default xs 0 over)) (λ (l : i < length xs). h i l) (le_or_lt (length xs) i)

pub below_append : (q : ℕ) (xs ys : List ℕ) → AllBelow q xs → AllBelow q ys → AllBelow q (xs ++ ys)
below_append q [] ys b c i h = c i h
below_append q (x ∷ xs) ys b c zero h = b 0 (omega arith)
below_append q (x ∷ xs) ys b c (suc i) h = below_append q xs ys (λ j l. b (suc j) (omega arith)) c i (le_of_suc-le-suc h)

pub below_tab : (q : ℕ) (f : ℕ → ℕ) (n : ℕ) → ((i : ℕ) → f i < q) → AllBelow q (tab f n)
below_tab q f n h i l = omega (arith, get_or_tab f n i 0 (omega (arith, length_tab f n)), h i)

pub rest_is : (xs : List ℕ) (k : ℕ) → take (length xs - k) (drop k xs) ≡ drop k xs
rest_is xs k = take_all (length xs - k) (drop k xs) (omega (arith, length-drop k xs))

-- past the end of a list there is nothing to take, and nothing to drop
module _ (xs : List ℕ) (n : ℕ) where
  pub take_clipped : take (min n (length xs)) xs ≡ take n xs
  take_clipped =
      ⊎_elim
      (λ (h : n ≤ length xs). let is : min n (length xs) ≡ n = omega arith in ap (λ (k : ℕ). take k xs) is)
      (λ (h : length xs < n). take_all (min n (length xs)) xs (omega arith) ∙ sym (take_all n xs (omega arith)))
      (le_or_lt n (length xs))

  drop_clipped : drop (min n (length xs)) xs ≡ drop n xs
  drop_clipped =
      ⊎_elim
      (λ (h : n ≤ length xs). let is : min n (length xs) ≡ n = omega arith in ap (λ (k : ℕ). drop k xs) is)
      (λ (h : length xs < n). drop_of_length-le xs {i = min n (length xs)} (omega arith) ∙ sym (drop_of_length-le xs {i = n} (omega arith)))
      (le_or_lt n (length xs))

  pub rest_clipped : (start : ℕ) → start ≡ min n (length xs) → take (length xs - start) (drop start xs) ≡ drop n xs
  rest_clipped start e = rest_is xs start ∙ ap (λ (k : ℕ). drop k xs) e ∙ drop_clipped

pub below_drop : (q : ℕ) (xs : List ℕ) → AllBelow q xs → (k : ℕ) → AllBelow q (drop k xs)
below_drop q xs h k i l =
    let there : k + i < length xs = omega (arith, length-drop k xs) in
    omega (arith, get_or-drop k xs i 0, h (k + i) there)

pub below_part : (q : ℕ) (xs : List ℕ) → AllBelow q xs → (n k : ℕ) → AllBelow q (take n (drop k xs))
below_part q xs h n k i l =
    let size = length-take n (drop k xs) in
    let inside : i < n = omega arith in
    omega (arith, get_or-take n (drop k xs) i 0 inside, below_drop q xs h k i (omega arith))

pub below_none : (q : ℕ) (xs : List ℕ) → all_below q (take 0 xs) ≡ true
unfolding all_below
below_none q xs = refl

below_snoc : (q : ℕ) (xs : List ℕ) (x : ℕ) → all_below q (xs ++ (x ∷ [])) ≡ (all_below q xs && ltb x q)
unfolding all_below
below_snoc q [] x = last (ltb x q)
  where
    last : (b : Bool) → (b && true) ≡ b
    last true = refl
    last false = refl
below_snoc q (y ∷ xs) x = go (ltb y q) (below_snoc q xs x)
  where
    go : (b : Bool) → all_below q (xs ++ (x ∷ [])) ≡ (all_below q xs && ltb x q) → (b && all_below q (xs ++ (x ∷ []))) ≡ (b && all_below q xs && ltb x q)
    go true e = e
    go false e = refl

pub below_step : (q : ℕ) (xs : List ℕ) (i : ℕ) → i < length xs → all_below q (take (i + 1) xs) ≡ (all_below q (take i xs) && ltb (get_or xs i 0) q)
below_step q xs i h = rw (add-one, take-suc xs i 0 h) (below_snoc q (take i xs) (get_or xs i 0))

pub below_more : (q : ℕ) (xs : List ℕ) (i : ℕ) → i < length xs → all_below q (take i xs) ≡ true → get_or xs i 0 < q
    → all_below q (take (i + 1) xs) ≡ true
below_more q xs i h t b = below_step q xs i h ∙ ap₂ ◌&&◌ t (lt-ltb (get_or xs i 0) q b)

pub below_all : (q : ℕ) (xs : List ℕ) (n : ℕ) → length xs ≤ n → all_below q xs ≡ all_below q (take n xs)
below_all q xs n h = ap (all_below q) (sym (take_all n xs h))

pub below_stop : (q : ℕ) (xs : List ℕ) (i : ℕ) → i < length xs → q ≤ get_or xs i 0 → all_below q xs ≡ false
below_stop q xs i h l =
    ⊎_elim (λ (t : all_below q xs ≡ true). let b : get_or xs i 0 < q = all_below_test q xs t i h in absurd (let no : ⊥ = omega arith in no)) (λ f. f) (by_test (all_below q xs))

-- ---- lists that are compared

pub same_refl : (xs : List ℕ) → same xs xs ≡ true
unfolding same
same_refl [] = refl
same_refl (x ∷ xs) = ap₂ ◌&&◌ (eq-eqb x x refl) (same_refl xs)

pub same_eq : (xs ys : List ℕ) → same xs ys ≡ true → xs ≡ ys
unfolding same
same_eq [] [] e = refl
same_eq [] (y ∷ ys) e = absurd (true≢false (sym e))
same_eq (x ∷ xs) [] e = absurd (true≢false (sym e))
same_eq (x ∷ xs) (y ∷ ys) e =
    let parts = (and-eq-true_iff (eqb x y) (same xs ys)).0 e in
    ap₂ ◌∷◌ (eqb-true x y parts.0) (same_eq xs ys parts.1)

pub same_long : (xs ys : List ℕ) → (length xs ≡ length ys → ⊥) → same xs ys ≡ false
same_long xs ys ne =
    ⊎_elim (λ (t : same xs ys ≡ true). absurd (ne (ap length (same_eq xs ys t)))) (λ (f : same xs ys ≡ false). f) (by_test (same xs ys))

pub same_append : (xs ys us vs : List ℕ) → length xs ≡ length ys → same (xs ++ us) (ys ++ vs) ≡ (same xs ys && same us vs)
unfolding same
same_append [] [] us vs e = refl
same_append [] (y ∷ ys) us vs e = absurd (suc-ne-zero (length ys) (sym e))
same_append (x ∷ xs) [] us vs e = absurd (suc-ne-zero (length xs) e)
same_append (x ∷ xs) (y ∷ ys) us vs e =
    let rest : length xs ≡ length ys = omega (arith, e) in
    ap (λ (t : Bool). eqb x y && t) (same_append xs ys us vs rest) ∙ sym (and_assoc (eqb x y) (same xs ys) (same us vs))

pub same_none : (xs ys : List ℕ) → same (take 0 xs) (take 0 ys) ≡ true
unfolding same
same_none xs ys = refl

pub same_step : (xs ys : List ℕ) (i : ℕ) → i < length xs → i < length ys
    → same (take (i + 1) xs) (take (i + 1) ys) ≡ (same (take i xs) (take i ys) && eqb (get_or xs i 0) (get_or ys i 0))
unfolding same
same_step xs ys i h k =
    let long : length (take i xs) ≡ length (take i ys) = omega (arith, length-take-le i xs (omega arith), length-take-le i ys (omega arith)) in
    rw (add-one, take-suc xs i 0 h, take-suc ys i 0 k)
    (same_append (take i xs) (take i ys) (get_or xs i 0 ∷ []) (get_or ys i 0 ∷ []) long
    ∙ ap (λ (t : Bool). same (take i xs) (take i ys) && t) (and-true (eqb (get_or xs i 0) (get_or ys i 0))))

pub same_all : (xs ys : List ℕ) (n : ℕ) → length xs ≤ n → length ys ≤ n → same xs ys ≡ same (take n xs) (take n ys)
same_all xs ys n h k = ap₂ same (sym (take_all n xs h)) (sym (take_all n ys k))
