-- Laws of finite sums.
--
--   sum_cong sum_≈         equal, or congruent, terms
--   sum_flat               terms that are all the same
--   sum_zero               terms that are all 0
--   sum_pick               only the term at v counts
--   sum_none               terms that are all 0 modulo q
--   sum_bound              n terms that are each at most b
--   sum_add sum_mul        the sum of sums; a factor taken out
--   sum_single             only the term at k counts, modulo q
--   sum_swap               the order of two sums
--   sum_more sum_split     a sum in two parts, and in n parts of m terms
use mathlib.Core.Path.{◌≡◌, refl, sym, ap, ap₂, ◌∙◌}
use mathlib.Core.Bool.{Bool, false, cond}
use mathlib.Core.Logic.{⊎_elim}
use Prim.Native.Nat.{ℕ, zero, suc, ◌+◌, ◌*◌, ◌<◌, ◌≤◌}
use native.Mathlib.Nat.{not-suc-le-zero, mul-zero, mul-add, add-zero, add-suc, lt-suc_self}
use native.Mathlib.Omega.{arith}
use lib.Dec.{eqb}
use borrow.Author.Tests.{eq-eqb, ne_eqb}
use Rattle.algebra.specs.Sums.{sum}
use Rattle.algebra.specs.Modular.{⟨◌⟩◌≈◌}
use Rattle.algebra.proofs.Orders.{eq_or_ne}
use Rattle.algebra.proofs.Modular.{≈_refl, ≈_add, ≈_trans, ≈_of_eq, ≈_by}

pub sum_cong : (n : ℕ) (f g : ℕ → ℕ) → ((i : ℕ) → i < n → f i ≡ g i) → sum n f ≡ sum n g
unfolding sum
sum_cong zero f g h = refl
sum_cong (suc n) f g h = ap₂ (λ (x y : ℕ). x + y) (sum_cong n f g (λ i l. h i (omega arith))) (h n (lt-suc_self n))

pub sum_≈ : {q : ℕ} (n : ℕ) (f g : ℕ → ℕ) → ((i : ℕ) → i < n → ⟨ q ⟩ f i ≈ g i) → ⟨ q ⟩ sum n f ≈ sum n g
unfolding sum
sum_≈ zero f g h = ≈_refl 0
sum_≈ (suc n) f g h = ≈_add (sum_≈ n f g (λ i l. h i (omega arith))) (h n (lt-suc_self n))

pub sum_flat : (n x : ℕ) → sum n (λ i. x) ≡ n * x
unfolding sum
sum_flat zero x = omega arith
sum_flat (suc n) x = omega (arith, sum_flat n x)

pub sum_zero : (n : ℕ) → sum n (λ i. 0) ≡ 0
sum_zero n = sum_flat n 0 ∙ mul-zero n

-- none of the first n is v
sum_miss : (n v x : ℕ) → n ≤ v → sum n (λ i. cond (eqb i v) x 0) ≡ 0
unfolding sum
sum_miss zero v x h = refl
sum_miss (suc n) v x h =
    let other : eqb n v ≡ false = ne_eqb n v (λ (e : n ≡ v). omega arith) in
    ap₂ (λ (a : ℕ) (b : Bool). a + cond b x 0) (sum_miss n v x (omega arith)) other

pub sum_pick : (n v x : ℕ) → v < n → sum n (λ i. cond (eqb i v) x 0) ≡ x
unfolding sum
sum_pick zero v x h = absurd (not-suc-le-zero h)
sum_pick (suc n) v x h =
    ⊎_elim
    (λ (e : n ≡ v). ap₂ (λ (a : ℕ) (b : Bool). a + cond b x 0) (sum_miss n v x (omega arith)) (eq-eqb n v e) ∙ omega arith)
    (λ (ne : n ≡ v → ⊥). ap₂ (λ (a : ℕ) (b : Bool). a + cond b x 0) (sum_pick n v x (omega arith)) (ne_eqb n v ne) ∙ omega arith)
    (eq_or_ne n v)

pub sum_bound : (n b : ℕ) (f : ℕ → ℕ) → ((i : ℕ) → i < n → f i ≤ b) → sum n f ≤ n * b
unfolding sum
sum_bound zero b f h = omega arith
sum_bound (suc n) b f h = omega (arith, sum_bound n b f (λ i l. h i (omega arith)), h n (lt-suc_self n))

pub sum_add : (n : ℕ) (f g : ℕ → ℕ) → sum n (λ i. f i + g i) ≡ sum n f + sum n g
unfolding sum
sum_add zero f g = refl
sum_add (suc n) f g = omega (arith, sum_add n f g)

pub sum_mul : (n c : ℕ) (f : ℕ → ℕ) → sum n (λ i. c * f i) ≡ c * sum n f
unfolding sum
sum_mul zero c f = sym (mul-zero c)
sum_mul (suc n) c f = ap (λ (x : ℕ). x + c * f n) (sum_mul n c f) ∙ sym (mul-add c (sum n f) (f n))

pub sum_swap : (n m : ℕ) (f : ℕ → ℕ → ℕ) → sum n (λ i. sum m (f i)) ≡ sum m (λ j. sum n (λ i. f i j))
unfolding sum
sum_swap zero m f = sym (sum_zero m)
sum_swap (suc n) m f = ap (λ (x : ℕ). x + sum m (f n)) (sum_swap n m f) ∙ sym (sum_add m (λ j. sum n (λ i. f i j)) (f n))

pub sum_more : (a b : ℕ) (f : ℕ → ℕ) → sum (a + b) f ≡ sum a f + sum b (λ i. f (a + i))
unfolding sum
sum_more a zero f = rw add-zero (sym (add-zero (sum a f)))
sum_more a (suc b) f = rw add-suc (omega (arith, sum_more a b f))

pub sum_split : (n m : ℕ) (f : ℕ → ℕ) → sum (n * m) f ≡ sum n (λ i. sum m (λ j. f (i * m + j)))
unfolding sum
sum_split zero m f = let none : 0 * m ≡ 0 = omega arith in ap (λ (k : ℕ). sum k f) none
sum_split (suc n) m f =
    let next : suc n * m ≡ n * m + m = omega arith in
    ap (λ (k : ℕ). sum k f) next ∙ sum_more (n * m) m f ∙ ap (λ (k : ℕ). k + sum m (λ j. f (n * m + j))) (sum_split n m f)

pub sum_none : {q : ℕ} (n : ℕ) (f : ℕ → ℕ) → ((i : ℕ) → i < n → ⟨ q ⟩ f i ≈ 0) → ⟨ q ⟩ sum n f ≈ 0
sum_none n f h = ≈_trans (sum_≈ n f (λ i. 0) h) (≈_of_eq (sum_zero n))

pub sum_single : {q : ℕ} (n k : ℕ) (f : ℕ → ℕ) → k < n → ((i : ℕ) → i < n → (i ≡ k → ⊥) → ⟨ q ⟩ f i ≈ 0) → ⟨ q ⟩ sum n f ≈ f k
unfolding sum
sum_single zero k f l h = absurd (not-suc-le-zero l)
sum_single {q} (suc n) k f l h =
    ⊎_elim (λ (e : n ≡ k). ≈_by (≈_add (sum_none n f (λ i li. h i (omega arith) (λ (s : i ≡ k). omega arith))) (≈_of_eq (ap f e))) (omega arith))
    (λ (ne : n ≡ k → ⊥). ≈_by (≈_add (sum_single n k f (omega arith) (λ i li. h i (omega arith))) (h n (lt-suc_self n) ne)) (omega arith))
    (eq_or_ne n k)
