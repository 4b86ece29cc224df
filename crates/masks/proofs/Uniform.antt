-- No mask is likelier than another.
--
--   words_split   a sum over all words, by which of them are usable and leave v
--   count_cong    tests that agree count the same lists
--   count_none    a test that nothing passes
--   uniform       the statement of specs/Uniform.antt
use mathlib.Core.Path.{◌≡◌, refl, sym, ap, ap₂, ◌∙◌}
use mathlib.Core.Bool.{Bool, true, false, cond, ◌&&◌, and-true, and-false}
use mathlib.Core.List.{List, [], ◌∷◌}
use Prim.Native.Nat.{ℕ, zero, suc, ◌+◌, ◌*◌, ◌/◌, ◌%◌, ◌^◌, ◌<◌}
use native.Mathlib.Nat.{div-add-mod, div-mul-le_self, le-div_iff_mul-le, mul_comm, mul-le-mul_right, mul-mod_left, pow-zero, pow-suc, not-suc-le-zero, le_of_suc-le-suc}
use native.Mathlib.Omega.{arith}
use lib.Arith.{digits_lt, digits_mod}
use lib.Dec.{eqb, ltb}
use lib.ListN.{length, take}
use borrow.Author.Tests.{lt-ltb, le-ltb}
use Rattle.algebra.specs.Lists.{AllBelow, same}
use Rattle.algebra.specs.Sums.{sum}
use Rattle.algebra.proofs.Sums.{sum_cong, sum_flat, sum_pick, sum_more, sum_split}
use Rattle.masks.specs.Drawing.{limit, usable, kept, drawn, used}
use Rattle.masks.specs.Uniform.{count, gives, all_usable, Uniform}

-- the words below the limit are b / q runs of q, and each run has one that leaves v
words_split : (b q v x y : ℕ) → v < q
    → sum b (λ w. cond (ltb w (b / q * q)) (cond (eqb (w % q) v) x 0) y) ≡ b / q * x + b % q * y
words_split b q v x y low =
    let c : ℕ = b / q in
    let f : ℕ → ℕ = λ w. cond (ltb w (c * q)) (cond (eqb (w % q) v) x 0) y in
    let whole : c * q + b % q ≡ b = omega (arith, div-add-mod b q, mul_comm q c) in
    ap (λ (n : ℕ). sum n f) (sym whole)
    ∙ sum_more (c * q) (b % q) f
    ∙ ap₂ ◌+◌
    (sum_split c q f
    ∙ sum_cong c (λ i. sum q (λ j. f (i * q + j))) (λ i. x) (λ i hi.
    sum_cong q (λ j. f (i * q + j)) (λ j. cond (eqb j v) x 0) (λ j hj.
    ap₂ (λ (t : Bool) (r : ℕ). cond t (cond (eqb r v) x 0) y) (lt-ltb (i * q + j) (c * q) (digits_lt hi hj)) (digits_mod i hj))
    ∙ sum_pick q v x low)
    ∙ sum_flat c x)
    (sum_cong (b % q) (λ i. f (c * q + i)) (λ i. y) (λ i hi. ap (λ (t : Bool). cond t (cond (eqb ((c * q + i) % q) v) x 0) y) (le-ltb (c * q + i) (c * q) (omega arith)))
    ∙ sum_flat (b % q) y)

-- ---- lists of words

count_cong : (b m : ℕ) (f g : List ℕ → Bool) → ((ws : List ℕ) → f ws ≡ g ws) → count b m f ≡ count b m g
unfolding count
count_cong b zero f g h = ap (λ (t : Bool). cond t 1 0) (h [])
count_cong b (suc m) f g h =
    sum_cong b (λ w. count b m (λ ws. f (w ∷ ws))) (λ w. count b m (λ ws. g (w ∷ ws))) (λ w l. count_cong b m _ _ (λ ws. h (w ∷ ws)))

count_none : (b m : ℕ) → count b m (λ ws. false) ≡ 0
unfolding count
count_none b zero = refl
count_none b (suc m) = sum_cong b (λ w. count b m (λ ws. false)) (λ w. 0) (λ w l. count_none b m) ∙ sum_flat b 0 ∙ omega arith

module _ (q : ℕ) (pos : 0 < q) where
  abbrev all : ℕ
  all = 2 ^ 32

  -- what one word more gives
  gives_more : (v : ℕ) (vs : List ℕ) (w : ℕ) (ws : List ℕ) (u : Bool) → usable q w ≡ u
      → gives q (v ∷ vs) (w ∷ ws) ≡ cond u (eqb (w % q) v && gives q vs ws) (gives q (v ∷ vs) ws)
  unfolding gives drawn kept same
  gives_more v vs w ws true e = ap (λ (t : Bool). same (take (suc (length vs)) (cond t (w % q ∷ kept q ws) (kept q ws))) (v ∷ vs)) e
  gives_more v vs w ws false e = ap (λ (t : Bool). same (take (suc (length vs)) (cond t (w % q ∷ kept q ws) (kept q ws))) (v ∷ vs)) e

  -- ---- lists of m words, with a test of how many are used

  number : ℕ → List ℕ → (ℕ → Bool) → ℕ
  number m vs t = count all m (λ ws. gives q vs ws && t (used q (length vs) ws))

  one_word : (m v : ℕ) (vs : List ℕ) (t : ℕ → Bool) (w : ℕ)
      → count all m (λ ws. gives q (v ∷ vs) (w ∷ ws) && t (used q (suc (length vs)) (w ∷ ws)))
      ≡ cond (usable q w) (cond (eqb (w % q) v) (number m vs (λ k. t (suc k))) 0) (number m (v ∷ vs) (λ k. t (suc k)))
  unfolding number used
  one_word m v vs t w = go (usable q w) (eqb (w % q) v) refl refl
    where
      go : (u e : Bool) → usable q w ≡ u → eqb (w % q) v ≡ e
          → count all m (λ ws. gives q (v ∷ vs) (w ∷ ws) && t (used q (suc (length vs)) (w ∷ ws)))
          ≡ cond u (cond e (number m vs (λ k. t (suc k))) 0) (number m (v ∷ vs) (λ k. t (suc k)))
      go true true hu he = count_cong all m _ _ (λ ws.
          ap₂ (λ (x : Bool) (y : Bool). x && t (suc (cond y (used q (length vs) ws) (used q (suc (length vs)) ws))))
          (gives_more v vs w ws true hu ∙ ap (λ (x : Bool). x && gives q vs ws) he) hu)
      go true false hu he = count_cong all m _ (λ ws. false) (λ ws.
          ap (λ (x : Bool). x && t (suc (cond (usable q w) (used q (length vs) ws) (used q (suc (length vs)) ws))))
          (gives_more v vs w ws true hu ∙ ap (λ (x : Bool). x && gives q vs ws) he)) ∙ count_none all m
      go false e hu he = count_cong all m _ _ (λ ws.
          ap₂ (λ (x : Bool) (y : Bool). x && t (suc (cond y (used q (length vs) ws) (used q (suc (length vs)) ws))))
          (gives_more v vs w ws false hu) hu)

  -- how many there are, by the number of elements alone
  formula : ℕ → ℕ → (ℕ → Bool) → ℕ
  formula zero zero t = cond (t 0) 1 0
  formula zero (suc n) t = 0
  formula (suc m) zero t = all * formula m zero t
  formula (suc m) (suc n) t = all / q * formula m n (λ k. t (suc k)) + all % q * formula m (suc n) (λ k. t (suc k))

  counted : (m : ℕ) (vs : List ℕ) (t : ℕ → Bool) → AllBelow q vs → number m vs t ≡ formula m (length vs) t
  unfolding number formula count gives drawn kept used same usable limit
  counted zero [] t h = refl
  counted zero (v ∷ vs) t h = refl
  counted (suc m) [] t h = sum_flat all (number m [] t) ∙ ap (λ (x : ℕ). all * x) (counted m [] t h)
  counted (suc m) (v ∷ vs) t h =
      sum_cong all (λ w. count all m (λ ws. gives q (v ∷ vs) (w ∷ ws) && t (used q (suc (length vs)) (w ∷ ws)))) _ (λ w l. one_word m v vs t w)
      ∙ words_split all q v (number m vs (λ k. t (suc k))) (number m (v ∷ vs) (λ k. t (suc k))) (h 0 (omega arith))
      ∙ ap₂ (λ (x y : ℕ). all / q * x + all % q * y) (counted m vs (λ k. t (suc k)) (λ i l. h (suc i) (omega arith))) (counted m (v ∷ vs) (λ k. t (suc k)) h)

  -- ---- lists of words that are all usable

  plain : List ℕ → ℕ
  plain vs = count all (length vs) (λ ws. all_usable q ws && gives q vs ws)

  plain_word : (v : ℕ) (vs : List ℕ) (w : ℕ)
      → count all (length vs) (λ ws. all_usable q (w ∷ ws) && gives q (v ∷ vs) (w ∷ ws)) ≡ cond (usable q w) (cond (eqb (w % q) v) (plain vs) 0) 0
  unfolding plain all_usable
  plain_word v vs w = go (usable q w) (eqb (w % q) v) refl refl
    where
      go : (u e : Bool) → usable q w ≡ u → eqb (w % q) v ≡ e
          → count all (length vs) (λ ws. all_usable q (w ∷ ws) && gives q (v ∷ vs) (w ∷ ws)) ≡ cond u (cond e (plain vs) 0) 0
      go true true hu he = count_cong all (length vs) _ _ (λ ws.
          ap₂ (λ (x y : Bool). (x && all_usable q ws) && y) hu (gives_more v vs w ws true hu ∙ ap (λ (x : Bool). x && gives q vs ws) he))
      go true false hu he = count_cong all (length vs) _ (λ ws. false) (λ ws.
          ap₂ (λ (x y : Bool). (x && all_usable q ws) && y) hu (gives_more v vs w ws true hu ∙ ap (λ (x : Bool). x && gives q vs ws) he) ∙ and-false (all_usable q ws))
          ∙ count_none all (length vs)
      go false e hu he = count_cong all (length vs) _ (λ ws. false) (λ ws. ap (λ (x : Bool). (x && all_usable q ws) && gives q (v ∷ vs) (w ∷ ws)) hu) ∙ count_none all (length vs)

  plain_count : (vs : List ℕ) → AllBelow q vs → plain vs ≡ (all / q) ^ length vs
  unfolding plain count all_usable gives drawn same usable limit
  plain_count [] h = sym (pow-zero (all / q))
  plain_count (v ∷ vs) h =
      sum_cong all (λ w. count all (length vs) (λ ws. all_usable q (w ∷ ws) && gives q (v ∷ vs) (w ∷ ws))) _ (λ w l. plain_word v vs w)
      ∙ words_split all q v (plain vs) 0 (h 0 (omega arith))
      ∙ ap (λ (x : ℕ). all / q * x + all % q * 0) (plain_count vs (λ i l. h (suc i) (omega arith)))
      ∙ omega (arith, pow-suc (all / q) (length vs))

  -- ---- one word

  one_element : (v : ℕ) → v < q → count all 1 (gives q (v ∷ [])) ≡ all / q
  unfolding number formula
  one_element v h =
      count_cong all 1 _ (λ ws. gives q (v ∷ []) ws && true) (λ ws. sym (and-true (gives q (v ∷ []) ws)))
      ∙ counted 1 (v ∷ []) (λ k. true) one
      ∙ omega arith
    where
      one : AllBelow q (v ∷ [])
      one zero l = h
      one (suc i) l = absurd (not-suc-le-zero (le_of_suc-le-suc l))

  pub uniform : Uniform q
  unfolding number plain limit
  uniform = record {
    largest = (mul-mod_left (all / q) q, div-mul-le_self all q, λ k h. mul-le-mul_right q ((le-div_iff_mul-le pos).1 h));
    word = one_element;
    list = λ vs h. plain_count vs h;
    among = λ m k vs us e hv hu. counted m vs (λ n. eqb n k) hv ∙ ap (λ (n : ℕ). formula m n (λ n. eqb n k)) e ∙ sym (counted m us (λ n. eqb n k) hu);
  }
