-- A loop over the indices finds the lowest-numbered hosts heard one by one, and writes their indices into an output.
--
--   Found               the output then has the indices of those found so far, and past them what it held
--   found_none          none at first
--   found_more          one more is heard, and there is room
--   found_skip, found_full  the next one is not heard, or there is no room
--   found_all           all indices
use mathlib.Core.Path.{◌≡◌, refl, sym, ap, ap₂, ◌∙◌}
use mathlib.Core.Bool.{true, false}
use mathlib.Core.Logic.{⊎_elim}
use mathlib.Core.List.{List, [], ◌∷◌, ◌++◌}
use Prim.Native.Nat.{ℕ, suc, ◌+◌, ◌<◌, ◌≤◌}
use native.Mathlib.Numerals.{add-one}
use native.Mathlib.Omega.{arith}
use lib.ListN.{length, drop, set, length-append, length-take, length-set}
use lib.Seq.{take_all, take-nil, take-append-le, drop-cons, set_at, append_snoc}
use Rattle.algebra.specs.Sets.{members}
use Rattle.algebra.proofs.Tests.{by_test}
use Rattle.arrival_heard.specs.Heard.{is_heard, lowest}

module _ (k h : ℕ) where
  lowest_none : lowest k h 0 ≡ []
  unfolding lowest members
  lowest_none = take-nil k

  module _ (n : ℕ) where
    before : List ℕ
    before = members (is_heard h) n

    lowest_more : is_heard h n ≡ true → length (lowest k h n) < k → lowest k h (suc n) ≡ lowest k h n ++ (n ∷ [])
    unfolding lowest members before
    lowest_more e l =
        let few : length before < k = omega (arith, length-take k before) in
        rw e
        (take_all k (before ++ (n ∷ [])) (omega (arith, length-append before (n ∷ [])))
        ∙ ap (λ (xs : List ℕ). xs ++ (n ∷ [])) (sym (take_all k before (omega arith))))

    lowest_skip : is_heard h n ≡ false → lowest k h (suc n) ≡ lowest k h n
    unfolding lowest members
    lowest_skip e = rw e

    lowest_full : k ≤ length (lowest k h n) → lowest k h (suc n) ≡ lowest k h n
    unfolding lowest members before
    lowest_full l =
        let many : k ≤ length before = omega (arith, length-take k before) in
        ⊎_elim (λ (t : is_heard h n ≡ true). rw t (take-append-le k before (n ∷ []) many)) (λ (f : is_heard h n ≡ false). lowest_skip f)
        (by_test (is_heard h n))

module _ (h : ℕ) (out₀ : List ℕ) where
  abbrev found : ℕ → List ℕ
  found index = lowest (length out₀) h index

  pub record Found (out : List ℕ) (n index : ℕ) : Type 0 where
    pub same : length out ≡ length out₀
    pub count : n ≡ length (found index)
    pub is : out ≡ found index ++ drop n out₀

  pub found_none : Found out₀ 0 0
  found_none =
      let none = lowest_none (length out₀) h in
      record { same = refl; count = sym (ap length none); is = sym (ap (λ (xs : List ℕ). xs ++ out₀) none) }

  module _ (out : List ℕ) (n index : ℕ) (f : Found out n index) where
    pub found_more : is_heard h index ≡ true → n < length out₀ → Found (set out n index) (n + 1) (index + 1)
    found_more e l =
        let more : found (index + 1) ≡ found index ++ (index ∷ [])
        = ap found (add-one index) ∙ lowest_more (length out₀) h index e (omega (arith, f.count)) in
        record {
          same = length-set out n index ∙ f.same;
          count = omega (arith, f.count, ap length more, length-append (found index) (index ∷ []));
          is =
              ap (λ (xs : List ℕ). set xs n index) (f.is ∙ ap (λ (xs : List ℕ). found index ++ xs) (drop-cons out₀ n 0 l))
              ∙ set_at (found index) _ (drop (suc n) out₀) index n (sym f.count)
              ∙ sym (append_snoc (found index) index (drop (suc n) out₀))
              ∙ ap₂ (λ (xs : List ℕ) (m : ℕ). xs ++ drop m out₀) (sym more) (sym (add-one n));
        }

    -- no other host is found
    as_before : found (suc index) ≡ found index → Found out n (index + 1)
    as_before e =
        let next : found (index + 1) ≡ found index = ap found (add-one index) ∙ e in
        record {
          same = f.same;
          count = f.count ∙ ap length (sym next);
          is = f.is ∙ ap (λ (xs : List ℕ). xs ++ drop n out₀) (sym next);
        }

    pub found_skip : is_heard h index ≡ false → Found out n (index + 1)
    found_skip e = as_before (lowest_skip (length out₀) h index e)

    pub found_full : length out₀ ≤ n → Found out n (index + 1)
    found_full l = as_before (lowest_full (length out₀) h index (omega (arith, f.count)))

  pub found_all : (out : List ℕ) (n : ℕ) → Found out n 64 → out ≡ lowest (length out₀) h 64 ++ drop (length (lowest (length out₀) h 64)) out₀
  found_all out n f = f.is ∙ ap (λ (m : ℕ). found 64 ++ drop m out₀) f.count
