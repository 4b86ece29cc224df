-- No mask is likelier than another (02, U3), for any q above 0.
--
--   count b m test  == how many of the lists of m numbers below b pass a test
--   gives q vs ws   == the words ws give the masks vs
--   all_usable q ws  == none of the words ws is skipped
--   Uniform q       == every element, and every list of masks, comes from equally many words
use Rattle.std.specs.Prelude.{◌≡◌, Bool, true, cond, ◌&&◌, List, [], ◌∷◌, ℕ, zero, suc, ◌*◌, ◌/◌, ◌%◌, ◌^◌, ◌<◌, ◌≤◌, eqb, length}
use Rattle.algebra.specs.Lists.{AllBelow, same}
use Rattle.algebra.specs.Sums.{sum}
use Rattle.masks.specs.Drawing.{limit, usable, drawn, used}

unfoldable pub count : ℕ → ℕ → (List ℕ → Bool) → ℕ
count b zero test = cond (test []) 1 0
count b (suc m) test = sum b (λ w. count b m (λ ws. test (w ∷ ws)))

unfoldable pub gives : ℕ → List ℕ → List ℕ → Bool
gives q vs ws = same (drawn q (length vs) ws) vs

unfoldable pub all_usable : ℕ → List ℕ → Bool
all_usable q [] = true
all_usable q (w ∷ ws) = usable q w && all_usable q ws

pub record Uniform (q : ℕ) : Type 0 where
  -- "the largest multiple of q that is at most 2^32"
  pub largest : (limit q % q ≡ 0) × (limit q ≤ 2 ^ 32) × ((k : ℕ) → k * q ≤ 2 ^ 32 → k * q ≤ limit q)
  -- "Each element comes from equally many words."
  pub word : (v : ℕ) → v < q → count (2 ^ 32) 1 (gives q (v ∷ [])) ≡ 2 ^ 32 / q
  -- "For any count of elements, every list of masks comes from equally many lists of that many usable words"
  pub list : (vs : List ℕ) → AllBelow q vs
      → count (2 ^ 32) (length vs) (λ ws. all_usable q ws && gives q vs ws) ≡ (2 ^ 32 / q) ^ length vs
  -- and from equally many lists of m words, skipped ones among them, of which k are used: k tells nothing of the masks
  pub among : (m k : ℕ) (vs us : List ℕ) → length vs ≡ length us → AllBelow q vs → AllBelow q us
      → count (2 ^ 32) m (λ ws. gives q vs ws && eqb (used q (length vs) ws) k)
      ≡ count (2 ^ 32) m (λ ws. gives q us ws && eqb (used q (length us) ws) k)
