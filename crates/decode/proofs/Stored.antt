-- The blocks in the store.
--
--   heard_none, heard_next   the test of the blocks of the hosts heard, host by host
--   heard_block              what it tells of one of them
use mathlib.Core.Path.{◌≡◌, refl, sym, ap, ◌∙◌}
use mathlib.Core.Bool.{Bool, true, false, not, ◌&&◌, ◌||◌, true≢false}
use mathlib.Core.Logic.{⊎_elim}
use mathlib.Core.List.{List}
use Prim.Native.Nat.{ℕ, zero, suc, ◌+◌, ◌<◌}
use native.Mathlib.Nat.{not-suc-le-zero, le_of_suc-le-suc, eq-or-lt_of_le}
use native.Mathlib.Numerals.{add-one}
use Rattle.algebra.specs.Lists.{AllBelow, all_below}
use Rattle.algebra.proofs.Lists.{all_below_test}
use Rattle.arrival_heard.specs.Heard.{is_heard}
use Rattle.arrival.specs.Arriving.{block_at}
use Rattle.decode.specs.Decoding.{heard_below}

module _ (q size heard : ℕ) (store : List ℕ) where
  pub heard_none : true ≡ heard_below q size heard store 0
  unfolding heard_below
  heard_none = refl

  pub heard_next : (n : ℕ) → heard_below q size heard store (n + 1) ≡ (heard_below q size heard store n && (not (is_heard heard n) || all_below q (block_at size store n)))
  unfolding heard_below
  heard_next n = rw add-one

  pub heard_block : (n : ℕ) → heard_below q size heard store n ≡ true → (i : ℕ) → i < n → is_heard heard i ≡ true → AllBelow q (block_at size store i)
  unfolding heard_below
  heard_block zero e i l is = absurd (not-suc-le-zero l)
  heard_block (suc n) e i l is =
      let before = heard_below q size heard store n in
      let own = not (is_heard heard n) || all_below q (block_at size store n) in
      let parts = split before own e in
      ⊎_elim
      (λ (s : i ≡ n).
      all_below_test q (block_at size store i)
      (ap (λ (k : ℕ). all_below q (block_at size store k)) s ∙ sym (ap (λ (t : Bool). not t || all_below q (block_at size store n)) (ap (is_heard heard) (sym s) ∙ is)) ∙ parts.1))
      (λ (k : i < n). heard_block n parts.0 i k is)
      (eq-or-lt_of_le (le_of_suc-le-suc l))
    where
      split : (a b : Bool) → (a && b) ≡ true → (a ≡ true) × (b ≡ true)
      split true b e = (refl, e)
      split false b e = absurd (true≢false (sym e))
