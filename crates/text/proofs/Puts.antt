-- Laws of bytes put into a buffer.
--
--   put_fits     the bytes fit
--   put_over     they do not
--   length_put   a buffer keeps its length
--   put_put      some bytes, and others after them, where all fit
--   same_bytes   the same byte everywhere
use mathlib.Core.Path.{◌≡◌, refl, sym, ap, ◌∙◌}
use mathlib.Core.Logic.{⊎_elim}
use mathlib.Core.List.{List, ◌++◌, append_assoc}
use Prim.Native.Nat.{ℕ, zero, suc, ◌+◌, ◌<◌, ◌≤◌}
use native.Mathlib.Nat.{le_refl}
use native.Mathlib.Omega.{arith}
use native.Mathlib.Numerals.{add-one}
use lib.ListN.{length, replicate, take, drop, length-append}
use lib.Seq.{take-length, drop-drop, paste, length-paste, take-paste, drop-paste}
use borrow.Author.Tests.{le-leb, lt-leb}
use Rattle.std.proofs.lemmas.List.{replicate_more}
use Rattle.algebra.specs.Lists.{tab}
use Rattle.algebra.proofs.Orders.{le_or_lt}
use Rattle.text.specs.Internal.{fits, put}

module _ (buffer : List ℕ) (at : ℕ) (bytes : List ℕ) where
  pub put_fits : at + length bytes ≤ length buffer → put buffer at bytes ≡ paste buffer at bytes (length bytes)
  unfolding put fits
  put_fits h = rw (le-leb (at + length bytes) (length buffer) h, take-length bytes)

  pub put_over : length buffer < at + length bytes → put buffer at bytes ≡ buffer
  unfolding put fits
  put_over h = rw (lt-leb (at + length bytes) (length buffer) h)

  pub length_put : length (put buffer at bytes) ≡ length buffer
  length_put =
      ⊎_elim (λ h. ap length (put_fits h) ∙ length-paste buffer at bytes (length bytes) h (le_refl (length bytes)))
      (λ h. ap length (put_over h)) (le_or_lt (at + length bytes) (length buffer))

module _ (buffer : List ℕ) (at : ℕ) (xs ys : List ℕ) (room : at + length xs + length ys ≤ length buffer) where
  first : List ℕ
  first = paste buffer at xs (length xs)

  both : at + length xs + length ys ≡ at + length (xs ++ ys)
  both = omega (arith, length-append xs ys)

  -- the part before the second bytes, and the part after them
  before_second : take (at + length xs) first ≡ take at buffer ++ xs
  unfolding first
  before_second =
      take-paste buffer at xs (length xs) (omega arith) (le_refl (length xs)) ∙ ap (λ (zs : List ℕ). take at buffer ++ zs) (take-length xs)

  after_second : drop (at + length xs + length ys) first ≡ drop (at + length xs + length ys) buffer
  unfolding first
  after_second =
      sym (drop-drop (length ys) (at + length xs) first)
      ∙ ap (drop (length ys)) (drop-paste buffer at xs (length xs) (omega arith) (le_refl (length xs)))
      ∙ drop-drop (length ys) (at + length xs) buffer

  pub put_put : put (put buffer at xs) (at + length xs) ys ≡ put buffer at (xs ++ ys)
  unfolding first
  put_put =
      ap (λ (zs : List ℕ). put zs (at + length xs) ys) (put_fits buffer at xs (omega arith))
      ∙ put_fits first (at + length xs) ys (omega (arith, length-paste buffer at xs (length xs) (omega arith) (le_refl (length xs))))
      ∙ ap (λ (zs : List ℕ). zs ++ take (length ys) ys ++ drop (at + length xs + length ys) first) before_second
      ∙ ap (λ (zs : List ℕ). take at buffer ++ xs ++ take (length ys) ys ++ zs) after_second
      ∙ ap (λ (zs : List ℕ). take at buffer ++ xs ++ zs ++ drop (at + length xs + length ys) buffer) (take-length ys)
      ∙ ap (λ (zs : List ℕ). zs ++ drop (at + length xs + length ys) buffer) (append_assoc (take at buffer) xs ys)
      ∙ ap (λ (zs : List ℕ). take at buffer ++ zs ++ drop (at + length xs + length ys) buffer) (sym (take-length (xs ++ ys)))
      ∙ ap (λ (k : ℕ). take at buffer ++ take (length (xs ++ ys)) (xs ++ ys) ++ drop k buffer) both
      ∙ sym (put_fits buffer at (xs ++ ys) (omega (arith, length-append xs ys)))

pub same_bytes : (n byte : ℕ) → replicate n byte ≡ tab (λ i. byte) n
unfolding tab
same_bytes zero byte = refl
same_bytes (suc n) byte = rw (← same_bytes n byte) (rw (replicate_more n byte) (rw add-one refl))
