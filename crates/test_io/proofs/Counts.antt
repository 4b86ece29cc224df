-- Numbers of elements at the front of a list.
-- counts: at most as many as there are.
-- counts-front: those of a list that others follow.
-- rest-kept: where the front of a list is another, the rest is the same, from any place past the front on.
-- words-kept: past the words that are read from n bytes, a list is the same.
use Prim.Native.Nat.{ℕ, ◌+◌, ◌-◌, ◌/◌, ◌≤◌, min}
use mathlib.Core.Path.{◌≡◌, sym, ap, ap₂, ◌∙◌}
use mathlib.Core.List.{List, ◌++◌}
use native.Mathlib.Omega.{arith}
use lib.ListN.{length, take, drop, length-append}
use lib.Seq.{length-take-le, drop_at, drop-append-add, drop-drop}
use Rattle.io.specs.Counts.{IsPrefixLen}
use Rattle.message_bytes.specs.Bytes.{elements_of}
use Rattle.message_bytes.specs.Internal.{common}
use Rattle.message_bytes.proofs.Words.{length_elements}

pub counts : (n : ℕ) (xs : List ℕ) → n ≤ length xs → IsPrefixLen n xs
counts n xs fits = (fits, sym (length-take-le n xs fits))

pub counts_front : (n : ℕ) (xs ys : List ℕ) → n ≤ length xs → IsPrefixLen n (xs ++ ys)
counts_front n xs ys fits = counts n (xs ++ ys) (omega (arith, length-append xs ys))

pub rest_kept : (n count : ℕ) (front xs : List ℕ) → n ≤ length xs → length front ≡ length (take n xs) → n ≤ count
    → drop count (front ++ drop n xs) ≡ drop count xs
rest_kept n count front xs fits size past =
    let front-first : count ≡ length front + (count - n) = omega (arith, length-take-le n xs fits) in
    let together : n + (count - n) ≡ count = omega arith in
    ap (λ (k : ℕ). drop k (front ++ drop n xs)) front-first ∙ drop-append-add front (drop n xs) (count - n) ∙ drop-drop (count - n) n xs
    ∙ ap (λ (k : ℕ). drop k xs) together

pub words_kept : (r n : ℕ) (bytes out after : List ℕ) → n ≡ length bytes → after ≡ elements_of (common bytes out) bytes ++ drop (common bytes out) out
    → length after ≡ length out → r ≡ min (n / 4) (length after) → drop r after ≡ drop r out
unfolding common
words_kept r n bytes out after size is same told =
    let k : r ≡ common bytes out = told ∙ ap₂ (λ (i j : ℕ). min (i / 4) j) size same in
    let read = elements_of (common bytes out) bytes in
    ap₂ drop k is ∙ drop_at read _ _ (length_elements (common bytes out) bytes) ∙ ap (λ (i : ℕ). drop i out) (sym k)
