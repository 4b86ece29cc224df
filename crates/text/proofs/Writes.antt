-- Laws of text written on a cursor.
--
--   writes_nothing   no text
--   writes_part      a text that takes the place of as many bytes
--   then             a text and another after it
--   same             a text by another name
--   writes_all       a text as long as the buffer
use mathlib.Core.Path.{◌≡◌, refl, sym, ap, ◌∙◌, subst}
use mathlib.Core.List.{List, [], ◌++◌, append_assoc, append-nil}
use Prim.Native.Nat.{ℕ, ◌+◌, ◌≤◌}
use native.Mathlib.Omega.{arith}
use lib.ListN.{length, take, drop, length-append, drop_of_length-le}
use lib.Seq.{take-length, drop-drop, paste-zero}
use Rattle.text.specs.declared.Writer.{Writer}
use Rattle.text.specs.Internal.{put, Writes}
use Rattle.text.proofs.Puts.{put_fits, length_put, put_put}

pub writes_nothing : (w : Writer) → Writes w [] w
writes_nothing w = record {
  same_reference = refl;
  kept = refl;
  within = λ h. h;
  is = λ fits. paste-zero w.out.now w.at [] ∙ sym (put_fits w.out.now w.at [] fits);
  behind = λ fits. omega arith;
}

pub writes_part : (w : Writer) (text : List ℕ) {w' : Writer} {part : List ℕ} {k : ℕ} → w.at + length text ≤ length w.out.now
    → part ≡ text → k ≡ length text
    → w'.out.ghost_name ≡ w.out.ghost_name
    → w'.out.now ≡ take w.at w.out.now ++ (part ++ drop k (drop w.at w.out.now))
    → w'.at ≡ w.at + length text
    → Writes w text w'
writes_part w text {w'} {k = k} room is long same_reference now behind =
    let out = w.out.now in
    let at = w.at in
    let stands : w'.out.now ≡ put out at text =
    now
    ∙ ap (λ (xs : List ℕ). take at out ++ (xs ++ drop k (drop at out))) is
    ∙ ap (λ (n : ℕ). take at out ++ (text ++ drop n (drop at out))) long
    ∙ ap (λ (xs : List ℕ). take at out ++ (text ++ xs)) (drop-drop (length text) at out)
    ∙ sym (append_assoc (take at out) text (drop (at + length text) out))
    ∙ ap (λ (xs : List ℕ). take at out ++ xs ++ drop (at + length text) out) (sym (take-length text))
    ∙ sym (put_fits out at text room) in
    record {
      same_reference = same_reference;
      kept = ap length stands ∙ length_put out at text;
      within = λ h. omega arith;
      is = λ fits. stands;
      behind = λ fits. behind;
    }

pub then : {u v w : Writer} {xs ys : List ℕ} → Writes u xs v → Writes v ys w → Writes u (xs ++ ys) w
then {u} {v} {w} {xs} {ys} p q = record {
  same_reference = q.same_reference ∙ p.same_reference;
  kept = q.kept ∙ p.kept;
  within = λ h. omega (arith, q.within (omega (arith, p.within h)));
  is = is;
  behind = λ h. let r = both h in omega (arith, length-append xs ys, p.behind r.0, q.behind (room h));
}
  where
    both : u.at + length (xs ++ ys) ≤ length u.out.now
        → (u.at + length xs ≤ length u.out.now) × (u.at + length xs + length ys ≤ length u.out.now)
    both h = omega (arith, length-append xs ys)

    room : u.at + length (xs ++ ys) ≤ length u.out.now → v.at + length ys ≤ length v.out.now
    room h = let r = both h in omega (arith, p.behind r.0)

    is : u.at + length (xs ++ ys) ≤ length u.out.now → w.out.now ≡ put u.out.now u.at (xs ++ ys)
    is h =
        let r = both h in
        q.is (room h)
        ∙ ap (λ (l : List ℕ). put l v.at ys) (p.is r.0)
        ∙ ap (λ (k : ℕ). put (put u.out.now u.at xs) k ys) (p.behind r.0)
        ∙ put_put u.out.now u.at xs ys r.1

pub same : {w w' : Writer} {text other : List ℕ} → text ≡ other → Writes w text w' → Writes w other w'
same {w} {w'} s written = subst (λ (l : List ℕ). Writes w l w') s written

pub writes_all : {w w' : Writer} {text : List ℕ} → w.at ≡ 0 → length text ≡ length w.out.now → Writes w text w' → w'.out.now ≡ text
writes_all {w} {w'} {text} front long written =
    let out = w.out.now in
    written.is (omega arith)
    ∙ ap (λ (k : ℕ). put out k text) front
    ∙ put_fits out 0 text (omega arith)
    ∙ ap (λ (xs : List ℕ). xs ++ drop (0 + length text) out) (take-length text)
    ∙ ap (λ (xs : List ℕ). text ++ xs) (drop_of_length-le out {i = 0 + length text} (omega arith))
    ∙ append-nil text
