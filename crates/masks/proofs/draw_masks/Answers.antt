-- `masks::draw_masks` meets its contract: the modulus number, then the words.
use mathlib.Core.Path.{◌≡◌, refl, sym, ap, ◌∙◌}
use mathlib.Core.List.{List}
use Prim.Native.Nat.{ℕ, ◌≤◌}
use native.Mathlib.Omega.{arith}
use lib.ListN.{length, take}
use lib.Seq.{length-take-le}
use Rattle.std.proofs.lemmas.Result.{err_from_is_err_and}
use Rattle.field.specs.Modulus.{prime}
use Rattle.field.proofs.Moduli.{Known, known, is_named, is_unnamed}
use Rattle.masks.specs.Drawing.{kept, drawn, used}
use Rattle.masks.proofs.Filled.{used_few, front_is}
use Rattle.masks.proofs.Outcomes.{draw_unknown, found_used, found_refused, found_is, left_few, left_done}
use Rattle.masks.proofs.draw_masks.Goals as goal
use Rattle.masks.proofs.draw_masks.Goals.{After-find_words, In_ok-count}

pub returns-in_err-named : goal.returns-in_err-named
returns-in_err-named c =
    let a = c.args in
    let p = err_from_is_err_and c.from_residual.result c.from_residual.ensures.1 in
    let u = is_unnamed a.modulus _ (sym c.in_err-named.was ∙ c.try_from.ensures) in
    let all = draw_unknown a.modulus a.words.now a.out.now u.0 in
    record { outcome = rw (p.1, p.2, u.1) all.0; masks = all.1 }

-- what the search starts from
known-q : (f : After-find_words) → Known f.args.modulus (prime f.in_ok-named.named)
known-q f = known _ (is_named f.args.modulus _ (sym f.in_ok-named.was ∙ f.try_from.ensures)) refl

pub returns-in_err-count : goal.returns-in_err-count
returns-in_err-count c =
    let f = (goal.at.returns-in_err-count c).After-find_words in
    let r = c.from_residual-in_err-count in
    let p = err_from_is_err_and r.result r.ensures.1 in
    let found = sym c.find_words.ensures ∙ c.in_err-count.was in
    record {
      outcome = rw (p.1, p.2) (sym found ∙ found_is (known-q f) _ _);
      masks = left_few (known-q f) _ _ (found_refused _ _ _ found);
    }

-- enough words are usable: those that are used give the masks
module _ (f : In_ok-count) where
  abbrev q : ℕ
  q = prime f.in_ok-named.named

  abbrev words : List ℕ
  words = f.args.words.now

  abbrev out : List ℕ
  out = f.args.out.now

  told : (length out ≤ length (kept q words)) × (f.in_ok-count.count ≡ used q (length out) words)
  told = found_used _ _ _ (sym f.find_words.ensures ∙ f.in_ok-count.was)

  front : kept q (take f.in_ok-count.count words) ≡ drawn q (length out) words
  front = ap (λ (n : ℕ). kept q (take n words)) told.1 ∙ front_is q (length out) words told.0

pub slice_bounds-put_masks-end : goal.slice_bounds-put_masks-end
slice_bounds-put_masks-end c = sym (length-take-le c.in_ok-count.count (words c) (omega (arith, (told c).1, used_few (q c) (length (out c)) (words c))))

pub put_masks-requires : goal.put_masks-requires
unfolding drawn
put_masks-requires c =
    let f = (goal.at.put_masks-requires c).In_ok-count in
    ap length (front f) ∙ length-take-le _ _ (told f).0

pub returns : goal.returns
returns c =
    let f = (goal.at.returns c).In_ok-count in
    let g = (goal.at.returns c).After-find_words in
    record {
      outcome = sym c.in_ok-count.was ∙ c.find_words.ensures ∙ found_is (known-q g) _ _;
      masks = c.put_masks.ensures ∙ front f ∙ left_done (known-q g) _ _ (told f).0;
    }
