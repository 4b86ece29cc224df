-- Values computed from the definitions: an edit of a definition must change one of them.
--
--   limits      the limits of the sheet's moduli, and of the prime 2^31 - 1
--   elements    of five words the first two are skipped for 13
--   counts      how many of them are used for none, one, two and three elements
--   numbers     what a drawing tells on paper: 1, 27, or 0
--   uses        and then how many words are used
--   kept_output what it leaves in an output where it is refused
--   filled      and where it is carried out
--   lists       how many lists of two numbers below 3 there are, and how many of them give the masks 1 and 0 for q = 2
--   no_skipped  none of five words is skipped: 1 for yes, of the five and of the last three
use mathlib.Core.Path.{◌≡◌, refl}
use mathlib.Core.Bool.{true, cond}
use mathlib.Core.List.{List, [], ◌∷◌, ◌++◌, map}
use Prim.Native.Nat.{ℕ}
use lib.ListN.{drop}
use Rattle.algebra.specs.Lists.{same}
use Rattle.algebra.specs.Sums.{sum}
use Rattle.refusal.specs.Numbers.{refusal_of, sheet}
use Rattle.refusal.specs.Chain.{first, outcome, answered, unless_refused, outside}
use Rattle.field.specs.Modulus.{moduli, modulus, no_modulus}
use Rattle.masks.specs.Drawing.{limit, usable, kept, drawn, used, draw_tests, draw_outcome, told, masks_after}
use Rattle.masks.specs.Uniform.{count, gives, all_usable}

limits : map limit (13 ∷ 257 ∷ 65537 ∷ 2147483647 ∷ []) ≡ 4294967287 ∷ 4294967295 ∷ 4294967295 ∷ 4294967294 ∷ []
unfolding limit
limits = refl

abbrev five : List ℕ
five = 4294967295 ∷ 4294967287 ∷ 5 ∷ 13 ∷ 4294967286 ∷ []

elements : kept 13 five ≡ 5 ∷ 0 ∷ 12 ∷ []
unfolding limit usable kept
elements = refl

counts : map (λ n. used 13 n five) (0 ∷ 1 ∷ 2 ∷ 3 ∷ []) ≡ 0 ∷ 3 ∷ 4 ∷ 5 ∷ []
unfolding limit usable used
counts = refl

numbers : map (λ r. (told r).number) (draw_outcome 5 [] 1 ∷ draw_outcome 1 five 4 ∷ draw_outcome 1 five 3 ∷ []) ≡ 1 ∷ 27 ∷ 0 ∷ []
unfolding limit usable kept used draw_tests draw_outcome first outcome answered outside refusal_of sheet moduli modulus no_modulus
numbers = refl

uses : (told (draw_outcome 1 five 3)).values ++ (told (draw_outcome 3 (4294967295 ∷ 1 ∷ 9 ∷ []) 1)).values ≡ 5 ∷ 2 ∷ []
unfolding limit usable kept used draw_tests draw_outcome first outcome answered outside refusal_of sheet moduli modulus no_modulus
uses = refl

kept_output : masks_after 1 five (7 ∷ 7 ∷ 7 ∷ 7 ∷ []) ≡ 7 ∷ 7 ∷ 7 ∷ 7 ∷ []
unfolding limit usable kept drawn draw_tests masks_after unless_refused first outcome outside moduli modulus no_modulus
kept_output = refl

filled : masks_after 1 five (7 ∷ 7 ∷ []) ≡ 5 ∷ 0 ∷ []
unfolding limit usable kept drawn draw_tests masks_after unless_refused first outcome outside moduli modulus no_modulus
filled = refl

lists : count 3 2 (λ ws. true) ∷ count 3 2 (gives 2 (1 ∷ 0 ∷ [])) ∷ [] ≡ 9 ∷ 2 ∷ []
unfolding limit usable kept drawn same sum count gives
lists = refl

no_skipped : map {B = ℕ} (λ ws. cond (all_usable 13 ws) 1 0) (five ∷ drop 2 five ∷ []) ≡ 0 ∷ 1 ∷ []
unfolding limit usable all_usable
no_skipped = refl
