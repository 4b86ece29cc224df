-- `message_header::mark_test` meets its contract.
use mathlib.Core.Path.{◌≡◌, ap, ◌∙◌}
use mathlib.Core.Bool.{true, not, ◌&&◌}
use mathlib.Core.List.{List, [], ◌∷◌}
use Prim.Native.Nat.{ℕ, ◌+◌, ◌*◌, ◌<◌, ◌≤◌}
use native.Mathlib.Omega.{arith}
use lib.Dec.{eqb}
use lib.ListN.{length, get_or}
use Rattle.std.proofs.lemmas.Bool.Decides.{nat_tests}
use Rattle.std.specs.List.{starts_with}
use Rattle.refusal.specs.Chain.{differs}
use Rattle.message_bytes.specs.Bytes.{number_at}
use Rattle.message_header.specs.Header.{mark}
use Rattle.message_header.proofs.mark_test.Goals as goal

one : (a b d : ℕ) → a < 256 → b < 256 → d < 256 → (eqb 77 a && (eqb 68 b && (eqb 79 d && true))) ≡ eqb (((0 + a) * 256 + b) * 256 + d) 0x4D444F
one a b d x y z = grind (arith, nat_tests)

is_mark : (bytes : List ℕ) → 3 ≤ length bytes → ((i : ℕ) → get_or bytes i 0 < 256)
    → not (starts_with eqb bytes (77 ∷ 68 ∷ 79 ∷ [])) ≡ differs (number_at bytes 0 3) mark
unfolding mark number_at
is_mark [] long small = absurd (omega arith)
is_mark (a ∷ []) long small = absurd (omega arith)
is_mark (a ∷ b ∷ []) long small = absurd (omega arith)
is_mark (a ∷ b ∷ d ∷ rest) long small = let x = small 0 in let y = small 1 in let z = small 2 in ap not (one a b d x y z)

pub returns : goal.returns
returns c = ap not c.starts_with.ensures.value ∙ is_mark c.args.message.now (omega arith) (λ i. omega (arith, c.type_inv.message i))
