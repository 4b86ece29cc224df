-- `decode::points_at` meets its contract.
use mathlib.Core.Path.{◌≡◌, sym, ap, ◌∙◌}
use mathlib.Core.List.{List, ◌++◌, map}
use Prim.Native.Nat.{ℕ, ◌+◌, ◌<◌}
use native.Mathlib.Omega.{arith}
use lib.ListN.{length, get_or, take, drop, set, length-map}
use lib.Seq.{length-take-le, set_at, append_snoc}
use Rattle.std.proofs.lemmas.List.{drop_more, map_more}
use Rattle.decode.proofs.points_at.Goals as goal

-- one more element of ys is f of that of xs
made_more : (f : ℕ → ℕ) (xs zs ys : List ℕ) (i : ℕ) → i < length xs → i < length zs → ys ≡ map f (take i xs) ++ drop i zs
    → set ys i (f (get_or xs i 0)) ≡ map f (take (i + 1) xs) ++ drop (i + 1) zs
made_more f xs zs ys i h k e =
    let x = f (get_or xs i 0) in
    let made = map f (take i xs) in
    let size : length made ≡ i = length-map (take i xs) f ∙ length-take-le i xs (omega arith) in
    ap (λ (l : List ℕ). set l i x) (e ∙ ap (λ (l : List ℕ). made ++ l) (drop_more zs i 0 k))
    ∙ set_at made (get_or zs i 0) (drop (i + 1) zs) x i size
    ∙ sym (append_snoc made x (drop (i + 1) zs))
    ∙ ap (λ (l : List ℕ). l ++ drop (i + 1) zs) (sym (map_more f xs i 0 h))

pub loop-c-preserved : goal.loop-c-preserved
loop-c-preserved c =
    let a = c.args in
    made_more (λ h. get_or a.points.now h 0) a.indices.now a.out.now c.loop-c.out c.loop-c.c (omega arith) (omega arith) c.loop-c.invariant
