-- The parts of a list of weights.
--
--   part_length            how many elements a part of a slice has
--   weighed_part           the weights that are written over them
--   few_weights            a side has at most 80 weights
--   row_part, masks_part   a list that has room for the weights has the part of a row of blocks, and that of the masks
--   weights_end            the masks' weights are written behind those of the blocks
use mathlib.Core.Path.{◌≡◌, sym, ap, ap₂, ◌∙◌}
use mathlib.Core.List.{List, ◌++◌, append_assoc}
use Prim.Native.Nat.{ℕ, ◌+◌, ◌-◌, ◌*◌, ◌<◌, ◌≤◌, min}
use native.Mathlib.Nat.{mul-le-mul, add-sub_cancel_left}
use native.Mathlib.Omega.{arith}
use lib.ListN.{length, take, drop, length-drop}
use lib.Seq.{length-take-le, take_at, drop_at, drop-drop}
use Rattle.algebra.specs.Lists.{tab}
use Rattle.algebra.proofs.Fronts.{front_all}
use Rattle.algebra.proofs.Orders.{row_end}
use Rattle.layout.specs.declared.Series.{Series}
use Rattle.layout.specs.declared.Strides.{Strides}
use Rattle.share_side.specs.declared.Side.{Side}
use Rattle.share_side.specs.Internal.{Small, weight_count, weight, weighed}

pub part_length : (xs : List ℕ) (start count : ℕ) → start + count ≤ length xs → length (take (start + count - start) (drop start xs)) ≡ count
part_length xs start count h = rw add-sub_cancel_left (length-take-le count (drop start xs) (omega (arith, length-drop start xs)))

pub weighed_part : (q : ℕ) (strides : Strides) (series : Series) (k x : ℕ) (xs : List ℕ) (start count : ℕ) → start + count ≤ length xs → count ≤ 256
    → weighed q strides series k x (take (start + count - start) (drop start xs)) ≡ tab (weight q strides series x k) count
unfolding weighed
weighed_part q strides series k x xs start count h small =
    let part = take (start + count - start) (drop start xs) in
    let size : length part ≡ count = part_length xs start count h in
    let all : min (length part) 256 ≡ count = omega arith in
    ap (λ (n : ℕ). tab (weight q strides series x k) n ++ drop n part) all
    ∙ front_all (weight q strides series x k) part count (omega arith)

module _ (s : Side) (small : Small s) where
  pub few_weights : weight_count s ≤ 80
  unfolding weight_count
  few_weights = omega (arith, mul-le-mul small.grid_rows small.grid_columns, small.mask_count)

  module _ (room : ℕ) (enough : weight_count s ≤ room) where
    pub row_part : (k : ℕ) → k < s.grid_rows → k * s.grid_columns + s.grid_columns ≤ room
    unfolding weight_count
    row_part k h = let end = row_end s.grid_columns h in omega arith

    pub masks_part : s.grid_rows * s.grid_columns + s.mask_count ≤ room
    unfolding weight_count
    masks_part = enough

pub weights_end : (blocks masks old now row : List ℕ) (n count : ℕ) → length blocks ≡ n → now ≡ blocks ++ drop n old → row ≡ masks
    → take n now ++ (row ++ drop (n + count - n) (drop n now)) ≡ (blocks ++ masks) ++ drop (n + count) old
weights_end blocks masks old now row n count size e r =
    let front : take n now ≡ blocks = ap (take n) e ∙ take_at blocks _ n size in
    let back : drop (n + count - n) (drop n now) ≡ drop (n + count) old
    = rw add-sub_cancel_left (ap (λ (l : List ℕ). drop count (drop n l)) e ∙ ap (drop count) (drop_at blocks _ n size) ∙ drop-drop count n old) in
    ap₂ (λ (l m : List ℕ). l ++ m) front (ap₂ (λ (l m : List ℕ). l ++ m) r back) ∙ sym (append_assoc blocks masks (drop (n + count) old))
