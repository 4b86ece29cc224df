-- Privacy and exact tables for all layouts (02, U2: "Privacy and exact tables are to hold for all three, shown once over a list of
-- exponents."). A layout is its exponents, as data: what is shown holds for any that are sound, and no layout's number stands in it.
--
--   Points q xs              == xs are points of hosts: below q, not 0, distinct
--   MasksFor q s ms          == ms are masks of a side: of exact length, with elements below q
--   Matched q e s group xs ys == the masks of a side match one to one, so that every host at the points of the group gets the same
--                               share of the matrix xs as of the matrix ys
--   answer_of q g rows inner columns e x a ma b mb == the answer of the host at the point x: its A share times its B share
--   Shown q g rows inner columns e == for cuts and group sizes g, and blocks of these sizes: with the exponents e a group of hosts no
--                               larger than the number of masks gets nothing that tells two matrices apart, and any K answers give
--                               the table
--   Layouts                  == so it is for all exponents that are sound, every layout is sound, and the layout that is used is
--                               chosen by K
use Rattle.std.specs.Prelude.{◌≡◌, List, map, ℕ, ◌+◌, ◌*◌, ◌%◌, ◌<◌, ◌≤◌, length, get_or}
use Rattle.algebra.specs.Lists.{AllBelow, Distinct}
use Rattle.algebra.specs.Modular.{Prime}
use Rattle.algebra.specs.Polynomials.{coefficient}
use Rattle.layout.specs.declared.Parameters.{Parameters}
use Rattle.layout.specs.declared.Layout.{Layout}
use Rattle.layout.specs.Exponents.{Exponents, exponents, choice, Chosen}
use Rattle.layout.specs.Sound.{Cut, Sound, Threshold}
use Rattle.share_side.specs.declared.Matrix.{Matrix}
use Rattle.share_side.specs.declared.Matrix.TheVariants.{A, B}
use Rattle.share_side.specs.declared.Side.{Side}
use Rattle.share_side.specs.Sides.{cut_side, side_exponents, mask_length}
use Rattle.share.specs.Sharing.{share_of}
use Rattle.product.specs.Product.{product_entry, product_of}

pub record Points (q : ℕ) (xs : List ℕ) : Type 0 where
  pub below : AllBelow q xs
  pub nonzero : (k : ℕ) → k < length xs → 0 < get_or xs k 0
  pub distinct : Distinct xs

abbrev pub MasksFor : ℕ → Side → List ℕ → Type 0
MasksFor q s ms = (length ms ≡ mask_length s) × AllBelow q ms

pub record Matched (q : ℕ) (e : Exponents) (s : Side) (group xs ys : List ℕ) : Type 0 where
  pub partner : List ℕ → List ℕ
  pub back : List ℕ → List ℕ
  pub partner_masks : (ms : List ℕ) → MasksFor q s (partner ms)
  pub back_masks : (ms : List ℕ) → MasksFor q s (back ms)
  pub back_partner : (ms : List ℕ) → MasksFor q s ms → back (partner ms) ≡ ms
  pub partner_back : (ms : List ℕ) → MasksFor q s ms → partner (back ms) ≡ ms
  pub same : (ms : List ℕ) (k : ℕ) → k < length group
      → share_of q e s (get_or group k 0) xs ms ≡ share_of q e s (get_or group k 0) ys (partner ms)

unfoldable pub answer_of : ℕ → Parameters → ℕ → ℕ → ℕ → Exponents → ℕ → List ℕ → List ℕ → List ℕ → List ℕ → List ℕ
answer_of q g rows inner columns e x a ma b mb =
    product_of q rows inner columns
    (share_of q e (cut_side A g rows inner columns) x a ma)
    (share_of q e (cut_side B g rows inner columns) x b mb)

pub record Shown (q : ℕ) (g : Parameters) (rows inner columns : ℕ) (e : Exponents) : Type 0 where
  pub hides : (m : Matrix) (group : List ℕ) → Points q group → let s = cut_side m g rows inner columns in
      length group ≤ s.mask_count → (xs ys : List ℕ) → Matched q e s group xs ys
  -- the element at i, v of C(k,j), from the answers at K points, of which one may be 0
  pub decodes : (xs : List ℕ) → AllBelow q xs → Distinct xs → length xs ≡ e.needed → (a ma b mb : List ℕ) (k j i v : ℕ)
      → k < g.m → j < g.n → i < rows → v < columns
      → coefficient q xs (map (λ x. get_or (answer_of q g rows inner columns e x a ma b mb) (i * columns + v) 0) xs) (e.place k j)
      ≡ product_entry (g.p * inner) (g.n * columns) a b (k * rows + i) (j * columns + v) % q

pub record Layouts : Type 0 where
  pub shown : (q : ℕ) → Prime q → (g : Parameters) (rows inner columns : ℕ) (e : Exponents) → Cut g → Sound g e
      → Shown q g rows inner columns e
  -- of a side, only the listed exponents matter
  pub listed : (e d : Exponents) (s : Side) → side_exponents e s ≡ side_exponents d s
      → (q x : ℕ) (xs ms : List ℕ) → share_of q e s x xs ms ≡ share_of q d s x xs ms
  pub sound : (l : Layout) (g : Parameters) → Cut g → Sound g (exponents l g)
  -- 01: "Document 000 decides on exponents; the two K formulas are checked against it." So is the third.
  pub threshold : (l : Layout) (g : Parameters) → Cut g → 1 ≤ g.xa → 1 ≤ g.xb → Threshold g (exponents l g)
  pub chosen : (g : Parameters) → Chosen g (choice g)
