-- What privacy and exactness ask of a layout. Every theorem above is over a sound layout, never over a layout number.
--
--   Cut g          == each matrix is cut into at least one block each way
--   Bounded g e    == every sum of an exponent of A's and one of B's is below K
--   Sound g e      == A's masks and B's follow one another; A(k,l) and B(l,j) meet on the place of C(k,j), and no other
--                     pair of blocks or masks falls on a place; every sum of exponents is below K
--   Threshold g e  == K is one more than the largest sum of an exponent of A's and one of B's (document 000, equations 16 to 22)
use Rattle.std.specs.Prelude.{◌≡◌, ℕ, suc, ◌+◌, ◌-◌, ◌<◌, ◌≤◌, ◌≢◌}
use Rattle.layout.specs.declared.Parameters.{Parameters}
use Rattle.layout.specs.Exponents.{Exponents}

pub record Cut (g : Parameters) : Type 0 where
  pub m : 1 ≤ g.m
  pub p : 1 ≤ g.p
  pub n : 1 ≤ g.n

-- every sum is below K
pub record Bounded (g : Parameters) (e : Exponents) : Type 0 where
  pub below : (k l h j : ℕ) → k < g.m → l < g.p → h < g.p → j < g.n → e.block_a k l + e.block_b h j < e.needed
  pub below_a : (x l j : ℕ) → x < g.xa → l < g.p → j < g.n → e.mask_a x + e.block_b l j < e.needed
  pub below_b : (k l y : ℕ) → k < g.m → l < g.p → y < g.xb → e.block_a k l + e.mask_b y < e.needed
  pub below_ab : (x y : ℕ) → x < g.xa → y < g.xb → e.mask_a x + e.mask_b y < e.needed

pub record Sound (g : Parameters) (e : Exponents) : Type 0 where
  -- the first mask's exponent, and the others after it
  pub first_a : ℕ
  pub first_b : ℕ
  pub masks_a : (x : ℕ) → e.mask_a x ≡ first_a + x
  pub masks_b : (x : ℕ) → e.mask_b x ≡ first_b + x
  pub meet : (k l j : ℕ) → k < g.m → l < g.p → j < g.n → e.block_a k l + e.block_b l j ≡ e.place k j
  -- blocks that meet on a place are those of that place
  pub only : (k l h j u v : ℕ) → k < g.m → l < g.p → h < g.p → j < g.n → u < g.m → v < g.n
      → e.block_a k l + e.block_b h j ≡ e.place u v → (k ≡ u) × (l ≡ h) × (j ≡ v)
  -- no mask falls on a place
  pub clear_a : (x l j u v : ℕ) → x < g.xa → l < g.p → j < g.n → u < g.m → v < g.n → e.mask_a x + e.block_b l j ≢ e.place u v
  pub clear_b : (k l y u v : ℕ) → k < g.m → l < g.p → y < g.xb → u < g.m → v < g.n → e.block_a k l + e.mask_b y ≢ e.place u v
  pub clear_ab : (x y u v : ℕ) → x < g.xa → y < g.xb → u < g.m → v < g.n → e.mask_a x + e.mask_b y ≢ e.place u v
  pub bounded : Bounded g e

pub record Threshold (g : Parameters) (e : Exponents) : Type 0 where
  pub bounded : Bounded g e
  -- the last masks' sum is the largest
  pub reached : suc (e.mask_a (g.xa - 1) + e.mask_b (g.xb - 1)) ≡ e.needed
