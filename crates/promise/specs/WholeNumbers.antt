-- The decoded table as whole numbers (01, "Signed reading"; 02, U4).
--
--   exact_entry how x u v   == the exact whole-number entry of AB at row u and column v, the elements of A and B taken as they
--                             are or all by their signed reading
--   WholeNumbers x table   == what a table tells of these entries
--   DecodedNumbers         == the table that a decoding makes from true products tells this
use Rattle.std.specs.Prelude.{◌≡◌, true, List, [], ◌∷◌, ◌++◌, ℕ, suc, ◌*◌, ◌<◌, ◌≤◌, ℤ, pos, length, get_or}
use Rattle.algebra.specs.Lists.{entry, AllBelow}
use Rattle.algebra.specs.Sets.{size}
use Rattle.refusal.specs.Chain.{done}
use Rattle.plan.specs.Planning.{prime, needed_of}
use Rattle.share_side.specs.declared.Matrix.TheVariants.{A, B}
use Rattle.product.specs.Product.{product_entry}
use Rattle.field_signed.specs.Signed.{in_range, signed_outcome, signed_told, Taking, taken, dot}
use Rattle.arrival.specs.Arriving.{store_length}
use Rattle.decode.specs.Decoding.{table_length}
use Rattle.promise.specs.Demand3.{Task, Accepted, Masks, true_product, Call, decoding, begin, replies, unanswered, has_fit, first_fit}

unfoldable pub exact_entry : Taking → Task → ℕ → ℕ → ℤ
exact_entry how x u v =
    dot (taken (prime x.job) how) x.job.s (λ l. entry x.job.s x.a u l) (λ l. entry x.job.r x.b l v)

pub record WholeNumbers (x : Task) (table : List ℕ) : Type 0 where
  -- "if each exact whole-number entry of AB lies in that range, the signed reading of the decoded table is exact": the call
  -- answers with that entry, so it is not refused
  pub reads : (how : Taking)
      → ((u v : ℕ) → u < x.job.t → v < x.job.r → in_range (prime x.job) (exact_entry how x u v) ≡ true)
      → (u v : ℕ) → u < x.job.t → v < x.job.r
      → signed_told (signed_outcome x.job.modulus (entry x.job.r table u v)) ≡ done (exact_entry how x u v ∷ [])
  -- "if each lies in 0..q-1, the elements are"
  pub stands : (how : Taking)
      → ((u v : ℕ) → u < x.job.t → v < x.job.r → (k : ℕ) × (k < prime x.job) × (exact_entry how x u v ≡ pos k))
      → (u v : ℕ) → u < x.job.t → v < x.job.r → pos (entry x.job.r table u v) ≡ exact_entry how x u v
  -- "A depth table comes back as exactly as a marker table" (02, U4): counts up to c in A and up to d in B, of which s products fit
  pub bounded : (c d : ℕ) → x.job.s * (c * d) < prime x.job → AllBelow (suc c) x.a → AllBelow (suc d) x.b
      → (u v : ℕ) → u < x.job.t → v < x.job.r
      → entry x.job.r table u v ≡ product_entry x.job.s x.job.r x.a x.b u v
  -- depths 0..362 with s = 16384 reach at most 2147024896, which fits q = 2147483647
  pub depths : prime x.job ≡ 2147483647 → AllBelow 363 x.a → AllBelow 363 x.b
      → (u v : ℕ) → u < x.job.t → v < x.job.r
      → entry x.job.r table u v ≡ product_entry x.job.s x.job.r x.a x.b u v
  -- "Counts 0..2 with s = 16384 reach at most 65536, which fits q = 65537."
  pub counts : prime x.job ≡ 65537 → AllBelow 3 x.a → AllBelow 3 x.b
      → (u v : ℕ) → u < x.job.t → v < x.job.r
      → entry x.job.r table u v ≡ product_entry x.job.s x.job.r x.a x.b u v

pub record DecodedNumbers : Type 0 where
  pub table : (x : Task) → Accepted x → (ma mb : List ℕ) → Masks A x ma → Masks B x mb → (store : List ℕ)
      → length store ≡ store_length x.job → (before rest : List Call) (table : List ℕ) → length table ≡ table_length x.job
      → needed_of x.job ≤ size (has_fit x (begin store) before) x.job.hosts
      → ((i : ℕ) → i < x.job.hosts → has_fit x (begin store) before i ≡ true
      → first_fit x (begin store) before i ≡ true_product x (suc i) ma mb)
      → WholeNumbers x (get_or (replies x (begin store) (before ++ (decoding table ∷ rest))) (length before) unanswered).table
