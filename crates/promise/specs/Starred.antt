-- The starred lines of 01, "Checked by hand", and those of 02, U2: one table of the definitions' values, each beside the sheet's.
--
--   Line           == what the definitions give, and what the sheet says
--   job_with ..     == a job over q 257 of the smallest sizes that the cuts divide
--   plan job       == what planning tells on paper, with the points 1..N: its number, and of an accepted job layout, K, and the
--                     sizes of blocks, which are all 1 here
--   thresholds     == K by each layout
--   share m x y i  == what sharing leaves at host i of that job, for a matrix of the one element x and a mask of the one
--                     element y; 99 stands in the output before, and would stay there if the call were refused
--   answer i       == what the product leaves for host i, with A 5, its mask 7, B 4 and its mask 9
--   decoded        == what decoding these answers leaves
--   signs zs       == whole numbers by sign and size
--   reading r      == what signed reading tells on paper: its number, and of a value sign and size
--   starred        == the table
--   Right lines    == in each line the two are the same
use Rattle.std.specs.Prelude.{◌≡◌, List, [], ◌∷◌, ◌++◌, ℕ, suc, ◌<◌, ℤ, pos, negsuc, length, get_or, Result}
use Rattle.algebra.specs.Lists.{tab}
use Rattle.refusal.specs.declared.Refusal.{Refusal}
use Rattle.layout.specs.declared.Layout.{Layout}
use Rattle.layout.specs.declared.Layout.TheVariants.{First, Second, Third}
use Rattle.layout.specs.Exponents.{exponents}
use Rattle.plan.specs.declared.Job.{Job}
use Rattle.plan.specs.Planning.{parameters, planned, told}
use Rattle.product.specs.Product.{product_after}
use Rattle.share_side.specs.declared.Matrix.{Matrix}
use Rattle.share_side.specs.declared.Matrix.TheVariants.{A, B}
use Rattle.share.specs.Sharing.{share_after}
use Rattle.decode.specs.Decoding.{table_after}
use Rattle.field_signed.specs.Signed.{signed_outcome, signed_told}

abbrev pub Line : Type 0
Line = List ℕ × List ℕ

unfoldable pub plan : Job → List ℕ
plan job = let t = told (planned job (tab suc job.hosts)) in t.number ∷ t.values

unfoldable pub thresholds : Job → List ℕ
thresholds job = let k : Layout → ℕ = λ l. (exponents l (parameters job)).needed in k First ∷ k Second ∷ k Third ∷ []

-- q 13, all sizes and both X 1
unfoldable pub smallest : Job
smallest = record { modulus = 1; t = 1; s = 1; r = 1; m = 1; p = 1; n = 1; xa = 1; xb = 1; hosts = 3; number = 0; opening = 0; closing = 1 }

unfoldable pub share : Matrix → ℕ → ℕ → ℕ → List ℕ
share m x y host = share_after m smallest (tab suc 3) host (x ∷ []) (y ∷ []) (99 ∷ [])

unfoldable pub answer : ℕ → List ℕ
answer host = product_after 1 1 1 1 (share A 5 7 host) (share B 4 9 host) (99 ∷ [])

-- all three hosts heard
unfoldable pub decoded : List ℕ
decoded = table_after smallest (tab suc 3) 7 (answer 1 ++ (answer 2 ++ answer 3)) (99 ∷ [])

-- 1 where a whole number is below 0, and its size
unfoldable pub signs : List ℤ → List ℕ
signs [] = []
signs (pos n ∷ zs) = 0 ∷ n ∷ signs zs
signs (negsuc n ∷ zs) = 1 ∷ suc n ∷ signs zs

unfoldable pub reading : Result ℤ Refusal → List ℕ
reading r = let t = signed_told r in t.number ∷ signs t.values

unfoldable pub job_with : ℕ → ℕ → ℕ → ℕ → ℕ → ℕ → Job
job_with p m n xa xb hosts =
    record { modulus = 2; t = m; s = p; r = n; m = m; p = p; n = n; xa = xa; xb = xb; hosts = hosts; number = 0; opening = 0; closing = 1 }

unfoldable pub starred : List Line
starred =
    -- q 13, all sizes and both X 1, points 1, 2, 3: K = 3
    (plan smallest, 0 ∷ 1 ∷ 3 ∷ 1 ∷ 1 ∷ 1 ∷ [])
    -- A 5 with mask 7 gives shares 12, 6, 0
    ∷ (share A 5 7 1 ++ (share A 5 7 2 ++ share A 5 7 3), 12 ∷ 6 ∷ 0 ∷ [])
    -- B 4 with mask 9 gives 0, 9, 5
    ∷ (share B 4 9 1 ++ (share B 4 9 2 ++ share B 4 9 3), 0 ∷ 9 ∷ 5 ∷ [])
    -- answers 0, 2, 0
    ∷ (answer 1 ++ (answer 2 ++ answer 3), 0 ∷ 2 ∷ 0 ∷ [])
    -- decoded 7, signed -6
    ∷ (decoded, 7 ∷ [])
    ∷ (reading (signed_outcome 1 (get_or decoded 0 0)), 0 ∷ 1 ∷ 6 ∷ [])
    -- with A = 6, mask 0 gives host 2 the same share 6
    ∷ (share A 6 0 2, 6 ∷ [])
    -- p, m, n, X_A = X_B: 2, 2, 3, 2 gives 23, layout 1
    ∷ (plan (job_with 2 2 3 2 2 23), 0 ∷ 1 ∷ 23 ∷ 1 ∷ 1 ∷ 1 ∷ [])
    -- 2, 2, 3, 5 gives 32
    ∷ (plan (job_with 2 2 3 5 5 32), 0 ∷ 1 ∷ 32 ∷ 1 ∷ 1 ∷ 1 ∷ [])
    -- 3, 4, 4, 2 gives 69, so refused with 8
    ∷ (thresholds (job_with 3 4 4 2 2 64), 69 ∷ 69 ∷ 99 ∷ [])
    ∷ (plan (job_with 3 4 4 2 2 64), 8 ∷ [])
    -- 2, 3, 2, 7 gives 43 and 38, and 37 with layout 3 (02, U2)
    ∷ (thresholds (job_with 2 3 2 7 7 64), 43 ∷ 38 ∷ 37 ∷ [])
    ∷ (plan (job_with 2 3 2 7 7 64), 0 ∷ 3 ∷ 37 ∷ 1 ∷ 1 ∷ 1 ∷ [])
    -- p 1, m 2, n 2, X_A 3, X_B 1 gives 10 and 12: layout 1
    ∷ (thresholds (job_with 1 2 2 3 1 12), 10 ∷ 12 ∷ 11 ∷ [])
    ∷ (plan (job_with 1 2 2 3 1 12), 0 ∷ 1 ∷ 10 ∷ 1 ∷ 1 ∷ 1 ∷ [])
    -- 02, U2: 2, 2, 2 and both X 5 waited for 26 gardens, and need 25 (document 004, table IV)
    ∷ (thresholds (job_with 2 2 2 5 5 25), 26 ∷ 26 ∷ 25 ∷ [])
    ∷ (plan (job_with 2 2 2 5 5 25), 0 ∷ 3 ∷ 25 ∷ 1 ∷ 1 ∷ 1 ∷ [])
    ∷ (plan (job_with 2 2 2 5 5 24), 8 ∷ [])
    ∷ []

abbrev pub Right : List Line → Type 0
Right lines = (i : ℕ) → i < length lines → (get_or lines i ([], [])).0 ≡ (get_or lines i ([], [])).1
