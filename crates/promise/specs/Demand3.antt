-- Demand 3 (00), in the words of 01, "Arrivals", and of 02, U7.
-- A host's index counts from 0: host i has index i - 1.
--
--   Task                 == a job: its public numbers, its window, its points and its matrices
--   public_numbers x      == the numbers that a host may know: the window is none of them
--   Accepted x           == the job is accepted
--   SamePublic x y       == two jobs with the same public numbers and points; their windows may differ
--   Masks m x ms         == ms are masks for matrix m
--   largest m x          == X_A or X_B: the size of the largest group kept ignorant of matrix m
--   share_for m x i ms    == host i's share of matrix m
--   share_message m x i ms     == host i's A message or B message
--   true_product x i ma mb     == host i's true product, as a message
--   Hidden m x y g       == the masks of two jobs match one to one, so that every host of the group g gets the same bytes
--   Privacy              == so it is for any two jobs with the same public numbers and points, and any group that is not too large
--   Call, State, Reply   == an arrival or a decoding; what is carried from call to call; what a call returns
--   arrives              == what an arrival returns
--   after, reply         == what a call leaves, and what it returns
--   run, replies         == what a list of calls leaves, and what each of them returns
--   fit                  == an arrival is fit
--   has_fit, first_fit     == a host has a fit message in a list of calls, and its first
--   unanswered           == what stands where there is no reply
--   Trace                == the claim about a whole list of arrivals and decodings
--   Made                 == K and the messages are what sharing, the host's product, planning and writing give
--   Demand3              == the demand
use Rattle.std.specs.Prelude.{◌≡◌, Bool, true, false, cond, ◌&&◌, ◌||◌, ◌↔◌, List, [], ◌∷◌, ◌++◌, ℕ, suc, ◌+◌, ◌*◌, ◌^◌, ◌<◌, ◌≤◌, eqb, length, get_or, drop, Result}
use Rattle.algebra.specs.Lists.{AllBelow}
use Rattle.algebra.specs.Sets.{size}
use Rattle.refusal.specs.declared.Refusal.{Refusal}
use Rattle.refusal.specs.Chain.{first, except, done}
use Rattle.plan.specs.declared.Job.{Job}
use Rattle.plan.specs.Planning.{prime, block_rows, block_inner, block_columns, needed_of, in_window, plan_tests, planned, told, plan_values}
use Rattle.share_side.specs.declared.Matrix.{Matrix}
use Rattle.share_side.specs.declared.Matrix.TheVariants.{A, B}
use Rattle.share_side.specs.Sides.{side, mask_length, block_length}
use Rattle.share.specs.Sharing.{host_share, share_after}
use Rattle.product.specs.Product.{product_of, product_after}
use Rattle.mukerihe.specs.Host.{host_after}
use Rattle.mukerihe.specs.Answer.{host_answer_tests, host_answer_after}
use Rattle.message_header.specs.declared.Header.{Header}
use Rattle.message_header.specs.Header.{header_of, element_count}
use Rattle.message.specs.Format.{message_of, payload, written}
use Rattle.arrival_heard.specs.Heard.{is_heard}
use Rattle.arrival.specs.declared.Arrived.{Arrived}
use Rattle.arrival.specs.Arriving.{store_length, host_index, arrival_tests, arrived, store_after, number_of, heard_after, already_in}
use Rattle.decode.specs.Decoding.{table_length, decode_tests, table_after}

pub record Task : Type 0 where
  pub job : Job
  pub points : List ℕ
  pub a : List ℕ
  pub b : List ℕ

unfoldable pub matrix : Matrix → Task → List ℕ
matrix A x = x.a
matrix B x = x.b

-- "A job is accepted when no plan number fits it, A and B have exact length and their elements are below q." Its job number is
-- any 32-bit value.
pub record Accepted (x : Task) : Type 0 where
  pub planned : first (plan_tests x.job x.points) ≡ 0
  pub length_a : length x.a ≡ x.job.t * x.job.s
  pub length_b : length x.b ≡ x.job.s * x.job.r
  pub below_a : AllBelow (prime x.job) x.a
  pub below_b : AllBelow (prime x.job) x.b
  pub number : x.job.number < 2 ^ 32

-- "Its public numbers are modulus number, t, s, r, m, p, n, X_A, X_B, N and job number."
unfoldable pub public_numbers : Task → List ℕ
public_numbers x =
    let j = x.job in
    j.modulus ∷ j.t ∷ j.s ∷ j.r ∷ j.m ∷ j.p ∷ j.n ∷ j.xa ∷ j.xb ∷ j.hosts ∷ j.number ∷ []

pub record SamePublic (x y : Task) : Type 0 where
  pub numbers : public_numbers x ≡ public_numbers y
  pub points : x.points ≡ y.points

-- "Masks are any lists of exact length with elements below q."
pub record Masks (m : Matrix) (x : Task) (ms : List ℕ) : Type 0 where
  pub exact : length ms ≡ mask_length (side m x.job)
  pub below : AllBelow (prime x.job) ms

unfoldable pub largest : Matrix → Task → ℕ
largest A x = x.job.xa
largest B x = x.job.xb

-- 1 = A share, 2 = B share
unfoldable pub kind_of : Matrix → ℕ
kind_of A = 1
kind_of B = 2

-- the header for the job's numbers and host i
unfoldable pub header_for : ℕ → Job → ℕ → ℕ → ℕ → Header
header_for kind job i rows columns =
    record { kind = kind; modulus = job.modulus; host = i; rows = rows; columns = columns; number = job.number }

unfoldable pub share_header : Matrix → Task → ℕ → Header
share_header m x i = let s = side m x.job in header_for (kind_of m) x.job i s.block_rows s.block_columns

unfoldable pub answer_header : Task → ℕ → Header
answer_header x i = header_for 3 x.job i (block_rows x.job) (block_columns x.job)

-- host i's share of matrix m
unfoldable pub share_for : Matrix → Task → ℕ → List ℕ → List ℕ
share_for m x i ms = host_share m x.job x.points i (matrix m x) ms

-- "Host i's A message is the one for kind 1, the job's numbers, host i and its A share. Its B message is the same with kind 2
-- and its B share"
unfoldable pub share_message : Matrix → Task → ℕ → List ℕ → List ℕ
share_message m x i ms = message_of (share_header m x i) (share_for m x i ms)

-- "its true product with kind 3 and its A share times its B share"
unfoldable pub true_product : Task → ℕ → List ℕ → List ℕ → List ℕ
true_product x i ma mb =
    let j = x.job in
    message_of (answer_header x i)
    (product_of (prime j) (block_rows j) (block_inner j) (block_columns j) (share_for A x i ma) (share_for B x i mb))

-- "each list of one job has one partner among the other's, and each of the other's is the partner of exactly one. Under
-- partners every host of the group gets the same bytes in both jobs"
pub record Hidden (m : Matrix) (x y : Task) (g : ℕ → Bool) : Type 0 where
  pub partner : List ℕ → List ℕ
  pub back : List ℕ → List ℕ
  pub partner_masks : (ms : List ℕ) → Masks m x ms → Masks m y (partner ms)
  pub back_masks : (ms : List ℕ) → Masks m y ms → Masks m x (back ms)
  pub back_partner : (ms : List ℕ) → Masks m x ms → back (partner ms) ≡ ms
  pub partner_back : (ms : List ℕ) → Masks m y ms → partner (back ms) ≡ ms
  pub same_bytes : (ms : List ℕ) → Masks m x ms → (i : ℕ) → i < x.job.hosts → g i ≡ true
      → share_message m x (suc i) ms ≡ share_message m y (suc i) (partner ms)

-- "Between two accepted jobs with the same public numbers and points but other matrices, and for any group of gardens chosen
-- beforehand, the masks match one to one so that a group of at most X_A gets byte-equal A messages, and one of at most X_B
-- byte-equal B messages."
abbrev pub Privacy : Type 0
Privacy =
    (m : Matrix) (x y : Task) → Accepted x → Accepted y → SamePublic x y → (g : ℕ → Bool) → size g x.job.hosts ≤ largest m x
    → Hidden m x y g

-- an arrival with its bytes and its minute, or a decoding with its table as it stood before
pub data Call : Type 0 where
  arrival : List ℕ → ℕ → Call
  decoding : List ℕ → Call

pub record State : Type 0 where
  pub heard : ℕ
  pub store : List ℕ

-- whether an arrival is told "already in" (02, U1); a decoding's table, as the call leaves it; an arrival has none
pub record Reply : Type 0 where
  pub number : ℕ
  pub already : Bool
  pub table : List ℕ

-- no reply, and so no number of the sheet
unfoldable pub unanswered : Reply
unanswered = record { number = 99; already = false; table = [] }

module _ (x : Task) where
  -- what an arrival returns
  unfoldable pub arrives : State → List ℕ → ℕ → Result Arrived Refusal
  arrives s message minute = arrived x.job x.points s.heard s.store message minute

  -- "Each later one takes the hosts heard and the store as the one before left them, a refused one too; nobody writes in the
  -- store between, and a decoding changes neither."
  unfoldable pub after : State → Call → State
  after s (arrival message minute) =
      let store = store_after x.job x.points s.heard s.store message minute in
      record { heard = heard_after s.heard (arrives s message minute); store = store }
  after s (decoding table) = s

  unfoldable pub reply : State → Call → Reply
  reply s (arrival message minute) =
      let r = arrives s message minute in record { number = number_of r; already = already_in r; table = [] }
  reply s (decoding table) =
      let number = first (decode_tests x.job x.points s.heard s.store (length table)) in
      record { number = number; already = false; table = table_after x.job x.points s.heard s.store table }

  unfoldable pub run : State → List Call → State
  run s [] = s
  run s (c ∷ cs) = run (after s c) cs

  unfoldable pub replies : State → List Call → List Reply
  replies s [] = []
  replies s (c ∷ cs) = reply s c ∷ replies (after s c) cs

  -- "An arrival is fit when, 21 and 23 aside, no refusal number for arrivals fits it"; 30 is one of them, so "the promise on K
  -- gardens now reads: K that arrived inside the window" (02, U7)
  unfoldable pub fit : State → List ℕ → ℕ → Bool
  fit s message minute =
      eqb (first (except 21 (except 23 (arrival_tests x.job x.points s.heard s.store message minute)))) 0

  -- "its message is then a fit message of the host it names"
  unfoldable pub fit_for : State → ℕ → Call → Bool
  fit_for s i (arrival message minute) = fit s message minute && eqb (host_index (header_of message)) i
  fit_for s i (decoding table) = false

  unfoldable pub has_fit : State → List Call → ℕ → Bool
  has_fit s [] i = false
  has_fit s (c ∷ cs) i = fit_for s i c || has_fit (after s c) cs i

  unfoldable pub bytes : Call → List ℕ
  bytes (arrival message minute) = message
  bytes (decoding table) = []

  -- "A host's first is that of the earliest such arrival in the list."
  unfoldable pub first_fit : State → List Call → ℕ → List ℕ
  first_fit s [] i = []
  first_fit s (c ∷ cs) i = let later = first_fit (after s c) cs i in cond (fit_for s i c) (bytes c) later

-- no garden heard, and whatever the store held
unfoldable pub begin : List ℕ → State
begin store = record { heard = 0; store = store }

pub record Trace (x : Task) (ma mb store : List ℕ) (calls : List Call) : Type 0 where
  -- "after it the gardens heard are exactly those with a fit message in it"
  pub heard : (i : ℕ) → is_heard (run x (begin store) calls).heard i ≡ has_fit x (begin store) calls i
  pub none_above : (run x (begin store) calls).heard < 2 ^ x.job.hosts
  -- "each decoding in it, into a table of exact length, is carried out exactly when at least K gardens had a fit message
  -- before it"
  pub carried_out : (before rest : List Call) (table : List ℕ) → calls ≡ before ++ (decoding table ∷ rest)
      → length table ≡ table_length x.job
      → ((get_or (replies x (begin store) calls) (length before) unanswered).number ≡ 0)
      ↔ (needed_of x.job ≤ size (has_fit x (begin store) before) x.job.hosts)
  -- "and then its table, where the first fit message of each garden heard is that garden's true product, is exactly the job's
  -- own A times B over the field"
  pub exact : (before rest : List Call) (table : List ℕ) → calls ≡ before ++ (decoding table ∷ rest)
      → length table ≡ table_length x.job
      → needed_of x.job ≤ size (has_fit x (begin store) before) x.job.hosts
      → ((i : ℕ) → i < x.job.hosts → has_fit x (begin store) before i ≡ true
      → first_fit x (begin store) before i ≡ true_product x (suc i) ma mb)
      → (get_or (replies x (begin store) calls) (length before) unanswered).table
      ≡ product_of (prime x.job) x.job.t x.job.s x.job.r x.a x.b

-- "Shares, products, K and the bytes of messages are as laid out above, which is what sharing, the host's product, planning and
-- writing give." The lent buffers are of exact length, and whatever they held.
pub record Made (x : Task) (i : ℕ) (ma mb : List ℕ) : Type 0 where
  -- planning tells the layout, K and the sizes of blocks
  pub plan : told (planned x.job x.points) ≡ done (plan_values x.job)
  pub share : (m : Matrix) (ms out message : List ℕ) → Masks m x ms → length out ≡ block_length (side m x.job)
      → length message ≡ 16 + 4 * element_count (share_header m x i)
      → (share_after m x.job x.points i (matrix m x) ms out ≡ share_for m x i ms)
      × (written (share_header m x i) (share_for m x i ms) message ≡ share_message m x i ms)
  pub product : (out message : List ℕ) → let j = x.job in length out ≡ block_rows j * block_columns j
      → length message ≡ 16 + 4 * element_count (answer_header x i)
      → let answer = product_after j.modulus (block_rows j) (block_inner j) (block_columns j) (share_for A x i ma) (share_for B x i mb) out in
      written (answer_header x i) answer message ≡ true_product x i ma mb
  -- the product that a partner links into a C program makes the bytes of the true product's elements from those of the A
  -- message's and the B message's
  pub host : (out : List ℕ) → length out ≡ 4 * element_count (answer_header x i) → let j = x.job in
      host_after j.modulus (block_rows j) (block_inner j) (block_columns j)
      (payload (share_message A x i ma)) (payload (share_message B x i mb)) out
      ≡ payload (true_product x i ma mb)
  -- and its call for a host's whole part makes the true product from the A message and the B message
  pub answer : (out : List ℕ) → 16 + 4 * element_count (answer_header x i) ≤ length out
      → let a = share_message A x i ma in let b = share_message B x i mb in let true_answer = true_product x i ma mb in
      (first (host_answer_tests a b (length out)) ≡ 0) × (host_answer_after a b out ≡ true_answer ++ drop (length true_answer) out)

pub record Demand3 : Type 0 where
  pub hidden : Privacy
  -- "Yet for either job, under any masks, and for every list of arrivals and decodings of it, in any order, refused ones
  -- included, from no garden heard and whatever the store held: .."
  pub yet : (x : Task) → Accepted x → (ma mb : List ℕ) → Masks A x ma → Masks B x mb → (store : List ℕ)
      → length store ≡ store_length x.job → (calls : List Call) → Trace x ma mb store calls
  -- "A true product's bytes never make an arrival unfit."; its minute does, outside the window
  pub true_fit : (x : Task) → Accepted x → (ma mb : List ℕ) → Masks A x ma → Masks B x mb → (s : State)
      → length s.store ≡ store_length x.job → (i minute : ℕ) → i < x.job.hosts
      → fit_for x s i (arrival (true_product x (suc i) ma mb) minute) ≡ in_window x.job minute
  pub made : (x : Task) → Accepted x → (ma mb : List ℕ) → Masks A x ma → Masks B x mb → (i : ℕ) → i < x.job.hosts
      → Made x (suc i) ma mb
