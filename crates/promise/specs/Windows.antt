-- Upload windows (02, U7).
-- A host's index counts from 0: host i has index i - 1.
--
--   missed               == what a message is told that is fit but for its minute: 30
--   Counted x s calls i  == among the calls is an arrival inside the window whose message is fit and names the host of index i
--   Windowed x           == the promises of U7 for a job
--   UploadWindows        == they hold for every job
use Rattle.std.specs.Prelude.{◌≡◌, true, false, ◌&&◌, ◌↔◌, List, [], ◌∷◌, ◌++◌, ℕ, ◌^◌, ◌<◌, ◌≤◌, length}
use Rattle.plan.specs.Planning.{in_window}
use Rattle.promise.specs.Demand3.{Task, Call, arrival, State, Reply, after, reply, run, fit, has_fit}
use Rattle.promise.specs.Retried.{index}

unfoldable pub missed : Reply
missed = record { number = 30; already = false; table = [] }

abbrev pub Counted : Task → State → List Call → ℕ → Type 0
Counted x s calls i =
    (before : List Call) × (rest : List Call) × (message : List ℕ) × (minute : ℕ) × (calls ≡ before ++ (arrival message minute ∷ rest))
    × (index message ≡ i) × (in_window x.job minute ≡ true) × (fit x s message x.job.opening ≡ true)

pub record Windowed (x : Task) : Type 0 where
  -- "from the opening minute on and up to the one before the closing minute"
  pub inside : (minute : ℕ) → (in_window x.job minute ≡ true) ↔ ((x.job.opening ≤ minute) × (minute < x.job.closing))
  -- "An arrival .. is taken from the opening minute on and up to the one before the closing minute": beside the window its minute
  -- plays no part
  pub window : (s : State) (message : List ℕ) (minute : ℕ)
      → fit x s message minute ≡ (in_window x.job minute && fit x s message x.job.opening)
  -- "Each is judged by its own minute alone": in any two states
  pub alone : (s s' : State) → length s.store ≡ length s'.store → (message : List ℕ) (minute : ℕ)
      → fit x s message minute ≡ fit x s' message minute
  -- "so a clock set back puts no other arrival in or out of the window": whatever calls come before, at whatever minutes
  pub clock : (s : State) (before : List Call) (message : List ℕ) (minute : ℕ) → fit x (run x s before) message minute ≡ fit x s message minute
  -- "30, arrival outside the window, just before 23 and before "already in"": heard or not, repeated or not, where 21 does not fit
  pub outside : (s : State) → s.heard < 2 ^ x.job.hosts → (message : List ℕ) (minute : ℕ)
      → fit x s message x.job.opening ≡ true → in_window x.job minute ≡ false
      → (reply x s (arrival message minute) ≡ missed) × (after x s (arrival message minute) ≡ s)
  -- "K that arrived inside the window": the arrivals that count, from any state on, are those inside whose message is fit
  pub counted : (s : State) (calls : List Call) (i : ℕ) → (has_fit x s calls i ≡ true) ↔ Counted x s calls i

abbrev pub UploadWindows : Type 0
UploadWindows = (x : Task) → Windowed x
