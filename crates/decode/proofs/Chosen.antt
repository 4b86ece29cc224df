-- The chosen hosts and their points.
--
--   Chosen job points heard  there are K chosen hosts, they are heard, and their points are distinct and below q
--   chosen_hosts             so it is in a planned job, where K hosts are heard
use mathlib.Core.Path.{◌≡◌, sym, ap, ◌∙◌}
use mathlib.Core.Bool.{true}
use mathlib.Core.List.{List, map}
use Prim.Native.Nat.{ℕ, ◌<◌, ◌≤◌}
use native.Mathlib.Omega.{arith}
use lib.ListN.{length, get_or}
use lib.Seq.{length-take-le, get_or-take}
use Rattle.algebra.specs.Lists.{AllBelow, Distinct}
use Rattle.algebra.specs.Sets.{members, size}
use Rattle.algebra.proofs.Sets.{members_in, members_below, members_distinct}
use Rattle.algebra.proofs.Points.{points_each, points_apart}
use Rattle.plan.specs.declared.Job.{Job}
use Rattle.plan.specs.Planning.{prime, needed_of}
use Rattle.plan.proofs.Facts.{Facts}
use Rattle.arrival_heard.specs.Heard.{is_heard, lowest}
use Rattle.decode.specs.Decoding.{chosen}

pub record Chosen (job : Job) (points : List ℕ) (heard : ℕ) : Type 0 where
  pub count : length (chosen job heard) ≡ needed_of job
  pub within : AllBelow job.hosts (chosen job heard)
  pub are_heard : (i : ℕ) → i < length (chosen job heard) → is_heard heard (get_or (chosen job heard) i 0) ≡ true
  pub below : AllBelow (prime job) (map (λ h. get_or points h 0) (chosen job heard))
  pub distinct : Distinct (map (λ h. get_or points h 0) (chosen job heard))

pub chosen_hosts : (job : Job) (points : List ℕ) → Facts job points → (heard : ℕ) → needed_of job ≤ size (is_heard heard) job.hosts
    → Chosen job points heard
unfolding chosen lowest size
chosen_hosts job points f heard enough =
    let all : List ℕ = members (is_heard heard) job.hosts in
    let hosts : List ℕ = chosen job heard in
    let count : length hosts ≡ needed_of job = length-take-le (needed_of job) all enough in
    let at : (i : ℕ) → i < length hosts → get_or hosts i 0 ≡ get_or all i 0 = λ i h. get_or-take (needed_of job) all i 0 (omega arith) in
    let within : AllBelow job.hosts hosts = λ i h. omega (arith, at i h, members_below (is_heard heard) job.hosts i (omega arith)) in
    let inside : AllBelow (length points) hosts = λ i h. omega (arith, within i h, f.points_length) in
    record {
      count = count;
      within = within;
      are_heard = λ i h. ap (is_heard heard) (at i h) ∙ members_in (is_heard heard) job.hosts i (omega arith);
      below = points_each points hosts inside (λ x. x < prime job) f.points_below;
      distinct = points_apart points hosts inside f.points_distinct
          (λ i j hi hj e. members_distinct (is_heard heard) job.hosts i j (omega arith) (omega arith) (sym (at i hi) ∙ e ∙ at j hj));
    }
