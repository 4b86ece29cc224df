-- Which layout is used.
--
--   k                        K of a layout
--   keeps, changes           the better of two layouts is the first, or the second
--   first_chosen, second_chosen, third_over_first, third_over_second   the choice, by the three numbers of answers needed
--   chosen                   it has the smallest, and at a tie the lowest number
use Rattle.std.proofs.Common.{◌≡◌, ℕ, ◌<◌, ◌≤◌, sym, ap, ◌∙◌, subst, ⊎_elim, arith, le-leb}
use borrow.Author.Tests.{lt-leb}
use Rattle.algebra.proofs.Orders.{le_or_lt}
use Rattle.layout.specs.declared.Parameters.{Parameters}
use Rattle.layout.specs.declared.Layout.{Layout}
use Rattle.layout.specs.declared.Layout.TheVariants.{First, Second, Third}
use Rattle.layout.specs.Exponents.{exponents, number, better, choice, Chosen}

module _ (g : Parameters) where
  abbrev k : Layout → ℕ
  k l = (exponents l g).needed

  keeps : (a b : Layout) → k a ≤ k b → better g a b ≡ a
  unfolding better
  keeps a b h = rw (le-leb (k a) (k b) h)

  changes : (a b : Layout) → k b < k a → better g a b ≡ b
  unfolding better
  changes a b h = rw (lt-leb (k a) (k b) h)

  -- the better of the first two, and of that and the third
  by_steps : {a c : Layout} → better g First Second ≡ a → better g a Third ≡ c → c ≡ choice g
  unfolding choice
  by_steps e f = sym (ap (λ (l : Layout). better g l Third) e ∙ f)

  pub first_chosen : k First ≤ k Second → k First ≤ k Third → First ≡ choice g
  first_chosen h i = by_steps (keeps First Second h) (keeps First Third i)

  pub third_over_first : k First ≤ k Second → k Third < k First → Third ≡ choice g
  third_over_first h i = by_steps (keeps First Second h) (changes First Third i)

  pub second_chosen : k Second < k First → k Second ≤ k Third → Second ≡ choice g
  second_chosen h i = by_steps (changes First Second h) (keeps Second Third i)

  pub third_over_second : k Second < k First → k Third < k Second → Third ≡ choice g
  third_over_second h i = by_steps (changes First Second h) (changes Second Third i)

  -- no K is smaller than that of l, and those of lower numbers are larger
  Ahead : Layout → Type 0
  Ahead l = (b : Layout) → (k l ≤ k b) × (number b < number l → k l < k b)

  -- a layout ahead of all is rightly chosen
  ahead_chosen : {l : Layout} → Ahead l → l ≡ choice g → Chosen g (choice g)
  unfolding Ahead
  ahead_chosen {l} ahead is =
      subst (Chosen g) is
      (record {
        smallest = λ b. (ahead b).0;
        lowest = λ b e. ⊎_elim (λ h. h) (λ h. omega (arith, (ahead b).1 h)) (le_or_lt (number l) (number b));
      })

  -- each is ahead where it is chosen
  first_ahead : k First ≤ k Second → k First ≤ k Third → Ahead First
  unfolding Ahead
  first_ahead h i First = (omega arith, λ l. omega arith)
  first_ahead h i Second = (h, λ l. omega arith)
  first_ahead h i Third = (i, λ l. omega arith)

  second_ahead : k Second < k First → k Second ≤ k Third → Ahead Second
  unfolding Ahead
  second_ahead h i First = (omega arith, λ l. h)
  second_ahead h i Second = (omega arith, λ l. omega arith)
  second_ahead h i Third = (i, λ l. omega arith)

  third_ahead : k Third < k First → k Third < k Second → Ahead Third
  unfolding Ahead
  third_ahead h i First = (omega arith, λ l. h)
  third_ahead h i Second = (omega arith, λ l. i)
  third_ahead h i Third = (omega arith, λ l. omega arith)

  pub chosen : Chosen g (choice g)
  chosen = ⊎_elim kept changed (le_or_lt (k First) (k Second))
    where
      kept : k First ≤ k Second → Chosen g (choice g)
      kept h =
          ⊎_elim (λ i. ahead_chosen (first_ahead h i) (first_chosen h i))
          (λ i. ahead_chosen (third_ahead i (omega arith)) (third_over_first h i)) (le_or_lt (k First) (k Third))

      changed : k Second < k First → Chosen g (choice g)
      changed h =
          ⊎_elim (λ i. ahead_chosen (second_ahead h i) (second_chosen h i))
          (λ i. ahead_chosen (third_ahead (omega arith) i) (third_over_second h i)) (le_or_lt (k Second) (k Third))
