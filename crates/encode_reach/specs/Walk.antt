-- The steps of a walk along uses that are still to be done, and how many steps they take.
use Rattle.std.specs.Prelude.{◌≡◌, ◌<◌, ℕ, zero, suc, ◌+◌, if◌then◌else◌, List, [], ◌∷◌, ◌++◌, map, reverse}
use Rattle.wit_model.specs.declared.model.{Resolve.Resolve, InterfaceId.InterfaceId}
use Rattle.wit_model.specs.Uses.{has, direct_deps}
use Rattle.encode_reach.specs.Reach.{add, listed_with}
use Rattle.encode_reach.specs.declared.reach.Step.{Step}
use Rattle.encode_reach.specs.declared.reach.Step.TheVariants as step

-- what is listed after a step
abbrev pub listed_after : Resolve → List ℕ → Step → List ℕ
listed_after r listed (step.Visit n) = listed_with r (suc n) listed n
listed_after r listed (step.Append n) = add listed n

-- what is listed after these steps, the last one first
abbrev pub listed_at_end : Resolve → List Step → List ℕ → List ℕ
listed_at_end r [] listed = listed
listed_at_end r (s ∷ steps) listed = listed_after r (listed_at_end r steps listed) s

-- the sum of what each of these costs, where each changes what is listed for the next
abbrev pub sum_along : (List ℕ → ℕ → List ℕ) → (List ℕ → ℕ → ℕ) → List ℕ → List ℕ → ℕ
sum_along change cost listed [] = 0
sum_along change cost listed (n ∷ ns) = cost listed n + sum_along change cost (change listed n) ns

-- How many steps it takes to list interface n with what it uses. At most so many uses follow on one another.
unfoldable pub steps_for : Resolve → ℕ → List ℕ → ℕ → ℕ
steps_for r zero listed n = 1
steps_for r (suc k) listed n = if has listed n then 1 else suc (suc (sum_along (listed_with r k) (steps_for r k) listed (direct_deps r n)))

-- how many steps one of them takes
abbrev pub steps_of : Resolve → List ℕ → Step → ℕ
steps_of r listed (step.Visit n) = steps_for r (suc n) listed n
steps_of r listed (step.Append n) = 1

-- how many steps these take, the last one first
abbrev pub steps_left : Resolve → List Step → List ℕ → ℕ
steps_left r [] listed = 0
steps_left r (s ∷ steps) listed = steps_left r steps listed + steps_of r (listed_at_end r steps listed) s

-- the visits of interfaces, so that the first of them is done first
abbrev pub visits : List InterfaceId → List Step
visits ids = map (λ id. step.Visit id.0) (reverse ids)

-- A step is done: what is listed at the end is the same, and fewer steps are left.
pub record IsDone (r : Resolve) (s : Step) (old new : List Step) (listed listed' : List ℕ) : Type 0 where
  pub same : listed_at_end r new listed' ≡ listed_at_end r (old ++ s ∷ []) listed
  pub fewer : steps_left r new listed' < steps_left r (old ++ s ∷ []) listed
