-- A step of the walk keeps what is listed at the end, and leaves fewer steps.
use Rattle.std.proofs.Common.{rules as std_rules, ◌≡◌, refl, ap, ◌∙◌, ℕ, suc, ◌+◌, arith, true, false, nat_eq, List, [], ◌∷◌, ◌++◌, map, reverse}
use Rattle.std.proofs.lemmas.List.{map-append, reverse-append}
use Rattle.std.specs.Prelude.{if◌then◌else◌, fold}
use Rattle.indexmap.specs.IndexSet.{insert_key}
use Rattle.wit_model.specs.declared.model.{Resolve.Resolve, InterfaceId.InterfaceId}
use Rattle.wit_model.specs.{Uses.has, Uses.direct_deps, Valid.IsValid}
use Rattle.encode_reach.specs.Reach.{add, listed_with, reached_in_order}
use Rattle.encode_reach.specs.Walk.{listed_after, listed_at_end, sum_along, steps_for, steps_of, steps_left, visits, IsDone}
use Rattle.encode_reach.specs.declared.reach.Step.{Step}
use Rattle.encode_reach.proofs.Fuel.{each-bound, each-bound-steps}
use Rattle.wit_model.proofs.UsesLemmas.{any_is_has as held}
use Rattle.encode_reach.specs.declared.reach.Step.TheVariants as step

-- a set of numbers has what the list of them has

pub inserted : (ns : List ℕ) (n : ℕ) → insert_key nat_eq ns n ≡ add ns n
inserted ns n = ap (λ b. if b then ns else (ns ++ n ∷ [])) (held ns n)

module _ (r : Resolve) where
  -- ---- steps behind others are done first

  end-behind : (xs ys : List Step) (l : List ℕ) → listed_at_end r (xs ++ ys) l ≡ listed_at_end r xs (listed_at_end r ys l)
  end-behind [] ys l = refl
  end-behind (x ∷ xs) ys l = ap (λ w. listed_after r w x) (end-behind xs ys l)

  left-behind : (xs ys : List Step) (l : List ℕ) → steps_left r (xs ++ ys) l ≡ steps_left r ys l + steps_left r xs (listed_at_end r ys l)
  left-behind [] ys l = omega arith
  left-behind (x ∷ xs) ys l = search (std_rules, end-behind, left-behind xs ys l)

  one-left : (s : Step) (l : List ℕ) → steps_left r (s ∷ []) l ≡ steps_of r l s
  one-left s l = omega arith

  -- ---- visits

  visits-more : (id : InterfaceId) (ids : List InterfaceId) → visits (id ∷ ids) ≡ visits ids ++ step.Visit id.0 ∷ []
  visits-more id ids = ap (map (λ (i : InterfaceId). step.Visit i.0)) (reverse-append (id ∷ []) ids) ∙ map-append (λ (i : InterfaceId). step.Visit i.0) (reverse ids) (id ∷ [])

  visits-end : (ids : List InterfaceId) (l : List ℕ) → listed_at_end r (visits ids) l ≡ fold (λ w n. listed_with r (suc n) w n) l (map (λ (i : InterfaceId). i.0) ids)
  visits-end [] l = refl
  visits-end (id ∷ ids) l = search (std_rules, visits-more, end-behind, visits-end ids (listed_with r (suc id.0) l id.0))

  visits-left : (ids : List InterfaceId) (l : List ℕ)
      → steps_left r (visits ids) l ≡ sum_along (λ w n. listed_with r (suc n) w n) (λ w n. steps_for r (suc n) w n) l (map (λ (i : InterfaceId). i.0) ids)
  visits-left [] l = refl
  visits-left (id ∷ ids) l = search (std_rules, visits-more, left-behind, one-left, visits-left ids (listed_with r (suc id.0) l id.0))

  -- ---- the steps

  fewer-left : (s : Step) (old : List Step) (l : List ℕ) → steps_left r (old ++ s ∷ []) l ≡ steps_of r l s + steps_left r old (listed_after r l s)
  fewer-left s old l = left-behind old (s ∷ []) l ∙ ap (λ k. k + steps_left r old (listed_after r l s)) (one-left s l)

  -- an interface that is listed
  pub skipped : (n : ℕ) (old : List Step) (l : List ℕ) → has l n ≡ true → IsDone r (step.Visit n) old old l l
  unfolding listed_with steps_for
  skipped n old l there = search (std_rules, fewer-left, end-behind)

  pub appended : (n : ℕ) (old : List Step) (l w : List ℕ) → w ≡ add l n → IsDone r (step.Append n) old old l w
  appended n old l w is = search (std_rules, fewer-left, end-behind)

  pub visited : IsValid r → (n : ℕ) (old new : List Step) (l : List ℕ) (ids : List InterfaceId) → has l n ≡ false → map (λ (i : InterfaceId). i.0) ids ≡ direct_deps r n
      → new ≡ (old ++ step.Append n ∷ []) ++ visits ids → IsDone r (step.Visit n) old new l l
  unfolding listed_with steps_for
  visited v n old new l ids fresh uses is = search (std_rules, visits-end, each-bound, visits-left, each-bound-steps, left-behind, fewer-left, end-behind)

  -- what is found by visits of what an interface uses
  pub visits-found : IsValid r → (n : ℕ) (ids : List InterfaceId) → map (λ (i : InterfaceId). i.0) ids ≡ direct_deps r n → listed_at_end r (visits ids) [] ≡ reached_in_order r n
  visits-found v n ids uses = visits-end ids [] ∙ (ap (fold (λ w m. listed_with r (suc m) w m) []) uses ∙ each-bound r v n [])
