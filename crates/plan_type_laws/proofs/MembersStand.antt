-- Parts that are well-formed each alone are so together.
use Rattle.std.proofs.Common.{rules as std_rules, ◌≡◌, sym, subst, ℕ, suc, ◌+◌, ◌⊎◌, inl, inr, arith, Bool, List, [], ◌∷◌, ◌++◌, length, Some, slice_get}
use Rattle.std.proofs.ByRecursion.{All-weaker as recursion_weaker}
use Rattle.std.specs.List.{AllByRecursion}
use Rattle.wit_model.specs.{Text.Text, Tree.Place}
use Rattle.comp_meaning.specs.Follow.{Instance, instance_place}
use Rattle.read_shown.specs.{Parts.MemberStands, Parts.PartStands, Parts.instances_of, Scopes.IsShownBefore, Trees.AllAt, Views.ViewStands}
use Rattle.read_shown.proofs.Views.{view_wider}
use Rattle.plan_type_laws.specs.MembersStand.{MembersStandTogether, all_instances}
use Rattle.base_lemmas.proofs.{Lists.front_at as at_front, Lists.split_at, Numbers.nothing_more as from_start}
use Rattle.comp_meaning.specs.Reads as reads

-- an item of two lists is one of the first, or one behind them

behind_at : {A : Type 0} (xs ys : List A) (n : ℕ) (x : A) → slice_get ys n ≡ Some x → (k : ℕ) × (k ≡ length xs + n) × (slice_get (xs ++ ys) k ≡ Some x)
behind_at [] ys n x e = (n, omega arith, e)
behind_at (z ∷ xs) ys n x e = let found = behind_at xs ys n x e in (suc found.0, (let is = found.1 in omega (arith, is)), found.2)

-- The items of a list stand in another one, behind so many.
abbrev pub StandBehind : {A : Type 0} → ℕ → List A → List A → Type 0
StandBehind {A} count xs all = (n : ℕ) (x : A) → slice_get xs n ≡ Some x → slice_get all (count + n) ≡ Some x

pub shown_behind : (count : ℕ) (some all : List Instance) → StandBehind count some all → (n : ℕ) (place : Place) (name : Text) (b : Bool) → IsShownBefore some n place name b
    → IsShownBefore all (count + n) place name b
shown_behind count some all stand n place name b s = search std_rules

module _ (all : List Instance) where
  views_behind : (count : ℕ) (members : List reads.Member) → StandBehind count (all_instances members) all → AllByRecursion MemberStands members
      → AllAt (λ n (x : Instance). ViewStands (IsShownBefore all (count + n)) (instance_place x.interface) x.view) (all_instances members)
  views_behind count [] stand each n x e = absurd cc
  views_behind count (m ∷ members) stand each n x e = by (views_behind (count + length (instances_of m)) members (λ k y f.
      let found = behind_at (instances_of m) (all_instances members) k y f in
      subst (λ i. slice_get all i ≡ Some y) (omega (arith, found.1)) (stand found.0 y found.2)) each.1) (split_at (instances_of m) (all_instances members) n x e)
    where
      here : StandBehind count (instances_of m) all
      here k y f = stand k y (at_front (instances_of m) (all_instances members) k y f)

      by : AllAt (λ k (y : Instance). ViewStands (IsShownBefore all (count + length (instances_of m) + k)) (instance_place y.interface) y.view) (all_instances members)
          → (slice_get (instances_of m) n ≡ Some x) ⊎ ((k : ℕ) × (n ≡ length (instances_of m) + k) × (slice_get (all_instances members) k ≡ Some x))
          → ViewStands (IsShownBefore all (count + n)) (instance_place x.interface) x.view
      by rest (inl own) = view_wider (IsShownBefore (instances_of m) n) (IsShownBefore all (count + n)) (shown_behind count (instances_of m) all here n) (instance_place x.interface) x.view
          (each.0.views n x own)
      by rest (inr behind) = subst (λ i. ViewStands (IsShownBefore all i) (instance_place x.interface) x.view) (omega (arith, behind.1)) (rest behind.0 x behind.2)

pub members_stand_together : MembersStandTogether
members_stand_together members each = record {
  views = λ n x e. subst (λ i. ViewStands (IsShownBefore (all_instances members) i) (instance_place x.interface) x.view) (from_start n)
      (views_behind (all_instances members) 0 members (λ k y f. subst (λ i. slice_get (all_instances members) i ≡ Some y) (sym (from_start k)) f) each n x e);
  parts = recursion_weaker MemberStands (λ (m : reads.Member). PartStands m.part) (λ m is. is.part) members each;
}
