-- The places of what is shown, in trees and in numbers.
use Rattle.plan_parts.specs.Interfaces.{slot_part}
use Rattle.plan_meaning.specs.{FollowedNumbers.IsSlotOf, NumberedMembers.Homes, NumberedMembers.HomesStand, NumberedMembers.home_at}
use Rattle.plan_meaning.specs.NumberedViews.{FunctionShape, PartsOf, Tables, path_text, place_at, NumberedSlot}
use Rattle.plan_meaning.specs.NumberedWorlds.{HasPath, KeyStands, NumberedKey, key_of, place_of_key, seen_of, shown_of}
use Rattle.std.proofs.Common.{rules as std_rules, ◌≡◌, sym, ap, subst, ◌∙◌, ℕ, false, List, [], map, Some, slice_get, unwrap_or, ◌+◌}
use Rattle.std.proofs.{ByRecursion.All-weaker as recursion_weaker, lemmas.Option.same_Some as same-some}
use Rattle.std.specs.List.{AllByRecursion}
use Rattle.wit_model.specs.{Names.PackageIdentity, Names.path_in, Text.Text}
use Rattle.wit_model.proofs.NameLaws.{read_path_is_spelled}
use Rattle.comp_meaning.specs.Follow.{Seen, interface_of, instance_place}
use Rattle.read_shown.specs.Trees.{AllAt}
use Rattle.read_rules.specs.declared.scopes.{Seen.Seen as NumberSeen, Shown.Shown as NumberShown}
use Rattle.read_rules.specs.Scopes.{numbered_seen, numbered_shown}
use Rattle.read_exports.specs.declared.members.Member.{Member}
use Rattle.plan_type_laws.proofs.Walks.{all_any, at_each}
use Rattle.plan_type_laws.specs.ShownMarks.{NamesSeen, NamesShown}
use Rattle.base_lemmas.proofs.Lists.{map_of_map}
use Rattle.read_shown.specs.Scopes as scopes

-- what holds of each part that a function has
pub parts_weaker : (P Q : ℕ → Type 0) → ((k : ℕ) → P k → Q k) → (f : FunctionShape) → PartsOf P f → PartsOf Q f
parts_weaker P Q one f all = search (std_rules, recursion_weaker)

-- the part of a slot
pub slot_number : (t : Tables) (s : NumberedSlot) (n : ℕ) → IsSlotOf t s n → slot_part s ≡ 14 + n
slot_number t x n e = search std_rules

module _ (t : Tables) where
  pub path_place : (p : ℕ) → HasPath t p → instance_place (Some (path_text t p)) ≡ place_at t p
  path_place p x = ap (λ o. instance_place (Some (unwrap_or o []))) x.1 ∙ sym (ap instance_place x.1)

  -- the place of an instance
  pub key_place : (k : NumberedKey) → KeyStands t k → instance_place (interface_of (key_of t k)) ≡ place_at t (place_of_key k)
  key_place y x = search std_rules

  -- no type is exported
  no_name : (home : ℕ) (key : Text) (s : NumberShown) → scopes.is_type (shown_of t (numbered_shown s)) ≡ false → NamesShown t home key s
  no_name home key x none = search std_rules

  pub no_names : (home : ℕ) (ss : List NumberSeen) → AllAt (λ n (s : Seen). scopes.is_type s.shown ≡ false) (map (seen_of t) (map numbered_seen ss)) → AllByRecursion (NamesSeen t home) ss
  no_names home ss none = at_each (λ (s : NumberSeen). seen_of t (numbered_seen s)) (λ n (s : Seen). scopes.is_type s.shown ≡ false) (λ s. Unit {0}) (NamesSeen t home) ss
      (λ n s any is. no_name home s.key.now s.shown is) (all_any ss) (subst (AllAt (λ n (s : Seen). scopes.is_type s.shown ≡ false)) (map_of_map (seen_of t) numbered_seen ss) none)

  -- the place of an interface that is exported, by its package and its name
  pub exported_place : (h : Homes) → HomesStand t h → (m : Member) (identity : PackageIdentity) → slice_get h.packages m.package_number ≡ Some identity → (name : Text) → name ≡ m.label.now
      → (p : ℕ) → HasPath t p → home_at h p ≡ Some (m.package_number, m.label.now) → instance_place (Some (path_in identity name)) ≡ place_at t p
  exported_place h stand m identity there name under p x at =
      let home = stand.homes p x.0 x.1 in
      let pair : ◌≡◌ {A = ℕ × Text} (home.package_, home.name) (m.package_number, m.label.now) = same-some (home.package_, home.name) (m.package_number, m.label.now) (sym home.home ∙ at) in
      let same : home.identity ≡ identity = same-some home.identity identity (sym home.stands ∙ (ap (λ (y : ℕ × Text). slice_get h.packages y.0) pair ∙ there)) in
      let called : home.name ≡ name = ap (λ (y : ℕ × Text). y.1) pair ∙ sym under in
      ap (λ o. instance_place (Some o)) (sym ((read_path_is_spelled x.0 home.identity home.name home.reads).spelled ∙ (λ i. path_in (same i) (called i)))) ∙ sym (ap instance_place x.1)
