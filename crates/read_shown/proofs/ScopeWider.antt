-- What is well-formed in a scope stays so where more instances and more imports are seen.
use Rattle.std.proofs.Common.{rules as std_rules, ℕ, ◌≤◌, Bool, List, length}
use Rattle.wit_model.specs.{Text.Text, Tree.Place, Tree.Tree, Tree.TypeDeclaration}
use Rattle.comp_meaning.specs.Follow.{Slot, Instance, Seen, Shown, instance_place}
use Rattle.read_shown.specs.{Trees.AllAt, Trees.SlotStands, Views.ViewStands}
use Rattle.read_shown.specs.Scopes.{IsShownBefore, IsImported, IsDeclared, a_resource, a_value, own_name, name_of_instance, IsMetInScope, ShownStands}
use Rattle.read_shown.proofs.{Lists.all_weaker, Lists.Front, Views.view_wider, Wider.declaration_wider, Wider.signature_wider, Wider.slot_wider}
use Rattle.base_lemmas.proofs.Numbers.{same_number}

pub shown_wider : (instances more : List Instance) → Front instances more → (k m : ℕ) → k ≤ m → (place : Place) (name : Text) (b : Bool) → IsShownBefore instances k place name b
    → IsShownBefore more m place name b
shown_wider instances more front k m le place name b s = search std_rules

imported_wider : (imports more : List Seen) → Front imports more → (k m : ℕ) → k ≤ m → (name : Text) (d : TypeDeclaration) → IsImported imports k name d → IsImported more m name d
imported_wider imports more front k m le name d i = search std_rules

module _ (instances more_instances : List Instance) (imports more_imports : List Seen) (fi : Front instances more_instances) (fm : Front imports more_imports) where
  pub declared_wider : {count : ℕ} {name : Text} {b : Bool} (more : ℕ) → count ≤ more → IsDeclared instances imports count name b → IsDeclared more_instances more_imports more name b
  unfolding imported_wider
  declared_wider {count} {name} more le (a_resource by) = a_resource (imported_wider imports more_imports fm count more le name TypeDeclaration.resource by)
  declared_wider {count} {name} more le (a_value t no_name by) = a_value t no_name (imported_wider imports more_imports fm count more le name (TypeDeclaration.type_ t) by)
  declared_wider {count} {name} more le (own_name other by of) =
      own_name other (imported_wider imports more_imports fm count more le name (TypeDeclaration.type_ (Tree.named Place.here other)) by) (declared_wider by.number (same_number by.number) of)
  declared_wider {count} {name} {b} more le (name_of_instance path other by s) =
      name_of_instance path other (imported_wider imports more_imports fm count more le name (TypeDeclaration.type_ (Tree.named (Place.of_interface path) other)) by)
      (shown_wider instances more_instances fi (length instances) (length more_instances) fi.long (Place.of_interface path) other b s)

  pub met_wider : (k m : ℕ) → k ≤ m → (place : Place) (name : Text) (b : Bool) → IsMetInScope instances imports k place name b → IsMetInScope more_instances more_imports m place name b
  met_wider k m le place name b x = search (std_rules, declared_wider, shown_wider)

  pub shown_stands_wider : (k m : ℕ) → k ≤ m → (s : Shown) → ShownStands instances imports k s → ShownStands more_instances more_imports m s
  shown_stands_wider k m le (Shown.instance key view) h = (h.0, fi.kept h.0 _ h.1)
  shown_stands_wider k m le (Shown.function f) h = signature_wider (IsMetInScope instances imports k) (IsMetInScope more_instances more_imports m) (met_wider k m le) f h
  shown_stands_wider k m le (Shown.declares d) h = (h.0, declaration_wider (IsMetInScope instances imports k) (IsMetInScope more_instances more_imports m) (met_wider k m le) d h.0 h.1)

  pub slots_wider : (ss : List Slot) → AllAt (λ n (s : Slot). SlotStands (IsMetInScope instances imports (length imports)) s) ss
      → AllAt (λ n (s : Slot). SlotStands (IsMetInScope more_instances more_imports (length more_imports)) s) ss
  slots_wider ss all = search (std_rules, all_weaker, slot_wider, met_wider)

  pub instances_wider : (xs : List Instance) → AllAt (λ n (x : Instance). ViewStands (IsShownBefore instances n) (instance_place x.interface) x.view) xs
      → AllAt (λ n (x : Instance). ViewStands (IsShownBefore more_instances n) (instance_place x.interface) x.view) xs
  instances_wider xs all = search (std_rules, all_weaker, view_wider, shown_wider, same_number)

  pub imports_wider : (xs : List Seen) → AllAt (λ n (s : Seen). ShownStands instances imports n s.shown) xs → AllAt (λ n (s : Seen). ShownStands more_instances more_imports n s.shown) xs
  imports_wider xs all = search (std_rules, all_weaker, shown_stands_wider, same_number)

  pub exports_wider : (xs : List Seen) → AllAt (λ n (s : Seen). ShownStands instances imports (length imports) s.shown) xs
      → AllAt (λ n (s : Seen). ShownStands more_instances more_imports (length more_imports) s.shown) xs
  exports_wider xs all = search (std_rules, all_weaker, shown_stands_wider)
