-- The instances in the component type of a world are those of the interfaces that it shows, and their types are reached by aliases.
use Rattle.std.proofs.Common.{rules as std_rules, ◌≡◌, refl, sym, subst, ap, ◌∙◌, Bool, List, [], ◌∷◌, Some}
use Rattle.std.proofs.lemmas.List.Elements.{Contains-append_left}
use Rattle.std.specs.{Prelude.is_some, Prelude.option_to_list, List.AllZip, List.Contains, List.flat_map}
use Rattle.wit_model.specs.{Text.Text, Text.text_of, Tree.Place, Lookup.interface_path, Parts.is_resource, Uses.item_interface, Valid.IsValid}
use Rattle.wit_model.specs.declared.model.Resolve.{Resolve}
use Rattle.comp_bytes.specs.Reading.{◌>>=◌}
use Rattle.comp_meaning.specs.Follow.{Seen, exported_slot, in_scope, instance_types, provided}
use Rattle.encode_shown.specs.Views.{ShowsItem, home_of, instances_of, name_slot}
use Rattle.encode_shown.proofs.Items.{entry-home, instance-home}
use Rattle.encode_names.specs.WorldSteps.{AliasesAreNames, Entry, InstancesStand, IsEntryOf, StandsAs, interfaces_among}
use Rattle.encode_names.proofs.{TypesFound.types_are_found, WorldSteps.entry-of, WorldSteps.slots_leave_entries}
use Rattle.base_lemmas.proofs.Elements.{contains-later, contains-one, zip-append}
use Rattle.wit_model.specs.declared.model.WorldItem.TheVariants as item

module _ (r : Resolve) (v : IsValid r) where
  stands-one : (e : Entry) (s : Seen) → IsEntryOf r e → ShowsItem r e s → AllZip (StandsAs r) (option_to_list (item_interface e.1)) (instances_of s.shown)
  stands-one (k, item.Interface id stability docs external_id) s is shows =
      let i = item.Interface id stability docs external_id in
      let home = entry-home r v is.number k i (entry-of r v (k, i) is) id.0 refl in
      subst (λ sh. AllZip (StandsAs r) (id.0 ∷ []) (instances_of sh)) (sym (ap (λ (x : Seen). x.shown) shows.is))
      (record { interface = instance-home k (interface_path r id.0) home; shows = shows.is_view }, tt)
  stands-one (k, item.Function f) s is shows = subst (λ sh. AllZip (StandsAs r) [] (instances_of sh)) (sym (ap (λ (x : Seen). x.shown) shows.is)) tt
  stands-one (k, item.Type_ id) s is shows = subst (λ sh. AllZip (StandsAs r) [] (instances_of sh)) (sym (ap (λ (x : Seen). x.shown) shows.is)) tt

  stands-each : (es : List Entry) (ss : List Seen) → ((e : Entry) → Contains es e → IsEntryOf r e) → AllZip (ShowsItem r) es ss
      → AllZip (StandsAs r) (interfaces_among es) (flat_map (λ s. instances_of s.shown) ss)
  stands-each [] [] is z = tt
  stands-each [] (s ∷ ss) is z = absurd z
  stands-each (e ∷ es) [] is z = absurd z
  stands-each (e ∷ es) (s ∷ ss) is z = zip-append (StandsAs r) (option_to_list (item_interface e.1)) (instances_of s.shown) (interfaces_among es) (flat_map (λ s. instances_of s.shown) ss)
      (stands-one e s (is e (Contains-append_left (e ∷ []) es e (contains-one e))) z.0) (stands-each es ss (λ x c. is x (contains-later e es x c)) z.1)

pub instances_stand : InstancesStand
instances_stand r done scope v are h = search (std_rules, stands-each, zip-append)

-- ---- aliases

no-instance : (is_one : Bool) (place : Place) (name : Text) → instance_types (name_slot is_one place name ∷ []) ≡ 0
no-instance x place name = search std_rules

pub aliases_are_names : AliasesAreNames
aliases_are_names r done scope m instance i interface n def name v there path at named owned h listed stands =
    let slot = name_slot (is_resource r n) (home_of r i.0) (text_of name) in
    let found = types_are_found r i interface n def name instance.view v there at named owned stands.shows in
    record {
      step = ap (λ o. exported_slot (text_of name) o >>= λ x. Some (in_scope x scope)) listed ∙ ap (λ o. (o >>= λ x. provided (is_some instance.interface) x) >>= λ x. Some (in_scope x scope)) found
          ∙ ap (λ b. provided b slot >>= λ x. Some (in_scope x scope)) (ap is_some stands.interface ∙ path);
      shows = slots_leave_entries r done scope slot (no-instance (is_resource r n) (home_of r i.0) (text_of name)) h;
    }
