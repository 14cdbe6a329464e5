-- The name of each import and each export of a valid world says which it is.
use Rattle.std.proofs.Common.{rules as std_rules, ◌≡◌, ◌⊎◌, inl, inr, refl, sym, ap, ◌∙◌, ℕ, Bool, true, false, not, ◌&&◌, Option, Some, None, String, option_map, option_and_then}
use Rattle.std.proofs.lemmas.List.Elements.{Contains-append_cases}
use Rattle.std.specs.declared.alloc.Global.{Global}
use Rattle.std.specs.{Prelude.is_some, Option.option_map_or, List.Contains}
use Rattle.wit_model.specs.{Text.Text, Text.text_of, Names.is_label, Meant.item_external_id, Uses.item_interface, Valid.IsValid, Valid.as_world}
use Rattle.wit_model.specs.{Lookup.interface_at, Lookup.interface_path, Lookup.path_of_interface, Rules.is_id, Rules.is_member, Rules.is_name_key}
use Rattle.wit_model.specs.declared.model.{Resolve.Resolve, WorldKey.WorldKey, WorldItem.WorldItem, Interface.Interface, InterfaceId.InterfaceId}
use Rattle.wit_model.proofs.OnePath.{found-in, named-path}
use Rattle.comp_bytes.specs.{Raw.ExternName}
use Rattle.comp_meaning.specs.Follow.{Key, key_of}
use Rattle.encode_shown.specs.Views.{instance_key}
use Rattle.encode_shown.proofs.Entries.{IsEntry, import-entry, export-entry, interface-key-path}
use Rattle.encode_names.specs.WorldNames.{name_of_item, written_path, written_suffix}
use Rattle.encode_names.specs.NameLaws.{NamesAreRead, ReadsAs, Says}
use Rattle.encode_names.proofs.PathsRead.{path-key, written-path}
use Rattle.base_lemmas.proofs.{Bools.left_of as first_true, Numbers.equal, Options.there as some-of}
use Rattle.wit_model.specs.declared.model.WorldKey.TheVariants as key
use Rattle.wit_model.specs.declared.model.WorldItem.TheVariants as item

-- nothing completes a name without a path
pub no-suffix : (r : Resolve) (canonical : Bool) → written_suffix r canonical None ≡ None
no-suffix r x = search std_rules

-- the name of a label, with the interface that it implements
abbrev labelled : Resolve → Bool → Text → Option Text → Option ℕ → ExternName
labelled r canonical text external_id target = record {
  text = text;
  implements = option_map (written_path r canonical) target;
  version_suffix = written_suffix r canonical target;
  external_id = external_id;
}

module _ (r : Resolve) (v : IsValid r) (canonical : Bool) where
  inline-key : (text : Text) (external_id : Option Text) → is_label text ≡ true → key_of (labelled r canonical text external_id None) ≡ Some (Key.label text)
  inline-key text external_id label = search std_rules

  named-key : (text : Text) (external_id : Option Text) → is_label text ≡ true → (n : ℕ) (path : Text) → interface_path r n ≡ Some path
      → key_of (labelled r canonical text external_id (Some n)) ≡ Some (Key.implementing text path)
  named-key text external_id label n path is = search (std_rules, written-path r v n path is canonical)

  -- an interface under a label: inline, or one that has a path
  label-key : (name : String Global) (id : InterfaceId) (external_id : Option Text) (def : Interface) → is_label (text_of name) ≡ true → interface_at r id.0 ≡ Some def
      → key_of (labelled r canonical (text_of name) external_id (option_and_then (λ (i : Interface). option_map (λ s. id.0) i.name) (interface_at r id.0))) ≡ Some
      (instance_key (key.Name name) (interface_path r id.0))
  label-key name id external_id def label there = go def.name refl
    where
      target : (o : Option (String Global)) → def.name ≡ o → option_and_then (λ (i : Interface). option_map (λ s. id.0) i.name) (interface_at r id.0) ≡ option_map (λ s. id.0) o
      target o q = ap (option_and_then (λ (i : Interface). option_map (λ s. id.0) i.name)) there ∙ ap (option_map (λ s. id.0)) q

      go : (o : Option (String Global)) → def.name ≡ o
          → key_of (labelled r canonical (text_of name) external_id (option_and_then (λ (i : Interface). option_map (λ s. id.0) i.name) (interface_at r id.0))) ≡ Some
          (instance_key (key.Name name) (interface_path r id.0))
      go None q =
          let none : interface_path r id.0 ≡ None = ap (option_and_then (path_of_interface r)) there ∙ ap
          (option_and_then (λ s. option_and_then (λ p. Rattle.wit_model.specs.Lookup.path_in_package r p.0 (text_of s)) def.package)) q in
          ap (λ o. key_of (labelled r canonical (text_of name) external_id o)) (target None q) ∙ inline-key (text_of name) external_id label ∙ ap
          (λ o. Some (instance_key (key.Name name) o)) (sym none)
      go (Some s) q =
          let path = some-of (interface_path r id.0) (named-path r v id.0 (ap (λ o. option_map_or (λ (other : Interface). is_some other.name) o false) there ∙ ap is_some q)) in
          ap (λ o. key_of (labelled r canonical (text_of name) external_id o)) (target (Some s) q) ∙ named-key (text_of name) external_id label id.0 path.0 path.1
          ∙ ap (λ o. Some (instance_key (key.Name name) o)) (sym path.1)

  module _ (n : ℕ) where
    says : (k : WorldKey) (i : WorldItem) → IsEntry r n (k, i) → Says r k i (name_of_item r canonical (k, i))
    says (key.Interface j) (item.Interface id stability docs external_id) is =
        let i : WorldItem = item.Interface id stability docs external_id in
        let path = some-of (interface_path r j.0) (interface-key-path r v n (key.Interface j, i) is j.0 is.keyed is.key_range) in
        let same : id.0 ≡ j.0 = equal id.0 j.0 (first_true (is_id j.0 (item_interface i)) _ is.keyed) in
        path-key r v j.0 path.0 path.1 canonical ∙ ap (λ o. Some (instance_key (key.Interface j) o)) (sym (ap (interface_path r) same ∙ path.1))
    says (key.Name name) (item.Interface id stability docs external_id) is =
        let found = found-in r.interfaces.items id.0 is.item_range in
        label-key name id (item_external_id r (item.Interface id stability docs external_id)) found.0 is.key_labelled found.1
    says (key.Interface j) (item.Function f) is =
        let none : is_name_key (text_of f.name) (key.Interface j) ≡ true = first_true (is_name_key (text_of f.name) (key.Interface j)) (is_member r (as_world n) f) is.named_ in
        let wrong : ⊥ = cc in absurd wrong
    says (key.Name name) (item.Function f) is = record { simple = ap (λ (s : Option Text). true && not (is_some s)) (no-suffix r canonical); text = refl }
    says (key.Interface j) (item.Type_ id) is = let wrong : ⊥ = (let h = is.typed in cc) in absurd wrong
    says (key.Name name) (item.Type_ id) is = record { simple = ap (λ (s : Option Text). true && not (is_some s)) (no-suffix r canonical); text = refl }

    read : (e : WorldKey × WorldItem) → IsEntry r n e → ReadsAs r e (name_of_item r canonical e)
    read e is = record { says = says e.0 e.1 is; external_id = refl }

pub names_are_read : NamesAreRead
names_are_read r n w e canonical v there c = go (Contains-append_cases w.imports.entries w.exports.entries e c)
  where
    go : Contains w.imports.entries e ⊎ Contains w.exports.entries e → ReadsAs r e (name_of_item r canonical e)
    go (inl d) = read r v canonical n e (import-entry r v n w there e d)
    go (inr d) = read r v canonical n e (export-entry r v n w there e d)
