-- A view that shows an interface has each named type of the interface under its name.
use Rattle.std.proofs.Common.{◌≡◌, refl, sym, ap, ◌∙◌, ℕ, Bool, true, false, cond, List, [], ◌∷◌, map, Some, String, option_map}
use Rattle.std.specs.declared.alloc.Global.{Global}
use Rattle.std.specs.{Map.lookup, Option.option_map_or, HashMap.get_by_text}
use Rattle.wit_model.specs.{Text.Text, Text.text_eq, Text.text_of, Parts.is_resource, Rules.is_id, Rules.is_listed, Rules.is_listed_in_interface, Rules.passes}
use Rattle.wit_model.specs.{Tree.Place, Lookup.interface_at}
use Rattle.wit_model.specs.declared.model.{Resolve.Resolve, TypeId.TypeId}
use Rattle.comp_meaning.specs.Follow.{find_type}
use Rattle.encode_shown.specs.Views.{home_of, name_slot, shown_type, types_of}
use Rattle.encode_shown.proofs.Members.{valid-listed}
use Rattle.encode_names.specs.WorldSteps.{TypesAreFound}
use Rattle.base_lemmas.proofs.{Bools.left_of as first_true, Numbers.equal}
use Rattle.wit_model.proofs.TextLemmas.{text_same as text-same}

-- what a look-up by name finds is shown under that name
found-shown : (r : Resolve) (place : Place) (es : List (String Global × TypeId)) (n : ℕ) (t : Text) → is_id n (option_map (λ (id : TypeId). id.0) (lookup (λ k. text_eq t (text_of k)) es)) ≡ true
    → find_type t (map (shown_type r place) es) ≡ Some (name_slot (is_resource r n) place t)
found-shown r place [] n t h = let wrong : ⊥ = cc in absurd wrong
found-shown r place (e ∷ es) n t h = go (found-shown r place es n t) (text_eq t (text_of e.0)) refl h
  where
    go : (is_id n (option_map (λ (id : TypeId). id.0) (lookup (λ k. text_eq t (text_of k)) es)) ≡ true → find_type t (map (shown_type r place) es) ≡ Some (name_slot (is_resource r n) place t))
        → (b : Bool) → text_eq t (text_of e.0) ≡ b → is_id n (option_map (λ (id : TypeId). id.0) (cond b (Some e.1) (lookup (λ k. text_eq t (text_of k)) es))) ≡ true
        → cond b (Some (name_slot (is_resource r e.1.0) place (text_of e.0))) (find_type t (map (shown_type r place) es)) ≡ Some (name_slot (is_resource r n) place t)
    go more true q h =
        let number : e.1.0 ≡ n = equal e.1.0 n h in
        let text : text_of e.0 ≡ t = sym (text-same t (text_of e.0) q) in
        λ j. Some (name_slot (is_resource r (number j)) place (text j))
    go more false q h = more h

pub types_are_found : TypesAreFound
types_are_found r i interface n def name view v there at named owned shows =
    let t = text_of name in
    let listed : passes (is_listed_in_interface n t) (interface_at r i.0) ≡ true = ap (is_listed r n t) (sym owned) ∙ valid-listed r v n def name at named in
    let inside : is_listed_in_interface n t interface ≡ true = ap (passes (is_listed_in_interface n t)) (sym there) ∙ listed in
    ap (find_type t) (shows.types ∙ ap (λ o. option_map_or (types_of r i.0) o []) there)
    ∙ found-shown r (home_of r i.0) interface.types.entries n t (first_true (is_id n (option_map (λ (id : TypeId). id.0) (get_by_text interface.types t))) _ inside)
