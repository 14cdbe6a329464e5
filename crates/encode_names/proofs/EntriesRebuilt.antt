-- A component type that has imported types, while nothing else has changed, shows these types too.
use Rattle.std.proofs.Common.{rules as std_rules, ◌≡◌, refl, sym, subst, ap, ◌∙◌, true, List, [], ◌∷◌, ◌++◌, length, append-nil}
use Rattle.std.proofs.lemmas.List.Folds.{list_all-append}
use Rattle.std.specs.List.{AllZip, list_all}
use Rattle.comp_meaning.specs.Follow.{Seen, Shown}
use Rattle.encode_shown.specs.Views.{ShowsItem, instances_of}
use Rattle.encode_names.specs.{Rebuilt.is_type_shown, Rebuilt.types_seen, WorldSteps.EntriesAreRebuilt}
use Rattle.encode_names.proofs.{Rebuilt.types_come_last, WorldSteps.AreBelow, WorldSteps.below-more, WorldSteps.flat-appended, WorldSteps.shown_instances}
use Rattle.base_lemmas.proofs.{Bools.left_of as first_true, Bools.right_of as second_true, Elements.zip-append}

abbrev AreTypes : List Seen → Type 0
AreTypes ss = list_all (λ s. is_type_shown s.shown) ss ≡ true

types-are-types : (ss : List Seen) → AreTypes (types_seen ss)
types-are-types [] = refl
types-are-types (s ∷ ss) = search (std_rules, types-are-types ss)

no-instances : (shown : Shown) → is_type_shown shown ≡ true → instances_of shown ≡ []
no-instances x h = search std_rules

-- types bring no instances
none-of-types : (ts : List Seen) → AreTypes ts → shown_instances ts ≡ []
none-of-types [] h = refl
none-of-types (t ∷ ts) h = ap (λ l. l ++ shown_instances ts) (no-instances t.shown (first_true (is_type_shown t.shown) _ h)) ∙ none-of-types ts (second_true (is_type_shown t.shown) _ h)

pub entries_are_rebuilt : EntriesAreRebuilt
entries_are_rebuilt r done scope next more types h a z =
    let all : AreTypes (types_seen scope.imports ++ types) = subst AreTypes a.more_types (types-are-types next.imports) in
    let each : AreTypes types = second_true (list_all (λ s. is_type_shown s.shown) (types_seen scope.imports)) _
    (sym (list_all-append (λ (s : Seen). is_type_shown s.shown) (types_seen scope.imports) types) ∙ all) in
    let imports : next.imports ≡ scope.imports ++ types = types_come_last scope.imports next.imports types each a.others_stay a.more_types in
    let brought : shown_instances ((scope.imports ++ types) ++ scope.exports) ≡ shown_instances (scope.imports ++ scope.exports) = flat-appended (scope.imports ++ types) scope.exports
    ∙ ap (λ t. t ++ shown_instances scope.exports) (flat-appended scope.imports types ∙ ap (λ t. shown_instances scope.imports ++ t) (none-of-types types each)
    ∙ append-nil (shown_instances scope.imports)) ∙ sym (flat-appended scope.imports scope.exports) in
    record {
      imports = subst (AllZip (ShowsItem r) (done.0 ++ more)) (sym imports) (zip-append (ShowsItem r) done.0 scope.imports more types h.imports z);
      exports = subst (AllZip (ShowsItem r) done.1) (sym a.exports_stay) h.exports;
      instances = a.instances_stay ∙ h.instances ∙ sym brought ∙ (λ i. shown_instances (sym imports i ++ sym a.exports_stay i));
      used = ap length a.used_stay ∙ h.used ∙ sym a.same_instance_types;
      in_range = subst (AreBelow (length next.slots)) (sym a.used_stay) (below-more (length scope.slots) (length next.slots) scope.used a.more_slots h.in_range);
    }
