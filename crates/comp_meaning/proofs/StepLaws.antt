-- What a declaration of a world does to its scope: one more slot, or one more that is seen.
use Rattle.std.proofs.Common.{rules as std_rules, arith, ◌≡◌, subst, ℕ, false, ◌==◌, [], ◌∷◌, ◌++◌, Some, slice_get}
use Rattle.std.proofs.lemmas.Bool.{not-true}
use Rattle.std.specs.List.{list_any}
use Rattle.wit_model.specs.{Text.Text, Tree.Tree, Tree.Place, Meaning.Signature}
use Rattle.comp_bytes.specs.declared.forms.ComponentTypeRef.{ComponentTypeRef}
use Rattle.comp_bytes.specs.Raw.{DefinedType, ExternName, FunctionType, Declaration}
use Rattle.comp_bytes.proofs.Readers.{bind_some, when_some}
use Rattle.comp_meaning.specs.Follow.{Slot, Scope, Seen, Shown, Key, View, Direction, import_, export_, provided, in_scope, see, text_of_key, instance_place, interface_of, used_view, see_described, named_type, is_simple, function_in, definition, function_signature, exported_slot, component_step}
use Rattle.base_lemmas.proofs.Options.{some_is}
use Rattle.wit_model.specs.Tree as tree
use Rattle.comp_bytes.specs.declared.forms.ComponentTypeRef.TheVariants as refs

-- what is seen under a name, and an instance that is seen
abbrev pub seen_under : ExternName → Shown → Seen
seen_under name shown = record { key = name.text; shown = shown; external_id = name.external_id }

abbrev pub seen_instance : ExternName → Key → View → Seen
seen_instance name key view = record { key = text_of_key key; shown = Shown.instance key view; external_id = name.external_id }

abbrev pub with_instance : Scope → ℕ → Key → View → Scope
with_instance scope n key view = record scope { instances = scope.instances ++ record { interface = interface_of key; view = view } ∷ []; used = scope.used ++ n ∷ [] }

-- the scope behind a declaration
pub data StepOf (scope : Scope) : Scope → Type 0 where
  defines : (d : DefinedType) (t : Tree) → definition scope.slots d ≡ Some t → StepOf scope (in_scope (Slot.value t) scope)
  signs : (f : FunctionType) (s : Signature) → function_signature scope.slots f ≡ Some s → StepOf scope (in_scope (Slot.function s) scope)
  aliases : (m : ℕ) (name : Text) (slot : Slot) → exported_slot name (slice_get scope.instances m) ≡ Some slot → StepOf scope (in_scope slot scope)
  sees_function : (direction : Direction) (name : ExternName) (n : ℕ) (f : Signature) → function_in (slice_get scope.slots n) ≡ Some f
      → StepOf scope (see direction (seen_under name (Shown.function f)) scope)
  sees_type : (name : ExternName) (described : ComponentTypeRef) (found : tree.TypeDeclaration × Slot) → named_type scope.slots Place.here name.text described ≡ Some found
      → StepOf scope (see import_ (seen_under name (Shown.declares found.0)) (in_scope found.1 scope))
  sees_instance : (direction : Direction) (name : ExternName) (n : ℕ) (key : Key) (view : View) → list_any (λ m. m == n) scope.used ≡ false
      → used_view scope.slots (instance_place (interface_of key)) (slice_get scope.slots n) ≡ Some view → StepOf scope (see direction (seen_instance name key view) (with_instance scope n key view))

described_step : (direction : Direction) (name : ExternName) (described : ComponentTypeRef) (scope next : Scope) → see_described direction name described scope ≡ Some next → StepOf scope next
described_step direction name (refs.Instance n) scope next e = grind (arith, bind_some, when_some, some_is, sees_instance, not-true)
described_step direction name (refs.Func n) scope next e = search (std_rules, bind_some, when_some, some_is, sees_function)
described_step import_ name described scope next e =
    let after : tree.TypeDeclaration × Slot → Scope = λ found. see import_ (seen_under name (Shown.declares found.0)) (in_scope found.1 scope) in
    let b = bind_some (named_type scope.slots Place.here name.text described) (λ found. provided (is_simple name) (after found)) next e in
    subst (StepOf scope) (some_is (after b.0) next (when_some (is_simple name) (Some (after b.0)) next b.2).1) (sees_type name described b.0 b.1)
described_step export_ name _ scope next e = absurd cc

pub step_of : (scope next : Scope) (d : Declaration) → component_step scope d ≡ Some next → StepOf scope next
step_of scope next x e = search (std_rules, bind_some, some_is, defines, signs, aliases, described_step)
