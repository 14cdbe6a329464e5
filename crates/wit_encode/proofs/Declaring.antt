-- What a declaration of a place is followed as, where its name is exported or imported.
use Rattle.std.proofs.Common.{◌≡◌, refl, sym, ap, ◌∙◌, ℕ, true, not, List, Option, Some, slice_get}
use Rattle.std.specs.List.{list_all}
use Rattle.wit_model.specs.{Text.Text, Tree.named, Meaning.TypeMeaning}
use Rattle.comp_bytes.specs.{Raw.ExternName, Reading.◌>>=◌}
use Rattle.comp_bytes.specs.declared.forms.ComponentTypeRef.{ComponentTypeRef}
use Rattle.comp_meaning.specs.Follow.{Slot, declared_by_slot, named_like, named_type}
use Rattle.encode_types.specs.{Slots.tree, Scope.Scope, Scope.DeclaresSlot, Scope.DeclaresResource}
use Rattle.encode_types.specs.{Resources.is_resource_tree, Resources.is_resource_declaration, Standing.SlotsStand, Standing.is_slot_of, Standing.standing_at}
use Rattle.wit_encode.proofs.Strict.{bind, slot-at}
use Rattle.wit_model.specs.Tree as tree_of_types
use Rattle.comp_bytes.specs.declared.forms.ComponentTypeRef.TheVariants as refs

-- The slot of the name, in a place with these slots.
pub record DeclaredAs (scope : Scope) (slots : List Slot) (name : ExternName) (described : ComponentTypeRef) (d : Text × TypeMeaning) : Type 0 where
  pub slot : Slot
  pub found : named_type slots scope.place name.text described ≡ Some (d.1.declaration, slot)
  pub kept : is_slot_of scope.resources slot ≡ true
  pub stands : standing_at (Some slot) ≡ Some (tree (named scope.place name.text))

module _ (scope : Scope) (slots : List Slot) (sound : list_all (is_slot_of scope.resources) slots ≡ true) (name : ExternName) where
  pub declared-slot : (k : ℕ) (s : DeclaresSlot scope (SlotsStand slots) name k) → DeclaredAs scope slots name (refs.TypeEq k) s.declaration
  declared-slot k s = go (slice_get slots k) refl s.stands
    where
      alike : scope.resources scope.place name.text ≡ is_resource_tree scope.resources s.type_tree
      alike = ap (λ (n : ExternName). scope.resources scope.place n.text) s.named_ ∙ s.declared.alike ∙ ap (is_resource_declaration scope.resources) s.is_type

      found : (x y : Slot) → slice_get slots k ≡ Some x → declared_by_slot x ≡ Some (tree_of_types.type_ s.type_tree) → named_like x scope.place name.text ≡ y
          → named_type slots scope.place name.text (refs.TypeEq k) ≡ Some (s.declaration.1.declaration, y)
      found x y at by like = bind (slice_get slots k) x (λ slot. declared_by_slot slot >>= λ d. Some (d, named_like slot scope.place name.text)) at
          ∙ bind (declared_by_slot x) (tree_of_types.type_ s.type_tree) (λ d. Some (d, named_like x scope.place name.text)) by ∙ (λ j. Some (sym s.is_type j, like j))

      go : (o : Option Slot) → slice_get slots k ≡ o → standing_at o ≡ Some (tree s.type_tree) → DeclaredAs scope slots name (refs.TypeEq k) s.declaration
      go (Some (Slot.value u)) at q =
          let same : u ≡ s.type_tree = cc in
          record {
            slot = Slot.value (named scope.place name.text);
            found = found (Slot.value u) (Slot.value (named scope.place name.text)) at (ap (λ z. Some (tree_of_types.type_ z)) same) refl;
            kept = ap not (alike ∙ ap (is_resource_tree scope.resources) (sym same)) ∙ slot-at (is_slot_of scope.resources) slots k (Slot.value u) sound at;
            stands = refl;
          }
      go (Some (Slot.resource p n)) at q =
          let same : named p n ≡ s.type_tree = cc in
          record {
            slot = Slot.resource scope.place name.text;
            found = found (Slot.resource p n) (Slot.resource scope.place name.text) at (ap (λ z. Some (tree_of_types.type_ z)) same) refl;
            kept = alike ∙ ap (is_resource_tree scope.resources) (sym same) ∙ slot-at (is_slot_of scope.resources) slots k (Slot.resource p n) sound at;
            stands = refl;
          }
      go (Some (Slot.function x)) at q = absurd cc
      go _ at q = absurd cc

  pub declared-resource : (s : DeclaresResource scope name) → DeclaredAs scope slots name refs.SubResource s.declaration
  declared-resource s =
      let kept = ap (λ (n : ExternName). scope.resources scope.place n.text) s.named_ ∙ s.declared.alike ∙ ap (is_resource_declaration scope.resources) s.is_resource in
      record { slot = Slot.resource scope.place name.text; found = λ j. Some (sym s.is_resource j, Slot.resource scope.place name.text); kept = kept; stands = refl }
