-- Types of a scope, as they are made one by one. Serves members::add_used, scope::make, scope::make_all, scope::make_used.
use Rattle.std.proofs.Common.{◌≡◌, ◌∙◌, sym, ap, subst, ℕ, List, [], ◌∷◌, None, Some, slice_get, Result, Ok, Err, IfOk, String, Global}
use Rattle.wit_model.specs.Text.{Text, text_of}
use Rattle.std.specs.{Option.option_map_or, Str.Lines.lines}
use Rattle.wit_model.specs.declared.model.{Docs.Docs, TypeDef.TypeDef, TypeId.TypeId}
use Rattle.print_items.specs.Shown.{shown_docs}
use Rattle.wit_model.specs.declared.model.TypeDefKind.TheVariants as defined
use Rattle.wit_model.specs.declared.model.«Type».TheVariants as value
use Rattle.print_grammar.specs.Tree.{Prefix, Declared, PathTree, UsedName, MemberTree, MemberTree.UseMember, MemberTree.TypeMember}
use Rattle.text_names.specs.declared.sources.Sources.{Sources}
use Rattle.text_types.specs.declared.{members.Interfaces.Interfaces, scope.Scope.Scope}
use Rattle.text_types.specs.{Declares.declared_name, Declares.with_docs, Declares.DeclaredAt, Declares.NamedAt, Plain.plain_declared}
use Rattle.text_types.specs.Made.{name_here, IsOfPlace, TypeIs}
use Rattle.text_types.specs.Making.{IsTypeOf, UsesType}
use Rattle.text_types.specs.Targets.{TargetIn}

-- ---- types of used names

pub nothing_shown : (docs : Docs) → docs.contents ≡ None → shown_docs docs ≡ []
nothing_shown docs none = ap (λ c. option_map_or (λ contents. lines (text_of contents)) c []) none

module _ {E : Type 0} (s : Sources) (interfaces : Interfaces) (defs : List TypeDef) (scope : Scope) (prefix : Prefix) (path : PathTree) (used : UsedName) where
  -- one is added, whose target is what the path and the name mean
  pub use_added : {name : Text} {target : TypeId} (docs : Docs) (r : Result TypeId E) → docs.contents ≡ None
      → IfOk r (NamedAt defs scope.owner (with_docs (shown_docs docs) prefix) name (defined.Type_ (value.Id target)))
      → name ≡ name_here used → TargetIn s interfaces scope.«package» path used.other target → IfOk r (UsesType s interfaces defs scope prefix path used)
  use_added {name = own} {target = target} docs (Ok id) none there same means = record {
    target = target;
    there = subst (λ name. NamedAt defs scope.owner (with_docs [] prefix) name (defined.Type_ (value.Id target)) id) same
        (subst (λ lines. NamedAt defs scope.owner (with_docs lines prefix) own (defined.Type_ (value.Id target)) id) (nothing_shown docs none) there);
    means = means;
  }
  use_added docs (Err x) none there same means = tt

  -- it is placed under its name
  pub use_made : {name : Text} {id : TypeId} (r : Result (String Global × TypeId) E) → IfOk r (λ entry. text_of entry.0 ≡ name) → IfOk r (λ entry. entry.1 ≡ id)
      → name ≡ name_here used → UsesType s interfaces defs scope prefix path used id
      → IfOk r (IsTypeOf s interfaces defs scope (UseMember prefix path (used ∷ [])))
  use_made (Ok entry) named number same uses =
      subst (λ i. IsTypeOf s interfaces defs scope (UseMember prefix path (used ∷ [])) (entry.0, i)) (sym number)
      (TypeIs.a_use (named ∙ same) uses.there uses.means)
  use_made (Err x) named number same uses = tt

-- ---- declared types

pub declaration_made : {E : Type 0} (s : Sources) (interfaces : Interfaces) (defs : List TypeDef) (scope : Scope) (prefix : Prefix) (declared : Declared)
    (members : List MemberTree) (place : ℕ) (r : Result (String Global × TypeId) E) → IfOk r (λ entry. text_of entry.0 ≡ declared_name declared)
    → IfOk r (λ entry. DeclaredAt defs scope.owner prefix (plain_declared declared) entry.1) → slice_get members place ≡ Some (TypeMember prefix declared)
    → IfOk r (IsOfPlace (IsTypeOf s interfaces defs scope) members place)
declaration_made s interfaces defs scope prefix declared members place (Ok entry) named stands there = record {
  x = TypeMember prefix declared;
  there = there;
  is = TypeIs.a_declaration named stands;
}
declaration_made s interfaces defs scope prefix declared members place (Err x) named stands there = tt
