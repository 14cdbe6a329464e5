-- A type of the place, from what fits the scope.
use Rattle.std.proofs.Common.{rules as std_rules, ◌≡◌, sym, subst, ℕ, true, false, Some, None}
use Rattle.std.specs.Prelude.{String}
use Rattle.std.specs.declared.alloc.Global.{Global}
use Rattle.wit_model.specs.{Text.Text, Text.text_of, Types.number_tree, Types.trees_of, Types.tree_of_definition, Tree.Place, Tree.named, Lookup.place_of, Meaning.TypeMeaning, Meant.type_meaning}
use Rattle.wit_model.specs.declared.model.{Resolve.Resolve, TypeDef.TypeDef, TypeDefKind.TypeDefKind, TypeId.TypeId, «Type».«Type» as ValueType}
use Rattle.comp_bytes.specs.Raw.{ExternName}
use Rattle.encode_types.specs.{Kinds.has_definition, Plan.foreign_owner, Scope.Scope, Scope.IsDeclared, Scope.DeclaresResource, Scope.exported_name}
use Rattle.encode_types.specs.Fits.{FitsScope}
use Rattle.wit_model.specs.declared.model.TypeDefKind.TheVariants as kind
use Rattle.wit_model.specs.declared.model.«Type».TheVariants as ty

pub own-definition : (k : TypeDefKind) → (k ≡ kind.Resource → ⊥) → ((t : ValueType) → k ≡ kind.Type_ t → ⊥) → has_definition k ≡ true
own-definition x n m = search std_rules

-- a kind without a definition that is no resource is another name of a number
pub another-name : (k : TypeDefKind) → (k ≡ kind.Resource → ⊥) → has_definition k ≡ false → (id : TypeId) × (k ≡ kind.Type_ (ty.Id id))
another-name x n h = search std_rules

-- a name with an external id and no other attribute
pub exported-as : (n : ExternName) (t : Text) (m : TypeMeaning) → n.text ≡ t → n.implements ≡ None → n.version_suffix ≡ None → n.external_id ≡ m.external_id → n ≡ exported_name (t, m)
exported-as n t m a b c d = λ i. record { text = a i; implements = b i; version_suffix = c i; external_id = d i }

pub named-tree : (r : Resolve) (place : Place) (n : ℕ) (def : TypeDef) (label : String Global) (t : Text) → number_tree r n ≡ tree_of_definition r (trees_of r) def → def.name ≡ Some label
    → place_of r def.owner ≡ place → t ≡ text_of label → number_tree r n ≡ named place t
named-tree r place n def label t same is p e = search std_rules

pub declared-here : (r : Resolve) (scope : Scope) (n : ℕ) (def : TypeDef) (label : String Global) (t : Text) → FitsScope r scope n def → foreign_owner scope.own_interface def.owner ≡ None
    → def.name ≡ Some label → t ≡ text_of label → IsDeclared scope (t, type_meaning r def)
declared-here r scope n def label t f own is e = subst (λ (x : Text). IsDeclared scope (x, type_meaning r def)) (sym e) (f.declared own label is)

pub resource-here : (r : Resolve) (scope : Scope) (def : TypeDef) (name : ExternName) → def.kind ≡ kind.Resource → IsDeclared scope (name.text, type_meaning r def)
    → name ≡ exported_name (name.text, type_meaning r def) → DeclaresResource scope name
resource-here r scope def name k d e = search std_rules
