-- What stands in a declared form: its labels, and the trees of the parts of the kind.
use Rattle.std.proofs.Common.{rules as std_rules, ◌≡◌, refl, ◌∙◌, ℕ, Bool, true, false, not, ◌||◌, nat_le, max, List, [], ◌∷◌, ◌++◌, append-nil, map, Option, option_map, option_to_list}
use Rattle.std.proofs.lemmas.{Simd.map-map, Bool.and_from as both}
use Rattle.std.specs.{Prelude.filter_map, List.list_all, List.cons_option}
use Rattle.wit_model.specs.Text.{Text, text_of}
use Rattle.wit_model.specs.Tree.{Tree, Trees, Place, TypeDeclaration, type_, node, no_children, child, child_list, given_trees, levels, deepest}
use Rattle.wit_model.specs.{Types.declared_by, Types.tree_of, Types.tree_at, Parts.member_types, Parts.handled, Rules.kind_labels, Rules.is_named_kind}
use Rattle.wit_model.specs.declared.model.{Case.Case, TypeDefKind.TypeDefKind, «Type».«Type» as ValueType}
use Rattle.comp_meaning.specs.Rules.{is_part, are_parts, is_declared, is_named_form, form_labels, are_labels}
use Rattle.base_lemmas.proofs.Bools.{left_of as first_true, right_of as second_true}
use Rattle.wit_model.proofs.TreeLemmas.{child_list_of_children as listed}
use Rattle.wit_model.specs.declared.model.TypeDefKind.TheVariants as kind

abbrev pub child_trees : TypeDeclaration → List Tree
child_trees (type_ (node form ts)) = child_list ts
child_trees _ = []

abbrev pub declared_labels : TypeDeclaration → List Text
declared_labels (type_ (node form ts)) = form_labels form
declared_labels _ = []

-- a form that needs no name
abbrev pub is_unnamed_form : TypeDeclaration → Bool
is_unnamed_form (type_ (node form ts)) = not (is_named_form form)
is_unnamed_form _ = false

-- another name for a type
abbrev pub is_alias : TypeDefKind → Bool
is_alias (kind.Type_ t) = true
is_alias _ = false

-- what is given, listed
given-one : (f : ValueType → Tree) (o : Option ValueType) (os : List (Option Tree)) (ts : List ValueType) → child_list (given_trees os) ≡ map f ts
    → child_list (given_trees (option_map f o ∷ os)) ≡ map f (cons_option o ts)
given-one f x os ts e = search std_rules

cases-listed : (trees : List Tree) (cs : List Case)
    → child_list (given_trees (map (λ c. c.1) (map {B = Text × Option Tree} (λ c. (text_of c.name, option_map (tree_of trees) c.ty)) cs))) ≡ map (tree_of trees) (filter_map (λ c. c.ty) cs)
cases-listed trees [] = refl
cases-listed trees (c ∷ cs) = given-one (tree_of trees) c.ty _ _ (cases-listed trees cs)

-- The children are the trees of the members, and that of what a handle is of.
pub children-are : (trees : List Tree) (k : TypeDefKind) → is_alias k ≡ false
    → child_trees (declared_by trees k) ≡ map (tree_of trees) (member_types k) ++ map (tree_at trees) (option_to_list (handled k))
children-are trees y e = search (std_rules, listed, map-map, append-nil, cases-listed)

pub labels-are : (trees : List Tree) (k : TypeDefKind) → is_alias k ≡ false → declared_labels (declared_by trees k) ≡ kind_labels k
labels-are trees y e = search (std_rules, map-map)

pub form-unnamed : (trees : List Tree) (k : TypeDefKind) → (is_named_kind k || is_unnamed_form (declared_by trees k)) ≡ true
form-unnamed trees x = search std_rules

-- ---- tests of all children

pub parts-from : (place : Place) (ts : Trees) → list_all (is_part place) (child_list ts) ≡ true → are_parts place ts ≡ true
parts-from place no_children h = refl
parts-from place (child t ts) h = both (is_part place t) _ (first_true _ _ h) (parts-from place ts (second_true (is_part place t) _ h))

max-within : (a b n : ℕ) → nat_le a n ≡ true → nat_le b n ≡ true → nat_le (max a b) n ≡ true
max-within a b n h g = Rattle.wit_model.proofs.InOrder.max_within a b n ∙ both (nat_le a n) (nat_le b n) h g

pub deepest-from : (ts : Trees) → list_all (λ t. nat_le (levels t) 100) (child_list ts) ≡ true → nat_le (deepest ts) 100 ≡ true
deepest-from no_children h = refl
deepest-from (child t ts) h = max-within (levels t) (deepest ts) 100 (first_true _ _ h) (deepest-from ts (second_true (nat_le (levels t) 100) _ h))

-- A declared form may stand where its labels and its parts may.
pub declared-from : (place : Place) (d : TypeDeclaration) → are_labels (declared_labels d) ≡ true → list_all (is_part place) (child_trees d) ≡ true
    → list_all (λ t. nat_le (levels t) 100) (child_trees d) ≡ true → is_declared place d ≡ true
declared-from place x l p s = search (std_rules, both, parts-from, deepest-from)
