-- What is kept of each type of a table beside its shape, so that its parts need not be looked at again.
use Rattle.std.specs.Prelude.{◌≡◌, ◌≢◌, ℕ, ◌+◌, ◌-◌, min, max, Bool, true, false, not, ◌&&◌, ◌==◌, nat_lt, if◌then◌else◌, List, [], ◌∷◌, ◌++◌, length, Some, slice_get, unwrap_or}
use Rattle.std.specs.List.{Contains}
use Rattle.wit_model.specs.{Text.Text, Tree.Place, Tree.Tree, Tree.Trees, Tree.children, Tree.deepest}
use Rattle.comp_meaning.specs.Rules.{is_named_form, form_labels, are_labels}
use Rattle.read_follow.specs.declared.facts.{Fact.Fact, Names.Names, Summary.Summary}
use Rattle.plan_meaning.specs.Shapes.{Shape, part_tree, shape_trees, IsTable}
use Rattle.wit_model.specs.Tree as tree
use Rattle.read_follow.specs.declared.facts.Names.TheVariants as names

-- ---- of a tree

-- the places of the names in it, from left to right
abbrev mutual
  pub places : Tree → List Place
  places (Tree.primitive p) = []
  places (Tree.named place name) = place ∷ []
  places (Tree.node form ts) = places_in ts

  pub places_in : Trees → List Place
  places_in Trees.no_children = []
  places_in (Trees.child t ts) = places t ++ places_in ts

-- no form in it is one that only a named type has
abbrev mutual
  pub is_plain : Tree → Bool
  is_plain (Tree.primitive p) = true
  is_plain (Tree.named place name) = true
  is_plain (Tree.node form ts) = not (is_named_form form) && are_plain ts

  pub are_plain : Trees → Bool
  are_plain Trees.no_children = true
  are_plain (Trees.child t ts) = is_plain t && are_plain ts

-- its parts
abbrev pub below : Tree → Trees
below (Tree.node form ts) = ts
below _ = Trees.no_children

-- the labels of its form
abbrev pub labels_of : Tree → List Text
labels_of (Tree.node form ts) = form_labels form
labels_of _ = []

-- the most levels that are counted
abbrev pub cap : ℕ
cap = 102

-- ---- what a fact says

-- Whichever place each number stands for: no name, names of one place alone, or names of the places of two numbers.
abbrev pub AreOf : Names → ((ℕ → Place) → List Place) → Type 0
AreOf names.Nowhere met = (place : ℕ → Place) → met place ≡ []
AreOf (names.In p) met = (place : ℕ → Place) → Contains (met place) (place p) × ((q : Place) → Contains (met place) q → q ≡ place p)
AreOf names.InSeveral met = (p : ℕ) × (q : ℕ) × (p ≢ q) × ((place : ℕ → Place) → Contains (met place) (place p) × Contains (met place) (place q))

-- The fact is about the tree, whichever place each number stands for.
pub record Tells (f : Fact) (stands : (ℕ → Place) → Tree) : Type 0 where
  pub levels : (place : ℕ → Place) → f.levels ≡ min cap (tree.levels (stands place))
  pub names : AreOf f.names (λ place. places (stands place))
  pub plain : (place : ℕ → Place) → f.is_plain ≡ is_plain (stands place)
  pub parts : (place : ℕ → Place) → f.has_plain_parts ≡ are_plain (below (stands place))
  pub labels : (place : ℕ → Place) → f.has_good_labels ≡ are_labels (labels_of (stands place))

-- each fact is about the type of its number
abbrev pub FactsHold : List Fact → ((ℕ → Place) → List Tree) → Type 0
FactsHold facts trees = (n : ℕ) (f : Fact) → slice_get facts n ≡ Some f → Tells f (λ place. part_tree (trees place) (14 + n))

-- ---- several types together

abbrev pub joined : Names → Names → Names
joined names.Nowhere b = b
joined names.InSeveral b = names.InSeveral
joined (names.In p) names.Nowhere = names.In p
joined (names.In p) names.InSeveral = names.InSeveral
joined (names.In p) (names.In q) = if p == q then names.In p else names.InSeveral

abbrev pub with_fact : Summary → Fact → Summary
with_fact s f = record { levels = max s.levels f.levels; names = joined s.names f.names; is_plain = s.is_plain && f.is_plain }

-- what the parts are together
pub record Sums (s : Summary) (parts : (ℕ → Place) → List Tree) : Type 0 where
  pub levels : (place : ℕ → Place) → s.levels ≡ min cap (deepest (children (parts place)))
  pub names : AreOf s.names (λ place. places_in (children (parts place)))
  pub plain : (place : ℕ → Place) → s.is_plain ≡ are_plain (children (parts place))

-- ---- the fact of a part

abbrev pub primitive_fact : Fact
primitive_fact = record { levels = 0; names = names.Nowhere; is_plain = true; has_plain_parts = true; has_good_labels = true }

abbrev pub fact_at : List Fact → ℕ → Fact
fact_at facts part = if nat_lt part 14 then primitive_fact else unwrap_or (slice_get facts (part - 14)) primitive_fact

-- a form that only a named type has, by its number
abbrev pub is_named_sort : ℕ → Bool
is_named_sort sort = if sort == 1 then true else if sort == 2 then true else if sort == 10 then true else if sort == 11 then true else false

-- the fact of a name in the place of this number
abbrev pub name_fact : ℕ → Fact
name_fact p = record { levels = 0; names = names.In p; is_plain = true; has_plain_parts = true; has_good_labels = true }

-- the fact of a form of this number, over parts
abbrev pub node_fact : Summary → ℕ → Bool → Fact
node_fact s sort good =
    record {
      levels = min cap (s.levels + 1);
      names = s.names;
      is_plain = s.is_plain && not (is_named_sort sort);
      has_plain_parts = s.is_plain;
      has_good_labels = good;
    }

-- what a table keeps: the shapes, and a fact for each
pub record IsKept (shapes : List Shape) (facts : List Fact) : Type 0 where
  pub table : IsTable shapes
  pub many : length facts ≡ length shapes
  pub hold : FactsHold facts (λ place. shape_trees place shapes)
