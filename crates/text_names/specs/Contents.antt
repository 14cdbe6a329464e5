-- What texts declare: packages, and the items of each, in the order of the texts.
use Rattle.std.specs.Prelude.{◌≡◌, ◌<◌, ℕ, Bool, true, false, List, [], ◌∷◌, ◌++◌, map, Some, slice_get, Contains}
use Rattle.std.specs.List.{enumerate_from, flat_map}
use Rattle.std.specs.Option.{option_map_or}
use Rattle.wit_model.specs.Text.{Text}
use Rattle.print_grammar.specs.Tree.{ItemTree, ItemTree.InterfaceItem, ItemTree.WorldItem, PackageHead}
use Rattle.text_plain.specs.declared.files.{ItemTree.ItemTree as CodeItem, PackageTree.PackageTree as CodePackage}
use Rattle.text_trees.specs.declared.tree.Span.{Span}
use Rattle.text_plain.specs.declared.files.ItemTree.TheVariants as kinds
use Rattle.text_plain.specs.FilesSeen.{item_of}
use Rattle.text_trees.specs.TreesSeen.{head_of}
use Rattle.text_names.specs.declared.error.Fault.{Fault}
use Rattle.text_names.specs.declared.error.Fault.TheVariants.{Memory, Size, Refused, Broken}
use Rattle.text_names.specs.declared.error.{Refused.Refused as Refusal}
use Rattle.text_names.specs.declared.error.Why.TheVariants.{Twice}
use Rattle.text_names.specs.declared.source.Source.{Source}

-- the text of this number
abbrev pub text_at : List Source → ℕ → Text
text_at texts n = option_map_or (λ s. s.text.now) (slice_get texts n) []

-- an item, with the number of its text, its package, and where its name stands
pub record Item : Type 0 where
  pub text : ℕ
  pub home : PackageHead
  pub at : Span
  pub tree : ItemTree

-- an item's name
abbrev pub name_of : ItemTree → Text
name_of (InterfaceItem docs gates name members) = name
name_of (WorldItem docs gates name members) = name

-- whether an item is an interface
abbrev pub is_interface : Item → Bool
is_interface item = interface item.tree
  where
    interface : ItemTree → Bool
    interface (InterfaceItem docs gates name members) = true
    interface (WorldItem docs gates name members) = false

-- where an item's name stands
abbrev pub place_of : CodeItem → Span
place_of (kinds.InterfaceItem docs gates name members) = name
place_of (kinds.WorldItem docs gates name members) = name

-- an item of a package
abbrev pub item_in : ℕ → Text → PackageHead → CodeItem → Item
item_in n text home item = record { text = n; home = home; at = place_of item; tree = item_of text item }

-- the items of a package
abbrev pub items_in : ℕ → Text → CodePackage → List Item
items_in n text it = map (item_in n text (head_of text it.head)) it.items.items

-- the packages of a text: the one that it begins with, and the nested ones
abbrev pub packages_in : Source → List CodePackage
packages_in source = source.file.now.main ∷ source.file.now.nested.items

-- what names the packages of a text
abbrev pub heads_in : Source → List PackageHead
heads_in source = map (λ it. head_of source.text.now it.head) (packages_in source)

-- what names the package that a text begins with
abbrev pub main_of : Source → PackageHead
main_of source = head_of source.text.now source.file.now.main.head

-- the items of a text
abbrev pub items_of : ℕ → Source → List Item
items_of n source = flat_map (items_in n source.text.now) (packages_in source)

-- what names the packages of texts
abbrev pub all_heads : List Source → List PackageHead
all_heads texts = flat_map heads_in texts

-- the items of texts
abbrev pub all_items : List Source → List Item
all_items texts = flat_map (λ x. items_of x.0 x.1) (enumerate_from 0 texts)

-- the packages that texts begin with
abbrev pub all_mains : List Source → List PackageHead
all_mains texts = map main_of texts

-- Of what was seen, each once, in the order in which they came first.
pub data AreFirsts {X : Type 0} : List X → List X → Type 0 where
  no_more : AreFirsts [] []
  known : (seen firsts : List X) (x : X) → AreFirsts seen firsts → Contains firsts x → AreFirsts (seen ++ x ∷ []) firsts
  comes : (seen firsts : List X) (x : X) → AreFirsts seen firsts → (Contains firsts x → ⊥) → AreFirsts (seen ++ x ∷ []) (firsts ++ x ∷ [])

-- No two items of one package have the same name.
abbrev pub AreNamedApart : List Item → Type 0
AreNamedApart items =
    (j k : ℕ) (a b : Item) → slice_get items j ≡ Some a → slice_get items k ≡ Some b → a.home ≡ b.home → name_of a.tree ≡ name_of b.tree → j ≡ k

-- The name at the place of the refusal is that of an earlier item of the same package.
pub record IsTwice (items : List Item) (refusal : Refusal) : Type 0 where
  pub first : ℕ
  pub second : ℕ
  pub before : first < second
  pub one : Item
  pub other : Item
  pub one_stands : slice_get items first ≡ Some one
  pub other_stands : slice_get items second ≡ Some other
  pub home : one.home ≡ other.home
  pub name : name_of one.tree ≡ name_of other.tree
  pub text : refusal.text ≡ other.text
  pub at : refusal.at ≡ other.at
  pub why : refusal.why ≡ Twice

-- It is want of memory; or there are too many of something; or a name stands twice in a package.
abbrev pub IsFaultOf : List Item → Fault → Type 0
IsFaultOf items Memory = Unit {0}
IsFaultOf items Size = Unit {0}
IsFaultOf items (Refused refusal) = IsTwice items refusal
IsFaultOf items (Broken rule list number) = ⊥
