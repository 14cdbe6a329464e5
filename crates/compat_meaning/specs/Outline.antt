-- What a kind is beside the types in it, in four parts that the code compares one by one.
use Rattle.std.specs.Prelude.{◌≡◌, ℕ, ◌+◌, ◌<◌, ◌==◌, Bool, List, [], ◌∷◌, map, Option, Some, None, option_map, length}
use Rattle.std.specs.{Borrow.Bor, Map.lookup, Option.option_or}
use Rattle.wit_model.specs.declared.model.{Resolve.Resolve, Interface.Interface, TypeDef.TypeDef, InterfaceId.InterfaceId}
use Rattle.wit_model.specs.Text.{Text, text_of}
use Rattle.wit_model.specs.Tree.{Form, record_of, variant_of, list_of, fixed_list_of, option_of, own_of, borrow_of, map_of, tuple_of, flags_of, enum_of, result_of, future_of, stream_of}
use Rattle.compat_meaning.specs.declared.{kinds.Sort.Sort, names.Names.Names}
use Rattle.compat_meaning.specs.{Numbered.AreNumbers, Opened.interface_name}
use Rattle.wit_model.specs.declared.model.TypeOwner.TheVariants as owner
use Rattle.compat_meaning.specs.declared.kinds.Sort.TheVariants as sort

abbrev pub sort_of : Option Form → Sort
sort_of None = sort.Named
sort_of (Some (record_of ls)) = sort.Record
sort_of (Some (variant_of cs)) = sort.Variant
sort_of (Some list_of) = sort.List
sort_of (Some (fixed_list_of n)) = sort.FixedLengthList
sort_of (Some option_of) = sort.Option
sort_of (Some own_of) = sort.Own
sort_of (Some borrow_of) = sort.Borrow
sort_of (Some map_of) = sort.Map
sort_of (Some tuple_of) = sort.Tuple
sort_of (Some (flags_of ls)) = sort.Flags
sort_of (Some (enum_of ls)) = sort.Enum
sort_of (Some (result_of a b)) = sort.Result
sort_of (Some (future_of a)) = sort.Future
sort_of (Some (stream_of a)) = sort.Stream

-- the labels
abbrev pub labels_of : Option Form → List Text
labels_of (Some (record_of ls)) = ls
labels_of (Some (variant_of cs)) = map (λ c. c.0) cs
labels_of (Some (flags_of ls)) = ls
labels_of (Some (enum_of ls)) = ls
labels_of _ = []

-- which of the parts that may be left out are there
abbrev pub given_of : Option Form → List Bool
given_of (Some (variant_of cs)) = map (λ c. c.1) cs
given_of (Some (result_of a b)) = a ∷ b ∷ []
given_of (Some (future_of a)) = a ∷ []
given_of (Some (stream_of a)) = a ∷ []
given_of _ = []

-- the length of a list that has a fixed one
abbrev pub count_of : Option Form → ℕ
count_of (Some (fixed_list_of n)) = n
count_of _ = 0

-- ---- the names of interfaces

-- the label that a table has for an interface's number
abbrev pub label_noted : ℕ → List (ℕ × Bor Text) → Option Text
label_noted n es = option_map (λ s. s.now) (lookup (λ k. n == k) es)

-- the new table has the labels of the old one, and for other numbers these
abbrev pub NotesMore : List (ℕ × Bor Text) → List (ℕ × Bor Text) → (ℕ → Option Text) → Type 0
NotesMore old new more = (n : ℕ) → label_noted n new ≡ option_or (label_noted n old) (more n)

abbrev pub names_from : Resolve → ℕ → List Interface → List Text
names_from r n [] = []
names_from r n (i ∷ is) = interface_name r n ∷ names_from r (n + 1) is

abbrev pub interface_names : Resolve → List Text
interface_names r = names_from r 0 r.interfaces.items

-- what interfaces are called, and a number for each text
pub record AreNames (r : Resolve) (names : Names) : Type 0 where
  pub texts : map text_of names.texts.items ≡ interface_names r
  pub numbers : AreNumbers (interface_names r) names.numbers

-- the interface that owns a type is in range
abbrev pub OwnerInRange : Resolve → TypeDef → Type 0
OwnerInRange r def = (id : InterfaceId) → def.owner ≡ owner.Interface id → id.0 < length r.interfaces.items
