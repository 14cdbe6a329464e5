-- Interfaces that stand under one path in two values, and have one sense.
use Rattle.std.specs.Prelude.{◌≡◌, ◌⊎◌, ◌<◌, ◌+◌, ℕ, Bool, true, false, List, [], ◌∷◌, ◌++◌, map, length, slice_get, unwrap_or, Some, None, is_some, option_map, option_and_then}
use Rattle.std.specs.List.{Contains, list_all}
use Rattle.wit_model.specs.declared.model.{Resolve.Resolve, Interface.Interface, TypeDef.TypeDef, World.World, WorldKey.WorldKey, WorldItem.WorldItem}
use Rattle.wit_model.specs.Text.{Text, text_of, optional_text}
use Rattle.wit_model.specs.Lookup.{interface_at, world_at, interface_path, type_at, key_text}
use Rattle.wit_model.specs.{Uses.has, Uses.alias_target, Uses.item_interface, Valid.IsValid, Valid.as_interface, Valid.as_world}
use Rattle.wit_model.specs.Rules.{passes, package_number, interface_type_numbers, item_type, is_resource_itself}
use Rattle.wit_model.specs.{Meaning.interface_sense, Meaning.entry_sense, Meant.interface_meaning, Meant.entry_meaning}
use Rattle.bind_union.specs.Carried.{Renumbering, Rises, IsNamesake, IsType, IsInterface, KeyBecomes, EntryBecomes}
use Rattle.bind_union.specs.{Merged.BeginsWith, Merged.is_name, Merged.JoinedNames, Joined.is_new, Joined.ItemStandsFor, Joined.Joined}

abbrev pub type_names : Interface → List (Text × ℕ)
type_names i = map (λ e. (text_of e.0, e.1.0)) i.types.entries

-- An own interface has the path and the sense of the other's, and each type stands for the own one of its name.
pub record IsMatch (own other : Resolve) (interfaces types : ℕ → ℕ) (n : ℕ) : Type 0 where
  pub old : Interface
  pub found : interface_at other n ≡ Some old
  pub image : Interface
  pub at_image : interface_at own (interfaces n) ≡ Some image
  pub has_path : is_some (interface_path other n) ≡ true
  pub path : interface_path own (interfaces n) ≡ interface_path other n
  pub sense : interface_sense (interface_meaning own image) ≡ interface_sense (interface_meaning other old)
  pub by_name : (name : Text) (t : ℕ) → Contains (type_names old) (name, t) → Contains (type_names image) (name, types t)

-- Each interface of the other that has a path is matched, or there is no own one of its path.
abbrev pub AreMatched : Resolve → Resolve → (ℕ → ℕ) → (ℕ → ℕ) → Type 0
AreMatched own other interfaces types = (n : ℕ) → is_some (interface_path other n) ≡ true → IsMatch own other interfaces types n
    ⊎ ((m : ℕ) → interface_path own m ≡ interface_path other n → ⊥)

-- what a type of a matched interface and the own type of its name have in common
pub record AreNamesakes (own other : Resolve) (interfaces types : ℕ → ℕ) (n t : ℕ) : Type 0 where
  pub def : TypeDef
  pub found : type_at other t ≡ Some def
  pub image : TypeDef
  pub at_image : type_at own (types t) ≡ Some image
  pub named : is_some def.name ≡ true
  pub name : optional_text image.name ≡ optional_text def.name
  pub home : def.owner ≡ as_interface n
  pub image_home : image.owner ≡ as_interface (interfaces n)
  pub resource : is_resource_itself image.kind ≡ is_resource_itself def.kind
  pub alias : alias_target image.kind ≡ option_map types (alias_target def.kind)

-- Types of matched interfaces stand for each other: resources for resources, and aliases for aliases of what stands for their targets.
abbrev pub MatchesAreNamesakes : Type 0
MatchesAreNamesakes = (own other : Resolve) (interfaces types : ℕ → ℕ) → IsValid own → IsValid other → AreMatched own other interfaces types
    → (n : ℕ) (is : IsMatch own other interfaces types n) (t : ℕ) → has (interface_type_numbers is.old) t ≡ true → AreNamesakes own other interfaces types n t

-- And each type of the own one stands for one of the other's.
abbrev pub MatchesAreOnto : Type 0
MatchesAreOnto = (own other : Resolve) (interfaces types : ℕ → ℕ) → IsValid own → IsValid other → (n : ℕ) (is : IsMatch own other interfaces types n) (m : ℕ)
    → has (interface_type_numbers is.image) m ≡ true → (t : ℕ) × (has (interface_type_numbers is.old) t ≡ true) × (types t ≡ m)

-- ---- bound worlds

-- The two worlds don't clash in an import: what has one key has one sense. A type stands for the own one of its key, and so does an inline interface.
pub record WorldsAgree (own other : Resolve) (f : Renumbering) (bound other_bound : ℕ) : Type 0 where
  pub own_world : World
  pub own_at : world_at own bound ≡ Some own_world
  pub other_world : World
  pub other_at : world_at other other_bound ≡ Some other_world
  pub senses : (x e : WorldKey × WorldItem) → Contains own_world.imports.entries x → Contains other_world.imports.entries e
      → key_text own x.0 ≡ key_text other e.0 → entry_sense (entry_meaning own x.1) ≡ entry_sense (entry_meaning other e.1)
  pub types : (x e : WorldKey × WorldItem) → Contains own_world.imports.entries x → Contains other_world.imports.entries e
      → key_text own x.0 ≡ key_text other e.0 → (t u : ℕ) → item_type x.1 ≡ Some t → item_type e.1 ≡ Some u → f.types u ≡ t
  pub inline : (x e : WorldKey × WorldItem) → Contains own_world.imports.entries x → Contains other_world.imports.entries e
      → key_text own x.0 ≡ key_text other e.0 → (i j : ℕ) → item_interface x.1 ≡ Some i → item_interface e.1 ≡ Some j → interface_path other j ≡ None
      → f.interfaces j ≡ i

-- what two types of the bound worlds of one key have in common
pub record AreWorldNamesakes (own other : Resolve) (f : Renumbering) (bound other_bound t : ℕ) : Type 0 where
  pub def : TypeDef
  pub found : type_at other t ≡ Some def
  pub image : TypeDef
  pub at_image : type_at own (f.types t) ≡ Some image
  pub name : optional_text image.name ≡ optional_text def.name
  pub home : def.owner ≡ as_world other_bound
  pub image_home : image.owner ≡ as_world bound
  pub namesakes : IsNamesake f def image

-- An own import stands for the other's of its key, and types for types.
abbrev pub MetImportsStand : Type 0
MetImportsStand = (own other : Resolve) (f : Renumbering) (bound other_bound : ℕ) → IsValid own → IsValid other → AreMatched own other f.interfaces f.types
    → (is : WorldsAgree own other f bound other_bound) →
    (x e : WorldKey × WorldItem) → Contains is.own_world.imports.entries x → Contains is.other_world.imports.entries e → key_text own x.0 ≡ key_text other e.0 →
    ItemStandsFor f e.1 x.1 × ((t : ℕ) → item_type e.1 ≡ Some t
    → passes f.carries_type (option_and_then (λ def. alias_target def.kind) (type_at other t)) ≡ true → AreWorldNamesakes own other f bound other_bound t)

-- ---- what code has to give

-- A matched interface, found by name in the package of that number, stands in what begins with own lists, and so do its types:
-- nothing else of them has to be shown. Interfaces with a path are carried, and all types of what is carried.
abbrev pub MatchedStand : Type 0
MatchedStand = (own other merged : Resolve) (f : Renumbering) → IsValid own → IsValid other → BeginsWith own.types.items merged.types.items
    → BeginsWith own.interfaces.items merged.interfaces.items →
    AreMatched own other f.interfaces f.types →
    ((n : ℕ) → is_some (interface_path other n) ≡ true → f.carries_interface n ≡ true) →
    ((n : ℕ) (i : Interface) → f.carries_interface n ≡ true → interface_at other n ≡ Some i → list_all f.carries_type (interface_type_numbers i) ≡ true) →
    (n : ℕ) (is : IsMatch own other f.interfaces f.types n) → f.copies_interface n ≡ false → optional_text is.image.name ≡ optional_text is.old.name
    → package_number is.image.«package» ≡ option_map f.packages (package_number is.old.«package») →
    IsInterface other merged f n × ((t : ℕ) → has (interface_type_numbers is.old) t ≡ true → f.copies_type t ≡ false → IsType other merged f t)

-- numbers given to copies one behind the other from the first on, with the others as they are
abbrev pub numbers_of : ℕ → List Bool → List ℕ → List ℕ
numbers_of first [] others = []
numbers_of first (b ∷ bs) [] = []
numbers_of first (true ∷ bs) (n ∷ ns) = first ∷ numbers_of (first + 1) bs ns
numbers_of first (false ∷ bs) (n ∷ ns) = n ∷ numbers_of first bs ns

-- Such numbers rise, where the first is past those of all that is carried without a copy.
abbrev pub NumbersRise : Type 0
NumbersRise = (first : ℕ) (copies : List Bool) (others : List ℕ) (carries : ℕ → Bool) → length others ≡ length copies →
    ((n : ℕ) → carries n ≡ true → unwrap_or (slice_get copies n) false ≡ false → unwrap_or (slice_get (numbers_of first copies others) n) 0 < first) →
    Rises (λ n. unwrap_or (slice_get (numbers_of first copies others) n) 0) carries (λ n. unwrap_or (slice_get copies n) false)

-- Loops that go along entries, or along names, keep these at each step.
pub record StepsKeep : Type 0 where
  pub met : (f : Renumbering) (own olds news : List (WorldKey × WorldItem)) → Joined f own olds news → (old there : WorldKey × WorldItem) → Contains own there
      → KeyBecomes f old.0 there.0 → ItemStandsFor f old.1 there.1 → Joined f own (olds ++ old ∷ []) news
  pub added : (f : Renumbering) (own olds news : List (WorldKey × WorldItem)) → Joined f own olds news → (old new : WorldKey × WorldItem)
      → is_new f own old.0 ≡ true → EntryBecomes f old new → Joined f own (olds ++ old ∷ []) (news ++ new ∷ [])
  pub met_name : (number : ℕ → ℕ) (copies left_out : ℕ → Bool) (own olds news : List (Text × ℕ)) → JoinedNames number copies left_out own olds news
      → (name : Text) (old : ℕ) → Contains own (name, number old) → JoinedNames number copies left_out own (olds ++ (name, old) ∷ []) news
  pub left_name : (number : ℕ → ℕ) (copies left_out : ℕ → Bool) (own olds news : List (Text × ℕ)) → JoinedNames number copies left_out own olds news
      → (name : Text) (old : ℕ) → left_out old ≡ true → JoinedNames number copies left_out own (olds ++ (name, old) ∷ []) news
  pub added_name : (number : ℕ → ℕ) (copies left_out : ℕ → Bool) (own olds news : List (Text × ℕ)) → JoinedNames number copies left_out own olds news
      → (name : Text) (old : ℕ) → copies old ≡ true → left_out old ≡ false → is_name name own ≡ false
      → JoinedNames number copies left_out own (olds ++ (name, old) ∷ []) (news ++ (name, number old) ∷ [])
