-- What is put among the imports, or the exports, of a world: interfaces by path, each behind those that it needs.
use Rattle.std.specs.Prelude.{◌≡◌, ◌<◌, ◌&&◌, ◌||◌, not, Bool, true, false, ℕ, nat_eq, List, [], ◌∷◌, ◌++◌, length, Contains}
use Rattle.std.specs.Prelude.{Option, Some, None, is_some, slice_get, unwrap_or}
use Rattle.std.specs.{Borrow.Bor, Option.option_and_then}
use Rattle.indexmap.specs.IndexMap.{get}
use Rattle.text_names.specs.Orders.{links_of}
use Rattle.text_trees.specs.declared.tree.Prefix.{Prefix}
use Rattle.wit_model.specs.declared.model.WorldItem.{WorldItem}
use Rattle.wit_text.specs.Items.{WorldEntry, path_key, has_path, bare_item, IsStated}
use Rattle.wit_text.specs.declared.shown.Walk.{Walk}
use Rattle.text_plain.specs.Orders.{Needs}

-- an interface of the texts, by its number among those that are made
abbrev pub number_at : List (Option ℕ) → ℕ → ℕ
number_at numbers n = unwrap_or (option_and_then (λ made. made) (slice_get numbers n)) 0

-- what needs what
abbrev pub links : Walk → List (List ℕ)
links walk = links_of walk.needs.now

-- whether a walk goes on to this interface where it is needed
abbrev pub goes_to : Walk → ℕ → Bool
goes_to walk n = not (is_some (get nat_eq walk.away.now n)) && (not walk.stated_alone || is_some (get nat_eq walk.mine.now n))

-- whether an interface of the texts stands among entries by its path
abbrev pub stands : Walk → List WorldEntry → ℕ → Bool
stands walk es n = has_path es (number_at walk.numbers.now n)

-- what stands in front of an interface, as an item of this number: bare where nothing does
abbrev pub IsFrontedBy : List ℕ → Option (Bor Prefix) → ℕ → WorldItem → Type 0
IsFrontedBy text (Some prefix) n item = IsStated text prefix.now n item
IsFrontedBy text None n item = item ≡ bare_item n

-- the same by the text of a walk
abbrev pub IsFronted : Walk → Option (Bor Prefix) → ℕ → WorldItem → Type 0
IsFronted walk prefix n item = IsFrontedBy walk.text.text.now prefix n item

-- The texts have an interface of this number.
abbrev pub IsDeclared : Walk → ℕ → Type 0
IsDeclared walk n = n < length walk.sources.now.interfaces.items

-- From one of the first, this interface is reached through needs that the walk goes to.
pub data Reaches (walk : Walk) (firsts : List ℕ) : ℕ → Type 0 where
  is_first : (n : ℕ) → Contains firsts n → Reaches walk firsts n
  goes_on : (n m : ℕ) → Reaches walk firsts n → Needs (links walk) n m → goes_to walk m ≡ true → Reaches walk firsts m

-- What the interface needs, and the walk goes to, stands among the entries.
abbrev pub NeedsStand : Walk → List WorldEntry → ℕ → Type 0
NeedsStand walk es n = (m : ℕ) → Needs (links walk) n m → goes_to walk m ≡ true → stands walk es m ≡ true

-- An interface that is reached may be put behind these entries, as this item.
pub record MayFollow (walk : Walk) (firsts : List ℕ) (es : List WorldEntry) (n : ℕ) (item : WorldItem) : Type 0 where
  pub reached : Reaches walk firsts n
  pub declared : IsDeclared walk n
  pub fronted : IsFronted walk (get nat_eq walk.mine.now n) (number_at walk.numbers.now n) item
  pub new : stands walk es n ≡ false
  pub behind : NeedsStand walk es n

-- Entries grow at their end alone, by paths of interfaces that are reached, each new, as it is stated, and behind those that it needs.
pub data Puts (walk : Walk) (firsts : List ℕ) : List WorldEntry → List WorldEntry → Type 0 where
  nothing : (es : List WorldEntry) → Puts walk firsts es es
  and_one : (es fs : List WorldEntry) (n : ℕ) (item : WorldItem) → Puts walk firsts es fs → MayFollow walk firsts fs n item
      → Puts walk firsts es (fs ++ (path_key (number_at walk.numbers.now n), item) ∷ [])

-- So they grow, and the first stand there at the end.
pub record PutsAll (walk : Walk) (firsts : List ℕ) (old new : List WorldEntry) : Type 0 where
  pub puts : Puts walk firsts old new
  pub there : (n : ℕ) → Contains firsts n → stands walk new n ≡ true
