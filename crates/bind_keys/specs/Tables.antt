-- Tables of encodings: keys that are cut at their last slash, and the texts before it, which are kept once and numbered.
use Rattle.std.specs.Prelude.{◌≡◌, ℕ, suc, false, if◌then◌else◌, List, [], ◌∷◌, length, map, slice_get, Option, None, Some, option_map, option_and_then, refl}
use Rattle.std.specs.Coded.{Coded, code_by, coded_ℕ, coded_list, coded×}
use Rattle.std.specs.{List.AllByRecursion, Map.keys_of, Option.unwrap_or}
use Rattle.wit_model.specs.declared.model.StringEncoding.{StringEncoding}
use Rattle.wit_model.specs.Text.{Text, text_eq, text_of}
use Rattle.bind_keys.specs.declared.table.{Front.Front, Key.Key}
use Rattle.bind_keys.specs.{Cuts.has_slash, Cuts.text_under, Encodings.Encodings, Encodings.encodings_code, Encodings.kept_encodings}

-- the texts before the last slashes of keys
abbrev pub Fronts : Type 0
Fronts = List Text

-- the number of a text: its first place
abbrev pub number_at : Fronts → Text → Option ℕ
number_at [] text = None
number_at (x ∷ fs) text = if text_eq text x then Some 0 else option_map suc (number_at fs text)

-- a text of which the number is known
abbrev pub Stands : Fronts → Front → Type 0
Stands fs front = number_at fs front.text.now ≡ Some front.number

-- Texts that have a number keep it.
abbrev pub Keeps : Fronts → Fronts → Type 0
Keeps old new = (text : Text) (n : ℕ) → number_at old text ≡ Some n → number_at new text ≡ Some n

-- the numbers of texts among others
abbrev pub numbers_among : Fronts → Fronts → List (Option ℕ)
numbers_among fs texts = map (λ text. number_at fs text) texts

-- ---- keys

-- what stands before the last slash: the text of a number, or the name again
abbrev pub front_text : Fronts → Option ℕ → Text → Text
front_text fs n name = unwrap_or (option_and_then (slice_get fs) n) name

-- a key as one text
abbrev pub whole : Fronts → Key → Text
whole fs key = text_under (front_text fs key.front (text_of key.name)) (text_of key.name)

-- A number is that of a text which is not the name again.
abbrev pub IsFront : Fronts → Option ℕ → Text → Type 0
IsFront fs None name = Unit {0}
IsFront fs (Some n) name = (text : Text) × (number_at fs text ≡ Some n) × (text_eq text name ≡ false)

-- the number of a text before a name, none where the text is the name
abbrev pub number_for : Text → ℕ → Text → Option ℕ
number_for text n name = if text_eq text name then None else Some n

-- A key whose name has no slash, under such a number or none. No other key of these texts is the same text.
abbrev pub IsProper : Fronts → Key → Type 0
IsProper fs key = (has_slash (text_of key.name) ≡ false) × IsFront fs key.front (text_of key.name)

-- ---- entries

abbrev pub KeyEntries : Type 0
KeyEntries = List (Key × StringEncoding)

abbrev pub IsTable : Fronts → KeyEntries → Type 0
IsTable fs es = AllByRecursion (IsProper fs) (keys_of es)

-- the entries under whole keys
abbrev pub whole_entries : Fronts → KeyEntries → List (Text × StringEncoding)
whole_entries fs es = map (λ e. (whole fs e.0, e.1)) es

-- a table: its texts, its encodings by whole keys, how many these are, and for how many more there is room
pub record TableValue : Type 0 where
  pub fronts : Fronts
  pub encodings : Encodings
  pub count : ℕ
  pub room : ℕ

abbrev pub the_table : Fronts → KeyEntries → ℕ → TableValue
the_table fs es room = record { fronts = fs; encodings = kept_encodings (whole_entries fs es); count = length es; room = room }

abbrev pub table_code : Coded TableValue
table_code =
    code_by ((Fronts × Encodings) × (ℕ × ℕ)) (coded× (coded× (coded_list (coded_list coded_ℕ)) encodings_code) (coded× coded_ℕ coded_ℕ))
    (λ t. ((t.fronts, t.encodings), (t.count, t.room))) (λ p. record { fronts = p.0.0; encodings = p.0.1; count = p.1.0; room = p.1.1 }) (λ _. refl)

-- a key under its new number, and entries under theirs
abbrev pub renumbered : List ℕ → Key → Key
renumbered numbers key = record { front = option_and_then (slice_get numbers) key.front; name = key.name }

abbrev pub all_renumbered : List ℕ → KeyEntries → KeyEntries
all_renumbered numbers es = map (λ e. (renumbered numbers e.0, e.1)) es
