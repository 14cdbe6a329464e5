-- What a command line gives, word by word.
use Rattle.std.specs.Prelude.{◌≡◌, ℕ, Bool, true, false, ◌||◌, not, nat_eq, nat_lt, List, [], ◌∷◌, ◌++◌, codes, length, map, Option, Some, None, option_map, if◌then◌else◌}
use Rattle.std.specs.{Borrow.Bor, List.before_first, List.after_first, List.position_or_len}
use Rattle.teasel_words.specs.Choices.{color_named, encoding_named, kind_named, size_named}
use Rattle.teasel_words.specs.Table.{Text, is_same}
use Rattle.teasel_words.specs.declared.asked.{Asked.Asked}
use Rattle.teasel_words.specs.declared.choices.{Color.Color, Encoding.Encoding, Kind.Kind}
use Rattle.teasel_words.specs.declared.choices.Color.TheVariants as colors
use Rattle.teasel_words.specs.declared.choices.Encoding.TheVariants as encodings
use Rattle.teasel_words.specs.declared.table.{Opt.Opt, Word.Word}
use Rattle.teasel_words.specs.declared.table.Opt.TheVariants as options

-- What is asked for: a word, its files and the values of its options.
pub record Given : Type 0 where
  pub word_ : Word
  pub help : Bool
  pub files : List Text
  pub output : Option Text
  pub worlds : List Text
  pub encoding : Encoding
  pub kind : Option Kind
  pub json : Bool
  pub quiet : Bool
  pub force : Bool
  pub color : Color
  pub most : ℕ
  pub most_read : ℕ
  pub plain : Bool

-- texts that are borrowed
abbrev pub texts_of : List (Bor Text) → List Text
texts_of ts = map (λ t. t.now) ts

-- a text that is borrowed, where there is one
abbrev pub text_if : Option (Bor Text) → Option Text
text_if t = option_map (λ t. t.now) t

-- what the code's value says
abbrev pub given_of : Asked → Given
given_of a = record {
  word_ = a.word;
  help = a.help;
  files = texts_of a.files.items;
  output = text_if a.output;
  worlds = texts_of a.worlds.items;
  encoding = a.encoding;
  kind = a.kind;
  json = a.json;
  quiet = a.quiet;
  force = a.force;
  color = a.color;
  most = a.most;
  most_read = a.most_read;
  plain = a.plain;
}

-- a word without files and options: text of 256 MiB at most, of files of 1 GiB at most
abbrev pub fresh : Word → Given
fresh w = record {
  word_ = w;
  help = false;
  files = [];
  output = None;
  worlds = [];
  encoding = encodings.Utf8;
  kind = None;
  json = false;
  quiet = false;
  force = false;
  color = colors.Auto;
  most = 268435456;
  most_read = 1073741824;
  plain = false;
}

-- ---- the parts of a word

abbrev pub is_equals : ℕ → Bool
is_equals c = nat_eq c 61

-- whether a word has a `=`
abbrev pub has_equals : Text → Bool
has_equals t = nat_lt (position_or_len is_equals t) (length t)

-- what stands behind a beginning, where a text has it
abbrev pub behind : Text → Text → Option Text
behind [] t = Some t
behind (c ∷ cs) [] = None
behind (c ∷ cs) (d ∷ ds) = if nat_eq c d then behind cs ds else None

-- a value that is joined to a short name, as in `-oFILE`: it isn't empty, and no `=` is in front of it
abbrev pub joined_value : Option Text → Option Text
joined_value None = None
joined_value (Some []) = None
joined_value (Some (c ∷ cs)) = if is_equals c then None else Some (c ∷ cs)

-- the name of an option and its value: what is joined to `-o` or to `-w`; else what stands in front of the first `=`, and behind it
abbrev pub parts_by : Option Text → Option Text → Text → Text × Option Text
parts_by (Some file) world t = (codes "-o", Some file)
parts_by None (Some world) t = (codes "-w", Some world)
parts_by None None t = if has_equals t then (before_first is_equals t, Some (after_first is_equals t)) else (t, None)

-- a word as the name of an option
unfoldable pub name_part : Text → Text
name_part t = (parts_by (joined_value (behind (codes "-o") t)) (joined_value (behind (codes "-w") t)) t).0

-- the value that it has in the same word
unfoldable pub value_part : Text → Option Text
value_part t = (parts_by (joined_value (behind (codes "-o") t)) (joined_value (behind (codes "-w") t)) t).1

-- whether a dash is the first byte
abbrev pub begins_with_dash : Text → Bool
begins_with_dash [] = false
begins_with_dash (c ∷ cs) = nat_eq c 45

-- whether a word is a file, and no option: `-` is standard input
unfoldable pub is_file : Text → Bool
is_file t = is_same t (codes "-") || not (begins_with_dash t)

-- ---- options

-- what an option without a value changes
abbrev pub set_flag : Opt → Given → Given
set_flag options.Json g = record g { json = true }
set_flag options.Quiet g = record g { quiet = true }
set_flag options.Force g = record g { force = true }
set_flag options.Help g = record g { help = true }
set_flag _ g = g

-- what a value of an option changes, if it is one of its values
abbrev pub set_value : Opt → Text → Given → Option Given
set_value options.Output t g = Some (record g { output = Some t })
set_value options.World t g = Some (record g { worlds = g.worlds ++ t ∷ [] })
set_value options.Encoding t g = option_map (λ e. record g { encoding = e }) (encoding_named t)
set_value options.As t g = option_map (λ k. record g { kind = Some k }) (kind_named t)
set_value options.Color t g = option_map (λ c. record g { color = c }) (color_named t)
set_value options.Most t g = option_map (λ n. record g { most = n }) (size_named t)
set_value options.MostRead t g = option_map (λ n. record g { most_read = n }) (size_named t)
set_value _ t g = None

-- an option is set, and this is given then; or it isn't
abbrev pub IsSet : Option Given → Bool → Given → Type 0
IsSet (Some g) is_set new = (is_set ≡ true) × (new ≡ g)
IsSet None is_set new = is_set ≡ false

-- a value is put in the place, where there is one
abbrev pub IsPut : {A : Type 0} → Option A → A → A → Bool → Type 0
IsPut (Some a) old new is_put = (is_put ≡ true) × (new ≡ a)
IsPut None old new is_put = (is_put ≡ false) × (new ≡ old)

-- the same of a place that may be empty
abbrev pub IsPutSome : {A : Type 0} → Option A → Option A → Option A → Bool → Type 0
IsPutSome (Some a) old new is_put = (is_put ≡ true) × (new ≡ Some a)
IsPutSome None old new is_put = (is_put ≡ false) × (new ≡ old)
