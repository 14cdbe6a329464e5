-- What the status of each call, its bytes and its numbers say, of the bytes and names handed in.
use Rattle.std.specs.Prelude.{◌≡◌, ◌<◌, ◌≤◌, ◌&&◌, ◌++◌, ℕ, nat_eq, nat_lt, Bool, if◌then◌else◌, List, [], codes, length, true, false, Option, Some, None, Result, Ok, Err, Vec, String}
use Rattle.std.specs.{Fmt.decimal, Str.is_utf8}
use Rattle.std.specs.declared.alloc.Global.{Global}
use Rattle.wit_model.specs.declared.{error.Error.Error, error.Error.TheVariants.Size, model.StringEncoding.StringEncoding}
use Rattle.wit_component.specs.{Bound.RefusesBindings, Reached.OutgrowsLists}
use Rattle.witc_refusals.specs.{Messages.message_of, Numbers.nowhere, Numbers.plain_why, Numbers.why_of}
use Rattle.witc_refusals.specs.declared.why.Why.{Why}
use Rattle.witc_texts.specs.Worlds.{ComparesBytes, RefusesCompared}
use Rattle.witc_alike.specs.{Carried.HasNumber, Kinds.AreKinds, Kinds.IsUnknown, Likeness.ComparesTwo, Likeness.RefusesTwo}
use Rattle.witc_written.specs.Carried.{AttachesWorld, EmbedsWorld, HasNoWorld, RefusesAttached, RefusesEmbedded}
use Rattle.witc_within.specs.declared.texts.Within.{Within}
use Rattle.witc_ffi.specs.Outcomes.{IsNoLack, IsOutcome, IsRefusal}
use Rattle.witc_ffi.specs.declared.outcome.Outcome.{Outcome}
use Rattle.wit_model.specs.declared.error.Error.TheVariants as errors
use Rattle.wit_model.specs.declared.model.StringEncoding.TheVariants as encodings
use Rattle.witc_texts.specs.declared.comparison.Compared.TheVariants as compared
use Rattle.witc_alike.specs.declared.likeness.Alike.TheVariants as alike
use Rattle.witc_within.specs.declared.texts.Within.TheVariants as within

-- A call is done, with bytes of which this is true. Or it is refused with an error of which that is true, and the bytes are its message. Or an
-- argument is bad, with this text and these numbers. Or memory ran out, and there are no bytes.
pub data Answers (Done : List ℕ → Type 0) (Refused : Error → Type 0) (Bad : List ℕ → Why → Type 0) : ℕ → List ℕ → Why → Type 0 where
  done : (text : List ℕ) → Done text → Answers Done Refused Bad 0 text (plain_why 0)
  refused : (e : Error) → Refused e → IsNoLack e → Answers Done Refused Bad 1 (message_of e) (why_of e)
  bad : (text : List ℕ) (why : Why) → Bad text why → Answers Done Refused Bad 2 text why
  lacking : Answers Done Refused Bad 3 [] (plain_why 1)

-- the same of an outcome
abbrev pub Tells : (List ℕ → Type 0) → (Error → Type 0) → (List ℕ → Why → Type 0) → Outcome → Type 0
Tells Done Refused Bad o = Answers Done Refused Bad o.status o.text.items o.why

-- no argument of the call can be bad
abbrev pub NeverBad : List ℕ → Why → Type 0
NeverBad text why = ⊥

-- A module, or its bindings, are refused, for size only where a list would get too long.
abbrev pub RefusesBound : List ℕ → Error → Type 0
RefusesBound bytes e = RefusesBindings bytes e × (e ≡ Size → OutgrowsLists bytes)

-- both names are UTF-8
abbrev pub AreTexts : List ℕ → List ℕ → Type 0
AreTexts prev next = (is_utf8 prev && is_utf8 next) ≡ true

abbrev pub no_such_world : List ℕ → List ℕ
no_such_world name = codes "the package has no world of the name " ++ name

-- the numbers where a world of this name isn't there
abbrev pub world_why : List ℕ → Why
world_why name = record { offset = nowhere; subject = length name; code = 17; detail = 0 }

abbrev pub not_utf8 : List ℕ
not_utf8 = codes "the name of a world isn't UTF-8"

-- the outcome of bytes, or of a world of this name that isn't there, or of a refusal
abbrev pub IsOutcomeIfThere : List ℕ → Result (Option (Vec ℕ Global)) Error → Outcome → Type 0
IsOutcomeIfThere name (Ok (Some text)) o = IsOutcome 0 text.items (plain_why 0) o
IsOutcomeIfThere name (Ok None) o = IsOutcome 2 (no_such_world name) (world_why name) o
IsOutcomeIfThere name (Err e) o = IsRefusal e o

-- The names are UTF-8, and the second world may take the place of the first. There are no bytes.
pub record IsCompatible (bytes prev next text : List ℕ) : Type 0 where
  pub none : text ≡ []
  pub texts : AreTexts prev next
  pub compares : ComparesBytes bytes prev next compared.Compatible

-- The names are UTF-8, and the bytes, or the worlds, are refused.
pub record RefusesWorlds (bytes prev next : List ℕ) (e : Error) : Type 0 where
  pub texts : AreTexts prev next
  pub refuses : RefusesCompared bytes prev next e

-- A world isn't there, the first before the second; or a name isn't UTF-8, whatever the bytes are.
pub data LacksWorld (bytes prev next : List ℕ) : List ℕ → Why → Type 0 where
  no_prev : AreTexts prev next → ComparesBytes bytes prev next compared.NoPrev → LacksWorld bytes prev next (no_such_world prev) (world_why prev)
  no_next : AreTexts prev next → ComparesBytes bytes prev next compared.NoNew → LacksWorld bytes prev next (no_such_world next) (world_why next)
  no_names : (is_utf8 prev && is_utf8 next) ≡ false → LacksWorld bytes prev next not_utf8 (plain_why 18)

-- ---- one name and a string encoding

-- a flag of C: any number but 0
abbrev pub is_asked : ℕ → Bool
is_asked n = nat_lt 0 n

-- the string encoding of a number
abbrev pub encoding_of : ℕ → Option StringEncoding
encoding_of n = if nat_eq n 0 then Some encodings.UTF8 else
    (if nat_eq n 1 then Some encodings.UTF16 else (if nat_eq n 2 then Some encodings.CompactUTF16 else None))

abbrev pub no_encoding : List ℕ
no_encoding = codes "no string encoding has this number: 0 is UTF-8, 1 is UTF-16, and 2 is Latin-1 with UTF-16"

-- A name isn't UTF-8, or no string encoding has the number; or, where neither is so, the package has no world of this name.
pub data LacksPart (bytes name : List ℕ) (encoding : ℕ) : List ℕ → Why → Type 0 where
  no_name : is_utf8 name ≡ false → LacksPart bytes name encoding not_utf8 (plain_why 18)
  no_number : is_utf8 name ≡ true → encoding_of encoding ≡ None → LacksPart bytes name encoding no_encoding (plain_why 19)
  no_world : is_utf8 name ≡ true → (e : StringEncoding) → encoding_of encoding ≡ Some e → HasNoWorld bytes name
      → LacksPart bytes name encoding (no_such_world name) (world_why name)

-- The name is UTF-8, the number is of a string encoding, and these are the data of a section that carries the package's world of this name.
pub record IsEmbedded (bytes name : List ℕ) (encoding : ℕ) (canonical : Bool) (text : List ℕ) : Type 0 where
  pub is_text : is_utf8 name ≡ true
  pub said : StringEncoding
  pub is : encoding_of encoding ≡ Some said
  pub embeds : EmbedsWorld bytes name said canonical text

-- The same, and these are the module with that section.
pub record IsAttached (module_ bytes name : List ℕ) (encoding : ℕ) (canonical : Bool) (text : List ℕ) : Type 0 where
  pub is_text : is_utf8 name ≡ true
  pub said : StringEncoding
  pub is : encoding_of encoding ≡ Some said
  pub attaches : AttachesWorld module_ bytes name said canonical text

-- The name is UTF-8, the number is of a string encoding, and the bytes, or the package's world of this name, are refused.
pub record RefusesEmbeddedIn (bytes name : List ℕ) (encoding : ℕ) (canonical : Bool) (e : Error) : Type 0 where
  pub is_text : is_utf8 name ≡ true
  pub said : StringEncoding
  pub is : encoding_of encoding ≡ Some said
  pub refuses : RefusesEmbedded bytes name canonical e

-- The same; or what would come of the module is refused.
pub record RefusesAttachedTo (module_ bytes name : List ℕ) (encoding : ℕ) (canonical : Bool) (e : Error) : Type 0 where
  pub is_text : is_utf8 name ≡ true
  pub said : StringEncoding
  pub is : encoding_of encoding ≡ Some said
  pub refuses : RefusesAttached module_ bytes name said canonical e

-- what an outcome tells of a package, a name and the number of an encoding
abbrev pub TellsEmbedded : List ℕ → List ℕ → ℕ → Bool → Outcome → Type 0
TellsEmbedded bytes name encoding canonical = Tells (IsEmbedded bytes name encoding canonical) (RefusesEmbeddedIn bytes name encoding canonical)
    (LacksPart bytes name encoding)

-- and of a module beside them
abbrev pub TellsAttached : List ℕ → List ℕ → List ℕ → ℕ → Bool → Outcome → Type 0
TellsAttached module_ bytes name encoding canonical =
    Tells (IsAttached module_ bytes name encoding canonical) (RefusesAttachedTo module_ bytes name encoding canonical) (LacksPart bytes name encoding)

-- what is answered of a world that is embedded
abbrev pub AnswersEmbedded : List ℕ → List ℕ → ℕ → ℕ → ℕ → List ℕ → Why → Type 0
AnswersEmbedded bytes name encoding canonical =
    Answers (IsEmbedded bytes name encoding (is_asked canonical)) (RefusesEmbeddedIn bytes name encoding (is_asked canonical)) (LacksPart bytes name encoding)

-- what is answered of a module to which a world is attached
abbrev pub AnswersAttached : List ℕ → List ℕ → List ℕ → ℕ → ℕ → ℕ → List ℕ → Why → Type 0
AnswersAttached module_ bytes name encoding canonical =
    Answers (IsAttached module_ bytes name encoding (is_asked canonical)) (RefusesAttachedTo module_ bytes name encoding (is_asked canonical))
    (LacksPart bytes name encoding)

-- ---- the sections of a module

abbrev pub no_section : List ℕ
no_section = codes "the module has no section of this number that carries a world"

-- The data of the section of this number.
pub record IsSection (bytes : List ℕ) (n : ℕ) (text : List ℕ) : Type 0 where
  pub data_ : Vec ℕ Global
  pub is : data_.items ≡ text
  pub has : HasNumber bytes n (Some data_)

-- The module has fewer such sections.
pub data LacksSection (bytes : List ℕ) (n : ℕ) : List ℕ → Why → Type 0 where
  fewer : HasNumber bytes n None → LacksSection bytes n no_section (plain_why 20)

-- ---- texts up to a bound

abbrev pub too_long : ℕ → List ℕ
too_long most = codes "the text is longer than " ++ (decimal most ++ codes " bytes")

-- the outcome of a text that has at most so many bytes, or of one that has more, or of a refusal
abbrev pub IsOutcomeWithin : ℕ → Result Within Error → Outcome → Type 0
IsOutcomeWithin most (Ok (within.Text text)) o = IsOutcome 0 text.items (plain_why 0) o
IsOutcomeWithin most (Ok within.Beyond) o = IsOutcome 1 (too_long most) (plain_why 21) o
IsOutcomeWithin most (Err e) o = IsRefusal e o

-- A call is done, with a text of which this is true, whole, and which has at most so many bytes. Or there is such a text, and it has more. Or the call is
-- refused with an error of which that is true, or memory ran out.
pub data AnswersWithin (Is : List ℕ → Type 0) (Refused : Error → Type 0) (most : ℕ) (status : ℕ) (text : List ℕ) (why : Why) : Type 0 where
  within_bound : Answers (λ whole. Is whole × (length whole ≤ most)) Refused NeverBad status text why → AnswersWithin Is Refused most status text why
  beyond : (whole : List ℕ) → Is whole → most < length whole → status ≡ 1 → text ≡ too_long most → why ≡ plain_why 21
      → AnswersWithin Is Refused most status text why

-- ---- two packages

-- The names are UTF-8, and the two worlds have one sense. There are no bytes.
pub record AreAlike (bytes name other other_name text : List ℕ) : Type 0 where
  pub none : text ≡ []
  pub texts : AreTexts name other_name
  pub compares : ComparesTwo bytes name other other_name alike.Same

-- The names are UTF-8, and the bytes are refused; or the worlds differ in sense, and the first one's name is told.
pub data RefusesAlike (bytes name other other_name : List ℕ) : Error → Type 0 where
  refused_alike : (e : Error) → AreTexts name other_name → RefusesTwo bytes name other e → RefusesAlike bytes name other other_name e
  differ : (told : String Global) → told.bytes.items ≡ name → AreTexts name other_name → ComparesTwo bytes name other other_name alike.Other
      → RefusesAlike bytes name other other_name (errors.Differs told)

-- A world isn't there, the first before the second; or a name isn't UTF-8, whatever the bytes are.
pub data LacksEither (bytes name other other_name : List ℕ) : List ℕ → Why → Type 0 where
  no_first : AreTexts name other_name → ComparesTwo bytes name other other_name alike.NoFirst
      → LacksEither bytes name other other_name (no_such_world name) (world_why name)
  no_second : AreTexts name other_name → ComparesTwo bytes name other other_name alike.NoSecond
      → LacksEither bytes name other other_name (no_such_world other_name) (world_why other_name)
  no_texts : (is_utf8 name && is_utf8 other_name) ≡ false → LacksEither bytes name other other_name not_utf8 (plain_why 18)

-- what comes of two names of worlds of a package
abbrev pub TellsCompared : List ℕ → List ℕ → List ℕ → Outcome → Type 0
TellsCompared bytes prev next = Tells (IsCompatible bytes prev next) (RefusesWorlds bytes prev next) (LacksWorld bytes prev next)

-- what is answered of them
abbrev pub AnswersCompared : List ℕ → List ℕ → List ℕ → ℕ → List ℕ → Why → Type 0
AnswersCompared bytes prev next = Answers (IsCompatible bytes prev next) (RefusesWorlds bytes prev next) (LacksWorld bytes prev next)

-- what comes of two packages and a name of a world of each
abbrev pub TellsAlike : List ℕ → List ℕ → List ℕ → List ℕ → Outcome → Type 0
TellsAlike bytes name other other_name =
    Tells (AreAlike bytes name other other_name) (RefusesAlike bytes name other other_name) (LacksEither bytes name other other_name)

-- what is answered of them
abbrev pub AnswersAlike : List ℕ → List ℕ → List ℕ → List ℕ → ℕ → List ℕ → Why → Type 0
AnswersAlike bytes name other other_name =
    Answers (AreAlike bytes name other other_name) (RefusesAlike bytes name other other_name) (LacksEither bytes name other other_name)

-- What the bytes are; or 128, where memory ran out or a list would get too long.
pub data KindsAnswers (bytes : List ℕ) : ℕ → Type 0 where
  kinds : (sum : ℕ) → AreKinds bytes sum → KindsAnswers bytes sum
  unknown : (e : Error) → IsUnknown bytes e → KindsAnswers bytes 128
