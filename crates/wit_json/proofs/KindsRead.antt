-- What types are, told from their tokens.
use Rattle.std.proofs.Common.{◌≡◌, ◌∙◌, ap, ℕ, ◌<◌, ◌^◌, List, [], ◌∷◌, ◌++◌, map, append_assoc, refl, Option, Some, None, arith, codes, Bool, ◌||◌}
use Rattle.std.proofs.lemmas.Fmt.{decimal_is_IsNumeral}
use Rattle.std.specs.{Prelude.if◌then◌else◌, List.flat_map, List.AllByRecursion, Fmt.decimal, Str.Parse.digits_value}
use Rattle.json.specs.Token.{Token, begin_object, end_object, begin_array, end_array, key, string, number}
use Rattle.wit_model.specs.declared.model.{TypeDefKind.TypeDefKind, «Type».«Type» as ValueType}
use Rattle.wit_model.specs.Text.{Text, text_of, text_eq}
use Rattle.wit_json.specs.{Bare.BareKind, Bare.bare_kind, Bare.with_members, Bare.with_types, Small.IsSmall, Small.IsSmallKind, Small.IsSmallType}
use Rattle.wit_json.specs.Listed.{kind_tokens, name_object, type_or_null, type_token, typed_object}
use Rattle.wit_model.specs.declared.model.TypeDefKind.TheVariants as kind
use Rattle.wit_model.specs.declared.model.«Type».TheVariants as ty
use Rattle.wit_model.specs.declared.model.Handle.TheVariants as handle

-- ---- numbers and types

pub wide : {n : ℕ} → IsSmall n → n < 2 ^ 64
wide h = omega arith

pub number_told : (n : ℕ) → IsSmall n → digits_value 10 (decimal n) ≡ n
number_told n h = (decimal_is_IsNumeral n (wide h)).1

-- the type that a word is
pub read_word : Text → Option ValueType
read_word w =
    if text_eq w (codes "bool") then Some ty.Bool
    else if text_eq w (codes "u8") then Some ty.U8
    else if text_eq w (codes "u16") then Some ty.U16
    else if text_eq w (codes "u32") then Some ty.U32
    else if text_eq w (codes "u64") then Some ty.U64
    else if text_eq w (codes "s8") then Some ty.S8
    else if text_eq w (codes "s16") then Some ty.S16
    else if text_eq w (codes "s32") then Some ty.S32
    else if text_eq w (codes "s64") then Some ty.S64
    else if text_eq w (codes "f32") then Some ty.F32
    else if text_eq w (codes "f64") then Some ty.F64
    else if text_eq w (codes "char") then Some ty.Char
    else if text_eq w (codes "string") then Some ty.String
    else Some ty.ErrorContext

-- the type that a token is, and none of null
abbrev pub read_type : Token → Option ValueType
read_type (number s) = Some (ty.Id (record { 0 = digits_value 10 s }))
read_type (string w) = read_word w
read_type _ = None

pub type_told : (t : Option ValueType) → IsSmallType t → read_type (type_or_null t) ≡ t
unfolding type_token read_word
type_told (Some (ty.Id id)) h = ap (λ n. Some (ty.Id (record { 0 = n }))) (number_told id.0 h)
type_told _ h = refl

-- ---- members

-- the fields, flags or cases that come first, and what follows them
read_members : List Token → List (Text × Option ValueType) × List Token
read_members (begin_object ∷ key a ∷ string name ∷ end_object ∷ ts) = let r = read_members ts in ((name, None) ∷ r.0, r.1)
read_members (begin_object ∷ key a ∷ string name ∷ key b ∷ t ∷ end_object ∷ ts) = let r = read_members ts in ((name, read_type t) ∷ r.0, r.1)
read_members ts = ([], ts)

pushed : {A B : Type 0} (m n : A) (r : List A × B) (ms : List A) (b : B) → m ≡ n → r ≡ (ms, b) → ◌≡◌ {A = List A × B} (m ∷ r.0, r.1) (n ∷ ms, b)
pushed m n r ms b e h = ap (λ x. (x ∷ r.0, r.1)) e ∙ ap (λ (z : List _ × _). (n ∷ z.0, z.1)) h

module _ {A : Type 0} (name : A → Text) (s : List Token) where
  -- what has types
  typed_told : (t : A → Option ValueType) (xs : List A) → AllByRecursion (λ x. IsSmallType (t x)) xs
      → read_members (flat_map (λ x. typed_object (name x) (t x)) xs ++ end_array ∷ s) ≡ (map (λ x. (name x, t x)) xs, end_array ∷ s)
  unfolding read_members
  typed_told t [] h = refl
  typed_told t (x ∷ xs) h = pushed (name x, read_type (type_or_null (t x))) (name x, t x) _ _ _ (ap (λ u. (name x, u)) (type_told (t x) h.0)) (typed_told t xs h.1)

  -- what has names alone
  names_told : (xs : List A) → read_members (flat_map (λ x. name_object (name x)) xs ++ end_array ∷ s) ≡ (map (λ x. (name x, None)) xs, end_array ∷ s)
  unfolding read_members
  names_told [] = refl
  names_told (x ∷ xs) = pushed (name x, None) (name x, None) _ _ _ refl (names_told xs)

-- the types that come first, and what follows them
read_types : List Token → List (Option ValueType) × List Token
read_types (number n ∷ ts) = let r = read_types ts in (read_type (number n) ∷ r.0, r.1)
read_types (string w ∷ ts) = let r = read_types ts in (read_type (string w) ∷ r.0, r.1)
read_types ts = ([], ts)

-- a type is a word or a number
type_cases : (P : Token → Type 0) → ((w : Text) → P (string w)) → ((n : List ℕ) → P (number n)) → (t : ValueType) → P (type_token t)
unfolding type_token
type_cases P w n (ty.Id id) = n _
type_cases P w n _ = w _

type_first : (t : ValueType) (ts : List Token) (us : List (Option ValueType)) (vs : List Token) → IsSmallType (Some t) → read_types ts ≡ (us, vs) → read_types (type_token t ∷ ts) ≡ (Some t ∷ us, vs)
unfolding read_types
type_first t ts us vs h e = type_cases (λ u. read_type u ≡ Some t → read_types (u ∷ ts) ≡ (Some t ∷ us, vs)) (λ w k. pushed (read_type (string w)) (Some t) (read_types ts) us vs k e)
    (λ n k. pushed (read_type (number n)) (Some t) (read_types ts) us vs k e) t (type_told (Some t) h)

types_told : (xs : List ValueType) (s : List Token) → AllByRecursion (λ t. IsSmallType (Some t)) xs
    → read_types (flat_map (λ t. type_token t ∷ []) xs ++ end_array ∷ s) ≡ (map (λ t. Some t) xs, end_array ∷ s)
unfolding read_types
types_told [] s h = refl
types_told (x ∷ xs) s h = type_first x _ _ _ h.0 (types_told xs s h.1)

-- ---- kinds

behind : List Token → List Token
behind [] = []
behind (t ∷ ts) = ts

members_read : Text → List (Text × Option ValueType) × List Token → BareKind × List Token
members_read w r = (with_members w r.0, behind (behind (behind r.1)))

types_read : Text → List (Option ValueType) × List Token → BareKind × List Token
types_read w r = (with_types w r.0, behind (behind (behind r.1)))

list_read : Text → List Token → BareKind × List Token
list_read w (begin_object ∷ key i ∷ begin_array ∷ ts) = if text_eq w (codes "tuple") then types_read w (read_types ts) else members_read w (read_members ts)
list_read w ts = (with_members w [], ts)

handle_read : List Token → BareKind × List Token
handle_read (begin_object ∷ key i ∷ number n ∷ ts) = (record { word = i; members = []; types = []; numbers = digits_value 10 n ∷ [] }, behind (behind ts))
handle_read ts = (with_members [] [], ts)

sides_read : Text → List Token → BareKind × List Token
sides_read w (begin_object ∷ key a ∷ t ∷ key b ∷ u ∷ ts) = (with_types w (read_type t ∷ read_type u ∷ []), behind (behind ts))
sides_read w ts = (with_members [] [], ts)

pair_read : Text → List Token → BareKind × List Token
pair_read w (begin_array ∷ t ∷ u ∷ ts) = (with_types w (read_type t ∷ read_type u ∷ []), behind (behind ts))
pair_read w ts = (with_members [] [], ts)

length_read : Text → List Token → BareKind × List Token
length_read w (begin_array ∷ t ∷ number n ∷ ts) = (record { word = w; members = []; types = read_type t ∷ []; numbers = digits_value 10 n ∷ [] }, behind (behind ts))
length_read w ts = (with_members [] [], ts)

only_read : Text → List Token → BareKind × List Token
only_read w (t ∷ ts) = (with_types w (read_type t ∷ []), behind ts)
only_read w [] = (with_members [] [], [])

is_list_word : Text → Bool
is_list_word w = text_eq w (codes "record") || (text_eq w (codes "flags") || (text_eq w (codes "tuple") || (text_eq w (codes "variant") || text_eq w (codes "enum"))))

word_read : Text → List Token → BareKind × List Token
word_read w ts =
    if is_list_word w then list_read w ts
    else if text_eq w (codes "handle") then handle_read ts
    else if text_eq w (codes "result") then sides_read w ts
    else if text_eq w (codes "map") then pair_read w ts
    else if text_eq w (codes "fixed-length-list") then length_read w ts
    else only_read w ts

-- a kind that comes first, and what follows it
pub kind_read : List Token → BareKind × List Token
kind_read (string w ∷ ts) = (with_members w [], ts)
kind_read (begin_object ∷ key w ∷ ts) = word_read w ts
kind_read ts = (with_members [] [], ts)

computes : ℕ
unfolding kind_tokens bare_kind kind_read word_read is_list_word list_read handle_read sides_read pair_read length_read only_read members_read types_read behind
computes = 0

ended_members : (w : Text) (front s : List Token) (ms : List (Text × Option ValueType)) → ((u : List Token) → read_members (front ++ end_array ∷ u) ≡ (ms, end_array ∷ u))
    → members_read w (read_members ((front ++ end_array ∷ end_object ∷ end_object ∷ []) ++ s)) ≡ (with_members w ms, s)
unfolding computes
ended_members w front s ms h = ap (λ ts. members_read w (read_members ts)) (append_assoc front (end_array ∷ end_object ∷ end_object ∷ []) s) ∙ ap (members_read w) (h (end_object ∷ end_object ∷ s))

ended_types : (w : Text) (front s : List Token) (ts : List (Option ValueType)) → ((u : List Token) → read_types (front ++ end_array ∷ u) ≡ (ts, end_array ∷ u))
    → types_read w (read_types ((front ++ end_array ∷ end_object ∷ end_object ∷ []) ++ s)) ≡ (with_types w ts, s)
unfolding computes
ended_types w front s us h = ap (λ ts. types_read w (read_types ts)) (append_assoc front (end_array ∷ end_object ∷ end_object ∷ []) s) ∙ ap (types_read w) (h (end_object ∷ end_object ∷ s))

one_type : (w : Text) (t : Option ValueType) (s : List Token) → IsSmallType t → ◌≡◌ {A = BareKind × List Token} (with_types w (read_type (type_or_null t) ∷ []), s) (with_types w (t ∷ []), s)
one_type w t s h = ap (λ u. (with_types w (u ∷ []), s)) (type_told t h)

two_types : (w : Text) (t u : Option ValueType) (s : List Token) → IsSmallType t → IsSmallType u
    → ◌≡◌ {A = BareKind × List Token} (with_types w (read_type (type_or_null t) ∷ read_type (type_or_null u) ∷ []), s) (with_types w (t ∷ u ∷ []), s)
two_types w t u s h k = ap (λ x. (with_types w (x ∷ read_type (type_or_null u) ∷ []), s)) (type_told t h) ∙ ap (λ x. (with_types w (t ∷ x ∷ []), s)) (type_told u k)

pub kind_told : (k : TypeDefKind) (s : List Token) → IsSmallKind k → kind_read (kind_tokens k ++ s) ≡ (bare_kind k, s)
unfolding computes
kind_told (kind.Record record_) s h = ended_members (codes "record") (flat_map (λ f. typed_object (text_of f.name) (Some f.ty)) record_.fields.items) s _
    (λ u. typed_told (λ f. text_of f.name) u (λ f. Some f.ty) record_.fields.items h)
kind_told kind.Resource s h = refl
kind_told (kind.Handle (handle.Own id)) s h = ap (λ n. (record { word = codes "own"; members = []; types = []; numbers = n ∷ [] }, s)) (number_told id.0 h)
kind_told (kind.Handle (handle.Borrow id)) s h = ap (λ n. (record { word = codes "borrow"; members = []; types = []; numbers = n ∷ [] }, s)) (number_told id.0 h)
kind_told (kind.Flags flags) s h = ended_members (codes "flags") (flat_map (λ f. name_object (text_of f.name)) flags.flags.items) s _ (λ u. names_told (λ f. text_of f.name) u flags.flags.items)
kind_told (kind.Tuple tuple) s h = ended_types (codes "tuple") (flat_map (λ t. type_token t ∷ []) tuple.types.items) s _ (λ u. types_told tuple.types.items u h)
kind_told (kind.Variant variant) s h = ended_members (codes "variant") (flat_map (λ c. typed_object (text_of c.name) c.ty) variant.cases.items) s _
    (λ u. typed_told (λ c. text_of c.name) u (λ c. c.ty) variant.cases.items h)
kind_told (kind.Enum enum) s h = ended_members (codes "enum") (flat_map (λ c. name_object (text_of c.name)) enum.cases.items) s _ (λ u. names_told (λ c. text_of c.name) u enum.cases.items)
kind_told (kind.Option t) s h = one_type (codes "option") (Some t) s h
kind_told (kind.Result result) s h = two_types (codes "result") result.ok result.err s h.0 h.1
kind_told (kind.List t) s h = one_type (codes "list") (Some t) s h
kind_told (kind.Map k v) s h = two_types (codes "map") (Some k) (Some v) s h.0 h.1
kind_told (kind.FixedLengthList t n) s h =
    ap (λ u. (record { word = codes "fixed-length-list"; members = []; types = u ∷ []; numbers = digits_value 10 (decimal n) ∷ [] }, s)) (type_told (Some t) h.0)
    ∙ ap (λ m. (record { word = codes "fixed-length-list"; members = []; types = Some t ∷ []; numbers = m ∷ [] }, s)) (number_told n h.1)
kind_told (kind.Future t) s h = one_type (codes "future") t s h
kind_told (kind.Stream t) s h = one_type (codes "stream") t s h
kind_told (kind.Type_ t) s h = one_type (codes "type") (Some t) s h
