-- Equal lists are those of equal kinds, and of equal keys of functions.
use Rattle.std.proofs.Common.{◌≡◌, refl, sym, subst, ap, ◌∙◌, ℕ, suc, ◌+◌, ◌-◌, Bool, true, false, List, [], ◌∷◌, ◌++◌, map, cond, length, get_or, Option, arith, rules, nat_eq}
use Rattle.std.proofs.lemmas.{Bool.eq-eqb, Bool.and_from as both}
use Rattle.std.specs.{List.Contains, Option.option_eq, Cmp.Lexicographic.pointwise}
use mathlib.Core.Bool.{beq, true≢false}
use Rattle.wit_model.specs.{Text.Text, Text.text_of, Text.text_eq, Rules.is_named_kind}
use Rattle.wit_model.specs.declared.model.{Param.Param, TypeDefKind.TypeDefKind, «Type».«Type» as ValueType}
use Rattle.encode_types.specs.declared.key.FunctionKey.{FunctionKey}
use Rattle.encode_types.specs.{Key.same_type, Key.same_param, Key.same_key, Maps.same_kind, CodeLaws.EqualKinds, CodeLaws.EqualKeys}
use Rattle.encode_types.specs.KeyLaws.{type_equiv, text_same}
use Rattle.encode_types.specs.Codes.{type_code, optional_code, kind_code, Names, IsTable, AreListed, async_code, IsKeyList}
use Rattle.encode_types.proofs.KindLaws.{same_types, optional_same, told_alike, clash}
use Rattle.base_lemmas.proofs.{Bools.left_of as first_true, Bools.right_of as second_true, Lists.heads_equal as head-same, Lists.tails_equal as tail-same}
use Rattle.wit_model.proofs.TextLemmas.{text_alike as text-refl}
use Rattle.wit_model.specs.declared.model.TypeDefKind.TheVariants as kind
use Rattle.wit_model.specs.declared.model.Handle.TheVariants as handle
use Rattle.wit_model.specs.declared.model.«Type».TheVariants as ty

-- ---- types

abbrev primitives : List ValueType
primitives = ty.Bool ∷ ty.U8 ∷ ty.U16 ∷ ty.U32 ∷ ty.U64 ∷ ty.S8 ∷ ty.S16 ∷ ty.S32 ∷ ty.S64 ∷ ty.F32 ∷ ty.F64 ∷ ty.Char ∷ ty.String ∷ ty.ErrorContext ∷ []

abbrev type_at_code : ℕ → ValueType
type_at_code n = get_or primitives n (ty.Id (record { 0 = n - 14 }))

code-back : (t : ValueType) → type_at_code (type_code t) ≡ t
code-back x = search rules

pub type-of-code : (a b : ValueType) → type_code a ≡ type_code b → a ≡ b
type-of-code a b e = sym (code-back a) ∙ ap type_at_code e ∙ code-back b

same-refl : (a b : ValueType) → a ≡ b → same_type a b ≡ true
same-refl a b e = subst (λ x. same_type a x ≡ true) e (type_equiv.refl a)

types-of-codes : (xs ys : List ValueType) → map type_code xs ≡ map type_code ys → pointwise same_type xs ys ≡ true
types-of-codes [] [] e = refl
types-of-codes [] (y ∷ ys) e = absurd (let z : ⊥ = cc in z)
types-of-codes (x ∷ xs) [] e = absurd (let z : ⊥ = cc in z)
types-of-codes (x ∷ xs) (y ∷ ys) e = both _ _ (same-refl x y (type-of-code x y (head-same _ _ _ _ e))) (types-of-codes xs ys (tail-same _ _ _ _ e))

-- what follows an optional part is known from the whole
optional-of-code : (a b : Option ValueType) (xs ys : List ℕ) → optional_code a ++ xs ≡ optional_code b ++ ys → (option_eq same_type a b ≡ true) × (xs ≡ ys)
optional-of-code x y xs ys e = search rules

optional-alone : (a b : Option ValueType) → optional_code a ≡ optional_code b → option_eq same_type a b ≡ true
optional-alone x y e = search rules

-- ---- kinds

one-number : (n m a b : ℕ) (xs ys : List ℕ) → n ∷ a ∷ xs ≡ m ∷ b ∷ ys → a ≡ b
one-number n m a b xs ys e = head-same _ _ _ _ (tail-same _ _ _ _ e)

two-numbers : (n m a b c d : ℕ) (xs ys : List ℕ) → n ∷ a ∷ c ∷ xs ≡ m ∷ b ∷ d ∷ ys → c ≡ d
two-numbers n m a b c d xs ys e = head-same _ _ _ _ (tail-same _ _ _ _ (tail-same _ _ _ _ e))

-- the number of a case, which the list begins with: both handles count as one
abbrev case_number : TypeDefKind → ℕ
case_number (kind.Handle h) = 0
case_number (kind.Tuple x) = 2
case_number (kind.Option t) = 3
case_number (kind.Result x) = 4
case_number (kind.List t) = 5
case_number (kind.Map k t) = 6
case_number (kind.FixedLengthList t n) = 7
case_number (kind.Future t) = 8
case_number (kind.Stream t) = 9
case_number _ = 99

abbrev case_in : List ℕ → ℕ
case_in l = cond (nat_eq (get_or l 0 99) 1) 0 (get_or l 0 99)

in-list : (k : TypeDefKind) → case_in (kind_code k) ≡ case_number k
in-list x = search rules

same-case : (a b : TypeDefKind) → kind_code a ≡ kind_code b → nat_eq (case_number a) (case_number b) ≡ true
same-case a b e = eq-eqb (case_number a) (case_number b) (sym (in-list a) ∙ ap case_in e ∙ in-list b)

other-handle : (a b : TypeDefKind) → nat_eq (get_or (kind_code a) 0 99) (get_or (kind_code b) 0 99) ≡ false → kind_code a ≡ kind_code b → ⊥
other-handle a b h e = true≢false (sym (eq-eqb _ _ (ap (λ l. get_or l 0 99) e)) ∙ h)

pub kinds-of-lists : (a b : TypeDefKind) → is_named_kind a ≡ false → is_named_kind b ≡ false → kind_code a ≡ kind_code b → same_kind a b ≡ true
kinds-of-lists (kind.Handle (handle.Own a)) (kind.Handle (handle.Own b)) n m e = let h : 14 + a.0 ≡ 14 + b.0 = one-number _ _ _ _ _ _ e in eq-eqb a.0 b.0 (omega (arith, h))
kinds-of-lists (kind.Handle (handle.Borrow a)) (kind.Handle (handle.Borrow b)) n m e = let h : 14 + a.0 ≡ 14 + b.0 = one-number _ _ _ _ _ _ e in eq-eqb a.0 b.0 (omega (arith, h))
kinds-of-lists (kind.Handle (handle.Own a)) (kind.Handle (handle.Borrow b)) n m e = absurd (other-handle (kind.Handle (handle.Own a)) (kind.Handle (handle.Borrow b)) refl e)
kinds-of-lists (kind.Handle (handle.Borrow a)) (kind.Handle (handle.Own b)) n m e = absurd (other-handle (kind.Handle (handle.Borrow a)) (kind.Handle (handle.Own b)) refl e)
kinds-of-lists (kind.Option a) (kind.Option b) n m e = same-refl a b (type-of-code a b (one-number _ _ _ _ _ _ e))
kinds-of-lists (kind.List a) (kind.List b) n m e = same-refl a b (type-of-code a b (one-number _ _ _ _ _ _ e))
kinds-of-lists (kind.Tuple a) (kind.Tuple b) n m e = types-of-codes a.types.items b.types.items (tail-same _ _ _ _ e)
kinds-of-lists (kind.Result a) (kind.Result b) n m e = search (rules, optional-of-code, tail-same, both, optional-alone)
kinds-of-lists (kind.Map a x) (kind.Map b y) n m e = both _ _ (same-refl a b (type-of-code a b (one-number _ _ _ _ _ _ e))) (same-refl x y (type-of-code x y (two-numbers _ _ _ _ _ _ _ _ e)))
kinds-of-lists (kind.FixedLengthList a x) (kind.FixedLengthList b y) n m e = both _ _ (same-refl a b (type-of-code a b (one-number _ _ _ _ _ _ e))) (eq-eqb x y (two-numbers _ _ _ _ _ _ _ _ e))
kinds-of-lists (kind.Future a) (kind.Future b) n m e = optional-alone a b (tail-same _ _ _ _ e)
kinds-of-lists (kind.Stream a) (kind.Stream b) n m e = optional-alone a b (tail-same _ _ _ _ e)
kinds-of-lists a b n m e = clash (is_named_kind a) (nat_eq (case_number a) (case_number b)) n (same-case a b e) refl

pub lists-of-kinds : (a b : TypeDefKind) → is_named_kind a ≡ false → same_kind a b ≡ true → kind_code a ≡ kind_code b
lists-of-kinds = told_alike kind_code (λ a b e. ap (λ xs. 2 ∷ map type_code xs) e)

pub equal_kinds : EqualKinds
equal_kinds = λ a b n m. record { same = kinds-of-lists a b n m; equal = lists-of-kinds a b n }

-- ---- keys of functions

-- lists of equally many parameters, and what follows them
params-of-lists : (names : Names) → IsTable names → (ps qs : List Param) (xs ys us vs : List ℕ) → AreListed names ps xs → AreListed names qs ys → length ps ≡ length qs → xs ++ us ≡ ys ++ vs
    → (pointwise same_param ps qs ≡ true) × (us ≡ vs)
params-of-lists names t [] [] [] [] us vs l k n e = (refl, e)
params-of-lists names t [] [] [] ys us vs l k n e = absurd k
params-of-lists names t [] (q ∷ qs) xs ys us vs l k n e = absurd (omega (arith, n))
params-of-lists names t (p ∷ ps) [] xs ys us vs l k n e = absurd (omega (arith, n))
params-of-lists names t (p ∷ ps) (q ∷ qs) (x ∷ a ∷ xs) (y ∷ b ∷ ys) us vs l k n e =
    let h : x ≡ y = head-same _ _ _ _ e in
    let r = tail-same _ _ _ _ e in
    let c : a ≡ b = head-same _ _ _ _ r in
    let name : text_of p.name ≡ text_of q.name = t.one_text _ _ y (subst (λ m. Contains names (text_of p.name, m)) h l.0) k.0 in
    let value : p.ty ≡ q.ty = type-of-code p.ty q.ty (sym l.1 ∙ c ∙ k.1) in
    let more = params-of-lists names t ps qs xs ys us vs l.2 k.2 (omega (arith, n)) (tail-same _ _ _ _ r) in
    (both _ _ (both _ _ (subst (λ w. text_eq (text_of p.name) w ≡ true) name (text-refl (text_of p.name))) (same-refl p.ty q.ty value)) more.0, more.1)
params-of-lists names t (p ∷ ps) (q ∷ qs) (x ∷ a ∷ xs) ys us vs l k n e = absurd k
params-of-lists names t ps qs xs ys us vs l k n e = absurd l

lists-of-params : (names : Names) → IsTable names → (ps qs : List Param) (xs ys : List ℕ) → AreListed names ps xs → AreListed names qs ys → pointwise same_param ps qs ≡ true → (xs ≡ ys)
    × (length ps ≡ length qs)
lists-of-params names t [] [] [] [] l k e = (refl, refl)
lists-of-params names t [] [] [] ys l k e = absurd k
lists-of-params names t [] (q ∷ qs) xs ys l k e = absurd (let z : ⊥ = cc in z)
lists-of-params names t (p ∷ ps) [] xs ys l k e = absurd (let z : ⊥ = cc in z)
lists-of-params names t (p ∷ ps) (q ∷ qs) (x ∷ a ∷ xs) (y ∷ b ∷ ys) l k e =
    let one = first_true (same_param p q) (pointwise same_param ps qs) e in
    let name = text_same _ _ (first_true (text_eq (text_of p.name) (text_of q.name)) (same_type p.ty q.ty) one) in
    let value = same_types p.ty q.ty (second_true (text_eq (text_of p.name) (text_of q.name)) (same_type p.ty q.ty) one) in
    let number : x ≡ y = t.one_number _ x y (subst (λ w. Contains names (w, x)) name l.0) k.0 in
    let code : a ≡ b = l.1 ∙ ap type_code value ∙ sym k.1 in
    let more = lists-of-params names t ps qs xs ys l.2 k.2 (second_true (same_param p q) (pointwise same_param ps qs) e) in
    (λ i. number i ∷ code i ∷ more.0 i, ap suc more.1)
lists-of-params names t (p ∷ ps) (q ∷ qs) (x ∷ a ∷ xs) ys l k e = absurd k
lists-of-params names t ps qs xs ys l k e = absurd l

-- A list that is that of parameters in a table, and of others in a smaller one: so it is that of the first in the smaller one.
listed-shrink : (names names' : Names) → IsTable names' → ((t : Text) (n : ℕ) → Contains names (t, n) → Contains names' (t, n)) → (ps qs : List Param) (xs ys us vs : List ℕ) → AreListed names' ps xs
    → AreListed names qs ys → length ps ≡ length qs → xs ++ us ≡ ys ++ vs → AreListed names ps xs
listed-shrink names names' t g [] qs [] ys us vs l k n e = tt
listed-shrink names names' t g (p ∷ ps) [] xs ys us vs l k n e = absurd (omega (arith, n))
listed-shrink names names' t g (p ∷ ps) (q ∷ qs) (x ∷ a ∷ xs) (y ∷ b ∷ ys) us vs l k n e =
    let h : y ≡ x = sym (head-same _ _ _ _ e) in
    let there : Contains names (text_of q.name, x) = subst (λ m. Contains names (text_of q.name, m)) h k.0 in
    let name : text_of q.name ≡ text_of p.name = t.one_text _ _ x (g _ x there) l.0 in
    (subst (λ w. Contains names (w, x)) name there, l.1, listed-shrink names names' t g ps qs xs ys us vs l.2 k.2 (omega (arith, n)) (tail-same _ _ _ _ (tail-same _ _ _ _ e)))
listed-shrink names names' t g (p ∷ ps) (q ∷ qs) (x ∷ a ∷ xs) ys us vs l k n e = absurd k
listed-shrink names names' t g ps qs xs ys us vs l k n e = absurd l

pub key-shrink : (names names' : Names) → IsTable names' → ((t : Text) (n : ℕ) → Contains names (t, n) → Contains names' (t, n)) → (a b : FunctionKey) (xs : List ℕ) → IsKeyList names' a xs
    → IsKeyList names b xs → IsKeyList names a xs
key-shrink names names' t g a b xs l k = search (rules, tail-same, listed-shrink, head-same)

async-back : (a b : Bool) → async_code a ≡ async_code b → beq a b ≡ true
async-back x y e = search rules

pub async-same : (a b : Bool) → beq a b ≡ true → async_code a ≡ async_code b
async-same x y e = search rules

pub keys-of-lists : (names : Names) (a b : FunctionKey) (xs ys : List ℕ) → IsTable names → IsKeyList names a xs → IsKeyList names b ys → xs ≡ ys → same_key a b ≡ true
keys-of-lists names a b xs ys t l k e = search (rules, tail-same, params-of-lists, head-same, both, async-back, optional-alone)

pub lists-of-keys : (names : Names) (a b : FunctionKey) (xs ys : List ℕ) → IsTable names → IsKeyList names a xs → IsKeyList names b ys → same_key a b ≡ true → xs ≡ ys
lists-of-keys names a b xs ys t l k e = search (rules, second_true, lists-of-params, first_true, async-same, optional_same)

pub equal_keys : EqualKeys
equal_keys = λ names a b xs ys t l k. record { same = keys-of-lists names a b xs ys t l k; equal = lists-of-keys names a b xs ys t l k }
