-- Where declarations stand: the type of a function and an instance type just before the import or export that has it, types before functions.
use Rattle.std.proofs.Common.{rules as std_rules, ◌≡◌, refl, sym, ap, subst, ◌∙◌, ℕ, ◌+◌, ◌⊎◌, inl, inr, Bool, true, false, not, ◌&&◌, ◌||◌, List, [], ◌∷◌, ◌++◌, append-nil, append_assoc, arith}
use Rattle.std.proofs.lemmas.{Bool.eqb-true, Bool.eq-eqb, Bool.or_right, List.append_cancel_left, List.Folds.list_all-append}
use Rattle.std.specs.{List.list_all, Cmp.Derive.both_true}
use Rattle.base_lemmas.proofs.{Bools.left_of, Bools.right_of, Numbers.no-slot}
use Rattle.wit_model.specs.Text.{Text}
use Rattle.wit_model.specs.declared.model.{Resolve.Resolve, Interface.Interface, InterfaceId.InterfaceId, Function.Function}
use Rattle.comp_bytes.specs.declared.forms.ComponentTypeRef.{ComponentTypeRef}
use Rattle.comp_bytes.specs.Raw.{Declaration, Declarations, ExternName, append, from_list}
use Rattle.comp_bytes.specs.Held.{declaration_slots, type_slots, type_slots_of}
use Rattle.comp_bytes.proofs.HeldLaws.{from_list-push}
use Rattle.encode_types.specs.Distinct.{is_function_type, function_slots, slots_from}
use Rattle.encode_types.specs.Known.{Aliased, Around, alias_declared, with_alias, with_aliases}
use Rattle.comp_meaning.specs.Follow.{Direction, import_, export_}
use Rattle.encode_names.specs.WorldSteps.{declared_towards}
use Rattle.wit_encode.specs.{Encoders.declared_after, Instance.EncodesPart}
use Rattle.wit_encode.specs.Places.{describes, is_function_of, is_instance_at, begins_with, are_beside, takes_index, GrowsBy, StaysBeside}
use Rattle.wit_encode.proofs.ValueSlots.{append-none, append-twice, list-slots}
use Rattle.comp_bytes.specs.declared.forms.ComponentTypeRef.TheVariants as refs

-- ---- declarations behind others

pub list-both : (xs ys : List Declaration) → from_list (xs ++ ys) ≡ append (from_list xs) (from_list ys)
list-both [] ys = refl
list-both (x ∷ xs) ys = ap (λ (z : Declarations). Declarations.declares x z) (list-both xs ys)

pub one-list : (xs ys : List Declaration) → from_list xs ≡ from_list ys → xs ≡ ys
one-list [] [] e = refl
one-list [] (y ∷ ys) e = absurd cc
one-list (x ∷ xs) [] e = absurd cc
one-list (x ∷ xs) (y ∷ ys) e = let first : x ≡ y = cc in let rest : from_list xs ≡ from_list ys = cc in λ i. first i ∷ one-list xs ys rest i

-- the slots of what passes a test, behind others
slots-both : (test : Declaration → Bool) (n : ℕ) (a b : Declarations) → slots_from test n (append a b) ≡ slots_from test n a ++ slots_from test (n + type_slots_of a) b
slots-both test n Declarations.no_more b = ap (λ (k : ℕ). slots_from test k b) (sym (no-slot n))
slots-both test n (Declarations.declares d rest) b = search (std_rules, append_assoc, slots-both test (n + declaration_slots d) rest b)
slots-both test n (Declarations.component inner rest) b = search (std_rules, slots-both test (n + 1) rest b)
slots-both test n (Declarations.instance inner rest) b = search (std_rules, slots-both test (n + 1) rest b)

-- ---- what grows

pub grows-none : (a : Declarations) → GrowsBy a a
grows-none a = record { more = []; are = sym (append-none a); indexes = refl }

pub grows-more : (a b c : Declarations) (d : Declaration) → c ≡ declared_after b d → takes_index d ≡ true → GrowsBy a b → GrowsBy a c
grows-more a b c d is one g = search (std_rules, append-twice a (from_list g.more) (Declarations.declares d Declarations.no_more), from_list-push g.more d, list_all-append takes_index g.more (d ∷ []))

-- ---- beside

or-more : (x y z : Bool) → (x || y) ≡ true → (y ≡ true → z ≡ true) → (x || z) ≡ true
or-more x y z h more = search std_rules

begins-more : (test : ComponentTypeRef → Bool) (a b : Declarations) → begins_with test a ≡ true → begins_with test (append a b) ≡ true
begins-more test x b h = search std_rules

pub beside-both : (n : ℕ) (a b : Declarations) → are_beside n a ≡ true → are_beside (n + type_slots_of a) b ≡ true → are_beside n (append a b) ≡ true
beside-both n Declarations.no_more b h k = subst (λ (m : ℕ). are_beside m b ≡ true) (no-slot n) k
beside-both n (Declarations.declares d rest) b h k =
    let far : n + (declaration_slots d + type_slots_of rest) ≡ n + declaration_slots d + type_slots_of rest = omega arith in
    let here : Bool = not (is_function_type d) || begins_with (is_function_of n) rest in
    both_true (or-more (not (is_function_type d)) (begins_with (is_function_of n) rest) (begins_with (is_function_of n) (append rest b)) (left_of here (are_beside (n + declaration_slots d) rest) h)
    (begins-more (is_function_of n) rest b)) (beside-both (n + declaration_slots d) rest b (right_of here (are_beside (n + declaration_slots d) rest) h)
    (subst (λ (m : ℕ). are_beside m b ≡ true) far k))
beside-both n (Declarations.component inner rest) b h k = beside-both (n + 1) rest b h (subst (λ (m : ℕ). are_beside m b ≡ true) (omega arith) k)
beside-both n (Declarations.instance inner rest) b h k =
    let far : n + (1 + type_slots_of rest) ≡ n + 1 + type_slots_of rest = omega arith in
    both_true (begins-more (is_instance_at n) rest b (left_of (begins_with (is_instance_at n) rest) (are_beside (n + 1) rest) h))
    (beside-both (n + 1) rest b (right_of (begins_with (is_instance_at n) rest) (are_beside (n + 1) rest) h) (subst (λ (m : ℕ). are_beside m b ≡ true) far k))

-- a declaration that defines no type of a function
beside-one : (n : ℕ) (d : Declaration) → is_function_type d ≡ false → are_beside n (Declarations.declares d Declarations.no_more) ≡ true
beside-one n d e = ap (λ (b : Bool). (not b || false) && true) e

pub beside-after : (ds : Declarations) (d : Declaration) → is_function_type d ≡ false → StaysBeside ds (declared_after ds d)
beside-after ds d e h = beside-both 0 ds (Declarations.declares d Declarations.no_more) h (beside-one (0 + type_slots_of ds) d e)

-- declarations among which is no type of a function
beside-plain : (n : ℕ) (ds : List Declaration) → slots_from is_function_type n (from_list ds) ≡ [] → are_beside n (from_list ds) ≡ true
beside-plain n [] e = refl
beside-plain n (d ∷ ds) e = by (is_function_type d) refl (beside-plain (n + declaration_slots d) ds)
  where
    by : (b : Bool) → is_function_type d ≡ b → (slots_from is_function_type (n + declaration_slots d) (from_list ds) ≡ [] → are_beside (n + declaration_slots d) (from_list ds) ≡ true)
        → are_beside n (from_list (d ∷ ds)) ≡ true
    by true is more = absurd (cc (rw is at e))
    by false is more = both_true (ap (λ (b : Bool). not b || begins_with (is_function_of n) (from_list ds)) is) (more (rw is at e))

-- ---- the type of a function, and what has it

-- where each declaration takes an index, and none is taken, there is none
none-taken : (ds : List Declaration) → list_all takes_index ds ≡ true → type_slots ds ≡ 0 → ds ≡ []
none-taken [] all e = refl
none-taken (d ∷ ds) all e = search std_rules

-- The one type of a function among these is at index i, and that is the last.
beside-last : (n i : ℕ) (ds : List Declaration) (d : Declaration) → list_all takes_index ds ≡ true → slots_from is_function_type n (from_list ds) ≡ i ∷ [] → n + type_slots ds ≡ i + 1
    → describes (is_function_of i) d ≡ true → is_function_type d ≡ false → are_beside n (from_list (ds ++ d ∷ [])) ≡ true
beside-last n i [] d all e last has plain = absurd cc
beside-last n i (x ∷ ds) d all e last has plain = by (is_function_type x) refl
    (λ q. beside-last (n + declaration_slots x) i ds d (right_of (takes_index x) (list_all takes_index ds) all) q (omega (arith, last)) has plain)
  where
    one : declaration_slots x ≡ 1
    one = eqb-true (declaration_slots x) 1 (left_of (takes_index x) (list_all takes_index ds) all)

    by : (b : Bool) → is_function_type x ≡ b → (slots_from is_function_type (n + declaration_slots x) (from_list ds) ≡ i ∷ [] → are_beside (n + declaration_slots x) (from_list (ds ++ d ∷ [])) ≡ true)
        → are_beside n (from_list ((x ∷ ds) ++ d ∷ [])) ≡ true
    by true is more =
        let q : n ∷ slots_from is_function_type (n + declaration_slots x) (from_list ds) ≡ i ∷ [] = (rw is at e) in
        let same : i ≡ n = cc in
        let none : ds ≡ [] = none-taken ds (right_of (takes_index x) (list_all takes_index ds) all) (omega (arith, one, same, last)) in
        subst (λ (zs : List Declaration). are_beside n (from_list (x ∷ zs ++ d ∷ [])) ≡ true) (sym none)
        (both_true (or_right (not (is_function_type x)) (describes (is_function_of n) d)
        (subst (λ (k : ℕ). describes (is_function_of k) d ≡ true) same has)) (beside-one (n + declaration_slots x) d plain))
    by false is more = both_true (ap (λ (b : Bool). not b || begins_with (is_function_of n) (from_list (ds ++ d ∷ []))) is) (more (rw is at e))

-- no type of a function has been defined, or one, at the last index, i
abbrev pub DefinesAtLast : Declarations → Declarations → ℕ → Type 0
DefinesAtLast before after i = (function_slots after ≡ function_slots before) ⊎ ((function_slots after ≡ function_slots before ++ i ∷ []) × (type_slots_of after ≡ i + 1))

-- what has been added to the slots of the types of functions
added-slots : (before after : Declarations) (g : GrowsBy before after) (xs : List ℕ) → function_slots after ≡ function_slots before ++ xs
    → slots_from is_function_type (0 + type_slots_of before) (from_list g.more) ≡ xs
added-slots before after g xs e = append_cancel_left (function_slots before) _ xs (sym (slots-both is_function_type 0 before (from_list g.more)) ∙ ap function_slots (sym g.are) ∙ e)

slots-added : (a : Declarations) (ds : List Declaration) → type_slots_of (append a (from_list ds)) ≡ type_slots_of a + type_slots ds
slots-added Declarations.no_more ds = omega (arith, list-slots ds)
slots-added (Declarations.declares d rest) ds = omega (arith, slots-added rest ds)
slots-added (Declarations.component inner rest) ds = omega (arith, slots-added rest ds)
slots-added (Declarations.instance inner rest) ds = omega (arith, slots-added rest ds)

-- types alone
pub types-beside : (before after : Declarations) → GrowsBy before after → function_slots after ≡ function_slots before → StaysBeside before after
types-beside before after g e h = subst (λ (z : Declarations). are_beside 0 z ≡ true) (sym g.are)
    (beside-both 0 before (from_list g.more) h (beside-plain (0 + type_slots_of before) g.more (added-slots before after g [] (e ∙ sym (append-nil (function_slots before))))))

-- the type of a function, if it is new, and then the function
pub function-beside : (before after : Declarations) (i : ℕ) (d : Declaration) → GrowsBy before after → DefinesAtLast before after i → describes (is_function_of i) d ≡ true → is_function_type d ≡ false
    → StaysBeside before (declared_after after d)
function-beside before after i d g (inl same) has plain h = beside-after after d plain (types-beside before after g same h)
function-beside before after i d g (inr new) has plain h =
    let n : ℕ = 0 + type_slots_of before in
    let count : n + type_slots g.more ≡ i + 1 = omega (arith, ap type_slots_of g.are ∙ slots-added before g.more, new.1) in
    let whole : append before (from_list (g.more ++ d ∷ [])) ≡ declared_after after d =
    ap (append before) (from_list-push g.more d) ∙ sym (append-twice before (from_list g.more) (Declarations.declares d Declarations.no_more))
    ∙ ap (λ (z : Declarations). declared_after z d) (sym g.are) in
    subst (λ (z : Declarations). are_beside 0 z ≡ true) whole
    (beside-both 0 before (from_list (g.more ++ d ∷ [])) h (beside-last n i g.more d g.indexes (added-slots before after g (i ∷ []) new.0) count has plain))

-- an instance type, and then its instance
pub instance-beside : (ds inner : Declarations) (k : ℕ) (d : Declaration) → k ≡ type_slots_of ds → describes (is_instance_at k) d ≡ true → is_function_type d ≡ false
    → StaysBeside ds (declared_after (append ds (Declarations.instance inner Declarations.no_more)) d)
instance-beside ds inner k d is has plain h = search (std_rules, append-twice, beside-both, beside-one)

-- ---- an instance type behind aliases

aliases-beside : (a : Around) (made : List Aliased) → StaysBeside a.declared (with_aliases a made).declared
aliases-beside a [] h = h
aliases-beside a (x ∷ made) h = aliases-beside (with_alias a x) made (beside-after a.declared (alias_declared x) refl h)

-- what imports or exports the instance stands behind its type
pub part-beside : (r : Resolve) (a a' : Around) (i : InterfaceId) (def : Interface) (written : List (Text × Function)) (fs : List Function) (k : ℕ) → EncodesPart r a a' i def written fs k
    → (d : Declaration) → describes (is_instance_at k) d ≡ true → is_function_type d ≡ false → StaysBeside a.declared (declared_after a'.declared d)
part-beside r a a' i def written fs k e d has plain h = search (std_rules, aliases-beside, instance-beside)

-- ---- an import or an export

pub towards-instance : (direction : Direction) (name : ExternName) (k : ℕ) → describes (is_instance_at k) (declared_towards direction name (refs.Instance k)) ≡ true
towards-instance import_ name k = eq-eqb k k refl
towards-instance export_ name k = eq-eqb k k refl

pub towards-of : (direction : Direction) (name : ExternName) (k : ℕ) → describes (is_function_of k) (declared_towards direction name (refs.Func k)) ≡ true
towards-of import_ name k = eq-eqb k k refl
towards-of export_ name k = eq-eqb k k refl
