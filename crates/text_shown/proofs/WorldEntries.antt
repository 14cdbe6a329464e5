-- The entries of a world's imports: interfaces, then types, then functions. Serves Worlds.
use Rattle.std.proofs.Common.{◌≡◌, refl, sym, ap, subst, ◌∙◌, Bool, true, false, cond, List, [], ◌∷◌, ◌++◌, map, filter, filter_map, Option, None, String}
use Rattle.std.proofs.lemmas.List.Elements.{filter-append, filter_map-append}
use Rattle.std.specs.{List.AllByRecursion, List.IsDistinct, List.cons_option, List.list_all, Map.keys_of, String.string_eq}
use Rattle.std.specs.declared.alloc.Global.{Global}
use Rattle.wit_model.specs.declared.model.{TypeDef.TypeDef, TypeId.TypeId, Function.Function}
use Rattle.wit_model.specs.declared.model.WorldKey.TheVariants as key
use Rattle.wit_model.specs.declared.model.WorldItem.TheVariants as item
use Rattle.wit_model.specs.{Text.Text, Text.text_eq, Text.text_of, Rules.is_freestanding, Valid.item_function, Valid.key_eq}
use Rattle.print_items.specs.Shown.{is_freestanding_item, is_interface_item, type_of_entry, Listed, WorldEntry}
use Rattle.text_types.specs.{Each.EachIs, Made.FunctionIs, Made.FunctionTree}
use Rattle.base_lemmas.proofs.{Bools.left_of, Bools.right_of, Lists.append_none}
use Rattle.text_shown.specs.ShowsWorlds.{IsFunctionEntry, IsTypeEntry}

-- ---- lists whose elements pass a test

module _ {X : Type 0} (p : X → Bool) where
  pub all_kept : (xs : List X) → list_all p xs ≡ true → filter p xs ≡ xs
  all_kept [] h = refl
  all_kept (x ∷ xs) h = ap (λ b. cond b (x ∷ filter p xs) (filter p xs)) (left_of _ _ h) ∙ ap (λ ys. x ∷ ys) (all_kept xs (right_of (p x) _ h))

  pub none_kept : (q : X → Bool) → ((x : X) → p x ≡ true → q x ≡ false) → (xs : List X) → list_all p xs ≡ true → filter q xs ≡ []
  none_kept q other [] h = refl
  none_kept q other (x ∷ xs) h = ap (λ b. cond b (x ∷ filter q xs) (filter q xs)) (other x (left_of _ _ h)) ∙ none_kept q other xs (right_of (p x) _ h)

  pub none_given : {Y : Type 0} (f : X → Option Y) → ((x : X) → p x ≡ true → f x ≡ None) → (xs : List X) → list_all p xs ≡ true → filter_map f xs ≡ []
  none_given f other [] h = refl
  none_given f other (x ∷ xs) h = ap (λ o. cons_option o (filter_map f xs)) (other x (left_of _ _ h)) ∙ none_given f other xs (right_of (p x) _ h)

-- ---- interfaces

interface_no_type : (e : WorldEntry) → is_interface_item e.1 ≡ true → type_of_entry e.0 e.1 ≡ None
interface_no_type (key.Interface id, it) h = refl
interface_no_type (key.Name s, item.Interface id gates docs external_id) h = refl
interface_no_type (key.Name s, item.Function f) h = absurd cc
interface_no_type (key.Name s, item.Type_ id) h = absurd cc

interface_no_function : (e : WorldEntry) → is_interface_item e.1 ≡ true → item_function e.1 ≡ None
interface_no_function (k, item.Interface id gates docs external_id) h = refl
interface_no_function (k, item.Function f) h = absurd cc
interface_no_function (k, item.Type_ id) h = absurd cc

interface_not_free : (e : WorldEntry) → is_interface_item e.1 ≡ true → is_freestanding_item e.1 ≡ false
interface_not_free (k, item.Interface id gates docs external_id) h = refl
interface_not_free (k, item.Function f) h = absurd cc
interface_not_free (k, item.Type_ id) h = absurd cc

-- ---- types

-- an entry under its name
abbrev pub listed_entry : String Global × TypeId → Listed
listed_entry entry = record { name = text_of entry.0; id = entry.1 }

types_listed : {own : List (String Global × TypeId)} {types : List WorldEntry} → EachIs IsTypeEntry own types
    → filter_map (λ e. type_of_entry e.0 e.1) types ≡ map listed_entry own
types_listed EachIs.no_more = refl
types_listed (EachIs.one_more (IsTypeEntry.named {id = id} named) ks) = λ i. record { name = named i; id = id } ∷ types_listed ks i

types_no_function : {own : List (String Global × TypeId)} {types : List WorldEntry} → EachIs IsTypeEntry own types
    → filter_map (λ e. item_function e.1) types ≡ []
types_no_function EachIs.no_more = refl
types_no_function (EachIs.one_more (IsTypeEntry.named named) ks) = types_no_function ks

types_no_interface : {own : List (String Global × TypeId)} {types : List WorldEntry} → EachIs IsTypeEntry own types
    → filter (λ e. is_interface_item e.1) types ≡ []
types_no_interface EachIs.no_more = refl
types_no_interface (EachIs.one_more (IsTypeEntry.named named) ks) = types_no_interface ks

types_not_free : {own : List (String Global × TypeId)} {types : List WorldEntry} → EachIs IsTypeEntry own types
    → filter (λ e. is_freestanding_item e.1) types ≡ []
types_not_free EachIs.no_more = refl
types_not_free (EachIs.one_more (IsTypeEntry.named named) ks) = types_not_free ks

-- ---- functions

-- a function as an entry of a world
abbrev pub as_entry : String Global × Function → WorldEntry
as_entry e = (key.Name e.0, item.Function e.1)

-- The functions among the entries.
pub record AreEntries (defs : List TypeDef) (types : Text → Option TypeId) (trees : List FunctionTree) (entries : List WorldEntry) : Type 0 where
  pub functions : List (String Global × Function)
  pub are : entries ≡ map as_entry functions
  pub each : EachIs (FunctionIs defs types) trees functions

pub entries_of : {defs : List TypeDef} {types : Text → Option TypeId} {trees : List FunctionTree} {entries : List WorldEntry}
    → EachIs (IsFunctionEntry defs types) trees entries
    → AreEntries defs types trees entries
entries_of EachIs.no_more = record { functions = []; are = refl; each = EachIs.no_more }
entries_of (EachIs.one_more (IsFunctionEntry.under {label = label} {f = f} is) ks) =
    let more = entries_of ks in
    record { functions = (label, f) ∷ more.functions; are = ap (λ es. (key.Name label, item.Function f) ∷ es) more.are; each = EachIs.one_more is more.each }

functions_no_type : (fs : List (String Global × Function)) → filter_map (λ e. type_of_entry e.0 e.1) (map as_entry fs) ≡ []
functions_no_type [] = refl
functions_no_type (f ∷ fs) = functions_no_type fs

functions_given : (fs : List (String Global × Function)) → filter_map (λ e. item_function e.1) (map as_entry fs) ≡ map (λ e. e.1) fs
functions_given [] = refl
functions_given (f ∷ fs) = ap (λ gs. f.1 ∷ gs) (functions_given fs)

functions_no_interface : (fs : List (String Global × Function)) → filter (λ e. is_interface_item e.1) (map as_entry fs) ≡ []
functions_no_interface [] = refl
functions_no_interface (f ∷ fs) = functions_no_interface fs

functions_free : (fs : List (String Global × Function)) → filter (λ e. is_freestanding_item e.1) (map as_entry fs)
    ≡ map as_entry (filter (λ e. is_freestanding e.1.kind) fs)
functions_free [] = refl
functions_free (f ∷ fs) = go (is_freestanding f.1.kind) (functions_free fs)
  where
    go : (b : Bool) → filter (λ e. is_freestanding_item e.1) (map as_entry fs) ≡ map as_entry (filter (λ e. is_freestanding e.1.kind) fs)
        → cond b (as_entry f ∷ filter (λ e. is_freestanding_item e.1) (map as_entry fs)) (filter (λ e. is_freestanding_item e.1) (map as_entry fs))
        ≡ map as_entry (cond b (f ∷ filter (λ e. is_freestanding e.1.kind) fs) (filter (λ e. is_freestanding e.1.kind) fs))
    go true rest = ap (λ es. as_entry f ∷ es) rest
    go false rest = rest

-- ---- all imports

module _ (interfaces types : List WorldEntry) (own : List (String Global × TypeId)) (fs : List (String Global × Function))
    (are_interfaces : list_all (λ e. is_interface_item e.1) interfaces ≡ true) (are_types : EachIs IsTypeEntry own types) where
  abbrev all : List WorldEntry
  all = interfaces ++ types ++ map as_entry fs

  given_all : {Y : Type 0} (f : WorldEntry → Option Y) → filter_map f all ≡ (filter_map f interfaces ++ filter_map f types) ++ filter_map f (map as_entry fs)
  given_all f = filter_map-append f (interfaces ++ types) (map as_entry fs)
      ∙ ap (λ ys. ys ++ filter_map f (map as_entry fs)) (filter_map-append f interfaces types)

  kept_all : (p : WorldEntry → Bool) → filter p all ≡ (filter p interfaces ++ filter p types) ++ filter p (map as_entry fs)
  kept_all p = filter-append p (interfaces ++ types) (map as_entry fs) ∙ ap (λ ys. ys ++ filter p (map as_entry fs)) (filter-append p interfaces types)

  -- the types of the world
  pub listed_types : filter_map (λ e. type_of_entry e.0 e.1) all ≡ map listed_entry own
  listed_types = given_all (λ e. type_of_entry e.0 e.1)
      ∙ (λ i. (none_given (λ e. is_interface_item e.1) (λ e. type_of_entry e.0 e.1) interface_no_type interfaces are_interfaces i
      ++ types_listed are_types i) ++ functions_no_type fs i)
      ∙ append_none (map listed_entry own)

  -- the functions that it imports
  pub listed_functions : filter_map (λ e. item_function e.1) all ≡ map (λ e. e.1) fs
  listed_functions = given_all (λ e. item_function e.1)
      ∙ (λ i. (none_given (λ e. is_interface_item e.1) (λ e. item_function e.1) interface_no_function interfaces are_interfaces i
      ++ types_no_function are_types i) ++ functions_given fs i)

  -- the interfaces
  pub listed_interfaces : filter (λ e. is_interface_item e.1) all ≡ interfaces
  listed_interfaces = kept_all (λ e. is_interface_item e.1)
      ∙ (λ i. (all_kept (λ e. is_interface_item e.1) interfaces are_interfaces i ++ types_no_interface are_types i) ++ functions_no_interface fs i)
      ∙ append_none (interfaces ++ []) ∙ append_none interfaces

  -- the functions that belong to no resource
  pub listed_free : filter (λ e. is_freestanding_item e.1) all ≡ map as_entry (filter (λ e. is_freestanding e.1.kind) fs)
  listed_free = kept_all (λ e. is_freestanding_item e.1)
      ∙ (λ i. (none_kept (λ e. is_interface_item e.1) (λ e. is_freestanding_item e.1) interface_not_free interfaces are_interfaces i
      ++ types_not_free are_types i) ++ functions_free fs i)

-- ---- keys

all_behind : {K : Type 0} (P : K → Type 0) (xs ys : List K) → AllByRecursion P (xs ++ ys) → AllByRecursion P xs
all_behind P [] ys h = tt
all_behind P (x ∷ xs) ys h = (h.0, all_behind P xs ys h.1)

distinct_front : {K : Type 0} (eq : K → K → Bool) (xs ys : List K) → IsDistinct eq (xs ++ ys) → IsDistinct eq xs
unfolding IsDistinct
distinct_front eq [] ys h = tt
distinct_front eq (x ∷ xs) ys h = (all_behind (λ y. eq x y ≡ false) xs ys h.0, distinct_front eq xs ys h.1)

distinct_behind : {K : Type 0} (eq : K → K → Bool) (xs ys : List K) → IsDistinct eq (xs ++ ys) → IsDistinct eq ys
unfolding IsDistinct
distinct_behind eq [] ys h = h
distinct_behind eq (x ∷ xs) ys h = distinct_behind eq xs ys h.1

keys_append : (xs ys : List WorldEntry) → keys_of (xs ++ ys) ≡ keys_of xs ++ keys_of ys
keys_append [] ys = refl
keys_append (x ∷ xs) ys = ap (λ ks. x.0 ∷ ks) (keys_append xs ys)

apart_names : (name : String Global) (label : String Global) → text_of label ≡ text_of name
    → {own : List (String Global × TypeId)} {types : List WorldEntry} → EachIs IsTypeEntry own types
    → AllByRecursion (λ k. key_eq (key.Name label) k ≡ false) (keys_of types) → AllByRecursion (λ k. string_eq name k ≡ false) (keys_of own)
apart_names name label same EachIs.no_more h = tt
apart_names name label same (EachIs.one_more (IsTypeEntry.named {name = other} {label = far} named) ks) h =
    ((λ i. text_eq (sym same i) (sym named i)) ∙ h.0, apart_names name label same ks h.1)

names_apart : {own : List (String Global × TypeId)} {types : List WorldEntry} → EachIs IsTypeEntry own types → IsDistinct key_eq (keys_of types)
    → IsDistinct string_eq (keys_of own)
unfolding IsDistinct
names_apart EachIs.no_more h = tt
names_apart (EachIs.one_more (IsTypeEntry.named {name = name} {label = label} named) ks) h = (apart_names name label named ks h.0, names_apart ks h.1)

-- The names of a world's types differ.
pub types_apart : (interfaces types functions : List WorldEntry) {own : List (String Global × TypeId)} → EachIs IsTypeEntry own types
    → IsDistinct key_eq (keys_of (interfaces ++ types ++ functions)) → IsDistinct string_eq (keys_of own)
types_apart interfaces types functions k h =
    names_apart k (distinct_behind key_eq (keys_of interfaces) (keys_of types)
    (subst (IsDistinct key_eq) (keys_append interfaces types) (distinct_front key_eq (keys_of (interfaces ++ types)) (keys_of functions)
    (subst (IsDistinct key_eq) (keys_append (interfaces ++ types) functions) h))))
