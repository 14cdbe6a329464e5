-- What names stand for, as types are made. Serves scope, members.
use Rattle.std.proofs.Common.{◌≡◌, ◌∙◌, ◌+◌, arith, if◌then◌else◌, true≢false, sym, subst, refl, Bool, true, false, cond, ◌⊎◌, inl}
use Rattle.std.proofs.Common.{inr, List, [], ◌∷◌, ◌++◌, Option, Some, None, Result, Ok, Err, OnOk, slice_get, ℕ, length, is_some, ap}
use Rattle.std.specs.Option.{option_and_then}
use Rattle.std.specs.Borrow.{Bor}
use Rattle.std.proofs.lemmas.Slice.Eq.{bytes_eq-Decides}
use Rattle.wit_model.specs.Text.{Text, text_eq}
use Rattle.wit_model.specs.declared.model.{TypeDef.TypeDef, TypeDefKind.TypeDefKind, TypeId.TypeId, TypeOwner.TypeOwner}
use Rattle.wit_model.proofs.TextLemmas.{text_alike}
use Rattle.base_lemmas.proofs.Lists.{front_or_end}
use Rattle.print_grammar.specs.Tree.{Prefix, Declared, MemberTree}
use Rattle.text_types.specs.declared.scope.Scope.{Scope}
use Rattle.text_types.specs.Scopes.{id_under, made_under, type_name, types_in, AreApartByName, IsCounted, IsFresh, IsPlaced, KeepsPlaced, Places, StaysIn}
use Rattle.text_types.specs.{Stands.OwnNameAt, Kept.defs_of, Kept.Grows}
use Rattle.text_types.specs.declared.types.Types.{Types}
use Rattle.text_types.proofs.Growth.{placed}
use Rattle.text_types.specs.Declares.{declared_name, DeclaredAt, NamedAt}

-- ---- scopes that keep what is placed

pub keeps_none : (a : Scope) → KeepsPlaced a a
keeps_none a = record { text = refl; home = refl; owner = refl; placed = λ defs h. h; fresh = λ h. h }

pub keeps_join : {a b c : Scope} → KeepsPlaced a b → KeepsPlaced b c → KeepsPlaced a c
keeps_join h k = record {
  text = k.text ∙ h.text;
  home = k.home ∙ h.home;
  owner = k.owner ∙ h.owner;
  placed = λ defs p. k.placed defs (h.placed defs p);
  fresh = λ n. k.fresh (h.fresh n);
}

pub still_placed : {a b : Scope} (defs : List TypeDef) → KeepsPlaced a b → IsPlaced a defs → IsPlaced b defs
still_placed defs h p = h.placed defs p

pub still_fresh : {a b : Scope} → KeepsPlaced a b → IsFresh a → IsFresh b
still_fresh h n = h.fresh n

pub stays_here : {a : Scope} {defs : List TypeDef} → IsPlaced a defs → StaysIn a a defs
stays_here p = record { text = refl; home = refl; owner = refl; placed = p }

pub stays_join : {a b c : Scope} {defs more : List TypeDef} → StaysIn a b defs → StaysIn b c more → StaysIn a c more
stays_join h k = record { text = k.text ∙ h.text; home = k.home ∙ h.home; owner = k.owner ∙ h.owner; placed = k.placed }

pub stays_from : {a b c : Scope} {defs : List TypeDef} → KeepsPlaced a b → StaysIn b c defs → StaysIn a c defs
stays_from h k = record { text = k.text ∙ h.text; home = k.home ∙ h.home; owner = k.owner ∙ h.owner; placed = k.placed }

pub stays_grown : {a b : Scope} {x y : Types} → Grows x y → StaysIn a b (defs_of x) → StaysIn a b (defs_of y)
stays_grown g k = record { text = k.text; home = k.home; owner = k.owner; placed = placed g k.placed }

pub is_placed : {a b : Scope} {defs : List TypeDef} → StaysIn a b defs → IsPlaced b defs
is_placed k = k.placed

-- a type that is placed
pub placed_made : (a b : Scope) {X E : Type 0} (defs : List TypeDef) (name : Text) (id : TypeId) (r : Result X E) → OnOk r (Places a b name id)
    → OwnNameAt defs a.owner id name → IsPlaced a defs
    → OnOk r (StaysIn a b defs)
placed_made a b defs name id (Ok x) h n p = record { text = h.text; home = h.home; owner = h.owner; placed = h.placed defs n p }
placed_made a b defs name id (Err x) h n p = tt

pub ruleset keeping = (keeps_none, keeps_join, still_placed, still_fresh, stays_here, stays_from, stays_grown, is_placed)

-- ---- one name more

none_case : (b : Bool) (o : Option (Option TypeId)) (id : TypeId) → cond b (Some None) o ≡ Some (Some id) → o ≡ Some (Some id)
none_case true o id e = absurd (cc e)
none_case false o id e = e

some_case : (b : Bool) (made : TypeId) (o : Option (Option TypeId)) (id : TypeId) → cond b (Some (Some made)) o ≡ Some (Some id)
    → ((b ≡ true) × (made ≡ id)) ⊎ (o ≡ Some (Some id))
some_case true made o id e = inl (refl, cc e)
some_case false made o id e = inr e

-- what names stand for after a key was put in
abbrev pub Puts : Scope → Scope → Bor Text → Option TypeId → Type 0
Puts old new key v = (q : Bor Text) → id_under new q.now ≡ cond (text_eq key.now q.now) (Some v) (id_under old q.now)

pub none_put : (old new : Scope) (key : Bor Text) → new.owner ≡ old.owner → Puts old new key None → (defs : List TypeDef)
    → IsPlaced old defs → IsPlaced new defs
none_put old new key owner u defs p = record {
  names = λ n id e. subst (λ o. OwnNameAt defs o id n) (sym owner) (p.names n id (none_case (text_eq key.now n)
      (id_under old n) id (sym (u (record key { now = n })) ∙ e)));
}

pub some_put : (old new : Scope) (key : Bor Text) (made : TypeId) → new.owner ≡ old.owner → Puts old new key (Some made) → (defs : List TypeDef)
    → OwnNameAt defs old.owner made key.now → IsPlaced old defs → IsPlaced new defs
some_put old new key made owner u defs there p = record {
  names = λ n id e. subst (λ o. OwnNameAt defs o id n) (sym owner) (go n id (some_case (text_eq key.now n) made (id_under old n) id (sym (u (record key
      { now = n })) ∙ e)));
}
  where
    go : (n : Text) (id : TypeId) → ((text_eq key.now n ≡ true) × (made ≡ id)) ⊎ (id_under old n ≡ Some (Some id)) → OwnNameAt defs old.owner id n
    go n id (inl h) = subst (λ m. OwnNameAt defs old.owner id m) ((bytes_eq-Decides key.now n).0 h.0)
        (subst (λ i. OwnNameAt defs old.owner i key.now) h.1 there)
    go n id (inr h) = p.names n id h

-- one name and one type more
pub counted_more : (names more types others : ℕ) (o : Option (Option TypeId)) → is_some o ≡ false → more ≡ names + (if is_some o then 0 else 1)
    → others ≡ types + 1 → names ≡ types → more ≡ others
counted_more names more types others (Some x) none grows one same = absurd (true≢false none)
counted_more names more types others None none grows one same = omega arith

-- ---- definitions with names

pub declared_there : {defs : List TypeDef} {owner : TypeOwner} {prefix : Prefix} {declared : Declared} {id : TypeId} → DeclaredAt defs owner prefix declared id
    → OwnNameAt defs owner id (declared_name declared)
declared_there k = record { is = record { def = k.def; there = k.there; named = k.stands.front.named }; owned = k.stands.front.owned }

pub named_there : {defs : List TypeDef} {owner : TypeOwner} {prefix : Prefix} {name : Text} {kind : TypeDefKind} {id : TypeId}
    → NamedAt defs owner prefix name kind id → OwnNameAt defs owner id name
named_there k = record { is = record { def = k.def; there = k.there; named = k.front.named }; owned = k.front.owned }

-- ---- what is made, and what isn't

unmade_case : (b : Bool) (o : Option (Option TypeId)) → option_and_then (λ made. made) o ≡ None → option_and_then (λ made. made) (cond b (Some None) o) ≡ None
unmade_case true o e = refl
unmade_case false o e = e

known_case : (b : Bool) (v : Option TypeId) (o : Option (Option TypeId)) → is_some o ≡ true → is_some (cond b (Some v) o) ≡ true
known_case true v o e = refl
known_case false v o e = e

found_case : (b : Bool) (id : TypeId) (o : Option (Option TypeId)) → option_and_then (λ made. made) (cond b (Some (Some id)) o)
    ≡ (if b then Some id else option_and_then (λ made. made) o)
found_case true id o = refl
found_case false id o = refl

module _ (old new : Scope) (key : Bor Text) where
  pub none_made : Puts old new key None → ((name : Text) → made_under old name ≡ None) → (name : Text) → made_under new name ≡ None
  none_made u h n = ap (option_and_then (λ made. made)) (u (record key { now = n })) ∙ unmade_case (text_eq key.now n) (id_under old n) (h n)

  pub some_made : (id : TypeId) → Puts old new key (Some id) → (name : Text)
      → made_under new name ≡ (if text_eq key.now name then Some id else made_under old name)
  some_made id u n = ap (option_and_then (λ made. made)) (u (record key { now = n })) ∙ found_case (text_eq key.now n) id (id_under old n)

  still_known : (v : Option TypeId) → Puts old new key v → (name : Text) → is_some (id_under old name) ≡ true → is_some (id_under new name) ≡ true
  still_known v u n h = ap is_some (u (record key { now = n })) ∙ known_case (text_eq key.now n) v (id_under old n) h

  now_known : (v : Option TypeId) → Puts old new key v → is_some (id_under new key.now) ≡ true
  now_known v u = ap is_some (u key) ∙ ap (λ b. is_some (cond b (Some v) (id_under old key.now))) (text_alike key.now)

-- one name more, which no other type has
apart_more : (types : List MemberTree) (member : MemberTree) (has : Text → Bool)
    → ((place : ℕ) (other : MemberTree) → slice_get types place ≡ Some other → has (type_name other) ≡ true) → has (type_name member) ≡ false
    → AreApartByName types → AreApartByName (types ++ member ∷ [])
apart_more types member has known none apart i j a b there here same = go (front_or_end types member i a there) (front_or_end types member j b here)
  where
    go : (slice_get types i ≡ Some a) ⊎ ((i ≡ length types) × (member ≡ a)) → (slice_get types j ≡ Some b) ⊎ ((j ≡ length types) × (member ≡ b)) → i ≡ j
    go (inl x) (inl y) = apart i j a b x y same
    go (inl x) (inr y) = absurd (true≢false (sym (known i a x) ∙ ap has (same ∙ ap type_name (sym y.1)) ∙ none))
    go (inr x) (inl y) = absurd (true≢false (sym (known j b y) ∙ ap has (sym same ∙ ap type_name (sym x.1)) ∙ none))
    go (inr x) (inr y) = x.0 ∙ sym y.0

known_more : (types : List MemberTree) (member : MemberTree) (has : Text → Bool)
    → ((place : ℕ) (other : MemberTree) → slice_get types place ≡ Some other → has (type_name other) ≡ true) → has (type_name member) ≡ true
    → (place : ℕ) (other : MemberTree) → slice_get (types ++ member ∷ []) place ≡ Some other → has (type_name other) ≡ true
known_more types member has known there place other at = go (front_or_end types member place other at)
  where
    go : (slice_get types place ≡ Some other) ⊎ ((place ≡ length types) × (member ≡ other)) → has (type_name other) ≡ true
    go (inl x) = known place other x
    go (inr x) = ap (λ m. has (type_name m)) (sym x.1) ∙ there

pub fresh_more : (old new : Scope) (key : Bor Text) (member : MemberTree) → Puts old new key None → is_some (id_under old key.now) ≡ false
    → types_in new ≡ types_in old ++ member ∷ [] → key.now ≡ type_name member → (IsCounted old → IsCounted new) → IsFresh old → IsFresh new
fresh_more old new key member u none types named counted h =
    let has = λ (name : Text). is_some (id_under new name) in
    let known : (place : ℕ) (other : MemberTree) → slice_get (types_in old) place ≡ Some other → has (type_name other) ≡ true =
    λ place other at. still_known old new key None u (type_name other) (h.known place other at) in
    record {
      counted = counted h.counted;
      known = λ place other at. known_more (types_in old) member has known (ap has (sym named) ∙ now_known old new key None u) place other
          (ap (λ l. slice_get l place) (sym types) ∙ at);
      apart = λ i j a b there here same. apart_more (types_in old) member (λ name. is_some (id_under old name)) h.known
          (ap (λ name. is_some (id_under old name)) (sym named) ∙ none) h.apart i j a b (ap (λ l. slice_get l i) (sym types) ∙ there)
          (ap (λ l. slice_get l j) (sym types) ∙ here) same;
      unmade = none_made old new key u h.unmade;
    }
