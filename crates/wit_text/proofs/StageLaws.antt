-- Members of a world one after the other, and what types and functions come of them. Serves externs, worlds.
use Rattle.text_types.proofs.AddedLaws.{adds_join as types_added}
use Rattle.std.proofs.Common.{◌≡◌, ◌∙◌, refl, sym, ap, subst, ℕ, ◌<◌, ◌≤◌, ◌+◌, List, [], ◌∷◌, ◌++◌, append-nil, append_assoc, Option, Some}
use Rattle.std.proofs.Common.{length, map, take, drop, get_or, Contains, Result, Ok, Err, OnOk, String}
use Rattle.std.proofs.lemmas.List.{map-append, take-append-drop, take_all, take_more}
use Rattle.std.proofs.lemmas.List.Elements.{Contains-append_left, Contains-append_right, filter_map-append}
use Rattle.std.proofs.lemmas.Grind.{flat_map-append}
use Rattle.std.specs.{HashMap.get_by_text, List.filter_map, List.flat_map}
use Rattle.std.specs.Option.{option_and_then}
use Rattle.std.specs.declared.alloc.Global.{Global}
use Rattle.wit_model.specs.Text.{Text, text_of}
use Rattle.wit_model.specs.declared.model.{Function.Function, TypeDef.TypeDef, TypeId.TypeId}
use Rattle.wit_model.specs.declared.model.WorldItem.TheVariants as item
use Rattle.wit_model.specs.declared.model.WorldKey.TheVariants as key
use Rattle.print_grammar.specs.Tree.{Prefix, SignatureTree, WorldMember}
use Rattle.text_names.specs.declared.sources.Sources.{Sources}
use Rattle.text_trees.specs.declared.tree.{ResourceMember.ResourceMember as CodeResourceMember, WorldMember.WorldMember as CodeWorldMember}
use Rattle.text_trees.specs.TreesSeen.{resource_member_of, world_member_of}
use Rattle.text_types.specs.declared.{functions.Callable.Callable, members.Interfaces.Interfaces, scope.Scope.Scope, texts.Text.Text as CodeText}
use Rattle.text_types.specs.{Begins.Begins, Each.EachIs, Functions.FreeStands, Plain.plain_signature, Seen.EachMember}
use Rattle.text_types.specs.Made.{FunctionIs, FunctionTree, NameMap}
use Rattle.text_types.specs.Scopes.{id_under, made_under, text_in, types_in, AddsTypes, Agrees}
use Rattle.text_types.proofs.{EachLaws.each_append, EachLaws.each_map, EachLaws.each_weaker, ScopeLaws.keeps_none}
use Rattle.text_shown.specs.{ShowsWorlds.IsFunctionEntry, ShowsWorlds.IsTypeEntry, ShowsWorlds.Stated}
use Rattle.text_shown.specs.ShowsWorlds.{world_functions, world_types}
use Rattle.wit_text.specs.Items.{WorldEntry}
use Rattle.wit_text.specs.Sides.{AddsFronts, AddsNamed, Continues, Fronts, Side}
use Rattle.wit_text.specs.declared.given.Given.{Given}
use Rattle.wit_text.proofs.{FrontLaws.adds_join, SideLaws.continues_join}
use Rattle.wit_text.specs.Stages.{AddsCallables, AddsCalls, AddsTypeEntries, IsCallableEntry}
use Rattle.wit_text.proofs.ExternLaws.{function_entry_stays}

-- ---- lists

-- the element at a place, by another name of its list
pub record IsAt {X : Type 0} (xs : List X) (i : ℕ) (x : X) : Type 0 where
  pub low : i < length xs
  pub is : x ≡ get_or xs i x

pub is_at : {X : Type 0} (xs ys : List X) (i : ℕ) (x : X) → ys ≡ xs → i < length ys → x ≡ get_or ys i x → IsAt xs i x
is_at xs ys i x same low is = record { low = subst (λ l. i < length l) same low; is = subst (λ l. x ≡ get_or l i x) same is }

pub past_end : {X : Type 0} (xs ys : List X) (i : ℕ) → ys ≡ xs → length ys ≤ i → length xs ≤ i
past_end xs ys i same past = subst (λ l. length l ≤ i) same past

one_more : {X : Type 0} (xs : List X) (i : ℕ) (x : X) → IsAt xs i x → take (i + 1) xs ≡ take i xs ++ x ∷ []
one_more xs i x at = take_more xs i x at.low ∙ ap (λ z. take i xs ++ z ∷ []) (sym at.is)

module _ {X Y Z : Type 0} (f : Y → Option Z) (g : X → Y) (xs : List X) (i : ℕ) (x : X) (at : IsAt xs i x) where
  pub seen_step : filter_map f (map g (take (i + 1) xs)) ≡ filter_map f (map g (take i xs)) ++ filter_map f (g x ∷ [])
  seen_step =
      ap (λ l. filter_map f (map g l)) (one_more xs i x at)
      ∙ (ap (filter_map f) (map-append g (take i xs) (x ∷ [])) ∙ filter_map-append f (map g (take i xs)) (g x ∷ []))

  pub among_at : (z : Z) → Contains (filter_map f (g x ∷ [])) z → Contains (filter_map f (map g xs)) z
  among_at z h =
      let parts : filter_map f (map g xs) ≡ filter_map f (map g (take (i + 1) xs)) ++ filter_map f (map g (drop (i + 1) xs)) =
      ap (λ l. filter_map f (map g l)) (sym (take-append-drop (i + 1) xs))
      ∙ (ap (filter_map f) (map-append g (take (i + 1) xs) (drop (i + 1) xs)) ∙ filter_map-append f (map g (take (i + 1) xs)) (map g (drop (i + 1) xs))) in
      let front : Contains (filter_map f (map g (take (i + 1) xs))) z =
      subst (λ l. Contains l z) (sym seen_step) (Contains-append_right (filter_map f (map g (take i xs))) (filter_map f (g x ∷ [])) z h) in
      subst (λ l. Contains l z) (sym parts) (Contains-append_left _ _ z front)

pub flat_step : {X Y Z : Type 0} (f : Y → List Z) (g : X → Y) (xs : List X) (i : ℕ) (x : X) → IsAt xs i x
    → flat_map f (map g (take (i + 1) xs)) ≡ flat_map f (map g (take i xs)) ++ f (g x)
flat_step f g xs i x at =
    ap (λ l. flat_map f (map g l)) (one_more xs i x at)
    ∙ (ap (flat_map f) (map-append g (take i xs) (x ∷ [])) ∙ (flat_map-append f (map g (take i xs)) (g x ∷ [])
    ∙ ap (λ l. flat_map f (map g (take i xs)) ++ l) (append-nil (f (g x)))))

pub each_then : {X Y Z : Type 0} {A : X → Y → Type 0} {B : Y → Z → Type 0} {C : X → Z → Type 0} → ((x : X) (y : Y) (z : Z) → A x y → B y z → C x z)
    → {xs : List X} {ys : List Y} {zs : List Z} → EachIs A xs ys → EachIs B ys zs → EachIs C xs zs
each_then w EachIs.no_more EachIs.no_more = EachIs.no_more
each_then w (EachIs.one_more h hs) (EachIs.one_more k ks) = EachIs.one_more (w _ _ _ h k) (each_then w hs ks)

-- ---- types of a scope

pub types_none : (a : Scope) → AddsTypes a a []
types_none a = record { keeps = keeps_none a; types = sym (append-nil (types_in a)) }

module _ {a : Scope} (xs : List CodeWorldMember) (i : ℕ) where
  pub types_step : (x : CodeWorldMember) {b c : Scope} → IsAt xs i x
      → AddsTypes a b (flat_map world_types (map (world_member_of (text_in a)) (take i xs))) → AddsTypes b c (world_types (world_member_of (text_in b) x))
      → AddsTypes a c (flat_map world_types (map (world_member_of (text_in a)) (take (i + 1) xs)))
  types_step x {b = b} {c = c} at h k =
      let same : text_in b ≡ text_in a = ap (λ (t : CodeText). t.text.now) h.keeps.text in
      let own : AddsTypes b c (world_types (world_member_of (text_in a) x)) = subst (λ t. AddsTypes b c (world_types (world_member_of t x))) same k in
      subst (AddsTypes a c) (sym (flat_step world_types (world_member_of (text_in a)) xs i x at)) (types_added h own)

  pub types_all : {b : Scope} → length xs ≤ i → AddsTypes a b (flat_map world_types (map (world_member_of (text_in a)) (take i xs)))
      → AddsTypes a b (flat_map world_types (map (world_member_of (text_in a)) xs))
  types_all {b = b} past h = subst (λ l. AddsTypes a b (flat_map world_types (map (world_member_of (text_in a)) l))) (take_all i xs past) h

-- ---- what members state

module _ (f : WorldMember → Option Stated) (g : CodeWorldMember → WorldMember) (xs : List CodeWorldMember) (i : ℕ) where
  module _ {s : Sources} {home : ℕ} {text : List ℕ} {a : Fronts} where
    pub fronts_step : (x : CodeWorldMember) {b c : Fronts} → IsAt xs i x → AddsFronts s home text a b (filter_map f (map g (take i xs)))
        → AddsFronts s home text b c (filter_map f (g x ∷ [])) → AddsFronts s home text a c (filter_map f (map g (take (i + 1) xs)))
    fronts_step x {c = c} at h k = subst (λ l. AddsFronts s home text a c l) (sym (seen_step f g xs i x at)) (adds_join h k)

    pub fronts_all : {b : Fronts} → length xs ≤ i → AddsFronts s home text a b (filter_map f (map g (take i xs)))
        → AddsFronts s home text a b (filter_map f (map g xs))
    fronts_all {b = b} past h = subst (λ l. AddsFronts s home text a b (filter_map f (map g l))) (take_all i xs past) h

  module _ {given : Given} {side : Side} {a : Interfaces} {defs : List TypeDef} {es : List WorldEntry} where
    pub side_step : (x : CodeWorldMember) {b c : Interfaces} {mid after : List TypeDef} {fs gs : List WorldEntry} → IsAt xs i x
        → Continues given side a b defs mid es fs (filter_map f (map g (take i xs))) → Continues given side b c mid after fs gs (filter_map f (g x ∷ []))
        → Continues given side a c defs after es gs (filter_map f (map g (take (i + 1) xs)))
    side_step x {c = c} {after = after} {gs = gs} at h k =
        subst (λ l. Continues given side a c defs after es gs l) (sym (seen_step f g xs i x at)) (continues_join h k)

    pub side_all : {b : Interfaces} {after : List TypeDef} {fs : List WorldEntry} → length xs ≤ i
        → Continues given side a b defs after es fs (filter_map f (map g (take i xs))) → Continues given side a b defs after es fs (filter_map f (map g xs))
    side_all {b = b} {after = after} {fs = fs} past h =
        subst (λ l. Continues given side a b defs after es fs (filter_map f (map g l))) (take_all i xs past) h

-- ---- functions

pub callables_none : {es : List WorldEntry} → AddsCallables [] es es
callables_none {es = es} = record { more = []; is = sym (append-nil es); each = EachIs.no_more }

pub callables_join : {xs ys : List Callable} {a b c : List WorldEntry} → AddsCallables xs a b → AddsCallables ys b c → AddsCallables (xs ++ ys) a c
callables_join {a = a} h k = record {
  more = h.more ++ k.more;
  is = k.is ∙ (ap (λ l. l ++ k.more) h.is ∙ append_assoc a h.more k.more);
  each = each_append h.each k.each;
}

-- a function under its own name, by another name of its text
pub one_callable : (callable : Callable) (name : Text) {a b : List WorldEntry} → name ≡ text_of callable.function.name
    → AddsNamed name (item.Function callable.function) a b → AddsCallables (callable ∷ []) a b
one_callable callable name {a = a} same n = record {
  more = (key.Name n.label, item.Function callable.function) ∷ [];
  is = n.is;
  each = EachIs.one_more (IsCallableEntry.named (n.named ∙ same)) EachIs.no_more;
}

module _ {types : Text → Option TypeId} where
  pub calls_none : {defs : List TypeDef} {es : List WorldEntry} → AddsCalls defs types [] es es
  calls_none {es = es} = record { more = []; is = sym (append-nil es); each = EachIs.no_more }

  pub calls_empty : {defs : List TypeDef} {trees : List FunctionTree} {es : List WorldEntry} → trees ≡ [] → AddsCalls defs types trees es es
  calls_empty {defs = defs} {es = es} e = subst (λ l. AddsCalls defs types l es es) (sym e) calls_none

  pub calls_join : {defs after : List TypeDef} {xs ys : List FunctionTree} {a b c : List WorldEntry} → Begins defs after → AddsCalls defs types xs a b
      → AddsCalls after types ys b c → AddsCalls after types (xs ++ ys) a c
  calls_join {a = a} g h k = record {
    more = h.more ++ k.more;
    is = k.is ∙ (ap (λ l. l ++ k.more) h.is ∙ append_assoc a h.more k.more);
    each = each_append (each_weaker (function_entry_stays g) h.each) k.each;
  }

  callable_is : {defs : List TypeDef} (tree : FunctionTree) (callable : Callable) (entry : WorldEntry)
      → ((label : String Global) → text_of label ≡ text_of callable.function.name → FunctionIs defs types tree (label, callable.function))
      → IsCallableEntry callable entry → IsFunctionEntry defs types tree entry
  callable_is tree callable _ w (IsCallableEntry.named {label = label} e) = IsFunctionEntry.under (w label e)

  one_call : {defs : List TypeDef} (tree : FunctionTree) (callable : Callable)
      → ((label : String Global) → text_of label ≡ text_of callable.function.name → FunctionIs defs types tree (label, callable.function))
      → (cs : List Callable) (more : List WorldEntry) → cs ≡ callable ∷ [] → EachIs IsCallableEntry cs more
      → EachIs (IsFunctionEntry defs types) (tree ∷ []) more
  one_call tree callable w _ _ e EachIs.no_more = absurd (cc e)
  one_call {defs = defs} tree callable w _ _ e (EachIs.one_more {x = x} {y = y} {xs = xs} {ys = ys} k ks) =
      let same : x ≡ callable = cc e in
      let none : xs ≡ [] = cc e in
      EachIs.one_more (callable_is tree callable y w (subst (λ c. IsCallableEntry c y) same k)) (no_calls xs ys none ks)
    where
      no_calls : (xs : List Callable) (ys : List WorldEntry) → xs ≡ [] → EachIs IsCallableEntry xs ys → EachIs (IsFunctionEntry defs types) [] ys
      no_calls _ _ e EachIs.no_more = EachIs.no_more
      no_calls _ _ e (EachIs.one_more h hs) = absurd (cc e)

  free_is : {defs : List TypeDef} (prefix : Prefix) (name : Text) (signature : SignatureTree) (callable : Callable) {a b : List WorldEntry}
      → FreeStands defs prefix name (plain_signature signature) callable.function → AddsCallables (callable ∷ []) a b
      → AddsCalls defs types (FunctionTree.Free prefix name signature ∷ []) a b
  free_is prefix name signature callable f h = record {
    more = h.more;
    is = h.is;
    each = one_call (FunctionTree.Free prefix name signature) callable (λ label l. FunctionIs.free l f) (callable ∷ []) h.more refl h.each;
  }

pub free_calls : {X E : Type 0} {defs : List TypeDef} (types : Text → Option TypeId) (prefix : Prefix) (name : Text) (signature : SignatureTree)
    (callable : Callable) (a b : List WorldEntry) (r : Result X E) → FreeStands defs prefix name (plain_signature signature) callable.function
    → OnOk r (AddsCallables (callable ∷ []) a b) → OnOk r (AddsCalls defs types (FunctionTree.Free prefix name signature ∷ []) a b)
free_calls types prefix name signature callable a b (Ok x) f h = free_is prefix name signature callable f h
free_calls types prefix name signature callable a b (Err e) f h = tt

made_from_id : (scope : Scope) (name : Text) (id : TypeId) → id_under scope name ≡ Some (Some id) → made_under scope name ≡ Some id
made_from_id scope name id e = ap (λ (o : Option (Option TypeId)). option_and_then (λ made. made) o) e

resource_is : {defs : List TypeDef} (scope : Scope) (name : Text) (members : List CodeResourceMember) (all : List Callable) {a b : List WorldEntry}
    → EachMember scope defs name members all → AddsCallables all a b
    → AddsCalls defs (λ n. made_under scope n) (map (FunctionTree.OfResource name) (map (resource_member_of (text_in scope)) members)) a b
resource_is {defs = defs} scope name members all k h = record {
  more = h.more;
  is = h.is;
  each =
      each_map (FunctionTree.OfResource name) (map (resource_member_of (text_in scope)) members) h.more
      (each_map (resource_member_of (text_in scope)) members h.more (each_then (λ tree callable entry m e. callable_is
      (FunctionTree.OfResource name (resource_member_of (text_in scope) tree)) callable entry
      (λ label l. FunctionIs.of_resource l (made_from_id scope name k.id k.made) m) e) k.each h.each));
}

pub resource_calls : {X E : Type 0} {defs : List TypeDef} (scope : Scope) (name : Text) (members : List CodeResourceMember) (all : List Callable)
    (a b : List WorldEntry) (r : Result X E) → EachMember scope defs name members all → OnOk r (AddsCallables all a b)
    → OnOk r (AddsCalls defs (λ n. made_under scope n) (map (FunctionTree.OfResource name) (map (resource_member_of (text_in scope)) members)) a b)
resource_calls scope name members all a b (Ok x) k h = resource_is scope name members all k h
resource_calls scope name members all a b (Err e) k h = tt

module _ {types : Text → Option TypeId} {defs : List TypeDef} (text : List ℕ) (xs : List CodeWorldMember) (i : ℕ) {es : List WorldEntry} where
  pub calls_step : (own : List ℕ) (x : CodeWorldMember) {after : List TypeDef} {fs gs : List WorldEntry} → own ≡ text → IsAt xs i x
      → Begins defs after
      → AddsCalls defs types (flat_map world_functions (map (world_member_of text) (take i xs))) es fs
      → AddsCalls after types (world_functions (world_member_of own x)) fs gs
      → AddsCalls after types (flat_map world_functions (map (world_member_of text) (take (i + 1) xs))) es gs
  calls_step own x {after = after} {fs = fs} {gs = gs} same at g h k =
      subst (λ l. AddsCalls after types l es gs) (sym (flat_step world_functions (world_member_of text) xs i x at))
      (calls_join g h (subst (λ t. AddsCalls after types (world_functions (world_member_of t x)) fs gs) same k))

  pub calls_all : {fs : List WorldEntry} → length xs ≤ i → AddsCalls defs types (flat_map world_functions (map (world_member_of text) (take i xs))) es fs
      → AddsCalls defs types (flat_map world_functions (map (world_member_of text) xs)) es fs
  calls_all {fs = fs} past h = subst (λ l. AddsCalls defs types (flat_map world_functions (map (world_member_of text) l)) es fs) (take_all i xs past) h

-- names stand for the types that are made
agrees_is : {defs : List TypeDef} (own : NameMap TypeId) (scope : Scope) → Agrees own scope → (tree : FunctionTree) (entry : String Global × Function)
    → FunctionIs defs (λ n. made_under scope n) tree entry → FunctionIs defs (get_by_text own) tree entry
agrees_is own scope g _ _ (FunctionIs.free name k) = FunctionIs.free name k
agrees_is own scope g _ _ (FunctionIs.of_resource {resource = resource} name is k) = FunctionIs.of_resource name (sym (g resource) ∙ is) k

pub agrees_entry : {defs : List TypeDef} (own : NameMap TypeId) (scope : Scope) → Agrees own scope → (tree : FunctionTree) (entry : WorldEntry)
    → IsFunctionEntry defs (λ n. made_under scope n) tree entry → IsFunctionEntry defs (get_by_text own) tree entry
agrees_entry own scope g tree _ (IsFunctionEntry.under k) = IsFunctionEntry.under (agrees_is own scope g tree _ k)

-- ---- types

-- The types in front of those that are left are put behind the others.
pub record OwnSoFar (own rest : List (String Global × TypeId)) (old now : List WorldEntry) : Type 0 where
  pub done : List (String Global × TypeId)
  pub are : own ≡ done ++ rest
  pub adds : AddsTypeEntries done old now

pub own_none : (own rest : List (String Global × TypeId)) (es : List WorldEntry) → rest ≡ own → OwnSoFar own rest es es
own_none own rest es same = record { done = []; are = sym same; adds = record { more = []; is = sym (append-nil es); each = EachIs.no_more } }

pub own_more : {own whole rest : List (String Global × TypeId)} (name : String Global) (id : TypeId) (text : Text) {a b c : List WorldEntry}
    → OwnSoFar own whole a b
    → whole ≡ (name, id) ∷ rest → text ≡ text_of name → AddsNamed text (item.Type_ id) b c → OwnSoFar own rest a c
own_more {rest = rest} name id text {a = a} h e same n =
    let adds = h.adds in
    record {
      done = h.done ++ (name, id) ∷ [];
      are = h.are ∙ (ap (λ l. h.done ++ l) e ∙ sym (append_assoc h.done ((name, id) ∷ []) rest));
      adds = record {
        more = adds.more ++ (key.Name n.label, item.Type_ id) ∷ [];
        is = n.is ∙ (ap (λ l. l ++ (key.Name n.label, item.Type_ id) ∷ []) adds.is ∙ append_assoc a adds.more _);
        each = each_append adds.each (EachIs.one_more (IsTypeEntry.named (n.named ∙ same)) EachIs.no_more);
      };
    }

pub own_all : {own rest : List (String Global × TypeId)} {a b : List WorldEntry} → OwnSoFar own rest a b → rest ≡ [] → AddsTypeEntries own a b
own_all {a = a} {b = b} h e =
    subst (λ l. AddsTypeEntries l a b) (sym (h.are ∙ (ap (λ l. h.done ++ l) e ∙ append-nil h.done))) h.adds
