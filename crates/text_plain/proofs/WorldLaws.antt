-- The worlds of texts, by number, and what paths mean.
use Rattle.std.proofs.Common.{rules as std_rules, ◌≡◌, inl, inr, refl, sym, ap, ◌∙◌, subst, ℕ, suc, ◌+◌, ◌<◌, Bool, true, List, [], ◌∷◌, ◌++◌, length, map, take, get_or, slice_get, append_assoc, Some, Vec, Contains}
use Rattle.std.specs.Global.{Global}
use Rattle.std.specs.{Borrow.Bor, List.flat_map, Map.lookup}
use Rattle.std.proofs.lemmas.{List.Elements.filter_map-append, Grind.flat_map-append, Option.slice_get_read}
use Rattle.base_lemmas.proofs.Lists.{append_none, append_of_map, at_last, front_more, front_or_last}
use Rattle.base_lemmas.proofs.Elements.{get-contains, lookup_stands}
use Rattle.wit_model.proofs.Elements.{contains-get}
use Rattle.wit_model.specs.Text.{Text}
use Rattle.text_trees.specs.TextTreesSeen.{documented_head, text_item_of}
use Rattle.text_trees.specs.TreesSeen.{docs_of, head_of, path_of}
use Rattle.text_trees.specs.declared.tree.{PathTree.PathTree as CodePath, TextItem.TextItem as CodeItem}
use Rattle.text_plain.specs.contracts.keys.KeyPartialEq.TheImpl as keys_eq
use Rattle.text_plain.specs.declared.{keys.Key.Key, scopes.Scope.Scope, scopes.TextScopes.TextScopes, worlds.WorldSource.WorldSource, worlds.Worlds.Worlds}
use Rattle.text_plain.specs.{Keys.named_there, Moved.routed, Places.IsPlaced}
use Rattle.text_plain.specs.Plain.{Named, WorldAt, named_by, named_world, same_named, worlds_in}
use Rattle.text_plain.specs.Scopes.{aliases_in, home_of_scope}
use Rattle.text_plain.specs.Worlds.{AddsWorlds, ArePlacedScopes, ArePlacedTexts, IsNamed, IsWorlds, Means, NumbersFirst, scopes_in, world_seen}
use Rattle.text_plain.proofs.WholeLaws.{turned}

-- ---- keys

abbrev pub same_keys : Key → Key → Bool
same_keys = keys_eq.ghosts.eq

pub keys_same : (a b : Key) → same_keys a b ≡ true → named_there a ≡ named_there b
keys_same a b e = search std_rules

pub same_itself : (a b : Named) → a ≡ b → same_named a b ≡ true
same_itself a b e = search std_rules

-- ---- numbers

pub put_first : (old new : List (Key × ℕ)) (key : Key) (number : ℕ) → new ≡ old ++ (key, number) ∷ [] → NumbersFirst old key number new
put_first old new key number more k n there =
    let at = contains-get new (k, n) there in
    elim (front_or_last old (key, number) at.0 (k, n) (ap (λ (l : List (Key × ℕ)). slice_get l at.0) (sym more) ∙ at.1)) [
      | inl u ↦ inl (get-contains old at.0 (k, n) u)
      | inr u ↦ inr (ap (λ (p : Key × ℕ). p.0) (sym u), ap (λ (p : Key × ℕ). p.1) (sym u))
    ]

-- ---- a world more

module _ (old new : Worlds) (index : IsWorlds old) (it : WorldSource) (placed : IsPlaced old.whole.now it.scope.now.place) (key : Key) (number : ℕ)
    (many : number ≡ length old.worlds.items) (same : new.whole.now ≡ old.whole.now) (more : new.worlds.items ≡ old.worlds.items ++ it ∷ [])
    (first : NumbersFirst old.numbers.entries key number new.numbers.entries) (named : named_there key ≡ named_world (world_seen it)) where
  all_named : (k : Key) (n : ℕ) → Contains new.numbers.entries (k, n) → IsNamed new.worlds.items k n
  all_named k n there = elim (first k n there) [
    | inl u ↦ let o = index.numbers k n u in record {
      world_ = o.world_;
      stands = ap (λ (l : List WorldSource). slice_get l n) more ∙ front_more old.worlds.items it n o.world_ o.stands;
      named = o.named;
    }
    | inr u ↦ record {
      world_ = it;
      stands = ap (λ (l : List WorldSource). slice_get l n) more ∙ (ap (slice_get (old.worlds.items ++ it ∷ [])) (u.1 ∙ many) ∙ at_last old.worlds.items it);
      named = ap named_there u.0 ∙ named;
    }
  ]

  all_placed : (n : ℕ) (x : WorldSource) → slice_get new.worlds.items n ≡ Some x → IsPlaced new.whole.now x.scope.now.place
  all_placed n x e = subst (λ (w : Text). IsPlaced w x.scope.now.place) (sym same) (elim (front_or_last old.worlds.items it n x (ap (λ (l : List WorldSource). slice_get l n) (sym more) ∙ e)) [
    | inl u ↦ index.placed n x u
    | inr u ↦ subst (λ (y : WorldSource). IsPlaced old.whole.now y.scope.now.place) u placed
  ])

  pub world_added : AddsWorlds old (world_seen it ∷ []) new
  world_added = record {
    index = record { placed = all_placed; numbers = all_named };
    same = same;
    worlds_are = ap (map world_seen) more ∙ append_of_map world_seen old.worlds.items (it ∷ []);
  }

pub nothing_added : (old new : Worlds) → IsWorlds old → new.whole ≡ old.whole → new.worlds ≡ old.worlds → new.numbers ≡ old.numbers → AddsWorlds old [] new
nothing_added old new index a b c = record {
  index = record {
    placed = λ n it e. subst (λ (w : Bor Text). IsPlaced w.now it.scope.now.place) (sym a) (index.placed n it (ap (λ (v : Vec WorldSource Global). slice_get v.items n) (sym b) ∙ e));
    numbers = λ k n e.
        let o = index.numbers k n (subst (λ m. Contains m.entries (k, n)) c e) in
        record { world_ = o.world_; stands = ap (λ (v : Vec WorldSource Global). slice_get v.items n) b ∙ o.stands; named = o.named };
  };
  same = ap (λ (w : Bor Text). w.now) a;
  worlds_are = ap (λ (v : Vec WorldSource Global). map world_seen v.items) b ∙ sym (append_none (map world_seen old.worlds.items));
}

pub joined : (a b c : Worlds) (xs ys : List WorldAt) → AddsWorlds a xs b → AddsWorlds b ys c → AddsWorlds a (xs ++ ys) c
joined a b c xs ys one two = record {
  index = two.index;
  same = two.same ∙ one.same;
  worlds_are = two.worlds_are ∙ (ap (λ (l : List WorldAt). l ++ ys) one.worlds_are ∙ append_assoc (map world_seen a.worlds.items) xs ys);
}

-- ---- loops

pub items_turn : (a b c : Worlds) (s : Scope) (items : List CodeItem) (i : ℕ) (x : CodeItem) → i < length items → x ≡ get_or items i x
    → AddsWorlds a (worlds_in (home_of_scope s) (aliases_in s) (map (text_item_of s.place.from.now) (take i items))) b
    → AddsWorlds b (worlds_in (home_of_scope s) (aliases_in s) (text_item_of s.place.from.now x ∷ [])) c
    → AddsWorlds a (worlds_in (home_of_scope s) (aliases_in s) (map (text_item_of s.place.from.now) (take (i + 1) items))) c
items_turn a b c s items i x below is one two =
    let all : worlds_in (home_of_scope s) (aliases_in s) (map (text_item_of s.place.from.now) (take i items)) ++ worlds_in (home_of_scope s) (aliases_in s) (text_item_of s.place.from.now x ∷ [])
    ≡ worlds_in (home_of_scope s) (aliases_in s) (map (text_item_of s.place.from.now) (take (i + 1) items)) =
    sym (filter_map-append _ (map (text_item_of s.place.from.now) (take i items)) (text_item_of s.place.from.now x ∷ []))
    ∙ (ap (worlds_in (home_of_scope s) (aliases_in s)) (sym (append_of_map (text_item_of s.place.from.now) (take i items) (x ∷ [])))
    ∙ ap (λ (l : List CodeItem). worlds_in (home_of_scope s) (aliases_in s) (map (text_item_of s.place.from.now) l)) (sym (turned items i x below is))) in
    subst (λ (l : List WorldAt). AddsWorlds a l c) all (joined a b c _ _ one two)

pub flat_turn : {X : Type 0} (f : X → List WorldAt) (a b c : Worlds) (xs : List X) (i : ℕ) (x : X) → i < length xs → x ≡ get_or xs i x
    → AddsWorlds a (flat_map f (take i xs)) b → AddsWorlds b (f x) c → AddsWorlds a (flat_map f (take (i + 1) xs)) c
flat_turn f a b c xs i x below is one two =
    let all : flat_map f (take i xs) ++ f x ≡ flat_map f (take (i + 1) xs) =
    ap (λ (l : List WorldAt). flat_map f (take i xs) ++ l) (sym (append_none (f x)))
    ∙ (sym (flat_map-append f (take i xs) (x ∷ [])) ∙ ap (flat_map f) (sym (turned xs i x below is))) in
    subst (λ (l : List WorldAt). AddsWorlds a l c) all (joined a b c _ _ one two)

pub scope_there : (whole : Text) (scopes : List Scope) (i : ℕ) (s : Scope) → ArePlacedScopes whole scopes → i < length scopes → s ≡ get_or scopes i s → IsPlaced whole s.place
scope_there whole scopes i s placed below is = placed i s (slice_get_read scopes (length scopes) i s refl below is)

pub text_there : (whole : Text) (texts : List TextScopes) (i : ℕ) (t : TextScopes) → ArePlacedTexts whole texts → i < length texts → t ≡ get_or texts i t
    → ArePlacedScopes whole (scopes_in t)
text_there whole texts i t placed below is = placed i t (slice_get_read texts (length texts) i t refl below is)

-- ---- what paths mean

pub meant : (w : Worlds) (s : Scope) (path moved : CodePath) (key : Key) (n : ℕ) → IsWorlds w → IsPlaced w.whole.now s.place
    → path_of s.place.whole.now moved ≡ routed (aliases_in s) (path_of s.place.from.now path)
    → ((docs : List Text) → named_there key ≡ named_by (record (head_of w.whole.now s.heading.head) { docs = docs }) (path_of w.whole.now moved))
    → lookup (same_keys key) w.numbers.entries ≡ Some n → Means w s path n
meant w s path moved key n index placed same says found =
    let at = lookup_stands (same_keys key) w.numbers.entries n found in
    let it = index.numbers at.0 n at.1 in
    let key_is : named_there key ≡ named_world (world_seen it.world_) = keys_same key at.0 at.2 ∙ it.named in
    let here : named_there key ≡ named_by (home_of_scope s) (path_of s.place.whole.now moved) =
    subst (λ (t : Text). named_there key ≡ named_by (documented_head t s.heading.docs s.heading.head) (path_of t moved)) (sym placed.is) (says (docs_of w.whole.now s.heading.docs)) in
    let by : named_there key ≡ named_by (home_of_scope s) (routed (aliases_in s) (path_of s.place.from.now path)) = here ∙ ap (named_by (home_of_scope s)) same in
    record { world_ = it.world_; stands = it.stands; named = same_itself _ (named_world (world_seen it.world_)) (sym by ∙ key_is) }

-- a place in a text that is the same
pub placed_in : (a b : Text) (s : Scope) → b ≡ a → IsPlaced a s.place → IsPlaced b s.place
placed_in a b s e p = subst (λ (t : Text). IsPlaced t s.place) (sym e) p

pub scopes_placed_in : (a b : Text) (xs ys : List Scope) → b ≡ a → ys ≡ xs → ArePlacedScopes a xs → ArePlacedScopes b ys
scopes_placed_in a b xs ys e f placed n s at = placed_in a b s e (placed n s (ap (λ (l : List Scope). slice_get l n) (sym f) ∙ at))

pub nested_placed : (whole : Text) (t : TextScopes) → ArePlacedScopes whole (scopes_in t) → ArePlacedScopes whole t.nested.items
nested_placed whole t placed n s e = placed (suc n) s e
