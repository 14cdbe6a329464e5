-- Packages of texts: what names them, and the names at their top.
use Rattle.std.proofs.Common.{◌≡◌, refl, sym, ap, ◌∙◌, subst, ℕ, ◌+◌, ◌<◌, ◌≤◌, ◌^◌, Bool, true, false, cond, nat_eq, is_some, List, [], ◌∷◌, ◌++◌, length, map, take, get_or, Option, Some, None, option_map, unwrap_or}
use Rattle.std.specs.{Borrow.Bor, List.AllZip, List.cons_option, Map.lookup}
use Rattle.std.proofs.lemmas.{List.Elements.filter_map-append, Option.slice_get_read}
use Rattle.base_lemmas.proofs.Lists.{append_of_map}
use Rattle.text_plain.proofs.WholeLaws.{turned}
use Rattle.base_lemmas.proofs.Elements.{zip-append}
use Rattle.base_lemmas.proofs.Numbers.{equal}
use Rattle.wit_model.specs.Text.{Text}
use Rattle.print_grammar.specs.Tree.{PackageHead, PathTree, PathTree.Local, PathTree.Full}
use Rattle.text_trees.specs.TextTreesSeen.{text_item_of}
use Rattle.text_trees.specs.TreesSeen.{head_of, path_of}
use Rattle.text_trees.specs.Seen.{cut}
use Rattle.text_trees.specs.declared.tree.{PackageHead.PackageHead as CodeHead, PathTree.PathTree as CodePath, Span.Span, TextItem.TextItem as CodeItem}
use Rattle.text_trees.specs.declared.tree.TextItem.TheVariants as kinds
use Rattle.text_plain.specs.declared.moving.Moving.{Moving}
use Rattle.text_plain.specs.declared.scopes.{TextScopes.TextScopes}
use Rattle.text_plain.specs.declared.whole.{Place.Place, PlacedText.PlacedText}
use Rattle.text_plain.specs.Moved.{routed}
use Rattle.text_plain.specs.Moves.{by_home, on_path, text_from, text_to}
use Rattle.text_plain.specs.Places.{ArePlaced, IsPlaced, at_place, placed_of}
use Rattle.text_plain.specs.Plain.{FolderText, alias_of, aliases_of, last_name, first_of, head_in, heads_in}
use Rattle.text_plain.specs.Scopes.{AreHeadsOf, IsTextScope, MovesBy, bare_head, routes_seen}

-- ---- the first name of a folder

or_else : Option PackageHead → Option PackageHead → Option PackageHead
or_else None b = b
or_else (Some a) b = Some a

or_none : (o : Option PackageHead) → or_else o None ≡ o
unfolding or_else
or_none None = refl
or_none (Some a) = refl

first_end : (xs : List PackageHead) (o : Option PackageHead) → first_of (xs ++ cons_option o []) ≡ or_else (first_of xs) o
unfolding or_else
first_end [] None = refl
first_end [] (Some a) = refl
first_end (x ∷ xs) o = refl

first_with : (f : ℕ) (texts : List FolderText) (t : FolderText) → first_of (heads_in f (texts ++ t ∷ [])) ≡ or_else (first_of (heads_in f texts)) (head_in f t)
first_with f texts t = ap first_of (filter_map-append (head_in f) texts (t ∷ [])) ∙ first_end (heads_in f texts) (head_in f t)

some_kept : (L : Option CodeHead) (F A : Option PackageHead) (h : CodeHead → PackageHead) → option_map h L ≡ option_map bare_head F → is_some L ≡ true → or_else F A ≡ F
unfolding or_else
some_kept None F A h e s = absurd cc
some_kept (Some l) None A h e s = absurd cc
some_kept (Some l) (Some f) A h e s = refl

none_first : (F : Option PackageHead) → option_map bare_head F ≡ None → F ≡ None
none_first None e = refl
none_first (Some f) e = absurd cc

else_none : (A : Option PackageHead) → or_else None A ≡ A
unfolding or_else
else_none A = refl

headless : (t : FolderText) (f : ℕ) → t.tree.head ≡ None → head_in f t ≡ None
headless t f e = by_test (nat_eq t.folder f)
  where
    by_test : (b : Bool) → cond b t.tree.head None ≡ None
    by_test true = e
    by_test false = refl

elsewhere : (t : FolderText) (f : ℕ) → nat_eq t.folder f ≡ false → head_in f t ≡ None
elsewhere t f e = rw e refl

module _ (whole : Text) (texts : List FolderText) (old : List (ℕ × CodeHead)) (held : AreHeadsOf whole texts old) (t : FolderText) where
  kept_none : (f : ℕ) → head_in f t ≡ None → option_map (head_of whole) (lookup (nat_eq f) old) ≡ option_map bare_head (first_of (heads_in f (texts ++ t ∷ [])))
  kept_none f e =
      held f ∙ ap (option_map bare_head) (sym (first_with f texts t ∙ (ap (or_else (first_of (heads_in f texts))) e ∙ or_none (first_of (heads_in f texts)))))

  kept_some : (f : ℕ) → is_some (lookup (nat_eq f) old) ≡ true
      → option_map (head_of whole) (lookup (nat_eq f) old) ≡ option_map bare_head (first_of (heads_in f (texts ++ t ∷ [])))
  kept_some f there =
      held f ∙ ap (option_map bare_head) (sym (first_with f texts t
      ∙ some_kept (lookup (nat_eq f) old) (first_of (heads_in f texts)) (head_in f t) (head_of whole) (held f) there))

  pub heads_without : t.tree.head ≡ None → AreHeadsOf whole (texts ++ t ∷ []) old
  heads_without e f = kept_none f (headless t f e)

  pub heads_known : is_some (lookup (nat_eq t.folder) old) ≡ true → AreHeadsOf whole (texts ++ t ∷ []) old
  heads_known there f = by_test (nat_eq t.folder f) refl
    where
      by_test : (b : Bool) → nat_eq t.folder f ≡ b → option_map (head_of whole) (lookup (nat_eq f) old) ≡ option_map bare_head (first_of (heads_in f (texts ++ t ∷ [])))
      by_test true e = kept_some f (subst (λ (n : ℕ). is_some (lookup (nat_eq n) old) ≡ true) (equal t.folder f e) there)
      by_test false e = kept_none f (elsewhere t f e)

  pub heads_added : (head : PackageHead) (copied : CodeHead) (new : List (ℕ × CodeHead)) → t.tree.head ≡ Some head → head_of whole copied ≡ bare_head head
      → lookup (nat_eq t.folder) old ≡ None → ((q : ℕ) → lookup (nat_eq q) new ≡ cond (nat_eq t.folder q) (Some copied) (lookup (nat_eq q) old))
      → AreHeadsOf whole (texts ++ t ∷ []) new
  heads_added head copied new says same fresh updates f = by_test (nat_eq t.folder f) refl
    where
      by_test : (b : Bool) → nat_eq t.folder f ≡ b → option_map (head_of whole) (lookup (nat_eq f) new) ≡ option_map bare_head (first_of (heads_in f (texts ++ t ∷ [])))
      by_test true e =
          let found : lookup (nat_eq f) new ≡ Some copied = updates f ∙ ap (λ (b : Bool). cond b (Some copied) (lookup (nat_eq f) old)) e in
          let gone : lookup (nat_eq f) old ≡ None = subst (λ (n : ℕ). lookup (nat_eq n) old ≡ None) (equal t.folder f e) fresh in
          let first : first_of (heads_in f texts) ≡ None = none_first (first_of (heads_in f texts)) (sym (held f) ∙ ap (option_map (head_of whole)) gone) in
          let is : head_in f t ≡ Some head = ap (λ (b : Bool). cond b t.tree.head None) e ∙ says in
          ap (option_map (head_of whole)) found ∙ (ap Some same ∙ ap (option_map bare_head)
          (sym (first_with f texts t ∙ (ap (λ (o : Option PackageHead). or_else o (head_in f t)) first ∙ (else_none (head_in f t) ∙ is)))))
      by_test false e = ap (option_map (head_of whole)) (updates f ∙ ap (λ (b : Bool). cond b (Some copied) (lookup (nat_eq f) old)) e) ∙ kept_none f (elsewhere t f e)

-- ---- names at the top

pub alias_said : (from : Text) (path : CodePath) (own : Option Span) (last at : Span) → ((text : Text) → cut text last ≡ last_name (path_of text path)) → at ≡ unwrap_or own last
    → cut from at ≡ unwrap_or (option_map (cut from) own) (last_name (path_of from path))
alias_said from path None last at is e = ap (cut from) e ∙ is from
alias_said from path (Some own) last at is e = ap (cut from) e

pub route_added : (whole from : Text) (old new : List (Bor (List ℕ) × CodePath)) (key : Bor (List ℕ)) (moved path : CodePath) (own : Option Span) (item : CodeItem)
    → item ≡ kinds.AName path own → new ≡ old ++ (key, moved) ∷ [] → key.now ≡ unwrap_or (option_map (cut from) own) (last_name (path_of from path))
    → path_of whole moved ≡ path_of from path → routes_seen whole new ≡ routes_seen whole old ++ aliases_of (text_item_of from item ∷ [])
route_added whole from old new key moved path own item is more name same =
    ap (routes_seen whole) more ∙ (append_of_map (λ e. (e.0.now, path_of whole e.1)) old ((key, moved) ∷ [])
    ∙ (ap (λ (e : Text × PathTree). routes_seen whole old ++ e ∷ []) (pair_is key.now _ (path_of whole moved) (path_of from path) name same)
    ∙ ap (λ (x : CodeItem). routes_seen whole old ++ aliases_of (text_item_of from x ∷ [])) (sym is)))
  where
    pair_is : (a b : Text) (p q : PathTree) → a ≡ b → p ≡ q → ◌≡◌ {A = Text × PathTree} (a, p) (b, q)
    pair_is a b p q e f = cc

pub routes_turn : (whole from : Text) (items : List CodeItem) (i : ℕ) (x : CodeItem) (old new : List (Text × PathTree)) → i < length items → x ≡ get_or items i x
    → old ≡ aliases_of (map (text_item_of from) (take i items)) → new ≡ old ++ aliases_of (text_item_of from x ∷ [])
    → new ≡ aliases_of (map (text_item_of from) (take (i + 1) items))
routes_turn whole from items i x old new below is held more =
    more ∙ (ap (λ (l : List (Text × PathTree)). l ++ aliases_of (text_item_of from x ∷ [])) held
    ∙ (sym (filter_map-append alias_of (map (text_item_of from) (take i items)) (text_item_of from x ∷ []))
    ∙ (ap aliases_of (sym (append_of_map (text_item_of from) (take i items) (x ∷ []))) ∙ ap (λ (l : List CodeItem). aliases_of (map (text_item_of from) l)) (sym (turned items i x below is)))))

pub head_copied : (place : Place) (names : Text → Text) (paths : PathTree → PathTree) (moving : Moving) → MovesBy place names paths moving → (head copied : CodeHead)
    → head_of (text_to moving) copied ≡ head_of (text_from moving) head → head_of place.whole.now copied ≡ head_of place.from.now head
head_copied place names paths moving moves head copied e =
    ap (λ (t : Text). head_of t copied) (sym moves.to_is) ∙ (e ∙ ap (λ (t : Text). head_of t head) moves.from_is)

pub span_copied : (place : Place) (names : Text → Text) (paths : PathTree → PathTree) (moving : Moving) → MovesBy place names paths moving → (span copied : Span)
    → cut (text_to moving) copied ≡ cut (text_from moving) span → cut place.whole.now copied ≡ cut place.from.now span
span_copied place names paths moving moves span copied e =
    ap (λ (t : Text). cut t copied) (sym moves.to_is) ∙ (e ∙ ap (λ (t : Text). cut t span) moves.from_is)

pub path_copied : (place : Place) (names : Text → Text) (paths : PathTree → PathTree) (moving : Moving) → MovesBy place names paths moving → (path copied : CodePath)
    → path_of (text_to moving) copied ≡ on_path moving (path_of (text_from moving) path) → path_of place.whole.now copied ≡ paths (path_of place.from.now path)
path_copied place names paths moving moves path copied e =
    ap (λ (t : Text). path_of t copied) (sym moves.to_is)
    ∙ (e ∙ (ap (λ (f : PathTree → PathTree). f (path_of (text_from moving) path)) moves.paths_are ∙ ap (λ (t : Text). paths (path_of t path)) moves.from_is))

-- ---- how trees come

no_paths : (p : PathTree) → by_home None (routed [] p) ≡ p
no_paths (Local name) = refl
no_paths (Full namespace name interface version) = refl

pub moves_at : (place : Place) (moving : Moving) → IsPlaced place.whole.now place → moving ≡ at_place place → MovesBy place (λ name. name) (λ path. path) moving
moves_at place moving placed is = subst (λ (m : Moving). MovesBy place (λ name. name) (λ path. path) m) (sym is)
    (record { fits = record { stands = placed.stands; within = placed.within; short = placed.short }; from_is = refl; to_is = refl; names_are = λ i n. n; paths_are = λ i p. no_paths p i })

-- ---- loops over texts

pub its_place : (whole : Text) (texts : List PlacedText) (i : ℕ) (it : PlacedText) → ArePlaced whole texts → i < length texts → it ≡ get_or texts i it → IsPlaced whole it.place
its_place whole texts i it placed below is = placed i it (slice_get_read texts (length texts) i it refl below is)

pub own_place : {whole : Text} {place : Place} → IsPlaced whole place → IsPlaced place.whole.now place
own_place {whole} {place} p = record {
  is = refl;
  stands = p.stands;
  within = subst (λ (t : Text). place.base + length place.from.now ≤ length t) (sym p.is) p.within;
  short = subst (λ (t : Text). length t < 2 ^ 32) (sym p.is) p.short;
}

pub heads_turn : (whole : Text) (texts : List PlacedText) (i : ℕ) (it : PlacedText) → ArePlaced whole texts → i < length texts → it ≡ get_or texts i it
    → (old new : List (ℕ × CodeHead)) → AreHeadsOf whole (map placed_of (take i texts)) old
    → ((ts : List FolderText) → AreHeadsOf it.place.whole.now ts old → AreHeadsOf it.place.whole.now (ts ++ placed_of it ∷ []) new)
    → AreHeadsOf whole (map placed_of (take (i + 1) texts)) new
heads_turn whole texts i it placed below is old new held adds =
    let here = its_place whole texts i it placed below is in
    let more = adds (map placed_of (take i texts)) (subst (λ (t : Text). AreHeadsOf t (map placed_of (take i texts)) old) (sym here.is) held) in
    let all : map placed_of (take i texts) ++ placed_of it ∷ [] ≡ map placed_of (take (i + 1) texts) =
    sym (append_of_map placed_of (take i texts) (it ∷ [])) ∙ ap (map placed_of) (sym (turned texts i it below is)) in
    subst (λ (ts : List FolderText). AreHeadsOf whole ts new) all (subst (λ (t : Text). AreHeadsOf t (map placed_of (take i texts) ++ placed_of it ∷ []) new) here.is more)

-- ---- loops over scopes

pub zip_turn : {A B C : Type 0} (R : B → C → Type 0) (f : A → B) (xs : List A) (i : ℕ) (x : A) (old new : List C) (y : C) → i < length xs → x ≡ get_or xs i x
    → AllZip R (map f (take i xs)) old → new ≡ old ++ y ∷ [] → R (f x) y → AllZip R (map f (take (i + 1) xs)) new
zip_turn R f xs i x old new y below is held more here =
    let all : map f (take (i + 1) xs) ≡ map f (take i xs) ++ f x ∷ [] = ap (map f) (turned xs i x below is) ∙ append_of_map f (take i xs) (x ∷ []) in
    rw (all, more) (zip-append R (map f (take i xs)) old (f x ∷ []) (y ∷ []) held (here, tt))

pub text_scope_there : (whole own : Text) (heads : List (ℕ × CodeHead)) (texts : List FolderText) (t : FolderText) (s : TextScopes) → own ≡ whole → AreHeadsOf whole texts heads
    → ((ts : List FolderText) → AreHeadsOf own ts heads → IsTextScope ts own t s) → IsTextScope texts whole t s
text_scope_there whole own heads texts t s is held says =
    subst (λ (w : Text). IsTextScope texts w t s) is (says texts (subst (λ (w : Text). AreHeadsOf w texts heads) (sym is) held))
