-- Names that are seen one after the other: the next canonical path, and what comes of a name that was seen.
use Rattle.std.proofs.Common.{rules as std_rules, ◌≡◌, refl, sym, ap, subst, ◌∙◌, ℕ, ◌<◌, ◌≤◌, ◌+◌, List, [], ◌∷◌, ◌++◌, append_assoc, add-one, drop, get_or, length, map, true, Result, IfErr}
use Rattle.std.proofs.{Math.Seq.drop-cons, lemmas.List.append-nil, lemmas.List.drop_all}
use Rattle.std.specs.{Prelude.IsErrAnd, Prelude.String, List.Contains}
use Rattle.std.specs.declared.alloc.Global.{Global}
use Rattle.wit_model.specs.Text.{Text, text_of}
use Rattle.wit_model.specs.declared.error.Error.{Error}
use Rattle.wit_model.specs.declared.model.{Resolve.Resolve, InterfaceId.InterfaceId, WorldKey.WorldKey, WorldItem.WorldItem}
use Rattle.encode_names.specs.WorldNames.{written_path}
use Rattle.encode_names.specs.Clashes.{canonical_names_of, canonical_paths_of, AreDifferent, IsFirstRepeatedName, RefusesItems, RefusesPaths, RefusesText}

-- ---- the next name

-- the names of these items, where this one is put behind those before
pub split-on : (names before before' rest : List Text) (x y : Text) → names ≡ before ++ (y ∷ rest) → x ≡ y → before' ≡ before ++ x ∷ [] → names ≡ before' ++ rest
split-on names before before' rest x y split is more = search (std_rules, append_assoc)

module _ (r : Resolve) (xs : List InterfaceId) (i : ℕ) where
  abbrev pub left : ℕ → List Text
  left k = canonical_paths_of r (map (λ (id : InterfaceId). id.0) (drop k xs))

  abbrev pub next : Text
  next = written_path r true (get_or xs i (record { 0 = 0 })).0

  pub path-next : i < length xs → left i ≡ next ∷ left (i + 1)
  path-next l = search (std_rules, add-one, drop-cons)

  pub paths-end : (names before : List Text) → length xs ≤ i → names ≡ before ++ left i → names ≡ before
  paths-end names before l split = search (std_rules, drop_all, append-nil)

-- ---- a name that was seen

module _ (names before rest : List Text) (x : Text) (split : names ≡ before ++ (x ∷ rest)) (different : AreDifferent before) where
  first-repeat : (name : String Global) → text_of name ≡ x → Contains before x → IsFirstRepeatedName names (text_of name)
  first-repeat name is seen = subst (IsFirstRepeatedName names) (sym is) (record { before = before; after = rest; is = split; repeats = seen; different = different })

items-refused : (r : Resolve) (items : List (WorldKey × WorldItem)) (before rest : List Text) (x : Text) (e : Error) → canonical_names_of r items ≡ before ++ (x ∷ rest) → AreDifferent before
    → RefusesText before x e → RefusesItems r items e
items-refused r items before rest x e split different (RefusesText.memory h) = RefusesItems.memory h
items-refused r items before rest x e split different (RefusesText.clash name is seen h) =
    RefusesItems.clash name (first-repeat (canonical_names_of r items) before rest x split different name is seen) h

paths-refused : (r : Resolve) (numbers : List ℕ) (before rest : List Text) (x : Text) (e : Error) → canonical_paths_of r numbers ≡ before ++ (x ∷ rest) → AreDifferent before
    → RefusesText before x e → RefusesPaths r numbers true e
paths-refused r numbers before rest x e split different (RefusesText.memory h) = RefusesPaths.memory h
paths-refused r numbers before rest x e split different (RefusesText.clash name is seen h) =
    RefusesPaths.clash refl name (first-repeat (canonical_paths_of r numbers) before rest x split different name is seen) h

pub passed : {X : Type 0} (P : Error → Type 0) (e : Error) (given : Result X Error) → P e → IsErrAnd given (λ f. f ≡ e) → IfErr given P
passed x e y p h = search std_rules

module _ {X : Type 0} (r : Resolve) (before rest : List Text) (x y : Text) (e : Error) (given : Result X Error) where
  pub items_refused : (items : List (WorldKey × WorldItem)) → canonical_names_of r items ≡ before ++ (y ∷ rest) → x ≡ y → AreDifferent before → RefusesText before x e
      → IsErrAnd given (λ f. f ≡ e) → IfErr given (RefusesItems r items)
  items_refused items split is different refuses h = passed (RefusesItems r items) e given (items-refused r items before rest x e (split ∙ ap (λ z. before ++ (z ∷ rest)) (sym is)) different refuses) h

  pub paths_refused : (numbers : List ℕ) → canonical_paths_of r numbers ≡ before ++ (y ∷ rest) → x ≡ y → AreDifferent before → RefusesText before x e
      → IsErrAnd given (λ f. f ≡ e) → IfErr given (RefusesPaths r numbers true)
  paths_refused numbers split is different refuses h =
      passed (RefusesPaths r numbers true) e given (paths-refused r numbers before rest x e (split ∙ ap (λ z. before ++ (z ∷ rest)) (sym is)) different refuses) h
