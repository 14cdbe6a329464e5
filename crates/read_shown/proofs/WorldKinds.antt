-- The kind of each name that a world declares: its imports have keys that differ.
use Rattle.std.proofs.Common.{◌≡◌, refl, sym, ap, subst, ◌∙◌, ℕ, zero, suc, Bool, true, false, cond, List, [], ◌∷◌, map, length, Option, Some, None, slice_get, unwrap_or}
use Rattle.wit_model.specs.{Text.Text, Text.text_eq, Tree.Place, Tree.Tree, Tree.TypeDeclaration}
use Rattle.wit_model.proofs.{VersionLaws.same_text, TextLemmas.text_same}
use Rattle.comp_meaning.specs.{Follow.Instance, Follow.Seen, Follow.Shown, Rules.distinct}
use Rattle.read_shown.specs.{Trees.AllAt, Trees.DeclarationStands, Kinds.kind_at, Kinds.OfKind, Kinds.ShownHasKind}
use Rattle.read_shown.specs.Scopes.{is_name, is_type, IsShownBefore, IsImported, IsDeclared, a_resource, a_value, own_name, name_of_instance, IsMetInScope, by_import, by_instance, ShownStands}
use Rattle.read_shown.proofs.{Lists.one_place, Scopes.declared_last, Scopes.imported_at, Wider.declaration_wider, Wider.signature_wider}
use Rattle.base_lemmas.proofs.{Lists.mapped_get, Options.some_is}

declared_is : (d e : TypeDeclaration) → Shown.declares d ≡ Shown.declares e → d ≡ e
declared_is d e h = cc

module _ (instances : List Instance) (imports : List Seen) (apart : distinct (map (λ (s : Seen). s.key) imports) ≡ true)
    (kinds : Text → Text → Bool) (are : (path name : Text) (b : Bool) → IsShownBefore instances (length instances) (Place.of_interface path) name b → b ≡ kinds path name) where
  -- one name, one declaration
  imported_once : (m n : ℕ) (x y : Text) (d e : TypeDeclaration) → x ≡ y → IsImported imports m x d → IsImported imports n y e → d ≡ e
  imported_once m n x y d e same i j = declared_is d e (sym i.shown ∙ (ap (λ (z : Seen). z.shown) (some_is _ _
      (sym i.at ∙ (ap (λ k. slice_get imports k) (one_place (map (λ (z : Seen). z.key) imports) apart i.number j.number y
      (mapped_get (λ (z : Seen). z.key) imports i.number i.seen i.at ∙ ap Some (i.key ∙ same)) (mapped_get (λ (z : Seen). z.key) imports j.number j.seen j.at ∙ ap Some j.key)) ∙ j.at))) ∙ j.shown))

  -- what the import of a name declares
  declaration_of : {m : ℕ} {x : Text} {b : Bool} → IsDeclared instances imports m x b → (d : TypeDeclaration) × IsImported imports m x d
  declaration_of (a_resource i) = (TypeDeclaration.resource, i)
  declaration_of (a_value t plain i) = (TypeDeclaration.type_ t, i)
  declaration_of (own_name o i d) = (TypeDeclaration.type_ (Tree.named Place.here o), i)
  declaration_of (name_of_instance p o i s) = (TypeDeclaration.type_ (Tree.named (Place.of_interface p) o), i)

  abbrev names_another : TypeDeclaration → Bool
  names_another TypeDeclaration.resource = false
  names_another (TypeDeclaration.type_ t) = is_name t

  declared_alike : {m n : ℕ} {x y : Text} {b c : Bool} (i : IsDeclared instances imports m x b) (j : IsDeclared instances imports n y c) → (declaration_of i).0 ≡ (declaration_of j).0
      → names_another (declaration_of i).0 ≡ names_another (declaration_of j).0 → b ≡ c
  unfolding declaration_of
  declared_alike (a_resource i) (a_resource j) e k = refl
  declared_alike (a_value t plain i) (a_value u other j) e k = refl
  declared_alike (own_name o i d) (own_name w j f) e k =
      let name : o ≡ w = cc in
      let next = imported_once i.number j.number o w (declaration_of d).0 (declaration_of f).0 name (declaration_of d).1 (declaration_of f).1 in
      declared_alike d f next (ap names_another next)
  declared_alike {b = b} {c = c} (name_of_instance p o i s) (name_of_instance q w j t) e k =
      let path : p ≡ q = cc in
      let name : o ≡ w = cc in
      are p o b s ∙ ((λ k. kinds (path k) (name k)) ∙ sym (are q w c t))
  declared_alike (a_value t plain i) _ e k = absurd cc
  declared_alike _ (a_value t plain j) e k = absurd cc
  declared_alike _ _ e k = absurd cc

  -- ---- the kind of a key, from what its import declares

  kind_shown : (n : ℕ) (s : Shown) → ShownStands instances imports n s → Option Bool
  kind_shown n (Shown.instance key view) h = None
  kind_shown n (Shown.function f) h = None
  kind_shown n (Shown.declares d) h = Some h.0

  kind_shown_is : (n : ℕ) (s : Shown) (h : ShownStands instances imports n s) (d : TypeDeclaration) → s ≡ Shown.declares d → (b : Bool) × (kind_shown n s h ≡ Some b)
      × DeclarationStands (IsMetInScope instances imports n) d b
  unfolding kind_shown
  kind_shown_is n (Shown.instance key view) h d e = absurd cc
  kind_shown_is n (Shown.function f) h d e = absurd cc
  kind_shown_is n (Shown.declares c) h d e = (h.0, refl, subst (λ (x : TypeDeclaration). DeclarationStands (IsMetInScope instances imports n) x h.0) (declared_is c d e) h.1)

  -- what is found for the first import of a key
  keyed : (xs : List Seen) → ((n : ℕ) (s : Seen) → slice_get xs n ≡ Some s → Option Bool) → Text → Option Bool
  keyed [] found name = None
  keyed (s ∷ xs) found name = cond (text_eq name s.key) (found zero s refl) (keyed xs (λ n x e. found (suc n) x e) name)

  keyed_is : (xs : List Seen) (found : (n : ℕ) (s : Seen) → slice_get xs n ≡ Some s → Option Bool) (name : Text) (n : ℕ) (s : Seen) → slice_get xs n ≡ Some s → s.key ≡ name
      → (k : ℕ) × (x : Seen) × (e : slice_get xs k ≡ Some x) × (x.key ≡ name) × (keyed xs found name ≡ found k x e)
  unfolding keyed
  keyed_is [] found name n s at is = absurd cc
  keyed_is (y ∷ xs) found name zero s at is =
      let same : y.key ≡ name = ap (λ (z : Seen). z.key) (some_is y s at) ∙ is in
      (zero, y, refl, same, ap (λ b. cond b (found zero y refl) (keyed xs (λ n x e. found (suc n) x e) name)) (same_text name y.key (sym same)))
  keyed_is (y ∷ xs) found name (suc n) s at is = by (text_eq name y.key) refl (keyed_is xs (λ k x e. found (suc k) x e) name n s at is)
    where
      by : (b : Bool) → text_eq name y.key ≡ b → (k : ℕ) × (x : Seen) × (e : slice_get xs k ≡ Some x) × (x.key ≡ name) × (keyed xs (λ j z h. found (suc j) z h) name ≡ found (suc k) x e)
          → (k : ℕ) × (x : Seen) × (e : slice_get (y ∷ xs) k ≡ Some x) × (x.key ≡ name) × (cond b (found zero y refl) (keyed xs (λ j z h. found (suc j) z h) name) ≡ found k x e)
      by true same rest = (zero, y, refl, sym (text_same name y.key same), refl)
      by false same rest = (suc rest.0, rest.1, rest.2, rest.3, rest.4)

  module _ (stand : AllAt (λ n (s : Seen). ShownStands instances imports n s.shown) imports) where
    pub own_kind : Text → Bool
    own_kind name = unwrap_or (keyed imports (λ n s e. kind_shown n s.shown (stand n s e)) name) false

    own_is : {n : ℕ} {name : Text} {b : Bool} → IsDeclared instances imports n name b → b ≡ own_kind name
    unfolding own_kind
    own_is {n} {name} {b} d = by (declaration_of d).0 (declaration_of d).1
      where
        by : (e : TypeDeclaration) → IsImported imports n name e → b ≡ own_kind name
        by e i =
            let first = keyed_is imports (λ k s h. kind_shown k s.shown (stand k s h)) name i.number i.seen i.at i.key in
            let shown : first.1.shown ≡ Shown.declares e = ap (λ (z : Seen). z.shown)
            (some_is first.1 i.seen (sym first.2 ∙ (ap (λ k. slice_get imports k)
            (one_place (map (λ (z : Seen). z.key) imports) apart first.0 i.number name (mapped_get (λ (z : Seen). z.key) imports first.0 first.1 first.2 ∙ ap Some first.3)
            (mapped_get (λ (z : Seen). z.key) imports i.number i.seen i.at ∙ ap Some i.key)) ∙ i.at))) ∙ i.shown in
            let kind = kind_shown_is first.0 first.1.shown (stand first.0 first.1 first.2) e shown in
            let last = declared_last instances imports (length imports) name e kind.0 (imported_at imports first.0 first.1 first.2 name e first.3 shown) kind.2 in
            let same = imported_once n (length imports) name name (declaration_of d).0 (declaration_of last).0 refl (declaration_of d).1 (declaration_of last).1 in
            declared_alike d last same (ap names_another same) ∙ sym (ap (λ o. unwrap_or o false) (first.4 ∙ kind.1))

    pub met_is : (n : ℕ) (place : Place) (name : Text) (b : Bool) → IsMetInScope instances imports n place name b → b ≡ kind_at kinds own_kind place name
    met_is n place name b (by_import here d) = own_is d ∙ ap (λ p. kind_at kinds own_kind p name) (sym here)
    met_is n place name b (by_instance s) = are s.path name b (subst (λ p. IsShownBefore instances (length instances) p name b) s.stands s) ∙ ap (λ p. kind_at kinds own_kind p name) (sym s.stands)

    -- what the imports and the exports declare and use
    pub import_is : (n : ℕ) (s : Seen) → slice_get imports n ≡ Some s → ShownHasKind (kind_at kinds own_kind) s.key s.shown
    import_is n s at = by s.shown refl (stand n s at)
      where
        by : (x : Shown) → s.shown ≡ x → ShownStands instances imports n x → ShownHasKind (kind_at kinds own_kind) s.key x
        by (Shown.instance key view) e h = tt
        by (Shown.function f) e h = signature_wider (IsMetInScope instances imports n) (OfKind (kind_at kinds own_kind)) (met_is n) f h
        by (Shown.declares d) e h =
            subst (DeclarationStands (OfKind (kind_at kinds own_kind)) d) (own_is (declared_last instances imports (length imports) s.key d h.0 (imported_at imports n s at s.key d refl e) h.1))
            (declaration_wider (IsMetInScope instances imports n) (OfKind (kind_at kinds own_kind)) (met_is n) d h.0 h.1)

    pub export_is : (s : Seen) → ShownStands instances imports (length imports) s.shown → is_type s.shown ≡ false → ShownHasKind (kind_at kinds own_kind) s.key s.shown
    export_is s h plain = by s.shown h plain
      where
        by : (x : Shown) → ShownStands instances imports (length imports) x → is_type x ≡ false → ShownHasKind (kind_at kinds own_kind) s.key x
        by (Shown.instance key view) k e = tt
        by (Shown.function f) k e = signature_wider (IsMetInScope instances imports (length imports)) (OfKind (kind_at kinds own_kind)) (met_is (length imports)) f k
        by (Shown.declares d) k e = absurd cc
