-- The keys of the imports, and of the exports, of a world are texts of which none stands twice.
use Rattle.std.proofs.Common.{rules as std_rules, ◌≡◌, ◌⊎◌, inl, inr, refl, sym, ap, ◌∙◌, ℕ, Bool, true, false, not, ◌&&◌, ◌==◌, List, [], ◌∷◌, ◌++◌, map, Some, String, unwrap_or, arith}
use Rattle.std.proofs.lemmas.{Cmp.nat_list_eq_equiv, Bool.both_ways, Bool.false_from_ne_true}
use Rattle.std.specs.declared.alloc.Global.{Global}
use Rattle.std.specs.{Prelude.is_some, List.Contains, List.AllByRecursion, List.IsDistinct, List.list_all}
use Rattle.wit_model.specs.{Text.Text, Text.text_of, Text.text_eq, Rules.is_name_key, Rules.is_freestanding, Rules.is_member}
use Rattle.wit_model.specs.{Names.is_label, Names.begins_with_letter, Lookup.interface_path, Lookup.key_text, Valid.IsValid, Valid.key_eq, Valid.as_world}
use Rattle.wit_model.specs.declared.model.{Resolve.Resolve, WorldKey.WorldKey, WorldItem.WorldItem, Function.Function}
use Rattle.wit_model.proofs.{NameLaws.label_lacks, NameLaws.identity_namespace, OnePath.has-path, OnePath.package-name, OnePath.path-once}
use Rattle.wit_model.proofs.TextLemmas.{text_same as text-same}
use Rattle.encode_shown.proofs.{Entries.IsEntry, Entries.interface-key-path}
use Rattle.base_lemmas.proofs.{Bools.left_of as first_true, Bools.right_of as second_true, Bools.no-and, Elements.contains-later, Numbers.differ}
use Rattle.base_lemmas.proofs.Options.{there as some-of}
use Rattle.wit_model.specs.declared.model.WorldKey.TheVariants as key

-- a key is a path, or a label, or the name of a function of a resource
abbrev pub IsKey : Resolve → WorldKey → Type 0
IsKey r (key.Interface id) = is_some (interface_path r id.0) ≡ true
IsKey r (key.Name name) = (is_label (text_of name) ≡ true) ⊎ (begins_with_letter (text_of name) ≡ false)

-- ---- first bytes

front-letter : (xs ys : Text) → begins_with_letter xs ≡ true → begins_with_letter (xs ++ ys) ≡ true
front-letter x ys h = search std_rules

colon-there : (xs ys : Text) → list_all (λ b. not (b == 58)) (xs ++ (58 ∷ ys)) ≡ false
colon-there [] ys = refl
colon-there (x ∷ xs) ys = ap (λ c. not (x == 58) && c) (colon-there xs ys) ∙ no-and (not (x == 58))

-- a key that is a name is this one
pub named-key : (k : WorldKey) (t : Text) → is_name_key t k ≡ true → (name : String Global) × (k ≡ key.Name name) × (text_of name ≡ t)
named-key (key.Name name) t h = (name, refl, text-same (text_of name) t h)
named-key (key.Interface id) t h = absurd cc

module _ (r : Resolve) (v : IsValid r) (n : ℕ) where
  member-key : (name : String Global) (f : Function) → is_freestanding f.kind ≡ false → text_of name ≡ text_of f.name → is_member r (as_world n) f ≡ true → begins_with_letter (text_of name) ≡ false
  member-key name f free same h = search std_rules

  -- the key of an import or an export is one
  pub entry-key : (k : WorldKey) (i : WorldItem) → IsEntry r n (k, i) → IsKey r k
  entry-key x i is = search (std_rules, interface-key-path, member-key, text-same, first_true, second_true)

  -- ---- texts

  not-same : (f : Text → Bool) (t u : Text) → f t ≡ true → f u ≡ false → text_eq t u ≡ false
  not-same f t u h g = false_from_ne_true (text_eq t u) (λ e. both_ways (f t) (ap f (text-same t u e) ∙ g) h)

  path-letter : (m : ℕ) (path : Text) → interface_path r m ≡ Some path → begins_with_letter path ≡ true
  path-letter m path e =
      let h = has-path r m path e in
      let p = package-name r v h.home.0 h.package_ h.stands in
      ap begins_with_letter h.spelled ∙ front-letter (text_of h.package_.name.namespace) _ (first_true _ _ (identity_namespace (Rattle.wit_model.specs.Lookup.identity_of h.package_.name) p.identity))

  path-colon : (m : ℕ) (path : Text) → interface_path r m ≡ Some path → list_all (λ b. not (b == 58)) path ≡ false
  path-colon m path e = let h = has-path r m path e in ap (list_all (λ b. not (b == 58))) h.spelled ∙ colon-there (text_of h.package_.name.namespace) _

  name-apart : (name : String Global) (m : ℕ) (path : Text) → IsKey r (key.Name name) → interface_path r m ≡ Some path → text_eq (text_of name) path ≡ false
  name-apart name m path (inl h) e = not-same (list_all (λ b. not (b == 58))) (text_of name) path (label_lacks 58 refl (text_of name) h) (path-colon m path e)
  name-apart name m path (inr h) e = nat_list_eq_equiv.symm (text_of name) path ∙ not-same begins_with_letter path (text_of name) (path-letter m path e) h

  -- paths of two interfaces
  pub paths-apart : (a b : ℕ) (p q : Text) → interface_path r a ≡ Some p → interface_path r b ≡ Some q → (a == b) ≡ false → text_eq p q ≡ false
  paths-apart a b p q e f d = false_from_ne_true (text_eq p q) (λ h. differ a b d (path-once r v a b p e (f ∙ ap Some (sym (text-same p q h)))))

  keys-apart : (a b : WorldKey) → IsKey r a → IsKey r b → key_eq a b ≡ false → text_eq (key_text r a) (key_text r b) ≡ false
  keys-apart x y h g e = search (std_rules, some-of, unwrap_or, name-apart, nat_list_eq_equiv, paths-apart)

  all-apart : (k : WorldKey) (ks : List WorldKey) → IsKey r k → ((l : WorldKey) → Contains ks l → IsKey r l) → AllByRecursion (λ l. key_eq k l ≡ false) ks
      → AllByRecursion (λ y. text_eq (key_text r k) y ≡ false) (map (key_text r) ks)
  all-apart k [] h g a = tt
  all-apart k (l ∷ ks) h g a = (keys-apart k l h (g l (0, omega arith, refl)) a.0, all-apart k ks h (λ m c. g m (contains-later l ks m c)) a.1)

  pub keys-distinct : (ks : List WorldKey) → ((k : WorldKey) → Contains ks k → IsKey r k) → IsDistinct key_eq ks → IsDistinct text_eq (map (key_text r) ks)
  unfolding IsDistinct
  keys-distinct [] h d = tt
  keys-distinct (k ∷ ks) h d = (all-apart k ks (h k (0, omega arith, refl)) (λ l c. h l (contains-later k ks l c)) d.0, keys-distinct ks (λ l c. h l (contains-later k ks l c)) d.1)
