-- Two maps made of lists of entries are the same where their lists are as long, and each entry of the one is found in the other.
use Rattle.std.proofs.Common.{rules as std_rules, ◌≡◌, refl, ap, Bool, List, [], ◌∷◌, map, Option, Some, None, option_map, is_some, sym, subst, ◌∙◌, arith, ◌≤◌, true, false, ◌||◌, cond, length, IsSome, ◌↔◌, IsTrue, String}
use Rattle.std.proofs.Math.ListN.{length-map}
use Rattle.std.proofs.lemmas.{Cmp.nat_list_cmp_total, Cmp.nat_list_eq_equiv, Map.Iter.rest_all, Map.Iter.rest_more, Map.Keys.IsDistinct-cons, Map.Steps.length-le_from_keys}
use Rattle.std.specs.declared.alloc.Global.{Global}
use Rattle.wit_model.specs.Text.{Text, TextMap, text_cmp, text_eq, text_of}
use Rattle.compat_meaning.proofs.Sided.{never, not_same}
use Rattle.base_lemmas.proofs.{Elements.contains-later, Elements.contains-map, Elements.first-contained, Maps.lookup_of_map, Options.there as some_there}
use Rattle.std.specs.{Borrow.Bor, List.Contains, List.IsDistinct, List.list_any, Map.keys_of, Map.lookup, Prelude.string_eq}
use Rattle.std.specs.Map.Iter.{TakesFirst, deref_pair}
use Rattle.std.specs.FinMap.{find, from_entries, get-from_entries, same_map, slice_cmp-IsAntisymmetric, nat_cmp-IsAntisymmetric}
use Rattle.wit_model.proofs.{AnyOrder.distinct-texts, AnyOrder.same-text, AnyOrder.there-found, TextLemmas.none_of_texts as all_apart, TextLemmas.text_same as text-same}
use Rattle.wit_model.proofs.Lists.{lookup_any}

module _ {X : Type 0} where
  abbrev as_map : List (Text × X) → TextMap X
  as_map es = from_entries es

  -- what a list has under a name
  abbrev pub under : Text → List (Text × X) → Option X
  under q es = lookup (text_eq q) es

  find_is : (q : Text) (es : List (Text × X)) → find text_cmp q es ≡ under q es
  find_is q [] = refl
  find_is q (e ∷ es) = let rest = find_is q es in let key = same-text q e.0 in λ i. cond (key i) (Some e.1) (rest i)

  -- ---- maps and their look-ups

  pub maps_same : (es fs : List (Text × X)) → ((q : Text) → under q es ≡ under q fs) → as_map es ≡ as_map fs
  maps_same es fs same = same_map nat_list_cmp_total (slice_cmp-IsAntisymmetric nat_cmp-IsAntisymmetric) (as_map es) (as_map fs)
      (λ q. get-from_entries nat_list_cmp_total es q ∙ find_is q es ∙ same q ∙ sym (find_is q fs) ∙ sym (get-from_entries nat_list_cmp_total fs q))

  pub found_same : (es fs : List (Text × X)) → as_map es ≡ as_map fs → (q : Text) → under q es ≡ under q fs
  found_same es fs same q =
      sym (find_is q es) ∙ sym (get-from_entries nat_list_cmp_total es q) ∙ ap (λ m. Rattle.std.specs.FinMap.get m q) same ∙ get-from_entries nat_list_cmp_total fs q ∙ find_is q fs

  -- ---- each entry of a list is found in another

  abbrev pub AreFound : List (Text × X) → List (Text × X) → Type 0
  AreFound fs [] = Unit {0}
  AreFound fs (e ∷ es) = (under e.0 fs ≡ Some e.1) × AreFound fs es

  found_by : (fs es : List (Text × X)) → AreFound fs es → (q : Text) (x : X) → under q es ≡ Some x → under q fs ≡ Some x
  found_by fs [] a q x h = let wrong : ⊥ = cc in absurd wrong
  found_by fs (e ∷ es) a q x h = by (text_eq q e.0) refl h (found_by fs es a.1 q x)
    where
      by : (b : Bool) → text_eq q e.0 ≡ b → cond b (Some e.1) (under q es) ≡ Some x → (under q es ≡ Some x → under q fs ≡ Some x) → under q fs ≡ Some x
      by x t h later = search std_rules

  -- a name among those of the list
  key_some : (q : Text) (es : List (Text × X)) → list_any (text_eq q) (keys_of es) ≡ true → IsSome (under q es)
  key_some q es h = lookup_any (text_eq q) es ∙ h

  abbrev pub AreApart : List (Text × X) → Type 0
  AreApart es = IsDistinct text_eq (keys_of es)

  module _ (es fs : List (Text × X)) where
    pub entry_found : AreApart es → (q : Text) (x : X) → Contains es (q, x) → under q es ≡ Some x
    entry_found d q x c = sym (find_is q es) ∙ there-found es q x d c

    -- as many names, each found, leave none over
    none_over : AreApart es → length es ≡ length fs → AreFound fs es → (q : Text) → under q es ≡ None → under q fs ≡ None
    none_over d l a q none = by (under q fs) refl
      where
        no_key : list_any (text_eq q) (keys_of es) ≡ false
        no_key = sym (lookup_any (text_eq q) es) ∙ ap is_some none

        within : IsSome (under q fs) → (k : Text) → (b : Bool) → text_eq k q ≡ b → (b || list_any (text_eq k) (keys_of es)) ≡ true → IsSome (under k fs)
        within s k true t h = ap (λ z. is_some (under z fs)) (text-same k q t) ∙ s
        within s k false t h = let x = some_there (under k es) (key_some k es h) in ap is_some (found_by fs es a k x.0 x.1)

        by : (o : Option X) → under q fs ≡ o → o ≡ None
        by None e = refl
        by (Some x) e =
            let more : length (q ∷ keys_of es) ≤ length fs = length-le_from_keys nat_list_eq_equiv (q ∷ keys_of es) fs (IsDistinct-cons text_eq q (keys_of es) (all_apart q (keys_of es) no_key) d)
            (λ k h. within (ap is_some e) k (text_eq k q) refl h) in
            let keys : length (keys_of es) ≡ length es = length-map es (λ e. e.0) in
            absurd (omega (arith, more, keys, l))

    pub same_lists : AreApart es → length es ≡ length fs → AreFound fs es → as_map es ≡ as_map fs
    same_lists d l a = maps_same es fs (λ q. by q (under q es) refl)
      where
        by : (q : Text) (o : Option X) → under q es ≡ o → under q es ≡ under q fs
        by q (Some x) e = e ∙ sym (found_by fs es a q x e)
        by q None e = e ∙ sym (none_over d l a q e)

    no_longer : AreApart es → as_map es ≡ as_map fs → length es ≤ length fs
    no_longer d same =
        let keys : length (keys_of es) ≡ length es = length-map es (λ e. e.0) in
        let le : length (keys_of es) ≤ length fs = length-le_from_keys nat_list_eq_equiv (keys_of es) fs d (λ q h. ap is_some (sym (found_same es fs same q)) ∙ key_some q es h) in
        omega (arith, keys, le)

  pub as_long : (es fs : List (Text × X)) → AreApart es → AreApart fs → as_map es ≡ as_map fs → length es ≡ length fs
  as_long es fs d e same = let l = no_longer es fs d same in let m = no_longer fs es e (sym same) in omega (arith, l, m)

-- ---- along a loop over the entries of the one list

module _ {K A X : Type 0} (text : K → Text) (meaning : A → X) where
  abbrev pub entry : K × A → Text × X
  entry e = (text e.0, meaning e.1)

  keys_are : (es : List (K × A)) → keys_of (map entry es) ≡ map text (keys_of es)
  keys_are [] = refl
  keys_are (e ∷ es) = ap (λ ks. text e.0 ∷ ks) (keys_are es)

  -- What a loop knows that found every entry so far: if those that are left are found, all are; and they are of the list.
  pub record IsAlong (fs : List (Text × X)) (es rest : List (K × A)) : Type 0 where
    pub found : AreFound fs (map entry rest) → AreFound fs (map entry es)
    pub there : (e : K × A) → Contains rest e → Contains es e

  pub from_start : (fs : List (Text × X)) (es rest : List (K × A)) → rest ≡ es → IsAlong fs es rest
  from_start fs es rest e = record { found = λ h. subst (λ xs. AreFound fs (map entry xs)) e h; there = λ x c. subst (λ xs. Contains xs x) e c }

  module _ (fs : List (Text × X)) (es rest next : List (K × A)) (k : K) (a : A) (along : IsAlong fs es rest) (split : rest ≡ (k, a) ∷ next) where
    next_there : Contains es (k, a)
    next_there = along.there (k, a) (subst (λ xs. Contains xs (k, a)) (sym split) (first-contained (k, a) next))

    one_more : under (text k) fs ≡ Some (meaning a) → IsAlong fs es next
    one_more h = record {
      found = λ g. along.found (subst (λ xs. AreFound fs (map entry xs)) (sym split) (h, g));
      there = λ x c. along.there x (subst (λ xs. Contains xs x) (sym split) (contains-later (k, a) next x c));
    }

    -- an entry that isn't found tells the maps apart
    not_found : IsDistinct text_eq (map text (keys_of es)) → (under (text k) fs ≡ Some (meaning a) → ⊥) → from_entries (map entry es) ≡ from_entries {R = text_cmp} fs → ⊥
    not_found d differ same = differ (sym (found_same (map entry es) fs same (text k)) ∙ entry_found (map entry es) fs (subst (IsDistinct text_eq) (sym (keys_are es)) d) (text k) (meaning a)
        (contains-map entry es (k, a) next_there))

  at_end : (fs : List (Text × X)) (es rest : List (K × A)) → IsAlong fs es rest → rest ≡ [] → length es ≡ length fs → IsDistinct text_eq (map text (keys_of es))
      → from_entries (map entry es) ≡ from_entries {R = text_cmp} fs
  at_end fs es rest along none l d =
      same_lists (map entry es) fs (subst (IsDistinct text_eq) (sym (keys_are es)) d) (length-map es entry ∙ l) (along.found (subst (λ xs. AreFound fs (map entry xs)) (sym none) tt))

  -- what is found under a name of the list of entries
  pub under_is : (q : Text) (es : List (K × A)) → under q (map entry es) ≡ option_map meaning (lookup (λ k. text_eq q (text k)) es)
  under_is q es = lookup_of_map (text_eq q) text meaning es

-- lists of different lengths
module _ {K L A B X : Type 0} (text : K → Text) (other : L → Text) (f : A → X) (g : B → X) (es : List (K × A)) (fs : List (L × B)) where
  lengths_differ : IsDistinct text_eq (map text (keys_of es)) → IsDistinct text_eq (map other (keys_of fs)) → (length es ≡ length fs → ⊥)
      → from_entries (map (entry text f) es) ≡ from_entries {R = text_cmp} (map (entry other g) fs) → ⊥
  lengths_differ d e differ same = search (std_rules, length-map, as_long, keys_are)

-- ---- a loop over the entries of one map that looks each up in another

module _ {A X : Type 0} (f g : A → X) (es fs : List (String Global × A)) where
  abbrev AreSame : Type 0
  AreSame = from_entries {R = text_cmp} (map (entry text_of f) es) ≡ from_entries (map (entry text_of g) fs)

  pub lengths_apart : IsDistinct string_eq (keys_of es) → IsDistinct string_eq (keys_of fs) → (length es ≡ length fs → ⊥) → IsTrue false ↔ AreSame
  lengths_apart d e differ = never _ (lengths_differ text_of text_of f g es fs (distinct-texts _ d) (distinct-texts _ e) differ)

  module _ (rest next : List (String Global × A)) (o : Option (Bor (String Global) × Bor A)) where
    module _ (x : Bor (String Global) × Bor A) (along : IsAlong text_of f (map (entry text_of g) fs) es rest) (is : o ≡ Some x)
        (steps : TakesFirst deref_pair rest o next) where
      split : rest ≡ (x.0.now, x.1.now) ∷ next
      split = rest_more deref_pair rest next o x is steps

      abbrev IsFound : Bool → Type 0
      IsFound b = IsTrue b ↔ (option_map g (lookup (λ k. text_eq (text_of x.0.now) (text_of k)) fs) ≡ Some (f x.1.now))

      pub stands : Contains es (x.0.now, x.1.now)
      stands = next_there text_of f _ es rest next x.0.now x.1.now along split

      pub found_under : (b : Bool) → IsFound b → b ≡ true → IsAlong text_of f (map (entry text_of g) fs) es next
      found_under b h t = one_more text_of f _ es rest next x.0.now x.1.now along split (under_is text_of g (text_of x.0.now) fs ∙ h.0 t)

      pub not_under : IsDistinct string_eq (keys_of es) → (b : Bool) → IsFound b → b ≡ false → IsTrue false ↔ AreSame
      not_under d b h e = never _ (not_found text_of f _ es rest next x.0.now x.1.now along split (distinct-texts _ d)
          (λ found. not_same b h e (sym (under_is text_of g (text_of x.0.now) fs) ∙ found)))

    pub all_found : IsAlong text_of f (map (entry text_of g) fs) es rest → o ≡ None → TakesFirst deref_pair rest o next → length es ≡ length fs
        → IsDistinct string_eq (keys_of es) → IsTrue true ↔ AreSame
    all_found along is steps same d = (λ t. at_end text_of f _ es rest along (rest_all deref_pair rest next o is steps) (same ∙ sym (length-map fs (entry text_of g))) (distinct-texts _ d), λ e. refl)
