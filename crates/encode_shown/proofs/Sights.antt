-- Sights of interfaces of a valid `Resolve` agree, obey the rules, and together mean the interfaces.
use Rattle.std.proofs.Common.{rules as std_rules, ◌≡◌, refl, sym, subst, ap, ◌∙◌, ℕ, Bool, true, false, ◌&&◌, ◌||◌, cond, List, [], ◌∷◌, map, length, Some}
use Rattle.std.proofs.lemmas.Bool.{eq-eqb, and_from as both}
use Rattle.std.proofs.lemmas.List.{Folds.list_any_at, Sorted.IsPermutation-sym, Sorted.Contains-permutation, Sorted.length_permutation}
use Rattle.std.specs.{Prelude.IsPermutation, Prelude.if◌then◌else◌, Option.option_map_or, List.AllZip, List.Contains, List.list_any}
use Rattle.wit_model.specs.{Text.Text, Text.text_eq, Tree.Place, Meant.interface_meaning_at, Meant.types_alone}
use Rattle.wit_model.specs.{Lookup.interface_at, Lookup.interface_path, Lookup.place_of_path, Meaning.FunctionMeaning, Meaning.InterfaceMeaning, Valid.IsValid}
use Rattle.wit_model.specs.declared.model.Resolve.{Resolve}
use Rattle.wit_model.proofs.{OnePath.path-once, TextLemmas.text_alike as text-alike, TextLemmas.text_same as text-same}
use Rattle.comp_meaning.specs.{Follow.View, Rules.is_interface, Same.same_function, Same.stand_in, SameLaws.named_meaning}
use Rattle.comp_meaning.specs.Reads.{Sight, same_functions, agree, all_agree, are_interfaces, functions_of, meaning_of_view, seen_meaning}
use Rattle.encode_shown.specs.Views.{home_of, ShowsTypes, ShowsInterface}
use Rattle.comp_meaning.proofs.{SameLaws.functions_decide, SameLaws.shown_types_decide, AgreementLaws.implied}
use Rattle.encode_shown.proofs.{Interfaces.interface-obeys, Interfaces.interface-means, Interfaces.types-obey, Interfaces.types-mean, Zips.zip-left}
use Rattle.base_lemmas.proofs.{Bools.left_of as first_true, Bools.right_of as second_true, Elements.all_pass as all-from}
use Rattle.encode_shown.specs.Views as views

-- a sight shows the interface whole, or its types alone
abbrev pub ShowsAs : Resolve → ℕ → Bool → View → Type 0
ShowsAs r n true view = ShowsInterface r n view
ShowsAs r n false view = ShowsTypes r n view

pub record IsSight (r : Resolve) (n : ℕ) (s : Sight) : Type 0 where
  pub has_path : interface_path r n ≡ Some s.path
  pub shows : ShowsAs r n s.whole s.view

abbrev pub its_functions : Resolve → ℕ → List (Text × FunctionMeaning)
its_functions r n = option_map_or (views.functions_of r) (interface_at r n) []

module _ (r : Resolve) where
  sight-types : (n : ℕ) (whole : Bool) (view : View) → ShowsAs r n whole view → view.types ≡ option_map_or (views.types_of r n) (interface_at r n) []
  sight-types n x view shows = search std_rules

  sight-functions : (n : ℕ) (whole : Bool) (view : View) → ShowsAs r n whole view → whole ≡ true → IsPermutation (its_functions r n) view.functions
  sight-functions n x view shows e = search std_rules

  stands-in : (xs ys : List (Text × FunctionMeaning)) → ((x : Text × FunctionMeaning) → Contains xs x → Contains ys x) → stand_in same_function xs ys ≡ true
  stands-in xs ys h = all-from (λ x. list_any (λ y. text_eq x.0 y.0 && same_function x.1 y.1) ys) xs (λ x c.
      let d = h x c in
      list_any_at (λ y. text_eq x.0 y.0 && same_function x.1 y.1) ys d.0 x d.1
      (ap (λ (y : Text × FunctionMeaning). text_eq x.0 y.0 && same_function x.1 y.1) d.2 ∙ both _ _ (text-alike x.0) ((functions_decide x.1 x.1).1 refl)))

  -- two orders of the same functions
  orders-same : (fs xs ys : List (Text × FunctionMeaning)) → IsPermutation fs xs → IsPermutation fs ys → same_functions xs ys ≡ true
  orders-same fs xs ys p q = both _ _ (eq-eqb (length xs) (length ys) (length_permutation fs xs p ∙ sym (length_permutation fs ys q)))
      (stands-in xs ys (λ x c. Contains-permutation fs ys x q (Contains-permutation xs fs x (IsPermutation-sym fs xs p) c)))

  module _ (v : IsValid r) where
    sights-agree : (m n : ℕ) (s t : Sight) → IsSight r m s → IsSight r n t → agree s t ≡ true
    sights-agree m n s t is other = implied (text_eq s.path t.path) _ (λ e.
        let same : m ≡ n = path-once r v m n s.path is.has_path (other.has_path ∙ ap Some (sym (text-same s.path t.path e))) in
        both _ _ ((shown_types_decide s.view.types t.view.types).1 (ap (map named_meaning) (sight-types m s.whole s.view is.shows
        ∙ ap (λ k. option_map_or (views.types_of r k) (interface_at r k) []) same
        ∙ sym (sight-types n t.whole t.view other.shows)))) (implied (s.whole && t.whole) _ (λ w. orders-same (its_functions r n) s.view.functions t.view.functions
        (subst (λ k. IsPermutation (its_functions r k) s.view.functions) same (sight-functions m s.whole s.view is.shows (first_true s.whole t.whole w)))
        (sight-functions n t.whole t.view other.shows (second_true s.whole t.whole w)))))

    pub all-sights-agree : (ns : List ℕ) (ss : List Sight) → AllZip (IsSight r) ns ss → all_agree ss ≡ true
    all-sights-agree [] [] z = refl
    all-sights-agree (n ∷ ns) (s ∷ ss) z = both _ _ (all-from (agree s) ss (λ t c. let from = zip-left (IsSight r) ns ss t z.1 c in sights-agree n from.0 s t z.0 from.2)) (all-sights-agree ns ss z.1)
    all-sights-agree _ _ z = absurd z

    sight-obeys : (n : ℕ) (s : Sight) → IsSight r n s → is_interface (Place.of_interface s.path) s.view ≡ true
    sight-obeys n s is = ap (λ o. is_interface (place_of_path o) s.view) (sym is.has_path) ∙ go s.whole is.shows
      where
        go : (b : Bool) → ShowsAs r n b s.view → is_interface (home_of r n) s.view ≡ true
        go true shows = interface-obeys r v n s.view shows
        go false shows = types-obey r n s.view shows v

    pub all-sights-obey : (ns : List ℕ) (ss : List Sight) → AllZip (IsSight r) ns ss → are_interfaces ss ≡ true
    all-sights-obey ns ss z = all-from (λ s. is_interface (Place.of_interface s.path) s.view) ss (λ s c. let from = zip-left (IsSight r) ns ss s z c in sight-obeys from.0 s from.2)

    -- ---- what they mean together

    -- whether the functions of an interface are seen
    abbrev pub is_seen_whole : List Sight → Text → Bool
    is_seen_whole ss path = list_any (λ s. text_eq path s.path && s.whole) ss

    functions-found : (ns : List ℕ) (ss : List Sight) → AllZip (IsSight r) ns ss → (n : ℕ) (path : Text) → interface_path r n ≡ Some path → is_seen_whole ss path ≡ true
        → IsPermutation (its_functions r n) (functions_of path ss)
    functions-found [] [] z n path e h = absurd cc
    functions-found (m ∷ ns) (s ∷ ss) z n path e h = go (functions-found ns ss z.1 n path e) (text_eq path s.path && s.whole) refl h
      where
        go : (is_seen_whole ss path ≡ true → IsPermutation (its_functions r n) (functions_of path ss)) → (b : Bool) → (text_eq path s.path && s.whole) ≡ b → (b || is_seen_whole ss path) ≡ true
            → IsPermutation (its_functions r n) (cond b s.view.functions (functions_of path ss))
        go more true q h =
            let same : m ≡ n = path-once r v m n path (z.0.has_path ∙ ap Some (sym (text-same path s.path (first_true (text_eq path s.path) s.whole q)))) e in
            subst (λ k. IsPermutation (its_functions r k) s.view.functions) same (sight-functions m s.whole s.view z.0.shows (second_true (text_eq path s.path) s.whole q))
        go more false q h = more h
    functions-found _ _ z n path e h = absurd z

    functions-missing : (ss : List Sight) (path : Text) → is_seen_whole ss path ≡ false → functions_of path ss ≡ []
    functions-missing [] path h = refl
    functions-missing (s ∷ ss) path h = go (text_eq path s.path && s.whole) (functions-missing ss path) h
      where
        go : (b : Bool) → (is_seen_whole ss path ≡ false → functions_of path ss ≡ []) → (b || is_seen_whole ss path) ≡ false → cond b s.view.functions (functions_of path ss) ≡ []
        go true more h = absurd cc
        go false more h = more h

    -- what an interface means whose functions may be seen
    abbrev pub meaning_as : ℕ → Bool → InterfaceMeaning
    meaning_as n whole = if whole then interface_meaning_at r n else types_alone (interface_meaning_at r n)

    pub sight-means : (ns : List ℕ) (ss : List Sight) → AllZip (IsSight r) ns ss → (n : ℕ) (s : Sight) → IsSight r n s → (whole : Bool) → is_seen_whole ss s.path ≡ whole
        → seen_meaning ss s ≡ (s.path, meaning_as n whole)
    sight-means ns ss z n s is true h =
        let shows : ShowsInterface r n (record { types = s.view.types; functions = functions_of s.path ss }) =
        record { types = sight-types n s.whole s.view is.shows; functions = functions-found ns ss z n s.path is.has_path h } in
        λ j. (s.path, interface-means r v n (record { types = s.view.types; functions = functions_of s.path ss }) shows j)
    sight-means ns ss z n s is false h =
        let shows : ShowsTypes r n (record { types = s.view.types; functions = [] }) = record { types = sight-types n s.whole s.view is.shows; functions = refl } in
        λ j. (s.path, (ap (meaning_of_view s.view) (functions-missing ss s.path h) ∙ types-mean r n (record { types = s.view.types; functions = [] }) shows) j)
