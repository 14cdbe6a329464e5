-- What an interface uses, and what the rules ask of it, holds of its copy, with its numbers in order.
use Rattle.std.proofs.Common.{arith, rules as std_rules, ◌≡◌, refl, sym, ap, subst, ◌∙◌, ℕ, Bool, true, false, not, ◌==◌, List, [], map, Option, Some, option_map, option_to_list, ◌+◌, ◌||◌, cond, ◌∷◌, ◌++◌, inl, ◌&&◌, nat_lt, ltb-true}
use Rattle.std.proofs.{lemmas.Bool.and_from as both, lemmas.Bool.lt-ltb, lemmas.List.Sums.sum_by-cons, lemmas.List.Folds.list_all-map, lemmas.Simd.map-map}
use Rattle.std.specs.{List.list_all, List.Contains, List.AllZip, List.list_any, Option.option_map_or, Prelude.count_by, Prelude.String}
use Rattle.indexmap.specs.IndexMap.{values, keys}
use Rattle.wit_model.specs.declared.model.{Resolve.Resolve, Interface.Interface, TypeId.TypeId, TypeOwner.TypeOwner, Function.Function}
use Rattle.wit_model.specs.{Lookup.interface_at, Checks.references, Text.Text, Text.text_of, Text.text_eq, Parts.function_types, Parts.is_resource_type, Parts.used_by_type}
use Rattle.wit_model.specs.Uses.{has, once, owner_interface, interface_used_by, interfaces_used_by, direct_deps}
use Rattle.wit_model.specs.Rules.{passes, interface_type_numbers, each_after, function_labels, is_named_of, used_by_number, are_in_order, function_stays, is_shallow, is_member}
use Rattle.wit_model.specs.Valid.{Keeps, KeepsRules, as_interface, functions_of_interface, labels, order_of_types, owners, handles, depths, function_names}
use Rattle.wit_model.proofs.{Elements.has-contains, Elements.contains-has, Elements.contains-filter_map, Chains.has_once, Chains.all_has as passes_at, UsesLemmas.has_filter, UsesLemmas.filter_has, UsesLemmas.all_from_has, TextLemmas.some_alike as named_alike, RulesLemmas.after_of_map, OnePath.interface-passes, PartsLemmas.owner_itself, PartsLemmas.owner_same as owner_equal}
use Rattle.bind_meaning.proofs.Listed.{mapped, from-map}
use Rattle.bind_union.specs.Carried.{Renumbering, owner_under, carries_owner, IsInterface, IsCarried, Rises, IsFunctionEntry, IsInterfaceCopy}
use Rattle.bind_union.proofs.{Lists.no_true, Homes.apart}
use Rattle.bind_union.proofs.CopyRules.{label_alike, stability_alike, used, used_there, function_labels_same, function_stays_passes, function_handles_pass, function_depths_pass, member_passes}
use Rattle.base_lemmas.proofs.Elements.{contains-map, contains-one, filter_map_from, get-contains, all_two, any_of_map as list_any_mapped, zip_map}
use Rattle.base_lemmas.proofs.{Numbers.equal, Numbers.same-number, Bools.left_of as first_true, Bools.right_of as second_true}
use Rattle.std.specs.declared.alloc.Global.{Global}

pub given_contains : {X : Type 0} (o : Option X) (x : X) → o ≡ Some x → Contains (option_to_list o) x
given_contains o x e = subst (λ (p : Option _). Contains (option_to_list p) x) (sym e) (contains-one x)

-- what passes on the one side passes on the other
pub zip_all : {A B : Type 0} (R : A → B → Type 0) (p : A → Bool) (q : B → Bool) → ((a : A) (b : B) → R a b → p a ≡ true → q b ≡ true) → (xs : List A) (ys : List B) → AllZip R xs ys
    → list_all p xs ≡ true → list_all q ys ≡ true
zip_all R p q one [] [] z h = refl
zip_all R p q one (x ∷ xs) (y ∷ ys) z h = both _ _ (one x y z.0 (first_true _ _ h)) (zip_all R p q one xs ys z.1 (second_true (p x) _ h))
zip_all R p q one _ _ z h = absurd z

-- what a number that is asked for passes there, where it was asked for and passed here
pub implied_all : (f : ℕ → ℕ) (carries a b c d : ℕ → Bool) → ((m : ℕ) → carries m ≡ true → c (f m) ≡ true → a m ≡ true) → ((m : ℕ) → b m ≡ true → d (f m) ≡ true) → (ns : List ℕ)
    → list_all carries ns ≡ true → list_all (λ m. not (a m) || b m) ns ≡ true → list_all (λ m. not (c m) || d m) (map f ns) ≡ true
implied_all f carries a b c d back there ns k h = list_all-map (λ m. not (c m) || d m) f ns
    ∙ all_two carries (λ m. not (a m) || b m) (λ m. not (c (f m)) || d (f m)) (λ m i. implied (a m) (b m) (c (f m)) (d (f m)) (back m i) (there m)) ns k h
  where
    implied : (a b c d : Bool) → (c ≡ true → a ≡ true) → (b ≡ true → d ≡ true) → (not a || b) ≡ true → (not c || d) ≡ true
    implied x y z d k j h = search std_rules

pub has_map : (f : ℕ → ℕ) (ns : List ℕ) (n : ℕ) → has ns n ≡ true → has (map f ns) (f n) ≡ true
has_map f ns n h = contains-has (map f ns) (f n) (contains-map f ns n (has-contains ns n h))

module _ (f : ℕ → ℕ) (carries copies : ℕ → Bool) (rise : Rises f carries copies) (copied : (n : ℕ) → copies n ≡ true → carries n ≡ true) where
  -- a new number stands in a list of copies where the old one does
  pub has_back : (ns : List ℕ) → list_all copies ns ≡ true → (n : ℕ) → carries n ≡ true → has (map f ns) (f n) ≡ true → has ns n ≡ true
  has_back ns all n c h =
      let from = from-map f ns (f n) (has-contains (map f ns) (f n) h) in
      let here = contains-has ns from.0 from.1.0 in
      let same : n ≡ from.0 = apart f carries copies rise copied n from.0 c (passes_at copies ns from.0 all here) (sym from.1.1) in
      subst (λ (m : ℕ). has ns m ≡ true) (sym same) here

  -- and as often
  pub count_same : (ns : List ℕ) → list_all carries ns ≡ true → (n : ℕ) → copies n ≡ true → count_by (λ m. m == f n) (map f ns) ≡ count_by (λ m. m == n) ns
  count_same [] all n c = refl
  count_same (m ∷ ns) all n c = sum_by-cons (λ k. cond (k == f n) 1 0) (f m) (map f ns)
      ∙ ((λ i. cond (test (m == n) refl (f m == f n) refl i) 1 0 + count_same ns (second_true _ _ all) n c i) ∙ sym (sum_by-cons (λ k. cond (k == n) 1 0) m ns))
    where
      test : (a : Bool) → (m == n) ≡ a → (b : Bool) → (f m == f n) ≡ b → (f m == f n) ≡ (m == n)
      test x p b q = search std_rules

  -- ---- lists in order

  pub after_weaker : {A : Type 0} (p : A → Bool) (t u : List A → A → Bool) → ((before : List A) (x : A) → p x ≡ true → t before x ≡ true → u before x ≡ true) → (before xs : List A)
      → list_all p xs ≡ true → each_after t before xs ≡ true → each_after u before xs ≡ true
  after_weaker p t u one before [] all h = refl
  after_weaker p t u one before (x ∷ xs) all h = both _ _ (one before x (first_true _ _ all) (first_true _ _ h))
      (after_weaker p t u one (before ++ x ∷ []) xs (second_true (p x) _ all) (second_true (t before x) _ h))

  -- each stands after those of the list that it uses
  abbrev pub after_uses : (ℕ → List ℕ) → List ℕ → List ℕ → ℕ → Bool
  after_uses uses ns before n = list_all (λ m. not (has ns m) || has before m) (uses n)

  pub order_there : (uses uses_there : ℕ → List ℕ) (ns : List ℕ) → list_all copies ns ≡ true → ((n : ℕ) → copies n ≡ true → (uses_there (f n) ≡ map f (uses n)) × (list_all carries (uses n) ≡ true))
      → each_after (after_uses uses ns) [] ns ≡ true → each_after (after_uses uses_there (map f ns)) [] (map f ns) ≡ true
  order_there uses uses_there ns all each h = after_of_map (after_uses uses_there (map f ns)) f [] ns
      ∙ after_weaker copies (after_uses uses ns) (λ before n. after_uses uses_there (map f ns) (map f before) (f n))
      (λ before n c g. ap (list_all (λ m. not (has (map f ns) m) || has (map f before) m)) (each n c).0
      ∙ implied_all f carries (has ns) (has before) (has (map f ns)) (has (map f before)) (has_back ns all) (has_map f before) (uses n) (each n c).1 g) [] ns all h

module _ (r s : Resolve) (f : Renumbering) (valid : KeepsRules r) (is : IsCarried r s f) (below_s : Keeps references s) where
  interface_of_owner : (o : TypeOwner) → carries_owner f o ≡ true → (owner_interface (owner_under f o) ≡ option_map f.interfaces (owner_interface o))
      × (passes f.carries_interface (owner_interface o) ≡ true)
  interface_of_owner x c = search std_rules

  -- the interface that a type is an alias out of
  pub interface_used_there : (n : ℕ) → f.carries_type n ≡ true → (interface_used_by s (f.types n) ≡ option_map f.interfaces (interface_used_by r n))
      × (passes f.carries_interface (interface_used_by r n) ≡ true)
  interface_used_there n c = search std_rules

  -- ---- all that an interface uses

  -- a type of the interface that uses another puts that among what it uses
  dep_of : (n : ℕ) (i : Interface) → interface_at r n ≡ Some i → (k m : ℕ) → has (interface_type_numbers i) k ≡ true → interface_used_by r k ≡ Some m → (m == n) ≡ false
      → has (direct_deps r n) m ≡ true
  dep_of n i found k m listed used other =
      let id = from-map (λ (id : TypeId). id.0) (values i.types) k (has-contains (interface_type_numbers i) k listed) in
      let here : Contains (interfaces_used_by r i) m = contains-filter_map (λ (id : TypeId). interface_used_by r id.0) (values i.types) id.0 m id.1.0
      (given_contains (interface_used_by r id.0.0) m (ap (interface_used_by r) id.1.1 ∙ used)) in
      let all : has (once (option_map_or (interfaces_used_by r) (interface_at r n) [])) m ≡ true = has_once m (option_map_or (interfaces_used_by r) (interface_at r n) [])
      ∙ (ap (λ o. has (option_map_or (interfaces_used_by r) o []) m) found ∙ contains-has (interfaces_used_by r i) m here) in
      has_filter (λ x. not (x == n)) (once (option_map_or (interfaces_used_by r) (interface_at r n) [])) m all (ap not other)

  -- what is used under the new number are new numbers of what is used
  pub deps_there : (n : ℕ) → f.carries_interface n ≡ true → (p q : ℕ → Bool) → ((m : ℕ) → f.carries_interface m ≡ true → q m ≡ true → p (f.interfaces m) ≡ true) → list_all q (direct_deps r n) ≡ true
      → list_all p (direct_deps s (f.interfaces n)) ≡ true
  deps_there n c p q one h = all_from_has p (direct_deps s (f.interfaces n)) each
    where
      i : IsInterface r s f n
      i = is.interfaces n c

      other : (m k : ℕ) → (b : Bool) → (m == n) ≡ b → f.interfaces m ≡ k → not (k == f.interfaces n) ≡ true → (m == n) ≡ false
      other m k y e same h = search (std_rules, no_true, equal, same-number)

      each : (m : ℕ) → has (direct_deps s (f.interfaces n)) m ≡ true → p m ≡ true
      each m listed =
          let two = filter_has (λ x. not (x == f.interfaces n)) (once (option_map_or (interfaces_used_by s) (interface_at s (f.interfaces n)) [])) m listed in
          let among : has (interfaces_used_by s i.image) m ≡ true = sym (ap (λ o. has (option_map_or (interfaces_used_by s) o []) m) i.at_image)
          ∙ (sym (has_once m (option_map_or (interfaces_used_by s) (interface_at s (f.interfaces n)) [])) ∙ two.0) in
          let from = filter_map_from (λ (id : TypeId). interface_used_by s id.0) (values i.image.types) m (has-contains (interfaces_used_by s i.image) m among) in
          let back = i.types from.1.0 (contains-has (interface_type_numbers i.image) from.1.0 (contains-map (λ (x : TypeId). x.0) (values i.image.types) from.1
          (get-contains (values i.image.types) from.0 from.1 from.2))) in
          let image = interface_used_there back.0 back.2 in
          let j = mapped f.interfaces (interface_used_by r back.0) m (sym image.0 ∙ (ap (interface_used_by s) back.3 ∙ from.3)) in
          subst (λ (x : ℕ). p x ≡ true) j.2 (one j.0 (sym (ap (passes f.carries_interface) j.1) ∙ image.1)
          (passes_at q (direct_deps r n) j.0 h (dep_of n i.old i.found back.0 j.0 back.1 j.1 (other j.0 m (j.0 == n) refl j.2 two.1))))

  -- a named type of an owner is one of the new owner
  pub named_of_there : (o : TypeOwner) (n : ℕ) → f.carries_type n ≡ true → is_named_of r o n ≡ true → is_named_of s (owner_under f o) (f.types n) ≡ true
  named_of_there o n c h = search (std_rules, both, named_alike, first_true, owner_equal, second_true, owner_itself)

  pub all_named_of : (o : TypeOwner) (ns : List ℕ) → list_all f.carries_type ns ≡ true → list_all (is_named_of r o) ns ≡ true → list_all (is_named_of s (owner_under f o)) (map f.types ns) ≡ true
  all_named_of o ns c h = search (std_rules, list_all-map, all_two, named_of_there)

  -- what a copy uses
  pub number_uses : (n : ℕ) → f.copies_type n ≡ true → (used_by_number s (f.types n) ≡ map f.types (used_by_number r n)) × (list_all f.carries_type (used_by_number r n) ≡ true)
  number_uses n copy =
      let t = is.types n (is.copied_types n copy) in
      let old : used_by_number r n ≡ used_by_type r t.def = ap (λ o. option_map_or (used_by_type r) o []) t.found in (
        ap (λ o. option_map_or (used_by_type s) o []) t.at_image ∙ (used_there r s f valid is below_s n copy ∙ sym (ap (map f.types) old)),
        ap (list_all f.carries_type) old ∙ used r s f valid is below_s n copy,
      )

  pub copies_carried : (ns : List ℕ) → list_all f.copies_type ns ≡ true → list_all f.carries_type ns ≡ true
  copies_carried ns h = all_two f.copies_type f.copies_type f.carries_type (λ n c d. is.copied_types n c) ns h h

  module _ (n : ℕ) (copy : f.copies_interface n ≡ true) where
    abbrev pub i : IsInterface r s f n
    i = is.interfaces n (is.copied_interfaces n copy)

    abbrev c : IsInterfaceCopy f i.old i.image
    c = i.copied copy

    pub type_numbers : interface_type_numbers i.image ≡ map f.types (interface_type_numbers i.old)
    type_numbers = simp map-map (simp map-map at (ap (map (λ (e : Text × ℕ). e.1)) c.types))

    type_keys : map text_of (keys i.image.types) ≡ map text_of (keys i.old.types)
    type_keys = simp map-map (simp map-map at (ap (map (λ (e : Text × ℕ). e.0)) c.types))

    function_keys : map text_of (keys i.image.functions) ≡ map text_of (keys i.old.functions)
    function_keys = grind (arith, map-map, i, zip_map)

    pub all_copies : list_all f.copies_type (interface_type_numbers i.old) ≡ true
    all_copies = list_all-map f.copies_type (λ (id : TypeId). id.0) (values i.old.types) ∙ c.copies

    -- what is asked of each function
    pub each_function : (p q : Function → Bool) → ((a b : String Global × Function) → IsFunctionEntry f a b → p a.1 ≡ true → q b.1 ≡ true) → list_all p (functions_of_interface i.old) ≡ true
        → list_all q (functions_of_interface i.image) ≡ true
    each_function p q one h = search (std_rules, list_all-map, i, zip_all)

    -- labels
    abbrev apart_names : Interface → Bool
    apart_names a = list_all (λ name. not (list_any (λ other. text_eq (text_of name) (text_of other)) (keys a.functions))) (keys a.types)

    apart_by_text : (a : Interface) → apart_names a ≡ list_all (λ t. not (list_any (text_eq t) (map text_of (keys a.functions)))) (map text_of (keys a.types))
    apart_by_text a = search (std_rules, list_any_mapped, list_all-map)

    functions_labelled : list_all function_labels (functions_of_interface i.image) ≡ list_all function_labels (functions_of_interface i.old)
    functions_labelled =
        let by = λ (es : List (String Global × Function)). list_all-map function_labels (λ e. e.1) es ∙ sym (list_all-map (λ (b : Bool). b) (λ e. function_labels e.1) es) in
        by i.image.functions.entries
        ∙ (ap (list_all (λ b. b)) (zip_map (IsFunctionEntry f) (λ e. function_labels e.1) (λ e. function_labels e.1) (λ a b z. function_labels_same r s f valid is below_s a.1 b.1 z.1)
        i.old.functions.entries i.image.functions.entries c.functions) ∙ sym (by i.old.functions.entries))

    pub interface_labels_pass : labels.interface_ s (f.interfaces n) i.image ≡ true
    unfolding labels
    interface_labels_pass = (λ j. label_alike i.image.name i.old.name i.name j && (stability_alike i.image.stability i.old.stability c.stability j && (functions_labelled j && apart_there j)))
        ∙ interface-passes labels r valid.labels n i.old i.found
      where
        apart_there : apart_names i.image ≡ apart_names i.old
        apart_there = apart_by_text i.image ∙ ((λ j. list_all (λ t. not (list_any (text_eq t) (function_keys j))) (type_keys j)) ∙ sym (apart_by_text i.old))

    -- order of types
    pub interface_order_passes : order_of_types.interface_ s (f.interfaces n) i.image ≡ true
    unfolding order_of_types
    interface_order_passes =
        let old : (list_all (is_named_of r (as_interface n)) (interface_type_numbers i.old) && are_in_order r (interface_type_numbers i.old)) ≡ true =
        interface-passes order_of_types r valid.order_of_types n i.old i.found in
        both _ _ (ap (list_all (is_named_of s (as_interface (f.interfaces n)))) type_numbers
        ∙ all_named_of (as_interface n) (interface_type_numbers i.old) (copies_carried (interface_type_numbers i.old) all_copies) (first_true _ _ old))
        (ap (are_in_order s) type_numbers ∙ order_there f.types f.carries_type f.copies_type is.types_rise is.copied_types (used_by_number r) (used_by_number s) (interface_type_numbers i.old)
        all_copies number_uses (second_true (list_all (is_named_of r (as_interface n)) (interface_type_numbers i.old)) _ old))

    -- owners
    pub interface_owners_pass : owners.interface_ s (f.interfaces n) i.image ≡ true
    unfolding owners
    interface_owners_pass =
        let old : (list_all (function_stays r (as_interface n)) (functions_of_interface i.old) && list_all (λ m. nat_lt m n) (direct_deps r n)) ≡ true =
        interface-passes owners r valid.owners n i.old i.found in
        both _ _ (each_function (function_stays r (as_interface n)) (function_stays s (as_interface (f.interfaces n)))
        (λ a b z. function_stays_passes r s f valid is below_s a.1 b.1 z.1 (as_interface n)) (first_true _ _ old))
        (deps_there n (is.copied_interfaces n copy) (λ m. nat_lt m (f.interfaces n)) (λ m. nat_lt m n)
        (λ m d h. lt-ltb (f.interfaces m) (f.interfaces n) (is.interfaces_rise m n d copy (inl (ltb-true m n h))))
        (second_true (list_all (function_stays r (as_interface n)) (functions_of_interface i.old)) _ old))

    -- handles
    pub interface_handles_pass : handles.interface_ s (f.interfaces n) i.image ≡ true
    unfolding handles
    interface_handles_pass = each_function (λ g. list_all (λ t. not (is_resource_type r t)) (function_types g)) (λ g. list_all (λ t. not (is_resource_type s t)) (function_types g))
        (λ a b z. function_handles_pass r s f valid is below_s a.1 b.1 z.1) (interface-passes handles r valid.handles n i.old i.found)

    -- depths
    pub interface_depths_pass : depths.interface_ s (f.interfaces n) i.image ≡ true
    unfolding depths
    interface_depths_pass = each_function (λ g. list_all (is_shallow r) (function_types g)) (λ g. list_all (is_shallow s) (function_types g))
        (λ a b z. function_depths_pass r s f valid is below_s a.1 b.1 z.1) (interface-passes depths r valid.depths n i.old i.found)

    -- function names
    pub interface_members_pass : function_names.interface_ s (f.interfaces n) i.image ≡ true
    unfolding function_names
    interface_members_pass = zip_all (IsFunctionEntry f) (λ e. text_eq (text_of e.0) (text_of e.1.name) && is_member r (as_interface n) e.1)
        (λ e. text_eq (text_of e.0) (text_of e.1.name) && is_member s (as_interface (f.interfaces n)) e.1)
        (λ a b z h. both _ _ ((λ j. text_eq (z.0 j) (z.1.name j)) ∙ first_true _ _ h)
        (member_passes r s f valid is below_s a.1 b.1 z.1 (as_interface n) (second_true (text_eq (text_of a.0) (text_of a.1.name)) _ h)))
        i.old.functions.entries i.image.functions.entries c.functions (interface-passes function_names r valid.function_names n i.old i.found)
