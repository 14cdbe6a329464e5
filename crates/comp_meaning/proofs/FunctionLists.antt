-- Functions of two lists without a repeated name: where one list has as many as the other and all of its functions stand in the other, both
-- have the same functions, and make one map.
use Rattle.std.proofs.Common.{rules as std_rules, ◌≡◌, refl, sym, ap, subst, ◌∙◌, ℕ, zero, suc, ◌+◌, ◌<◌, ◌≤◌, arith, Bool, true, false, not, ◌&&◌, ◌||◌, eqb, cond, List, [], ◌∷◌, length, map, Option, Some}
use Rattle.std.proofs.lemmas.{Bool.false_from_ne_true, Bool.eqb-true, Bool.eq-eqb, Bool.and_from, Bool.not-true, Bool.Decides.Decides-at}
use Rattle.std.proofs.lemmas.Cmp.{nat_list_cmp_total}
use Rattle.std.specs.{Prelude.slice_get, List.Contains, List.list_any, Bool.Decides, FinMap.find, FinMap.from_entries, FinMap.get, FinMap.get-from_entries}
use Rattle.base_lemmas.proofs.Elements.{all-contained, all_pass, any-at, any-contains, contains-later as behind, contains-map}
use Rattle.base_lemmas.proofs.Bools.{both_ways as either_way, left_of as first_true, right_of as second_true}
use Rattle.wit_model.specs.Text.{Text, TextMap, text_eq, text_cmp}
use Rattle.wit_model.proofs.{VersionLaws.same_text, Maps.one_map, Maps.there_some, AnyOrder.found-there as found_there, TextLemmas.text_same}
use Rattle.comp_meaning.specs.{Rules.distinct, Same.same_function, Same.stand_in}
use Rattle.comp_meaning.specs.{SameLaws.DecidesEquality, SameLaws.SameFunctionsStandInEachOther, SameLaws.SameFunctionsAreOneMap}
use Rattle.comp_meaning.proofs.SameLaws.{functions_decide}
use Rattle.comp_meaning.proofs.Marks.{marks, all_taken, Counted, no_number, one_number_first, no_more, exact, taken_at, true_mark, all_marked}

module _ {X : Type 0} where
  abbrev names : List (Text × X) → List Text
  names fs = map (λ f. f.0) fs

  abbrev is_named : List (Text × X) → Text → Bool
  is_named fs k = list_any (text_eq k) (map (λ f. f.0) fs)

  -- ---- names of entries

  contained_name : (fs : List (Text × X)) (k : Text) (v : X) → Contains fs (k, v) → is_named fs k ≡ true
  contained_name fs k v c = any-at (text_eq k) (names fs) k (contains-map (λ (f : Text × X). f.0) fs (k, v) c) (same_text k k refl)

  -- a name that stands in front stands nowhere else
  not_again : (f : Text × X) (fs : List (Text × X)) → distinct (names (f ∷ fs)) ≡ true → is_named fs f.0 ≡ false
  not_again f fs e = not-true (is_named fs f.0) (first_true (not (is_named fs f.0)) (distinct (names fs)) e)

  none_again : (f : Text × X) (fs : List (Text × X)) (v : X) → distinct (names (f ∷ fs)) ≡ true → Contains fs (f.0, v) → ⊥
  none_again f fs v e c = let wrong : true ≡ false = sym (contained_name fs f.0 v c) ∙ not_again f fs e in cc

  pub one_value : (fs : List (Text × X)) → distinct (names fs) ≡ true → (k : Text) (v w : X) → Contains fs (k, v) → Contains fs (k, w) → v ≡ w
  one_value [] e k v w (i, low, h) d = absurd (omega (arith, low))
  one_value (f ∷ fs) e k v w (zero, low, h) (zero, small, g) = sym (ap (λ z. z.1) h) ∙ ap (λ z. z.1) g
  one_value (f ∷ fs) e k v w (zero, low, h) (suc j, small, g) = absurd (none_again f fs w e (subst (λ (n : Text). Contains fs (n, w)) (sym (ap (λ z. z.0) h)) (j, omega (arith, small), g)))
  one_value (f ∷ fs) e k v w (suc i, low, h) (zero, small, g) = absurd (none_again f fs v e (subst (λ (n : Text). Contains fs (n, v)) (sym (ap (λ z. z.0) g)) (i, omega (arith, low), h)))
  one_value (f ∷ fs) e k v w (suc i, low, h) (suc j, small, g) =
      one_value fs (second_true (not (is_named fs f.0)) (distinct (names fs)) e) k v w (i, omega (arith, low), h) (j, omega (arith, small), g)

  at_entry : (fs : List (Text × X)) (x : Text × X) → (c : Contains fs x) → slice_get fs c.0 ≡ Some x
  at_entry [] x (i, low, h) = absurd (omega (arith, low))
  at_entry (f ∷ fs) x (zero, low, h) = ap Some h
  at_entry (f ∷ fs) x (suc i, low, h) = at_entry fs x (i, omega (arith, low), h)

  -- ---- where a name stands first

  position : Text → List (Text × X) → ℕ
  position k [] = 0
  position k (g ∷ gs) = cond (text_eq k g.0) 0 (suc (position k gs))

  position_low : (gs : List (Text × X)) (k : Text) → is_named gs k ≡ true → position k gs < length gs
  unfolding position
  position_low [] k h = absurd cc
  position_low (g ∷ gs) k h = by (text_eq k g.0) refl (position_low gs k)
    where
      by : (b : Bool) → text_eq k g.0 ≡ b → (is_named gs k ≡ true → position k gs < length gs) → cond b 0 (suc (position k gs)) < suc (length gs)
      by true e more = omega arith
      by false e more = let low = more (sym (ap (λ b. b || is_named gs k) e) ∙ h) in omega (arith, low)

  -- the entry there has the name
  position_at : (gs : List (Text × X)) (k : Text) → is_named gs k ≡ true → (y : Text × X) × (slice_get gs (position k gs) ≡ Some y) × (k ≡ y.0)
  unfolding position
  position_at [] k h = absurd cc
  position_at (g ∷ gs) k h = by (text_eq k g.0) refl (position_at gs k)
    where
      by : (b : Bool) → text_eq k g.0 ≡ b → (is_named gs k ≡ true → (y : Text × X) × (slice_get gs (position k gs) ≡ Some y) × (k ≡ y.0)) → (y : Text × X)
          × (slice_get (g ∷ gs) (cond b 0 (suc (position k gs))) ≡ Some y) × (k ≡ y.0)
      by true e more = (g, refl, text_same k g.0 e)
      by false e more = more (sym (ap (λ b. b || is_named gs k) e) ∙ h)

  position_one : (gs : List (Text × X)) (k l : Text) → is_named gs k ≡ true → is_named gs l ≡ true → position k gs ≡ position l gs → k ≡ l
  position_one gs k l h g e = search (std_rules, position_at)

  -- one of these has the same position
  position_among : (gs fs : List (Text × X)) (n : ℕ) → list_any (λ f. eqb (position f.0 gs) n) fs ≡ true → (f : Text × X) × Contains fs f × (position f.0 gs ≡ n)
  position_among gs fs n e = let f = any-contains (λ (f : Text × X). eqb (position f.0 gs) n) fs e in (f.0, f.1, eqb-true (position f.0.0 gs) n f.2)

  -- where each name is one of the others, and none stands twice, the positions are those of others, each once
  counted : (gs fs : List (Text × X)) → ((k : Text) (v : X) → Contains fs (k, v) → is_named gs k ≡ true) → distinct (names fs) ≡ true → Counted (λ f. position f.0 gs) fs (map (λ _. true) gs)
  counted gs [] h e = no_number (λ f. position f.0 gs) (map (λ _. true) gs)
  counted gs (f ∷ fs) h e =
      let here = h f.0 f.1 (0, omega arith, refl) in
      let others = counted gs fs (λ k v c. h k v (behind f fs (k, v) c)) (second_true (not (is_named fs f.0)) (distinct (names fs)) e) in
      one_number_first (λ x. position x.0 gs) fs f (map (λ _. true) gs) others (false_from_ne_true (list_any (λ x. eqb (position x.0 gs) (position f.0 gs)) fs) (λ s.
      let other = position_among gs fs (position f.0 gs) s in
      let same : other.0.0 ≡ f.0 = position_one gs other.0.0 f.0 (h other.0.0 other.0.1 (behind f fs other.0 other.1)) here other.2 in
      none_again f fs other.0.1 e (subst (λ (n : Text). Contains fs (n, other.0.1)) same other.1))) (true_mark gs (position f.0 gs) (position_low gs f.0 here))

  -- ---- lists of which one stands in the other

  no_longer : (fs gs : List (Text × X)) → ((k : Text) (v : X) → Contains fs (k, v) → Contains gs (k, v)) → distinct (names fs) ≡ true → length fs ≤ length gs
  no_longer fs gs stand e = omega (arith, no_more (λ f. position f.0 gs) fs (map (λ _. true) gs) (counted gs fs (λ k v c. contained_name gs k v (stand k v c)) e), all_marked gs)

  -- as many as the others, and all among them: so the others are among these
  the_others : (fs gs : List (Text × X)) → ((k : Text) (v : X) → Contains fs (k, v) → Contains gs (k, v)) → distinct (names fs) ≡ true → distinct (names gs) ≡ true → length fs ≡ length gs
      → (k : Text) (v : X) → Contains gs (k, v) → Contains fs (k, v)
  the_others fs gs stand e d long k v there =
      let named : (l : Text) (w : X) → Contains fs (l, w) → is_named gs l ≡ true = λ l w c. contained_name gs l w (stand l w c) in
      let c = counted gs fs named e in
      let all : all_taken (λ f. position f.0 gs) fs 0 (map (λ _. true) gs) ≡ true =
      sym (exact (λ f. position f.0 gs) fs (map (λ _. true) gs) c) ∙ eq-eqb (length fs) (marks (map (λ _. true) gs)) (long ∙ sym (all_marked gs)) in
      let one = taken_at (λ f. position f.0 gs) fs 0 there.0 (map (λ _. true) gs) all (true_mark gs there.0 there.1) in
      let f = position_among gs fs (0 + there.0) one in
      let at = position_at gs f.0.0 (named f.0.0 f.0.1 f.1) in
      let zero_more : 0 + there.0 ≡ there.0 = omega arith in
      let both : ◌≡◌ {A = Option (Text × X)} (Some at.0) (Some (k, v)) = sym at.1 ∙ (ap (slice_get gs) (f.2 ∙ zero_more) ∙ at_entry gs (k, v) there) in
      let same : at.0 ≡ (k, v) = cc in
      let name : f.0.0 ≡ k = at.2 ∙ ap (λ z. z.0) same in
      let mine : Contains fs (k, f.0.1) = subst (λ (n : Text). Contains fs (n, f.0.1)) name f.1 in
      subst (λ (w : X). Contains fs (k, w)) (one_value gs d k f.0.1 v (stand k f.0.1 mine) there) mine

  -- ---- by tests

  module _ (same : X → X → Bool) (d : DecidesEquality same) where
    found : (gs : List (Text × X)) (k : Text) (v : X) → list_any (λ y. text_eq k y.0 && same v y.1) gs ≡ true → Contains gs (k, v)
    found gs k v h =
        let y = any-contains (λ (y : Text × X). text_eq k y.0 && same v y.1) gs h in
        let name : y.0.0 ≡ k = sym (text_same k y.0.0 (first_true (text_eq k y.0.0) (same v y.0.1) y.2)) in
        let value : y.0.1 ≡ v = sym ((d v y.0.1).0 (second_true (text_eq k y.0.0) (same v y.0.1) y.2)) in
        subst (λ (x : Text × X). Contains gs x) (λ i. (name i, value i)) y.1

    finds : (gs : List (Text × X)) (k : Text) (v : X) → Contains gs (k, v) → list_any (λ y. text_eq k y.0 && same v y.1) gs ≡ true
    finds gs k v c = any-at (λ (y : Text × X). text_eq k y.0 && same v y.1) gs (k, v) c (and_from (text_eq k k) (same v v) (same_text k k refl) ((d v v).1 refl))

    stand_there : (fs gs : List (Text × X)) → stand_in same fs gs ≡ true → (k : Text) (v : X) → Contains fs (k, v) → Contains gs (k, v)
    stand_there fs gs h k v c = found gs k v (all-contained (λ (x : Text × X). list_any (λ y. text_eq x.0 y.0 && same x.1 y.1) gs) fs (k, v) h c)

    all_stand : (fs gs : List (Text × X)) → ((k : Text) (v : X) → Contains fs (k, v) → Contains gs (k, v)) → stand_in same fs gs ≡ true
    all_stand fs gs h = all_pass (λ (x : Text × X). list_any (λ y. text_eq x.0 y.0 && same x.1 y.1) gs) fs (λ x c. finds gs x.0 x.1 (h x.0 x.1 c))

    -- as many, and all in the other, is each in the other
    pub both_ways : (fs gs : List (Text × X)) → distinct (names fs) ≡ true → distinct (names gs) ≡ true
        → (eqb (length fs) (length gs) && stand_in same fs gs) ≡ (stand_in same fs gs && stand_in same gs fs)
    both_ways fs gs e g = either_way (eqb (length fs) (length gs) && stand_in same fs gs) (stand_in same fs gs && stand_in same gs fs) into back
      where
        into : (eqb (length fs) (length gs) && stand_in same fs gs) ≡ true → (stand_in same fs gs && stand_in same gs fs) ≡ true
        into h =
            let stand = second_true (eqb (length fs) (length gs)) (stand_in same fs gs) h in
            let long = eqb-true (length fs) (length gs) (first_true (eqb (length fs) (length gs)) (stand_in same fs gs) h) in
            and_from (stand_in same fs gs) (stand_in same gs fs) stand (all_stand gs fs (the_others fs gs (stand_there fs gs stand) e g long))

        back : (stand_in same fs gs && stand_in same gs fs) ≡ true → (eqb (length fs) (length gs) && stand_in same fs gs) ≡ true
        back h =
            let stand = first_true (stand_in same fs gs) (stand_in same gs fs) h in
            let others = second_true (stand_in same fs gs) (stand_in same gs fs) h in
            let le = no_longer fs gs (stand_there fs gs stand) e in
            let ge = no_longer gs fs (stand_there gs fs others) g in
            and_from (eqb (length fs) (length gs)) (stand_in same fs gs) (eq-eqb (length fs) (length gs) (omega (arith, le, ge))) stand

    -- which is where they make one map
    pub make_one_map : (fs gs : List (Text × X)) → distinct (names fs) ≡ true → distinct (names gs) ≡ true
        → Decides (stand_in same fs gs && stand_in same gs fs) (◌≡◌ {A = TextMap X} (from_entries fs) (from_entries gs))
    make_one_map fs gs e g = (
      λ h. one_map fs gs (record {
        one_value = one_value fs e;
        there = stand_there fs gs (first_true (stand_in same fs gs) (stand_in same gs fs) h);
        here = stand_there gs fs (second_true (stand_in same fs gs) (stand_in same gs fs) h);
      }),
      λ m. and_from (stand_in same fs gs) (stand_in same gs fs) (all_stand fs gs (from_map fs gs e m)) (all_stand gs fs (from_map gs fs g (sym m))),
    )
      where
        -- what is an entry of one list is found in the map, and so in the other
        from_map : (as_is others : List (Text × X)) → distinct (names as_is) ≡ true → ◌≡◌ {A = TextMap X} (from_entries as_is) (from_entries others) → (k : Text) (v : X) → Contains as_is (k, v)
            → Contains others (k, v)
        from_map as_is others one m k v c =
            let mine = there_some as_is k v c in
            let value : mine.0 ≡ v = one_value as_is one k mine.0 v (found_there as_is k mine.0 mine.1) c in
            let same_find : find text_cmp k as_is ≡ find text_cmp k others =
            sym (get-from_entries nat_list_cmp_total as_is k) ∙ (ap (λ (t : TextMap X). get t k) m ∙ get-from_entries nat_list_cmp_total others k) in
            subst (λ (w : X). Contains others (k, w)) value (found_there others k mine.0 (sym same_find ∙ mine.1))

-- ---- functions of views

pub functions_stand : SameFunctionsStandInEachOther
functions_stand fs gs e g = both_ways same_function functions_decide fs gs e g

pub functions_make_one_map : SameFunctionsAreOneMap
functions_make_one_map fs gs e g = search (std_rules, Decides-at, functions_stand, make_one_map, functions_decide)
