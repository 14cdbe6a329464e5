-- Facts about types, by those about their parts.
use Rattle.std.proofs.Common.{rules as std_rules, ◌≡◌, inl, inr, refl, sym, ap, ◌∙◌, subst, ℕ, zero, suc, ◌+◌, ◌-◌, ◌<◌, ◌≤◌, min, max, arith, Bool, true, false, not, ◌&&◌, ◌==◌, cond, List, [], ◌∷◌, ◌++◌, map, take, length, get_or, slice_get, unwrap_or, append-nil, append_assoc}
use Rattle.std.proofs.lemmas.{Bool.eq-eqb, Bool.eqb-true, Bool.lt-ltb, Bool.false≢true, List.take_more, List.map-append}
use Rattle.std.proofs.lemmas.List.Elements.{Contains-append_left, Contains-append_right, Contains-append_cases}
use Rattle.std.specs.{Borrow.Bor, List.AllByRecursion, List.Contains}
use Rattle.wit_model.specs.{Text.Text, Types.no_tree, Tree.Place, Tree.Primitive, Tree.Form, Tree.Tree, Tree.children, Tree.deepest}
use Rattle.comp_meaning.specs.Rules.{is_named_form, form_labels, are_labels}
use Rattle.read_follow.specs.declared.facts.{Fact.Fact, Names.Names, Summary.Summary}
use Rattle.plan_meaning.specs.Shapes.{Shape, form_code, primitives, part_tree, shape_tree, IsShape, a_name, a_node}
use Rattle.read_follow.specs.KeyShapes.{label_of}
use Rattle.read_follow.specs.Facts.{places, places_in, is_plain, are_plain, cap, joined, with_fact, primitive_fact, name_fact, node_fact, fact_at, is_named_sort, AreOf, Tells, FactsHold, Sums}
use Rattle.plan_meaning.proofs.ShapeLaws.{name_tree, node_tree, part_front, split_part, first_marked}
use Rattle.plan_meaning.proofs.ShapesLemmas.{no_sort as sort_of_form}
use Rattle.base_lemmas.proofs.{Bools.and-true as and_true, Bools.and_assoc, Bools.and_flip, Lists.mapped_get, Lists.within_there as slice_there}
use Rattle.wit_model.specs.Tree as tree
use Rattle.read_follow.specs.declared.facts.Names.TheVariants as names

-- ---- places

contains_one : {X : Type 0} (x y : X) → Contains (x ∷ []) y → y ≡ x
contains_one x y c = search std_rules

along : (n : Names) (met other : (ℕ → Place) → List Place) → ((place : ℕ → Place) → met place ≡ other place) → AreOf n met → AreOf n other
along names.Nowhere met other e h = λ place. sym (e place) ∙ h place
along (names.In p) met other e h = λ place. (subst (λ xs. Contains xs (place p)) (e place) (h place).0, λ q c. (h place).1 q (subst (λ xs. Contains xs q) (sym (e place)) c))
along names.InSeveral met other e h = (h.0, h.1, h.2, λ place. (subst (λ xs. Contains xs (place h.0)) (e place) (h.3 place).0, subst (λ xs. Contains xs (place h.1)) (e place) (h.3 place).1))

join_of : (a b : Names) (met more : (ℕ → Place) → List Place) → AreOf a met → AreOf b more → AreOf (joined a b) (λ place. met place ++ more place)
join_of names.Nowhere b met more ha hb = along b more (λ place. met place ++ more place) (λ place. ap (λ xs. xs ++ more place) (sym (ha place))) hb
join_of names.InSeveral b met more ha hb = (ha.0, ha.1, ha.2, λ place. (Contains-append_left _ _ _ (ha.3 place).0, Contains-append_left _ _ _ (ha.3 place).1))
join_of (names.In p) names.Nowhere met more ha hb = along (names.In p) met (λ place. met place ++ more place) (λ place. sym (append-nil (met place)) ∙ ap (λ xs. met place ++ xs) (sym (hb place))) ha
join_of (names.In p) names.InSeveral met more ha hb = (hb.0, hb.1, hb.2, λ place. (Contains-append_right _ _ _ (hb.3 place).0, Contains-append_right _ _ _ (hb.3 place).1))
join_of (names.In p) (names.In q) met more ha hb = by (p == q) refl
  where
    by : (b : Bool) → (p == q) ≡ b → AreOf (cond b (names.In p) names.InSeveral) (λ place. met place ++ more place)
    by true e = λ place. (
      Contains-append_left (met place) (more place) (place p) (ha place).0,
      λ r c. elim (Contains-append_cases (met place) (more place) r c) [ inl h ↦ (ha place).1 r h | inr h ↦ (hb place).1 r h ∙ ap place (sym (eqb-true p q e)) ],
    )
    by false e = (p, q, (λ same. false≢true (sym e ∙ eq-eqb p q same)), λ place. (Contains-append_left _ _ _ (ha place).0, Contains-append_right _ _ _ (hb place).0))

-- ---- one type more

deepest_more : (ts : List Tree) (t : Tree) → deepest (children (ts ++ t ∷ [])) ≡ max (deepest (children ts)) (tree.levels t)
deepest_more [] t = omega arith
deepest_more (u ∷ ts) t = ap (max (tree.levels u)) (deepest_more ts t) ∙ omega arith

places_more : (ts : List Tree) (t : Tree) → places_in (children (ts ++ t ∷ [])) ≡ places_in (children ts) ++ places t
places_more [] t = append-nil (places t)
places_more (u ∷ ts) t = ap (λ ps. places u ++ ps) (places_more ts t) ∙ sym (append_assoc (places u) (places_in (children ts)) (places t))

plain_more : (ts : List Tree) (t : Tree) → are_plain (children (ts ++ t ∷ [])) ≡ (are_plain (children ts) && is_plain t)
plain_more [] t = and_true (is_plain t)
plain_more (u ∷ ts) t = ap (λ b. is_plain u && b) (plain_more ts t) ∙ and_assoc (is_plain u) (are_plain (children ts)) (is_plain t)

pub no_parts : Sums (record { levels = 0; names = names.Nowhere; is_plain = true }) (λ place. [])
no_parts = record { levels = λ place. refl; names = λ place. refl; plain = λ place. refl }

sums_along : (s : Summary) (parts other : (ℕ → Place) → List Tree) → ((place : ℕ → Place) → parts place ≡ other place) → Sums s parts → Sums s other
sums_along s parts other e h = search std_rules

sums_more : (s : Summary) (f : Fact) (parts : (ℕ → Place) → List Tree) (t : (ℕ → Place) → Tree) → Sums s parts → Tells f t → Sums (with_fact s f) (λ place. parts place ++ t place ∷ [])
sums_more s f parts t h one = record {
  levels = λ place. (λ i. max (h.levels place i) (one.levels place i)) ∙ ((omega arith) ∙ ap (min cap) (sym (deepest_more (parts place) (t place))));
  names = along (joined s.names f.names) (λ place. places_in (children (parts place)) ++ places (t place)) (λ place. places_in (children (parts place ++ t place ∷ [])))
      (λ place. sym (places_more (parts place) (t place))) (join_of s.names f.names (λ place. places_in (children (parts place))) (λ place. places (t place)) h.names one.names);
  plain = λ place. (λ i. h.plain place i && one.plain place i) ∙ sym (plain_more (parts place) (t place));
}

-- ---- the fact of a part

pub tells_along : (f : Fact) (t u : (ℕ → Place) → Tree) → ((place : ℕ → Place) → t place ≡ u place) → Tells f t → Tells f u
tells_along f t u e h = search std_rules

primitive_at : (k : ℕ) → k < 14 → (p : Primitive) × ((T : List Tree) → part_tree T k ≡ Tree.primitive p)
primitive_at k small =
    let found = slice_there primitives k small in
    (found.0, λ T. part_front T k small ∙ ap (λ o. unwrap_or o no_tree) (mapped_get Tree.primitive primitives k found.0 found.1))

module _ (facts : List Fact) where
  front_fact : (k : ℕ) → k < 14 → fact_at facts k ≡ primitive_fact
  front_fact k small = ap (λ b. cond b primitive_fact (unwrap_or (slice_get facts (k - 14)) primitive_fact)) (lt-ltb k 14 small)

  module _ (trees : (ℕ → Place) → List Tree) (holds : FactsHold facts trees) where
    pub tells_part : (k : ℕ) → k < 14 + length facts → Tells (fact_at facts k) (λ place. part_tree (trees place) k)
    tells_part k h = elim (split_part k) [
      | inl small ↦
          let p = primitive_at k small in
          subst (λ f. Tells f (λ place. part_tree (trees place) k)) (sym (front_fact k small))
          (tells_along primitive_fact (λ place. Tree.primitive p.0) (λ place. part_tree (trees place) k) (λ place. sym (p.1 (trees place)))
          ((record { levels = λ place. refl; names = λ place. refl; plain = λ place. refl; parts = λ place. refl; labels = λ place. refl })))
      | inr n ↦
          let found = slice_there facts n.0 (omega (arith, h, n.1)) in
          subst (λ f. Tells f (λ place. part_tree (trees place) k)) (sym ((search std_rules)))
          (tells_along found.0 (λ place. part_tree (trees place) (14 + n.0)) (λ place. part_tree (trees place) k) (λ place. ap (part_tree (trees place)) (sym n.1)) (holds n.0 found.0 found.1))
    ]

    -- ---- the loop over parts

    in_range : (parts : List ℕ) (i : ℕ) → i < length parts → AllByRecursion (λ k. k < 14 + length facts) parts → get_or parts i 0 < 14 + length facts
    in_range [] i more all = absurd (omega (arith, more))
    in_range (k ∷ parts) zero more all = all.0
    in_range (k ∷ parts) (suc i) more all = in_range parts i (omega (arith, more)) all.1

    pub part_summed : (parts : List ℕ) (i : ℕ) (s : Summary) → i < length parts → AllByRecursion (λ k. k < 14 + length facts) parts
        → Sums s (λ place. map (part_tree (trees place)) (take i parts)) → Sums (with_fact s (fact_at facts (get_or parts i 0))) (λ place. map (part_tree (trees place)) (take (i + 1) parts))
    part_summed parts i s more all h =
        let k = get_or parts i 0 in
        sums_along (with_fact s (fact_at facts k)) (λ place. map (part_tree (trees place)) (take i parts) ++ part_tree (trees place) k ∷ [])
        (λ place. map (part_tree (trees place)) (take (i + 1) parts))
        (λ place. sym (ap (map (part_tree (trees place))) (take_more parts i 0 more) ∙ map-append (part_tree (trees place)) (take i parts) (k ∷ [])))
        (sums_more s (fact_at facts k) (λ place. map (part_tree (trees place)) (take i parts)) (λ place. part_tree (trees place) k) h (tells_part k (in_range parts i more all)))

pub none_taken : (trees : (ℕ → Place) → List Tree) (parts : List ℕ) → Sums (record { levels = 0; names = names.Nowhere; is_plain = true }) (λ place. map (part_tree (trees place)) (take 0 parts))
none_taken trees x = search std_rules

take_past : (xs : List ℕ) (i : ℕ) → length xs ≤ i → take i xs ≡ xs
take_past [] zero past = refl
take_past [] (suc i) past = refl
take_past (x ∷ xs) zero past = absurd (omega (arith, past))
take_past (x ∷ xs) (suc i) past = ap (λ ys. x ∷ ys) (take_past xs i (omega (arith, past)))

pub all_taken : (trees : (ℕ → Place) → List Tree) (parts : List ℕ) (i : ℕ) (s : Summary) → length parts ≤ i → Sums s (λ place. map (part_tree (trees place)) (take i parts))
    → Sums s (λ place. map (part_tree (trees place)) parts)
all_taken trees parts i s past = search (std_rules, sums_along, take_past)

pub first_labels : (ls : List (Bor (List ℕ) × Bool)) → map (λ l. l.0) (map label_of ls) ≡ map (λ l. l.0.now) ls
first_labels [] = refl
first_labels (l ∷ ls) = ap (λ rest. l.0.now ∷ rest) (first_labels ls)

-- ---- the fact of a key

named_by_sort : (f : Form) → is_named_sort (form_code f).sort ≡ is_named_form f
named_by_sort x = search std_rules

labels_by_code : (f : Form) → map (λ l. l.0) (form_code f).labels ≡ form_labels f
labels_by_code x = search (std_rules, first_marked)

name_tells : (p : ℕ) (name : Text) → Tells (name_fact p) (λ place. Tree.named (place p) name)
name_tells p name = search std_rules

module _ (trees : (ℕ → Place) → List Tree) (n : ℕ) where
  pub shape_named : (s : Shape) → IsShape n s → s.sort ≡ 0 → Tells (name_fact s.number) (λ place. shape_tree place (trees place) s)
  shape_named s x e = search (std_rules, tells_along, name_tree, name_tells, sort_of_form)

  module _ (sum : Summary) (good : Bool) where
    form_tells : (f : Form) (ks : List ℕ) → good ≡ are_labels (form_labels f) → Sums sum (λ place. map (part_tree (trees place)) ks)
        → Tells (node_fact sum (form_code f).sort good) (λ place. Tree.node f (children (map (part_tree (trees place)) ks)))
    form_tells f ks labels h = record {
      levels = λ place. ap (λ d. min cap (d + 1)) (h.levels place) ∙ (omega arith);
      names = h.names;
      plain = λ place. (λ i. h.plain place i && not (named_by_sort f i)) ∙ and_flip (are_plain (children (map (part_tree (trees place)) ks))) (not (is_named_form f));
      parts = h.plain;
      labels = λ place. labels;
    }

    pub shape_of_form : (s : Shape) → IsShape n s → (s.sort ≡ 0 → ⊥) → good ≡ are_labels (map (λ l. l.0) s.labels)
        → (AllByRecursion (λ k. k < 14 + n) s.parts → Sums sum (λ place. map (part_tree (trees place)) s.parts)) → Tells (node_fact sum s.sort good) (λ place. shape_tree place (trees place) s)
    shape_of_form s (a_name p name is) other labels h = absurd (other (ap (λ (t : Shape). t.sort) is))
    shape_of_form s (a_node f ks is ranges) other labels h =
        let parts : s.parts ≡ ks = ap (λ (t : Shape). t.parts) is in
        subst (λ (m : ℕ). Tells (node_fact sum m good) (λ place. shape_tree place (trees place) s)) (sym (ap (λ (t : Shape). t.sort) is))
        (tells_along (node_fact sum (form_code f).sort good) (λ place. Tree.node f (children (map (part_tree (trees place)) ks))) (λ place. shape_tree place (trees place) s)
        (λ place. sym (ap (shape_tree place (trees place)) is ∙ node_tree place (trees place) f ks))
        (form_tells f ks (labels ∙ (ap (λ (t : Shape). are_labels (map (λ l. l.0) t.labels)) is ∙ ap are_labels (labels_by_code f)))
        (subst (λ (xs : List ℕ). Sums sum (λ place. map (part_tree (trees place)) xs)) parts (h (subst (AllByRecursion (λ k. k < 14 + n)) (sym parts) ranges)))))
