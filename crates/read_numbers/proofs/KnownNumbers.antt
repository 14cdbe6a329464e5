-- What is known of a part, as it is seen from a place.
use Rattle.std.proofs.Common.{◌≡◌, ◌≢◌, refl, sym, ap, ◌∙◌, subst, ℕ, zero, suc, ◌+◌, ◌-◌, ◌<◌, Bool, true, false, not, ◌&&◌, ◌==◌, cond, List, [], ◌∷◌, map, length, get_or, arith, Option, slice_get, unwrap_or}
use Rattle.std.proofs.{Math.ListN.length-map, lemmas.Bool.eq-eqb, lemmas.Bool.eqb-true, lemmas.Bool.false≢true, lemmas.List.Folds.list_all-append as all_both}
use Rattle.std.specs.{Prelude.nat_lt, List.Contains, List.list_all}
use Rattle.wit_model.specs.{Text.Text, Tree.Place, Tree.Tree, Tree.Trees}
use Rattle.comp_meaning.specs.{Rules.are_labels, Rules.is_named_form, Same.same_place}
use Rattle.comp_meaning.proofs.SameLaws.{places_decide}
use Rattle.plan_meaning.specs.{NumberedRules.stand_in_place, NumberedRules.IsSeenFrom, NumberedViews.place_at, NumberedViews.tree_at, NumberedViews.Tables}
use Rattle.plan_meaning.specs.Shapes.{Shape, part_tree, shape_trees, IsTable}
use Rattle.read_rules.specs.declared.tables.{Fact.Fact, Names.Names}
use Rattle.read_rules.specs.Tables.{numbered_fact, primitive_fact, standing}
use Rattle.read_follow.specs.Facts.{are_plain, below, is_plain, labels_of, places, places_in, AreOf, Tells}
use Rattle.read_follow.specs.Functions.{FunctionShape}
use Rattle.read_follow.specs.declared.facts.Fact.{Fact as FollowedFact}
use Rattle.read_follow.proofs.FactLaws.{tells_part}
use Rattle.read_numbers.specs.{FactLaws.fact_of, FactLaws.FactsInNumbers, Facts.followed_fact, Facts.followed_names, NumberedParts.tables_in}
use Rattle.read_numbers.proofs.NameNumbers.{apart, number_inside}
use Rattle.base_lemmas.proofs.{Bools.and_assoc as under, Bools.exchange, Bools.left_of as first_true, Bools.right_of as second_true, Elements.all_pass}
use Rattle.comp_meaning.specs.Rules as rules
use Rattle.plan_meaning.specs.NumberedRules as numbered
use Rattle.read_rules.specs.declared.tables.Names.TheVariants as names
use Rattle.read_follow.specs.Facts as followed

-- ---- a part of a type: plain, with names of one place

mutual
  part_split : (p : Place) (t : Tree) → rules.is_part p t ≡ (is_plain t && list_all (same_place p) (places t))
  part_split p (Tree.primitive x) = refl
  part_split p (Tree.named q name) = last (same_place p q)
    where
      last : (b : Bool) → b ≡ (true && (b && true))
      last true = refl
      last false = refl
  part_split p (Tree.node form ts) = ap (λ b. not (is_named_form form) && b) (parts_split p ts) ∙ under (not (is_named_form form)) (are_plain ts) (list_all (same_place p) (places_in ts))

  parts_split : (p : Place) (ts : Trees) → rules.are_parts p ts ≡ (are_plain ts && list_all (same_place p) (places_in ts))
  parts_split p Trees.no_children = refl
  parts_split p (Trees.child t ts) = (λ i. part_split p t i && parts_split p ts i)
      ∙ (exchange (is_plain t) (list_all (same_place p) (places t)) (are_plain ts) (list_all (same_place p) (places_in ts))
      ∙ ap (λ b. (is_plain t && are_plain ts) && b) (sym (all_both (same_place p) (places t) (places_in ts))))

-- ---- tests of all

one_fails : {X : Type 0} (test : X → Bool) (xs : List X) (x : X) → Contains xs x → test x ≡ false → list_all test xs ≡ false
one_fails {X = X} test xs x c none = by (list_all test xs) refl
  where
    by : (b : Bool) → list_all test xs ≡ b → b ≡ false
    by true e = absurd (false≢true (sym none ∙ passes xs e c.0 c.1 c.2))
      where
        passes : (ys : List X) → list_all test ys ≡ true → (k : ℕ) → k < length ys → get_or ys k x ≡ x → test x ≡ true
        passes [] e k h at = absurd (omega (arith, h))
        passes (y ∷ ys) e zero h at = ap test (sym at) ∙ first_true (test y) (list_all test ys) e
        passes (y ∷ ys) e (suc k) h at = passes ys (second_true (test y) (list_all test ys) e) k (omega (arith, h)) at
    by false e = refl

-- ---- what is known of one part

module _ (shapes : List Shape) (fs : List FunctionShape) (paths : List (Option Text)) (table : IsTable shapes) (p k : ℕ) (range : k < 14 + length shapes) (seen : IsSeenFrom (tables_in shapes fs paths) p k) where
  abbrev t : Tables
  t = tables_in shapes fs paths

  abbrev met : (ℕ → Place) → List Place
  met place = places (part_tree (shape_trees place shapes) k)

  -- the place of a name in the part is this one exactly where it has its number
  other_place : (q : ℕ) → Contains (met apart) (apart q) → q ≢ p → same_place (place_at t p) (place_at t q) ≡ false
  other_place q inside other = by (same_place (place_at t p) (place_at t q)) refl
    where
      by : (b : Bool) → same_place (place_at t p) (place_at t q) ≡ b → b ≡ false
      by true e = absurd (other (seen q (number_inside shapes table k q range inside) (sym ((places_decide (place_at t p) (place_at t q)).0 e))))
      by false e = refl

  stands : (n : Names) → AreOf (followed_names n) met → stand_in_place p (standing n) ≡ list_all (same_place (place_at t p)) (met (place_at t))
  stands names.Nowhere h = sym (ap (list_all (same_place (place_at t p))) (h (place_at t)))
  stands (names.In q) h = by (p == q) refl
    where
      by : (b : Bool) → (p == q) ≡ b → b ≡ list_all (same_place (place_at t p)) (met (place_at t))
      by true e = sym (all_pass (same_place (place_at t p)) (met (place_at t)) (λ x c. (places_decide (place_at t p) x).1 (ap (place_at t) (eqb-true p q e) ∙ sym ((h (place_at t)).1 x c))))
      by false e = sym (one_fails (same_place (place_at t p)) (met (place_at t)) (place_at t q) (h (place_at t)).0 (other_place q (h apart).0 (λ same. false≢true (sym e ∙ eq-eqb p q (sym same)))))
  stands names.InSeveral h = by (h.0 == p) refl
    where
      by : (b : Bool) → (h.0 == p) ≡ b → false ≡ list_all (same_place (place_at t p)) (met (place_at t))
      by true e = sym (one_fails (same_place (place_at t p)) (met (place_at t)) (place_at t h.1) (h.3 (place_at t)).1 (other_place h.1 (h.3 apart).1 (λ same. h.2 (eqb-true h.0 p e ∙ sym same))))
      by false e = sym (one_fails (same_place (place_at t p)) (met (place_at t)) (place_at t h.0) (h.3 (place_at t)).0 (other_place h.0 (h.3 apart).0 (λ same. false≢true (sym e ∙ eq-eqb h.0 p same))))

  pub known : (g : Fact) → Tells (followed_fact g) (λ place. part_tree (shape_trees place shapes) k) → numbered.Tells t p k (numbered_fact g)
  known g h = record {
    levels = h.levels (place_at t);
    part = (λ i. h.plain (place_at t) i && stands g.names h.names i) ∙ sym (part_split (place_at t p) (tree_at t k));
    labels = λ form ts e. h.labels (place_at t) ∙ ap (λ x. are_labels (labels_of x)) e;
    parts = λ form ts e. (λ i. (h.parts (place_at t) ∙ ap (λ x. are_plain (below x)) e) i && (stands g.names h.names ∙ ap (λ x. list_all (same_place (place_at t p)) (places x)) e) i)
        ∙ sym (parts_split (place_at t p) ts);
  }

-- ---- what is known of each part

fact_there : (facts : List Fact) (n : ℕ) → unwrap_or (slice_get (map followed_fact facts) n) followed.primitive_fact ≡ followed_fact (unwrap_or (slice_get facts n) primitive_fact)
fact_there [] n = refl
fact_there (x ∷ xs) zero = refl
fact_there (x ∷ xs) (suc n) = fact_there xs n

same_fact : (facts : List Fact) (k : ℕ) → followed.fact_at (map followed_fact facts) k ≡ followed_fact (fact_of facts k)
same_fact facts k = by (nat_lt k 14)
  where
    by : (b : Bool) → cond b followed.primitive_fact (unwrap_or (slice_get (map followed_fact facts) (k - 14)) followed.primitive_fact) ≡ followed_fact
        (cond b primitive_fact (unwrap_or (slice_get facts (k - 14)) primitive_fact))
    by true = refl
    by false = fact_there facts (k - 14)

pub facts_in_numbers : FactsInNumbers
facts_in_numbers shapes fs paths table facts many hold p k range seen = record {
  part = range;
  tells =
      let long = length-map facts followed_fact in
      known shapes fs paths table p k range seen (fact_of facts k) (subst (λ (f : FollowedFact). Tells f (λ place. part_tree (shape_trees place shapes) k)) (same_fact facts k)
      (tells_part (map followed_fact facts) (λ place. shape_trees place shapes) hold k (omega (arith, range, long, many))));
  seen = seen;
}
