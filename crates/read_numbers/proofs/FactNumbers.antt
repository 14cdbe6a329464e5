-- What is known of types, one after the other.
use Rattle.std.proofs.Common.{◌≡◌, inl, inr, sym, ap, ◌∙◌, subst, ℕ, ◌+◌, List, [], ◌∷◌, ◌++◌, map, length, length-append, arith, slice_get}
use Rattle.std.proofs.{Math.ListN.length-map, lemmas.List.map-append}
use Rattle.wit_model.specs.Tree.{Place, Tree}
use Rattle.plan_meaning.specs.Shapes.{part_tree}
use Rattle.read_rules.specs.declared.tables.Fact.{Fact}
use Rattle.read_follow.specs.declared.facts.Fact.{Fact as FollowedFact}
use Rattle.read_follow.specs.Facts.{FactsHold, Tells}
use Rattle.read_numbers.specs.Facts.{followed_fact}
use Rattle.base_lemmas.proofs.Lists.{last_or}

module _ (facts new : List Fact) (x : Fact) (last : new ≡ facts ++ x ∷ []) where
  pub one_more : (n : ℕ) → length facts ≡ n → length new ≡ n + 1
  one_more n many = let long = ap length last ∙ length-append facts (x ∷ []) in omega (arith, long, many)

  pub facts_more : (trees : (ℕ → Place) → List Tree) (n : ℕ) → length facts ≡ n → FactsHold (map followed_fact facts) trees → Tells (followed_fact x) (λ place. part_tree (trees place) (14 + n))
      → FactsHold (map followed_fact new) trees
  facts_more trees n many held one = λ k f e.
      elim (last_or (map followed_fact facts) (followed_fact x) k f (ap (λ fs. slice_get fs k) (sym (ap (map followed_fact) last ∙ map-append followed_fact facts (x ∷ []))) ∙ e)) [
        | inl h ↦ held k f h.1
        | inr h ↦
            let at : n ≡ k = sym many ∙ (sym (length-map facts followed_fact) ∙ sym h.0) in
            subst (λ (m : ℕ). Tells f (λ place. part_tree (trees place) (14 + m))) at (subst (λ (g : FollowedFact). Tells g (λ place. part_tree (trees place) (14 + n))) h.1 one)
      ]
