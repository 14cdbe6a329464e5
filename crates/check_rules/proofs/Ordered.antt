-- The order of an owner's list, by the greatest place of what is met at each number.
use Rattle.std.proofs.Common.{rules as std_rules, ◌≡◌, refl, ap, ◌∙◌, ℕ, max, List, [], ◌∷◌, ◌++◌, flat_map, Some, None, arith, String}
use Rattle.std.specs.declared.alloc.Global.{Global}
use Rattle.wit_model.specs.declared.model.{Resolve.Resolve, TypeDef.TypeDef}
use Rattle.wit_model.specs.{Text.text_of, Lookup.type_at, Valid.Keeps, Checks.references, Checks.highest, Checks.rank_in, Checks.rank_of, Checks.reach_of}
use Rattle.wit_model.specs.Parts.{kind_numbers, met_by, met_of}
use Rattle.wit_model.proofs.Owners.{met_step}
use Rattle.base_lemmas.proofs.Numbers.{max-none}

highest_both : (f : ℕ → ℕ) (xs ys : List ℕ) → highest f (xs ++ ys) ≡ max (highest f xs) (highest f ys)
highest_both f [] ys = omega arith
highest_both f (x ∷ xs) ys = let rest = highest_both f xs ys in omega (arith, rest)

pub highest_flat : (f : ℕ → ℕ) (g : ℕ → List ℕ) (ns : List ℕ) → highest f (flat_map g ns) ≡ highest (λ n. highest f (g n)) ns
highest_flat f g [] = refl
highest_flat f g (n ∷ ns) = highest_both f (g n) (flat_map g ns) ∙ ap (max (highest f (g n))) (highest_flat f g ns)

module _ (r : Resolve) (below : Keeps references r) (n : ℕ) (def : TypeDef) (is : type_at r n ≡ Some def) where
  pub reach_named : (name : String Global) → def.name ≡ Some name → reach_of r n ≡ rank_in r (text_of name) def.owner
  reach_named name named = search (std_rules, met_step r below n def is, max-none (rank_of r n))

  pub reach_unnamed : def.name ≡ None → reach_of r n ≡ highest (reach_of r) (kind_numbers def.kind)
  reach_unnamed unnamed = search (std_rules, met_step r below n def is, highest_flat (rank_of r) (met_by (met_of r)) (kind_numbers def.kind))
