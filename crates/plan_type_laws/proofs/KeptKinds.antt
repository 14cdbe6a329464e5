-- What a type of a plan declares: its kind tells that.
use Rattle.std.proofs.Common.{rules as std_rules, ◌≡◌, refl, ℕ, ◌+◌, List, [], ◌∷◌, Option, Some, slice_get}
use Rattle.std.specs.List.{AllZip}
use Rattle.wit_model.specs.Tree.{Form}
use Rattle.plan_meaning.specs.GatheredPlan.{Becomes, DeclaresKind}
use Rattle.plan_meaning.specs.{NumberedViews.AreTables, NumberedViews.Tables, Renumbering.IsPart, Plan.Plan, Plan.PlannedKind, Shapes.node_shape}
use Rattle.plan_meaning.specs.Plan as plan

-- ---- numbers

-- a part of the plan stands for one part of the tables
pub one_old : (kept : List ℕ) (a b new : ℕ) → IsPart kept a new → IsPart kept b new → a ≡ b
one_old kept a b new z u = search std_rules

module _ (t : Tables) (tables : AreTables t) (kept : List ℕ) (p : Plan) where
  same_olds : (ks ls news : List ℕ) → AllZip (Becomes t kept p) ks news → AllZip (Becomes t kept p) ls news → ks ≡ ls
  same_olds [] [] news x y = refl
  same_olds [] (l ∷ ls) (n ∷ news) x y = absurd x
  same_olds (k ∷ ks) ls [] x y = absurd x
  same_olds (k ∷ ks) (l ∷ ls) (n ∷ news) x y = search (std_rules, one_old, same_olds ks ls news x.1 y.1)
  same_olds _ _ _ x y = absurd y

  same_form : (a b m n : ℕ) (f g : Form) (olds others news mores : List ℕ) → a ≡ 14 + m → b ≡ 14 + n → slice_get t.shapes m ≡ Some (node_shape f olds)
      → slice_get t.shapes n ≡ Some (node_shape g others) → AllZip (Becomes t kept p) olds news → AllZip (Becomes t kept p) others mores → plan.formed f news ≡ plan.formed g mores → a ≡ b
  same_form a b m n f g olds others news mores am bn m_at n_at z y e = search (std_rules, same_olds)

  -- two parts that are declared as one kind are the same
  pub kinds_tell : (d e : Option ℕ) (kind : PlannedKind) → DeclaresKind t kept p d kind → DeclaresKind t kept p e kind → d ≡ e
  kinds_tell d e kind u v = search (std_rules, one_old, same_form)
