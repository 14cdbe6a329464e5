-- Lemmas on the numbers of forms.
use Rattle.plan_meaning.specs.Shapes.{form_code}
use Rattle.std.proofs.Common.{rules as std_rules, ◌≡◌}
use Rattle.wit_model.specs.Tree.{Form}

pub no_sort : (f : Form) → (form_code f).sort ≡ 0 → ⊥
no_sort x e = search std_rules
