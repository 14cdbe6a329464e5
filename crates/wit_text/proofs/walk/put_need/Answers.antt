use Rattle.std.proofs.Common.{◌∷◌, [], ◌∙◌, sym, subst, List, ℕ}
use Rattle.wit_text.specs.Puts.{PutsAll}
use Rattle.wit_text.proofs.Walking.{goes_alone, on_ok, puts_none, stays_alone}
use Rattle.wit_text.proofs.walk.put_need.Goals as goal

pub returns-then-goes_to : goal.returns-then-goes_to
returns-then-goes_to c =
    let alone = goes_alone c.args.walk.now c.args.need (sym c.goes_to.ensures ∙ c.if-goes_to.true) in
    on_ok (PutsAll c.args.walk.now (c.args.need ∷ []) c.args.entries.now.entries c.put.new.entries.entries) _ c.put.result
    (λ puts. subst (λ (xs : List ℕ). PutsAll c.args.walk.now xs c.args.entries.now.entries c.put.new.entries.entries) (sym alone) puts) c.put.ensures

pub returns-else-goes_to : goal.returns-else-goes_to
returns-else-goes_to c =
    let alone = stays_alone c.args.walk.now c.args.need (sym c.goes_to.ensures ∙ c.if-goes_to.false) in
    subst (λ (xs : List ℕ). PutsAll c.args.walk.now xs c.args.entries.now.entries c.args.entries.now.entries) (sym alone)
    (puts_none c.args.walk.now c.args.entries.now.entries)
