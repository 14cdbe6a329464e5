use Rattle.std.proofs.{Common.sym, Common.◌∙◌, Common.map, lemmas.List.Folds.list_all-map}
use Rattle.read_rules.specs.{Interfaces.may_stand, Tables.now_of, Views.numbered_function}
use Rattle.read_rules.proofs.AllLaws.{all_pass, one_fails, one_passes}
use Rattle.read_rules.proofs.interfaces.are_functions.Goals as goal

pub loop-function-init : goal.loop-function-init
loop-function-init c = sym (list_all-map (may_stand c.args.tables.now c.args.place (map now_of c.args.resources.now.keys)) numbered_function c.args.functions.now)

pub returns-then-not-branch : goal.returns-then-not-branch
returns-then-not-branch c = one_fails (λ f. may_stand c.args.tables.now c.args.place (map now_of c.args.resources.now.keys) (numbered_function f)) c.args.functions.now c.loop-function.function-index
    c.loop-function.invariant _ c.loop-function-test.true (sym c.in_ok-may_stand.ensures ∙ c.if-not-branch.true)

pub loop-function-preserved : goal.loop-function-preserved
loop-function-preserved c = one_passes (λ f. may_stand c.args.tables.now c.args.place (map now_of c.args.resources.now.keys) (numbered_function f)) c.args.functions.now c.loop-function.function-index
    c.loop-function.invariant _ c.loop-function-test.true (sym c.in_ok-may_stand.ensures ∙ c.if-not-branch.false)

pub returns : goal.returns
returns c = all_pass (λ f. may_stand c.args.tables.now c.args.place (map now_of c.args.resources.now.keys) (numbered_function f)) c.args.functions.now c.loop-function.function-index
    c.loop-function.invariant c.loop-function-test.false
