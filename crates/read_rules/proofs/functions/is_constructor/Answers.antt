use Rattle.std.proofs.{Common.sym, Common.ap, Common.◌∙◌, Common.not, Common.map, lemmas.Bool.and_left as first_no}
use Rattle.read_rules.specs.Tables.{now_of, numbered_function_type}
use Rattle.read_rules.proofs.FunctionLaws.{all_three, constructor_none, constructor_some, second_no}
use Rattle.read_rules.proofs.functions.is_constructor.Goals as goal

pub returns-then-not-function : goal.returns-then-not-function
returns-then-not-function c = c.constructs.ensures ∙ sym (constructor_some c.args.tables.now c.args.place (map now_of c.args.resources.now.keys) c.args.name.now
    (numbered_function_type c.args.function) c.in-Some.resource.now c.in-Some.ensures ∙ all_three _ _ _ (sym c.if-is_among.ensures) (ap not c.if-not-function.true))

pub returns-else-not-function : goal.returns-else-not-function
returns-else-not-function c = ap not c.if-not-function.false ∙ sym (constructor_some c.args.tables.now c.args.place (map now_of c.args.resources.now.keys) c.args.name.now
    (numbered_function_type c.args.function) c.in-Some.resource.now c.in-Some.ensures ∙ second_no _ _ _ (ap not c.if-not-function.false))

pub returns-else-is_among : goal.returns-else-is_among
returns-else-is_among c = c.if-is_among.false ∙ sym (constructor_some c.args.tables.now c.args.place (map now_of c.args.resources.now.keys) c.args.name.now (numbered_function_type c.args.function)
    c.in-Some.resource.now c.in-Some.ensures ∙ first_no _ _ (sym c.if-is_among.ensures))

pub returns-in-None : goal.returns-in-None
returns-in-None c = sym (constructor_none c.args.tables.now c.args.place (map now_of c.args.resources.now.keys) c.args.name.now (numbered_function_type c.args.function) c.in-None.ensures)
