use Rattle.std.proofs.{Common.sym, Common.◌∙◌, Common.map, lemmas.Bool.and_left as first_no}
use Rattle.read_rules.specs.Tables.{now_of, numbered_function_type}
use Rattle.read_rules.proofs.FunctionLaws.{first_yes, method_none, method_some}
use Rattle.read_rules.proofs.functions.is_method.Goals as goal

pub returns-then-is_among : goal.returns-then-is_among
returns-then-is_among c = c.begins_with_self.ensures ∙ sym (method_some c.args.tables.now c.args.place (map now_of c.args.resources.now.keys) c.args.name.now (numbered_function_type c.args.function)
    c.in-Some.resource.now c.in-Some.ensures ∙ first_yes _ _ (sym c.if-is_among.ensures))

pub returns-else-is_among : goal.returns-else-is_among
returns-else-is_among c = c.if-is_among.false ∙ sym (method_some c.args.tables.now c.args.place (map now_of c.args.resources.now.keys) c.args.name.now (numbered_function_type c.args.function)
    c.in-Some.resource.now c.in-Some.ensures ∙ first_no _ _ (sym c.if-is_among.ensures))

pub returns-in-None : goal.returns-in-None
returns-in-None c = sym (method_none c.args.tables.now c.args.place (map now_of c.args.resources.now.keys) c.args.name.now (numbered_function_type c.args.function) c.in-None.ensures)
