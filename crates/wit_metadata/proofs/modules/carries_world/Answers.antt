use Rattle.std.proofs.lemmas.Str.Pattern.{starts_text}
use Rattle.wit_metadata.specs.Modules.{carrying_name}
use Rattle.wit_metadata.proofs.ModuleLaws.{name-refused, told-by_name}
use Rattle.wit_metadata.proofs.modules.carries_world.Goals as goal

pub returns-in-Ok : goal.returns-in-Ok
returns-in-Ok c = told-by_name (c.args.id, c.args.contents.now) c.if-id-ne0.false c.in-Ok.name.now c.in-Ok.field-0-1.now c.starts_with.result c.in-Ok.ensures
    (starts_text c.starts_with.result carrying_name c.in-Ok.name.now c.starts_with.ensures.cases)

pub returns-in-Err : goal.returns-in-Err
returns-in-Err c = name-refused (c.args.id, c.args.contents.now) c.if-id-ne0.false c.in-Err.error c.in-Err.ensures
