use Rattle.std.proofs.Common.{subst, Ok}
use Rattle.wit_metadata.specs.Modules.{Framed, TellsCarrying}
use Rattle.wit_metadata.proofs.ModuleLaws.{carried-data}
use Rattle.wit_metadata.proofs.modules.carried_in.Goals as goal

pub returns-then-carries-clause-ok : goal.returns-then-carries-clause-ok
returns-then-carries-clause-ok c =
    let f : Framed = (c.in-Ok.section.id, c.in-Ok.section.contents.now) in
    let told = subst (λ b. TellsCarrying f (Ok b)) c.if-carries.true c.in-Ok.ensures.1 in
    carried-data c.args.bytes.now c.in-Ok.behind.now f c.in-Ok.ensures.0 told.1 c.data_of.result c.data_of.ensures

pub returns-else-carries-clause-ok : goal.returns-else-carries-clause-ok
returns-else-carries-clause-ok c =
    let f : Framed = (c.in-Ok.section.id, c.in-Ok.section.contents.now) in
    let told = subst (λ b. TellsCarrying f (Ok b)) c.if-carries.false c.in-Ok.ensures.1 in
    (f, c.in-Ok.ensures.0, told.1)
