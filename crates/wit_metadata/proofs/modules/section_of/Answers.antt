use Rattle.wit_metadata.proofs.ModuleLaws.{nameless-frontless}
use Rattle.wit_metadata.proofs.modules.section_of.Goals as goal

pub returns-in-Err-carries_world : goal.returns-in-Err-carries_world
returns-in-Err-carries_world c = nameless-frontless c.args.bytes.now (c.in-Ok.section.id, c.in-Ok.section.contents.now) c.in-Ok.ensures.stands.0 c.in-Ok.rest.now c.in-Ok.ensures.stands.1
    c.in-Ok.ensures.stands.2 c.in-Err-carries_world.ensures

pub returns-in-Err : goal.returns-in-Err
returns-in-Err c = λ f rest h. c.in-Err.ensures.stands f h.front rest h.parts h.framed_
