use Rattle.bind_modules.specs.Reached.{OutgrowsLists}
use Rattle.wit_bind.specs.Bindings.{binding_of}
use Rattle.bind_modules.proofs.BoundTo.{bound-blames-none, same-size}
use Rattle.bind_modules.proofs.refused.refused_section.Goals as goal

pub returns-in-Ok-clause-tells : goal.returns-in-Ok-clause-tells
returns-in-Ok-clause-tells c = bound-blames-none c.args.bytes.now (binding_of c.in-Ok._bound) c.in-Ok.ensures.bound

pub returns-in-Err-clause-tells : goal.returns-in-Err-clause-tells
returns-in-Err-clause-tells c = c.told_by.ensures.tells c.args.bytes.now c.in-Err.ensures.blames

pub returns-in-Err-clause-size : goal.returns-in-Err-clause-size
returns-in-Err-clause-size c = same-size (OutgrowsLists c.args.bytes.now) c.told_by.result c.in-Err.error c.told_by.ensures.same c.in-Err.ensures.size
