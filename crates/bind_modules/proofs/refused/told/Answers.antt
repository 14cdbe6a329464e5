use Rattle.std.proofs.Common.{subst}
use Rattle.bind_sections.specs.Blamed.{Blames}
use Rattle.bind_modules.proofs.BoundTo.{to-blame}
use Rattle.bind_modules.proofs.refused.told.Goals as goal

pub returns-in-NotAModule-clause-tells : goal.returns-in-NotAModule-clause-tells
returns-in-NotAModule-clause-tells c input h = subst (Blames input c.args.count) c.in-NotAModule.is h

pub returns-in-BadModule-clause-tells : goal.returns-in-BadModule-clause-tells
returns-in-BadModule-clause-tells c input h = subst (Blames input c.args.count) c.in-BadModule.is h

pub returns-in_default-clause-tells : goal.returns-in_default-clause-tells
returns-in_default-clause-tells c input h = to-blame input c.args.count c.args.error.now c.in_default.not-Memory c.in_default.not-Size c.in_default.not-NotAModule c.in_default.not-BadModule h
