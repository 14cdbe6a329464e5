use Rattle.std.proofs.Common.{ap}
use Rattle.text_names.specs.Paths.{path_of_use}
use Rattle.text_names.proofs.PathLaws.{use_refused}
use Rattle.text_names.proofs.needs.add_need.Goals as goal

pub returns-in-Err-clause-err : goal.returns-in-Err-clause-err
returns-in-Err-clause-err c = use_refused c.args.sources.now c.args.text c.args.own c.args.member.now c.in-UseMember.path c.in-Err.fault (ap path_of_use c.in-UseMember.is) c.in-Err.ensures.err
