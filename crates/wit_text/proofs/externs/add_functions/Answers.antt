use Rattle.std.proofs.Common.{ap}
use Rattle.text_trees.specs.TreesSeen.{world_member_of}
use Rattle.text_types.specs.Scopes.{text_in}
use Rattle.text_shown.specs.ShowsWorlds.{world_functions}
use Rattle.wit_text.proofs.StageLaws.{calls_empty}
use Rattle.wit_text.proofs.externs.add_functions.Goals as goal

pub returns-in-WorldUse-clause-adds : goal.returns-in-WorldUse-clause-adds
returns-in-WorldUse-clause-adds c = calls_empty (ap (λ m. world_functions (world_member_of (text_in c.args.scope.now) m)) c.in-WorldUse.is)

pub returns-in-WorldExport-clause-adds : goal.returns-in-WorldExport-clause-adds
returns-in-WorldExport-clause-adds c = calls_empty (ap (λ m. world_functions (world_member_of (text_in c.args.scope.now) m)) c.in-WorldExport.is)
