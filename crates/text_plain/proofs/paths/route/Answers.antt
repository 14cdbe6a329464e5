use Rattle.std.proofs.Common.{rules}
use Rattle.text_plain.specs.Moves.{routes_of}
use Rattle.text_plain.proofs.Tables.{full_stays}
use Rattle.text_plain.proofs.paths.route.Goals as goal

pub returns-in-Full : goal.returns-in-Full
returns-in-Full c = search (rules, full_stays (routes_of c.args.moving.now))
