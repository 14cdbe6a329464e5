use Rattle.std.proofs.Common.{arith}
use Rattle.text_names.proofs.TableLaws.{new_keys, package_numbers}
use Rattle.text_names.proofs.sources.Sources.add_new.Goals as goal

pub returns-clause-ok : goal.returns-clause-ok
returns-clause-ok c =
    package_numbers c.args.self.now c.requires.index c.args.number c.args.head c.args.key c.in_ok-package.package c.insert.new.self c.push.new.self c.requires.key c.requires.fresh
    (new_keys c.args.self.now c.requires.index c.args.key c.insert.new.self.keys c.requires.fresh c.in_ok-insert.ensures.keys) c.in_ok-push.ensures.items
    (omega (arith, c.in_ok-package.ensures.ok, c.len.ensures, c.args.self.now.packages.ok)) c.in_ok-package.ensures.small
