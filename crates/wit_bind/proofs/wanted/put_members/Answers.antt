use Rattle.std.proofs.Common.{rules, ◌≡◌, None}
use Rattle.bind_keys.specs.{Keys.scope_of}
use Rattle.wit_bind.specs.{Choices.choice_of}
use Rattle.wit_bind.proofs.Putting.{puts_no_members}
use Rattle.wit_bind.proofs.wanted.put_members.Goals as goal

pub returns-in-None-clause-ok : goal.returns-in-None-clause-ok
returns-in-None-clause-ok c =
    let r = c.args.resolve.now in
    let none : None ≡ scope_of r c.args.scope.now = search rules in
    puts_no_members r (choice_of r c.args.wanted.now) c.args.scope.now c.args.functions.now.entries c.args.table.now.encodings none
