use Rattle.read_follow.proofs.DeclarationLaws.{declaration_first}
use Rattle.read_follow.proofs.declarations.declaration_of.Goals as goal

pub returns : goal.returns
returns c = rw (declaration_first c.args.bytes.now) c.chosen_declaration.ensures
