use Rattle.wit_model.specs.Names.{is_version}
use Rattle.base_lemmas.proofs.Bools.{right_of}
use Rattle.print_uses.proofs.use_group.is_since.Goals as goal

pub same_optional_version-requires-clause-right : goal.same_optional_version-requires-clause-right
same_optional_version-requires-clause-right c = right_of (is_version c.in-Stable.version) _ (rw c.in-Stable.is at c.requires.other)
