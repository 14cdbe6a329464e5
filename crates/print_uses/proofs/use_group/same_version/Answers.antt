use Rattle.std.proofs.Common.{◌∙◌}
use Rattle.print_uses.proofs.SameVersions.{version_by_text}
use Rattle.print_uses.proofs.use_group.same_version.Goals as goal

pub returns : goal.returns
returns c = c.same_parts.ensures ∙ version_by_text c.args.a.now c.args.b.now c.requires.left c.requires.right
