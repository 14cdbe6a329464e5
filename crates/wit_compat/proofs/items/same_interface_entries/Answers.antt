use Rattle.std.proofs.Common.{rules}
use Rattle.wit_compat.proofs.WorldContents.{interface_entries}
use Rattle.wit_compat.proofs.items.same_interface_entries.Goals as goal
use Rattle.base_lemmas.proofs.Options.{if_ok as in_ok}

pub returns-clause-exact : goal.returns-clause-exact
returns-clause-exact c = in_ok _ _ (λ y. interface_entries c.args.left.now.resolve.now c.args.right.now.resolve.now c.args.a.0 c.args.b.0 c.args.external_id.now c.args.other_id.now y
    (c.same_external_ids.ensures.0 (search rules))) c.same_interface_items.result c.same_interface_items.ensures.exact
