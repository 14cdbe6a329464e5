use Rattle.std.proofs.{Common.refl, Common.◌∙◌, lemmas.Option.slice_get_read}
use Rattle.check_rules.proofs.UsesTable.{uses_found}
use Rattle.check_rules.proofs.item_orders.uses_at.Goals as goal

pub returns : goal.returns
returns c =
    let r = c.args.resolve.now in
    let i = c.index.result.now in
    let at = slice_get_read r.interfaces.items _ c.args.number i refl c.requires c.index.ensures in
    λ q. c.in_ok-uses.ensures q ∙ uses_found r c.args.number i at q
