use Rattle.std.proofs.Common.{sym, ap, ◌∙◌, take}
use Rattle.encode_types.proofs.Planning.{met-decides}
use Rattle.encode_types.proofs.plan.Order.has.Goals as goal

pub returns-else-contains : goal.returns-else-contains
returns-else-contains c =
    let d = met-decides c.args.self.now _ c.args.id.0 c.requires (c.split_at.ensures.front ∙ ap (take 8) c.as_slice-numbers.ensures.value) (sym c.contains-2.ensures.value ∙ c.if-contains.false) in
    (λ h. d.0 (sym c.contains-else-contains.ensures ∙ h), λ h. c.contains-else-contains.ensures ∙ d.1 h)
