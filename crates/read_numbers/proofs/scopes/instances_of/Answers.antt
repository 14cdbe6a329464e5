use Rattle.std.proofs.Common.{◌∙◌, ap, get_or, map, refl, slice_get, unwrap_or}
use Rattle.read_rules.specs.declared.scopes.Instance.{Instance}
use Rattle.read_rules.specs.{Scopes.numbered_instance, Views.numbered_view}
use Rattle.read_numbers.specs.NumberedParts.{no_view, numbered_instance as followed_instance}
use Rattle.read_numbers.proofs.{LoopLaws.made_more, PlaceNumbers.instance_here}
use Rattle.read_numbers.proofs.scopes.instances_of.Goals as goal

pub loop-number-preserved : goal.loop-number-preserved
loop-number-preserved c =
    let x = get_or c.args.instances.now c.loop-number.number c.index-instances-number.result in
    let item : Instance = record { place = x.place; view = c.view_at.result } in
    made_more numbered_instance (map followed_instance c.args.instances.now) c.loop-number.number c.loop-number.all.items c.loop-number.invariant c.push.new.self.items item
    (instance_here c.args.instances.now c.loop-number.number x c.index-instances-number.result c.loop-number-test.true refl (numbered_view c.view_at.result)
    (c.view_at.ensures ∙ ap (λ vs. unwrap_or (slice_get vs c.loop-number.number) no_view) c.requires)) c.in_ok-push.ensures.items
