use Rattle.std.proofs.Common.{◌≡◌, ◌∙◌, ◌&&◌, not, filter_map}
use Rattle.std.specs.List.{list_all}
use Rattle.wit_model.specs.{Parts.member_types, Parts.handled, Rules.passes, Types.number_of, Checks.flags, Valid.handles}
use Rattle.wit_model.proofs.Resources.{marked_type}
use Rattle.check_rules.proofs.Found.{said}
use Rattle.check_rules.proofs.resources.type_keeps.Goals as goal

pub returns : goal.returns
unfolding handles
returns c =
    let table = c.args.table.now in
    let def = c.index.result.now in
    let kept : c.is_fit.result ≡ (list_all (λ n. not (flags table n)) (filter_map number_of (member_types def.kind)) && passes (flags table) (handled def.kind)) = cc (c.in_ok-members.ensures) in
    said (handles.type_ c.args.resolve.now) _ _ _ _ c.requires.in_range c.index.ensures (kept ∙ marked_type c.args.resolve.now (flags table) c.requires.table def.kind)
