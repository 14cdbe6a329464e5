use Rattle.std.proofs.Common.{◌++◌, [], false, ◌<◌, ◌^◌, arith}
use Rattle.comp_bytes.specs.{Parts.Part, Built.begun, Built.closed_bytes, Built.section_id, Writing.name_bytes, Writing.framed}
use Rattle.comp_bytes.proofs.{BuiltLaws.Grown, BuiltLaws.add_custom, BuiltSizes.size_passed, BuiltSizes.custom_refused}
use Rattle.comp_bytes.proofs.builder.ComponentBuilder.custom_section.Goals as goal

pub returns-in_err-put_custom-clause-size : goal.returns-in_err-put_custom-clause-size
returns-in_err-put_custom-clause-size c is =
    let long = rw c.deref.ensures.value at (c.in_err-put_custom.ensures.size (size_passed c.from_residual.result c.in_err-put_custom.field-0.0 c.from_residual.ensures.1 is)) in
    rw (← c.self.view_is) (custom_refused _ _ _ _ _ c.self.invariant c.args.name.now c.args.contents.now long)

grown : (c : goal.After-self-2-1)
    → Grown c.self.inside.done.items c.self.inside.items.items c.self.inside.count c.self.inside.exports (Part.custom c.args.name.now c.args.contents.now)
    ((begun c.self.inside.done.items ++ closed_bytes (section_id c.self.inside.exports) c.self.inside.count c.self.inside.items.items) ++ framed 0 (name_bytes c.args.name.now ++ c.args.contents.now))
    [] 0 false c.self.inside.types
grown c =
    let few : c.self.inside.count < 2 ^ 32 = omega arith in
    add_custom _ _ _ _ _ c.self.invariant few (rw c.deref.ensures.value at c.in_ok-put_custom.ensures.open_small) c.args.name.now c.args.contents.now c.in_ok-put_custom.ensures.spelled
    c.in_ok-put_custom.ensures.small

pub invariant_of-self-2 : goal.invariant_of-self-2
invariant_of-self-2 c = rw (c.in_ok-put_custom.ensures.ok, c.deref.ensures.value, c.clear.ensures.items) (grown c).builds

pub returns-clause-ok : goal.returns-clause-ok
returns-clause-ok c = rw (c.in_ok-put_custom.ensures.ok, c.deref.ensures.value, c.clear.ensures.items, ← c.self.view_is) (grown c).shows
