use Rattle.std.proofs.Common.{◌∙◌, sym, ◌+◌}
use Rattle.read_follow.specs.declared.scopes.Seen.{Seen}
use Rattle.read_follow.specs.declared.scopes.Shown.TheVariants as shown
use Rattle.read_follow.specs.Scopes.{world_of}
use Rattle.read_follow.proofs.{SeeLaws.type_goes, SeeLaws.type_stops, ScopeLaws.world_with}
use Rattle.read_follow.proofs.seeing.see_type.Goals as goal

pub returns-in_ok-push-in-Ok-2-clause-seen : goal.returns-in_ok-push-in-Ok-2-clause-seen
returns-in_ok-push-in-Ok-2-clause-seen c = λ fs paths st.
    let e = c.deref.ensures.value in
    let old = world_of c.args.table.now fs paths c.args.scope.now in
    let n = c.in_ok-number-in-Ok.ensures in
    let s : Seen = record { shown = shown.Type c.args.name.text (14 + c.in_ok-number-in-Ok.number) c.in-Ok.made.declared; external_id = c.args.name.external_id } in
    type_goes old st c.args.name c.args.kind c.in-Ok.made (rw e at c.in-Ok.ensures.range) (rw e at c.in-Ok.ensures.found) (sym c.is_simple.ensures ∙ c.if-not-is_simple.false)
    c.name_number.new.table c.in_ok-number-in-Ok.number n.found n.adds n.table.1 c.name_slot.result c.name_slot.ensures (world_of c.name_number.new.table fs paths (record {
      home = c.args.scope.now.home;
      slots = c.push.new.self;
      instances = c.args.scope.now.instances;
      imports = c.push-in-Ok.new.self;
      exports = c.args.scope.now.exports;
      used = c.args.scope.now.used;
    })) (λ i. world_with c.args.scope.now.home c.name_number.new.table fs paths (c.in_ok-push-in-Ok.ensures.items i) c.args.scope.now.instances.items (c.in_ok-push-in-Ok-2.ensures.items i)
    c.args.scope.now.exports.items c.args.scope.now.used.keys)

pub returns-in-Err-clause-absent : goal.returns-in-Err-clause-absent
returns-in-Err-clause-absent c = λ fs paths st.
    let e = c.deref.ensures.value in
    type_stops (world_of c.args.table.now fs paths c.args.scope.now) st c.args.name c.args.kind paths c.in-Err.refusal (rw e at c.in-Err.ensures.found)
