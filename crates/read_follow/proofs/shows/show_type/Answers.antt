use Rattle.read_follow.specs.InstanceScopes.{state_of}
use Rattle.read_follow.proofs.ShowLaws.{type_absent, type_shown}
use Rattle.read_follow.proofs.shows.show_type.Goals as goal

pub returns-in_ok-push-in-Ok-2-clause-shown : goal.returns-in_ok-push-in-Ok-2-clause-shown
returns-in_ok-push-in-Ok-2-clause-shown c = λ marks fs st below.
    let e = c.deref.ensures.value in
    let n = c.in_ok-number-in-Ok.ensures in
    type_shown marks (state_of c.args.table.now fs c.args.scope.now) st c.args.name c.args.here c.args.kind below c.in-Ok.made (rw e at c.in-Ok.ensures.range) (rw e at c.in-Ok.ensures.found)
    c.name_number.new.table c.in_ok-number-in-Ok.number n.found n.adds n.table.1 c.name_slot-slot.result c.name_slot-slot.ensures c.push.new.self.items c.in_ok-push-in-Ok.ensures.items
    c.push-in-Ok.new.self.items c.in_ok-push-in-Ok-2.ensures.items

pub returns-in-Err-clause-absent : goal.returns-in-Err-clause-absent
returns-in-Err-clause-absent c = λ marks fs st.
    let e = c.deref.ensures.value in
    type_absent marks (state_of c.args.table.now fs c.args.scope.now) st c.args.name c.args.here c.args.kind c.in-Err.refusal (rw e at c.in-Err.ensures.found)
