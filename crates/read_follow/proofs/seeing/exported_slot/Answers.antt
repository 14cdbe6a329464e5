use Rattle.std.proofs.Common.{sym, ◌∙◌, ap, subst, Option}
use Rattle.read_follow.specs.declared.{scopes.Instance.Instance, slots.Slot.Slot}
use Rattle.read_follow.specs.{Found.Gives, NameTables.marked_slot, Scopes.find_slot, Scopes.slot_of_instance}
use Rattle.read_follow.proofs.NameTableLaws.{names_stay, table_of}
use Rattle.read_follow.proofs.seeing.exported_slot.Goals as goal

pub find_type-requires : goal.find_type-requires
find_type-requires c = rw c.deref.ensures.value (table_of c.args.names.now c.args.instances.now c.requires c.args.m c.in-Some.instance.now (sym c.in-Some.ensures))

pub returns-in_err-slot-in-Some-clause-names : goal.returns-in_err-slot-in-Some-clause-names
returns-in_err-slot-in-Some-clause-names c = names_stay c.args.names.now c.find_type.new.names c.args.instances.now c.requires c.args.m c.in-Some.instance.now (sym c.in-Some.ensures)
    (rw c.deref.ensures.value at c.find_type.ensures.adds)

pub returns-in_ok-slot-in-Some-clause-found : goal.returns-in_ok-slot-in-Some-clause-found
returns-in_ok-slot-in-Some-clause-found c paths e = subst (λ (o : Option Instance). Gives (λ s. s) c.marked.result (slot_of_instance paths c.args.name.now o)) c.in-Some.ensures
    (subst (λ (o : Option Slot). Gives (λ s. s) c.marked.result (marked_slot paths c.in-Some.instance.now.place o))
    (c.in_ok-slot-in-Some.ensures.found ∙ ap (find_slot c.args.name.now) c.deref.ensures.value) (c.marked.ensures paths e))

pub returns-in_ok-slot-in-Some-clause-names : goal.returns-in_ok-slot-in-Some-clause-names
returns-in_ok-slot-in-Some-clause-names c = names_stay c.args.names.now c.find_type.new.names c.args.instances.now c.requires c.args.m c.in-Some.instance.now (sym c.in-Some.ensures)
    (rw c.deref.ensures.value at c.find_type.ensures.adds)

pub returns-in-None-clause-found : goal.returns-in-None-clause-found
returns-in-None-clause-found c paths e = ap (slot_of_instance paths c.args.name.now) (sym c.in-None.ensures)
