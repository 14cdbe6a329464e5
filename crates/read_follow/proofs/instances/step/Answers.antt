use Rattle.std.proofs.Common.{ℕ, List}
use Rattle.wit_model.specs.Tree.{Place}
use Rattle.comp_bytes.specs.{Raw.Declaration, RawOf.raw_alias, RawOf.raw_defined, RawOf.raw_function}
use Rattle.comp_meaning.specs.Follow.{Slot as Meant}
use Rattle.read_follow.specs.declared.{slots.Slot.Slot}
use Rattle.read_follow.specs.{Following.Halts, Following.Steps, InstanceScopes.state_of, InstanceScopes.step_of, Slots.slots_in}
use Rattle.read_follow.specs.{Defining.IsDefined, Defining.IsDefinedFunction, Defining.IsUndefined, Functions.functions_in, Functions.FunctionShape}
use Rattle.plan_meaning.specs.Shapes.{Shape, shape_trees}
use Rattle.read_follow.proofs.FollowingLaws.{defined_halts, defined_step, function_halts, function_step, if_err, on_ok, ranges_of}
use Rattle.read_follow.proofs.StepLaws.{alias_halts, alias_step}
use Rattle.read_follow.proofs.instances.step.Goals as goal

-- what stands around
abbrev around : List Shape → List FunctionShape → List Slot → (ℕ → Place) → List Meant
around shapes fs outer place = slots_in (shape_trees place shapes) (functions_in (shape_trees place shapes) fs) outer

pub define-requires : goal.define-requires
define-requires c = ranges_of c.args.table.now c.args.functions.now c.args.scope.now.slots.items c.requires.state.slots

pub returns-in-Defined-clause-followed : goal.returns-in-Defined-clause-followed
returns-in-Defined-clause-followed c =
    let old = state_of c.args.table.now c.args.functions.now c.args.scope.now in
    let new = state_of c.define.new.table c.args.functions.now (record c.args.scope.now { slots = c.define.new.slots }) in
    let d = raw_defined c.in-Defined.definition in
    rw c.in-Defined.is (on_ok (IsDefined c.args.table.now c.args.scope.now.slots.items d c.define.new.table c.define.new.slots.items)
    (Steps c.args.marks.now c.args.here 1 (step_of c.args.here c.args.table.now c.args.functions.now c.args.outer.now (Declaration.defined d)) old new) c.define.result
    (defined_step c.args.marks.now old c.requires.state c.args.here (around c.args.table.now c.args.functions.now c.args.outer.now) d c.define.new.table c.define.new.slots.items
    c.define.ensures.table.1) c.define.ensures.defined)

pub returns-in-Defined-clause-absent : goal.returns-in-Defined-clause-absent
returns-in-Defined-clause-absent c =
    let old = state_of c.args.table.now c.args.functions.now c.args.scope.now in
    let d = raw_defined c.in-Defined.definition in
    rw c.in-Defined.is (if_err (IsUndefined c.args.table.now c.args.scope.now.slots.items d)
    (Halts c.args.marks.now (step_of c.args.here c.args.table.now c.args.functions.now c.args.outer.now (Declaration.defined d)) old) c.define.result
    (defined_halts c.args.marks.now old c.requires.state c.args.here (around c.args.table.now c.args.functions.now c.args.outer.now) d) c.define.ensures.refused)

pub returns-in-Function-clause-followed : goal.returns-in-Function-clause-followed
returns-in-Function-clause-followed c =
    let old = state_of c.args.table.now c.args.functions.now c.args.scope.now in
    let new = state_of c.args.table.now c.define_function.new.functions (record c.args.scope.now { slots = c.define_function.new.slots }) in
    let f = raw_function c.in-Function.function in
    rw c.in-Function.is (on_ok (IsDefinedFunction c.args.functions.now c.args.scope.now.slots.items f c.define_function.new.functions c.define_function.new.slots.items)
    (Steps c.args.marks.now c.args.here 1 (step_of c.args.here c.args.table.now c.args.functions.now c.args.outer.now (Declaration.function f)) old new) c.define_function.result
    (function_step c.args.marks.now old c.requires.state c.args.here (around c.args.table.now c.args.functions.now c.args.outer.now) f c.define_function.new.functions
    c.define_function.new.slots.items) c.define_function.ensures.defined)

pub returns-in-Function-clause-absent : goal.returns-in-Function-clause-absent
returns-in-Function-clause-absent c =
    let old = state_of c.args.table.now c.args.functions.now c.args.scope.now in
    let f = raw_function c.in-Function.function in
    rw c.in-Function.is (if_err (λ e. _) (λ e. Halts c.args.marks.now (step_of c.args.here c.args.table.now c.args.functions.now c.args.outer.now (Declaration.function f)) old e)
    c.define_function.result
    (λ e is. function_halts c.args.marks.now old c.requires.state c.args.here (around c.args.table.now c.args.functions.now c.args.outer.now) f e is) c.define_function.ensures.refused)

pub returns-in_ok-push-in-Ok-clause-followed : goal.returns-in_ok-push-in-Ok-clause-followed
returns-in_ok-push-in-Ok-clause-followed c =
    let old = state_of c.args.table.now c.args.functions.now c.args.scope.now in
    rw c.in-Alias.is (alias_step c.args.marks.now old c.requires.state c.args.here c.args.outer.now c.requires.outer (raw_alias c.in-Alias.alias) c.in-Ok.slot c.push.new.self.items c.in-Ok.ensures
    c.in_ok-push-in-Ok.ensures.items)

pub returns-in-Err-clause-absent : goal.returns-in-Err-clause-absent
returns-in-Err-clause-absent c =
    let old = state_of c.args.table.now c.args.functions.now c.args.scope.now in
    rw c.in-Alias.is (alias_halts c.args.marks.now old c.requires.state c.args.here c.args.outer.now c.requires.outer (raw_alias c.in-Alias.alias) c.in-Err.refusal c.in-Err.ensures)

pub returns-in-Export-clause-followed : goal.returns-in-Export-clause-followed
returns-in-Export-clause-followed c = rw c.in-Export.is (c.show.ensures.shown c.args.marks.now c.args.functions.now c.requires.state c.requires.here)

pub returns-in-Export-clause-absent : goal.returns-in-Export-clause-absent
returns-in-Export-clause-absent c = rw c.in-Export.is (c.show.ensures.absent c.args.marks.now c.args.functions.now c.requires.state)
