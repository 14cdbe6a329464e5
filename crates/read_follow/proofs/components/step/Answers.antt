use Rattle.comp_bytes.specs.{Raw.Declaration, RawOf.raw_alias, RawOf.raw_defined, RawOf.raw_function}
use Rattle.comp_meaning.specs.Follow.{component_step}
use Rattle.read_follow.specs.{Defining.Grows, Defining.IsDefined, Defining.IsDefinedFunction, Defining.IsUndefined}
use Rattle.read_follow.specs.{NameTables.AreNamesOf, Scopes.world_of, Scopes.Goes, Scopes.Stops}
use Rattle.read_follow.proofs.ComponentLaws.{alias_goes, alias_stops, defined_goes, defined_stops, signed_goes, signed_stops}
use Rattle.read_follow.proofs.{FollowingLaws.if_err, FollowingLaws.on_ok, FollowingLaws.ranges_of, NameTableLaws.names_grow}
use Rattle.read_follow.proofs.components.step.Goals as goal

pub define-requires : goal.define-requires
define-requires c = ranges_of c.args.table.now c.args.functions.now c.args.scope.now.slots.items c.requires.world.slots

pub returns-in-Defined-clause-followed : goal.returns-in-Defined-clause-followed
returns-in-Defined-clause-followed c =
    let old = world_of c.args.table.now c.args.functions.now c.args.places.now c.args.scope.now in
    let new = world_of c.define.new.table c.args.functions.now c.args.places.now (record c.args.scope.now { slots = c.define.new.slots }) in
    let d = raw_defined c.in-Defined.definition in
    rw c.in-Defined.is (on_ok (IsDefined c.args.table.now c.args.scope.now.slots.items d c.define.new.table c.define.new.slots.items) (Goes 1 (λ m. component_step m (Declaration.defined d)) old new)
    c.define.result (defined_goes old c.requires.world d c.define.new.table c.define.new.slots.items c.define.ensures.table.1) c.define.ensures.defined)

pub returns-in-Defined-clause-absent : goal.returns-in-Defined-clause-absent
returns-in-Defined-clause-absent c =
    let old = world_of c.args.table.now c.args.functions.now c.args.places.now c.args.scope.now in
    let d = raw_defined c.in-Defined.definition in
    rw c.in-Defined.is (if_err (IsUndefined c.args.table.now c.args.scope.now.slots.items d) (Stops (λ m. component_step m (Declaration.defined d)) old old.paths) c.define.result
    (defined_stops old c.requires.world d) c.define.ensures.refused)

pub returns-in-Function-clause-followed : goal.returns-in-Function-clause-followed
returns-in-Function-clause-followed c =
    let old = world_of c.args.table.now c.args.functions.now c.args.places.now c.args.scope.now in
    let new = world_of c.args.table.now c.define_function.new.functions c.args.places.now (record c.args.scope.now { slots = c.define_function.new.slots }) in
    let f = raw_function c.in-Function.function in
    rw c.in-Function.is (on_ok (IsDefinedFunction c.args.functions.now c.args.scope.now.slots.items f c.define_function.new.functions c.define_function.new.slots.items)
    (Goes 1 (λ m. component_step m (Declaration.function f)) old new) c.define_function.result
    (signed_goes old c.requires.world f c.define_function.new.functions c.define_function.new.slots.items) c.define_function.ensures.defined)

pub returns-in-Function-clause-absent : goal.returns-in-Function-clause-absent
returns-in-Function-clause-absent c =
    let old = world_of c.args.table.now c.args.functions.now c.args.places.now c.args.scope.now in
    let f = raw_function c.in-Function.function in
    rw c.in-Function.is (if_err _ (Stops (λ m. component_step m (Declaration.function f)) old old.paths) c.define_function.result (signed_stops old c.requires.world f)
    c.define_function.ensures.refused)

pub returns-in_ok-push-in-Ok-clause-followed : goal.returns-in_ok-push-in-Ok-clause-followed
returns-in_ok-push-in-Ok-clause-followed c =
    let old = world_of c.args.table.now c.args.functions.now c.args.places.now c.args.scope.now in
    rw c.in-Alias.is (alias_goes old c.requires.world (raw_alias c.in-Alias.alias) c.in-Ok.slot c.push.new.self.items c.in-Ok.ensures.found c.in_ok-push-in-Ok.ensures.items)

pub returns-in-Err-clause-absent : goal.returns-in-Err-clause-absent
returns-in-Err-clause-absent c =
    let old = world_of c.args.table.now c.args.functions.now c.args.places.now c.args.scope.now in
    rw c.in-Alias.is (alias_stops old c.requires.world (raw_alias c.in-Alias.alias) c.in-Err.refusal c.in-Err.ensures.found)

pub returns-in-Import-clause-absent : goal.returns-in-Import-clause-absent
returns-in-Import-clause-absent c = rw c.in-Import.is c.see.ensures.absent

pub returns-in-Export-clause-absent : goal.returns-in-Export-clause-absent
returns-in-Export-clause-absent c = rw c.in-Export.is c.see-in-Export.ensures.absent

pub returns-in-Import-clause-names : goal.returns-in-Import-clause-names
returns-in-Import-clause-names c = on_ok (Grows c.args.scope.now.instances.items c.see.new.scope.instances.items) (AreNamesOf c.args.names.now c.see.new.scope.instances.items) c.see.result
    (λ g. names_grow c.args.names.now c.args.scope.now.instances.items c.see.new.scope.instances.items g c.requires.names) c.see.ensures.instances

pub returns-in-Export-clause-names : goal.returns-in-Export-clause-names
returns-in-Export-clause-names c = on_ok (Grows c.args.scope.now.instances.items c.see-in-Export.new.scope.instances.items) (AreNamesOf c.args.names.now c.see-in-Export.new.scope.instances.items)
    c.see-in-Export.result (λ g. names_grow c.args.names.now c.args.scope.now.instances.items c.see-in-Export.new.scope.instances.items g c.requires.names) c.see-in-Export.ensures.instances
