use Rattle.std.proofs.Common.{◌≡◌, refl, ℕ, true, length, [], Some, is_some, Result, Ok, Err, OnErr, arith, rules}
use Rattle.std.proofs.lemmas.Bool.{lt-ltb}
use Rattle.std.specs.Result.{IsErr}
use Rattle.wit_model.specs.{Lookup.interface_at, Lookup.interface_path, Text.Text}
use Rattle.wit_model.specs.declared.{error.Error.Error, model.Interface.Interface}
use Rattle.wit_model.proofs.OnePath.{found-in}
use Rattle.wit_encode.specs.Worlds.{world_around}
use Rattle.wit_encode.proofs.{DependencyHolding.import-lacks, DependencyHolding.slot-lacks, ImportLoop.path-in-range}
use Rattle.wit_interfaces.specs.InterfaceEncoders.{InterfaceEncoder, aliases, component_of, interface_encoder_view, unused}
use Rattle.wit_interfaces.proofs.Calls.{aliases-leave, first-listed, import-leaves, import-made, import-room, import-stands, part-leaves, part-left, used-outside}
use Rattle.encode_types.proofs.Aliasing.{met-none}
use Rattle.base_lemmas.proofs.Options.{at_err as on-err, there as some-of}
use Rattle.wit_model.specs.declared.error.Error.TheVariants as errors
use Rattle.wit_interfaces.proofs.encoder.InterfaceEncoder.import_first.Goals as goal

there : (e : InterfaceEncoder) (i : ℕ) → is_some (interface_path (interface_encoder_view e).scope.packages i) ≡ true → (def : Interface)
    × (interface_at (interface_encoder_view e).scope.packages i ≡ Some def)
there e i named = let r = (interface_encoder_view e).scope.packages in found-in r.interfaces.items i (lt-ltb i (length r.interfaces.items) (path-in-range r i named))

path : (e : InterfaceEncoder) (i : ℕ) → is_some (interface_path (interface_encoder_view e).scope.packages i) ≡ true → (t : Text) × (interface_path (interface_encoder_view e).scope.packages i ≡ Some t)
path e i named = some-of (interface_path (interface_encoder_view e).scope.packages i) named

pub define_dependency-requires-clause-in_range : goal.define_dependency-requires-clause-in_range
define_dependency-requires-clause-in_range c = path-in-range c.args.self.now.encoder.resolve.now c.args.interface.0 c.requires.named

pub define_dependency-requires-clause-around : goal.define_dependency-requires-clause-around
define_dependency-requires-clause-around c = used-outside c.args.self.now c.args.interface.0 c.requires.uses

pub import_instance-requires : goal.import_instance-requires
import_instance-requires c =
    let e = c.args.self.now in
    let found = there e c.args.interface.0 c.requires.named in
    first-listed e.encoder.resolve.now (component_of e) (world_around c.define_dependency.new.self) c.args.interface found.0 c.in_ok-slot.slot (c.in_ok-slot.ensures.ok found.0 found.1)
    c.requires.first

made-in : {A E P : Type 0} (res : Result A E) → IsErr res → OnErr res P → P
made-in (Ok x) h p = absurd (let z : ⊥ = cc in z)
made-in (Err e) h p = p

pub returns-in_err-slot-clause-leaves : goal.returns-in_err-slot-clause-leaves
returns-in_err-slot-clause-leaves c = aliases-leave c.args.self.now c.requires.can c.define_dependency.new.self c.define_dependency.ensures.rest
    (made-in c.define_dependency.result (search rules) c.define_dependency.ensures.err).made.grown

pub returns-in_err-slot-clause-size : goal.returns-in_err-slot-clause-size
returns-in_err-slot-clause-size c = λ h.
    let refused : ◌≡◌ {A = Result ℕ Error} c.define_dependency.result (Err errors.Size) = search rules in
    let e = c.args.self.now in
    let found = there e c.args.interface.0 c.requires.named in
    slot-lacks e.encoder.resolve.now e.canonical_names (component_of e) c.args.interface found.0 found.1 (c.define_dependency.ensures.size refused found.0 found.1)

pub returns-clause-leaves : goal.returns-clause-leaves
returns-clause-leaves c =
    let e = c.args.self.now in
    let found = there e c.args.interface.0 c.requires.named in
    let named = path e c.args.interface.0 c.requires.named in
    import-leaves e c.requires.can c.define_dependency.new.self c.define_dependency.ensures.rest c.args.interface found.0 c.in_ok-slot.slot found.1 (c.in_ok-slot.ensures.ok found.0 found.1)
    named.0 named.1
    _ c.in_ok-name.ensures.ok c.import_instance.new.outer (record c.define_dependency.new.self.foreign { instances = c.import_instance.new.instances }) c.in_ok-import_instance.ensures.ok
    c.in_ok-import_instance.ensures.listed refl

pub returns-clause-stands : goal.returns-clause-stands
returns-clause-stands c =
    let e = c.args.self.now in
    let found = there e c.args.interface.0 c.requires.named in
    let named = path e c.args.interface.0 c.requires.named in
    import-stands e c.requires.can c.define_dependency.new.self c.define_dependency.ensures.rest c.args.interface found.0 c.in_ok-slot.slot found.1 (c.in_ok-slot.ensures.ok found.0 found.1)
    named.0 named.1
    _ c.in_ok-name.ensures.ok c.import_instance.new.outer (record c.define_dependency.new.self.foreign { instances = c.import_instance.new.instances }) c.in_ok-import_instance.ensures.ok
    c.in_ok-import_instance.ensures.listed refl

pub returns-clause-ok : goal.returns-clause-ok
returns-clause-ok c =
    let e = c.args.self.now in
    let found = there e c.args.interface.0 c.requires.named in
    let named = path e c.args.interface.0 c.requires.named in
    import-made e c.requires.can c.define_dependency.new.self c.define_dependency.ensures.rest c.args.interface found.0 c.in_ok-slot.slot found.1 (c.in_ok-slot.ensures.ok found.0 found.1)
    named.0 named.1
    _ c.in_ok-name.ensures.ok c.import_instance.new.outer (record c.define_dependency.new.self.foreign { instances = c.import_instance.new.instances }) c.in_ok-import_instance.ensures.ok
    c.in_ok-import_instance.ensures.listed refl c.requires.first

pub prove-unreachable-requires : goal.prove-unreachable-requires
prove-unreachable-requires c =
    let e = c.args.self.now in
    let found = there e c.args.interface.0 c.requires.named in
    let named = path e c.args.interface.0 c.requires.named in
    let room = import-room e c.requires.can c.define_dependency.new.self c.define_dependency.ensures.rest c.args.interface found.0 c.in_ok-slot.slot found.1 (c.in_ok-slot.ensures.ok found.0 found.1)
    named.0 named.1
    _ c.in_ok-name.ensures.ok c.import_instance.new.outer (record c.define_dependency.new.self.foreign { instances = c.import_instance.new.instances }) c.in_ok-import_instance.ensures.ok
    c.in_ok-import_instance.ensures.listed refl in
    let counted = c.type_count.ensures in
    let over = c.if-prove.true in
    omega (arith, room, counted, over)

pub returns-in_err-import_instance-clause-leaves : goal.returns-in_err-import_instance-clause-leaves
returns-in_err-import_instance-clause-leaves c =
    let e = c.args.self.now in
    let found = there e c.args.interface.0 c.requires.named in
    let named = path e c.args.interface.0 c.requires.named in
    part-leaves e c.requires.can c.define_dependency.new.self c.define_dependency.ensures.rest c.args.interface found.0 c.in_ok-slot.slot found.1 (c.in_ok-slot.ensures.ok found.0 found.1)
    named.0 named.1
    c.import_instance.new.outer (record c.define_dependency.new.self.foreign { instances = c.import_instance.new.instances }) (search rules) (search rules) refl

pub returns-in_err-import_instance-clause-err : goal.returns-in_err-import_instance-clause-err
returns-in_err-import_instance-clause-err c =
    let e = c.args.self.now in
    let found = there e c.args.interface.0 c.requires.named in
    let named = path e c.args.interface.0 c.requires.named in
    on-err _ (unused found.0 c.in_ok-slot.slot found.1 (part-left e c.requires.can c.define_dependency.new.self c.define_dependency.ensures.rest c.args.interface found.0 c.in_ok-slot.slot found.1
    (c.in_ok-slot.ensures.ok found.0 found.1) named.0 named.1
    c.import_instance.new.outer (record c.define_dependency.new.self.foreign { instances = c.import_instance.new.instances }) (search rules) (search rules) refl))

pub returns-in_err-import_instance-clause-size : goal.returns-in_err-import_instance-clause-size
returns-in_err-import_instance-clause-size c = λ h.
    let e = c.args.self.now in
    let found = there e c.args.interface.0 c.requires.named in
    let named = path e c.args.interface.0 c.requires.named in
    let refused = c.import_instance.ensures.size (search rules) in
    import-lacks e.encoder.resolve.now e.canonical_names (component_of e) (world_around c.define_dependency.new.self) c.args.interface found.0 [] c.in_ok-slot.slot found.1
    (c.in_ok-slot.ensures.ok found.0 found.1).part _ c.in_ok-name.ensures.ok refused

pub returns-in_err-name-clause-err : goal.returns-in_err-name-clause-err
returns-in_err-name-clause-err c =
    let found = there c.args.self.now c.args.interface.0 c.requires.named in
    on-err _ (aliases (record { def = found.0; there = found.1; made = met-none refl }))
