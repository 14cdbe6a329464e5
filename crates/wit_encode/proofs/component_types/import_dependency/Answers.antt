use Rattle.std.proofs.{Common.◌≡◌, Common.ap, Common.◌∙◌, Common.ℕ, Common.length, Common.[], Common.Result, Common.Err, Common.rules, lemmas.Bool.lt-ltb}
use Rattle.wit_model.specs.declared.error.Error.{Error}
use Rattle.comp_bytes.specs.Raw.{Declaration, Declarations, append}
use Rattle.wit_model.proofs.OnePath.{found-in}
use Rattle.wit_encode.specs.Encoders.{outside}
use Rattle.wit_encode.proofs.{DependencyHolding.import-lacks, DependencyHolding.slot-lacks, BytesWritten.adds-described, Extents.bytes-few}
use Rattle.encode_names.specs.WorldNames.{name_of_interface}
use Rattle.wit_model.specs.Weight.{types_instance_weight}
use Rattle.wit_model.specs.declared.error.Error.TheVariants as errors
use Rattle.comp_bytes.specs.declared.forms.ComponentTypeRef.TheVariants as refs
use Rattle.wit_encode.proofs.component_types.import_dependency.Goals as goal

pub returns-clause-imports : goal.returns-clause-imports
returns-clause-imports c =
    let after = c.encode_dependency.new.self in
    let found = found-in c.args.encoder.now.resolve.now.interfaces.items c.args.interface.0 (lt-ltb c.args.interface.0 (length c.args.encoder.now.resolve.now.interfaces.items) c.requires.in_range) in
    record {
      def = found.0;
      there = found.1;
      slot = c.in_ok-slot.slot;
      encoded = outside after;
      encodes = c.in_ok-slot.ensures.ok found.0 found.1;
      imports = λ j. record {
        declared = (c.in_ok-import.ensures.ok ∙ ap (λ n. append after.outer (Declarations.declares (Declaration.imported n (refs.Instance c.in_ok-slot.slot)) Declarations.no_more))
            c.in_ok-name.ensures.ok) j;
        instances = c.in_ok-insert.ensures.entries j;
        known = after.foreign.known.entries;
      };
    }

pub returns-in_err-slot-clause-size : goal.returns-in_err-slot-clause-size
returns-in_err-slot-clause-size c = λ h.
    let refused : ◌≡◌ {A = Result ℕ Error} c.encode_dependency.result (Err errors.Size) = search rules in
    let r = c.args.encoder.now.resolve.now in
    let found = found-in r.interfaces.items c.args.interface.0 (lt-ltb c.args.interface.0 (length r.interfaces.items) c.requires.in_range) in
    slot-lacks r c.args.canonical_names (outside c.args.encoder.now) c.args.interface found.0 found.1 (c.encode_dependency.ensures.size refused found.0 found.1)

pub returns-in_err-import-clause-size : goal.returns-in_err-import-clause-size
returns-in_err-import-clause-size c = λ h.
    let r = c.args.encoder.now.resolve.now in
    let found = found-in r.interfaces.items c.args.interface.0 (lt-ltb c.args.interface.0 (length r.interfaces.items) c.requires.in_range) in
    let encodes = c.in_ok-slot.ensures.ok found.0 found.1 in
    import-lacks r c.args.canonical_names (outside c.args.encoder.now) (outside c.encode_dependency.new.self) c.args.interface found.0 [] c.in_ok-slot.slot found.1 encodes.part _
    c.in_ok-name.ensures.ok (c.import.ensures.size (search rules))

pub returns-clause-written : goal.returns-clause-written
returns-clause-written c = adds-described (types_instance_weight c.args.encoder.now.resolve.now c.args.interface.0) c.args.encoder.now.outer c.encode_dependency.new.self.outer c.import.new.self _ _
    (name_of_interface c.args.encoder.now.resolve.now c.args.canonical_names c.args.interface.0) c.in_ok-slot.ensures.written c.in_ok-import.ensures.ok
    (bytes-few.imports _ (refs.Instance c.in_ok-slot.slot)) c.in_ok-name.ensures.ok
