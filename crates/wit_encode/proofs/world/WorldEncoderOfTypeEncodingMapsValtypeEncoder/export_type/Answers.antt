use Rattle.std.proofs.Common.{◌≡◌, ap, ℕ, Result, Ok, Err, rules}
use Rattle.comp_bytes.specs.{RawOf.raw_name}
use Rattle.wit_model.specs.declared.error.Error.{Error}
use Rattle.wit_encode.specs.Worlds.{world_around, world_definitions}
use Rattle.wit_encode.proofs.{Refusing.name-outside, Refusing.on-size, Extents.bytes-few, WorldCalls.imports-type, WorldHolding.beside-more, WorldHolding.beside-kept, BytesWritten.one-more}
use Rattle.wit_model.specs.declared.error.Error.TheVariants as errors
use Rattle.comp_bytes.specs.declared.forms.ComponentTypeRef.TheVariants as refs
use Rattle.base_lemmas.proofs.Options.{at_err}
use Rattle.wit_encode.proofs.world.WorldEncoderOfTypeEncodingMapsValtypeEncoder.export_type.Goals as goal

pub returns : goal.returns
returns c =
    let made = imports-type {E = Error} (Ok c.in_ok-slot.slot) c.args.self.now.resolve.now c.args.self.now.world c.args.self.now.instances (world_around c.args.self.now)
    c.import_type_outside.new.outer c.args.self.now.maps c.requires.declared.sound c.args.index (raw_name c.args.name) c.requires c.in_ok-slot.ensures.ok tt in
    record {
      ok = made.ok;
      grows = made.grows;
      scope_stays = made.scope_stays;
      around_stays = made.around_stays;
      imports_stay = search rules;
      maps_stay = search rules;
      counts = made.counted;
      err = search rules;
      held = beside-more c.args.self.now.resolve.now (world_around c.args.self.now) c.import_type_outside.new.outer c.import_type_outside.ensures.held;
      written = record { extent = one-more c.args.self.now.outer c.import_type_outside.new.outer _ _ c.in_ok-slot.ensures.ok.1 (bytes-few.imports (raw_name c.args.name) (refs.TypeEq c.args.index)) };
      size = search rules;
      refuses = search rules;
    }

pub returns-in_err-slot-clause-err : goal.returns-in_err-slot-clause-err
returns-in_err-slot-clause-err c = at_err _ (ap world_definitions c.in_err-slot.ensures.err)

pub returns-in_err-slot-clause-size : goal.returns-in_err-slot-clause-size
returns-in_err-slot-clause-size c = λ h.
    let refused : ◌≡◌ {A = Result ℕ Error} c.import_type_outside.result (Err errors.Size) = search rules in
    record {
      lacks = name-outside c.args.self.now.resolve.now c.import_type_outside.new.outer (raw_name c.args.name) (refs.TypeEq c.args.index) (c.import_type_outside.ensures.size refused);
      held = beside-kept c.args.self.now.resolve.now (world_around c.args.self.now) c.import_type_outside.new.outer (on-size c.import_type_outside.result _ c.import_type_outside.ensures.err refused);
    }
