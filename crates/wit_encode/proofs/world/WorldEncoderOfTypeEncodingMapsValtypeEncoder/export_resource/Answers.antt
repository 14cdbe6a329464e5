use Rattle.std.proofs.Common.{rules}
use Rattle.comp_bytes.specs.RawOf.{raw_name}
use Rattle.wit_encode.specs.Worlds.{world_around, world_definitions}
use Rattle.wit_encode.proofs.{Refusing.name-outside, Refusing.on-size, Refusing.undone, BytesWritten.one-more, BytesWritten.when-ok, WorldCalls.imports-resource, WorldHolding.beside-more, WorldHolding.beside-kept, Extents.bytes-few}
use Rattle.comp_bytes.specs.declared.forms.ComponentTypeRef.TheVariants as refs
use Rattle.wit_encode.proofs.world.WorldEncoderOfTypeEncodingMapsValtypeEncoder.export_resource.Goals as goal

pub returns : goal.returns
returns c =
    let calls = imports-resource c.import_type_outside.result c.args.self.now.resolve.now c.args.self.now.world c.args.self.now.instances (world_around c.args.self.now) c.import_type_outside.new.outer
    c.args.self.now.maps c.requires.declared.sound (raw_name c.args.name) c.requires c.import_type_outside.ensures.ok c.import_type_outside.ensures.err in
    record {
      ok = calls.ok;
      grows = calls.grows;
      scope_stays = calls.scope_stays;
      around_stays = calls.around_stays;
      imports_stay = search rules;
      maps_stay = search rules;
      counts = calls.counted;
      err = undone world_definitions c.args.self.now.outer c.import_type_outside.new.outer c.import_type_outside.result c.import_type_outside.ensures.err;
      held = beside-more c.args.self.now.resolve.now (world_around c.args.self.now) c.import_type_outside.new.outer c.import_type_outside.ensures.held;
      written = when-ok c.import_type_outside.result _ _ (λ i made. record
          { extent = one-more c.args.self.now.outer c.import_type_outside.new.outer _ _ made.1 (bytes-few.imports (raw_name c.args.name) refs.SubResource) }) c.import_type_outside.ensures.ok;
      size = λ h. record {
        lacks = name-outside c.args.self.now.resolve.now c.import_type_outside.new.outer (raw_name c.args.name) refs.SubResource (c.import_type_outside.ensures.size h);
        held = beside-kept c.args.self.now.resolve.now (world_around c.args.self.now) c.import_type_outside.new.outer (on-size c.import_type_outside.result _ c.import_type_outside.ensures.err h);
      };
      refuses = search rules;
    }
