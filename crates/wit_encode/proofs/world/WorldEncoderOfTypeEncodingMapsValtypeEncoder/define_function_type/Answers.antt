use Rattle.std.proofs.Common.{rules, refl, None}
use Rattle.wit_encode.proofs.{Within.slot-function, WorldHolding.beside-more, WorldHolding.beside-kept, WorldCalls.defines-function, Extents.bytes-few, Refusing.function-outside, Refusing.on-size, Refusing.undone, BytesWritten.one-more, BytesWritten.when-ok}
use Rattle.encode_types.specs.{Known.outer_slots, Standing.SlotsStand}
use Rattle.wit_encode.specs.Worlds.{world_around, world_definitions}
use Rattle.wit_encode.proofs.world.WorldEncoderOfTypeEncodingMapsValtypeEncoder.define_function_type.Goals as goal

pub returns : goal.returns
returns c =
    let calls = defines-function c.define_function_outside.result c.args.self.now.resolve.now c.args.self.now.world c.args.self.now.instances (world_around c.args.self.now)
    c.define_function_outside.new.outer c.args.self.now.maps
    c.requires.2.sound c.args.def c.requires.0 c.requires.1 c.requires.2 c.define_function_outside.ensures.ok c.define_function_outside.ensures.err in
    record {
      ok = calls.ok;
      grows = calls.grows;
      scope_stays = calls.scope_stays;
      around_stays = calls.around_stays;
      imports_stay = search rules;
      maps_stay = search rules;
      counts = let made = calls in slot-function c.define_function_outside.result _ _ _ _ _ _ _ made.ok made.counted;
      err = undone world_definitions c.args.self.now.outer c.define_function_outside.new.outer c.define_function_outside.result c.define_function_outside.ensures.err;
      held = beside-more c.args.self.now.resolve.now (world_around c.args.self.now) c.define_function_outside.new.outer c.define_function_outside.ensures.held;
      written = when-ok c.define_function_outside.result _ _
          (λ i made s f. record { extent = one-more c.args.self.now.outer c.define_function_outside.new.outer _ _ made.1 (bytes-few.functions _ c.args.def s f) }) c.define_function_outside.ensures.ok;
      size = λ h s f. record {
        lacks = function-outside c.args.self.now.resolve.now c.define_function_outside.result h c.define_function_outside.new.outer None refl (SlotsStand (outer_slots c.args.self.now.outer))
            c.args.def c.define_function_outside.ensures.size s f;
        held = beside-kept c.args.self.now.resolve.now (world_around c.args.self.now) c.define_function_outside.new.outer
            (on-size c.define_function_outside.result _ c.define_function_outside.ensures.err h);
      };
      refuses = search rules;
    }
