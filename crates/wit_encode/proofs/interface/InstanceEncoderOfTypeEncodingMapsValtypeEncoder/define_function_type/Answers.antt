use Rattle.std.proofs.Common.{rules, inl, refl, sym, ap, ◌∙◌}
use Rattle.wit_encode.proofs.{Placed.inside-called, Extents.bytes-few, BytesWritten.inside-more, BytesWritten.outside-more, BytesWritten.when-ok}
use Rattle.wit_encode.proofs.Within.{function-within, function-without, slot-function}
use Rattle.wit_encode.proofs.Refusing.{function-inside, function-outside, held-inside, held-outside, on-size, undone, undone-inside, kept-inside, kept-outside}
use Rattle.wit_encode.specs.Instance.{around_of, defined_in, stands_in}
use Rattle.comp_bytes.specs.Raw.{Declarations}
use Rattle.encode_types.proofs.Around.{slots-grow}
use Rattle.wit_encode.proofs.interface.InstanceEncoderOfTypeEncodingMapsValtypeEncoder.define_function_type.Goals as goal

pub returns-in-Some : goal.returns-in-Some
returns-in-Some c =
    let call = c.define_function_inside in let start = c.args.self.now.outer in let inner = c.args.self.now.inner in let current = c.in-Some.current in let r = c.args.self.now.resolve.now in
    let calls = function-within call.result r start inner current call.new.inner c.in-Some.is c.args.def c.requires call.ensures.ok call.ensures.err in
    record {
      ok = calls.ok;
      grows = slots-grow calls.grows (ap (around_of start) (sym c.in-Some.is))
          (inside-called call.result inner current (record current { declared = call.new.inner }) _ c.in-Some.is refl call.ensures.ok call.ensures.err);
      scope_stays = calls.scope_stays;
      around_stays = ap (around_of start) (sym c.in-Some.is);
      imports_stay = search rules;
      maps_stay = search rules;
      counts = slot-function call.result _ _ _ _ _ _ _ calls.ok calls.counted;
      err = undone-inside r start inner current c.define_function_inside.new.inner c.define_function_inside.result c.in-Some.is c.define_function_inside.ensures.err;
      held = held-inside start inner current call.new.inner c.in-Some.is call.ensures.held;
      written = when-ok call.result _ _ (λ i made s f. record { extent = inside-more start inner current call.new.inner _ _ c.in-Some.is made.1 (bytes-few.functions _ c.args.def s f) })
          call.ensures.ok;
      size = λ h s f. record {
        lacks = inl (function-inside r call.result h (stands_in r start inner) call.new.inner c.args.def call.ensures.size s f);
        held = kept-inside start inner current call.new.inner c.in-Some.is (on-size call.result _ call.ensures.err h);
      };
      refuses = search rules;
    }

pub returns : goal.returns
returns c =
    let call = c.define_function_outside in let start = c.args.self.now.outer in let inner = c.args.self.now.inner in let r = c.args.self.now.resolve.now in
    let calls = function-without call.result r start inner call.new.outer c.in-None.is c.args.def c.requires call.ensures.ok call.ensures.err in
    record {
      ok = calls.ok;
      grows = slots-grow calls.grows (ap (around_of call.new.outer) c.in-None.is ∙ sym (ap (around_of start) c.in-None.is)) (λ ns h. h);
      scope_stays = calls.scope_stays;
      around_stays = ap (around_of call.new.outer) c.in-None.is ∙ sym (ap (around_of start) c.in-None.is);
      imports_stay = search rules;
      maps_stay = search rules;
      counts = slot-function call.result _ _ _ _ _ _ _ calls.ok calls.counted;
      err = undone (λ (o : Declarations). defined_in r o inner) start c.define_function_outside.new.outer c.define_function_outside.result c.define_function_outside.ensures.err;
      held = held-outside start call.new.outer inner c.in-None.is call.ensures.held;
      written = when-ok call.result _ _ (λ i made s f. record { extent = outside-more start call.new.outer inner _ _ c.in-None.is made.1 (bytes-few.functions _ c.args.def s f) }) call.ensures.ok;
      size = λ h s f. record {
        lacks = inl (function-outside r call.result h call.new.outer inner c.in-None.is (stands_in r start inner) c.args.def call.ensures.size s f);
        held = kept-outside start call.new.outer inner c.in-None.is (on-size call.result _ call.ensures.err h);
      };
      refuses = search rules;
    }
