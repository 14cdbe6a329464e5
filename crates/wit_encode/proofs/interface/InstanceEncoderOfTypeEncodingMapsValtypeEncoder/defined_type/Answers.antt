use Rattle.std.proofs.Common.{rules, inl, refl, sym, ap, ◌∙◌}
use Rattle.wit_encode.proofs.{Placed.inside-called, Extents.bytes-few, BytesWritten.inside-more, BytesWritten.outside-more, BytesWritten.when-ok}
use Rattle.wit_encode.proofs.Within.{defined-within, defined-without, slot-defined}
use Rattle.wit_encode.proofs.Refusing.{value-inside, value-outside, held-inside, held-outside, on-size, undone, undone-inside, kept-inside, kept-outside}
use Rattle.wit_encode.specs.Instance.{around_of, defined_in, stands_in}
use Rattle.comp_bytes.specs.Raw.{Declarations}
use Rattle.encode_types.proofs.Around.{slots-grow}
use Rattle.wit_encode.proofs.interface.InstanceEncoderOfTypeEncodingMapsValtypeEncoder.defined_type.Goals as goal

pub returns-in-Some : goal.returns-in-Some
returns-in-Some c =
    let start = c.args.self.now.outer in let inner = c.args.self.now.inner in let current = c.in-Some.current in let r = c.args.self.now.resolve.now in
    let calls = defined-within c.define_inside.result r start inner current c.define_inside.new.inner c.in-Some.is c.args.def c.requires c.define_inside.ensures.ok c.define_inside.ensures.err in
    record {
      ok = calls.ok;
      grows = slots-grow calls.grows (ap (around_of start) (sym c.in-Some.is))
          (inside-called c.define_inside.result inner current (record current { declared = c.define_inside.new.inner }) _ c.in-Some.is refl c.define_inside.ensures.ok c.define_inside.ensures.err);
      scope_stays = calls.scope_stays;
      around_stays = ap (around_of start) (sym c.in-Some.is);
      imports_stay = search rules;
      maps_stay = search rules;
      counts = slot-defined c.define_inside.result _ _ _ _ _ _ _ calls.ok calls.counted;
      err = undone-inside r start inner current c.define_inside.new.inner c.define_inside.result c.in-Some.is c.define_inside.ensures.err;
      held = held-inside start inner current c.define_inside.new.inner c.in-Some.is c.define_inside.ensures.held;
      written = when-ok c.define_inside.result _ _ (λ i made t f. record {
        extent = inside-more start inner current c.define_inside.new.inner _ _ c.in-Some.is made.1 (bytes-few.definitions _ c.args.def t f);
      }) c.define_inside.ensures.ok;
      size = λ h t f. record {
        lacks = inl (value-inside r c.define_inside.result h (stands_in r start inner) c.define_inside.new.inner c.args.def c.define_inside.ensures.size t f);
        held = kept-inside start inner current c.define_inside.new.inner c.in-Some.is (on-size c.define_inside.result _ c.define_inside.ensures.err h);
      };
      refuses = search rules;
    }

pub returns : goal.returns
returns c =
    let start = c.args.self.now.outer in let inner = c.args.self.now.inner in let r = c.args.self.now.resolve.now in
    let calls = defined-without c.define_outside.result r start inner c.define_outside.new.outer c.in-None.is c.args.def c.requires c.define_outside.ensures.ok c.define_outside.ensures.err in
    record {
      ok = calls.ok;
      grows = slots-grow calls.grows (ap (around_of c.define_outside.new.outer) c.in-None.is ∙ sym (ap (around_of start) c.in-None.is)) (λ ns h. h);
      scope_stays = calls.scope_stays;
      around_stays = ap (around_of c.define_outside.new.outer) c.in-None.is ∙ sym (ap (around_of start) c.in-None.is);
      imports_stay = search rules;
      maps_stay = search rules;
      counts = slot-defined c.define_outside.result _ _ _ _ _ _ _ calls.ok calls.counted;
      err = undone (λ (o : Declarations). defined_in r o inner) start c.define_outside.new.outer c.define_outside.result c.define_outside.ensures.err;
      held = held-outside start c.define_outside.new.outer inner c.in-None.is c.define_outside.ensures.held;
      written = when-ok c.define_outside.result _ _ (λ i made t f. record {
        extent = outside-more start c.define_outside.new.outer inner _ _ c.in-None.is made.1 (bytes-few.definitions _ c.args.def t f);
      }) c.define_outside.ensures.ok;
      size = λ h t f. record {
        lacks = inl (value-outside r c.define_outside.result h c.define_outside.new.outer inner c.in-None.is (stands_in r start inner) c.args.def c.define_outside.ensures.size t f);
        held = kept-outside start c.define_outside.new.outer inner c.in-None.is (on-size c.define_outside.result _ c.define_outside.ensures.err h);
      };
      refuses = search rules;
    }
