use Rattle.std.proofs.Common.{rules, refl, inl, sym, ap}
use Rattle.wit_encode.proofs.{Placed.inside-called, Refusing.name-inside, Refusing.held-inside, Refusing.on-size, Refusing.undone-inside, Refusing.kept-inside, Within.resource-within, Extents.bytes-few, BytesWritten.inside-more, BytesWritten.when-ok}
use Rattle.wit_encode.specs.Instance.{around_of}
use Rattle.encode_types.proofs.Around.{slots-grow}
use Rattle.comp_bytes.specs.RawOf.{raw_name}
use Rattle.comp_bytes.specs.declared.forms.ComponentTypeRef.TheVariants as refs
use Rattle.wit_encode.proofs.interface.InstanceEncoderOfTypeEncodingMapsValtypeEncoder.export_resource.Goals as goal

pub returns : goal.returns
returns c =
    let calls = resource-within c.export_inside.result c.args.self.now.resolve.now c.args.self.now.outer c.args.self.now.inner c.in-Some.current c.export_inside.new.inner c.in-Some.is _
    c.requires c.export_inside.ensures.ok c.export_inside.ensures.err in
    record {
      ok = calls.ok;
      grows = slots-grow calls.grows (ap (around_of c.args.self.now.outer) (sym c.in-Some.is))
          (inside-called c.export_inside.result c.args.self.now.inner c.in-Some.current (record c.in-Some.current { declared = c.export_inside.new.inner }) _ c.in-Some.is refl
          c.export_inside.ensures.ok c.export_inside.ensures.err);
      scope_stays = calls.scope_stays;
      around_stays = ap (around_of c.args.self.now.outer) (sym c.in-Some.is);
      imports_stay = search rules;
      maps_stay = search rules;
      counts = calls.counted;
      err = undone-inside c.args.self.now.resolve.now c.args.self.now.outer c.args.self.now.inner
          c.in-Some.current c.export_inside.new.inner c.export_inside.result c.in-Some.is c.export_inside.ensures.err;
      held = held-inside c.args.self.now.outer c.args.self.now.inner c.in-Some.current c.export_inside.new.inner c.in-Some.is c.export_inside.ensures.held;
      written = when-ok c.export_inside.result _ _ (λ i made. record {
        extent = inside-more c.args.self.now.outer c.args.self.now.inner c.in-Some.current c.export_inside.new.inner _ _ c.in-Some.is made.1
            (bytes-few.exports (raw_name c.args.name) refs.SubResource);
      }) c.export_inside.ensures.ok;
      size = λ h. record {
        lacks = inl (name-inside c.args.self.now.resolve.now c.export_inside.new.inner (raw_name c.args.name) refs.SubResource (c.export_inside.ensures.size h));
        held = kept-inside c.args.self.now.outer c.args.self.now.inner c.in-Some.current c.export_inside.new.inner c.in-Some.is (on-size c.export_inside.result _ c.export_inside.ensures.err h);
      };
      refuses = search rules;
    }
