use Rattle.comp_bytes.specs.{RawOf.raw_name, Raw.Declaration, Held.fits_next}
use Rattle.wit_encode.proofs.{ShowFunctions.shows-within, Extents.bytes-few, Refusing.on-size, Refusing.name-inside, Refusing.held-inside, Refusing.kept-inside, Refusing.one-pushed, BytesWritten.inside-more}
use Rattle.std.proofs.Common.{inl, sym, subst, List, ◌≡◌, false}
use Rattle.encode_types.proofs.Agree.{on_ok}
use Rattle.comp_bytes.specs.declared.forms.ComponentTypeRef.TheVariants as refs
use Rattle.wit_encode.proofs.interface.InstanceEncoderOf+TypeEncodingMaps.export_function.Goals as goal

pub returns-clause-ok : goal.returns-clause-ok
returns-clause-ok c = λ s h. shows-within c.export.result c.args.self.now.resolve.now c.args.self.now.outer c.args.self.now.inner c.in-Some.current c.export.new.self (raw_name c.args.name)
    c.args.index s c.in-Some.is c.requires.sound c.requires.simple c.export.ensures.ok h

pub returns-clause-held : goal.returns-clause-held
returns-clause-held c = held-inside c.args.self.now.outer c.args.self.now.inner c.in-Some.current c.export.new.self c.in-Some.is
    (one-pushed c.export.result c.in-Some.current.declared c.export.new.self _ c.export.ensures.ok c.export.ensures.err)

pub returns-clause-size : goal.returns-clause-size
returns-clause-size c = λ h. record {
  lacks = inl (name-inside c.args.self.now.resolve.now c.export.new.self (raw_name c.args.name) (refs.Func c.args.index)
      (subst (λ (ds : List Declaration). fits_next ds (Declaration.exported (raw_name c.args.name) (refs.Func c.args.index)) ≡ false) (sym (on-size c.export.result _ c.export.ensures.err h))
      (c.export.ensures.size h)));
  held = kept-inside c.args.self.now.outer c.args.self.now.inner c.in-Some.current c.export.new.self c.in-Some.is (on-size c.export.result _ c.export.ensures.err h);
}

pub returns-clause-written : goal.returns-clause-written
returns-clause-written c = on_ok c.export.result _ _ (λ made. record {
  extent = inside-more c.args.self.now.outer c.args.self.now.inner c.in-Some.current c.export.new.self _ _ c.in-Some.is made (bytes-few.exports (raw_name c.args.name) (refs.Func c.args.index));
}) c.export.ensures.ok
