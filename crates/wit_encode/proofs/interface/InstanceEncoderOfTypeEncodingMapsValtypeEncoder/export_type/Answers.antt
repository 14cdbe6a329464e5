use Rattle.std.proofs.Common.{refl, ◌≡◌, inl, sym, ap, ◌∙◌, ℕ, Result, Ok, Err, Some, rules}
use Rattle.wit_encode.proofs.{Placed.inside-called, Refusing.name-inside, Refusing.held-inside, Refusing.kept-inside, BytesWritten.inside-more, Within.type-within, Extents.bytes-few}
use Rattle.wit_model.specs.declared.error.Error.{Error}
use Rattle.comp_bytes.specs.RawOf.{raw_name}
use Rattle.wit_encode.specs.Instance.{encoder_scope, around_of, defined_in}
use Rattle.encode_types.proofs.Around.{slots-grow}
use Rattle.comp_bytes.specs.declared.forms.ComponentTypeRef.TheVariants as refs
use Rattle.wit_model.specs.declared.error.Error.TheVariants as errors
use Rattle.base_lemmas.proofs.Options.{at_err}
use Rattle.wit_encode.proofs.interface.InstanceEncoderOfTypeEncodingMapsValtypeEncoder.export_type.Goals as goal

pub returns : goal.returns
returns c =
    let start = c.args.self.now.outer in let inner = c.args.self.now.inner in let current = c.in-Some.current in let end = c.export_inside.new.inner in
    let res : Result ℕ Error = Ok c.in_ok-slot-in-Some.slot in
    let made = type-within res c.args.self.now.resolve.now start inner current end c.in-Some.is c.args.index (raw_name c.args.name) c.requires c.in_ok-slot-in-Some.ensures.ok tt in
    record {
      ok = made.ok;
      grows = slots-grow made.grows (ap (around_of start) (sym c.in-Some.is))
          (inside-called res inner current (record current { declared = end }) _ c.in-Some.is refl c.in_ok-slot-in-Some.ensures.ok tt);
      scope_stays = made.scope_stays;
      around_stays = ap (around_of start) (sym c.in-Some.is);
      imports_stay = search rules;
      maps_stay = search rules;
      counts = made.counted;
      err = search rules;
      held = held-inside start inner current end c.in-Some.is c.export_inside.ensures.held;
      written = record { extent = inside-more start inner current end _ _ c.in-Some.is c.in_ok-slot-in-Some.ensures.ok.1 (bytes-few.exports (raw_name c.args.name) (refs.TypeEq c.args.index)) };
      size = search rules;
      refuses = search rules;
    }

pub returns-in_err-slot-in-Some-clause-scope_stays : goal.returns-in_err-slot-in-Some-clause-scope_stays
returns-in_err-slot-in-Some-clause-scope_stays c = ap (encoder_scope c.args.self.now.resolve.now c.args.self.now.outer)
    ((λ i. Some (record c.in-Some.current { declared = c.in_err-slot-in-Some.ensures.err i })) ∙ sym c.in-Some.is)

pub returns-in_err-slot-in-Some-clause-err : goal.returns-in_err-slot-in-Some-clause-err
returns-in_err-slot-in-Some-clause-err c = at_err _ (ap (defined_in c.args.self.now.resolve.now c.args.self.now.outer)
    ((λ i. Some (record c.in-Some.current { declared = c.in_err-slot-in-Some.ensures.err i })) ∙ sym c.in-Some.is))

pub returns-in_err-slot-in-Some-clause-size : goal.returns-in_err-slot-in-Some-clause-size
returns-in_err-slot-in-Some-clause-size c = λ h.
    let refused : ◌≡◌ {A = Result ℕ Error} c.export_inside.result (Err errors.Size) = search rules in
    record {
      lacks = inl (name-inside c.args.self.now.resolve.now c.export_inside.new.inner (raw_name c.args.name) (refs.TypeEq c.args.index) (c.export_inside.ensures.size refused));
      held = kept-inside c.args.self.now.outer c.args.self.now.inner c.in-Some.current c.export_inside.new.inner c.in-Some.is c.in_err-slot-in-Some.ensures.err;
    }

pub returns-in_err-slot-in-Some-clause-held : goal.returns-in_err-slot-in-Some-clause-held
returns-in_err-slot-in-Some-clause-held c = held-inside c.args.self.now.outer c.args.self.now.inner c.in-Some.current c.export_inside.new.inner c.in-Some.is c.export_inside.ensures.held

pub returns-in_err-slot-in-Some-clause-around_stays : goal.returns-in_err-slot-in-Some-clause-around_stays
returns-in_err-slot-in-Some-clause-around_stays c = ap (around_of c.args.self.now.outer) (sym c.in-Some.is)
