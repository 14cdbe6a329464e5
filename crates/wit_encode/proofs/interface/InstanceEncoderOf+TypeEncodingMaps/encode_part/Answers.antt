use Rattle.std.proofs.Common.{rules, ◌≡◌, refl, sym, ap, ◌∙◌, inr, Some, map}
use Rattle.std.proofs.lemmas.Option.{same_Some as some-same}
use Rattle.wit_model.specs.Lookup.{interface_at}
use Rattle.wit_model.specs.declared.model.Interface.{Interface}
use Rattle.indexmap.specs.IndexMap.{values}
use Rattle.wit_encode.specs.{Instance.placed_function, Instance.EncodesPart, Encoders.outside}
use Rattle.wit_encode.proofs.Closing.{closes}
use Rattle.wit_encode.proofs.{StillSound.closed-sound, StillSound.grown-sound, StillSound.sound-closed, BytesWritten.taken-closed, BytesWritten.when-ok}
use Rattle.wit_encode.proofs.Opening.{close-each, closed-keeps, closed-stay, grown-stay, listed-there, reached-keeps}
use Rattle.comp_bytes.specs.Raw.{from_list}
use Rattle.wit_encode.proofs.interface.InstanceEncoderOf+TypeEncodingMaps.encode_part.Goals as goal

pub returns : goal.returns
returns c =
    let r = c.args.self.now.resolve.now in let start = outside c.args.self.now in let inside = c.encode_inside.new.self in let end = c.close.new.self in let id = c.args.interface in
    let ds = c.in_ok-declared.declared in
    record {
      closed = search rules;
      resolve = search rules;
      maps = search rules;
      err = search rules;
      ok =
          let there = listed-there r id c.args.types.now c.requires.listed in
          close-each c.close.result (λ def. interface_at r id.0 ≡ Some def) (λ def k. EncodesPart r start (outside end) id def (map placed_function c.args.functions.now)
          (map (λ f. f.2.now) c.args.functions.now) k) c.requires.listed.def there
          (λ def is. closes c.close.result r start inside.outer end.outer inside.foreign end.foreign id def c.args.types.now ds c.args.functions.now
          (c.requires.listed.listed ∙ ap (λ (d : Interface). values d.types) (some-same c.requires.listed.def def (sym there ∙ is))) c.encode_inside.ensures.reaches
          (λ i. (c.close.ensures.rest i).foreign) c.in_ok-declared.ensures.function_types c.in_ok-declared.ensures.value_types c.in_ok-declared.ensures.few c.in_ok-declared.ensures.places
          c.in_ok-declared.ensures.ok c.close.ensures.ok);
      stands = closed-keeps c.close.result r end.resolve.now start inside.outer end.outer inside.foreign c.args.self.now.inner end.inner ds c.requires.closed
          ((λ i. (c.close.ensures.rest i).inner) ∙ c.encode_inside.ensures.closed) c.encode_inside.ensures.reaches.grown c.close.ensures.ok c.close.ensures.err;
      sound = λ h. sound-closed r end.resolve.now end.outer end.inner ((λ i. (c.close.ensures.rest i).resolve.now) ∙ c.encode_inside.ensures.resolve)
          ((λ i. (c.close.ensures.rest i).inner) ∙ c.encode_inside.ensures.closed)
          ∙ closed-sound c.close.result r start inside.outer end.outer inside.foreign ds c.encode_inside.ensures.reaches.grown c.close.ensures.ok c.close.ensures.err
          (sym (sound-closed r r c.args.self.now.outer c.args.self.now.inner refl c.requires.closed) ∙ h);
      instances = closed-stay c.close.result r start inside.outer end.outer inside.foreign end.foreign ds c.encode_inside.ensures.reaches.grown (λ i. (c.close.ensures.rest i).foreign)
          c.close.ensures.ok c.close.ensures.err;
      written = when-ok c.close.result _ _ (λ k made. taken-closed inside.outer end.outer (from_list ds) made.1 c.in_ok-declared.ensures.written) c.close.ensures.ok;
      size = λ h. inr (record { after = outside inside; grown = c.encode_inside.ensures.reaches; full = c.close.ensures.size h });
      refuses = search rules;
    }

pub returns-in_err-declared-clause-stands : goal.returns-in_err-declared-clause-stands
returns-in_err-declared-clause-stands c = reached-keeps c.args.self.now.resolve.now c.encode_inside.new.self.resolve.now (outside c.args.self.now) c.encode_inside.new.self.outer
    c.encode_inside.new.self.foreign c.args.self.now.inner c.encode_inside.new.self.inner c.requires.closed c.encode_inside.ensures.closed c.encode_inside.ensures.reaches.grown

pub returns-in_err-declared-clause-instances : goal.returns-in_err-declared-clause-instances
returns-in_err-declared-clause-instances c = grown-stay c.args.self.now.resolve.now (outside c.args.self.now) (outside c.encode_inside.new.self) c.encode_inside.ensures.reaches.grown

pub returns-in_err-declared-clause-sound : goal.returns-in_err-declared-clause-sound
returns-in_err-declared-clause-sound c = λ h.
    let r = c.args.self.now.resolve.now in
    sound-closed r c.encode_inside.new.self.resolve.now c.encode_inside.new.self.outer c.encode_inside.new.self.inner c.encode_inside.ensures.resolve c.encode_inside.ensures.closed
    ∙ grown-sound r (outside c.args.self.now) (outside c.encode_inside.new.self) c.encode_inside.ensures.reaches.grown
    (sym (sound-closed r r c.args.self.now.outer c.args.self.now.inner refl c.requires.closed) ∙ h)
