use Rattle.std.proofs.Common.{◌≡◌, ◌∙◌, ap, refl, subst, sym, [], Option, None}
use Rattle.std.specs.Option.{option_copied}
use Rattle.wit_model.specs.declared.model.Interface.{Interface}
use Rattle.wit_model.specs.Lookup.{interface_at}
use Rattle.wit_json.specs.{Adds.Adds, Listed.number_entry}
use Rattle.wit_json.proofs.Adding.{lists_all, lists_none}
use Rattle.bind_json.specs.Encodings.{interface_encodings}
use Rattle.bind_json.proofs.encodings.put_interface.Goals as goal

pub returns-in-None : goal.returns-in-None
returns-in-None c =
    let none : interface_at c.args.resolve.now c.args.id.0 ≡ None = sym c.interface_at.ensures ∙ ap option_copied c.in-None.is in
    subst (λ (o : Option Interface). Adds c.args.w.now c.args.w.now (interface_encodings c.args.resolve.now c.args.encodings.now c.args.key.now c.args.scope.now o)) (sym none)
    (lists_all number_entry [] [] (lists_none number_entry [] [] c.args.w.now refl) refl)
