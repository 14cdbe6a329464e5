-- Bindings of which nothing clashes by numbers unite.
use Rattle.bind_match.specs.declared.matches.Matches.{Matches}
use Rattle.bind_meaning.specs.Clash.{CanUnite, EncodingFault, NoFault}
use Rattle.bind_clash.specs.Faults.{IsMatched}
use Rattle.bind_clash.proofs.ClashesMeant.{none_is_of_bindings}
use Rattle.wit_bind.specs.declared.bindgen.Bindgen.{Bindgen}
use Rattle.wit_bind.specs.Bindings.{binding_of, IsBindgen}
use Rattle.wit_bind.proofs.Refusals.{ClashesNowhere, other_world, own_world, worlds}
use Rattle.wit_bind.proofs.Telling.{tell-entry, tell-interface, tell-world}

pub unite : (own other : Bindgen) (o : IsBindgen own) (t : IsBindgen other) (m : Matches) (matched : IsMatched own.resolve other.resolve m) → ClashesNowhere own other o t m matched
    → NoFault (EncodingFault own.metadata.import_encodings other.metadata.import_encodings) → NoFault (EncodingFault own.metadata.export_encodings other.metadata.export_encodings)
    → CanUnite (binding_of own) (binding_of other)
unite own other o t m matched none imported exported =
    let w = own_world own other o t m matched in
    let v = other_world own other o t m matched in
    none_is_of_bindings tell-interface tell-world tell-entry own.resolve other.resolve m own.world.0 other.world.0 w.0 v.0 (worlds own other o t m matched)
    own.metadata.import_encodings own.metadata.export_encodings other.metadata.import_encodings other.metadata.export_encodings (none w.0 v.0 w.1 v.1) imported exported
