use Rattle.std.specs.Prelude.{◌≡◌, reverse}
use Rattle.wit_model.specs.Lookup.{place_of}
use Rattle.encode_types.specs.Table.{table_scope}
use Rattle.encode_flat.specs.Flat.{flat_definitions}
use Rattle.encode_flat.proofs.FlatSteps.{name-added, name-exported, name-imports}
use Rattle.base_lemmas.proofs.Options.{at_err}
use Rattle.encode_flat.proofs.encoder.FlatEncoderOfTypeEncodingMapsValtypeEncoder.export_type.Goals as goal

pub returns-clause-ok : goal.returns-clause-ok
returns-clause-ok c = name-added c.args.self.now.resolve.now (place_of c.args.self.now.resolve.now c.args.self.now.owner) c.args.self.now.marks c.add_name.new.marks c.args.self.now.forms.items
    c.add_name.new.forms.items c.args.index c.args.name _ c.requires.stands c.in_ok-add_name.ensures.ok c.in_ok-add_name.ensures.ok_forms

pub returns-clause-counts : goal.returns-clause-counts
returns-clause-counts c = name-exported (table_scope c.args.self.now.resolve.now c.args.self.now.owner) c.args.self.now.marks c.add_name.new.marks c.args.self.now.forms.items
    c.add_name.new.forms.items c.args.index c.args.name c.requires.declaration c.requires.declared.there c.requires.named_ c.in_ok-add_name.ensures.ok c.in_ok-add_name.ensures.ok_forms

pub returns-clause-imports_stay : goal.returns-clause-imports_stay
returns-clause-imports_stay c = name-imports c.add_name.result c.args.self.now.marks c.add_name.new.marks c.args.index c.add_name.ensures.ok c.add_name.ensures.err

pub returns-in_err-add_name-clause-imports_stay : goal.returns-in_err-add_name-clause-imports_stay
returns-in_err-add_name-clause-imports_stay c = name-imports c.add_name.result c.args.self.now.marks c.add_name.new.marks c.args.index c.add_name.ensures.ok c.add_name.ensures.err

pub returns-in_err-add_name-clause-err : goal.returns-in_err-add_name-clause-err
returns-in_err-add_name-clause-err c =
    let before = flat_definitions (table_scope c.args.self.now.resolve.now c.args.self.now.owner).declarations c.args.self.now.marks (reverse c.args.self.now.forms.items) in
    let after = flat_definitions (table_scope c.args.self.now.resolve.now c.args.self.now.owner).declarations c.add_name.new.marks (reverse c.add_name.new.forms.items) in
    let same : after ≡ before = λ i. flat_definitions (table_scope c.args.self.now.resolve.now c.args.self.now.owner).declarations (c.in_err-add_name.ensures.err i)
    (reverse (c.in_err-add_name.ensures.err_forms i)) in
    at_err _ same
