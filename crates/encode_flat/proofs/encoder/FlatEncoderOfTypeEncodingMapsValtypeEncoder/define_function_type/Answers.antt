use Rattle.wit_model.specs.Lookup.{place_of}
use Rattle.encode_types.specs.Table.{table_scope}
use Rattle.encode_flat.specs.declared.forms.Form.TheVariants as form
use Rattle.encode_flat.proofs.FlatSteps.{nothing-added, form-imports, form-ok, function-added}
use Rattle.encode_flat.proofs.encoder.FlatEncoderOfTypeEncodingMapsValtypeEncoder.define_function_type.Goals as goal

pub returns-clause-ok : goal.returns-clause-ok
returns-clause-ok c = form-ok c.args.self.now.resolve.now (place_of c.args.self.now.resolve.now c.args.self.now.owner) c.args.self.now.marks c.args.self.now.forms.items (form.Function c.args.def)
    c.add_form.result c.add_form.new.marks c.add_form.new.forms.items c.add_form.ensures.ok

pub returns-clause-counts : goal.returns-clause-counts
returns-clause-counts c = function-added c.add_form.result (table_scope c.args.self.now.resolve.now c.args.self.now.owner).declarations c.args.self.now.marks c.add_form.new.marks
    c.args.self.now.forms.items c.add_form.new.forms.items c.args.def c.add_form.ensures.ok

pub returns-clause-imports_stay : goal.returns-clause-imports_stay
returns-clause-imports_stay c = form-imports c.add_form.result c.args.self.now.marks c.add_form.new.marks c.args.self.now.forms.items c.add_form.new.forms.items (form.Function c.args.def)
    c.add_form.ensures.ok c.add_form.ensures.err

pub returns-clause-err : goal.returns-clause-err
returns-clause-err c = nothing-added c.add_form.result (table_scope c.args.self.now.resolve.now c.args.self.now.owner).declarations c.args.self.now.marks c.add_form.new.marks
    c.args.self.now.forms.items c.add_form.new.forms.items c.add_form.ensures.err c.add_form.ensures.err_forms
