use Rattle.std.proofs.Common.{refl}
use Rattle.base_lemmas.proofs.Options.{at_err}
use Rattle.encode_types.specs.{Known.as_before, Table.table_scope}
use Rattle.std.specs.Prelude.{reverse}
use Rattle.wit_model.specs.Lookup.{place_of}
use Rattle.encode_flat.proofs.FlatSteps.{nothing-added, import-alone, import-ok, imports-once}
use Rattle.encode_flat.proofs.encoder.FlatEncoderOfTypeEncodingMapsValtypeEncoder.import_type.Goals as goal

pub returns-clause-ok : goal.returns-clause-ok
returns-clause-ok c = import-ok c.import.result c.args.self.now.resolve.now (place_of c.args.self.now.resolve.now c.args.self.now.owner) c.import.new.self (reverse c.args.self.now.forms.items)
    c.args.id.0 c.import.ensures.ok

pub returns-clause-reaches : goal.returns-clause-reaches
returns-clause-reaches c = as_before refl

pub returns-clause-once : goal.returns-clause-once
returns-clause-once c = imports-once c.import.result c.args.self.now c.import.new.self c.args.id.0 c.import.ensures.ok c.import.ensures.once

pub returns-clause-imports : goal.returns-clause-imports
returns-clause-imports c = record { each = λ k there. import-alone c.import.result c.args.self.now.marks c.import.new.self c.args.id.0 c.import.ensures.once c.import.ensures.err k there }

pub returns-clause-err : goal.returns-clause-err
returns-clause-err c = nothing-added c.import.result (table_scope c.args.self.now.resolve.now c.args.self.now.owner).declarations c.args.self.now.marks c.import.new.self
    c.args.self.now.forms.items c.args.self.now.forms.items c.import.ensures.err (at_err c.import.result refl)
