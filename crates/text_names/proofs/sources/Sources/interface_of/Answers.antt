use Rattle.std.proofs.Common.{ap, ◌∙◌}
use Rattle.text_trees.specs.Seen.{cut}
use Rattle.text_names.specs.Paths.{IsRefusalOf}
use Rattle.text_names.specs.Tables.{interface_in}
use Rattle.text_names.proofs.TableLaws.{err_is}
use Rattle.text_names.proofs.PathLaws.{path_found, path_refused}
use Rattle.text_names.proofs.sources.Sources.interface_of.Goals as goal

pub returns-in-Some-clause-found : goal.returns-in-Some-clause-found
returns-in-Some-clause-found c = path_found c.args.self.now c.requires c.args.text c.args.own c.args.path c.in-Ok.found.0 c.in-Ok.found.1 c.in-Ok.ensures.ok c.cut.result.now
    (c.cut.ensures ∙ ap (λ t. cut t c.in-Ok.found.1) c.text.ensures) c.number_in.result (c.number_in.ensures ∙ ap interface_in c.find.ensures) c.in-Some.number c.in-Some.is

pub returns-in-None-clause-refused : goal.returns-in-None-clause-refused
returns-in-None-clause-refused c = err_is (IsRefusalOf c.args.self.now c.args.text c.args.own c.args.path) c.refused.result _ c.refused.ensures
    (path_refused c.args.self.now c.requires c.args.text c.args.own c.args.path c.in-Ok.found.0 c.in-Ok.found.1 c.in-Ok.ensures.ok c.cut.result.now
    (c.cut.ensures ∙ ap (λ t. cut t c.in-Ok.found.1) c.text.ensures) c.number_in.result (c.number_in.ensures ∙ ap interface_in c.find.ensures) c.in-None.is)
