use Rattle.text_names.specs.Paths.{IsRefusalOf}
use Rattle.text_names.proofs.TableLaws.{err_is}
use Rattle.text_names.proofs.PathLaws.{path_home, path_homeless}
use Rattle.text_names.proofs.sources.Sources.package_of.Goals as goal

pub returns-in-Some-clause-ok : goal.returns-in-Some-clause-ok
returns-in-Some-clause-ok c = path_home c.args.self.now c.requires c.args.text c.args.own c.args.path c.in-Full.namespace c.in-Full.name c.in-Full.interface c.in-Full.version c.in-Full.is
    c.texts_of-key.result c.text.result.now c.text.ensures c.texts_of-key.ensures c.get_index_of.result c.in-Some.number c.in-Some.is c.get_index_of.ensures.index

pub returns-in-None-clause-err : goal.returns-in-None-clause-err
returns-in-None-clause-err c = err_is (IsRefusalOf c.args.self.now c.args.text c.args.own c.args.path) c.refused.result _ c.refused.ensures
    (path_homeless c.args.self.now c.requires c.args.text c.args.own c.args.path c.in-Full.namespace c.in-Full.name c.in-Full.interface c.in-Full.version c.in-Full.is
    c.texts_of-key.result c.text.result.now c.text.ensures c.texts_of-key.ensures c.get_index_of.result c.in-None.is c.get_index_of.ensures.found)
