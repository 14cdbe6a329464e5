use Rattle.text_trees.specs.TreesSeen.{path_of, prefix_of, used_name_of}
use Rattle.text_types.specs.{Kept.defs_of, Scopes.text_in}
use Rattle.text_types.proofs.{PathLaws.means_interface, MakingLaws.use_added}
use Rattle.text_types.proofs.members.add_used.Goals as goal

pub returns-clause-added : goal.returns-clause-added
returns-clause-added c =
    let text = text_in c.args.scope.now in
    use_added c.args.sources.now c.args.interfaces.now (defs_of c.add_named.new.types) c.args.scope.now (prefix_of text c.args.prefix.now)
    (path_of text c.args.path) (used_name_of text c.args.used) c.no_docs.result c.add_named.result c.no_docs.ensures.none
    c.add_named.ensures.added (c.own_name.ensures text) (record {
      number = c.in_ok-interface.interface;
      means = means_interface c.args.sources.now c.args.scope.now.text.number text c.requires.here c.args.scope.now.«package» c.args.path
          c.in_ok-interface.interface c.in_ok-interface.ensures.found;
      has = c.in_ok-target.ensures.found;
    })
