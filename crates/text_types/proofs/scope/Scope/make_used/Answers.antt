use Rattle.std.proofs.Common.{sym, subst}
use Rattle.text_trees.specs.{Seen.cut, TreesSeen.path_of, TreesSeen.prefix_of, TreesSeen.used_name_of}
use Rattle.text_types.specs.{Kept.defs_of, Scopes.text_in, Stands.OwnNameAt}
use Rattle.text_types.proofs.{Growth.placed, MakingLaws.use_made, ScopeLaws.placed_made, ScopeLaws.named_there}
use Rattle.text_types.proofs.scope.Scope.make_used.Goals as goal

pub returns-clause-placed : goal.returns-clause-placed
returns-clause-placed c =
    let text = text_in c.args.self.now in
    placed_made c.args.self.now c.place.new.self (defs_of c.add_used.new.types) (cut text c.own_name.result) c.in_ok-id.id c.place.result c.place.ensures.placed
    (subst (OwnNameAt (defs_of c.add_used.new.types) c.args.self.now.owner c.in_ok-id.id)
    (sym (c.own_name.ensures text)) (named_there c.in_ok-id.ensures.added.there))
    (placed c.in_ok-id.ensures.grows c.requires.placed)

pub returns-clause-made : goal.returns-clause-made
returns-clause-made c =
    let text = text_in c.args.self.now in
    use_made c.args.sources.now c.args.interfaces.now (defs_of c.add_used.new.types) c.args.self.now (prefix_of text c.args.prefix.now)
    (path_of text c.args.path) (used_name_of text c.args.used) c.place.result c.place.ensures.named c.place.ensures.number (c.own_name.ensures text)
    c.in_ok-id.ensures.added
