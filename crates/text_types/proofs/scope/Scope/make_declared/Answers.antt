use Rattle.std.proofs.Common.{◌∙◌, sym, subst}
use Rattle.text_trees.specs.{Seen.cut, TreesSeen.declared_of}
use Rattle.text_types.specs.{Kept.defs_of, Scopes.text_in, Stands.OwnNameAt}
use Rattle.text_types.proofs.{DeclaredLaws.plain_name, Growth.placed, ScopeLaws.placed_made, ScopeLaws.declared_there}
use Rattle.text_types.proofs.scope.Scope.make_declared.Goals as goal

pub returns-clause-placed : goal.returns-clause-placed
returns-clause-placed c =
    let text = text_in c.args.self.now in
    placed_made c.args.self.now c.place.new.self (defs_of c.add_declared.new.types) (cut text c.name_of.result) c.in_ok-id.id c.place.result
    c.place.ensures.placed
    (subst (OwnNameAt (defs_of c.add_declared.new.types) c.args.self.now.owner c.in_ok-id.id)
    (plain_name (declared_of text c.args.declared.now) ∙ sym (c.name_of.ensures.name text))
    (declared_there c.in_ok-id.ensures.added))
    (placed c.in_ok-id.ensures.grows c.requires)
