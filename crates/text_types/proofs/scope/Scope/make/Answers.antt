use Rattle.std.proofs.Common.{◌∙◌, ap, refl, Some}
use Rattle.std.proofs.lemmas.Option.{slice_get_read}
use Rattle.base_lemmas.proofs.Lists.{mapped_get}
use Rattle.text_trees.specs.TreesSeen.{declared_of, prefix_of}
use Rattle.text_types.specs.{Kept.defs_of, Scopes.member_of_own, Scopes.text_in, Scopes.types_in}
use Rattle.text_types.proofs.MakingLaws.{declaration_made}
use Rattle.text_types.proofs.scope.Scope.make.Goals as goal

pub returns-in-Declared-clause-made : goal.returns-in-Declared-clause-made
returns-in-Declared-clause-made c =
    let text = text_in c.args.self.now in
    let it = c.in-Declared in
    declaration_made c.args.sources.now c.args.interfaces.now (defs_of c.make_declared.new.types) c.args.self.now (prefix_of text it.prefix.now)
    (declared_of text it.declared.now) (types_in c.args.self.now) c.args.place c.make_declared.result c.make_declared.ensures.named c.make_declared.ensures.made
    (mapped_get (member_of_own text) c.args.self.now.types.items c.args.place _
    (slice_get_read c.args.self.now.types.items _ c.args.place c.index.result.now refl c.requires.within c.index.ensures ∙ ap Some it.is))
