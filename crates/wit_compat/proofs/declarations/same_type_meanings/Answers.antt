use Rattle.std.proofs.{Common.rules, Common.refl, lemmas.Option.slice_get_read}
use Rattle.wit_compat.proofs.Declared.{meanings}
use Rattle.base_lemmas.proofs.Options.{if_ok as in_ok}
use Rattle.wit_compat.proofs.declarations.same_type_meanings.Goals as goal

pub same_declarations-requires-clause-a : goal.same_declarations-requires-clause-a
same_declarations-requires-clause-a c = (c.args.a.0, c.index-def.result.now, slice_get_read _ _ _ _ refl c.requires.a c.index-def.ensures, refl)

pub same_declarations-requires-clause-b : goal.same_declarations-requires-clause-b
same_declarations-requires-clause-b c = (c.args.b.0, c.index-other.result.now, slice_get_read _ _ _ _ refl c.requires.b c.index-other.ensures, refl)

pub returns-clause-exact : goal.returns-clause-exact
returns-clause-exact c =
    let b = c.args.right.now.resolve.now in
    in_ok _ _ (meanings c.args.left.now.resolve.now b c.args.a.0 c.args.b.0 c.index-def.result.now c.index-other.result.now (slice_get_read _ _ _ _ refl c.requires.a c.index-def.ensures)
    (slice_get_read _ _ _ _ refl c.requires.b c.index-other.ensures) (c.same_external_ids.ensures.0 (search rules))) c.same_declarations.result c.same_declarations.ensures.exact
