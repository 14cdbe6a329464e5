use Rattle.std.specs.Prelude.{IfErr}
use Rattle.std.proofs.Common.{sym, ◌∙◌, subst}
use Rattle.text_trees.specs.Seen.{RefusesAs}
use Rattle.text_trees.proofs.Pieces.{text_begins}
use Rattle.text_trees.proofs.packages.text_at.Goals as goal

pub returns-clause-err : goal.returns-clause-err
returns-clause-err c =
    let them = c.args.tokens.now in
    subst (λ r. IfErr c.pieces_at.result (λ e. RefusesAs them e r))
    (sym (text_begins them c.args.at c.new.result.items (sym c.begins_key.ensures.is ∙ c.if-begins_key.false) c.new.ensures.items)) c.pieces_at.ensures.err
