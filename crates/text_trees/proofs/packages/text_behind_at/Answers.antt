use Rattle.std.specs.Prelude.{IfErr}
use Rattle.std.proofs.Common.{rules, sym, ◌∙◌, subst}
use Rattle.text_trees.specs.Seen.{RefusesAs}
use Rattle.text_trees.proofs.Pieces.{text_goes_on, text_nests_refuses}
use Rattle.text_trees.proofs.packages.text_behind_at.Goals as goal

pub returns-then-begins-clause-err : goal.returns-then-begins-clause-err
returns-then-begins-clause-err c =
    let them = c.args.tokens.now in
    subst (λ r. IfErr c.pieces_at.result (λ e. RefusesAs them e r))
    (sym (text_goes_on them c.args.docs c.args.head c.args.at c.new.result.items (sym c.begins.ensures.is ∙ c.if-begins.true) c.new.ensures.items)) c.pieces_at.ensures.err

pub returns-in_err-text-clause-err : goal.returns-in_err-text-clause-err
returns-in_err-text-clause-err c =
    let them = c.args.tokens.now in
    search (
      rules,
      text_nests_refuses them c.args.docs c.args.head c.args.at c.in_ok-it.from c.in_ok-it.it c.push.new.self.items (sym c.begins.ensures.is ∙ c.if-begins.false)
          c.in_ok-it.ensures.ok (search rules),
    )
