use Rattle.std.proofs.Common.{rules, sym, ◌∙◌}
use Rattle.text_trees.specs.Seen.{cut, docs_ahead, text_of}
use Rattle.text_trees.proofs.Going.{resource_refuses}
use Rattle.text_trees.proofs.sorts.resource_behind_at.Goals as goal

pub returns-in_err-functions-clause-err : goal.returns-in_err-functions-clause-err
returns-in_err-functions-clause-err c =
    let them = c.args.tokens.now in
    search (
      rules,
      resource_refuses them (docs_ahead them) (cut (text_of them) c.args.name) c.args.at c.in_ok-from.from (sym c.begins.ensures.is ∙ c.if-begins.false)
          c.in_ok-from.ensures.ok c.in_ok-from.ensures.goes,
    )
