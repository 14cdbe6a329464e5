use Rattle.std.proofs.Common.{rules}
use Rattle.print_grammar.specs.Tree.Declared.{RecordOf}
use Rattle.text_trees.specs.ReadDeclared.{field_in_front}
use Rattle.text_trees.specs.Seen.{cut, docs_ahead, text_of}
use Rattle.text_trees.proofs.Going.{braced_refuses}
use Rattle.text_trees.proofs.sorts.record_at.Goals as goal

pub returns-in_err-fields-clause-err : goal.returns-in_err-fields-clause-err
returns-in_err-fields-clause-err c =
    let them = c.args.tokens.now in
    search (
      rules,
      braced_refuses them RecordOf (field_in_front (docs_ahead them) 100) c.args.at c.in_ok-name.end c.in_ok-from.from (cut (text_of them) c.in_ok-name.name) c.in_ok-name.ensures.ok
          c.in_ok-from.ensures.ok c.in_ok-from.ensures.goes,
    )
