use Rattle.std.proofs.Common.{◌∙◌}
use Rattle.wit_text.proofs.{StageLaws.one_callable, Walking.on_ok}
use Rattle.wit_text.proofs.externs.add_callable.Goals as goal

pub returns : goal.returns
returns c = record {
  adds =
      on_ok _ _ c.add_named.result (λ adds. one_callable c.args.callable c.deref-2.result.now (c.deref-2.ensures ∙ (c.in_ok-name.ensures.ok ∙
      c.deref.ensures)) adds)
      c.add_named.ensures.adds;
}
