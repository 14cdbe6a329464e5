use Rattle.std.proofs.Common.{arith, ◌∙◌}
use Rattle.base_lemmas.proofs.Options.{passed}
use Rattle.text_names.specs.Contents.{all_items, IsFaultOf}
use Rattle.text_names.proofs.TableLaws.{text_adds, text_fails}
use Rattle.text_names.proofs.sources.Sources.of.Goals as goal

pub returns-in_err-add_file-clause-refuses : goal.returns-in_err-add_file-clause-refuses
returns-in_err-add_file-clause-refuses c = passed (IsFaultOf (all_items c.args.texts.now)) c.from_residual-in_err-add_file.result c.in_err-add_file.field-0.0 c.from_residual-in_err-add_file.ensures.1
    (text_fails c.args.texts.now c.loop-number.number c.index-texts-number.result (omega (arith, c.loop-number-test.true)) c.index-texts-number.is c.in_ok-number_behind.field-0
    c.in_ok-number_behind.ensures.ok
    c.loop-number.sources c.loop-number.invariant.2 c.in_err-add_file.field-0.0 c.in_err-add_file.ensures.err)

pub loop-number-preserved : goal.loop-number-preserved
loop-number-preserved c =
    let adds = c.in_ok-add_file.ensures.ok in (
      adds.index,
      adds.texts ∙ c.loop-number.invariant.1,
      text_adds c.args.texts.now c.loop-number.number c.index-texts-number.result (omega (arith, c.loop-number-test.true)) c.index-texts-number.is
          c.in_ok-number_behind.field-0 c.in_ok-number_behind.ensures.ok c.loop-number.sources c.loop-number.invariant.2 c.add_file.new.self adds,
    )
