use Rattle.std.proofs.Common.{◌∙◌, ap, subst, string_bytes}
use Rattle.teasel_files.specs.Folders.{IsText}
use Rattle.teasel_words.specs.Table.{Text}
use Rattle.teasel_files.proofs.InputLaws.{one-more}
use Rattle.teasel_files.proofs.inputs.read_texts.Goals as goal

pub loop-path-preserved : goal.loop-path-preserved
loop-path-preserved g c =
    let holds = g.S.Store.holds (g.S.Store.state c.args.store.now) in
    let text = c.in_ok-read_text.field-0 in (
      one-more string_bytes (IsText holds) c.args.paths.now c.path-item.result c.loop-path.path-index c.loop-path.texts.items c.push.new.self.items text c.loop-path-test.true
          c.loop-path.invariant.0
          (subst (λ (p : Text). IsText holds p text) (c.deref.ensures ∙ ap string_bytes c.path-item.is)
          (subst (λ (s : g.S.Store.State). IsText (g.S.Store.holds s) c.deref.result.now text) c.loop-path.invariant.1 c.in_ok-read_text.ensures.read))
          c.in_ok-push.ensures.items,
      c.read_text.ensures.kept ∙ c.loop-path.invariant.1,
    )
