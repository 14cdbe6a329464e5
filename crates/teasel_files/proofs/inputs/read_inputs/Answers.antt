use Rattle.std.proofs.Common.{◌∙◌, [], ap, subst, Any, Bor, List}
use Rattle.std.proofs.lemmas.Result.{err_from_is_err_and}
use Rattle.std.proofs.Math.ListN.{get_or}
use Rattle.teasel_files.specs.Folders.{IsRead, IsUnread}
use Rattle.teasel_messages.proofs.ReasonLaws.{refused-by}
use Rattle.teasel_words.specs.{Given.texts_of, Table.Text}
use Rattle.teasel_files.proofs.AnyLaws.{any-text}
use Rattle.teasel_files.proofs.InputLaws.{one-more}
use Rattle.teasel_files.proofs.inputs.read_inputs.Goals as goal

pub loop-name-preserved : goal.loop-name-preserved
loop-name-preserved g c =
    let names = c.deref-name-items.result.now in
    let at = c.loop-name.name-index in
    let none : Bor Text = record { ref_ptr = (0, 0); now = [] } in
    let old = g.S.Store.state c.args.store.now in
    let found = c.in_ok-read_source.field-0 in (
      one-more (λ (t : Bor Text). t.now) (IsRead (g.S.Store.holds old) (g.S.Store.lists old)) names none at c.loop-name.sources.items c.push.new.self.items found
          c.loop-name-test.true c.loop-name.invariant.0
          (subst (λ (s : g.S.Store.State). IsRead (g.S.Store.holds s) (g.S.Store.lists s) (get_or names at none).now found) c.loop-name.invariant.1
          c.in_ok-read_source.ensures.read)
          c.in_ok-push.ensures.items,
      c.read_source.ensures.kept ∙ c.loop-name.invariant.1,
    )

pub returns-in_err-read_source-clause-refused : goal.returns-in_err-read_source-clause-refused
returns-in_err-read_source-clause-refused g c =
    let names = c.deref-name-items.result.now in
    let at = c.loop-name.name-index in
    let none : Bor Text = record { ref_ptr = (0, 0); now = [] } in
    let old = g.S.Store.state c.args.store.now in
    let Why = IsUnread (g.S.Store.fails old) (g.S.Store.lists old) (g.S.Store.unlisted old) in
    let p = err_from_is_err_and c.from_residual-in_err-read_source.result c.from_residual-in_err-read_source.ensures.1 in
    rw (p.1, p.2) (refused-by _ _ _ (λ bad. subst (λ (ts : List Text). Any Why ts) (ap texts_of c.deref-name-items.ensures.value ∙ c.in_ok-names.ensures.names)
    (any-text Why names at none c.loop-name-test.true
    (subst (λ (s : g.S.Store.State). IsUnread (g.S.Store.fails s) (g.S.Store.lists s) (g.S.Store.unlisted s) (get_or names at none).now) c.loop-name.invariant.1 bad)))
    c.in_err-read_source.ensures.refused)
