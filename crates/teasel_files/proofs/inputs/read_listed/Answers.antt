use Rattle.std.proofs.Common.{ap, subst, inl, inr, List}
use Rattle.std.proofs.lemmas.Result.{err_from_is_err_and}
use Rattle.teasel_files.specs.Folders.{HasUnread, IsUnread.of_text, paths_of}
use Rattle.teasel_messages.proofs.ReasonLaws.{refused-by}
use Rattle.teasel_words.specs.Table.{Text}
use Rattle.teasel_files.proofs.inputs.read_listed.Goals as goal

pub returns-in_err-own-clause-refused : goal.returns-in_err-own-clause-refused
returns-in_err-own-clause-refused g c =
    let p = err_from_is_err_and c.from_residual.result c.from_residual.ensures.1 in
    let fails = g.S.Store.fails (g.S.Store.state c.args.store.now) in
    rw (p.1, p.2) (refused-by _ _ _ (λ bad. of_text (paths_of c.args.listed.now.own.items) (paths_of c.args.listed.now.used.items) c.requires.lists
    (inl (subst (λ (ts : List Text). HasUnread fails ts) (ap paths_of c.deref.ensures.value) bad))) c.in_err-own.ensures.refused)

pub returns-in_err-used-clause-refused : goal.returns-in_err-used-clause-refused
returns-in_err-used-clause-refused g c =
    let p = err_from_is_err_and c.from_residual-in_err-used.result c.from_residual-in_err-used.ensures.1 in
    let fails = g.S.Store.fails (g.S.Store.state c.args.store.now) in
    rw (p.1, p.2) (refused-by _ _ _ (λ bad. of_text (paths_of c.args.listed.now.own.items) (paths_of c.args.listed.now.used.items) c.requires.lists
    (inr (subst (λ (ts : List Text). HasUnread fails ts) (ap paths_of c.deref-2.ensures.value)
    (subst (λ (s : g.S.Store.State). HasUnread (g.S.Store.fails s) (paths_of c.deref-2.result.now)) c.read_texts.ensures.kept bad)))) c.in_err-used.ensures.refused)
