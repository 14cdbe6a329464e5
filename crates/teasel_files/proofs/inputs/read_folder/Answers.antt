use Rattle.std.proofs.Common.{◌≡◌, ◌∙◌, [], subst, sym, ap, List}
use Rattle.std.proofs.lemmas.List.{nil_from_length}
use Rattle.base_lemmas.proofs.Numbers.{equal}
use Rattle.teasel_files.specs.Folders.{IsUnread.no_text, IsUnread.of_folder, paths_of}
use Rattle.teasel_messages.proofs.ReasonLaws.{refused-by}
use Rattle.teasel_messages.specs.Reasons.{for_reason}
use Rattle.teasel_words.specs.Table.{Text}
use Rattle.teasel_files.proofs.inputs.read_folder.Goals as goal

pub returns-then-is_empty-clause-refused : goal.returns-then-is_empty-clause-refused
returns-then-is_empty-clause-refused g c =
    let lists = g.S.Store.lists (g.S.Store.state c.args.store.now) c.args.name.now in
    let used = paths_of c.in-Ok.listed.used.items in
    let none : c.in-Ok.listed.own.items ≡ [] = nil_from_length c.in-Ok.listed.own.items (sym c.in-Ok.listed.own.ok.0 ∙ equal c.in-Ok.listed.own.len 0 (sym c.if-is_empty.ensures)) in
    for_reason (no_text used (subst (λ (ts : List Text). lists ts used) (ap paths_of none) c.in-Ok.ensures.listed))

pub returns-in-Err-clause-refused : goal.returns-in-Err-clause-refused
returns-in-Err-clause-refused g c = refused-by _ _ _ (λ other. of_folder c.in-Err.unlisted.fault (c.in-Err.ensures.refused other)) c.unread.ensures
