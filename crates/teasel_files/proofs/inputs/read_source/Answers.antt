use Rattle.std.proofs.Common.{sym, ◌∙◌}
use Rattle.teasel_files.specs.Folders.{IsUnread.of_file}
use Rattle.teasel_messages.proofs.ReasonLaws.{refused-by}
use Rattle.teasel_files.proofs.inputs.read_source.Goals as goal

pub returns-else-is_folder-clause-refused : goal.returns-else-is_folder-clause-refused
returns-else-is_folder-clause-refused g c =
    refused-by _ _ _ (λ other. of_file c.in-Err.fault (sym c.is_folder.ensures ∙ c.if-is_folder.false) (c.in-Err.ensures.refused other)) c.unread.ensures
