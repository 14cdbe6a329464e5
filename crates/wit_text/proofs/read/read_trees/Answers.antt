use Rattle.std.proofs.Common.{map, string_bytes, subst}
use Rattle.text_plain.specs.{FilesSeen.file_of, Places.folder_text_of, Plain.FilesAre}
use Rattle.wit_text.proofs.{ReadTrees.reads_all, Refusing.trees_many}
use Rattle.wit_text.proofs.read.read_trees.Goals as goal

pub folder_texts_of-requires : goal.folder_texts_of-requires
folder_texts_of-requires c = record { many = trees_many c.args.texts.now c.args.trees.now c.requires; trees = c.requires }

pub returns-in-Ok : goal.returns-in-Ok
returns-in-Ok c = record {
  reads =
      reads_all c.packages_are_shown.ensures (map (λ t. t.now) c.args.texts.now) c.args.own c.in_ok-list.list.items c.in-Ok.plain c.in_ok-list.ensures.folders
      c.in_ok-list.ensures.read (subst (λ l. FilesAre (map folder_text_of l) (map (file_of (string_bytes c.in-Ok.plain.whole)) c.in-Ok.plain.files.items)) c.deref.ensures.value c.in-Ok.ensures)
      c.read_plain.result c.read_plain.ensures.valid c.read_plain.ensures.shows;
}
