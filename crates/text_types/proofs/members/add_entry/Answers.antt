use Rattle.std.proofs.Common.{◌∙◌, Some}
use Rattle.std.specs.String.{string_eq}
use Rattle.std.proofs.lemmas.Map.Text.{hash_map_updates_text}
use Rattle.indexmap.proofs.CallerLemmas.{insert_entry-new}
use Rattle.wit_model.specs.Text.{text_of}
use Rattle.text_types.proofs.members.add_entry.Goals as goal

pub returns : goal.returns
returns c = record {
  adds = record {
    is = c.in_ok-insert.ensures.entries ∙ insert_entry-new string_eq c.args.all.now c.args.entry.0 c.args.entry.1 c.requires;
    finds = hash_map_updates_text (text_of c.args.entry.0) c.args.all.now c.insert.new.self (Some c.args.entry.1) c.in_ok-insert.ensures.updates;
  };
}
