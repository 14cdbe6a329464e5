use Rattle.std.proofs.Common.{option_map}
use Rattle.wit_model.specs.Text.{text_of}
use Rattle.comp_bytes.specs.RawOf.{text_of as borrowed_text}
use Rattle.read_follow.proofs.PlaceLaws.{completed_read}
use Rattle.read_follow.proofs.instance_keys.path_number.Goals as goal

pub number_of-requires : goal.number_of-requires
number_of-requires c = completed_read c.args.text.now (option_map borrowed_text c.args.suffix) (text_of c.in-Ok.whole) c.in-Ok.ensures
