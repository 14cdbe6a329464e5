use Rattle.std.proofs.Common.{◌≡◌, false, [], drop}
use Rattle.std.specs.Str.{chars}
use Rattle.wit_model.specs.Text.{text_of}
use Rattle.print_grammar.specs.Token.{StringState as states, string_characters}
use Rattle.text_types.specs.Strings.{told, quoting, is_dead}
use Rattle.text_types.proofs.strings.characters_of.Given as goal

abbrev pub invariant-loop-at : goal.invariant-loop-at
invariant-loop-at l = record {
  so_far : told (chars (text_of l.characters)) (string_characters (quoting l.quote) (drop l.at l.rest)) ≡ told [] (string_characters states.Between l.rest);
  alive : is_dead l.quote ≡ false;
}
