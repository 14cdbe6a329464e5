use Rattle.std.proofs.Common.{rules, arith, refl, ap, ◌∙◌, []}
use Rattle.std.specs.Str.{chars}
use Rattle.wit_model.specs.Text.{text_of}
use Rattle.print_grammar.specs.Token.{StringState as states, string_characters}
use Rattle.text_types.specs.Strings.{told, quoting}
use Rattle.text_types.proofs.Quotes.{characters_told, empty_told, ended, ended_early, goes_on, never_ended, no_characters, stays_alive, stopped}
use Rattle.text_types.proofs.strings.characters_of.Goals as goal

pub returns-then-is_empty : goal.returns-then-is_empty
returns-then-is_empty c = record { characters = empty_told c.new.result c.args.spelling.now c.new.ensures.bytes (search rules) }

pub loop-at-init : goal.loop-at-init
loop-at-init c = record {
  so_far = ap (λ l. told l (string_characters states.Between c.split_at.result.1.now)) (no_characters c.new-characters.result c.new-characters.ensures.bytes);
  alive = refl;
}

pub returns-in-Stops : goal.returns-in-Stops
returns-in-Stops c = record {
  characters = no_characters c.new-in-Stops.result c.new-in-Stops.ensures.bytes
      ∙ (stopped c.split_at.result.1.now c.loop-at.at (quoting c.loop-at.quote) (chars (text_of c.loop-at.characters)) (chars (text_of
      c.read_on.new.characters)) (told [] (string_characters states.Between c.split_at.result.1.now)) c.in_ok-read_on.field-0
      c.loop-at.invariant.so_far c.loop-at-test.true c.in_ok-read_on.ensures.reads c.in-Stops.is
      ∙ characters_told c.args.spelling.now c.split_at.result.1.now c.split_at.ensures.back);
}

pub returns-then-at-rest : goal.returns-then-at-rest
returns-then-at-rest c = record {
  characters = ended c.split_at.result.1.now c.loop-at.at (quoting c.loop-at.quote) (chars (text_of c.loop-at.characters)) (chars (text_of
      c.read_on.new.characters)) (told [] (string_characters states.Between c.split_at.result.1.now)) c.in_ok-read_on.field-0
      c.loop-at.invariant.so_far c.loop-at-test.true c.in_ok-read_on.ensures.reads c.in-Ends.is (omega arith)
      ∙ characters_told c.args.spelling.now c.split_at.result.1.now c.split_at.ensures.back;
}

pub returns-in-Ends : goal.returns-in-Ends
returns-in-Ends c = record {
  characters = no_characters c.new-in-Ends.result c.new-in-Ends.ensures.bytes
      ∙ (ended_early c.split_at.result.1.now c.loop-at.at (quoting c.loop-at.quote) (chars (text_of c.loop-at.characters)) (chars (text_of
      c.read_on.new.characters)) (told [] (string_characters states.Between c.split_at.result.1.now)) c.in_ok-read_on.field-0
      c.loop-at.invariant.so_far c.loop-at-test.true c.in_ok-read_on.ensures.reads c.in-Ends.is (omega arith)
      ∙ characters_told c.args.spelling.now c.split_at.result.1.now c.split_at.ensures.back);
}

pub loop-at-preserved : goal.loop-at-preserved
loop-at-preserved c = record {
  so_far = goes_on c.split_at.result.1.now c.loop-at.at (quoting c.loop-at.quote) (chars (text_of c.loop-at.characters)) (chars (text_of
      c.read_on.new.characters)) (told [] (string_characters states.Between c.split_at.result.1.now)) c.in_ok-read_on.field-0
      c.loop-at.invariant.so_far c.loop-at-test.true c.in_ok-read_on.ensures.reads c.in-Goes.is;
  alive = stays_alive c.split_at.result.1.now c.loop-at.at (quoting c.loop-at.quote) (chars (text_of c.loop-at.characters)) (chars (text_of
      c.read_on.new.characters)) (told [] (string_characters states.Between c.split_at.result.1.now)) c.in_ok-read_on.field-0
      c.loop-at.invariant.so_far c.loop-at-test.true c.in_ok-read_on.ensures.reads c.in-Goes.is;
}

pub returns : goal.returns
returns c = record {
  characters = no_characters c.new-2.result c.new-2.ensures.bytes
      ∙ (never_ended c.split_at.result.1.now c.loop-at.at (quoting c.loop-at.quote) (chars (text_of c.loop-at.characters)) (told []
      (string_characters states.Between c.split_at.result.1.now))
      c.loop-at.invariant.so_far (omega arith)
      ∙ characters_told c.args.spelling.now c.split_at.result.1.now c.split_at.ensures.back);
}
