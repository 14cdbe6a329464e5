use Rattle.std.proofs.Common.{[], ◌∷◌, map, sym, ap, ◌∙◌, map-id, length}
use Rattle.std.proofs.lemmas.{Iterator.YieldsList-from_chars, Iterator.Consumers.YieldsList-end, Iterator.Consumers.YieldsList-so_far, List.map-append}
use Rattle.print_grammar.specs.Calls.{character_call}
use Rattle.print_items.proofs.{Driven.driven_as, Driven.driven_on, Driven.map_cut}
use Rattle.std.specs.Str.{chars}
use Rattle.print_items.proofs.prefix.write_characters.Goals as goal

pub loop-c-preserved : goal.loop-c-preserved
loop-c-preserved g c = record { calls = driven_on c.loop-c.invariant.calls c.character.ensures.calls (sym (map-append character_call c.loop-c.yielded (c.in-Some.c ∷ []))) }

pub returns : goal.returns
returns g c =
    let end = YieldsList-end (YieldsList-from_chars c.args.text.now c.utf8.text cc) c.loop-c.yielded _ c.loop-c.yielded_by _ _ c.in-None.is c.next.ensures.steps in
    record { calls = driven_as c.loop-c.invariant.calls (ap (map character_call) (sym (map-id c.loop-c.yielded) ∙ end.0)) }

pub returns-then-driver : goal.returns-then-driver
returns-then-driver g c =
    let so_far = YieldsList-so_far (YieldsList-from_chars c.args.text.now c.utf8.text cc) c.loop-c.yielded _ c.loop-c.yielded_by in
    record {
      calls = map_cut character_call (chars c.args.text.now) (length c.loop-c.yielded) (driven_as c.loop-c.invariant.calls (ap (map character_call) (sym (map-id c.loop-c.yielded) ∙ so_far)))
          c.if-driver.true;
    }
