use Rattle.std.proofs.Common.{sym}
use Rattle.wit_text.proofs.{SideLaws.grows_interfaces, Walking.on_ok, WorldLaws.numbered}
use Rattle.wit_text.proofs.worlds.world_of.Goals as goal

pub made-requires : goal.made-requires
made-requires c = record {
  here = record { index = c.requires.index; number = c.text_of-text.ensures.number; text = sym c.text_of-text.ensures.text };
  imports = c.in_ok-paths.ensures.import;
  exports = c.in_ok-paths.ensures.export;
  numbered = numbered c.requires.index c.requires.made;
}

pub paths_of-requires-clause-here : goal.paths_of-requires-clause-here
paths_of-requires-clause-here c = sym c.text_of-text.ensures.text

pub returns-clause-made : goal.returns-clause-made
returns-clause-made c = on_ok _ _ c.made.result (λ k. grows_interfaces k) c.made.ensures.keeps
