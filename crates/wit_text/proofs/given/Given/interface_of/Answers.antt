use Rattle.wit_text.specs.Sides.{home_in, sources_in, text_of_world}
use Rattle.wit_text.proofs.FrontLaws.{means_ok}
use Rattle.wit_text.proofs.given.Given.interface_of.Goals as goal

pub returns : goal.returns
returns c = record {
  means =
      means_ok (sources_in c.args.self.now) c.args.self.now.world.now.text (home_in c.args.self.now) (text_of_world c.args.self.now) c.args.path
      c.interface_of.result
      c.requires.text c.interface_of.ensures.found;
}
