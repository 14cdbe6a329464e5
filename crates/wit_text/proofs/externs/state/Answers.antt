use Rattle.text_types.proofs.PathLaws.{means_interface}
use Rattle.wit_text.proofs.FrontLaws.{state_ok}
use Rattle.wit_text.proofs.externs.state.Goals as goal

pub returns : goal.returns
returns c = record {
  adds =
      state_ok c.args.around.now.sources.now c.args.world.now.«package» c.args.text.now.text.now c.args.stated.now c.state_one.new.stated c.args.path
      c.in_ok-interface.interface c.args.prefix c.state_one.result
      (means_interface c.args.around.now.sources.now c.args.world.now.text c.args.text.now.text.now c.requires.here c.args.world.now.«package»
      c.args.path c.in_ok-interface.interface c.in_ok-interface.ensures.found)
      c.state_one.ensures.ok c.state_one.ensures.fresh;
}
