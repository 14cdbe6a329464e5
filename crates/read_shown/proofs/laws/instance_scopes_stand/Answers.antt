use Rattle.comp_meaning.specs.Follow.{new_instance}
use Rattle.read_shown.specs.Scopes.{IsShownBefore}
use Rattle.read_shown.proofs.Views as lemmas
use Rattle.read_shown.proofs.laws.instance_scopes_stand.Goals as goal

pub returns : goal.returns
returns c = λ instances count own outer around ds scope e.
    lemmas.instance_steps_stand (IsShownBefore instances count) own outer around ds new_instance scope e (lemmas.new_instance_stands (IsShownBefore instances count) own outer around)
