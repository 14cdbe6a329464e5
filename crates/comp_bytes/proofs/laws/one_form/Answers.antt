use Rattle.comp_bytes.proofs.ComponentLaws as laws
use Rattle.comp_bytes.proofs.laws.one_form.Goals as goal

pub returns : goal.returns
returns c = laws.one_component
