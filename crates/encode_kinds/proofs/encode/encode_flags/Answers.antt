use Rattle.std.proofs.Common.{ap, sym}
use Rattle.wit_model.specs.Tree.{flags_tree}
use Rattle.encode_kinds.proofs.encode.encode_flags.Goals as goal

pub returns-clause-size : goal.returns-clause-size
returns-clause-size g c = λ h. let names = (rw c.deref.ensures.value at c.in_ok-names.ensures) in c.define.ensures.size h _ (ap flags_tree (sym names))
