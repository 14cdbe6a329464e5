use Rattle.std.proofs.Common.{rules, tests, ◌∙◌}
use Rattle.std.proofs.lemmas.{Iterator.YieldsList-from_slice, Iterator.YieldsList-from_zip, Iterator.Search.all_from_yields_List}
use Rattle.encode_types.specs.Key.{same_param}
use Rattle.encode_types.proofs.KeySteps.{zipped}
use Rattle.encode_types.proofs.key.ParamSignaturesPartialEq.eq.Goals as goal

pub returns-then-self-other : goal.returns-then-self-other
returns-then-self-other c = all_from_yields_List (λ p. same_param p.0 p.1) c.all.new.self _ c.all.result c.all.ensures.ran
    (YieldsList-from_zip (YieldsList-from_slice c.args.self.now.0.now cc) (YieldsList-from_slice c.args.other.now.0.now cc)) (λ x b q k. search (rules, tests))
    ∙ zipped same_param c.args.self.now.0.now c.args.other.now.0.now (search rules)
