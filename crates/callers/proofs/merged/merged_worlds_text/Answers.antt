use Rattle.std.specs.Prelude.{ℕ, Vec}
use Rattle.std.specs.declared.alloc.Global.{Global}
use Rattle.callers.specs.{Merged.PrintsWorlds, Printed.IsTextOf}
use Rattle.base_lemmas.proofs.Options.{if_ok as if-ok}
use Rattle.callers.proofs.merged.merged_worlds_text.Goals as goal

pub home_of-requires-clause-valid : goal.home_of-requires-clause-valid
home_of-requires-clause-valid c = c.in_ok-bound.ensures.merged.bindgen.valid

pub home_of-requires-clause-in_range : goal.home_of-requires-clause-in_range
home_of-requires-clause-in_range c = c.in_ok-bound.ensures.merged.bindgen.in_range

pub text_of-requires-clause-valid : goal.text_of-requires-clause-valid
text_of-requires-clause-valid c = c.in_ok-bound.ensures.merged.bindgen.valid

pub text_of-requires-clause-in_range : goal.text_of-requires-clause-in_range
text_of-requires-clause-in_range c = c.home_of.ensures.in_range

pub returns : goal.returns
returns c =
    let r = c.in_ok-bound.bound.resolve in
    if-ok (λ (text : Vec ℕ Global). IsTextOf r c.home_of.result text.items) (λ (text : Vec ℕ Global). PrintsWorlds c.args.first.now c.args.second.now c.args.encoding text.items)
    (λ text is. record { bound = c.in_ok-bound.bound; merges = c.in_ok-bound.ensures.merged; home = c.home_of.result; is_home = c.home_of.ensures; is_text = is }) c.text_of.result
    c.text_of.ensures.text
