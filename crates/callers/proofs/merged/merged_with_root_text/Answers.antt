use Rattle.std.specs.Prelude.{ℕ, Vec}
use Rattle.std.specs.declared.alloc.Global.{Global}
use Rattle.callers.specs.{Merged.PrintsWithRoot, Printed.IsTextOf}
use Rattle.base_lemmas.proofs.Options.{if_ok as if-ok}
use Rattle.callers.proofs.merged.merged_with_root_text.Goals as goal

pub text_of-requires-clause-valid : goal.text_of-requires-clause-valid
text_of-requires-clause-valid c = c.in_ok-bound.ensures.merged.bindgen.valid

pub text_of-requires-clause-in_range : goal.text_of-requires-clause-in_range
text_of-requires-clause-in_range c = c.in_ok-bound.ensures.merged.some

pub returns : goal.returns
returns c =
    let r = c.in_ok-bound.bound.resolve in
    if-ok (λ (text : Vec ℕ Global). IsTextOf r (record { 0 = 0 }) text.items) (λ (text : Vec ℕ Global). PrintsWithRoot c.args.bytes.now c.args.encoding text.items)
    (λ text is. record { bound = c.in_ok-bound.bound; merges = c.in_ok-bound.ensures.merged; is_text = is }) c.text_of.result c.text_of.ensures.text
