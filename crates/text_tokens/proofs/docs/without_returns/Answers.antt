use Rattle.std.proofs.Common.{rules, ◌∙◌, sym, ap, arith, Some, None}
use Rattle.std.proofs.lemmas.Str.Pattern.{strip_suffix_char}
use Rattle.text_tokens.specs.Documentation.{without_returns}
use Rattle.text_tokens.proofs.DocSteps.{no_return, return_cut}
use Rattle.text_tokens.proofs.docs.without_returns.Goals as goal

pub returns-preserved : goal.returns-preserved
returns-preserved c =
    let e = strip_suffix_char 13 c.returns.rest.now (Some c.in-Some.shorter) c.in-Some.ensures.cases (omega arith) in
    (search rules, sym (ap without_returns e ∙ return_cut c.in-Some.shorter.now) ∙ c.returns.invariant.1)

pub returns-in-None : goal.returns-in-None
returns-in-None c =
    no_return c.returns.rest.now (strip_suffix_char 13 c.returns.rest.now None c.in-None.ensures.cases (omega arith)) ∙ c.returns.invariant.1
