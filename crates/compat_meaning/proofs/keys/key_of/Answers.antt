use Rattle.std.proofs.Common.{sym, ap, ◌∙◌, Some}
use Rattle.compat_meaning.specs.Numbered.{number_in}
use Rattle.compat_meaning.proofs.Numbering.{number_inserted, numbers_kept}
use Rattle.compat_meaning.proofs.keys.key_of.Goals as goal

pub returns-clause-number : goal.returns-clause-number
returns-clause-number c = ap (λ ks. number_in ks c.args.text.now) c.in_ok-number.ensures.keys ∙ number_inserted c.args.keys.now.keys c.args.text ∙ ap Some (sym c.in_ok-number.ensures.index)

pub returns-clause-kept : goal.returns-clause-kept
returns-clause-kept c = λ t n h. ap (λ ks. number_in ks t) c.in_ok-number.ensures.keys ∙ numbers_kept c.args.keys.now.keys c.args.text t n h
