use Rattle.std.proofs.Common.{sym, subst}
use Rattle.wit_model.specs.Text.{Text}
use Rattle.encode_types.specs.Codes.{names_of, HasNumber}
use Rattle.encode_types.proofs.maps.TypeEncodingMaps.push_named.Goals as goal

pub returns-in_err-number-clause-known : goal.returns-in_err-number-clause-known
returns-in_err-number-clause-known c = λ h. c.number_of.ensures.known (subst (λ (t : Text). HasNumber (names_of c.args.self.now.names) t) (sym c.as_str.ensures.value) h)

pub returns-in_err-push_param-clause-known : goal.returns-in_err-push_param-clause-known
returns-in_err-push_param-clause-known c = λ h. c.number_of.ensures.known (subst (λ (t : Text). HasNumber (names_of c.args.self.now.names) t) (sym c.as_str.ensures.value) h)

pub returns-clause-known : goal.returns-clause-known
returns-clause-known c = λ h. c.number_of.ensures.known (subst (λ (t : Text). HasNumber (names_of c.args.self.now.names) t) (sym c.as_str.ensures.value) h)
