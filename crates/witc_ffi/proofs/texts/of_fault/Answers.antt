use Rattle.std.proofs.Common.{subst}
use Rattle.wit_model.specs.declared.error.Error.TheVariants.{Size}
use Rattle.wit_text.specs.Texts.{RefusesTexts}
use Rattle.witc_read.specs.{Packages.bytes_of, Places.TellsPlace, Places.names_of}
use Rattle.witc_refusals.specs.Numbers.{plain_why}
use Rattle.witc_ffi.specs.Texts.{at_place, for_rule, too_large}
use Rattle.witc_ffi.proofs.TextLaws.{tells-any, tells-refusal, tells-some}
use Rattle.witc_ffi.proofs.texts.of_fault.Goals as goal

pub returns-in-Size : goal.returns-in-Size
returns-in-Size c = λ own asked refuses.
    let texts = bytes_of c.args.texts.now in
    tells-refusal (names_of c.args.texts.now) texts own Size c.refusal.result (too_large asked (subst (RefusesTexts texts) c.in-Size.is refuses)) c.refusal.ensures

pub returns-in-Refused : goal.returns-in-Refused
returns-in-Refused c = λ own asked refuses.
    let names = names_of c.args.texts.now in
    let texts = bytes_of c.args.texts.now in
    let refused = c.in-Refused.refused in
    tells-some names texts own (record { offset = refused.at.start; subject = 0; code = 23; detail = refused.text }) (TellsPlace names texts refused) c.at_place.result
    (λ message tells. at_place refused message asked (subst (RefusesTexts texts) c.in-Refused.is refuses) tells)
    c.at_place.ensures.message c.at_place.ensures.status c.at_place.ensures.why

pub returns-in-Broken : goal.returns-in-Broken
returns-in-Broken c = λ own asked refuses.
    let texts = bytes_of c.args.texts.now in
    tells-any (names_of c.args.texts.now) texts own (plain_why 23) c.for_rule.result
    (λ message. for_rule c.in-Broken.field-0 c.in-Broken.field-1 c.in-Broken.field-2 message asked (subst (RefusesTexts texts) c.in-Broken.is refuses))
    c.for_rule.ensures.status c.for_rule.ensures.why
