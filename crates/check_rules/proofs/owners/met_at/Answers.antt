use Rattle.std.proofs.{Common.◌≡◌, Common.refl, Common.ap, Common.◌∙◌, Common.rules, Common.true, Common.false, Common.is_some, lemmas.Option.slice_get_read}
use Rattle.std.specs.List.{list_all}
use Rattle.wit_model.specs.Parts.{kind_numbers, has_owner, met_by, met_of}
use Rattle.check_rules.specs.Owners.{stays, met_entry}
use Rattle.wit_model.proofs.{Checks.below_at, Owners.named_met, Owners.unnamed_met, Owners.all_same_below}
use Rattle.check_rules.proofs.owners.met_at.Goals as goal

pub returns-then-is_some : goal.returns-then-is_some
returns-then-is_some c =
    let r = c.args.resolve.now in
    let def = c.index-def.result.now in
    let at = slice_get_read r.types.items _ c.args.number def refl c.requires.in_range c.index-def.ensures in
    let named : is_some def.name ≡ true = search rules in
    λ o. named_met r c.requires.below c.args.number def at o named

pub returns : goal.returns
returns c =
    let r = c.args.resolve.now in
    let def = c.index-def.result.now in
    let table = c.args.table.now in
    let at = slice_get_read r.types.items _ c.args.number def refl c.requires.in_range c.index-def.ensures in
    let unnamed : is_some def.name ≡ false = search rules in
    let lent : c.deref.result.now ≡ kind_numbers def.kind = cc (c.in_ok-numbers.ensures) in
    λ o.
    c.met_by_all.ensures o ∙ (ap (list_all (λ n. stays (met_entry table n) o)) lent
    ∙ (all_same_below (λ n. stays (met_entry table n) o) (λ n. list_all (has_owner r o) (met_by (met_of r) n)) c.args.number (kind_numbers def.kind) (λ m low. c.requires.earlier m low o)
    (below_at r c.requires.below c.args.number def at) ∙ unnamed_met r c.requires.below c.args.number def at o unnamed))
