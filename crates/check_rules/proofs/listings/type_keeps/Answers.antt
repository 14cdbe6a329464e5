use Rattle.std.proofs.{Common.refl, Common.sym, Common.ap, Common.◌∙◌, lemmas.Option.slice_get_read}
use Rattle.std.specs.Option.{option_map_or}
use Rattle.wit_model.specs.{Text.text_of, Rules.is_listed, Parts.same_owner, Checks.listings}
use Rattle.wit_model.proofs.Listings.{listed_found}
use Rattle.wit_model.specs.declared.model.TypeOwner.TheVariants as owner
use Rattle.check_rules.proofs.Found.{said}
use Rattle.check_rules.proofs.listings.type_keeps.Goals as goal

pub returns-in_ok-found-in-Some : goal.returns-in_ok-found-in-Some
unfolding listings
returns-in_ok-found-in-Some c =
    let r = c.args.resolve.now in
    let def = c.index-def.result.now in
    let at = slice_get_read r.types.items _ c.args.number def refl c.requires.in_range c.index-def.ensures in
    said (listings.type_ r) _ _ _ _ c.requires.in_range c.index-def.ensures
    (c.in_ok-found-in-Some.ensures ∙ (listed_found r c.args.number def c.in-Some.name at c.in-Some.is c.requires.distinct c.requires.fit def.owner
    ∙ sym (ap (λ o. option_map_or (λ name. is_listed r c.args.number (text_of name) def.owner) o (same_owner def.owner owner.None)) c.in-Some.is)))

pub returns-in-None : goal.returns-in-None
unfolding listings
returns-in-None c =
    let r = c.args.resolve.now in
    let def = c.index-def.result.now in
    said (listings.type_ r) _ _ _ _ c.requires.in_range c.index-def.ensures
    (c.same_owner.ensures ∙ sym (ap (λ o. option_map_or (λ name. is_listed r c.args.number (text_of name) def.owner) o (same_owner def.owner owner.None)) c.in-None.is))
