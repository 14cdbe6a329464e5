use Rattle.std.proofs.{Common.◌≡◌, Common.◌∙◌, Common.sym, Common.subst, Common.true, lemmas.Option.slice_get_within}
use Rattle.std.specs.List.{list_all}
use Rattle.wit_model.specs.declared.{error.Error.Error, error.Error.TheVariants.Memory, model.PackageId.PackageId}
use Rattle.wit_model.specs.Rules.{in_list}
use Rattle.wit_component.specs.DecodedWorlds.{RefusesWorldBytes}
use Rattle.witc_texts.specs.Printed.{IsTextOf}
use Rattle.witc_written.specs.Worlds.{PrintsWorld}
use Rattle.witc_written.proofs.{HomeLaws.others-in-range, WorldLaws.has-world, WorldLaws.no-memory}
use Rattle.base_lemmas.proofs.Options.{err_said, if_ok}
use Rattle.witc_within.specs.Within.{TextWithin}
use Rattle.witc_within.proofs.WithinLaws.{lifted}
use Rattle.witc_within.proofs.texts.world_text_within.Goals as goal

pub home_of-home-requires-clause-in_range : goal.home_of-home-requires-clause-in_range
home_of-home-requires-clause-in_range c =
    let is = c.in_ok-resolve.ensures.decoded in
    slice_get_within c.in_ok-resolve.resolve.worlds.items c.in_ok-resolve.world.0 is.world is.stands

pub text_within-requires-clause-nested : goal.text_within-requires-clause-nested
text_within-requires-clause-nested c =
    let r = c.in_ok-resolve.resolve in
    subst (λ ids. list_all (λ (id : PackageId). in_list r.packages.items id.0) ids ≡ true) (sym (c.deref.ensures.value ∙ c.in_ok-others.ensures)) (others-in-range r c.home_of-home.result.0)

pub returns-clause-within : goal.returns-clause-within
returns-clause-within c =
    let r = c.in_ok-resolve.resolve in
    let home = c.home_of-home.result in
    let most = c.args.most in
    if_ok (TextWithin (IsTextOf r home c.deref.result.now) most) (TextWithin (PrintsWorld c.args.bytes.now) most)
    (λ w within. lifted (IsTextOf r home c.deref.result.now) (PrintsWorld c.args.bytes.now) (λ text is. record {
      resolve = r;
      home = home;
      has = has-world c.args.bytes.now r c.in_ok-resolve.world.0 home c.in_ok-resolve.ensures.decoded c.in_ok-resolve.ensures.order c.home_of-home.ensures.home;
      is_text = subst (λ ids. IsTextOf r home ids text) (c.deref.ensures.value ∙ c.in_ok-others.ensures) is;
    }) most w within)
    c.text_within.result c.text_within.ensures.within

pub returns-clause-refused : goal.returns-clause-refused
returns-clause-refused c = err_said (λ (e : Error). e ≡ Memory) (RefusesWorldBytes c.args.bytes.now) (no-memory c.args.bytes.now) c.text_within.result c.text_within.ensures.memory
