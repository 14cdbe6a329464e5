use Rattle.std.proofs.{Common.◌≡◌, Common.◌∙◌, Common.sym, Common.subst, Common.true, Common.ℕ, lemmas.Option.slice_get_within}
use Rattle.std.specs.{Prelude.Vec, List.list_all}
use Rattle.std.specs.declared.alloc.Global.{Global}
use Rattle.wit_model.specs.declared.{error.Error.Error, error.Error.TheVariants.Memory, model.PackageId.PackageId}
use Rattle.wit_model.specs.Rules.{in_list}
use Rattle.wit_component.specs.DecodedWorlds.{RefusesWorldBytes}
use Rattle.witc_texts.specs.Printed.{IsTextOf}
use Rattle.witc_written.specs.Worlds.{PrintsWorld}
use Rattle.witc_written.proofs.{HomeLaws.others-in-range, WorldLaws.has-world, WorldLaws.no-memory}
use Rattle.base_lemmas.proofs.Options.{err_said, if_ok}
use Rattle.witc_written.proofs.worlds.world_text.Goals as goal

pub home_of-home-requires-clause-in_range : goal.home_of-home-requires-clause-in_range
home_of-home-requires-clause-in_range c =
    let is = c.in_ok-resolve.ensures.decoded in
    slice_get_within c.in_ok-resolve.resolve.worlds.items c.in_ok-resolve.world.0 is.world is.stands

pub text_of_package-requires-clause-nested : goal.text_of_package-requires-clause-nested
text_of_package-requires-clause-nested c =
    let r = c.in_ok-resolve.resolve in
    subst (λ ids. list_all (λ (id : PackageId). in_list r.packages.items id.0) ids ≡ true) (sym (c.deref.ensures.value ∙ c.in_ok-others.ensures)) (others-in-range r c.home_of-home.result.0)

pub returns-clause-printed : goal.returns-clause-printed
returns-clause-printed c =
    let r = c.in_ok-resolve.resolve in
    let home = c.home_of-home.result in
    if_ok (λ (text : Vec ℕ Global). IsTextOf r home c.deref.result.now text.items) (λ (text : Vec ℕ Global). PrintsWorld c.args.bytes.now text.items) (λ text is. record {
      resolve = r;
      home = home;
      has = has-world c.args.bytes.now r c.in_ok-resolve.world.0 home c.in_ok-resolve.ensures.decoded c.in_ok-resolve.ensures.order c.home_of-home.ensures.home;
      is_text = subst (λ ids. IsTextOf r home ids text.items) (c.deref.ensures.value ∙ c.in_ok-others.ensures) is;
    }) c.text_of_package.result c.text_of_package.ensures.text

pub returns-clause-refused : goal.returns-clause-refused
returns-clause-refused c = err_said (λ (e : Error). e ≡ Memory) (RefusesWorldBytes c.args.bytes.now) (no-memory c.args.bytes.now) c.text_of_package.result c.text_of_package.ensures.memory
