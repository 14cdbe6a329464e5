use Rattle.std.proofs.Common.{◌≡◌, ◌∙◌, sym, ap, refl, Some, ◌<◌, length, subst, arith, rules}
use Rattle.std.proofs.lemmas.{Option.slice_get_read, Option.same_Some as some-same, Result.IfOk-weaker}
use Rattle.wit_model.specs.{Text.text_of, Text.Text, Names.path_in, Lookup.identity_of, Lookup.world_at}
use Rattle.wit_model.specs.declared.model.World.{World}
use Rattle.encode_shown.specs.PackageTypes.{wrapper}
use Rattle.wit_encode.specs.Packages.{WrapsWorld}
use Rattle.wit_encode.proofs.Packages.{world-passed}
use Rattle.wit_encode.proofs.package.wrapped_world.Goals as goal

pub returns-in_err-component-clause-refuses : goal.returns-in_err-component-clause-refuses
returns-in_err-component-clause-refuses c =
    world-passed c.args.resolve.now c.args.world.0 c.args.canonical_names c.in_err-component.field-0.0 c.from_residual.result c.in_err-component.ensures.refuses c.from_residual.ensures.1

pub returns : goal.returns
returns c =
    let p = identity_of c.args.package.now in
    record {
      wraps =
          let r = c.args.resolve.now in
          let inner = c.in_ok-component.component in
          let at : world_at r c.args.world.0 ≡ Some c.index.result.now = slice_get_read _ _ _ _ refl c.requires.in_range c.index.ensures in
          IfOk-weaker c.wrapper_of.result (λ wrapped. wrapped ≡ wrapper (path_in p c.deref.result.now) inner)
          (λ declared. (w : World) → world_at r c.args.world.0 ≡ Some w → WrapsWorld r c.args.canonical_names p c.args.world.0 w declared) (λ declared is w there. record {
            inner = inner;
            is = is ∙ ap (λ t. wrapper (path_in p t) inner) (c.deref.ensures ∙ ap (λ (z : World). text_of z.name) (some-same c.index.result.now w (sym at ∙ there)));
            shows = c.in_ok-component.ensures.shows w there;
            names = c.in_ok-component.ensures.names w there;
            once = c.in_ok-component.ensures.once w there;
            light = c.in_ok-component.ensures.light;
          }) c.wrapper_of.ensures.wraps;
      differ = search rules;
      size = λ h w there.
          let at : world_at c.args.resolve.now c.args.world.0 ≡ Some c.index.result.now = slice_get_read _ _ _ _ refl c.requires.in_range c.index.ensures in
          let long : 4294967295 < length (path_in p (text_of w.name)) = subst (λ (t : Text). 4294967295 < length (path_in p t))
          (c.deref.ensures ∙ ap (λ (z : World). text_of z.name) (some-same c.index.result.now w (sym at ∙ there))) (c.wrapper_of.ensures.size h) in
          omega arith;
      refuses = search rules;
    }

pub returns-in_err-component-clause-size : goal.returns-in_err-component-clause-size
returns-in_err-component-clause-size c = λ h w there. omega (arith, c.encode_world.ensures.size (search rules))
