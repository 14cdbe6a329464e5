use Rattle.std.proofs.Common.{[], ◌∷◌}
use Rattle.compat_meaning.specs.Compatible.{bare_keys, HasKeysOnce, IsFirstRepeat, IsRepeatedIn}
use Rattle.std.specs.List.{IsDistinct}
use Rattle.wit_model.specs.Text.{text_eq}
use Rattle.compat_meaning.proofs.Repeating.{given, none_given, ok_either_way, one_once, repeated_behind, repeated_first}
use Rattle.compat_meaning.proofs.repeats.repeated_in_world.Goals as goal

pub returns-in-Some : goal.returns-in-Some
returns-in-Some c =
    let imports = bare_keys c.args.resolve.now c.args.world.now.imports.entries in
    repeated_first imports (bare_keys c.args.resolve.now c.args.world.now.exports.entries ∷ []) c.in-Some.key.now
    (given (IsDistinct text_eq imports) (λ s. IsFirstRepeat imports s.now) c.in_ok-key.field-0 c.in-Some.key c.in_ok-key.ensures c.in-Some.is)

pub returns-in-None : goal.returns-in-None
returns-in-None c =
    let r = c.args.resolve.now in
    let w = c.args.world.now in
    let imports = bare_keys r w.imports.entries in
    let exports = bare_keys r w.exports.entries in
    let once = none_given (IsDistinct text_eq imports) (λ s. IsFirstRepeat imports s.now) c.in_ok-key.field-0 c.in_ok-key.ensures c.in-None.is in
    ok_either_way (IsDistinct text_eq exports) (HasKeysOnce r w) (λ s. IsFirstRepeat exports s.now) (λ s. IsRepeatedIn (imports ∷ exports ∷ []) s.now) c.repeated_key-in-None.result
    (λ d. record { imports = once; exports = d }) (λ s f. repeated_behind (imports ∷ []) (exports ∷ []) s.now (one_once imports once) (repeated_first exports [] s.now f))
    c.repeated_key-in-None.ensures
