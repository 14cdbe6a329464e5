use Rattle.std.proofs.Common.{rules, ◌≡◌, sym, ap, ◌∙◌, Some, option_map}
use Rattle.bind_keys.specs.{Keys.scope_of, Keys.text_under, Encodings.encoding_at, Encodings.encoding_under}
use Rattle.wit_bind.proofs.encodings.EncodingMap.get.Goals as goal

pub returns-in-Some : goal.returns-in-Some
returns-in-Some c =
    let m = c.args.self.now in
    let function = c.args.func.now in
    let scope : scope_of c.args.resolve.now c.args.key.now ≡ Some c.in-Some.front.bytes = search rules in
    c.at.ensures ∙ ap (λ m. encoding_at m (text_under c.as_str.result.now function)) c.self.view_is ∙ ap (λ t. encoding_at m (text_under t function)) c.as_str.ensures.value
    ∙ ap (λ o. encoding_under m (option_map (λ t. text_under t function) o)) (sym scope)
