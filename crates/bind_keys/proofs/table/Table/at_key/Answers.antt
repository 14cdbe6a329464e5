use Rattle.std.proofs.Common.{◌≡◌, sym, ap, subst, ◌∙◌, ℕ, Option, Some, option_and_then, slice_get}
use Rattle.wit_model.specs.Text.{Text, text_of, text_eq}
use Rattle.bind_keys.specs.{Cuts.has_slash, Cuts.text_under, Encodings.encoding_at, Tables.front_text, Tables.IsFront, Tables.number_at}
use Rattle.bind_keys.proofs.{TableKeys.front_there, TableMeet.number_there}
use Rattle.bind_keys.proofs.table.Table.at_key.Goals as goal

pub returns-in-Some : goal.returns-in-Some
returns-in-Some c = λ gs numbers proper.
    let m = c.in-Some.place in
    let name : Text = text_of c.args.key.now.name in
    let fs = c.args.self.now.fronts in
    let front : IsFront gs (Some m) name = subst (λ (o : Option ℕ). IsFront gs o name) c.in-Some.is proper.1 in
    let text = front.0 in
    let number : c.number_in.result ≡ number_at fs text = c.number_in.ensures ∙ ap (λ o. option_and_then (λ n. n) o) (ap (λ ns. slice_get ns m) numbers ∙ number_there fs gs text m front.1) in
    let is : c.as_str-name.result.now ≡ name = c.as_str-name.ensures.value in
    c.at_number.ensures text number (ap (text_eq text) is ∙ front.2) (ap has_slash is ∙ proper.0)
    ∙ ((λ i. encoding_at c.args.self.now.encodings (text_under (sym (front_there gs text name m front.1) i) (is i)))
    ∙ ap (λ o. encoding_at c.args.self.now.encodings (text_under (front_text gs o name) name)) (sym c.in-Some.is))
