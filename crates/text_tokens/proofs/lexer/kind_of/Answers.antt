use Rattle.std.proofs.Common.{◌≡◌, ◌∙◌, sym, ap, true}
use Rattle.std.specs.{Prelude.Some, List.slice_get, Option.option_copied, Char.is_ascii_alphabetic}
use Rattle.text_tokens.proofs.KindFacts.{word_kind_at}
use Rattle.text_tokens.proofs.lexer.kind_of.Goals as goal

pub returns-then-is_ascii_alphabetic : goal.returns-then-is_ascii_alphabetic
returns-then-is_ascii_alphabetic c = λ token e.
    let text = c.args.text.now in
    let first = c.in-Some.first.now in
    let at : slice_get text 0 ≡ Some first = sym c.first.ensures.value ∙ ap option_copied c.in-Some.is in
    let letter : is_ascii_alphabetic first ≡ true = sym c.is_ascii_alphabetic.ensures.value ∙ c.if-is_ascii_alphabetic.true in
    c.word_kind.ensures ∙ word_kind_at text first token at letter e
