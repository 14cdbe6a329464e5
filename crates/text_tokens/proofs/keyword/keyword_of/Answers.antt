use Rattle.std.proofs.Common.{◌≡◌, ◌∙◌, sym, ap, subst, drop}
use Rattle.std.specs.{Prelude.Some, List.slice_get, Option.option_copied}
use Rattle.print_grammar.specs.Keyword.{keyword_texts}
use Rattle.text_tokens.specs.Kinds.{entry_here, entry_in}
use Rattle.text_tokens.proofs.KeywordFacts.{entry_of-here}
use Rattle.text_tokens.proofs.KindFacts.{first_and_rest}
use Rattle.text_tokens.proofs.keyword.keyword_of.Goals as goal

pub returns-in-Some : goal.returns-in-Some
returns-in-Some c =
    let word = c.args.word.now in
    let first = c.in-Some.first.now in
    let at : slice_get word 0 ≡ Some first = sym c.first.ensures.value ∙ ap option_copied c.in-Some.is in
    let e = first_and_rest word first at in
    let same = subst (λ t. entry_in c.keywords_with.result.now t ≡ entry_here keyword_texts t) (sym e) (c.keywords_with.ensures (drop 1 word)) in
    c.entry_with.ensures ∙ same ∙ sym (entry_of-here keyword_texts word)
