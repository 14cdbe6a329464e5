use Rattle.std.proofs.Common.{◌≡◌, ◌∙◌, sym, ap, subst, drop}
use Rattle.std.specs.{Prelude.Some, List.list_any, List.slice_get, Option.option_copied}
use Rattle.wit_model.specs.Text.{text_eq}
use Rattle.print_grammar.specs.Keyword.{keyword_texts}
use Rattle.print_grammar.proofs.Keywords.{is_entry, first_and_rest}
use Rattle.print_grammar.proofs.escape.is_keyword.Goals as goal

pub returns-in-Some : goal.returns-in-Some
returns-in-Some c =
    let word = c.args.word.now in
    let first = c.in-Some.first.now in
    let at : slice_get word 0 ≡ Some first = subst (λ t. slice_get t 0 ≡ Some first) c.as_bytes.ensures.value (sym c.first.ensures.value ∙ ap option_copied c.in-Some.is) in
    let e = first_and_rest word first at in
    let same = subst (λ t. list_any (λ w. text_eq w.now t) c.keywords_with.result.now ≡ list_any (λ entry. text_eq entry.0 t) keyword_texts) (sym e) (c.keywords_with.ensures (drop 1 word)) in
    c.is_among.ensures ∙ same ∙ sym (is_entry keyword_texts word)
