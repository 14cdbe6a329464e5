use Rattle.std.proofs.Common.{rules, ◌≡◌, sym, ◌∙◌, ◌↔◌, false, true, IsTrue}
use Rattle.wit_model.specs.Text.{text_of}
use Rattle.compat_meaning.proofs.Sided.{one_home, other_homes}
use Rattle.compat_meaning.proofs.side.same_paths.Goals as goal

pub returns-then-not-same_homes : goal.returns-then-not-same_homes
returns-then-not-same_homes c =
    let differ : c.same_homes.result ≡ false = search rules in
    other_homes c.args.a.now c.args.b.now c.requires.a c.requires.b c.same_homes.result c.same_homes.ensures differ

pub returns : goal.returns
returns c =
    let equal : c.same_homes.result ≡ true = search rules in
    let left = c.as_str.ensures.value in
    let right = c.as_str-2.ensures.value in
    let texts : IsTrue c.same_texts.result ↔ (text_of c.args.a.now.name.now ≡ text_of c.args.b.now.name.now) =
    (λ t. sym left ∙ c.same_texts.ensures.0 t ∙ right, λ same. c.same_texts.ensures.1 (left ∙ same ∙ sym right)) in
    one_home c.args.a.now c.args.b.now c.requires.a c.requires.b c.same_homes.result c.same_homes.ensures equal c.same_texts.result texts
