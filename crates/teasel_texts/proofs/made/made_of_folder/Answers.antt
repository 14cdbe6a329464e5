use Rattle.std.proofs.Common.{◌≡◌, ◌∙◌, ◌++◌, ap, subst, length, false, rules, List, ℕ}
use Rattle.std.specs.List.{list_any}
use Rattle.base_lemmas.proofs.Options.{if_ok}
use Rattle.witc_read.specs.Packages.{bytes_of}
use Rattle.teasel_texts.specs.Made.{IsFolderTaken, IsFolderTaken.for_texts, IsMade, bytes_in, is_foreign}
use Rattle.teasel_texts.proofs.made.made_of_folder.Goals as goal

pub returns : goal.returns
returns c =
    let folder = c.args.folder in
    let none : list_any is_foreign (folder.own.items ++ folder.used.items) ≡ false = search rules in
    let texts : bytes_of c.deref-2.result.now ≡ bytes_in folder.own.items ++ bytes_in folder.used.items = ap bytes_of c.deref-2.ensures.value ∙ c.in_ok-named.ensures in
    let own : c.len.result ≡ length folder.own.items = c.len.ensures ∙ folder.own.ok.0 in
    if_ok (IsMade (bytes_of c.deref-2.result.now) c.len.result) (IsFolderTaken folder)
    (λ taken made. for_texts none (subst (λ (n : ℕ). IsMade (bytes_in folder.own.items ++ bytes_in folder.used.items) n taken) own
    (subst (λ (ts : List (List ℕ)). IsMade ts c.len.result taken) texts made))) c.made_of.result c.made_of.ensures
