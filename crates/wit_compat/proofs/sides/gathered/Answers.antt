use Rattle.std.proofs.Common.{sym, subst}
use Rattle.compat_meaning.specs.{Numbered.AllNumbersTell}
use Rattle.wit_compat.specs.{Index.ComeFrom}
use Rattle.compat_meaning.proofs.{Numbering.all_tell}
use Rattle.wit_compat.proofs.{Indexing.told_from}
use Rattle.wit_compat.proofs.sides.gathered.Goals as goal

pub index-requires : goal.index-requires
index-requires c =
    let others = c.in_ok-others.others.items in
    subst (λ es. AllNumbersTell es es) (sym c.deref.ensures.value) (all_tell c.things-2.new.keys.keys others others c.in_ok-others.ensures.numbered c.in_ok-others.ensures.numbered)

pub returns-clause-told : goal.returns-clause-told
returns-clause-told c =
    let entries = c.in_ok-entries.entries.items in
    let others = c.in_ok-others.others.items in
    told_from entries others c.in_ok-found.found.entries (all_tell c.things-2.new.keys.keys entries others (λ e x. c.in_ok-others.ensures.kept _ _ (c.in_ok-entries.ensures.numbered e x))
    c.in_ok-others.ensures.numbered) (subst (ComeFrom c.in_ok-found.found.entries) c.deref.ensures.value c.in_ok-found.ensures.from)
