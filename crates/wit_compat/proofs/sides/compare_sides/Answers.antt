use Rattle.std.proofs.Common.{◌≡◌, ap, subst, ◌∙◌, ◌++◌, List, map}
use Rattle.std.proofs.lemmas.Result.{on_ok_weaker as ok_then, IfErr-weaker}
use Rattle.compat_meaning.specs.{Compatible.IsFaultOf, Compatible.IsIncluded, Flat.all_shown, Flat.things_of, Parts.named_thing, Table.AreAmong, Table.AreReached, Walk.Pair, Walk.pairs_shared}
use Rattle.wit_compat.specs.Index.{indexed}
use Rattle.wit_compat.proofs.Matching.{entries_in_range_by, fault_alike, found_in_range, included_alike, pairs_alike}
use Rattle.wit_compat.proofs.Signatures.{reached_none}
use Rattle.compat_meaning.proofs.Validity.{layered, things_in_range}
use Rattle.wit_compat.proofs.sides.compare_sides.Goals as goal

pub included-requires-clause-layered : goal.included-requires-clause-layered
included-requires-clause-layered c = layered c.args.resolve.now c.requires.valid

pub included-requires-clause-small : goal.included-requires-clause-small
included-requires-clause-small c =
    let r = c.args.resolve.now in
    entries_in_range_by r c.deref.result.now (things_of r c.args.small.now.entries) (ap (map named_thing) c.deref.ensures.value ∙ c.in-Ok.ensures.small)
    (things_in_range r c.requires.valid c.args.small.now.entries c.requires.small)

pub included-requires-clause-large : goal.included-requires-clause-large
included-requires-clause-large c =
    let r = c.args.resolve.now in
    found_in_range r (indexed c.in-Ok.found.entries) (things_of r c.args.large.now.entries) c.in-Ok.ensures.large (things_in_range r c.requires.valid c.args.large.now.entries c.requires.large)

pub returns-in-Ok-clause-includes : goal.returns-in-Ok-clause-includes
returns-in-Ok-clause-includes c =
    let r = c.args.resolve.now in
    let large = things_of r c.args.large.now.entries in
    let is : map named_thing c.deref.result.now ≡ things_of r c.args.small.now.entries = ap (map named_thing) c.deref.ensures.value ∙ c.in-Ok.ensures.small in
    ok_then c.included.result (λ i. subst (λ xs. IsIncluded (all_shown r xs) (all_shown r large)) is
    (included_alike r (indexed c.in-Ok.found.entries) large c.in-Ok.ensures.large (all_shown r (map named_thing c.deref.result.now)) i)) c.included.ensures.includes

pub returns-in-Ok-clause-refuses : goal.returns-in-Ok-clause-refuses
returns-in-Ok-clause-refuses c =
    let r = c.args.resolve.now in
    let large = things_of r c.args.large.now.entries in
    let is : map named_thing c.deref.result.now ≡ things_of r c.args.small.now.entries = ap (map named_thing) c.deref.ensures.value ∙ c.in-Ok.ensures.small in
    IfErr-weaker c.included.result _ _ (λ e i. subst (λ xs. IsFaultOf (all_shown r xs) (all_shown r large) e) is
    (fault_alike r (indexed c.in-Ok.found.entries) large c.in-Ok.ensures.large (all_shown r (map named_thing c.deref.result.now)) e i)) c.included.ensures.refuses

pub returns-in-Ok-clause-holds : goal.returns-in-Ok-clause-holds
returns-in-Ok-clause-holds c =
    let r = c.args.resolve.now in
    let found = indexed c.in-Ok.found.entries in
    let small = things_of r c.args.small.now.entries in
    let is : map named_thing c.deref.result.now ≡ small = ap (map named_thing) c.deref.ensures.value ∙ c.in-Ok.ensures.small in
    let ps = ap (λ xs. pairs_shared r c.args.back xs found) is ∙ pairs_alike r found (things_of r c.args.large.now.entries) c.in-Ok.ensures.large c.args.back small in
    ok_then c.included.result (λ i. subst (λ (x : List Pair). AreAmong x c.included.new.pairs.keys) ps i) c.included.ensures.holds

pub returns-in-Ok-clause-reached : goal.returns-in-Ok-clause-reached
returns-in-Ok-clause-reached c =
    let r = c.args.resolve.now in
    let found = indexed c.in-Ok.found.entries in
    let small = things_of r c.args.small.now.entries in
    let is : map named_thing c.deref.result.now ≡ small = ap (map named_thing) c.deref.ensures.value ∙ c.in-Ok.ensures.small in
    let ps = ap (λ xs. pairs_shared r c.args.back xs found) is ∙ pairs_alike r found (things_of r c.args.large.now.entries) c.in-Ok.ensures.large c.args.back small in
    subst (λ (x : List Pair). AreReached r (c.args.pairs.now.keys ++ x) c.included.new.pairs.keys) ps c.included.ensures.reached

pub returns-in-Err-clause-reached : goal.returns-in-Err-clause-reached
returns-in-Err-clause-reached c =
    let r = c.args.resolve.now in
    reached_none r c.args.pairs.now.keys (pairs_shared r c.args.back (things_of r c.args.small.now.entries) (things_of r c.args.large.now.entries))
