use Rattle.std.proofs.Common.{rules, ap, ◌∙◌, ◌≡◌, None}
use Rattle.indexmap.proofs.CallerLemmas.{insert_entry-new}
use Rattle.bind_match.proofs.SameNames.{absent}
use Rattle.bind_names.specs.Named.{found_by}
use Rattle.bind_names.proofs.Names.{copy_behind, gained, lacking, stayed}
use Rattle.bind_names.proofs.named.add_package.Goals.{then-not-contains_key+in_ok-copy+in_ok-insert, else-not-contains_key}
use Rattle.bind_names.proofs.named.add_package.Goals as goal

pub returns-clause-gains : goal.returns-clause-gains
returns-clause-gains c = elim c.if-not-contains_key.branch [
  | then-not-contains_key+in_ok-copy+in_ok-insert w ↦ λ x.
      let old = c.args.named.now in
      let name = c.args.name.now in
      let copy = w.in_ok-copy.copy in
      let none : found_by old name ≡ None = absent c.contains_key.result (found_by old name) (search rules) c.contains_key.ensures in
      let none_of_copy : found_by old copy ≡ None = lacking name copy old w.in_ok-copy.ensures.name none in
      ap (λ t. found_by t x) w.named-is ∙ gained x name copy c.args.id old w.insert.new.self (copy_behind x name copy w.in_ok-copy.ensures.name)
      (w.in_ok-insert.ensures.entries ∙ insert_entry-new _ old copy c.args.id none_of_copy)
  | else-not-contains_key w ↦ λ x. ap (λ t. found_by t x) w.named-is ∙ stayed x c.args.name.now c.args.id c.args.named.now (w.if-not-contains_key.ensures)
]
