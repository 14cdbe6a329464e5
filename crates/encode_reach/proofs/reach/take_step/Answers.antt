use Rattle.std.proofs.Common.{rules, ◌≡◌, ap, sym, subst, ◌∙◌, true, false, nat_eq, ◌++◌, ◌∷◌, [], map}
use Rattle.indexmap.specs.IndexSet.{insert_key}
use Rattle.wit_model.specs.declared.model.InterfaceId.{InterfaceId}
use Rattle.wit_model.specs.Uses.{has, direct_deps}
use Rattle.encode_reach.specs.Walk.{IsDone, visits}
use Rattle.encode_reach.specs.declared.reach.Step.TheVariants as step
use Rattle.encode_reach.proofs.Steps.{inserted, skipped, appended, visited}
use Rattle.encode_reach.proofs.reach.take_step.Goals as goal
use Rattle.encode_reach.proofs.reach.take_step.Goals.{in-Append+in_ok-insert-in-Append, in-Visit+else-contains+in_ok-used-in-Visit+in_ok-push-in-Visit+in_ok-push_visits-in-Visit}
use Rattle.wit_model.proofs.UsesLemmas.{any_is_has as held}

pub returns-then-contains-clause-done : goal.returns-then-contains-clause-done
returns-then-contains-clause-done c =
    let listed = c.args.listed.now.keys in
    let steps = c.args.steps.now.items in
    let there : has listed c.in-Visit.interface ≡ true = sym (held listed c.in-Visit.interface) ∙ (sym c.contains.ensures ∙ c.if-contains.true) in
    subst (λ s. IsDone c.args.resolve.now s steps steps listed listed) (sym c.in-Visit.is) (skipped c.args.resolve.now c.in-Visit.interface steps listed there)

pub returns-clause-done : goal.returns-clause-done
returns-clause-done c =
    let r = c.args.resolve.now in
    let listed = c.args.listed.now.keys in
    let steps = c.args.steps.now.items in
    elim c.match-step.branch [
      | in-Append+in_ok-insert-in-Append w ↦
          let keys : c.match-step.listed.keys ≡ insert_key nat_eq listed w.in-Append.interface = search rules in
          let same : c.match-step.steps.items ≡ steps = ap (λ v. v.items) w.steps-is in
          subst (λ s. IsDone r s steps c.match-step.steps.items listed c.match-step.listed.keys) (sym w.in-Append.is)
          (subst (λ new. IsDone r (step.Append w.in-Append.interface) steps new listed c.match-step.listed.keys) (sym same)
          (appended r w.in-Append.interface steps listed c.match-step.listed.keys (keys ∙ inserted listed w.in-Append.interface)))
      | in-Visit+else-contains+in_ok-used-in-Visit+in_ok-push-in-Visit+in_ok-push_visits-in-Visit w ↦
          let n = w.in-Visit.interface in
          let used = w.in_ok-used-in-Visit.used.items in
          let fresh : has listed n ≡ false = sym (held listed n) ∙ (sym w.contains.ensures ∙ w.if-contains.false) in
          let uses : map (λ (i : InterfaceId). i.0) used ≡ direct_deps r n = search rules in
          let new : c.match-step.steps.items ≡ (steps ++ step.Append n ∷ []) ++ visits used = search rules in
          let same : c.match-step.listed.keys ≡ listed = ap (λ s. s.keys) w.listed-is in
          subst (λ s. IsDone r s steps c.match-step.steps.items listed c.match-step.listed.keys) (sym w.in-Visit.is)
          (subst (λ l. IsDone r (step.Visit n) steps c.match-step.steps.items listed l) (sym same) (visited r c.requires n steps c.match-step.steps.items listed used fresh uses new))
    ]
