use Rattle.std.proofs.Common.{◌∙◌, refl, sym, ap, map, length, ◌<◌, ◌≤◌, rules}
use Rattle.std.specs.List.{list_any}
use Rattle.std.proofs.lemmas.Option.{slice_get_read, get_or_from_slice_get}
use Rattle.wit_model.specs.Rules.{same_package_name}
use Rattle.wit_model.proofs.Distinct.{new_turn, seen_turn, last_turn, not_is}
use Rattle.check_rules.proofs.PackageNames.{distinct_kept, repeated_breaks}
use Rattle.check_rules.proofs.names.check_distinct.Goals as goal
use Rattle.base_lemmas.proofs.Elements.{any_of_map as list_any_mapped}

pub returns-then-not-branch-clause-broken : goal.returns-then-not-branch-clause-broken
returns-then-not-branch-clause-broken c =
    let packages = c.args.resolve.now.packages.items in
    let ks = c.loop-number.seen.keys in
    let x = c.index.result.now in
    let below : c.loop-number.number < length packages = search rules in
    let at = slice_get_read packages _ c.loop-number.number x refl below c.index.ensures in
    let among = not_is (list_any (λ k. same_package_name x.name k.now) ks) _ (sym c.in_ok-insert.ensures.added ∙ c.if-not-branch.true) in
    repeated_breaks c.args.resolve.now c.loop-number.number x at (ap (list_any (same_package_name x.name)) (sym c.loop-number.invariant.seen)
    ∙ (list_any_mapped (same_package_name x.name) (λ k. k.now) ks ∙ among))

pub loop-number-preserved : goal.loop-number-preserved
loop-number-preserved c =
    let packages = c.args.resolve.now.packages.items in
    let number = c.loop-number.number in
    let ks = c.loop-number.seen.keys in
    let x = c.index.result.now in
    let below : number < length packages = search rules in
    let at = slice_get_read packages _ number x refl below c.index.ensures in
    let is = sym (get_or_from_slice_get packages number x x at) in
    record {
      seen = seen_turn same_package_name (λ p. p.name) (λ k. k.now) packages number x ks _ c.insert.new.self.keys c.in_ok-insert.field-0 below is refl c.in_ok-insert.ensures.added
          c.if-not-branch.false c.in_ok-insert.ensures.keys c.loop-number.invariant.seen;
      same = new_turn same_package_name (λ p. p.name) (λ k. k.now) packages number x ks _ c.insert.new.self.keys c.in_ok-insert.field-0 _ below is refl c.in_ok-insert.ensures.added
          c.if-not-branch.false c.in_ok-insert.ensures.keys c.loop-number.invariant.same;
    }

pub returns-clause-kept : goal.returns-clause-kept
returns-clause-kept c =
    let packages = c.args.resolve.now.packages.items in
    let past : length packages ≤ c.loop-number.number = search rules in
    distinct_kept c.args.resolve.now (sym c.loop-number.invariant.same ∙ last_turn same_package_name (λ p. p.name) packages c.loop-number.number (map (λ k. k.now) c.loop-number.seen.keys) past)
