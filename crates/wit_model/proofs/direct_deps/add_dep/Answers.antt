use Rattle.std.proofs.Common.{◌≡◌, sym, ap, ◌∙◌, ◌++◌, ◌==◌, [], ◌∷◌, true, false, map, option_map, rules}
use Rattle.std.specs.List.{cons_option}
use Rattle.wit_model.specs.{ItemOrders.holds, DirectDeps.number_of_interface, DirectDeps.yet_unlisted}
use Rattle.wit_model.proofs.Deps.{own_skipped, listed_skipped, new_listed, pushed_first}
use Rattle.wit_model.proofs.direct_deps.add_dep.Goals as goal

pub returns-then-used-own : goal.returns-then-used-own
returns-then-used-own c =
    let own = c.args.own.0 in
    let held = holds c.args.listed.now in
    let same : (c.in-Some.used.0 == own) ≡ true = search rules in
    λ rest.
    ap (λ ns. map number_of_interface c.args.deps.now.items ++ ns)
    (own_skipped own held c.in-Some.used.0 same rest ∙ ap (λ o. yet_unlisted own held (cons_option (option_map number_of_interface o) rest)) (sym c.in-Some.is))

pub returns-then-not-branch : goal.returns-then-not-branch
returns-then-not-branch c =
    let own = c.args.own.0 in
    let held = holds c.args.listed.now in
    let there : held c.in-Some.used.0 ≡ true = search rules in
    λ rest.
    ap (λ ns. map number_of_interface c.args.deps.now.items ++ ns) (listed_skipped own held c.in-Some.used.0 (holds c.mark.new.listed) there c.in_ok-mark.ensures.marked rest
    ∙ ap (λ o. yet_unlisted own held (cons_option (option_map number_of_interface o) rest)) (sym c.in-Some.is))

pub returns : goal.returns
returns c =
    let own = c.args.own.0 in
    let held = holds c.args.listed.now in
    let deps = c.args.deps.now.items in
    let used = c.in-Some.used in
    let other : (used.0 == own) ≡ false = search rules in
    let fresh : held used.0 ≡ false = search rules in
    let pushed : c.push.new.self.items ≡ deps ++ used ∷ [] = search rules in
    λ rest.
    ap (λ ds. map number_of_interface ds ++ yet_unlisted own (holds c.mark.new.listed) rest) pushed
    ∙ (pushed_first deps used (yet_unlisted own (holds c.mark.new.listed) rest)
    ∙ ap (λ ns. map number_of_interface deps ++ ns) (new_listed own held used.0 (holds c.mark.new.listed) other fresh c.in_ok-mark.ensures.marked rest
    ∙ ap (λ o. yet_unlisted own held (cons_option (option_map number_of_interface o) rest)) (sym c.in-Some.is)))
