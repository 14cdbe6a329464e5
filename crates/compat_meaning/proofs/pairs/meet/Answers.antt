use Rattle.std.proofs.Common.{rules, inr, ◌≡◌, sym, subst}
use Rattle.std.specs.List.{Contains}
use Rattle.indexmap.proofs.CallerLemmas.{Contains-insert_key}
use Rattle.compat_meaning.proofs.Growing.{same_pair}
use Rattle.compat_meaning.proofs.pairs.meet.Goals as goal

pub returns-in_ok-insert-in-Some-number_of-clause-joined : goal.returns-in_ok-insert-in-Some-number_of-clause-joined
returns-in_ok-insert-in-Some-number_of-clause-joined c =
    let k : c.insert.new.self.keys ≡ _ = c.in_ok-insert-in-Some-number_of.ensures.keys in
    λ e. inr (
      c.in-Some.a,
      c.in-Some-number_of.b,
      search rules,
      search rules,
      subst (λ ks. Contains ks (c.in-Some.a, c.in-Some-number_of.b)) (sym k) (Contains-insert_key _ same_pair _ (c.in-Some.a, c.in-Some-number_of.b)),
    )
