use Rattle.std.proofs.Common.{◌≡◌, sym, ap, subst, ◌∙◌, ◌≤◌, ◌<◌, ◌+◌, ℕ, [], ◌∷◌, ◌++◌, length, rules, arith}
use Rattle.wit_model.specs.Checks.{entry_of, reach_of, highest, rank_of}
use Rattle.wit_model.proofs.{Checks.below_or_past, Checks.entries_more, Checks.entries_past, Owners.nothing_past}
use Rattle.check_rules.proofs.list_orders.reach_table.Goals as goal

pub loop-number-preserved : goal.loop-number-preserved
loop-number-preserved c =
    let r = c.args.resolve.now in
    let k = c.loop-number.number in
    let table = c.loop-number.table.items in
    let fresh : c.in_ok-reach.reach ≡ reach_of r k = c.in_ok-reach.ensures in
    let pushed : c.push.new.self.items ≡ table ++ c.in_ok-reach.reach ∷ [] = search rules in
    record {
      made = search rules;
      right = subst (λ xs. (n : ℕ) → n < k + 1 → entry_of xs n ≡ reach_of r n) (sym pushed)
          (entries_more (reach_of r) table c.in_ok-reach.reach k c.loop-number.invariant.made c.loop-number.invariant.right fresh);
    }

pub returns : goal.returns
returns c =
    let r = c.args.resolve.now in
    let table = c.loop-number.table.items in
    let past : length r.types.items ≤ c.loop-number.number = search rules in
    λ n. below_or_past (λ m. entry_of table m ≡ reach_of r m) c.loop-number.number c.loop-number.invariant.right
    (λ m h. entries_past table m (omega (arith, h, c.loop-number.invariant.made)) ∙ sym (ap (highest (rank_of r)) (nothing_past r m (omega (arith, past, h))))) n
