use Rattle.std.proofs.Common.{◌≡◌, sym, subst, ℕ, ◌+◌, ◌<◌, ◌≤◌, ◌∷◌, ◌++◌, [], length, rules}
use Rattle.wit_model.specs.{Uses.has, Uses.direct_deps, ItemOrders.entry_holds}
use Rattle.check_rules.proofs.UsesTable.{uses_all, uses_more}
use Rattle.check_rules.proofs.item_orders.uses_table.Goals as goal

pub loop-number-preserved : goal.loop-number-preserved
loop-number-preserved c =
    let r = c.args.resolve.now in
    let k = c.loop-number.number in
    let table = c.loop-number.table.items in
    let pushed : c.push.new.self.items ≡ table ++ c.in_ok-uses.uses ∷ [] = search rules in
    record {
      made = search rules;
      right = subst (λ xs. (n : ℕ) → n < k + 1 → (q : ℕ) → entry_holds xs n q ≡ has (direct_deps r n) q) (sym pushed)
          (uses_more r table c.in_ok-uses.uses k c.loop-number.invariant.made c.loop-number.invariant.right c.in_ok-uses.ensures);
    }

pub returns : goal.returns
returns c =
    let past : length c.args.resolve.now.interfaces.items ≤ c.loop-number.number = search rules in
    uses_all c.args.resolve.now c.loop-number.table.items c.loop-number.number c.loop-number.invariant.made past c.loop-number.invariant.right
