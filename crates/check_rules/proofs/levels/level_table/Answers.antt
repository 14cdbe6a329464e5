use Rattle.std.proofs.Common.{◌≡◌, refl, sym, ap, subst, ◌∙◌, ◌≤◌, ◌<◌, ◌+◌, length, rules, arith, ℕ, [], ◌∷◌, ◌++◌, min}
use Rattle.std.proofs.lemmas.Option.{slice_get_read}
use Rattle.wit_model.specs.{Checks.entry_of, Checks.capped_levels, Tree.levels, Types.number_tree}
use Rattle.wit_model.proofs.Checks.{below_at, entries_more, entries_past, below_or_past}
use Rattle.check_rules.proofs.LevelTable.{levels_same, levels_step, no_levels}
use Rattle.check_rules.proofs.levels.level_table.Goals as goal

pub loop-def-preserved : goal.loop-def-preserved
loop-def-preserved c =
    let r = c.args.resolve.now in
    let k = c.loop-def.def-index in
    let f : ℕ → ℕ = λ n. min 101 (levels (number_tree r n)) in
    let table = c.loop-def.table.items in
    let inside : k < length r.types.items = search rules in
    let at = slice_get_read r.types.items _ k c.def-item.result refl inside (search rules) in
    let same = levels_same (entry_of table) f k c.def-item.result c.loop-def.invariant.right (below_at r c.requires k c.def-item.result at) in
    let lent : c.deref.result.now ≡ table = search rules in
    let fresh : c.in_ok-levels.levels ≡ f k = c.in_ok-levels.ensures
    ∙ (ap (λ t. capped_levels (entry_of t) c.def-item.result) lent ∙ (same ∙ sym (levels_step r c.requires k c.def-item.result at)))
    in
    let pushed : c.push.new.self.items ≡ table ++ c.in_ok-levels.levels ∷ [] = search rules in
    record {
      made = search rules;
      right = subst (λ xs. (n : ℕ) → n < k + 1 → entry_of xs n ≡ f n) (sym pushed) (entries_more f table c.in_ok-levels.levels k c.loop-def.invariant.made c.loop-def.invariant.right fresh);
    }

pub returns : goal.returns
returns c =
    let r = c.args.resolve.now in
    let past : length r.types.items ≤ c.loop-def.def-index = search rules in
    λ n. below_or_past (λ m. entry_of c.loop-def.table.items m ≡ min 101 (levels (number_tree r m))) c.loop-def.def-index c.loop-def.invariant.right
    (λ m h. entries_past c.loop-def.table.items m (omega (arith, h, c.loop-def.invariant.made)) ∙ sym (no_levels r m (omega (arith, past, h)))) n
