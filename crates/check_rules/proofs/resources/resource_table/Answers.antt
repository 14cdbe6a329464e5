use Rattle.std.proofs.Common.{◌≡◌, refl, sym, ap, subst, ◌∙◌, ◌≤◌, ◌<◌, ◌+◌, length, rules, arith, ℕ, [], ◌∷◌, ◌++◌}
use Rattle.std.proofs.lemmas.Option.{slice_get_read}
use Rattle.wit_model.specs.{Checks.flags, Parts.is_resource, Parts.is_resource_kind}
use Rattle.wit_model.proofs.Checks.{below_at, flags_more, flags_past, below_or_past}
use Rattle.wit_model.proofs.Resources.{kind_same, resource_step, no_resource}
use Rattle.check_rules.proofs.resources.resource_table.Goals as goal

pub loop-def-preserved : goal.loop-def-preserved
loop-def-preserved c =
    let r = c.args.resolve.now in
    let k = c.loop-def.def-index in
    let inside : k < length r.types.items = search rules in
    let at = slice_get_read r.types.items _ k c.def-item.result refl inside (search rules) in
    let same = kind_same (flags c.loop-def.table.items) (is_resource r) k c.def-item.result.kind c.loop-def.invariant.right (below_at r c.requires k c.def-item.result at) in
    let lent : c.deref.result.now ≡ c.loop-def.table.items = search rules in
    let fresh : c.is_resource_kind-is_resource.result ≡ is_resource r k = c.is_resource_kind-is_resource.ensures
    ∙ (ap (λ t. is_resource_kind (flags t) c.def-item.result.kind) lent ∙ (same ∙ sym (resource_step r c.requires k c.def-item.result at)))
    in
    let pushed : c.push.new.self.items ≡ c.loop-def.table.items ++ c.is_resource_kind-is_resource.result ∷ [] = search rules in
    record {
      made = search rules;
      right = subst (λ xs. (n : ℕ) → n < k + 1 → flags xs n ≡ is_resource r n) (sym pushed)
          (flags_more (is_resource r) c.loop-def.table.items c.is_resource_kind-is_resource.result k c.loop-def.invariant.made c.loop-def.invariant.right fresh);
    }

pub returns : goal.returns
returns c =
    let r = c.args.resolve.now in
    let past : length r.types.items ≤ c.loop-def.def-index = search rules in
    λ n. below_or_past (λ m. flags c.loop-def.table.items m ≡ is_resource r m) c.loop-def.def-index c.loop-def.invariant.right
    (λ m h. flags_past c.loop-def.table.items m (omega (arith, h, c.loop-def.invariant.made)) ∙ sym (no_resource r m (omega (arith, past, h)))) n
