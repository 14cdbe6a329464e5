-- What a rule that holds of a `Resolve` says of each entry.
use Rattle.std.proofs.Common.{Some, arith, subst, true, ℕ, ◌+◌, ◌≡◌}
use Rattle.wit_model.proofs.Entries.{each_from_at, lists_pass}
use Rattle.wit_model.specs.{Lookup.type_at, Lookup.world_at, Valid.Keeps, Valid.Rule}
use Rattle.wit_model.specs.declared.model.{Resolve.Resolve, TypeDef.TypeDef, World.World}

pub world_passes : (rule : Rule) (r : Resolve) → Keeps rule r → (n : ℕ) (w : World) → world_at r n ≡ Some w → rule.world_ r n w ≡ true
world_passes rule r k n w at = let here : 0 + n ≡ n = omega arith in subst (λ (m : ℕ). rule.world_ r m w ≡ true) here (each_from_at (rule.world_ r) 0 r.worlds.items n w (lists_pass rule r k).2 at)

pub type_passes : (rule : Rule) (r : Resolve) → Keeps rule r → (n : ℕ) (def : TypeDef) → type_at r n ≡ Some def → rule.type_ r n def ≡ true
type_passes rule r k n def at = let here : 0 + n ≡ n = omega arith in subst (λ (m : ℕ). rule.type_ r m def ≡ true) here (each_from_at (rule.type_ r) 0 r.types.items n def (lists_pass rule r k).3 at)
