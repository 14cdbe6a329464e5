-- Where a union would make a list too long, so would what comes.
use Rattle.std.proofs.Common.{◌≡◌, inl, inr, refl, ap, ◌∙◌, arith, ℕ, ◌+◌, ◌<◌, ◌≤◌, [], length, Some}
use Rattle.wit_model.specs.{declared.error.Error.Error, declared.model.World.World, Lookup.world_at}
use Rattle.bind_meaning.specs.Clash.{CanUnite}
use Rattle.bind_clash.specs.Faults.{IsMatched}
use Rattle.bind_match.specs.declared.matches.Matches.{Matches}
use Rattle.bind_carry.specs.{BoundGains.gained_inline, Fates.numbers_by, TooLong.carried_interfaces, TooLong.CarriedThings, TooLong.copies_of, TooLong.gained_fates, TooLong.IsTooLong, Which.IsNumbered, First.first_fates, MadeOf.Come, Numbers.copied_count, Numbers.IsMemoryOrSize}
use Rattle.bind_carry.proofs.{CopiesPlaced.numbers_by_long, Ready.fates_long}
use Rattle.wit_bind.specs.declared.bindgen.Bindgen.{Bindgen}
use Rattle.wit_bind.specs.{Bindings.binding_of, Bindings.IsBindgen, Comes.InlineIsGained, Comes.TypeIsGained, Merges.AreTooMany}
use Rattle.wit_bind.proofs.Coming.{inline-come, interfaces-are, interfaces-come, types-come, types-gained}
use Rattle.wit_bind.proofs.TooMany.{packages-few, worlds-few}
use Rattle.base_lemmas.proofs.Lists.{within_there}
use Rattle.wit_model.specs.declared.error.Error.TheVariants as errors

none-come : (P : ℕ → Type 0) → Come P 0
none-come P = record { marks = []; marked = refl; each = λ n e. let wrong : ⊥ = cc in absurd wrong }

more : (limit own some all : ℕ) → limit < own + some → some ≤ all → limit < own + all
more limit own some all h l = omega (arith, h, l)

first-alone : (limit own first : ℕ) → limit < own + first → limit < own + (first + 0)
first-alone limit own first h = omega (arith, h)

both-come : (limit own first all second : ℕ) → first ≡ all → limit < (own + first) + second → limit < own + (all + second)
both-come limit own first all second e h = omega (arith, e, h)

module _ (own other : Bindgen) (o : IsBindgen own) (t : IsBindgen other) (can : CanUnite (binding_of own) (binding_of other)) (m : Matches) (matched : IsMatched own.resolve other.resolve m) where
  interfaces-long : (second : ℕ) → Come (InlineIsGained own other) second → 4294967295 < length own.resolve.interfaces.items + (copied_count (carried_interfaces other.resolve m) + second)
      → AreTooMany own other
  interfaces-long second come h = inr (inr (inl (record {
    first = copied_count (carried_interfaces other.resolve m);
    first_come = interfaces-come own other o t can m matched;
    second = second;
    second_come = come;
    too_long = h;
  })))

  types-long : (c : CarriedThings) (numbered : IsNumbered own.resolve other.resolve m c) (second : ℕ) → Come (TypeIsGained own other) second
      → 4294967295 < length own.resolve.types.items + (copies_of (first_fates own.resolve other.resolve m.interfaces.items c) + second) → AreTooMany own other
  types-long c numbered second come h =
      inr (inr (inr (record { first = _; first_come = types-come own other o t can m matched c numbered; second = second; second_come = come; too_long = h })))

  too-many : (w v : World) → world_at own.resolve own.world.0 ≡ Some w → world_at other.resolve other.world.0 ≡ Some v → IsTooLong own.resolve other.resolve own.world.0 other.world.0 m w v
      → AreTooMany own other
  too-many w v at_w at_v (inl (inl h)) = inl (more 4294967295 (length own.resolve.packages.items) _ _ h (packages-few own.resolve other.resolve o.valid t.valid m matched))
  too-many w v at_w at_v (inl (inr (inl h))) = inr (inl (more 4294967295 (length own.resolve.worlds.items) _ _ h (worlds-few own.resolve other.resolve o.valid t.valid m matched)))
  too-many w v at_w at_v (inl (inr (inr h))) = interfaces-long 0 (none-come _) (first-alone 4294967295 (length own.resolve.interfaces.items) _ h)
  too-many w v at_w at_v (inr (c, numbered, inl h)) = types-long c numbered 0 (none-come _) (first-alone 4294967295 (length own.resolve.types.items) _ h)
  too-many w v at_w at_v (inr (c, numbered, inr (inl h))) =
      interfaces-long (copied_count (gained_inline other.resolve c.interfaces.items w v)) (inline-come own other o t can m matched c numbered w v at_w at_v)
      (both-come 4294967295 (length own.resolve.interfaces.items) _ _ _ (ap copied_count (interfaces-are own other o t can m matched c numbered)) h)
  too-many w v at_w at_v (inr (c, numbered, inr (inr h))) =
      let fates = first_fates own.resolve other.resolve m.interfaces.items c in
      let numbers = numbers_by (length own.resolve.types.items) fates in
      types-long c numbered (copies_of (gained_fates own.resolve other.resolve own.world.0 other.world.0 w v c fates numbers (copied_count c.copied_interfaces.items)))
      (types-gained own other o t can m matched c numbered w v at_w at_v (copied_count c.copied_interfaces.items) numbers
      (numbers_by_long (length own.resolve.types.items) fates ∙ fates_long own.resolve other.resolve m c)) (both-come 4294967295 (length own.resolve.types.items) _ _ _ refl h)

  -- ---- the refusal of a union

  module _ (P : Error → Type 0) (memory : P errors.Memory) (size : AreTooMany own other → P errors.Size) where
    -- a union is refused for want of memory, or where there would be too much
    pub refused-so : (e : Error) → IsMemoryOrSize e
        → (e ≡ errors.Size → (w v : World) → world_at own.resolve own.world.0 ≡ Some w → world_at other.resolve other.world.0 ≡ Some v
        → IsTooLong own.resolve other.resolve own.world.0 other.world.0 m w v) → P e
    refused-so errors.Memory h long = memory
    refused-so errors.Size h long =
        let w = within_there own.resolve.worlds.items own.world.0 o.in_range in
        let v = within_there other.resolve.worlds.items other.world.0 t.in_range in
        size (too-many w.0 v.0 w.1 v.1 (long refl w.0 v.0 w.1 v.1))
    refused-so e h long = absurd h
