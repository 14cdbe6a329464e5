-- What is planned can be added, and what is added is behind what there was.
use Rattle.std.proofs.Common.{rules as std_rules, subst, ℕ, ◌≤◌, Bool, List, length, Result, OnErr, OnOk}
use Rattle.std.specs.Prelude.{IfOk}
use Rattle.wit_model.specs.declared.model.{Resolve.Resolve, WorldKey.WorldKey}
use Rattle.wit_model.specs.Valid.{key_eq}
use Rattle.bind_add.specs.Growth.{IsAddable, IsAdded, IsSameResolve}
use Rattle.bind_add.specs.declared.added.Added.{Added}
use Rattle.bind_carry.proofs.{Addable.unions_are_addable, Ranges.is_in_range}
use Rattle.bind_copy.proofs.Gained.{test_is}
use Rattle.wit_bind.specs.declared.bindgen.Bindgen.{Bindgen}
use Rattle.wit_bind.specs.{Bindings.IsBindgen, Merges.IsPlanOf}
use Rattle.base_lemmas.proofs.Lists.{within_there as element_at}
use Rattle.wit_model.specs.contracts.model.WorldKeyPartialEq.TheImpl as world_key

pub plan_addable : (own other : Bindgen) → IsBindgen own → IsBindgen other → (added : Added) (keys : List WorldKey) → IsPlanOf own other added keys → IsAddable own.resolve own.world.0 added
plan_addable own other o t added keys p =
    let w = element_at own.resolve.worlds.items own.world.0 o.in_range in
    let v = element_at other.resolve.worlds.items other.world.0 t.in_range in
    unions_are_addable own.resolve other.resolve own.world.0 other.world.0 p.matches w.0 v.0 added keys t.valid (p.union w.0 v.0 w.1 v.1) o.in_range p.matched.packages

-- the packages of bindings can be numbered
pub few_bound : (b : Bindgen) → IsBindgen b → length b.resolve.packages.items ≤ 4294967295
few_bound b is = (is_in_range b.resolve is.valid).few_packages

-- keys are told apart as the code does it
pub added_by_key : (world : ℕ) (added : Added) (old new : Resolve) → IsAdded world_key.ghosts.eq world added old new → IsAdded key_eq world added old new
added_by_key world added old new h = subst (λ (same : WorldKey → WorldKey → Bool). IsAdded same world added old new) test_is h

-- room for more keeps what can be added
pub addable_with_room : (world : ℕ) (added : Added) (old between : Resolve) → IsSameResolve world old between → IsAddable old world added → IsAddable between world added
addable_with_room world added old between same h = search std_rules

pub on_err : {A E P : Type 0} → P → (r : Result A E) → OnErr r P
on_err p x = search std_rules

-- what follows of an answer at `Ok`, whatever it is
pub so_ok : {X E : Type 0} (P : X → Type 0) (Q : Type 0) → ((x : X) → P x → Q) → (r : Result X E) → IfOk r P → OnOk r Q
so_ok y z f u h = search std_rules
