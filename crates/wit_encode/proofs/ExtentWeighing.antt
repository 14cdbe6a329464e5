-- What the parts of an instance type take in sum is no more than its interface weighs.
use Rattle.std.proofs.Common.{rules as std_rules, ◌≡◌, refl, ap, ◌∙◌, ℕ, suc, ◌+◌, ◌≤◌, Bool, true, false, if◌then◌else◌, List, [], ◌∷◌, map, length, Option, Some, None, is_some, arith}
use Rattle.std.proofs.lemmas.List.Sums.{sum_by-cons}
use Rattle.std.specs.{Prelude.sum_by, List.Contains, Option.option_map_or}
use Rattle.wit_model.specs.{Text.Text, Lookup.type_at, Valid.IsValid, Valid.functions_of_interface}
use Rattle.wit_model.specs.Weight.{unit_of, name_texts, definition_weight, is_brought, number_weight, instance_numbers}
use Rattle.wit_model.specs.declared.model.{Resolve.Resolve, InterfaceId.InterfaceId, Function.Function, TypeDef.TypeDef, TypeId.TypeId, TypeOwner.TypeOwner}
use Rattle.indexmap.specs.IndexMap.{values}
use Rattle.encode_types.specs.{Kinds.kind_tree, MetKinds.ReachedFrom, MetKinds.referred, Plan.foreign_owner, Table.interface_of_owner}
use Rattle.wit_encode.specs.Order.{functions_in_order}
use Rattle.wit_encode.specs.Extents.{own_name_extent, import_extent, number_extent, function_extent, tree_extent, InstancesAreLight, DependenciesAreLight}
use Rattle.wit_encode.proofs.Extents.{functions-light, types-light}
use Rattle.wit_encode.proofs.{Reached.IsOwner, Weighing.counted, Weighing.own-weight, Weighing.sum-among, Weighing.keyed-weight}
use Rattle.wit_model.specs.declared.model.TypeOwner.TheVariants as owner
use Rattle.wit_encode.proofs.Weighing as weighing
use Rattle.wit_encode.proofs.DependencyWeighing as dependency

pub each-below : {X : Type 0} (f g : X → ℕ) (xs : List X) → ((x : X) → Contains xs x → f x ≤ g x) → sum_by f xs ≤ sum_by g xs
each-below f g [] h = omega arith
each-below f g (x ∷ xs) h = omega (arith, each-below f g xs (λ y c. h y (later y c)), h x (0, omega arith, refl), sum_by-cons f x xs, sum_by-cons g x xs)
  where
    later : (y : _) → Contains xs y → Contains (x ∷ xs) y
    later y (i, l, e) = (suc i, omega (arith, l), e)

-- a number that is met takes no more than it weighs
module _ (r : Resolve) (v : IsValid r) (o : TypeOwner) (n : ℕ) (d : TypeDef) (at : type_at r n ≡ Some d)
    (own : foreign_owner (interface_of_owner o) d.owner ≡ None → number_weight r o n ≡ definition_weight d) where
  weight-is : number_weight r o n ≡ (if is_brought r o n then unit_of (name_texts d) else definition_weight d)
  weight-is = ap (λ t. option_map_or (λ d. if is_brought r o n then unit_of (name_texts d) else definition_weight d) t 0) at

  extent-is : number_extent r (interface_of_owner o) n ≡ (if is_some (foreign_owner (interface_of_owner o) d.owner) then import_extent d else tree_extent (kind_tree r d.kind) + own_name_extent r d)
  extent-is = ap (λ t. option_map_or (λ def. if is_some (foreign_owner (interface_of_owner o) def.owner) then import_extent def else tree_extent (kind_tree r def.kind) + own_name_extent r def) t 0) at

  import-light : (b : Bool) → import_extent d ≤ (if b then unit_of (name_texts d) else definition_weight d)
  import-light x = search std_rules

  no-owner : (f : Option InterfaceId) → is_some f ≡ false → f ≡ None
  no-owner x e = search std_rules

  by-owner : (b : Bool) → is_some (foreign_owner (interface_of_owner o) d.owner) ≡ b → number_extent r (interface_of_owner o) n ≤ number_weight r o n
  by-owner true e =
      let here = import-light (is_brought r o n) in
      omega (arith, here, extent-is ∙ ap (λ (b : Bool). if b then import_extent d else tree_extent (kind_tree r d.kind) + own_name_extent r d) e, weight-is)
  by-owner false e =
      let a = extent-is ∙ ap (λ (b : Bool). if b then import_extent d else tree_extent (kind_tree r d.kind) + own_name_extent r d) e in
      omega (arith, types-light r n d v at, own (no-owner (foreign_owner (interface_of_owner o) d.owner) e), a)

  of-number : number_extent r (interface_of_owner o) n ≤ number_weight r o n
  of-number = by-owner (is_some (foreign_owner (interface_of_owner o) d.owner)) refl

pub number-light : (r : Resolve) (v : IsValid r) (o : TypeOwner) (ns : List ℕ) (all : List Function) (h : IsOwner r v o ns all) (ts : List TypeId) (fs : List Function)
    → (listed : (t : TypeId) → Contains ts t → Contains ns t.0) → (among : (f : Function) → Contains fs f → Contains all f)
    → (n : ℕ) → ReachedFrom r (interface_of_owner o) (referred ts fs) n → number_extent r (interface_of_owner o) n ≤ number_weight r o n
number-light r v o ns all h ts fs listed among n m =
    let c = (counted r v o ns all h ts fs listed among n m).0 in
    of-number r v o n c.own_def c.own_there (own-weight r v o ns all h ts fs listed among n c.own_def m c.own_there)

-- ---- the types and functions of an interface

pub instances-light : InstancesAreLight
instances-light r i def numbers v home different met =
    let inside = sum-among (number_weight r (owner.Interface i)) numbers (instance_numbers r def (functions_of_interface def)) different (λ n c. weighing.in-numbers r v i def home n (met n c)) in
    let each = each-below (number_extent r (Some i)) (number_weight r (owner.Interface i)) numbers
    (λ n c. number-light r v (owner.Interface i) _ _ (weighing.home-owner r v i def home) (values def.types) (map (λ f. f.1) (functions_in_order def))
    (weighing.listed-here r v i def home) (weighing.in-map r v i def home) n (met n c)) in
    let functions = each-below (function_extent r) keyed-weight (functions_in_order def) function-below in
    omega (arith, weighing.functions-sum r v i def home, weighing.weight-is r v i def home)
  where
    function-below : (f : Text × Function) → Contains (functions_in_order def) f → function_extent r f ≤ keyed-weight f
    function-below f c = omega (arith, functions-light r f.1, ap length (weighing.named-so r v i def home f c))

-- ---- the types alone

pub dependencies-light : DependenciesAreLight
dependencies-light r i def numbers v home different met =
    let inside = sum-among (number_weight r (owner.Interface i)) numbers (instance_numbers r def []) different (λ n c. dependency.in-numbers r v i def home n (met n c)) in
    let each = each-below (number_extent r (Some i)) (number_weight r (owner.Interface i)) numbers
    (λ n c. number-light r v (owner.Interface i) _ [] (dependency.types-owner r v i def home) (values def.types) [] (dependency.listed-here r v i def home) (λ f c. c) n (met n c)) in
    omega (arith, dependency.types-weigh r v i def home)
