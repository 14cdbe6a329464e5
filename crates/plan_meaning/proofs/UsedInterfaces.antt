-- The interfaces that types of a plan use are those of the places that what was read uses.
use Rattle.std.proofs.Common.{rules as std_rules, ◌≡◌, ◌⊎◌, inl, inr, refl, sym, ap, subst, ◌∙◌, ℕ, ◌+◌, ◌-◌, arith, true, false, not, ◌==◌, cond, List, [], ◌∷◌, Option, Some, None, option_and_then, option_to_list, is_some, slice_get, rules}
use Rattle.std.proofs.lemmas.{Bool.le-leb, Bool.lt-ltb}
use Rattle.std.specs.{Prelude.nat_le, List.Contains, List.list_all, Option.option_map_or}
use Rattle.wit_model.specs.declared.model.TypeOwner.{TypeOwner}
use Rattle.wit_model.specs.{Text.Text, Uses.owner_interface, Rules.each_from, Valid.as_interface}
use Rattle.wit_model.proofs.{Elements.contains-filter_map, Elements.contains-flat, Elements.contains-get, Elements.none-in, RulesLemmas.each_by_number}
use Rattle.plan_meaning.specs.{Shapes.Shape, Shapes.first_label, Shapes.named_shape, Shapes.node_shape, ReadInterfaces.IsNumberOf, ReadInterfaces.IsKeptAs}
use Rattle.plan_meaning.specs.Plan.{Plan, PlannedKind, PlannedType, PlannedInterface, type_in, alias_number, part_number, interface_used_by, interfaces_used_by, numbers_of}
use Rattle.plan_meaning.specs.{Renumbering.IsPart, Renumbering.a_primitive, Renumbering.a_shape, NumberedRules.name_at, NumberedRules.name_in}
use Rattle.plan_meaning.specs.NumberedViews.{Tables, AreTables, NumberedType, NumberedView}
use Rattle.plan_meaning.specs.{NumberedWorlds.HasPath, NumberedWorlds.if_outside, NumberedWorlds.used_by, NumberedWorlds.used_by_view, ReadFunctions.Beside}
use Rattle.plan_meaning.specs.GatheredPlan.{Becomes, DeclaresKind, a_resource, a_form, TypeBecomes, TypeListed}
use Rattle.plan_meaning.specs.{KeptTypes.IsKeptType, KeptTypes.unnamed, KeptTypes.declared, KeptTypes.TypesAreKept, KeptOwners.AreOwned}
use Rattle.plan_meaning.specs.ReadOrder.{IsUsedPlace, itself, smaller, IsViewedInterface, InterfacesAreViewed}
use Rattle.plan_meaning.proofs.{MetTypes.flat_among, NumberedRules.no_name, NumberedRules.no_shape, NumberedRules.shape_there, ReadPlaces.one_interface}
use Rattle.plan_meaning.proofs.{Lists.no_true, Words.behind, KeptParts.kept_at}
use Rattle.base_lemmas.proofs.Elements.{all_pass as all_among, contains-map, filter_map_from, get-contains, last_of as one-contained, zip_at as zip_there, zip_at_right as zip_at}
use Rattle.base_lemmas.proofs.Lists.{get_back}
use Rattle.plan_meaning.specs.Plan as plan
use Rattle.plan_meaning.specs.NumberedRules as numbered
use Rattle.plan_meaning.specs.GatheredPlan as gathered

-- ---- lists

-- an owner that is an interface
pub owned_by : (o : TypeOwner) (u : ℕ) → owner_interface o ≡ Some u → o ≡ as_interface u
owned_by x u e = search std_rules

module _ (t : Tables) (tables : AreTables t) (kept : List ℕ) (p : Plan) (are : TypesAreKept t kept p) (b : Beside) (owned : AreOwned t kept p b.owners) where
  -- The interface whose type a type is another name for: none, that of its own place, or that of a place that it uses.
  pub data UsedBy (q : ℕ) (d : Option ℕ) (o : Option ℕ) : Type 0 where
    nothing : o ≡ None → used_by t d ≡ [] → UsedBy q d o
    own : o ≡ owner_interface (b.owners q) → ((r : ℕ) → Contains (used_by t d) r → r ≡ q) → UsedBy q d o
    other : (r : ℕ) → used_by t d ≡ r ∷ [] → o ≡ owner_interface (b.owners r) → UsedBy q d o

  -- what is no name uses nothing
  no_uses : (d : Option ℕ) (old : ℕ) → d ≡ Some old → name_at t old ≡ None → used_by t d ≡ []
  no_uses d old e none = ap (used_by t) e ∙ ap (λ o. option_map_or (λ (x : ℕ × Text). if_outside t x.0) o []) none

  -- the type of the number of a name
  name_used : (n k q : ℕ) (name : Text) (x : PlannedType) → type_in p n ≡ Some x → slice_get kept n ≡ Some k → slice_get t.shapes k ≡ Some (named_shape q name) → (d : Option ℕ) (old new i m : ℕ)
      → DeclaresKind t kept p d x.kind → d ≡ Some old → numbered.is_form t old ≡ false → Becomes t kept p old new → old ≡ 14 + m → slice_get kept i ≡ Some m → new ≡ 14 + i
      → UsedBy q d (option_and_then (λ (u : PlannedType). owner_interface u.owner) (type_in p i))
  name_used n k q name x there at shape d old new i m kind is no_form becomes from stands to =
      let found = kept_at t kept p are i m (omega (arith, becomes.range, to)) stands in
      by found.0 found.1 found.2
    where
      place : {r : ℕ} {label : Text} → option_and_then (λ (u : PlannedType). owner_interface u.owner) (type_in p i) ≡ owner_interface (b.owners r) → slice_get t.shapes m ≡ Some (named_shape r label)
          → (r ≡ q) ⊎ HasPath t r → UsedBy q d (option_and_then (λ (u : PlannedType). owner_interface u.owner) (type_in p i))
      place {r = r} {label = label} owner_is name_there (inl same) = own (owner_is ∙ ap (λ a. owner_interface (b.owners a)) same) (λ a c. (search std_rules) ∙ same)
      place {r = r} {label = label} owner_is name_there (inr path) = other r ((search rules) ∙ ap (λ o. option_map_or (λ (s : Text). r ∷ []) o []) path.1) owner_is

      by : (y : PlannedType) → slice_get p.types i ≡ Some y → IsKeptType t kept p m y → UsedBy q d (option_and_then (λ (u : PlannedType). owner_interface u.owner) (type_in p i))
      by y e (unnamed place form olds news form_there z none unowned kind_y part low) =
          no_true (sym no_form ∙ (ap (λ o. option_map_or (λ (s : Shape). not (s.sort == 0)) o false) (shape_there t old m (node_shape form olds) from form_there) ∙ ap not (no_name form)))
      by y e (declared r label c name_there called home kind_y before good obeys) =
          place (ap (option_and_then (λ (u : PlannedType). owner_interface u.owner)) e ∙ ap owner_interface (owned.owned i m y r label e stands name_there)) name_there
          (owned.used n k x q name m r label there at shape (subst (λ o. DeclaresKind t kept p o x.kind) (is ∙ ap Some from) kind) name_there)

  pub type_uses : (n k q : ℕ) (name : Text) (d : Option ℕ) (id : Option Text) → slice_get kept n ≡ Some k → slice_get t.shapes k ≡ Some (named_shape q name) → TypeBecomes t kept p d id n
      → UsedBy q d (interface_used_by p n)
  type_uses n k q name d id at shape is = subst (UsedBy q d) (sym there) (by is.kind)
    where
      abbrev_of : PlannedKind → Option ℕ
      abbrev_of kind = option_and_then (λ m. option_and_then (λ (u : PlannedType). owner_interface u.owner) (type_in p m)) (alias_number kind)

      there : interface_used_by p n ≡ abbrev_of is.type_.kind
      there = ap (option_and_then (λ (x : PlannedType). option_and_then (λ m. option_and_then (λ (u : PlannedType). owner_interface u.owner) (type_in p m)) (alias_number x.kind))) is.stands

      by : DeclaresKind t kept p d is.type_.kind → UsedBy q d (abbrev_of is.type_.kind)
      by (a_resource none kind) = nothing (ap abbrev_of kind) (ap (used_by t) none)
      by (a_form old m form olds news e from f z kind) = nothing (ap abbrev_of kind) (no_uses d old e (ap (option_and_then name_in) (shape_there t old m (node_shape form olds) from f) ∙ ap
          (λ v. cond v (Some ((node_shape form olds).number, first_label (node_shape form olds).labels)) None) (no_name form)))
      by (gathered.a_name old new e no_form becomes kind) = subst (λ x. UsedBy q d (abbrev_of x)) (sym kind) (part becomes.part)
        where
          part : IsPart kept old new → UsedBy q d (abbrev_of (plan.alias new))
          part (a_primitive low same) = nothing (ap (λ c. option_and_then (λ m. option_and_then (λ (u : PlannedType). owner_interface u.owner) (type_in p m)) (cond c None (Some (new - 14))))
              (lt-ltb new 14 (omega (arith, low, same)))) (no_uses d old e (ap (option_and_then name_in) (no_shape t old low)))
          part (a_shape m i from stands to) = subst (UsedBy q d) (sym (ap (option_and_then (λ m. option_and_then (λ (u : PlannedType). owner_interface u.owner) (type_in p m)))
              (ap part_number to ∙ behind i))) (name_used n k q name is.type_ is.stands at shape d old new i m is.kind e no_form becomes from stands to)

  -- ---- the interfaces that an interface uses

  module _ (views : ℕ → NumberedView) (m : ℕ) (i : PlannedInterface) (is : IsViewedInterface t kept p b views m i) where
    pub interface_uses : (u : ℕ) → Contains (interfaces_used_by p i) u → (u ≡ m) ⊎ ((r : ℕ) × Contains (used_by_view t is.read.view) r × (b.owners r ≡ as_interface u))
    interface_uses u c =
        let found = filter_map_from (interface_used_by p) (numbers_of i.types) u c in
        let entry = get_back (λ (e : Text × ℕ). e.1) i.types found.0 found.1 found.2 in
        let typed = zip_at (TypeListed t kept p) is.read.view.types i.types is.types found.0 entry.0 entry.1 in
        let number = zip_at (IsKeptAs kept p) is.read.numbers i.types is.read.kept_there found.0 entry.0 entry.1 in
        let shape = zip_at (IsNumberOf t is.read.place) is.read.view.types is.read.numbers is.read.shapes found.0 number.0 number.1 in
        by typed.0 (get-contains is.read.view.types found.0 typed.0 typed.1) (ap (interface_used_by p) entry.2 ∙ found.3)
        (type_uses entry.0.1 number.0 is.read.place shape.0.name typed.0.declared typed.0.external_id number.2.0 shape.2 typed.2.1)
      where
        by : (x : NumberedType) → Contains is.read.view.types x → {o : Option ℕ} → o ≡ Some u → UsedBy is.read.place x.declared o
            → (u ≡ m) ⊎ ((r : ℕ) × Contains (used_by_view t is.read.view) r × (b.owners r ≡ as_interface u))
        by x there used (nothing none nowhere) = no_true (ap is_some (sym none ∙ used))
        by x there used (own same only) = inl (one_interface u m (sym (owned_by (b.owners is.read.place) u (sym same ∙ used)) ∙ is.read.owned))
        by x there used (other r all same) = inr (
          r,
          contains-flat (λ (y : NumberedType). used_by t y.declared) is.read.view.types x r there (subst (λ ns. Contains ns r) (sym all) (0, omega arith, refl)),
          owned_by (b.owners r) u (sym same ∙ used),
        )

    -- the place that a view uses is that of an interface that the interface uses
    pub interface_uses_back : (r u : ℕ) → Contains (used_by_view t is.read.view) r → (r ≡ is.read.place → ⊥) → b.owners r ≡ as_interface u → Contains (interfaces_used_by p i) u
    interface_uses_back r u c away at =
        let found = flat_among (λ (x : NumberedType). used_by t x.declared) is.read.view.types r c in
        let index = contains-get is.read.view.types found.0 found.1 in
        let typed = zip_there (TypeListed t kept p) is.read.view.types i.types is.types index.0 found.0 index.1 in
        let number = zip_at (IsKeptAs kept p) is.read.numbers i.types is.read.kept_there index.0 typed.0 typed.1 in
        let shape = zip_at (IsNumberOf t is.read.place) is.read.view.types is.read.numbers is.read.shapes index.0 number.0 number.1 in
        let uses = type_uses typed.0.1 number.0 is.read.place shape.0.name found.0.declared found.0.external_id number.2.0 shape.2 typed.2.1 in
        contains-filter_map (interface_used_by p) (numbers_of i.types) typed.0.1 u (contains-map (λ (e : Text × ℕ). e.1) i.types typed.0 (get-contains i.types index.0 typed.0 typed.1))
        (subst (λ o. Contains (option_to_list o) u) (sym (by found.0.declared found.2 uses)) (0, omega arith, refl))
      where
        by : (d : Option ℕ) → Contains (used_by t d) r → {o : Option ℕ} → UsedBy is.read.place d o → o ≡ Some u
        by d c (nothing none nowhere) = none-in r (subst (λ ns. Contains ns r) nowhere c)
        by d c (own same only) = absurd (away (only r c))
        by d c (other a all same) = same ∙ (ap (λ q. owner_interface (b.owners q)) (one-contained a r (subst (λ ns. Contains ns r) all c)) ∙ ap owner_interface at)

    low : (u : ℕ) → Contains (interfaces_used_by p i) u → nat_le u m ≡ true
    low u c = by (interface_uses u c)
      where
        used : (r : ℕ) → b.owners r ≡ as_interface u → IsUsedPlace b.owners m is.read.place r → nat_le u m ≡ true
        used r at (itself same) = let one : u ≡ m = one_interface u m (sym at ∙ (ap b.owners same ∙ is.read.owned)) in le-leb u m (omega (arith, one))
        used r at (smaller v here less) = let one : u ≡ v = one_interface u v (sym at ∙ here) in le-leb u m (omega (arith, one, less))

        by : (u ≡ m) ⊎ ((r : ℕ) × Contains (used_by_view t is.read.view) r × (b.owners r ≡ as_interface u)) → nat_le u m ≡ true
        by (inl same) = le-leb u m (omega (arith, same))
        by (inr (r, c, at)) = used r at (is.uses r c)

    pub all_low : list_all (λ u. nat_le u m) (interfaces_used_by p i) ≡ true
    all_low = all_among (λ u. nat_le u m) (interfaces_used_by p i) low

  pub uses_are_low : (views : ℕ → NumberedView) → InterfacesAreViewed t kept p b views → each_from (λ n i. list_all (λ m. nat_le m n) (interfaces_used_by p i)) 0 p.interfaces ≡ true
  uses_are_low views read = each_by_number (λ n i. list_all (λ m. nat_le m n) (interfaces_used_by p i)) p.interfaces (λ m i e. all_low views m i (read m i e))
