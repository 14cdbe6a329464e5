-- What stands before what in a plan, as it is read (WIT.md, "Interfaces: use" and "Worlds"; Binary.md, "Import and Export Definitions").
-- Then each named type stands in its owner's list, interfaces use smaller ones alone, and an item of a world stands behind what it uses.
use Rattle.std.specs.Prelude.{◌≡◌, ◌<◌, ℕ, ◌+◌, true, nat_le, List, [], Some, slice_get}
use Rattle.std.specs.List.{AllZip, Contains, list_all}
use Rattle.wit_model.specs.declared.model.TypeOwner.{TypeOwner}
use Rattle.wit_model.specs.{Text.Text, Rules.each_after, Rules.each_from, Valid.as_interface, Valid.as_world}
use Rattle.plan_meaning.specs.{Shapes.named_shape, NumberedWorlds.used_by_view, KeptTypes.TypesAreKept, KeptOwners.AreOwned, ReadFunctions.Beside}
use Rattle.plan_meaning.specs.Plan.{Plan, PlannedType, PlannedInterface, PlannedWorld, interface_in, world_in, interfaces_used_by, items_of}
use Rattle.plan_meaning.specs.{PlanRules.is_listed, PlanRules.uses_stand_before, NumberedViews.Tables, NumberedViews.AreTables, NumberedViews.NumberedView}
use Rattle.plan_meaning.specs.{GatheredPlan.TypeListed, ReadInterfaces.IsReadInterface, ReadWorlds.ReadItem, ReadWorlds.is_type_seen, ReadWorlds.WorldsAreRead}

-- A place that the interface of this number, whose place is home, uses: its own, or one whose interface has a smaller number.
pub data IsUsedPlace (owners : ℕ → TypeOwner) (m home r : ℕ) : Type 0 where
  itself : r ≡ home → IsUsedPlace owners m home r
  smaller : (u : ℕ) → owners r ≡ as_interface u → u < m → IsUsedPlace owners m home r

module _ (t : Tables) (kept : List ℕ) (p : Plan) (b : Beside) (views : ℕ → NumberedView) where
  -- The interface of this number is read by the view of its place, type by type, and uses places that were seen before it.
  pub record IsViewedInterface (m : ℕ) (i : PlannedInterface) : Type 0 where
    pub read : IsReadInterface t kept p b m i
    pub viewed : views read.place ≡ read.view
    pub types : AllZip (TypeListed t kept p) read.view.types i.types
    pub uses : (r : ℕ) → Contains (used_by_view t read.view) r → IsUsedPlace b.owners m read.place r

  abbrev pub InterfacesAreViewed : Type 0
  InterfacesAreViewed = (m : ℕ) (i : PlannedInterface) → interface_in p m ≡ Some i → IsViewedInterface m i

  -- A name of the place stands in the table under this number because it was shown there: by the interface's view, or by an import of the world.
  pub data IsShownThere (interfaces : InterfacesAreViewed) (worlds : WorldsAreRead t kept p b views) (q k : ℕ) : Type 0 where
    in_interface : (m : ℕ) (i : PlannedInterface) (e : interface_in p m ≡ Some i) → b.owners q ≡ as_interface m → Contains (interfaces m i e).read.numbers k
        → IsShownThere interfaces worlds q k
    in_world : (m : ℕ) (w : PlannedWorld) (e : world_in p m ≡ Some w) (x : ReadItem) → b.owners q ≡ as_world m → Contains (worlds m w e).imports x
        → is_type_seen x.seen.shown ≡ true → x.count ≡ k + 1
        → IsShownThere interfaces worlds q k

  -- each name that is kept was shown in its own place
  pub record OrderIsRead : Type 0 where
    pub interfaces : InterfacesAreViewed
    pub worlds : WorldsAreRead t kept p b views
    pub names : (j k q : ℕ) (x : PlannedType) (name : Text) → slice_get p.types j ≡ Some x → slice_get kept j ≡ Some k
        → slice_get t.shapes k ≡ Some (named_shape q name) → IsShownThere interfaces worlds q k

-- the tests of a plan on what stands before what
pub record OrderTests (p : Plan) : Type 0 where
  pub types_listed : each_from (is_listed p) 0 p.types ≡ true
  pub uses_fall : each_from (λ n i. list_all (λ m. nat_le m n) (interfaces_used_by p i)) 0 p.interfaces ≡ true
  pub items_in_order : each_from (λ n w. each_after (uses_stand_before p n) [] (items_of w)) 0 p.worlds ≡ true

abbrev pub ReadOrderPasses : Type 0
ReadOrderPasses = (t : Tables) → AreTables t → (kept : List ℕ) (p : Plan) → TypesAreKept t kept p → (b : Beside) → AreOwned t kept p b.owners
    → (views : ℕ → NumberedView)
    → OrderIsRead t kept p b views → OrderTests p
