-- The parts at the top as they are followed, over the tables and the places of a whole input.
use Rattle.std.specs.Prelude.{◌≡◌, ◌<◌, ◌≤◌, ℕ, suc, ◌+◌, true, List, [], ◌∷◌, ◌++◌, length, map, slice_get, Option, Some}
use Rattle.std.specs.{Borrow.Bor, List.AllByRecursion}
use Rattle.wit_model.specs.{Text.Text, Text.text_of, Tree.Form, Tree.Place, Tree.Tree}
use Rattle.comp_bytes.specs.{Levels.Entry, Levels.PartType, Levels.wraps, Levels.shows, Reading.◌>>=◌}
use Rattle.comp_meaning.specs.Follow.{each, new_scope}
use Rattle.read_follow.specs.declared.{scopes.Instance.Instance, scopes.Scope.Scope, scopes.Seen.Seen, views.ShownType.ShownType}
use Rattle.read_follow.specs.{Defining.Grows, Following.AreTables, Places.ArePlacesOf}
use Rattle.read_follow.specs.{Functions.FunctionShape, Numbering.bare_parts, Numbering.scoped_trees, Numbering.trees_along, Numbering.CountUp, Placed.slot_part}
use Rattle.read_follow.specs.Scopes.{meant_at, weights, world_of, ArePathsInOrder, ArePathsMet, AreScopedIn, HasStages, IsPlacedAmong, IsPlacedWorld, IsPlaceMet, IsPlaceMetBefore, IsScopedIn, IsShownBy, IsWorld}
use Rattle.plan_meaning.specs.{PlanRules.is_form, Shapes.Shape, Shapes.named_shape, Shapes.node_shape, Shapes.shape_trees}
use Rattle.read_parts.specs.declared.members.{FollowedPart.FollowedPart, Member.Member}
use Rattle.read_parts.specs.Followed.{PartScope, world, interface, labelled_scope, part_scope}
use Rattle.read_follow.specs.declared.scopes.Shown.TheVariants as shown
use Rattle.read_parts.specs.declared.members.FollowedPart.TheVariants as followed

abbrev pub scope_of : FollowedPart → Scope
scope_of (followed.World path scope) = scope
scope_of (followed.Interface scope) = scope

-- its places are among the first so many
pub record ArePlacesBelow (count : ℕ) (p : FollowedPart) : Type 0 where
  pub home : (scope_of p).home < count
  pub instances : (j : ℕ) (x : Instance) → slice_get (scope_of p).instances.items j ≡ Some x → x.place < count

-- the names that its instances show are among the first so many types
abbrev pub AreTypesBelow : ℕ → FollowedPart → Type 0
AreTypesBelow many p =
    (j : ℕ) (x : Instance) → slice_get (scope_of p).instances.items j ≡ Some x → (n : ℕ) (t : ShownType) → slice_get x.view.types.items n ≡ Some t
    → slot_part t.slot < 14 + many

-- the types that it imports are among the first so many
abbrev pub AreImportsBelow : ℕ → FollowedPart → Type 0
AreImportsBelow many p =
    (j : ℕ) (s : Seen) → slice_get (scope_of p).imports.items j ≡ Some s → (label : Bor (List ℕ)) (part : ℕ) (d : Option ℕ) → s.shown ≡ shown.Type label part d
    → part < 14 + many

-- the entries of a part's component type
abbrev pub entries_of : PartType → List Entry
entries_of (wraps es name) = es
entries_of (shows es) = es

-- the types that the entries of a part declare, in the order in which they are declared, each with its scope in the part
abbrev pub part_trees : PartType → List (Option ℕ × Tree)
part_trees p = trees_along new_scope (entries_of p)

-- A scope in which types are declared: the component type of the part of this number, or in it the instance of this number.
abbrev pub DeclaringScope : Type 0
DeclaringScope = ℕ × Option ℕ

-- these, in the part of this number
abbrev pub in_part : {A : Type 0} → ℕ → List (Option ℕ × A) → List (DeclaringScope × A)
in_part k xs = map (λ x. ((k, x.0), x.1)) xs

-- the types that parts declare, from the part of this number on
abbrev pub trees_from : ℕ → List (Text × PartType) → List (DeclaringScope × Tree)
trees_from k [] = []
trees_from k (x ∷ xs) = in_part k (part_trees x.1) ++ trees_from (suc k) xs

-- the types that these parts declare, one part after the other, each with its scope
abbrev pub declared_trees : List (Text × PartType) → List (DeclaringScope × Tree)
declared_trees parts = trees_from 0 parts

-- an instance of one of the parts is of the place
pub record IsMetBySome (ms : List Member) (q : ℕ) : Type 0 where
  pub number : ℕ
  pub member : Member
  pub at : slice_get ms number ≡ Some member
  pub met : IsPlaceMet (scope_of member.part).instances.items q

-- each place with a path is met
abbrev pub ArePlacesMet : List (Option Text) → List Member → Type 0
ArePlacesMet paths ms = (q : ℕ) (path : Text) → slice_get paths q ≡ Some (Some path) → IsMetBySome ms q

-- an instance of an earlier part, or an earlier one of this part, is of the place
pub data IsMetBefore (ms : List Member) (i j q : ℕ) : Type 0 where
  in_earlier : (k : ℕ) (m : Member) → k < i → slice_get ms k ≡ Some m → IsPlaceMet (scope_of m.part).instances.items q → IsMetBefore ms i j q
  in_same : (m : Member) → slice_get ms i ≡ Some m → IsPlaceMetBefore (scope_of m.part).instances.items j q → IsMetBefore ms i j q

-- Each instance stands behind one of each place that has a path and a smaller number than its own.
abbrev pub ArePlacesInOrder : List (Option Text) → List Member → Type 0
ArePlacesInOrder paths ms =
    (i : ℕ) (m : Member) → slice_get ms i ≡ Some m → (j : ℕ) (x : Instance) → slice_get (scope_of m.part).instances.items j ≡ Some x
    → (q : ℕ) (path : Text) → slice_get paths q ≡ Some (Some path) → q < x.place → IsMetBefore ms i j q

-- each form of the table is one that a definition may have
abbrev pub AreFormed : List Shape → Type 0
AreFormed shapes = (n : ℕ) (form : Form) (parts : List ℕ) → slice_get shapes n ≡ Some (node_shape form parts) → is_form form parts ≡ true

-- how many types a part makes at most
abbrev pub part_weight : PartType → ℕ
part_weight (wraps es name) = weights es
part_weight (shows es) = weights es

abbrev pub parts_weight : List (Text × PartType) → ℕ
parts_weight [] = 0
parts_weight (x ∷ xs) = part_weight x.1 + parts_weight xs

module _ (shapes : List Shape) (fs : List FunctionShape) (paths : List (Option Text)) where
  -- the scope of the part is one over the tables
  abbrev pub StandsIn : FollowedPart → Type 0
  StandsIn p = IsWorld (world_of shapes fs paths (scope_of p))

  -- what the part stands for
  abbrev pub part_meant : (ℕ → Place) → FollowedPart → PartScope
  part_meant place (followed.World path scope) = world (text_of path) (meant_at place (world_of shapes fs paths scope))
  part_meant place (followed.Interface scope) = interface (meant_at place (world_of shapes fs paths scope))

  abbrev pub member_meant : (ℕ → Place) → Member → Text × PartScope
  member_meant place m = (m.label.now, part_meant place m.part)

  abbrev pub MembersStand : List Member → Type 0
  MembersStand ms = AllByRecursion (λ (m : Member). StandsIn m.part) ms

  -- ---- names in their places

  -- one of the first so many parts shows the name, which is this part
  pub record IsShownBySome (ms : List Member) (upto q : ℕ) (name : Text) (part : ℕ) : Type 0 where
    pub number : ℕ
    pub below : number < upto
    pub member : Member
    pub at : slice_get ms number ≡ Some member
    pub by : IsShownBy (world_of shapes fs paths (scope_of member.part)) q name part

  -- A member behind so many others. Names stand in their places; those that stood in the table before it, in its first types, are shown by the others,
  -- and the places and the types of these are among the first so many.
  pub record IsPlacedMember (ms : List Member) (i : ℕ) (m : Member) : Type 0 where
    pub base : List Shape
    pub count : ℕ
    pub till : ℕ
    pub placed : IsPlacedAmong base count till (world_of shapes fs paths (scope_of m.part))
    pub names : (n q : ℕ) (name : Text) → slice_get base n ≡ Some (named_shape q name) → IsShownBySome ms i q name (14 + n)
    pub earlier : (k : ℕ) (x : Member) → slice_get ms k ≡ Some x → k < i → ArePlacesBelow count x.part
    pub types_below : (k : ℕ) (x : Member) → slice_get ms k ≡ Some x → k < i → AreTypesBelow (length base) x.part

  abbrev pub AreMembersPlaced : List Member → Type 0
  AreMembersPlaced ms = (i : ℕ) (m : Member) → slice_get ms i ≡ Some m → IsPlacedMember ms i m

  -- each name of the table is shown
  abbrev pub AreNamesShown : List Member → Type 0
  AreNamesShown ms = (n q : ℕ) (name : Text) → slice_get shapes n ≡ Some (named_shape q name) → IsShownBySome ms (length ms) q name (14 + n)

  -- A member behind so many others, of these entries: how its scope stood behind each number of them. Names that stood in the table before it are shown by the
  -- others, whose types are among the first of the table.
  pub record IsStagedMember (ms : List Member) (i : ℕ) (m : Member) (es : List Entry) : Type 0 where
    pub base : List Shape
    pub count : ℕ
    pub stages : HasStages base count es (length es) (world_of shapes fs paths (scope_of m.part))
    pub names : (n q : ℕ) (name : Text) → slice_get base n ≡ Some (named_shape q name) → IsShownBySome ms i q name (14 + n)
    pub types_below : (k : ℕ) (x : Member) → slice_get ms k ≡ Some x → k < i → AreTypesBelow (length base) x.part
    pub imports_below : (k : ℕ) (x : Member) → slice_get ms k ≡ Some x → k < i → AreImportsBelow (length base) x.part

  abbrev pub AreMembersStaged : List (Text × PartType) → List Member → Type 0
  AreMembersStaged raws ms = (i : ℕ) (m : Member) (raw : Text × PartType) → slice_get ms i ≡ Some m → slice_get raws i ≡ Some raw
      → IsStagedMember ms i m (entries_of raw.1)

-- ---- one part

-- The tables and the places grow, by no more types than its entries make and by just those that they declare, in their order, each over the names of its scope.
-- Names stand in their places, new places with a path are met, in their order, and the part stands for what its type at the top does.
pub record IsPartFollowed (shapes : List Shape) (fs : List FunctionShape) (paths : List (Option Text)) (raw : PartType)
    (more : List Shape) (more_fs : List FunctionShape) (more_paths : List (Option Text)) (p : FollowedPart) : Type 0 where
  pub stands : StandsIn more more_fs more_paths p
  pub shapes_grow : Grows shapes more
  pub signatures_grow : Grows fs more_fs
  pub paths_grow : Grows paths more_paths
  pub count : length more ≤ length shapes + part_weight raw
  pub parts : List (Option ℕ × ℕ)
  pub counted : CountUp (length shapes) (bare_parts parts) (length more)
  pub trees : (place : ℕ → Place) → ArePlacesOf more_paths place → scoped_trees (shape_trees place more) parts ≡ part_trees raw
  pub scoped : AreScopedIn (world_of more more_fs more_paths (scope_of p)) parts
  pub placed : IsPlacedWorld shapes (length paths) (world_of more more_fs more_paths (scope_of p))
  pub met : ArePathsMet (length paths) more_paths (scope_of p).instances.items
  pub order : ArePathsInOrder (length paths) more_paths (scope_of p).instances.items
  pub stages : HasStages shapes (length paths) (entries_of raw) (length (entries_of raw)) (world_of more more_fs more_paths (scope_of p))
  pub shows : (place : ℕ → Place) → ArePlacesOf more_paths place → part_scope raw ≡ Some (part_meant more more_fs more_paths place p)

-- ---- all parts

-- what was found, with these in front
abbrev pub with_front : {A : Type 0} → List A → Option (List A) → Option (List A)
with_front front found = found >>= λ rest. Some (front ++ rest)

-- Some parts have been followed, over so many types that were there before. Names stand in their places, and each is shown; each place with a path is
-- met, in their order; forms are as definitions have them. Those that are left decide what all stand for.
pub record AreFollowedTo (before : ℕ) (raws left : List (Text × PartType)) (shapes : List Shape) (fs : List FunctionShape) (paths : List (Option Text))
    (ms : List Member) : Type 0 where
  pub tables : AreTables (length paths) shapes fs
  pub stand : MembersStand shapes fs paths ms
  pub count : length shapes + parts_weight left ≤ before + parts_weight raws
  pub placed : AreMembersPlaced shapes fs paths ms
  pub names : AreNamesShown shapes fs paths ms
  pub met : ArePlacesMet paths ms
  pub order : ArePlacesInOrder paths ms
  pub formed : AreFormed shapes
  pub many : length ms + length left ≡ length raws
  pub staged : AreMembersStaged shapes fs paths raws ms
  pub shows : (place : ℕ → Place) → ArePlacesOf paths place
      → with_front (map (member_meant shapes fs paths place) ms) (each labelled_scope left) ≡ each labelled_scope raws

-- the part is over the names of its scope, which is one of these members or of its instances
abbrev pub IsScopedBy : List Shape → List FunctionShape → List (Option Text) → List Member → DeclaringScope × ℕ → Type 0
IsScopedBy shapes fs paths ms p =
    (m : Member) × (slice_get ms p.0.0 ≡ Some m) × IsScopedIn (world_of shapes fs paths (scope_of m.part)) p.0.1 p.1

-- The types of the table are those that the parts declare which aren't left, in the order in which they are declared, and those that are
-- left are still to come. Each declares one that is there already, or the next one. Each is over the names of its scope.
pub record AreNumberedTo (raws left : List (Text × PartType)) (shapes : List Shape) (fs : List FunctionShape) (paths : List (Option Text))
    (ms : List Member) : Type 0 where
  pub parts : List (DeclaringScope × ℕ)
  pub counted : CountUp 0 (bare_parts parts) (length shapes)
  pub trees : (place : ℕ → Place) → ArePlacesOf paths place
      → scoped_trees (shape_trees place shapes) parts ++ trees_from (length ms) left ≡ declared_trees raws
  pub scoped : AllByRecursion (IsScopedBy shapes fs paths ms) parts

-- All parts are followed.
abbrev pub AreFollowed : ℕ → List (Text × PartType) → List Shape → List FunctionShape → List (Option Text) → List Member → Type 0
AreFollowed before raws shapes fs paths ms = AreFollowedTo before raws [] shapes fs paths ms
