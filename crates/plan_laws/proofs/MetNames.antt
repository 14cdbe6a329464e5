-- A name that stands inside a part is one of those that are met in its tree.
use Rattle.std.proofs.Common.{rules as std_rules, ◌≡◌, refl, ap, subst, ◌∙◌, ℕ, zero, suc, ◌+◌, ◌<◌, ◌⊎◌, inl, inr, arith, Bool, true, false, List, [], ◌∷◌, length, map, Some, slice_get, sym, option_to_list}
use Rattle.std.proofs.lemmas.List.Elements.{Contains-append_cases}
use Rattle.std.specs.List.{Contains, flat_map, AllByRecursion}
use Rattle.wit_model.specs.{Text.Text, Tree.Form, Tree.Place, Tree.Tree, Tree.Trees, Tree.children}
use Rattle.wit_model.proofs.Elements.{has-contains, none-in}
use Rattle.plan_meaning.specs.NumberedViews.{HasNameIn, Tables, AreTables, FunctionShape, IsPart, PartsOf, declaration_of, place_at, signature_over, tree_at}
use Rattle.plan_meaning.specs.Shapes.{IsShape, IsTable, Shape, a_name, a_node, named_shape, node_shape}
use Rattle.plan_parts.specs.Marks.{is_marked, IsUsed, marked, part}
use Rattle.plan_types.specs.Used.{AreUsed, signature_parts}
use Rattle.base_lemmas.proofs.{Lists.get_back as unmapped_get, Elements.last_of as one-contained}
use Rattle.read_shown.specs.Trees.{DeclarationStands, HandleStands, PartsStand, SignatureStands, TreeStands, is_handle}
use Rattle.plan_meaning.proofs.ShapeLaws.{PartView, is_name, is_node, is_primitive, viewed}
use Rattle.plan_meaning.specs.NumberedViews as views
use Rattle.wit_model.specs.Tree as tree

-- ---- Which types stand inside a part: what is used is inside a part that is used to begin with.

-- the type of this number is the part, or one of those inside it
pub data IsIn (shapes : List Shape) : ℕ → ℕ → Type 0 where
  itself : (k n : ℕ) → k ≡ 14 + n → IsIn shapes k n
  inside : (k m j n : ℕ) (s : Shape) → k ≡ 14 + m → slice_get shapes m ≡ Some s → Contains s.parts j → IsIn shapes j n → IsIn shapes k n

-- one that stands deeper
pub deeper : (shapes : List Shape) (k m n : ℕ) (s : Shape) → IsIn shapes k m → slice_get shapes m ≡ Some s → Contains s.parts (14 + n) → IsIn shapes k n
deeper shapes k m n s (itself a b is) at c = inside k m (14 + n) n s is at c (itself (14 + n) n refl)
deeper shapes k m n s (inside a i j b r is here there more) at c = inside k i j n r is here there (deeper shapes j m n s more at c)

module _ (shapes : List Shape) (table : IsTable shapes) where
  -- a name that stands inside
  pub name_in : (k n q : ℕ) (name : Text) → IsIn shapes k n → slice_get shapes n ≡ Some (named_shape q name) → HasNameIn shapes k q
  name_in k n q name (itself a b is) at = views.itself k n q name is at
  name_in k n q name (inside a m j b s is here there more) at = by (table.each m s here) (name_in j n q name more at)
    where
      by : IsShape m s → HasNameIn shapes j q → HasNameIn shapes k q
      by (a_name r other e) found = absurd (none-in j (subst (λ (x : Shape). Contains x.parts j) e there))
      by (a_node form parts e low) found = views.inside k m j q form parts is (here ∙ ap Some e) (subst (λ (x : Shape). Contains x.parts j) e there) found

  -- nothing but itself stands inside a name
  pub name_alone : (k n m q : ℕ) (name : Text) → k ≡ 14 + m → slice_get shapes m ≡ Some (named_shape q name) → IsIn shapes k n → n ≡ m
  name_alone k n m q name is at x = search std_rules

-- a shape is of one name
pub name_same : (shapes : List Shape) (a q : ℕ) (x z : Text) (i k : ℕ) → slice_get shapes i ≡ Some (named_shape a x) → slice_get shapes k ≡ Some (named_shape q z) → i ≡ k → (a ≡ q) × (x ≡ z)
name_same shapes a q x z i k there at same = search std_rules

-- ---- what is used

-- an element of one of the lists
pub flat_cases : {A B : Type 0} (f : A → List B) (xs : List A) (y : B) → Contains (flat_map f xs) y → (x : A) × Contains xs x × Contains (f x) y
flat_cases f [] y c = none-in y c
flat_cases {A = A} f (x ∷ xs) y c = by (λ later. flat_cases f xs y later) (Contains-append_cases (f x) (flat_map f xs) y c)
  where
    by : (Contains (flat_map f xs) y → (z : A) × Contains xs z × Contains (f z) y) → Contains (f x) y ⊎ Contains (flat_map f xs) y → (z : A) × Contains (x ∷ xs) z × Contains (f z) y
    by deeper_in (inl here) = (x, (0, omega arith, refl), here)
    by deeper_in (inr later) = let found = deeper_in later in (found.0, (let at = found.1 in (suc at.0, (let low = at.1 in omega (arith, low)), at.2)), found.2)

pub within : (marks : List Bool) (n : ℕ) → is_marked marks n ≡ true → n < length marks
within [] n is = let wrong : false ≡ true = is in absurd cc
within (b ∷ marks) zero is = omega arith
within (b ∷ marks) (suc n) is = let low = within marks n is in omega (arith, low)

pub used_inside : (t : Tables) (parts : List ℕ) (marks : List Bool) (used : AreUsed t parts marks) (n : ℕ) → IsUsed (map (λ s. s.parts) t.shapes) used.roots n → (k : ℕ) × Contains parts k
    × IsIn t.shapes k n
used_inside t parts marks used n (marked m is) = search (std_rules, within, has-contains, itself)
used_inside t parts marks used n (part m i ks before at there) = search (std_rules, unmapped_get, deeper, used_inside t parts marks used m before)

-- ---- what the page is for

module _ (t : Tables) (tables : AreTables t) (Met : Place → Text → Bool → Type 0) (n q : ℕ) (name : Text) (at : slice_get t.shapes n ≡ Some (named_shape q name)) where
  -- the name is met, as a resource or as a type of values
  abbrev pub IsMet : Type 0
  IsMet = (is_resource : Bool) × Met (place_at t q) name is_resource

  abbrev View : ℕ → Type 0
  View k = PartView (place_at t) t.shapes tables.shapes k (tree_at t k)

  view : (k : ℕ) → IsPart t k → View k
  view k range = viewed (place_at t) t.shapes tables.shapes k range

  -- what the name is met as where its tree stands there
  met_here : (k m r : ℕ) (x : Text) (b : Bool) → k ≡ 14 + m → slice_get t.shapes m ≡ Some (named_shape r x) → IsIn t.shapes k n → Met (place_at t r) x b → IsMet
  met_here k m r x b is there found met = search std_rules

  -- the one part of a handle
  handle_view : (k : ℕ) → View k → HandleStands Met (Trees.child (tree_at t k) Trees.no_children) → IsIn t.shapes k n → IsMet
  handle_view k y stands found = search std_rules

  in_handle : (ks : List ℕ) → AllByRecursion (λ k. IsPart t k) ks → HandleStands Met (children (map (tree_at t) ks)) → (j : ℕ) → Contains ks j → IsIn t.shapes j n → IsMet
  in_handle [] ranges stands j c found = none-in j c
  in_handle (k ∷ []) ranges stands j c found = handle_view k (view k ranges.0) stands (subst (λ y. IsIn t.shapes y n) (sym (one-contained k j c)) found)
  in_handle (k ∷ l ∷ ks) ranges stands j c found = absurd (search std_rules)

  -- a part among others
  in_parts : (ks : List ℕ) → AllByRecursion (λ k. IsPart t k) ks → PartsStand Met false (children (map (tree_at t) ks)) → (j : ℕ) → Contains ks j
      → (IsPart t j → TreeStands Met (tree_at t j) → IsMet) → IsMet
  in_parts [] ranges stands j c later = none-in j c
  in_parts (k ∷ ks) ranges stands j (zero, low, e) later = later (subst (IsPart t) e ranges.0) (subst (λ y. TreeStands Met (tree_at t y)) e stands.0)
  in_parts (k ∷ ks) ranges stands j (suc i, low, e) later = in_parts ks ranges.1 stands.1 j (i, omega (arith, low), e) later

  in_form : (b : Bool) (ks : List ℕ) → AllByRecursion (λ k. IsPart t k) ks → PartsStand Met b (children (map (tree_at t) ks)) → (j : ℕ) → Contains ks j → IsIn t.shapes j n
      → (IsPart t j → TreeStands Met (tree_at t j) → IsMet) → IsMet
  in_form x ks ranges stands j c found later = search (std_rules, in_handle, in_parts)

  -- ---- a part

  no_low : (k : ℕ) → k < 14 → IsIn t.shapes k n → ⊥
  no_low k low x = search std_rules

  form_there : (k m i : ℕ) (f : Form) (ks : List ℕ) (s : Shape) → k ≡ 14 + m → slice_get t.shapes m ≡ Some (node_shape f ks) → k ≡ 14 + i → slice_get t.shapes i ≡ Some s → s ≡ node_shape f ks
  form_there k m i f ks s is there at_k here = search std_rules

  -- a part that is a form stands deeper
  in_node : (k m j : ℕ) (s : Shape) → k ≡ 14 + m → slice_get t.shapes m ≡ Some s → Contains s.parts j → IsIn t.shapes j n → (IsPart t j → TreeStands Met (tree_at t j) → IsMet) → View k
      → TreeStands Met (tree_at t k) → IsMet
  in_node k m j s is here c found later (is_primitive p low e number) stands = absurd (omega (arith, low, is))
  in_node k m j s is here c found later (is_name i r x at_k there e) stands = met_here k i r x false at_k there (inside k m j n s is here c found) (subst (TreeStands Met) e stands)
  in_node k m j s is here c found later (is_node i f ks at_k there e ranges) stands =
      let whole = subst (TreeStands Met) e stands in
      in_form (is_handle f) ks ranges whole.1 j (subst (λ (y : Shape). Contains y.parts j) (form_there k i m f ks s at_k there is here) c) found later

  name_tree_met : (k : ℕ) → View k → k ≡ 14 + n → TreeStands Met (tree_at t k) → IsMet
  name_tree_met k y is stands = search std_rules

  pub in_part : (k : ℕ) → IsIn t.shapes k n → IsPart t k → TreeStands Met (tree_at t k) → IsMet
  in_part k (itself a b is) range stands = name_tree_met k (view k range) is stands
  in_part k (inside a m j b s is here c more) range stands = in_node k m j s is here c more (λ r u. in_part j more r u) (view k range) stands

  -- ---- what is declared, and functions

  declared_view : (k : ℕ) → View k → IsPart t k → IsIn t.shapes k n → (b : Bool) → DeclarationStands Met (tree.TypeDeclaration.type_ (tree_at t k)) b → IsMet
  declared_view k y range found b stands = search (std_rules, no_low, met_here, in_part)

  pub in_declared : (k : ℕ) → IsPart t k → IsIn t.shapes k n → (b : Bool) → DeclarationStands Met (declaration_of t (Some k)) b → IsMet
  in_declared k range found b stands = declared_view k (view k range) range found b stands

  in_params : (ps : List (Text × ℕ)) → AllByRecursion (λ (p : Text × ℕ). IsPart t p.1) ps → AllByRecursion (λ (p : Text × Tree). TreeStands Met p.1) (map (λ (p : Text × ℕ). (p.0, tree_at t p.1)) ps)
      → (k : ℕ) → Contains (map (λ (p : Text × ℕ). p.1) ps) k → IsIn t.shapes k n → IsMet
  in_params [] ranges stands k c found = none-in k c
  in_params (p ∷ ps) ranges stands k (zero, low, e) found = in_part p.1 (subst (λ y. IsIn t.shapes y n) (sym e) found) ranges.0 stands.0
  in_params (p ∷ ps) ranges stands k (suc i, low, e) found = in_params ps ranges.1 stands.1 k (i, omega (arith, low), e) found

  pub in_signature : (f : FunctionShape) → PartsOf (IsPart t) f → SignatureStands Met (signature_over (tree_at t) f) → (k : ℕ) → Contains (signature_parts f) k → IsIn t.shapes k n → IsMet
  in_signature f ranges stands k c found = elim (Contains-append_cases (map (λ (x : Text × ℕ). x.1) f.params) (option_to_list f.result) k c) [
    | inl among ↦ in_params f.params ranges.0 stands.0 k among found
    | inr given ↦ search (std_rules, none-in, in_part, IsIn, one-contained)
  ]
