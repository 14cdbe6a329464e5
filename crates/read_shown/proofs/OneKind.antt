-- A name of an interface is a resource in every view that shows it, or in none.
use Rattle.std.proofs.Common.{rules as std_rules, ◌≡◌, sym, ap, subst, ◌∙◌, ℕ, zero, suc, ◌<◌, ◌≤◌, arith, Bool, true, false, List, length, Some, slice_get}
use Rattle.std.proofs.lemmas.Option.{slice_get_within}
use Rattle.wit_model.specs.{Text.Text, Tree.Place, Tree.TypeDeclaration}
use Rattle.comp_meaning.specs.Follow.{Slot, ShownType, Instance, instance_place}
use Rattle.read_shown.specs.{Trees.AllAt, Trees.DeclarationStands, Scopes.IsShownBefore}
use Rattle.read_shown.specs.Views.{named_slot, ShowsName, IsMetInView, inside, outside, ViewStands}
use Rattle.read_shown.proofs.{Agreement.alike_at, Agreement.one_number, Agreement.Alike, Agreement.NamesDiffer, Views.shows_wider, Lists.front_same}
use Rattle.base_lemmas.proofs.Options.{some_is}

abbrev pub slot_kind : Slot → Bool
slot_kind (Slot.resource place name) = true
slot_kind _ = false

pub kind_of_named : (place : Place) (name : Text) (b : Bool) → slot_kind (named_slot place name b) ≡ b
kind_of_named place name x = search std_rules

pub one_slot : (place other : Place) (name more : Text) (b c : Bool) → named_slot place name b ≡ named_slot other more c → b ≡ c
one_slot place other name more b c e = sym (kind_of_named place name b) ∙ (ap slot_kind e ∙ kind_of_named other more c)

-- two kinds of one declaration
declared_once : (Met More : Place → Text → Bool → Type 0) (d : TypeDeclaration) (b c : Bool) → DeclarationStands Met d b → DeclarationStands More d c
    → ((place : Place) (name : Text) → Met place name b → More place name c → b ≡ c) → b ≡ c
declared_once x y z b c h k met = search std_rules

-- The instances of some parts, each view of which is well-formed behind those before it.
abbrev pub AllStand : List (List Instance) → Type 0
AllStand parts = AllAt (λ m (xs : List Instance). AllAt (λ n (x : Instance). ViewStands (IsShownBefore xs n) (instance_place x.interface) x.view) xs) parts

-- an instance of the interface of this path
pub record IsOfPath (parts : List (List Instance)) (path : Text) (x : Instance) : Type 0 where
  pub part : ℕ
  pub instances : List Instance
  pub part_at : slice_get parts part ≡ Some instances
  pub number : ℕ
  pub at : slice_get instances number ≡ Some x
  pub of_path : x.interface ≡ Some path

-- a view of the path shows the name so
pub record IsShownSomewhere (parts : List (List Instance)) (path name : Text) (b : Bool) : Type 0 where
  pub instance_ : Instance
  pub there : IsOfPath parts path instance_
  pub shows : ShowsName (Place.of_interface path) instance_.view (length instance_.view.types) name b

pub before_somewhere : (parts : List (List Instance)) (m : ℕ) (xs : List Instance) → slice_get parts m ≡ Some xs
    → (n : ℕ) (place : Place) (name : Text) (b : Bool) (s : IsShownBefore xs n place name b) → IsShownSomewhere parts s.path name b
before_somewhere parts m xs there n place name b s = search std_rules

module _ (parts : List (List Instance)) (stand : AllStand parts)
    (alike : (path : Text) (x y : Instance) → IsOfPath parts path x → IsOfPath parts path y → Alike x.view y.view)
    (once : (path : Text) (x : Instance) → IsOfPath parts path x → NamesDiffer x.view) where
  -- a name that is met in a view of the path, where its place is that of an interface
  met_somewhere : (path : Text) (x : Instance) (o : IsOfPath parts path x) (count : ℕ) → count ≤ length x.view.types → (q name : Text) (b : Bool)
      → IsMetInView (IsShownBefore o.instances o.number) (instance_place x.interface) x.view count (Place.of_interface q) name b → IsShownSomewhere parts q name b
  met_somewhere path x o count le q name b (inside here s) = search std_rules
  met_somewhere path x o count le q name b (outside s) = search std_rules

  module _ (m : ℕ) (xs : List Instance) (there : slice_get parts m ≡ Some xs) where
    -- the first types of the view of this number have the kinds that they have everywhere
    abbrev Settled : ℕ → ℕ → Type 0
    Settled n k = (x : Instance) → slice_get xs n ≡ Some x → (path : Text) → x.interface ≡ Some path → (name : Text) (b : Bool) → ShowsName (Place.of_interface path) x.view k name b
        → (c : Bool) → IsShownSomewhere parts path name c → b ≡ c

    settle : (n k : ℕ) → ((i : ℕ) → i < n → (j : ℕ) → Settled i j) → Settled n k → Settled n (suc k)
    settle n k earlier before x at path of_path name b s c w =
        let t = (stand m xs there n x at).types s.number s.shown s.at in
        let u = (stand w.there.part w.there.instances w.there.part_at w.there.number w.instance_ w.there.at).types w.shows.number w.shows.shown w.shows.at in
        sym (one_slot (instance_place x.interface) (Place.of_interface path) s.shown.name name t.is_resource b (sym t.slot ∙ s.slot))
        ∙ (declared_once (MetHere s.number) MetThere s.shown.meaning.declaration t.is_resource u.is_resource t.declared
        (subst (λ d. DeclarationStands MetThere d u.is_resource) one_declaration u.declared) (meet s.number (let below = s.below in omega (arith, below)) t.is_resource u.is_resource)
        ∙ (one_slot (instance_place w.instance_.interface) (Place.of_interface path) w.shows.shown.name name u.is_resource c (sym u.slot ∙ w.shows.slot)))
      where
        MetHere : ℕ → Place → Text → Bool → Type 0
        MetHere count = IsMetInView (IsShownBefore xs n) (instance_place x.interface) x.view count

        MetThere : Place → Text → Bool → Type 0
        MetThere = IsMetInView (IsShownBefore w.there.instances w.there.number) (instance_place w.instance_.interface) w.instance_.view w.shows.number

        -- the other view declares the same under the name
        one_declaration : w.shows.shown.meaning.declaration ≡ s.shown.meaning.declaration
        one_declaration =
            let v = alike_at x.view w.instance_.view (alike path x w.instance_ (record { part = m; instances = xs; part_at = there; number = n; at = at; of_path = of_path }) w.there) s.number
            s.shown s.at in
            ap (λ (z : ShownType). z.meaning.declaration) (sym (some_is v.0 w.shows.shown
            (sym v.1 ∙ (ap (λ i. slice_get w.instance_.view.types i) (one_number w.instance_.view (once path w.instance_ w.there) s.number w.shows.number v.0 w.shows.shown v.1 w.shows.at
            (v.2 ∙ (s.named ∙ sym w.shows.named))) ∙ w.shows.at)))) ∙ ap (λ z. z.declaration) v.3

        other : (q more : Text) (e : Bool) → MetThere (Place.of_interface q) more e → IsShownSomewhere parts q more e
        other q more e h = met_somewhere path w.instance_ w.there w.shows.number
            (let low = slice_get_within w.instance_.view.types w.shows.number w.shows.shown w.shows.at in omega (arith, low)) q more e h

        meet : (count : ℕ) → count ≤ k → (d e : Bool) (place : Place) (more : Text) → MetHere count place more d → MetThere place more e → d ≡ e
        meet count low d e place more (inside here v) h =
            let own : instance_place x.interface ≡ Place.of_interface path = ap instance_place of_path in
            before x at path of_path more d (subst (λ p. ShowsName p x.view k more d) own (shows_wider (instance_place x.interface) x.view x.view (front_same x.view.types) count k low more d v)) e
            (other path more e (subst (λ p. MetThere p more e) (here ∙ own) h))
        meet count low d e place more (outside v) h = earlier v.number v.below (length v.shown.view.types) v.shown v.at v.path v.of_path more d
            (subst (λ p. ShowsName p v.shown.view (length v.shown.view.types) more d) v.stands v.shows) e (other v.path more e (subst (λ p. MetThere p more e) v.stands h))

    settled : (n : ℕ) → ((i : ℕ) → i < n → (j : ℕ) → Settled i j) → (k : ℕ) → Settled n k
    settled n earlier zero = λ x at path of_path name b s c w. let below = s.below in absurd (omega (arith, below))
    settled n earlier (suc k) = settle n k earlier (settled n earlier k)

    all_settled : (fuel n : ℕ) → n < fuel → (k : ℕ) → Settled n k
    all_settled zero n less = absurd (omega (arith, less))
    all_settled (suc fuel) n less = settled n (λ i low. all_settled fuel i (omega (arith, less, low)))

  -- a name of an interface has one kind
  pub one_kind : (path name : Text) (b c : Bool) → IsShownSomewhere parts path name b → IsShownSomewhere parts path name c → b ≡ c
  one_kind path name b c v w =
      let o = v.there in
      all_settled o.part o.instances o.part_at (suc o.number) o.number (omega arith) (length v.instance_.view.types) v.instance_ o.at path o.of_path name b v.shows c w
