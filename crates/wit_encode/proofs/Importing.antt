-- A type of another interface whose instance stands around is reached by an alias there.
use Rattle.std.proofs.Common.{rules as std_rules, ◌≡◌, refl, sym, subst, ap, ◌∙◌, ℕ, ◌+◌, nat_cmp, Ordering, Bool, true, false, not, ◌&&◌, ◌||◌, if◌then◌else◌, List, [], ◌∷◌, length, Option, Some, None, String, slice_get, is_some, ◌++◌, Result, Ok, Err, IfOk, OnErr, OnOk, arith}
use Rattle.std.proofs.lemmas.{Bool.cond-true, Bool.cond-false, Bool.and_from as both, List.Elements.All-contains, List.Elements.filter_passes}
use Rattle.std.specs.{List.Contains, List.list_all, List.list_any, List.filter, Option.option_map_or, BTreeMap.BTreeMap, BTreeMap.insert_entry, BTreeMap.is_at}
use Rattle.std.specs.{Ordering.is_eq, Ordering.match_ordering, Map.remove_entry}
use Rattle.std.specs.declared.{alloc.Global.Global, cmp.Ordering.TheVariants.Less, cmp.Ordering.TheVariants.Equal, cmp.Ordering.TheVariants.Greater}
use Rattle.wit_model.specs.{Text.Text, Text.text_eq, Text.text_of, Lookup.interface_path, Lookup.place_of, Lookup.type_at, Rules.text_is}
use Rattle.wit_model.specs.{Tree.Tree, Tree.Place, Tree.here, Tree.of_interface, Tree.named, Types.number_tree, Parts.is_resource, Parts.numbered_from}
use Rattle.wit_model.specs.declared.model.{Resolve.Resolve, InterfaceId.InterfaceId, TypeId.TypeId, TypeDef.TypeDef, TypeOwner.TypeOwner}
use Rattle.comp_bytes.specs.{Held.type_slots, Held.type_slots_of, Raw.Alias, Raw.Declaration, Raw.Declarations, Raw.append}
use Rattle.comp_meaning.specs.{Same.same_place, Follow.Slot, Follow.Instance, Follow.find_type, Follow.is_foreign_name}
use Rattle.encode_types.specs.{KeyLaws.text_same, Slots.tree, Slots.Keeps, Resources.is_named_interface, Resources.named_resources}
use Rattle.encode_types.specs.Known.{Around, Aliased, alias_declared, with_alias, with_aliases, IsAlias, AreAliases, IsSource, ReachesAround, as_before, aliased, known_slot, known_instance, is_name_slot, is_slot_for, is_named_of, is_instance_of, shows_type, is_standing, stands_around, are_right, below}
use Rattle.encode_types.specs.Scope.{Scope, IsImportable}
use Rattle.wit_encode.specs.declared.interface.{OpenInterface.OpenInterface, Foreign.Foreign}
use Rattle.wit_encode.specs.Instance.{standing_at, SlotsStand, is_slot_of, outer_slots, outer_instances, is_owner_in, resources_in, is_sound_in, place_in, Contents, standing_instances, scope_from, scope_with, inner_contents, contents_of, around_at, encoder_scope, definitions_with}
use Rattle.encode_types.proofs.Tables.{at-some, number-found}
use Rattle.wit_encode.proofs.{Contents.slots-kept, Calls.Calls, Calls.alias-inside, Wider.Widened, Wider.widened, Wider.contents-wider, LatestInstances.own-key}
use Rattle.wit_encode.proofs.{Within.CallsTo, LatestInstances.found-new}
use Rattle.base_lemmas.proofs.Elements.{all_get}
use Rattle.wit_model.proofs.Owners.{numbered_at}
use Rattle.base_lemmas.proofs.{Bools.left_of as first_true, Bools.right_of as second_true, Elements.all-contained, Lists.front_more as get-left, Options.some_is}

-- ---- lists

numbered-one : {A : Type 0} (p : ℕ × A → Bool) (xs : List A) (k : ℕ) (x : A) → list_all p (numbered_from 0 xs) ≡ true → slice_get xs k ≡ Some x → p (k, x) ≡ true
numbered-one p xs k x h e = subst (λ (m : ℕ). p (m, x) ≡ true) (omega arith) (all_get p (numbered_from 0 xs) k (0 + k, x) h (numbered_at 0 xs k x e))

-- ---- names

same-places : (a b : Place) → same_place a b ≡ true → a ≡ b
same-places (of_interface p) (of_interface q) h = ap of_interface (text_same p q h)
same-places (of_interface p) here h = absurd cc
same-places here (of_interface q) h = absurd cc
same-places here here h = refl

same-names : (p q : Place) (x y : Text) → (same_place p q && text_eq x y) ≡ true → named q y ≡ named p x
same-names p q x y h = λ i. named (sym (same-places p q (first_true (same_place p q) _ h)) i) (sym (text_same x y (second_true (same_place p q) _ h)) i)

-- what stands in the slot of a name
pub named-slot : (t : Tree) (slot : Slot) → is_name_slot t slot ≡ true → standing_at (Some slot) ≡ Some (tree t)
named-slot u slot h = search std_rules

-- ---- the names of resources of named interfaces are the same in each scope

owner-alike : (r : Resolve) (i : InterfaceId) (p : Text) (o : TypeOwner) (a b : Bool)
    → ((is_owner_in r (Some i) o && a) && (same_place (of_interface p) (place_of r o) && b)) ≡ ((is_named_interface r o && a) && (same_place (of_interface p) (place_of r o) && b))
owner-alike r i p x a b = search std_rules

resources-alike : (r : Resolve) (i : InterfaceId) (p x : Text) → resources_in r (Some i) (of_interface p) x ≡ named_resources r (of_interface p) x
resources-alike r i p x = ap (λ test. list_any test (numbered_from 0 r.types.items)) (λ j e. owner-alike r i p e.1.owner (is_resource r e.0) (text_is e.1.name x) j)

-- ---- the slot around

-- a slot around that stands for a type of another interface
record KnownSlot (r : Resolve) (i : InterfaceId) (a : Around) (n k : ℕ) : Type 0 where
  pub slot : Slot
  pub at : slice_get (outer_slots a.declared) k ≡ Some slot
  pub foreign : is_foreign_name slot ≡ true
  pub kept : is_slot_of (resources_in r (Some i)) slot ≡ true
  pub stands : standing_at (Some slot) ≡ Some (tree (number_tree r n))

known-slot : (r : Resolve) (i : InterfaceId) (a : Around) (n k : ℕ) (o : Option Slot) → slice_get (outer_slots a.declared) k ≡ o → is_slot_for r n o ≡ true → KnownSlot r i a n k
known-slot r i a n k y at h = search std_rules

-- what is listed is right
pub known-right : (r : Resolve) (known : List (ℕ × ℕ)) (slots : List Slot) (n k : ℕ) → are_right r known slots ≡ true → known_slot known n ≡ Some k → is_slot_for r n (slice_get slots k) ≡ true
known-right r known slots n k h e = all-contained (λ (x : ℕ × ℕ). is_slot_for r x.0 (slice_get slots x.1)) known (n, k) h
    (at-some (known_slot known n) (λ i. Contains known (n, i)) k e (number-found known n (known_slot known n) refl))

for-more : (r : Resolve) (slots : List Slot) (y : Slot) (n k : ℕ) (o : Option Slot) → slice_get slots k ≡ o → is_slot_for r n o ≡ true → is_slot_for r n (slice_get (slots ++ y ∷ []) k) ≡ true
for-more r slots y n k None e h = absurd cc
for-more r slots y n k (Some x) e h = ap (is_slot_for r n) (get-left slots y k x e) ∙ h

pub right-more : (r : Resolve) (known : List (ℕ × ℕ)) (slots : List Slot) (y : Slot) → are_right r known slots ≡ true → are_right r known (slots ++ y ∷ []) ≡ true
right-more r [] slots y h = refl
right-more r (x ∷ xs) slots y h = both (is_slot_for r x.0 (slice_get (slots ++ y ∷ []) x.1)) (are_right r xs (slots ++ y ∷ []))
    (for-more r slots y x.0 x.1 (slice_get slots x.1) refl (first_true (is_slot_for r x.0 (slice_get slots x.1)) _ h))
    (right-more r xs slots y (second_true (is_slot_for r x.0 (slice_get slots x.1)) _ h))

-- ---- what can be imported

-- an instance that shows a type of its interface
pub record Stands (r : Resolve) (a : Around) (j n : ℕ) (name : String Global) : Type 0 where
  pub number : ℕ
  pub listed : known_instance a.instances j ≡ Some number
  pub instance : Instance
  pub at : slice_get (outer_instances a.declared) number ≡ Some instance
  pub path : is_some instance.interface ≡ true
  pub slot : Slot
  pub found : find_type (text_of name) instance.view.types ≡ Some slot
  pub fits : is_slot_for r n (Some slot) ≡ true
  pub right : are_right r a.known (outer_slots a.declared) ≡ true

some-path : (path : Option Text) (instance : Instance) → is_instance_of path instance ≡ true → is_some instance.interface ≡ true
some-path x instance h = search std_rules

some-slot : (r : Resolve) (n : ℕ) (o : Option Slot) → is_slot_for r n o ≡ true → (x : Slot) × (o ≡ Some x) × (is_slot_for r n (Some x) ≡ true)
some-slot r n y h = search std_rules

module _ (r : Resolve) (a : Around) (j n : ℕ) (m : IsSource r a j n) where
  is-named : is_named_of j m.def ≡ true
  is-named = search std_rules

  shows : (instance : Instance) → is_standing r j instance ≡ true → is_slot_for r n (find_type (text_of m.name) instance.view.types) ≡ true
  shows instance h =
      let all = second_true (is_instance_of (interface_path r j) instance) _ h in
      let one = numbered-one (λ (e : ℕ × TypeDef). not (is_named_of j e.1) || shows_type r instance e) r.types.items n m.def all m.there in
      sym (ap (λ (o : Option (String Global)). option_map_or (λ name. is_slot_for r n (find_type (text_of name) instance.view.types)) o false) m.named_)
      ∙ sym (ap (λ b. not b || shows_type r instance (n, m.def)) is-named) ∙ one

  there-at : (k : ℕ) → known_instance a.instances j ≡ Some k → are_right r a.known (outer_slots a.declared) ≡ true → (o : Option Instance) → slice_get (outer_instances a.declared) k ≡ o
      → option_map_or (is_standing r j) o false ≡ true → Stands r a j n m.name
  there-at k listed right None at h = absurd cc
  there-at k listed right (Some x) at h =
      let s = some-slot r n (find_type (text_of m.name) x.view.types) (shows x h) in
      let path = some-path (interface_path r j) x (first_true (is_instance_of (interface_path r j) x) _ h) in
      record { number = k; listed = listed; instance = x; at = at; path = path; slot = s.0; found = s.1; fits = s.2; right = right }

  there-listed : are_right r a.known (outer_slots a.declared) ≡ true → (o : Option ℕ) → known_instance a.instances j ≡ o
      → option_map_or (λ k. option_map_or (is_standing r j) (slice_get (outer_instances a.declared) k) false) o false ≡ true → Stands r a j n m.name
  there-listed right None listed h = absurd cc
  there-listed right (Some k) listed h = there-at k listed right (slice_get (outer_instances a.declared) k) refl h

  pub standing : Stands r a j n m.name
  standing = go (are_right r a.known (outer_slots a.declared)) refl m.stands
    where
      test : ℕ → Bool
      test = stands_around r a.instances (outer_instances a.declared)

      go : (b : Bool) → are_right r a.known (outer_slots a.declared) ≡ b → Contains (if b then filter test (below (length r.interfaces.items)) else []) j → Stands r a j n m.name
      go false q (k, l, e) = absurd (omega (arith, l))
      go true q h =
          let passes : test j ≡ true = All-contains (λ x. test x ≡ true) (filter test (below (length r.interfaces.items))) j (filter_passes test (below (length r.interfaces.items))) h in
          there-listed q (known_instance a.instances j) refl passes

pub source-listed : (r : Resolve) (a : Around) (j n : ℕ) → IsSource r a j n → known_instance a.instances j ≡ None → ⊥
source-listed r a j n m none = cc (sym (standing r a j n m).listed ∙ none)

-- where something can be imported, what has been declared can be followed
pub importable-sound : (b : Bool) (xs : List ℕ) (j : ℕ) → Contains (if b then xs else []) j → b ≡ true
importable-sound x xs j h = search std_rules

pub importable-stands : (b : Bool) (xs : List ℕ) (j : ℕ) → Contains (if b then xs else []) j → Contains xs j
importable-stands x xs j h = search std_rules

pub has-source : (r : Resolve) (i : InterfaceId) (a : Around) (contents : Contents) (j n : ℕ) → IsImportable (scope_with r (Some i) a contents) j n → IsSource r a j n
has-source r i a contents j n m =
    let stands = importable-stands (is_sound_in r (Some i) contents) (standing_instances r a) j m.stands in
    record { def = m.def; name = m.name; there = m.there; named_ = m.named_; owned = m.owned; stands = stands }

none-listed : (r : Resolve) (instances : List Instance) (ns : List ℕ) (j : ℕ) → Contains (filter (stands_around r [] instances) ns) j → ⊥
none-listed r instances [] j (k, l, e) = omega (arith, l)
none-listed r instances (n ∷ ns) j h = none-listed r instances ns j h

-- nothing can be imported where no instance type is encoded
pub none-outside : (r : Resolve) (outer : Declarations) (j n : ℕ) → IsImportable (encoder_scope r outer None) j n → ⊥
none-outside r outer j n m = go (is_sound_in r None (contents_of r outer None)) m.stands
  where
    go : (b : Bool) → Contains (if b then filter (stands_around r [] []) (below (length r.interfaces.items)) else []) j → ⊥
    go false (k, l, e) = omega (arith, l)
    go true h = none-listed r [] (below (length r.interfaces.items)) j h

-- ---- one entry more in an ordered map

module _ (n t : ℕ) where
  apart : (e : ℕ × ℕ) (es : List (ℕ × ℕ)) → known_slot (e ∷ es) n ≡ None → nat_cmp n e.0 ≡ Equal → ⊥
  apart e es h q = cc (sym (cond-true _ _ _ (ap is_eq q)) ∙ h)

  -- it is found
  pub new-slot : (es : List (ℕ × ℕ)) → known_slot es n ≡ None → known_slot (insert_entry nat_cmp es n t) n ≡ Some t
  new-slot es h = found-new n t es

  -- without it the entries are those that were there
  pub taken-back : (es : List (ℕ × ℕ)) → known_slot es n ≡ None → remove_entry (is_at (nat_cmp n)) (insert_entry nat_cmp es n t) ≡ es
  taken-back [] h = cond-true _ _ _ (own-key n)
  taken-back (e ∷ es) h = by (nat_cmp n e.0) refl (λ q. taken-back es (sym (cond-false _ _ _ q) ∙ h))
    where
      by : (o : Ordering) → nat_cmp n e.0 ≡ o → (is_eq (nat_cmp n e.0) ≡ false → remove_entry (is_at (nat_cmp n)) (insert_entry nat_cmp es n t) ≡ es)
          → remove_entry (is_at (nat_cmp n)) (match_ordering o ((n, t) ∷ e ∷ es) ((e.0, t) ∷ es) (e ∷ insert_entry nat_cmp es n t)) ≡ e ∷ es
      by Less q more = cond-true _ _ _ (own-key n)
      by Equal q more = absurd (apart e es h q)
      by Greater q more = let f : is_eq (nat_cmp n e.0) ≡ false = ap is_eq q in cond-false _ _ _ f ∙ ap (λ xs. e ∷ xs) (more f)

  -- what each entry passes, each passes with it
  pub all-inserted : (p : ℕ × ℕ → Bool) (es : List (ℕ × ℕ)) → known_slot es n ≡ None → list_all p es ≡ true → p (n, t) ≡ true → list_all p (insert_entry nat_cmp es n t) ≡ true
  all-inserted p [] h a b = both (p (n, t)) true b refl
  all-inserted p (e ∷ es) h a b = by (nat_cmp n e.0) refl (λ q. all-inserted p es (sym (cond-false _ _ _ q) ∙ h) (second_true (p e) (list_all p es) a) b)
    where
      by : (o : Ordering) → nat_cmp n e.0 ≡ o → (is_eq (nat_cmp n e.0) ≡ false → list_all p (insert_entry nat_cmp es n t) ≡ true)
          → list_all p (match_ordering o ((n, t) ∷ e ∷ es) ((e.0, t) ∷ es) (e ∷ insert_entry nat_cmp es n t)) ≡ true
      by Less q more = both (p (n, t)) (list_all p (e ∷ es)) b a
      by Equal q more = absurd (apart e es h q)
      by Greater q more = both (p e) (list_all p (insert_entry nat_cmp es n t)) (first_true (p e) (list_all p es) a) (more (ap is_eq q))

-- ---- an alias is made

module _ (r : Resolve) (a : Around) (al : Aliased) (is : IsAlias r a al) where
  abbrev pub source : IsSource r a is.interface.0 al.number.0
  source = record { def = is.def; name = is.name; there = is.there; named_ = is.named_; owned = is.owned; stands = is.stands }

  abbrev pub stands : Stands r a is.interface.0 al.number.0 is.name
  stands = standing r a is.interface.0 al.number.0 source

  same-instance : al.instance ≡ stands.number
  same-instance = search std_rules

  pub wide : Widened a al stands.slot
  wide = widened a al stands.slot stands.instance (ap (slice_get (outer_instances a.declared)) same-instance ∙ stands.at) stands.path
      (ap (λ t. find_type t stands.instance.view.types) is.text ∙ stands.found)

  abbrev next : Around
  next = with_alias a al

  new-fits : is_slot_for r al.number.0 (slice_get (outer_slots next.declared) (type_slots_of a.declared)) ≡ true
  new-fits = ap (is_slot_for r al.number.0) wide.new ∙ stands.fits

  pub still-right : are_right r next.known (outer_slots next.declared) ≡ true
  still-right = all-inserted al.number.0 (type_slots_of a.declared) (λ (e : ℕ × ℕ). is_slot_for r e.0 (slice_get (outer_slots next.declared) e.1)) a.known is.first
      (ap (are_right r a.known) wide.slots ∙ right-more r a.known (outer_slots a.declared) stands.slot stands.right) new-fits

  pub still-standing : standing_instances r next ≡ standing_instances r a
  still-standing = ap (λ b. if b then filter (stands_around r a.instances (outer_instances next.declared)) (below (length r.interfaces.items)) else []) still-right
      ∙ ap (λ xs. filter (stands_around r a.instances xs) (below (length r.interfaces.items))) wide.instances
      ∙ sym (ap (λ b. if b then filter (stands_around r a.instances (outer_instances a.declared)) (below (length r.interfaces.items)) else []) stands.right)

module _ {E : Type 0} (res : Result ℕ E) (r : Resolve) (outer outer' : Declarations) (foreign : Foreign) (known' : BTreeMap ℕ ℕ) (id : TypeId) (k : ℕ) (name : Text) where
  abbrev new : Aliased
  new = record { number = id; instance = k; name = name }

  pub made-slot : known_slot foreign.known.entries id.0 ≡ None → IfOk res (λ q. q ≡ type_slots_of outer)
      → OnOk res (known'.entries ≡ insert_entry nat_cmp foreign.known.entries id.0 (type_slots_of outer)) → IfOk res (λ q. known_slot known'.entries id.0 ≡ Some q)
  made-slot first ok listed = go res ok listed
    where
      go : {E : Type 0} (res : Result ℕ E) → IfOk res (λ q. q ≡ type_slots_of outer) → OnOk res (known'.entries ≡ insert_entry nat_cmp foreign.known.entries id.0 (type_slots_of outer))
          → IfOk res (λ q. known_slot known'.entries id.0 ≡ Some q)
      go (Ok q) ok listed = ap (λ xs. known_slot xs id.0) listed ∙ new-slot id.0 (type_slots_of outer) foreign.known.entries first ∙ ap Some (sym ok)
      go (Err e) ok listed = ok

  pub made-reaches : IsAlias r (around_at outer foreign) new → OnOk res (outer' ≡ append outer (Declarations.declares (alias_declared new) Declarations.no_more))
      → OnOk res (known'.entries ≡ insert_entry nat_cmp foreign.known.entries id.0 (type_slots_of outer))
      → OnErr res (outer' ≡ outer) → OnErr res (known'.entries ≡ foreign.known.entries) → ReachesAround r id (around_at outer foreign) (around_at outer' (record foreign { known = known' }))
  made-reaches is made listed err same = go res made listed err same
    where
      go : {E : Type 0} (res : Result ℕ E) → OnOk res (outer' ≡ append outer (Declarations.declares (alias_declared new) Declarations.no_more))
          → OnOk res (known'.entries ≡ insert_entry nat_cmp foreign.known.entries id.0 (type_slots_of outer))
          → OnErr res (outer' ≡ outer) → OnErr res (known'.entries ≡ foreign.known.entries) → ReachesAround r id (around_at outer foreign) (around_at outer' (record foreign { known = known' }))
      go (Ok q) made listed err same = aliased new is refl (λ j. record { declared = made j; instances = foreign.instances.entries; known = listed j })
      go (Err e) made listed err same = as_before (λ j. record { declared = err j; instances = foreign.instances.entries; known = same j })

-- the alias is one of the type that was asked for
pub source-alias : (r : Resolve) (a : Around) (j k : ℕ) (id : TypeId) (def : TypeDef) (name : String Global) (shown : Text) → IsSource r a j id.0 → type_at r id.0 ≡ Some def → def.name ≡ Some name
    → shown ≡ text_of name → known_instance a.instances j ≡ Some k → known_slot a.known id.0 ≡ None → IsAlias r a (record { number = id; instance = k; name = shown })
source-alias r a j k id def name shown m at is text listed first = record {
  def = m.def;
  name = m.name;
  interface = record { 0 = j };
  there = m.there;
  named_ = m.named_;
  owned = m.owned;
  text = text ∙ ap text_of (some_is name m.name (sym is ∙ ap (λ (d : TypeDef). d.name) (some_is def m.def (sym at ∙ m.there)) ∙ m.named_));
  stands = m.stands;
  instance = listed;
  first = first;
}

-- what old slots stand for stays, and the same instances stand
pub grown-keeps : (r : Resolve) (a : Around) (made : List Aliased) → AreAliases r a made → Keeps (SlotsStand (outer_slots a.declared)) (SlotsStand (outer_slots (with_aliases a made).declared))
grown-keeps r a [] are i m h = h
grown-keeps r a (x ∷ made) are i m h =
    grown-keeps r (with_alias a x) made are.1 i m (subst (λ xs. SlotsStand xs i m) (sym (wide r a x are.0).slots) (slots-kept (stands r a x are.0).slot (outer_slots a.declared) i m h))

pub grown-stands : (r : Resolve) (a : Around) (made : List Aliased) → AreAliases r a made → standing_instances r (with_aliases a made) ≡ standing_instances r a
grown-stands r a [] are = refl
grown-stands r a (x ∷ made) are = grown-stands r (with_alias a x) made are.1 ∙ still-standing r a x are.0

module _ (r : Resolve) (i : InterfaceId) (a : Around) (ds : List Declaration) (j : ℕ) (id : TypeId) (m : IsImportable (scope_with r (Some i) a (inner_contents (place_in r (Some i)) a.declared ds)) j id.0) where
  abbrev before : Contents
  before = inner_contents (place_in r (Some i)) a.declared ds

  is-sound : is_sound_in r (Some i) before ≡ true
  is-sound = importable-sound (is_sound_in r (Some i) before) (standing_instances r a) j m.stands

  -- what stands around, where a slot of the type is known
  record Reached (a' : Around) (k : ℕ) : Type 0 where
    pub known : KnownSlot r i a' id.0 k
    pub contents : inner_contents (place_in r (Some i)) a'.declared ds ≡ before
    pub standing : standing_instances r a' ≡ standing_instances r a

  was-known : (k : ℕ) → known_slot a.known id.0 ≡ Some k → Reached a k
  was-known k e = record {
    known = known-slot r i a id.0 k (slice_get (outer_slots a.declared) k) refl
        (known-right r a.known (outer_slots a.declared) id.0 k (standing r a j id.0 (has-source r i a before j id.0 m)).right e);
    contents = refl;
    standing = refl;
  }

  was-made : (al : Aliased) (is : IsAlias r a al) (k : ℕ) → known_slot (with_alias a al).known id.0 ≡ Some k → Reached (with_alias a al) k
  was-made al is k e =
      let next = with_alias a al in
      let known = known-slot r i next id.0 k (slice_get (outer_slots next.declared) k) refl (known-right r next.known (outer_slots next.declared) id.0 k (still-right r a al is) e) in
      let contents = contents-wider (place_in r (Some i)) a al (stands r a al is).slot ds (wide r a al is) (first_true before.is_followed _ is-sound) in
      record { known = known; contents = contents; standing = still-standing r a al is }

  reached : (a' : Around) (k : ℕ) → ReachesAround r id a a' → known_slot a'.known id.0 ≡ Some k → Reached a' k
  reached a' k (as_before e) h = subst (λ (z : Around). Reached z k) (sym e) (was-known k (ap (λ (z : Around). known_slot z.known id.0) (sym e) ∙ h))
  reached a' k (aliased al is of_id e) h = subst (λ (z : Around). Reached z k) (sym e) (was-made al is k (ap (λ (z : Around). known_slot z.known id.0) (sym e) ∙ h))

  -- the scope is the same
  same-scope : (a' : Around) (k : ℕ) → Reached a' k → scope_with r (Some i) a' (inner_contents (place_in r (Some i)) a'.declared ds) ≡ scope_with r (Some i) a before
  same-scope a' k h = λ q. scope_from r (Some i) (h.standing q) (h.contents q).shown.functions (is_sound_in r (Some i) (h.contents q))

  pub alias-reached : {E : Type 0} (res : Result ℕ E) (a' : Around) (k : ℕ) (ds' : List Declaration) → ReachesAround r id a a' → known_slot a'.known id.0 ≡ Some k
      → IfOk res (λ k'. (k' ≡ type_slots ds) × (ds' ≡ ds ++ Declaration.alias_of (Alias.of_outer 1 k) ∷ [])) → OnErr res (ds' ≡ ds)
      → Calls res (scope_with r (Some i) a before) (scope_with r (Some i) a' (inner_contents (place_in r (Some i)) a'.declared ds')) before (inner_contents (place_in r (Some i)) a'.declared ds')
      (λ s. s ≡ tree (number_tree r id.0)) (definitions_with (inner_contents (place_in r (Some i)) a'.declared ds') ≡ definitions_with before)
  alias-reached res a' k ds' reaches e ok err =
      let h = reached a' k reaches e in
      let after = inner_contents (place_in r (Some i)) a'.declared ds' in
      let sound : (scope_with r (Some i) a' (inner_contents (place_in r (Some i)) a'.declared ds)).is_sound ≡ true = ap (λ (s : Scope). s.is_sound) (same-scope a' k h) ∙ is-sound in
      subst (λ (s : Scope). Calls res s (scope_with r (Some i) a' after) before after (λ s. s ≡ tree (number_tree r id.0)) (definitions_with after ≡ definitions_with before)) (same-scope a' k h)
      (subst (λ (c : Contents). Calls res (scope_with r (Some i) a' (inner_contents (place_in r (Some i)) a'.declared ds)) (scope_with r (Some i) a' after) c after (λ s. s ≡ tree (number_tree r id.0))
      (definitions_with after ≡ definitions_with c)) h.contents
      (alias-inside res r i a' ds ds' sound k h.known.slot (number_tree r id.0) h.known.at h.known.foreign h.known.kept h.known.stands ok err))

  -- where it is refused, nothing has been defined
  pub alias-refused : {E : Type 0} (res : Result ℕ E) (a' : Around) (k : ℕ) (ds' : List Declaration) → ReachesAround r id a a' → known_slot a'.known id.0 ≡ Some k → OnErr res (ds' ≡ ds)
      → OnErr res (definitions_with (inner_contents (place_in r (Some i)) a'.declared ds') ≡ definitions_with before)
  alias-refused (Ok v) a' k ds' reaches e err = tt
  alias-refused (Err x) a' k ds' reaches e err = ap definitions_with ((λ q. inner_contents (place_in r (Some i)) a'.declared (err q)) ∙ (reached a' k reaches e).contents)

-- ---- the call

module _ {E : Type 0} (res : Result ℕ E) (r : Resolve) (outer outer' : Declarations) (inner : Option OpenInterface) (current : OpenInterface) (foreign : Foreign) (ds' : List Declaration) (is : inner ≡ Some current) where
  abbrev afterwards : Option OpenInterface
  afterwards = Some (record current { foreign = foreign; declared = ds' })

  abbrev pub ImportsTo : Option OpenInterface → ℕ → Type 0
  ImportsTo o n = CallsTo res r outer o outer' afterwards (λ m. m ≡ tree (number_tree r n)) (definitions_with (contents_of r outer' afterwards) ≡ definitions_with (contents_of r outer o))

  pub imported : (j : ℕ) (id : TypeId) (k : ℕ) → IsImportable (encoder_scope r outer inner) j id.0 → ReachesAround r id (around_at outer current.foreign) (around_at outer' foreign)
      → known_slot foreign.known.entries id.0 ≡ Some k
      → IfOk res (λ k'. (k' ≡ type_slots current.declared) × (ds' ≡ current.declared ++ Declaration.alias_of (Alias.of_outer 1 k) ∷ [])) → OnErr res (ds' ≡ current.declared) → ImportsTo inner id.0
  imported j id k m reaches known ok err = subst (λ (o : Option OpenInterface). IsImportable (encoder_scope r outer o) j id.0 → ImportsTo o id.0) (sym is)
      (λ m. alias-reached r current.interface (around_at outer current.foreign) current.declared j id m res (around_at outer' foreign) k ds' reaches known ok err) m

  pub import-refused : (j : ℕ) (id : TypeId) (k : ℕ) → IsImportable (encoder_scope r outer inner) j id.0 → ReachesAround r id (around_at outer current.foreign) (around_at outer' foreign)
      → known_slot foreign.known.entries id.0 ≡ Some k → OnErr res (ds' ≡ current.declared)
      → OnErr res (definitions_with (contents_of r outer' afterwards) ≡ definitions_with (contents_of r outer inner))
  import-refused j id k m reaches known err =
      subst (λ (o : Option OpenInterface). IsImportable (encoder_scope r outer o) j id.0
      → OnErr res (definitions_with (contents_of r outer' afterwards) ≡ definitions_with (contents_of r outer o))) (sym is)
      (λ m. alias-refused r current.interface (around_at outer current.foreign) current.declared j id m res (around_at outer' foreign) k ds' reaches known err) m

  pub imported-stands : (n : ℕ) → ImportsTo inner n → IfOk res (λ k. SlotsStand (contents_of r outer' afterwards).slots k (tree (number_tree r n)))
  imported-stands n q = search std_rules

pub import-source : (r : Resolve) (outer : Declarations) (inner : Option OpenInterface) (current : OpenInterface) → inner ≡ Some current → (j n : ℕ) → IsImportable (encoder_scope r outer inner) j n
    → IsSource r (around_at outer current.foreign) j n
import-source r outer inner current is j n m =
    has-source r current.interface (around_at outer current.foreign) (contents_of r outer (Some current)) j n (subst (λ (o : Option OpenInterface). IsImportable (encoder_scope r outer o) j n) is m)
