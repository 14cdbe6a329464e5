-- What the slots of a scope stand for, by number.
use Rattle.std.proofs.Common.{rules as std_rules, ◌≡◌, refl, ap, ◌∙◌, ℕ, zero, suc, ◌<◌, ◌+◌, arith, List, [], ◌∷◌, map, Some, None, slice_get}
use Rattle.wit_model.specs.{Meaning.Signature, Tree.Tree}
use Rattle.comp_bytes.specs.declared.forms.PrimitiveValType.{PrimitiveValType}
use Rattle.comp_meaning.specs.Follow.{function_in, value_type, value_in, resource_in, primitive_of_type}
use Rattle.read_follow.specs.declared.slots.Slot.{Slot}
use Rattle.plan_meaning.specs.Shapes.{part_tree}
use Rattle.read_follow.specs.Slots.{slot_in, slots_in, resource_slot, primitive_index, AreInRange, IsName, AreNames}
use Rattle.base_lemmas.proofs.Lists.{mapped_get}
use Rattle.comp_bytes.specs.declared.forms.ComponentValType.TheVariants as values
use Rattle.read_follow.specs.declared.slots.Slot.TheVariants as slots

pub primitive_part : (T : List Tree) (p : PrimitiveValType) → Tree.primitive (primitive_of_type p) ≡ part_tree T (primitive_index p)
unfolding part_tree
primitive_part x y = search std_rules

pub primitive_small : (p : PrimitiveValType) (n : ℕ) → primitive_index p < 14 + n
primitive_small x n = search std_rules

pub mapped_none : {A B : Type 0} (f : A → B) (xs : List A) (n : ℕ) → slice_get xs n ≡ None → slice_get (map f xs) n ≡ None
mapped_none f [] n e = refl
mapped_none f (y ∷ ys) zero e = absurd cc
mapped_none f (y ∷ ys) (suc n) e = mapped_none f ys n e

named_resource : (t : Tree) → IsName t → resource_in (Some (resource_slot t)) ≡ Some t
named_resource x h = search std_rules

-- a resource of the slots is a name
pub name_at : (T : List Tree) (ss : List Slot) (n part : ℕ) → slice_get ss n ≡ Some (slots.Resource part) → AreNames T ss → IsName (part_tree T part)
name_at T [] n part e h = absurd cc
name_at T (slots.Value p ∷ ss) zero part e h = absurd cc
name_at T (slots.Resource p ∷ ss) zero part e h = search std_rules
name_at T (slots.Function m ∷ ss) zero part e h = absurd cc
name_at T (slots.Instance b m ∷ ss) zero part e h = absurd cc
name_at T (slots.Value p ∷ ss) (suc n) part e h = name_at T ss n part e h
name_at T (slots.Resource p ∷ ss) (suc n) part e h = name_at T ss n part e h.1
name_at T (slots.Function m ∷ ss) (suc n) part e h = name_at T ss n part e h
name_at T (slots.Instance b m ∷ ss) (suc n) part e h = name_at T ss n part e h

pub no_function : (t : Tree) → function_in (Some (resource_slot t)) ≡ None
no_function x = search std_rules

module _ (ss : List Slot) (n : ℕ) (T : List Tree) (F : List Signature) where
  -- what the slot of an index stands for
  pub at_slot : (s : Slot) → slice_get ss n ≡ Some s → slice_get (slots_in T F ss) n ≡ Some (slot_in T F s)
  at_slot s e = mapped_get (slot_in T F) ss n s e

  pub no_slot : slice_get ss n ≡ None → slice_get (slots_in T F ss) n ≡ None
  no_slot e = mapped_none (slot_in T F) ss n e

  pub value_part : (part : ℕ) → slice_get ss n ≡ Some (slots.Value part) → value_type (slots_in T F ss) (values.Type_ n) ≡ Some (part_tree T part)
  value_part part e = ap value_in (at_slot (slots.Value part) e)

  pub value_resource : (part : ℕ) → slice_get ss n ≡ Some (slots.Resource part) → value_type (slots_in T F ss) (values.Type_ n) ≡ None
  value_resource part e = ap value_in (at_slot (slots.Resource part) e) ∙ (search std_rules)

  pub value_function : (m : ℕ) → slice_get ss n ≡ Some (slots.Function m) → value_type (slots_in T F ss) (values.Type_ n) ≡ None
  value_function m e = ap value_in (at_slot (slots.Function m) e)

  pub value_instance : (s : Slot) → slice_get ss n ≡ Some s → value_in (Some (slot_in T F s)) ≡ None → value_type (slots_in T F ss) (values.Type_ n) ≡ None
  value_instance s e none = ap value_in (at_slot s e) ∙ none

  pub value_none : slice_get ss n ≡ None → value_type (slots_in T F ss) (values.Type_ n) ≡ None
  value_none e = ap value_in (mapped_none (slot_in T F) ss n e)

  pub resource_part : (part : ℕ) → slice_get ss n ≡ Some (slots.Resource part) → AreNames T ss → resource_in (slice_get (slots_in T F ss) n) ≡ Some (part_tree T part)
  resource_part part e h = ap resource_in (at_slot (slots.Resource part) e) ∙ named_resource (part_tree T part) (name_at T ss n part e h)

  pub no_resource : (s : Slot) → slice_get ss n ≡ Some s → resource_in (Some (slot_in T F s)) ≡ None → resource_in (slice_get (slots_in T F ss) n) ≡ None
  no_resource s e none = ap resource_in (at_slot s e) ∙ none

  pub resource_none : slice_get ss n ≡ None → resource_in (slice_get (slots_in T F ss) n) ≡ None
  resource_none e = ap resource_in (mapped_none (slot_in T F) ss n e)

-- the part of a slot is in range
pub part_below : (n : ℕ) (ss : List Slot) (k part : ℕ) → slice_get ss k ≡ Some (slots.Value part) → AreInRange n ss → part < 14 + n
part_below n [] k part e h = absurd cc
part_below n (slots.Value p ∷ ss) zero part e h = let same : slots.Value p ≡ slots.Value part = cc in let is : p ≡ part = cc in omega (arith, h.0, is)
part_below n (slots.Resource p ∷ ss) zero part e h = absurd cc
part_below n (slots.Function m ∷ ss) zero part e h = absurd cc
part_below n (slots.Instance b m ∷ ss) zero part e h = absurd cc
part_below n (slots.Value p ∷ ss) (suc k) part e h = part_below n ss k part e h.1
part_below n (slots.Resource p ∷ ss) (suc k) part e h = part_below n ss k part e h.1
part_below n (slots.Function m ∷ ss) (suc k) part e h = part_below n ss k part e h
part_below n (slots.Instance b m ∷ ss) (suc k) part e h = part_below n ss k part e h

pub name_below : (n : ℕ) (ss : List Slot) (k part : ℕ) → slice_get ss k ≡ Some (slots.Resource part) → AreInRange n ss → part < 14 + n
name_below n [] k part e h = absurd cc
name_below n (slots.Resource p ∷ ss) zero part e h = let same : slots.Resource p ≡ slots.Resource part = cc in let is : p ≡ part = cc in omega (arith, h.0, is)
name_below n (slots.Value p ∷ ss) zero part e h = absurd cc
name_below n (slots.Function m ∷ ss) zero part e h = absurd cc
name_below n (slots.Instance b m ∷ ss) zero part e h = absurd cc
name_below n (slots.Value p ∷ ss) (suc k) part e h = name_below n ss k part e h.1
name_below n (slots.Resource p ∷ ss) (suc k) part e h = name_below n ss k part e h.1
name_below n (slots.Function m ∷ ss) (suc k) part e h = name_below n ss k part e h
name_below n (slots.Instance b m ∷ ss) (suc k) part e h = name_below n ss k part e h
