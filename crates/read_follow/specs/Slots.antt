-- What the slots of a scope stand for, where T are the trees of the table, and F the types of functions by number.
use Rattle.std.specs.Prelude.{◌<◌, ◌+◌, ℕ, false, List, [], ◌∷◌, map, IfErr, None, Option, Result, slice_get, unwrap_or}
use Rattle.wit_model.specs.{Meaning.Signature, Tree.Tree}
use Rattle.comp_bytes.specs.declared.forms.PrimitiveValType.{PrimitiveValType}
use Rattle.comp_meaning.specs.Follow.{Slot as Meant, value, resource, function, instance, primitive_of_type}
use Rattle.comp_meaning.specs.Same.{primitive_number}
use Rattle.read_follow.specs.declared.{slots.Slot.Slot, refusal.Refusal.Refusal}
use Rattle.read_follow.specs.{Found.Refuses, Bodies.held_declaration_at, Bodies.items_in}
use Rattle.plan_meaning.specs.Shapes.{part_tree}
use Rattle.read_follow.specs.declared.slots.Slot.TheVariants as slots

-- a resource by its name
abbrev pub resource_slot : Tree → Meant
resource_slot (Tree.named place name) = resource place name
resource_slot t = instance [] 0

abbrev pub no_signature : Signature
no_signature = record { is_async = false; params = []; result = None }

abbrev pub slot_in : List Tree → List Signature → Slot → Meant
slot_in T F (slots.Value part) = value (part_tree T part)
slot_in T F (slots.Resource part) = resource_slot (part_tree T part)
slot_in T F (slots.Function n) = function (unwrap_or (slice_get F n) no_signature)
slot_in T F (slots.Instance b n) = instance (items_in held_declaration_at b) n

abbrev pub slots_in : List Tree → List Signature → List Slot → List Meant
slots_in T F ss = map (slot_in T F) ss

-- what an index stands for, if it is in scope
abbrev pub found_slot : List Tree → List Signature → List Slot → ℕ → Option Meant
found_slot T F ss n = slice_get (slots_in T F ss) n

-- the type of a function by its number
abbrev pub signature_in : List Signature → ℕ → Signature
signature_in F n = unwrap_or (slice_get F n) no_signature

-- A refusal of what is read over a scope: nothing is read, unless memory ran out.
abbrev pub RefusedOver : {X A : Type 0} → List Slot → (List Meant → Option A) → Result X Refusal → Type 0
RefusedOver ss meaning result = IfErr result (λ e. (T : List Tree) (F : List Signature) → Refuses e (meaning (slots_in T F ss)))

abbrev pub primitive_index : PrimitiveValType → ℕ
primitive_index p = primitive_number (primitive_of_type p)

-- each part is a primitive, or one of the first so many numbers
abbrev pub AreInRange : ℕ → List Slot → Type 0
AreInRange n [] = Unit {0}
AreInRange n (slots.Value part ∷ rest) = (part < 14 + n) × AreInRange n rest
AreInRange n (slots.Resource part ∷ rest) = (part < 14 + n) × AreInRange n rest
AreInRange n (slots.Function m ∷ rest) = AreInRange n rest
AreInRange n (slots.Instance b m ∷ rest) = AreInRange n rest

abbrev pub IsName : Tree → Type 0
IsName (Tree.primitive p) = ⊥
IsName (Tree.named place name) = Unit {0}
IsName (Tree.node form ts) = ⊥

-- each resource is a name
abbrev pub AreNames : List Tree → List Slot → Type 0
AreNames T [] = Unit {0}
AreNames T (slots.Value part ∷ rest) = AreNames T rest
AreNames T (slots.Resource part ∷ rest) = IsName (part_tree T part) × AreNames T rest
AreNames T (slots.Function m ∷ rest) = AreNames T rest
AreNames T (slots.Instance b m ∷ rest) = AreNames T rest
