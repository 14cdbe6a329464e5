-- Which types without a name are needed: those that functions name which are copied, and parts of all types that are copied.
use Rattle.std.specs.Prelude.{ℕ, suc, Bool, true, false, List, [], ◌∷◌, slice_get, slice_set, unwrap_or, if◌then◌else◌, String}
use Rattle.std.specs.declared.alloc.Global.{Global}
use Rattle.wit_model.specs.declared.model.{Function.Function, Interface.Interface, TypeDef.TypeDef, World.World, WorldItem.WorldItem, WorldKey.WorldKey}
use Rattle.wit_model.specs.Parts.{function_numbers}
use Rattle.bind_copy.specs.Copies.{is_new_under}
use Rattle.bind_carry.specs.{Fates.copies, MadeOf.type_parts}
use Rattle.bind_carry.specs.declared.fate.Fate.{Fate}
use Rattle.wit_model.specs.declared.model.WorldItem.TheVariants as item
use Rattle.wit_model.specs.declared.model.TypeOwner.TheVariants as owner
use Rattle.bind_carry.specs.declared.fate.Fate.TheVariants as fate

-- ---- marks

-- these numbers are marked, too
abbrev pub mark_numbers : List Bool → List ℕ → List Bool
mark_numbers marks [] = marks
mark_numbers marks (n ∷ ns) = mark_numbers (slice_set marks n true) ns

-- the numbers that each of these has
abbrev pub mark_each : {X : Type 0} → (X → List ℕ) → List Bool → List X → List Bool
mark_each numbers marks [] = marks
mark_each numbers marks (x ∷ xs) = mark_each numbers (mark_numbers marks (numbers x)) xs

-- the types that functions name
abbrev pub mark_functions : List Bool → List (String Global × Function) → List Bool
mark_functions marks [] = marks
mark_functions marks (e ∷ es) = mark_functions (mark_numbers marks (function_numbers e.1)) es

-- those that functions of interfaces name whose flags are set
abbrev pub mark_interfaces : List Bool → List Bool → List Interface → List Bool
mark_interfaces marks [] is = marks
mark_interfaces marks (b ∷ bs) [] = marks
mark_interfaces marks (true ∷ bs) (i ∷ is) = mark_interfaces (mark_functions marks i.functions.entries) bs is
mark_interfaces marks (false ∷ bs) (i ∷ is) = mark_interfaces marks bs is

-- those that an item's function names
abbrev pub mark_function_of : List Bool → WorldItem → List Bool
mark_function_of marks (item.Function f) = mark_numbers marks (function_numbers f)
mark_function_of marks (item.Interface id stability docs external_id) = marks
mark_function_of marks (item.Type_ id) = marks

abbrev pub mark_all : List Bool → List (WorldKey × WorldItem) → List Bool
mark_all marks [] = marks
mark_all marks (e ∷ es) = mark_all (mark_function_of marks e.1) es

-- those that functions of worlds name whose flags are set
abbrev pub mark_worlds_of : List Bool → List Bool → List World → List Bool
mark_worlds_of marks [] ws = marks
mark_worlds_of marks (b ∷ bs) [] = marks
mark_worlds_of marks (true ∷ bs) (w ∷ ws) = mark_worlds_of (mark_all (mark_all marks w.imports.entries) w.exports.entries) bs ws
mark_worlds_of marks (false ∷ bs) (w ∷ ws) = mark_worlds_of marks bs ws

-- those that functions name among items whose keys have no item here
abbrev pub mark_new : List ℕ → List (WorldKey × WorldItem) → List Bool → List (WorldKey × WorldItem) → List Bool
mark_new interfaces here marks [] = marks
mark_new interfaces here marks (e ∷ es) = mark_new interfaces here (if is_new_under interfaces here e.0 then mark_function_of marks e.1 else marks) es

-- ---- what is copied in the end

-- a type without a name is left, if it isn't needed
abbrev pub pruned : Fate → Bool → Fate
pruned (fate.Copied owner.None) needed = if needed then fate.Copied owner.None else fate.Left
pruned (fate.Copied (owner.Interface id)) needed = fate.Copied (owner.Interface id)
pruned (fate.Copied (owner.World id)) needed = fate.Copied (owner.World id)
pruned fate.Left needed = fate.Left
pruned (fate.Stands n) needed = fate.Stands n

-- the parts of what is copied
abbrev pub mark_parts : List Bool → TypeDef → Fate → List Bool
mark_parts marks t f = if copies f then mark_numbers marks (type_parts t) else marks

-- Which types are needed, beside those that are marked: parts of what is copied. The list is gone through from its end, since a type refers to earlier ones
-- alone; its first type has this number.
abbrev pub needed_of : List Bool → ℕ → List TypeDef → List Fate → List Bool
needed_of marks place [] fs = marks
needed_of marks place (t ∷ ts) [] = marks
needed_of marks place (t ∷ ts) (f ∷ fs) =
    mark_parts (needed_of marks (suc place) ts fs) t (pruned f (unwrap_or (slice_get (needed_of marks (suc place) ts fs) place) false))

-- the fates in the end
abbrev pub pruned_by : List Bool → List Fate → List Fate
pruned_by needs [] = []
pruned_by [] (f ∷ fs) = f ∷ fs
pruned_by (b ∷ bs) (f ∷ fs) = pruned f b ∷ pruned_by bs fs

-- the same where these types are marked
abbrev pub needed_alone : List Bool → List TypeDef → List Fate → List Fate
needed_alone marks types fates = pruned_by (needed_of marks 0 types fates) fates
