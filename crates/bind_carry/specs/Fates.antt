-- What becomes of the types of another `Resolve`.
use Rattle.std.specs.Prelude.{◌≡◌, ◌+◌, ◌&&◌, ℕ, Bool, true, false, List, [], ◌∷◌, ◌++◌, length, map, is_none, slice_get, Some, if◌then◌else◌}
use Rattle.std.specs.{List.list_all, List.AllZip, Option.option_map_or}
use Rattle.wit_model.specs.declared.model.{TypeDef.TypeDef, TypeOwner.TypeOwner}
use Rattle.bind_copy.specs.Copies.{all_below, IsTypeUnder}
use Rattle.bind_union.specs.Views.{kind_view, view_numbers}
use Rattle.bind_carry.specs.Numbers.{numbers_of}
use Rattle.bind_carry.specs.declared.fate.Fate.{Fate}
use Rattle.wit_model.specs.declared.model.TypeOwner.TheVariants as owner
use Rattle.bind_carry.specs.declared.fate.Fate.TheVariants as fate

-- whether a type of this fate has a number from now on
abbrev pub carries : Fate → Bool
carries fate.Left = false
carries (fate.Stands n) = true
carries (fate.Copied home) = true

-- whether it is copied
abbrev pub copies : Fate → Bool
copies fate.Left = false
copies (fate.Stands n) = false
copies (fate.Copied home) = true

-- the number of what it stands for, and 0 where it stands for nothing
abbrev pub stood : Fate → ℕ
stood fate.Left = 0
stood (fate.Stands n) = n
stood (fate.Copied home) = 0

-- whether the type of this number is carried
abbrev pub is_carried : List Fate → ℕ → Bool
is_carried fates n = option_map_or carries (slice_get fates n) false

abbrev pub are_carried : List Fate → List ℕ → Bool
are_carried fates numbers = list_all (is_carried fates) numbers

-- the fate of a type, once it is known whether it may be carried
abbrev pub settled : Fate → Bool → Bool → Fate
settled fate.Left unnamed may = if may && unnamed then fate.Copied owner.None else fate.Left
settled (fate.Stands n) unnamed may = fate.Stands n
settled (fate.Copied home) unnamed may = fate.Copied home

-- the fates in the end, behind those that are settled: where anything is added, a type without a name is copied if all its parts are carried
abbrev pub settled_from : Bool → List Fate → List TypeDef → List Fate → List Fate
settled_from adds done [] fates = done
settled_from adds done (t ∷ ts) [] = done
settled_from adds done (t ∷ ts) (f ∷ fs) = settled_from adds
    (done ++ settled f (is_none t.name) (adds && are_carried done (view_numbers (kind_view t.kind))) ∷ []) ts fs

-- each type refers to types in front of it alone
abbrev pub FallBelow : List TypeDef → Type 0
FallBelow types = (n : ℕ) (def : TypeDef) → slice_get types n ≡ Some def → all_below n (view_numbers (kind_view def.kind)) ≡ true

-- A type has met its fate: what was added before, what is now, and the number that it has.
abbrev pub MeetsFate : ℕ → List ℕ → TypeDef → Fate → List TypeDef → List TypeDef → ℕ → Type 0
MeetsFate own numbers def fate.Left old new n = (n ≡ 0) × (new ≡ old)
MeetsFate own numbers def (fate.Stands k) old new n = (n ≡ k) × (new ≡ old)
MeetsFate own numbers def (fate.Copied home) old new n = (n ≡ own + length old) × ((t : TypeDef) × IsTypeUnder numbers home def t × (new ≡ old ++ t ∷ []))

-- the numbers of types of these fates, where so many are in front of the first copy
abbrev pub numbers_by : ℕ → List Fate → List ℕ
numbers_by first fates = numbers_of first (map copies fates) (map stood fates)

-- the types that are copied, each with its owner
abbrev pub copied_types : List TypeDef → List Fate → List (TypeOwner × TypeDef)
copied_types [] fates = []
copied_types (t ∷ ts) [] = []
copied_types (t ∷ ts) (fate.Left ∷ fs) = copied_types ts fs
copied_types (t ∷ ts) (fate.Stands n ∷ fs) = copied_types ts fs
copied_types (t ∷ ts) (fate.Copied home ∷ fs) = (home, t) ∷ copied_types ts fs

abbrev pub IsCopiedType : List ℕ → TypeOwner × TypeDef → TypeDef → Type 0
IsCopiedType numbers e new = IsTypeUnder numbers e.0 e.1 new

-- All types have met their fates: the copies stand behind what was added before, in their order, under the numbers that all have.
pub record AreCopied (own : ℕ) (numbers : List ℕ) (types : List TypeDef) (fates : List Fate) (old new : List TypeDef) : Type 0 where
  pub numbers_are : numbers ≡ numbers_by (own + length old) fates
  pub more : List TypeDef
  pub behind : new ≡ old ++ more
  pub copied : AllZip (IsCopiedType numbers) (copied_types types fates) more

-- Some types have met their fates, and these are left, with their fates.
pub record AreCopiedSoFar (own : ℕ) (types : List TypeDef) (fates : List Fate) (old : List TypeDef) (numbers : List ℕ) (left_types : List TypeDef)
    (left_fates : List Fate) (new : List TypeDef) : Type 0 where
  pub numbers_are : numbers ++ numbers_by (own + length new) left_fates ≡ numbers_by (own + length old) fates
  pub more : List TypeDef
  pub behind : new ≡ old ++ more
  pub copied : (later : List TypeDef) → AllZip (IsCopiedType (numbers_by (own + length old) fates)) (copied_types left_types left_fates) later
      → AllZip (IsCopiedType (numbers_by (own + length old) fates)) (copied_types types fates) (more ++ later)
