-- How many are copied.
use Rattle.std.proofs.Common.{rules as std_rules, ◌≡◌, refl, ℕ, ◌+◌, ◌≤◌, Bool, true, false, arith, List, [], ◌∷◌, ◌++◌, length}
use Rattle.std.specs.{List.AllZip, Prelude.Option}
use Rattle.wit_model.specs.declared.model.{Interface.Interface, PackageId.PackageId, TypeDef.TypeDef}
use Rattle.bind_carry.specs.declared.fate.Fate.{Fate}
use Rattle.bind_carry.specs.{Fates.copied_types, Fates.AreCopied, Fates.MeetsFate, BoundGains.AreInlineCopied, Whole.kept, Numbers.copied_count, TooLong.copies_of}
use Rattle.base_lemmas.proofs.Elements.{zip_long}
use Rattle.bind_carry.specs.declared.fate.Fate.TheVariants as fate

-- at most as many are kept as flags are set
pub kept_few : {X : Type 0} (bs : List Bool) (xs : List X) → length (kept bs xs) ≤ copied_count bs
kept_few (true ∷ bs) (x ∷ xs) = let r = kept_few bs xs in omega (arith, r)
kept_few (false ∷ bs) (x ∷ xs) = kept_few bs xs
kept_few _ _ = omega arith

-- and as many where each has a flag
pub kept_all : {X : Type 0} (bs : List Bool) (xs : List X) → length bs ≡ length xs → length (kept bs xs) ≡ copied_count bs
kept_all [] xs long = refl
kept_all (b ∷ bs) [] long = absurd (omega (arith, long))
kept_all (true ∷ bs) (x ∷ xs) long = let r = kept_all bs xs (omega (arith, long)) in omega (arith, r)
kept_all (false ∷ bs) (x ∷ xs) long = kept_all bs xs (omega (arith, long))

-- lists that go together are of one length

pub length_both : {X : Type 0} (xs ys : List X) → length (xs ++ ys) ≡ length xs + length ys
length_both [] ys = omega arith
length_both (x ∷ xs) ys = let r = length_both xs ys in omega (arith, r)

-- ---- types

-- as many types are copied as have such fates
pub types_counted : (ts : List TypeDef) (fs : List Fate) → length fs ≡ length ts → length (copied_types ts fs) ≡ copies_of fs
types_counted [] [] long = refl
types_counted (t ∷ ts) (fate.Left ∷ fs) long = types_counted ts fs (omega (arith, long))
types_counted (t ∷ ts) (fate.Stands n ∷ fs) long = types_counted ts fs (omega (arith, long))
types_counted (t ∷ ts) (fate.Copied home ∷ fs) long = let r = types_counted ts fs (omega (arith, long)) in omega (arith, r)
types_counted _ _ long = absurd (omega (arith, long))

-- a type that met its fate is counted
pub counted_more : (own : ℕ) (numbers : List ℕ) (def : TypeDef) (f : Fate) (old new : List TypeDef) (n : ℕ) (fs left : List Fate) (whole : ℕ) → left ≡ f ∷ fs → MeetsFate own numbers def f old new n
    → length old + copies_of left ≡ whole → length new + copies_of fs ≡ whole
counted_more own numbers def x old new n fs left whole at met so = search (std_rules, length_both)

-- behind what was added before stand as many as are copied
pub copied_long : (own : ℕ) (numbers : List ℕ) (types : List TypeDef) (fates : List Fate) (old new : List TypeDef) → length fates ≡ length types → AreCopied own numbers types fates old new
    → length new ≡ length old + copies_of fates
copied_long own numbers types fates old new long c = search (std_rules, zip_long, length_both, types_counted)

-- ---- inline interfaces

-- at most as many stand behind as flags are set
pub inline_long : (types : List ℕ) (home : Option PackageId) (copied : List Bool) (interfaces old new : List Interface) → AreInlineCopied types home copied interfaces old new
    → length new ≤ length old + copied_count copied
inline_long types home copied interfaces old new c = search (std_rules, zip_long, length_both, kept_few)

-- and as many where each has a flag
pub inline_all : (types : List ℕ) (home : Option PackageId) (copied : List Bool) (interfaces old new : List Interface) → length copied ≡ length interfaces
    → AreInlineCopied types home copied interfaces old new → length new ≡ length old + copied_count copied
inline_all types home copied interfaces old new count c = search (std_rules, zip_long, length_both, kept_all)

-- ---- lists that are made of what is kept

-- at most as many as flags are set
pub carried_few : {X Y : Type 0} (P : X → Y → Type 0) (flags : List Bool) (xs : List X) (ys : List Y) → AllZip P (kept flags xs) ys → length ys ≤ copied_count flags
carried_few P flags xs ys h = let long = zip_long P (kept flags xs) ys h in let few = kept_few flags xs in omega (arith, long, few)

-- and as many where each has a flag
pub carried_all : {X Y : Type 0} (P : X → Y → Type 0) (flags : List Bool) (xs : List X) (ys : List Y) → length flags ≡ length xs → AllZip P (kept flags xs) ys → length ys ≡ copied_count flags
carried_all P flags xs ys count h = let long = zip_long P (kept flags xs) ys h in let all = kept_all flags xs count in omega (arith, long, all)
