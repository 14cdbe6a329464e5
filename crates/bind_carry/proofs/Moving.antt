-- Things that are moved one after the other to the places that were made for them.
use Rattle.bind_carry.specs.{Fates.IsCopiedType, Fates.copied_types, Fates.copies, Fates.numbers_by, Moved.AreMoved, Moved.AreMovedSoFar, Moved.IsMovedBy, Moved.MeetsPlace, TooLong.copies_of, Whole.kept, declared.fate.Fate.Fate}
use Rattle.bind_union.proofs.Lists.{no_true}
use Rattle.std.proofs.Common.{Bool, List, [], ap, append-nil, append_assoc, arith, drop, false, length, refl, rules as std_rules, set, subst, sym, true, ℕ, ◌++◌, ◌+◌, ◌<◌, ◌∙◌, ◌∷◌, ◌≡◌, ◌≤◌}
use Rattle.std.proofs.{Math.Seq.set-append_seam, lemmas.List.drop_more, lemmas.List.length-append, lemmas.List.length-drop}
use Rattle.std.specs.List.{AllZip}
use Rattle.wit_model.specs.declared.model.{TypeDef.TypeDef, TypeOwner.TypeOwner}
use Rattle.bind_carry.specs.declared.fate.Fate.TheVariants as fate

module _ {X Y : Type 0} (P : X → Y → Type 0) (xs : List X) where
  -- nothing is moved yet
  pub none_moved : (old : List Y) → length xs ≤ length old → AreMovedSoFar P xs xs old old 0
  none_moved old room = record { moved = []; count = refl; placed = refl; so_far = λ later z. z; room = omega (arith, room) }

  -- there is a place for one that is left
  pub has_place : (left rest : List X) (old now : List Y) (place : ℕ) (x : X) → left ≡ x ∷ rest → AreMovedSoFar P xs left old now place → place < length old
  has_place left rest old now place x at s = let room = s.room in let long = ap length at in omega (arith, room, long)

  -- and the list of places is as long as it was
  pub place_there : (left rest : List X) (old now : List Y) (place : ℕ) (x : X) → left ≡ x ∷ rest → AreMovedSoFar P xs left old now place → place < length now
  place_there left rest old now place x at s = search (std_rules, has_place, length-append, length-drop)

  -- one more is moved
  pub one_moved : (left rest : List X) (old now new : List Y) (place : ℕ) (x : X) (y : Y) → left ≡ x ∷ rest → P x y → new ≡ set now place y → AreMovedSoFar P xs left old now place
      → AreMovedSoFar P xs rest old new (place + 1)
  one_moved left rest old now new place x y at p is s = record {
    moved = s.moved ++ y ∷ [];
    count = let count = s.count in let both = length-append s.moved (y ∷ []) in omega (arith, count, both);
    placed = is ∙ ((λ i. set ((s.placed ∙ ap (λ l. s.moved ++ l) (drop_more old place y (has_place left rest old now place x at s))) i) (sym s.count i) y)
        ∙ (set-append_seam s.moved _ (drop (place + 1) old) y ∙ sym (append_assoc s.moved (y ∷ []) (drop (place + 1) old))));
    so_far = λ later z. subst (AllZip P xs) (sym (append_assoc s.moved (y ∷ []) later)) (s.so_far (y ∷ later) (subst (λ l. AllZip P l (y ∷ later)) (sym at) (p, z)));
    room = let room = s.room in let long = ap length at in omega (arith, room, long);
  }

  -- all are moved
  pub all_moved : (left : List X) (old now : List Y) (place : ℕ) → left ≡ [] → AreMovedSoFar P xs left old now place → AreMoved P xs old now
  all_moved left old now place none s = search (std_rules, append-nil s.moved)

  -- one is moved where its flag is set, and left where it isn't
  pub flag_moved : (b : Bool) (fs : List Bool) (x : X) (ns left : List X) (old now new : List Y) (place next : ℕ) → left ≡ kept (b ∷ fs) (x ∷ ns)
      → (b ≡ true → (y : Y) × P x y × (new ≡ set now place y) × (next ≡ place + 1)) → (b ≡ false → (new ≡ now) × (next ≡ place)) → AreMovedSoFar P xs left old now place
      → AreMovedSoFar P xs (kept fs ns) old new next
  flag_moved y fs x ns left old now new place next at moved stays s = search (std_rules, one_moved)

-- ---- numbers and places of types

module _ (own : ℕ) (fs : List Fate) (old new : List TypeDef) (n : ℕ) where
  one_numbered : (numbers whole : List ℕ) (f : Fate) → MeetsPlace own f old new n → numbers ++ numbers_by (own + length old) (f ∷ fs) ≡ whole
      → (numbers ++ n ∷ []) ++ numbers_by (own + length new) fs ≡ whole
  one_numbered numbers whole x met so = search (std_rules, append_assoc)

  -- one more has its number
  pub number_more : (numbers whole : List ℕ) (f : Fate) (left : List Fate) → left ≡ f ∷ fs → MeetsPlace own f old new n → numbers ++ numbers_by (own + length old) left ≡ whole
      → (numbers ++ n ∷ []) ++ numbers_by (own + length new) fs ≡ whole
  number_more numbers whole f left at met so = one_numbered numbers whole f met (ap (λ l. numbers ++ numbers_by (own + length old) l) (sym at) ∙ so)

  one_placed : (whole : ℕ) (f : Fate) → MeetsPlace own f old new n → length old + copies_of (f ∷ fs) ≡ whole → length new + copies_of fs ≡ whole
  one_placed whole x met so = search std_rules

  -- and a place, if it is copied
  pub place_more : (whole : ℕ) (f : Fate) (left : List Fate) → left ≡ f ∷ fs → MeetsPlace own f old new n → length old + copies_of left ≡ whole → length new + copies_of fs ≡ whole
  place_more whole f left at met so = one_placed whole f met (ap (λ l. length old + copies_of l) (sym at) ∙ so)

-- ---- where nothing was there before

pub numbers_first : (own first : ℕ) (none : List TypeDef) (fates same : List Fate) (numbers : List ℕ) → own ≡ first → none ≡ [] → fates ≡ same
    → numbers ≡ numbers_by (own + length none) fates → numbers ≡ numbers_by first same
numbers_first own first none fates same numbers many empty are is = search std_rules

pub places_first : (none : List TypeDef) (fates same : List Fate) (places : List TypeDef) → none ≡ [] → fates ≡ same → length places ≡ length none + copies_of fates → length places ≡ copies_of same
places_first none fates same places empty are is = search std_rules

-- ---- types that are moved

-- none is copied where no fate is left
pub no_types : (ts : List TypeDef) (fs : List Fate) → fs ≡ [] → copied_types ts fs ≡ []
no_types [] fs none = refl
no_types (t ∷ ts) fs none = ap (copied_types (t ∷ ts)) none

module _ (numbers : List ℕ) (xs : List (TypeOwner × TypeDef)) (fs : List Fate) (t : TypeDef) (ts : List TypeDef) (left : List (TypeOwner × TypeDef)) (old now : List TypeDef) (place : ℕ) where
  -- there is a place for one that is copied
  pub fate_room : (f : Fate) → left ≡ copied_types (t ∷ ts) (f ∷ fs) → copies f ≡ true → AreMovedSoFar (IsCopiedType numbers) xs left old now place → place < length now
  fate_room (fate.Copied home) at is s = place_there (IsCopiedType numbers) xs left (copied_types ts fs) old now place (home, t) at s
  fate_room _ at is s = no_true is

  -- and there it is moved, and all else is left
  pub fate_moved : (f : Fate) (new : List TypeDef) (next : ℕ) → left ≡ copied_types (t ∷ ts) (f ∷ fs) → IsMovedBy numbers f t place now new next
      → AreMovedSoFar (IsCopiedType numbers) xs left old now place → AreMovedSoFar (IsCopiedType numbers) xs (copied_types ts fs) old new next
  fate_moved x new next at m s = search (std_rules, one_moved)

-- it is the same of lists that are the same
pub moved_from : (types numbers : List ℕ) (fates same : List Fate) (defs old before new : List TypeDef) → numbers ≡ types → same ≡ fates → before ≡ old
    → AreMoved (IsCopiedType numbers) (copied_types defs same) before new → AreMoved (IsCopiedType types) (copied_types defs fates) old new
moved_from types numbers fates same defs old before new of_numbers of_fates of_places are = search std_rules
