-- What one more declaration adds to what has been declared in a scope.
use Rattle.std.proofs.Common.{◌≡◌, refl, sym, subst, ap, ◌∙◌, ℕ, zero, suc, ◌+◌, ◌⊎◌, inl, inr, true, ◌&&◌, List, [], ◌∷◌, ◌++◌, Option, Some, length, length-append, arith}
use Rattle.std.proofs.lemmas.{List.Folds.list_all-append, Bool.and_from as both}
use Rattle.std.specs.List.{list_all}
use Rattle.wit_model.specs.declared.model.{Resolve.Resolve, InterfaceId.InterfaceId}
use Rattle.comp_meaning.specs.Follow.{Slot}
use Rattle.encode_types.specs.{Slots.Standing, Slots.Adds, Slots.SlotAdded, Slots.SlotsGrow, Known.Around}
use Rattle.wit_encode.specs.Instance.{standing_at, SlotsStand, is_slot_of, Contents, resources_in, standing_instances, scope_from, scope_with}
use Rattle.base_lemmas.proofs.Bools.{right_of as second_true}

-- ---- one slot more

module _ (x : Slot) where
  pub slots-kept : (xs : List Slot) (i : ℕ) (m : Standing) → SlotsStand xs i m → SlotsStand (xs ++ x ∷ []) i m
  slots-kept [] i m h = absurd cc
  slots-kept (y ∷ ys) zero m h = h
  slots-kept (y ∷ ys) (suc i) m h = slots-kept ys i m h

  slots-new : (xs : List Slot) (m : Standing) → standing_at (Some x) ≡ Some m → SlotsStand (xs ++ x ∷ []) (length xs) m
  slots-new [] m h = h
  slots-new (y ∷ ys) m h = slots-new ys m h

  slots-only : (xs : List Slot) (i : ℕ) (m : Standing) → SlotsStand (xs ++ x ∷ []) i m → SlotsStand xs i m ⊎ ((i ≡ length xs) × (standing_at (Some x) ≡ Some m))
  slots-only [] zero m h = inr (refl, h)
  slots-only [] (suc i) m h = absurd cc
  slots-only (y ∷ ys) zero m h = inl h
  slots-only (y ∷ ys) (suc i) m h = elim (slots-only ys i m h) [ inl q ↦ inl q | inr q ↦ inr (ap suc q.0, q.1) ]

-- what stands in a slot
pub record IsOf (x : Slot) (P : Standing → Type 0) : Type 0 where
  pub gives : (m : Standing) → P m → standing_at (Some x) ≡ Some m
  pub only : (m : Standing) → standing_at (Some x) ≡ Some m → P m

-- ---- contents with one slot more, which can still be followed

pub record Grew (c c' : Contents) (x : Slot) : Type 0 where
  pub slots : c'.slots ≡ c.slots ++ x ∷ []
  pub functions_shown : c'.shown.functions ≡ c.shown.functions
  pub followed : c'.is_followed ≡ c.is_followed

pub grew-adds : (c c' : Contents) (x : Slot) (i : ℕ) (P : Standing → Type 0) → Grew c c' x → i ≡ length c.slots → IsOf x P
    → SlotAdded (SlotsStand c.slots) (SlotsStand c'.slots) (length c.slots) (length c'.slots) i P
grew-adds c c' x i P g e o = record {
  index = e;
  one_more = ap length g.slots ∙ length-append c.slots (x ∷ []);
  adds = subst (λ (zs : List Slot). Adds (SlotsStand c.slots) (SlotsStand zs) i P) (sym g.slots) (subst (λ (k : ℕ). Adds (SlotsStand c.slots) (SlotsStand (c.slots ++ x ∷ [])) k P) (sym e) (record {
    kept = λ j m h. slots-kept x c.slots j m h;
    new = λ m p. slots-new x c.slots m (o.gives m p);
    only = λ j m h. elim (slots-only x c.slots j m h) [ inl q ↦ inl q | inr q ↦ inr (q.0, o.only m q.1) ];
  }));
}

pub grew-grows : (c c' : Contents) (x : Slot) → Grew c c' x → SlotsGrow (SlotsStand c.slots) (SlotsStand c'.slots) (length c.slots) (length c'.slots)
grew-grows c c' x g = record {
  kept = λ j m h. subst (λ (zs : List Slot). SlotsStand zs j m) (sym g.slots) (slots-kept x c.slots j m h);
  more = omega (arith, ap length g.slots ∙ length-append c.slots (x ∷ []));
}

-- the surroundings stay
pub grew-scope : (r : Resolve) (interface : Option InterfaceId) (around : Around) (c c' : Contents) (x : Slot) → Grew c c' x → is_slot_of (resources_in r interface) x ≡ true
    → (scope_with r interface around c).is_sound ≡ true → scope_with r interface around c' ≡ scope_with r interface around c
grew-scope r interface around c c' x g o sound =
    let test = is_slot_of (resources_in r interface) in
    let all : list_all test c.slots ≡ true = second_true c.is_followed (list_all test c.slots) sound in
    let all' : list_all test c'.slots ≡ true = ap (list_all test) g.slots ∙ list_all-append test c.slots (x ∷ []) ∙ both (list_all test c.slots) (test x && true) all (both (test x) true o refl) in
    λ i. scope_from r interface (standing_instances r around) (g.functions_shown i) (g.followed i && (all' ∙ sym all) i)
