-- Entries that are found one by one, and the first that isn't.
use Rattle.std.proofs.Common.{rules as std_rules, ℕ, ◌≡◌, refl, sym, ap, subst, ◌∙◌, ◌+◌, ◌<◌, ◌≤◌, Bool, cond, inl, inr, List, [], ◌∷◌, ◌++◌, map, take, drop, get_or, length, Option, Some, None, option_map}
use Rattle.std.proofs.lemmas.List.{drop_more, map-append, take-append-drop, take_all, take_more}
use Rattle.std.proofs.lemmas.List.Elements.{Contains-append_right, Contains-get_or, Contains-push_cases}
use Rattle.std.specs.List.{Contains}
use Rattle.wit_model.specs.declared.{model.Resolve.Resolve, error.Error.Error}
use Rattle.compat_meaning.specs.declared.part.Entry.{Entry}
use Rattle.compat_meaning.specs.Compatible.{IsFault, is_missing, is_other, missing, differs, spelled_name, IsMemoryOr, IsEntryFault, IsFaultOf, IsIncluded}
use Rattle.compat_meaning.specs.Flat.{FlatName, Thing, FlatShown, all_shown, find_named, shown}
use Rattle.compat_meaning.specs.{Parts.named_thing, Parts.thing_of, Walk.Pair, Walk.pairs_of_entry, Walk.pairs_shared, Table.AreAmong, Table.AreReached}
use Rattle.compat_meaning.proofs.{Either.flat_from}
use Rattle.wit_compat.proofs.{Settling.reached_join}
use Rattle.wit_model.proofs.Elements.{contains-flat}
use Rattle.base_lemmas.proofs.{Elements.contains-map as contains_mapped, Elements.map_from as contains_map, Lists.map_of_map}

-- ---- look-ups

chosen : {X Y : Type 0} (f : X → Y) (b : Bool) (x : X) (o : Option X) → option_map f (cond b (Some x) o) ≡ cond b (Some (f x)) (option_map f o)
chosen f x y o = search std_rules

pub found_shown : (r : Resolve) (name : FlatName) (xs : List (FlatName × Thing)) → find_named name (all_shown r xs) ≡ option_map (shown r) (find_named name xs)
found_shown r name [] = refl
found_shown r name (x ∷ xs) = search (std_rules, chosen, found_shown r name xs)

-- ---- what is wrong with an entry

pub entry_missing : (large : List (FlatName × FlatShown)) (x : FlatName × FlatShown) (e : Error) → find_named x.0 large ≡ None → IsMemoryOr (missing (spelled_name x.0)) e → IsEntryFault large x e
entry_missing large x e none (inl m) = inl m
entry_missing large x e none (inr q) = inr (missing (spelled_name x.0), q, subst (λ o. IsFault x.0 x.1 o (missing (spelled_name x.0))) (sym none) is_missing)

pub entry_differs : (large : List (FlatName × FlatShown)) (x : FlatName × FlatShown) (o : FlatShown) (e : Error) → find_named x.0 large ≡ Some o → (o ≡ x.1 → ⊥)
    → IsMemoryOr (differs (spelled_name x.0)) e
    → IsEntryFault large x e
entry_differs large x o e found other (inl m) = inl m
entry_differs large x o e found other (inr q) = inr (differs (spelled_name x.0), q, subst (λ p. IsFault x.0 x.1 p (differs (spelled_name x.0))) (sym found) (is_other o other))

-- ---- a list of entries

abbrev pub shown_entry : Resolve → Entry → FlatName × FlatShown
shown_entry r e = ((named_thing e).0, shown r (thing_of e.part))

shown_all : (r : Resolve) (es : List Entry) → all_shown r (map named_thing es) ≡ map (shown_entry r) es
shown_all r es = map_of_map (λ (x : FlatName × Thing). (x.0, shown r x.1)) named_thing es

-- each entry stands in the large list, and the pairs of the two stand in the table
abbrev pub Stands : Resolve → Bool → List (FlatName × Thing) → List Pair → Entry → Type 0
Stands r back large keys e = (find_named (named_thing e).0 (all_shown r large) ≡ Some (shown r (thing_of e.part))) × AreAmong (pairs_of_entry r back large (named_thing e)) keys

abbrev pub AllStand : Resolve → Bool → List (FlatName × Thing) → List Pair → List Entry → Type 0
AllStand r back large keys es = (e : Entry) → Contains es e → Stands r back large keys e

split_at : {X : Type 0} (xs : List X) (i : ℕ) (x : X) → i < length xs → x ≡ get_or xs i x → xs ≡ take i xs ++ x ∷ drop (i + 1) xs
split_at xs i x lt is = sym (take-append-drop i xs) ∙ ap (λ ys. take i xs ++ ys) (drop_more xs i x lt ∙ ap (λ y. y ∷ drop (i + 1) xs) (sym is))

module _ (r : Resolve) (back : Bool) (large : List (FlatName × Thing)) where
  pub all_included : (keys : List Pair) (es : List Entry) → AllStand r back large keys es → IsIncluded (all_shown r (map named_thing es)) (all_shown r large)
  all_included keys es h x c = search (std_rules, contains_map (shown_entry r) es x (subst (λ xs. Contains xs x) (shown_all r es) c), shown_all r es)

  pub all_hold : (keys : List Pair) (es : List Entry) → AllStand r back large keys es → AreAmong (pairs_shared r back (map named_thing es) large) keys
  all_hold keys es h p c =
      let w = flat_from (pairs_of_entry r back large) (map named_thing es) p c in
      let v = contains_map named_thing es w.0 w.1 in
      (h v.0 v.1).1 p (subst (λ x. Contains (pairs_of_entry r back large x) p) (sym v.2) w.2)

  pub stand_all : (keys : List Pair) (es : List Entry) (i : ℕ) → length es ≤ i → AllStand r back large keys (take i es) → AllStand r back large keys es
  stand_all keys es i past h = subst (AllStand r back large keys) (take_all i es past) h

  stand_pushed : (old new : List Pair) (es : List Entry) (e : Entry) → AllStand r back large old es → AreAmong old new → Stands r back large new e → AllStand r back large new (es ++ e ∷ [])
  stand_pushed old new es e h kept s x c = search (std_rules, Contains-push_cases es e x c)

  -- an entry that doesn't stand, after those that do
  fault_between : (keys : List Pair) (front rest : List Entry) (e : Entry) (x : Error) → AllStand r back large keys front → IsEntryFault (all_shown r large) (shown_entry r e) x
      → IsFaultOf (all_shown r (map named_thing (front ++ e ∷ rest))) (all_shown r large) x
  fault_between keys front rest e x h y = search (
    std_rules,
    shown_all r (front ++ e ∷ rest),
    map-append (shown_entry r) front (e ∷ rest),
    shown_all r front,
    shown_all r rest,
    all_included keys front h,
  )

  -- the entry that a loop has come to
  module _ (es : List Entry) (i : ℕ) (e : Entry) (lt : i < length es) (is : e ≡ get_or es i e) where
    pub stand_more : (old new : List Pair) → AllStand r back large old (take i es) → AreAmong old new → Stands r back large new e → AllStand r back large new (take (i + 1) es)
    stand_more old new h kept s = subst (AllStand r back large new) (sym (take_more es i e lt ∙ ap (λ x. take i es ++ x ∷ []) (sym is))) (stand_pushed old new (take i es) e h kept s)

    -- what is reached from what has been reached, and one entry's pairs
    pub reached_more : (roots mid new : List Pair) → AreReached r (roots ++ pairs_shared r back (map named_thing es) large) mid → AreReached r (mid ++ pairs_of_entry r back large (named_thing e)) new
        → AreReached r (roots ++ pairs_shared r back (map named_thing es) large) new
    reached_more roots mid new h j = reached_join r (roots ++ pairs_shared r back (map named_thing es) large) mid (pairs_of_entry r back large (named_thing e)) new h
        (λ q x. Contains-append_right roots _ q (contains-flat (pairs_of_entry r back large) (map named_thing es) (named_thing e) q
        (contains_mapped named_thing es e (subst (Contains es) (sym is) (Contains-get_or es i e lt))) x)) j

    pub first_fault : (keys : List Pair) (x : Error) → AllStand r back large keys (take i es) → IsEntryFault (all_shown r large) (shown_entry r e) x
        → IsFaultOf (all_shown r (map named_thing es)) (all_shown r large) x
    first_fault keys x h y = subst (λ xs. IsFaultOf (all_shown r (map named_thing xs)) (all_shown r large) x) (sym (split_at es i e lt is)) (fault_between keys (take i es) (drop (i + 1) es) e x h y)
