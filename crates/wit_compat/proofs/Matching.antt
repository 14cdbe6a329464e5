-- Lists in which the same is found have the same included, the same faults and the same pairs.
use Rattle.std.proofs.Common.{rules as std_rules, ◌≡◌, refl, sym, ap, subst, ◌∙◌, Bool, inl, inr, List, [], ◌∷◌, ◌++◌, map, option_map, Result, OnOk, IfErr, MatchResult}
use Rattle.std.specs.{List.Contains, Option.option_map_or}
use Rattle.wit_model.specs.declared.{model.Resolve.Resolve, error.Error.Error}
use Rattle.compat_meaning.specs.declared.part.Entry.{Entry}
use Rattle.compat_meaning.specs.{Compatible.IsFaultOf, Compatible.IsIncluded, Flat.FlatName, Flat.Thing, Flat.FlatShown, Flat.all_shown, Flat.find_named, Flat.shown, Parts.named_thing, Parts.EntriesInRange, Parts.FoundInRange, Parts.ThingInRange, Walk.pairs_between, Walk.pairs_shared}
use Rattle.wit_compat.proofs.{Including.found_shown, Transitive.found_stands}
use Rattle.base_lemmas.proofs.Elements.{contains-map as contains_mapped}

-- the same is found in both
abbrev pub AreAlike : List (FlatName × Thing) → List (FlatName × Thing) → Type 0
AreAlike xs ys = (name : FlatName) → find_named name xs ≡ find_named name ys

module _ (r : Resolve) (xs ys : List (FlatName × Thing)) (h : AreAlike xs ys) where
  shown_alike : (name : FlatName) → find_named name (all_shown r xs) ≡ find_named name (all_shown r ys)
  shown_alike name = found_shown r name xs ∙ ap (option_map (shown r)) (h name) ∙ sym (found_shown r name ys)

  pub included_alike : (small : List (FlatName × FlatShown)) → IsIncluded small (all_shown r xs) → IsIncluded small (all_shown r ys)
  included_alike small i e c = sym (shown_alike e.0) ∙ i e c

  pub fault_alike : (small : List (FlatName × FlatShown)) (e : Error) → IsFaultOf small (all_shown r xs) e → IsFaultOf small (all_shown r ys) e
  fault_alike small e (inl m) = inl m
  fault_alike small e (inr (f, q, w)) = search (std_rules, included_alike w.front w.before, shown_alike w.entry.0)

  pub pairs_alike : (back : Bool) (small : List (FlatName × Thing)) → pairs_shared r back small xs ≡ pairs_shared r back small ys
  pairs_alike back [] = refl
  pairs_alike back (e ∷ es) = λ i. option_map_or (pairs_between r back e.1) (h e.0 i) [] ++ pairs_alike back es i

  pub found_in_range : ((x : FlatName × Thing) → Contains ys x → ThingInRange r x.1) → FoundInRange r xs
  found_in_range k name t e = k (name, t) (found_stands name t ys (sym (h name) ∙ e))

-- the things of entries are in range
pub entries_in_range_by : (r : Resolve) (es : List Entry) (xs : List (FlatName × Thing)) → map named_thing es ≡ xs → ((x : FlatName × Thing) → Contains xs x → ThingInRange r x.1) → EntriesInRange r es
entries_in_range_by r es xs is k e c = k (named_thing e) (subst (λ ys. Contains ys (named_thing e)) is (contains_mapped named_thing es e c))

-- a result by its two cases
pub by_result : {X E : Type 0} (P : Type 0) (Q : E → Type 0) (x : Result X E) → OnOk x P → IfErr x Q → MatchResult x (λ u. P) Q
by_result x y z p q = search std_rules
