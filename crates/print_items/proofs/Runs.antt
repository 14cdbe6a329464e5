-- Runs of calls, one for each element of a list.
use Rattle.std.proofs.Common.{rules as std_rules, ◌≡◌, refl, sym, subst, ◌<◌, ◌+◌, ℕ, Bool, true, List, [], ◌∷◌, ◌++◌, length, take, get_or, add-one, append-nil, map, drop, zero, suc}
use Rattle.std.proofs.{Math.Seq.take-suc, Math.Seq.drop-cons, lemmas.List.Sums.AllPass-from_list_all, lemmas.List.Folds.flat_map-map}
use Rattle.std.proofs.lemmas.Grind.{flat_map-append}
use Rattle.std.specs.List.{flat_map, list_all}
use Rattle.print_output.specs.OutputCall.{OutputCall}
use Rattle.print_grammar.specs.Calls.{separated}

module _ {X Y : Type 0} (f : X → List Y) where
  pub flat_map-take_next : (xs : List X) (i : ℕ) (x : X) → i < length xs → x ≡ get_or xs i x → flat_map f (take (i + 1) xs) ≡ flat_map f (take i xs) ++ f x
  flat_map-take_next xs i x within e = search (std_rules, add-one, take-suc xs i x, flat_map-append f (take i xs) (get_or xs i x ∷ []), append-nil (f (get_or xs i x)))

-- an element of a list that passes
pub passes_at : {X : Type 0} (test : X → Bool) (xs : List X) (i : ℕ) (x : X) → list_all test xs ≡ true → i < length xs → x ≡ get_or xs i x → test x ≡ true
passes_at test xs i x h within e = subst (λ y. test y ≡ true) (sym e) (AllPass-from_list_all test xs h i x within)

-- the first run and the others, of which each has a separator before it
pub separated_first : {X Tree : Type 0} (separator : OutputCall) (show : X → Tree) (calls : Tree → List OutputCall) (x : X) (xs : List X)
    → calls (show x) ++ flat_map (λ y. separator ∷ calls (show y)) xs ≡ separated separator (map calls (map show (x ∷ xs)))
separated_first separator show calls x xs = search (std_rules, flat_map-map)

-- an element is the same, whatever stands in for one that isn't there
pub item_same : {X : Type 0} (l : List X) (i : ℕ) (d : X) → get_or l i d ≡ get_or l i (get_or l i d)
item_same [] i d = refl
item_same (x ∷ xs) zero d = refl
item_same (x ∷ xs) (suc i) d = item_same xs i d

-- a list from an index on
pub drop_next : {X : Type 0} (l : List X) (i : ℕ) (x : X) → i < length l → x ≡ get_or l i x → drop i l ≡ x ∷ drop (i + 1) l
drop_next l i x h e = search (std_rules, add-one, drop-cons)
