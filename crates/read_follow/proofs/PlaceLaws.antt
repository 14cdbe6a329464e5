-- Places that are put into a table, each once.
use Rattle.std.proofs.Common.{rules as std_rules, ◌≡◌, inl, refl, sym, ap, ◌∙◌, subst, ℕ, zero, suc, ◌+◌, ◌<◌, ◌≤◌, arith, Bool, true, false, ◌&&◌, ◌==◌, cond, List, [], ◌∷◌, ◌++◌, map, length, Option, Some, None, is_some, slice_get, unwrap_or, IfOk, Result}
use Rattle.std.proofs.{Math.ListN.length-map, lemmas.Bool.eqb-true, lemmas.List.map-append, lemmas.Option.slice_get_within as found_below}
use Rattle.wit_model.specs.{Names.read_path, Text.Text, Text.text_eq, Text.text_of}
use Rattle.comp_meaning.specs.Follow.{complete_path}
use Rattle.read_follow.specs.declared.{refusal.Refusal.Refusal, places.PlaceKey.PlaceKey}
use Rattle.read_follow.specs.{Functions.Joins, Functions.stays, Functions.comes}
use Rattle.read_follow.specs.Places.{path_in, place_shape, has_path, ArePathsApart, ArePlaces, IsOnlyNew, IsReadIfGiven}
use Rattle.read_follow.proofs.{JoinLaws.joined_apart, SlotLaws.mapped_none}
use Rattle.base_lemmas.proofs.{Lists.last_or, Lists.mapped_get}
use Rattle.read_follow.specs.contracts.places.PlaceKeyPartialEq.TheImpl as place_eq

-- ---- equal keys

abbrev pub same_place : PlaceKey → PlaceKey → Bool
same_place = place_eq.ghosts.eq

same_by : (a b : PlaceKey) → same_place a b ≡ (text_eq (text_of a.path) (text_of b.path) && (a.number == b.number))
same_by a b = refl

pub place_same : (a b : PlaceKey) → same_place a b ≡ true → place_shape a ≡ place_shape b
place_same a b e = search std_rules

pub place_again : (a b : PlaceKey) → place_shape a ≡ place_shape b → same_place a b ≡ true
place_again a b e = search std_rules

-- ---- one place more

pub mark_is : (x : Text × ℕ) (b : Bool) → (x.1 == 0) ≡ b → b ≡ has_path (path_in x)
mark_is x y e = search std_rules

pub kept_more : (shapes : List (Text × ℕ)) (marks : List Bool) (x : Text × ℕ) → ArePlaces shapes marks → x.1 ≤ length shapes + 1 → IsReadIfGiven (path_in x)
    → ((n : ℕ) → slice_get shapes n ≡ Some x → ⊥) → ArePlaces (shapes ++ x ∷ []) (marks ++ has_path (path_in x) ∷ [])
kept_more shapes marks x kept few given fresh = search (std_rules, joined_apart, last_or, map-append)

-- ---- their paths

-- where a place joins the others, no other is new
pub only_joined : (shapes new : List (Text × ℕ)) (x : Text × ℕ) (n : ℕ) → Joins shapes x new → slice_get new n ≡ Some x → IsOnlyNew (map path_in shapes) n (map path_in new)
only_joined shapes new x n stays at q path e = inl (found_below (map path_in shapes) q (Some path) e)
only_joined shapes new x n (comes fresh) at q path e = search (std_rules, last_or, map-append, length-map)

-- before a new place without a path stand all that have one
pub below_pathless : (paths more : List (Option Text)) → more ≡ paths ++ None ∷ [] → (q : ℕ) (path : Text) → slice_get more q ≡ Some (Some path) → q < length paths
below_pathless paths more is q path e = search (std_rules, last_or)

-- a place whose number is beyond those that were is new
pub behind_all : (shapes new : List (Text × ℕ)) (marks : List Bool) (x : Text × ℕ) (n : ℕ) → ArePlaces shapes marks → x.1 ≡ length shapes + 1 → Joins shapes x new → slice_get new n ≡ Some x
    → new ≡ shapes ++ x ∷ []
behind_all shapes new marks x n kept is stays at = search (std_rules, found_below)
behind_all shapes new marks x n kept is (comes fresh) at = refl

pub not_zero : (n : ℕ) → (n ≡ 0 → ⊥) → (n == 0) ≡ false
not_zero n h = search std_rules

pub no_path : (x : Text × ℕ) (n : ℕ) → x.1 ≡ n + 1 → path_in x ≡ None
no_path x n e = ap (λ b. cond b (Some x.0) None) (not_zero x.1 (λ z. absurd (omega (arith, e, z))))

pub with_none : (shapes new : List (Text × ℕ)) (x : Text × ℕ) → new ≡ shapes ++ x ∷ [] → path_in x ≡ None → map path_in new ≡ map path_in shapes ++ None ∷ []
with_none shapes new x e none = ap (map path_in) e ∙ (map-append path_in shapes (x ∷ []) ∙ ap (λ o. map path_in shapes ++ o ∷ []) none)

-- ---- paths that are read

-- a path that was completed is read
pub completed_read : (text : Text) (suffix : Option Text) (path : Text) → complete_path text suffix ≡ Some path → is_some (read_path path) ≡ true
completed_read text suffix path e = grind arith

-- the path of a key with the number 0, and none with a greater one
pub one_read : (path : Text) → is_some (read_path path) ≡ true → IsReadIfGiven (path_in (path, 0))
one_read path read other e = let same : path ≡ other = cc in subst (λ (t : Text). is_some (read_path t) ≡ true) same read

pub none_read : (x : Text × ℕ) (n : ℕ) → x.1 ≡ n + 1 → IsReadIfGiven (path_in x)
none_read x n e path given = let none : None ≡ Some path = sym (no_path x n e) ∙ given in absurd cc

-- ---- the places as they are looked at

-- the places whose keys have a path, each once
pub paths_apart : (shapes : List (Text × ℕ)) (marks : List Bool) → ArePlaces shapes marks → ArePathsApart (map path_in shapes)
paths_apart shapes marks kept m n path em en = kept.apart m n (path, 0) (shape_of_path shapes m em) (shape_of_path shapes n en)
  where
    shape_of_path : (xs : List (Text × ℕ)) (k : ℕ) → slice_get (map path_in xs) k ≡ Some (Some path) → slice_get xs k ≡ Some (path, 0)
    shape_of_path [] k e = absurd cc
    shape_of_path (x ∷ xs) zero e = let same : path_in x ≡ Some path = cc in ap Some ((search (std_rules, eqb-true)))
    shape_of_path (x ∷ xs) (suc k) e = shape_of_path xs k e

-- what is known of a number is known of it as it is counted
pub counted_as : (r : Result ℕ Refusal) (number : ℕ) (P : ℕ → Type 0) → IfOk r (λ n. n ≡ number) → P number → IfOk r P
counted_as x number y e h = search std_rules

module _ (ks : List PlaceKey) (paths : List (Option Text)) (view : map path_in (map place_shape ks) ≡ paths) (n : ℕ) where
  pub path_at : (k : PlaceKey) (b : Bool) → Some k ≡ slice_get ks n → (k.number == 0) ≡ b → cond b (Some (text_of k.path)) None ≡ unwrap_or (slice_get paths n) None
  path_at k b at is = search (std_rules, mapped_get path_in (map place_shape ks) n (place_shape k) (mapped_get place_shape ks n k (sym at)), mapped_get place_shape ks n k (sym at))

  pub path_nowhere : None ≡ slice_get ks n → None ≡ unwrap_or (slice_get paths n) None
  path_nowhere none = search (std_rules, unwrap_or, mapped_none)
