-- Lemmas on a list of pairs that is looked up by its first members.
use Rattle.std.proofs.Common.{Bool, List, Some, [], cond, false, map, option_map, refl, true, ◌∷◌, ◌≡◌}
use Rattle.std.specs.Map.{lookup}

pub lookup_of_map : {A B K X : Type 0} (test : K → Bool) (g : A → K) (h : B → X) (es : List (A × B)) → lookup test (map (λ e. (g e.0, h e.1)) es) ≡ option_map h (lookup (λ a. test (g a)) es)
lookup_of_map test g h [] = refl
lookup_of_map test g h (e ∷ es) = go (test (g e.0)) (lookup_of_map test g h es)
  where
    go : (b : Bool) → lookup test (map (λ x. (g x.0, h x.1)) es) ≡ option_map h (lookup (λ a. test (g a)) es)
        → cond b (Some (h e.1)) (lookup test (map (λ x. (g x.0, h x.1)) es)) ≡ option_map h (cond b (Some e.1) (lookup (λ a. test (g a)) es))
    go true rest = refl
    go false rest = rest
