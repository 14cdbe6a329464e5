-- A key that is put into a table is put there once.
use Rattle.std.proofs.Common.{rules as std_rules, ◌≡◌, sym, ap, ◌∙◌, subst, ℕ, zero, suc, Bool, true, false, ◌||◌, List, [], ◌∷◌, ◌++◌, map, cond, Some, slice_get}
use Rattle.std.specs.List.{list_any}
use Rattle.std.proofs.lemmas.List.{map-append}
use Rattle.read_follow.specs.declared.keys.Key.{Key}
use Rattle.plan_meaning.specs.Shapes.{Adds, stays, comes}
use Rattle.read_follow.specs.KeyShapes.{shape_of}

module _ (eq : Key → Key → Bool) (again : (a b : Key) → shape_of a ≡ shape_of b → eq a b ≡ true) where
  either_true : (a b : Bool) → b ≡ true → (a || b) ≡ true
  either_true x b e = search std_rules

  seen : (ks : List Key) (k : Key) (n : ℕ) → slice_get (map shape_of ks) n ≡ Some (shape_of k) → list_any (eq k) ks ≡ true
  seen [] k n e = absurd cc
  seen (x ∷ ks) k zero e = let same : shape_of k ≡ shape_of x = cc in ap (λ b. b || list_any (eq k) ks) (again k x same)
  seen (x ∷ ks) k (suc n) e = either_true (eq k x) (list_any (eq k) ks) (seen ks k n e)

  pub adds : (ks new : List Key) (k : Key) (b : Bool) → list_any (eq k) ks ≡ b → new ≡ cond b ks (ks ++ k ∷ []) → Adds (map shape_of ks) (shape_of k) (map shape_of new)
  adds ks new k true is e = subst (λ shapes. Adds (map shape_of ks) (shape_of k) shapes) (sym (ap (map shape_of) e)) stays
  adds ks new k false is e = subst (λ shapes. Adds (map shape_of ks) (shape_of k) shapes) (sym (ap (map shape_of) e ∙ map-append shape_of ks (k ∷ []))) (comes (λ n found. absurd (differs n found)))
    where
      differs : (n : ℕ) → slice_get (map shape_of ks) n ≡ Some (shape_of k) → ⊥
      differs n found = let is_there = seen ks k n found in cc

  -- a key that none is equal to is new, and comes behind the others
  pub fresh_key : (ks : List Key) (k : Key) → list_any (eq k) ks ≡ false → (n : ℕ) → slice_get (map shape_of ks) n ≡ Some (shape_of k) → ⊥
  fresh_key ks k none n found = let is_there = seen ks k n found in cc

  pub grown : (ks new : List Key) (k : Key) → list_any (eq k) ks ≡ false → new ≡ cond (list_any (eq k) ks) ks (ks ++ k ∷ []) → map shape_of new ≡ map shape_of ks ++ shape_of k ∷ []
  grown ks new k none e = ap (map shape_of) (e ∙ ap (λ b. cond b ks (ks ++ k ∷ [])) none) ∙ map-append shape_of ks (k ∷ [])
