-- What is put into a list of things that each stand once.
use Rattle.std.proofs.Common.{rules as std_rules, ◌≡◌, sym, ap, ◌∙◌, subst, ℕ, zero, suc, Bool, true, false, ◌||◌, List, [], ◌∷◌, ◌++◌, map, cond, Some, slice_get}
use Rattle.std.specs.List.{list_any}
use Rattle.std.proofs.lemmas.List.{map-append}
use Rattle.read_follow.specs.Functions.{AreApart, Joins, stays, comes}
use Rattle.base_lemmas.proofs.Lists.{last_or}

module _ {X : Type 0} (old : List X) (x : X) (apart : AreApart old) where
  -- none stands twice where one that did not stand there comes behind
  pub joined_apart : (new : List X) → Joins old x new → AreApart new
  joined_apart new stays = apart
  joined_apart new (comes fresh) = λ n m y en em. search (std_rules, last_or)

module _ {K S : Type 0} (shape : K → S) (eq : K → K → Bool) (again : (a b : K) → shape a ≡ shape b → eq a b ≡ true) where
  either_true : (a b : Bool) → b ≡ true → (a || b) ≡ true
  either_true x b e = search std_rules

  seen : (ks : List K) (k : K) (n : ℕ) → slice_get (map shape ks) n ≡ Some (shape k) → list_any (eq k) ks ≡ true
  seen [] k n e = absurd cc
  seen (x ∷ ks) k zero e = let same : shape k ≡ shape x = cc in ap (λ b. b || list_any (eq k) ks) (again k x same)
  seen (x ∷ ks) k (suc n) e = either_true (eq k x) (list_any (eq k) ks) (seen ks k n e)

  -- what is put where it isn't equal to any
  pub joins : (ks new : List K) (k : K) (b : Bool) → list_any (eq k) ks ≡ b → new ≡ cond b ks (ks ++ k ∷ []) → Joins (map shape ks) (shape k) (map shape new)
  joins ks new k true is e = subst (λ shapes. Joins (map shape ks) (shape k) shapes) (sym (ap (map shape) e)) stays
  joins ks new k false is e = subst (λ shapes. Joins (map shape ks) (shape k) shapes) (sym (ap (map shape) e ∙ map-append shape ks (k ∷ []))) (comes (λ n found. absurd (differs n found)))
    where
      differs : (n : ℕ) → slice_get (map shape ks) n ≡ Some (shape k) → ⊥
      differs n found = let is_there = seen ks k n found in cc

  -- what none is equal to is new, and comes behind the others
  pub fresh : (ks : List K) (k : K) → list_any (eq k) ks ≡ false → (n : ℕ) → slice_get (map shape ks) n ≡ Some (shape k) → ⊥
  fresh ks k none n found = let is_there = seen ks k n found in cc

  pub grown : (ks new : List K) (k : K) → list_any (eq k) ks ≡ false → new ≡ cond (list_any (eq k) ks) ks (ks ++ k ∷ []) → map shape new ≡ map shape ks ++ shape k ∷ []
  grown ks new k none e = ap (map shape) (e ∙ ap (λ b. cond b ks (ks ++ k ∷ [])) none) ∙ map-append shape ks (k ∷ [])
