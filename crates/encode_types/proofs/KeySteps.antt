-- A loop that feeds a hasher parameter by parameter.
use Rattle.std.proofs.Common.{rules as std_rules, ◌≡◌, refl, sym, ap, ◌∙◌, ℕ, zero, suc, ◌+◌, ◌<◌, List, [], ◌∷◌, ◌++◌, length, get_or, take, arith}
use Rattle.std.specs.{Hash.HashWrites, List.flat_map, List.fold, List.list_all, List.zip, Cmp.Lexicographic.pointwise, Prelude.Bool, Prelude.◌&&◌}

fold-more : {S : Type 0} (write : S → List ℕ → S) (s : S) (xs ys : HashWrites) → fold write s (xs ++ ys) ≡ fold write (fold write s xs) ys
fold-more write s [] ys = refl
fold-more write s (x ∷ xs) ys = fold-more write (write s x) xs ys

module _ {S T : Type 0} (write : S → List ℕ → S) (F : T → HashWrites) where
  next : (s : S) (xs : List T) (i : ℕ) (x : T) → i < length xs → x ≡ get_or xs i x → fold write s (flat_map F (take (suc i) xs)) ≡ fold write (fold write s (flat_map F (take i xs))) (F x)
  next s [] i x h e = absurd (omega (arith, h))
  next s (y ∷ ys) zero x h e = fold-more write s (F y) [] ∙ ap (λ z. fold write s (F z)) (sym e)
  next s (y ∷ ys) (suc i) x h e = search (std_rules, fold-more, next (fold write s (F y)) ys i x (omega (arith, h)) e)

  pub each_more : (s : S) (xs : List T) (i : ℕ) (x : T) → i < length xs → x ≡ get_or xs i x → fold write s (flat_map F (take (i + 1) xs)) ≡ fold write (fold write s (flat_map F (take i xs))) (F x)
  each_more s xs i x h e = search (std_rules, next)

-- two lists of one length, compared place by place
pub zipped : {X : Type 0} (same : X → X → Bool) (xs ys : List X) → length xs ≡ length ys → list_all (λ p. same p.0 p.1) (zip xs ys) ≡ pointwise same xs ys
zipped same [] [] e = refl
zipped same [] (y ∷ ys) e = absurd (omega (arith, e))
zipped same (x ∷ xs) [] e = absurd (omega (arith, e))
zipped same (x ∷ xs) (y ∷ ys) e = ap (λ b. same x y && b) (zipped same xs ys (omega (arith, e)))
