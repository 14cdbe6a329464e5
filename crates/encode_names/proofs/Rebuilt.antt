-- The imports of a world are known from its types and from the others, each with how many types stand before it.
use Rattle.std.proofs.Common.{rules as std_rules, ◌≡◌, refl, sym, ap, ◌∙◌, ℕ, ◌+◌, ◌≤◌, Bool, true, false, cond, List, [], ◌∷◌, ◌++◌, arith}
use Rattle.std.specs.List.{list_all}
use Rattle.comp_meaning.specs.Follow.{Seen}
use Rattle.encode_names.specs.Rebuilt.{ImportsAreKnown, TypesComeLast, is_type_shown, others_seen, types_seen}
use Rattle.encode_names.proofs.Lists.{head-of, tail-of}
use Rattle.base_lemmas.proofs.Bools.{left_of as first_true, right_of as second_true}

-- no fewer types stand before one of the others than before all
first-at-least : (m : ℕ) (xs : List Seen) (n : ℕ) (y : Seen) (rest : List (ℕ × Seen)) → others_seen m xs ≡ (n, y) ∷ rest → m ≤ n
first-at-least m [] n y rest e = let wrong : ⊥ = cc in absurd wrong
first-at-least m (x ∷ xs) n y rest e = go (first-at-least (m + 1) xs n y rest) (is_type_shown x.shown) e
  where
    go : (others_seen (m + 1) xs ≡ (n, y) ∷ rest → m + 1 ≤ n) → (b : Bool) → cond b (others_seen (m + 1) xs) ((m, x) ∷ others_seen m xs) ≡ (n, y) ∷ rest → m ≤ n
    go later true e = let more = later e in omega (arith, more)
    go later false e = let same : m ≡ n = ap (λ l. (head-of {A = ℕ × Seen} l (m, x)).0) e in omega (arith, same)

same-imports : (n : ℕ) (xs ys : List Seen) → others_seen n xs ≡ others_seen n ys → types_seen xs ≡ types_seen ys → xs ≡ ys
same-imports n [] [] o t = refl
same-imports n [] (y ∷ ys) o t = search std_rules
same-imports n (x ∷ xs) [] o t = search std_rules
same-imports n (x ∷ xs) (y ∷ ys) o t = go (same-imports n xs ys) (same-imports (n + 1) xs ys) (is_type_shown x.shown) (is_type_shown y.shown) o t
  where
    go : (others_seen n xs ≡ others_seen n ys → types_seen xs ≡ types_seen ys → xs ≡ ys) → (others_seen (n + 1) xs ≡ others_seen (n + 1) ys → types_seen xs ≡ types_seen ys → xs ≡ ys)
        → (b c : Bool) → cond b (others_seen (n + 1) xs) ((n, x) ∷ others_seen n xs) ≡ cond c (others_seen (n + 1) ys) ((n, y) ∷ others_seen n ys)
        → cond b (x ∷ types_seen xs) (types_seen xs) ≡ cond c (y ∷ types_seen ys) (types_seen ys) → x ∷ xs ≡ y ∷ ys
    go same later true true o t =
        let first : x ≡ y = ap (λ l. head-of l x) t in
        let rest : xs ≡ ys = later o (ap tail-of t) in
        λ i. first i ∷ rest i
    go same later false false o t =
        let first : x ≡ y = ap (λ l. (head-of {A = ℕ × Seen} l (n, x)).1) o in
        let rest : xs ≡ ys = same (ap tail-of o) t in
        λ i. first i ∷ rest i
    go same later true false o t = let more = first-at-least (n + 1) xs n y (others_seen n ys) o in absurd (omega (arith, more))
    go same later false true o t = let more = first-at-least (n + 1) ys n x (others_seen n xs) (sym o) in absurd (omega (arith, more))

-- types behind all are among the types, and change none of the others
pub others-before : (n : ℕ) (xs ts : List Seen) → list_all (λ t. is_type_shown t.shown) ts ≡ true → others_seen n (xs ++ ts) ≡ others_seen n xs
others-before n [] [] h = refl
others-before n [] (t ∷ ts) h = search (std_rules, first_true, second_true, others-before (n + 1) [] ts (second_true (is_type_shown t.shown) _ h))
others-before n (x ∷ xs) ts h = λ i. cond (is_type_shown x.shown) (others-before (n + 1) xs ts h i) ((n, x) ∷ others-before n xs ts h i)

pub types-behind : (xs ts : List Seen) → list_all (λ t. is_type_shown t.shown) ts ≡ true → types_seen (xs ++ ts) ≡ types_seen xs ++ ts
types-behind [] [] h = refl
types-behind [] (t ∷ ts) h = search (std_rules, first_true, second_true, types-behind [] ts (second_true (is_type_shown t.shown) _ h))
types-behind (x ∷ xs) ts h = search (std_rules, types-behind xs ts h)

pub imports_are_known : ImportsAreKnown
imports_are_known xs ys o t = same-imports 0 xs ys o t

pub types_come_last : TypesComeLast
types_come_last xs ys ts h o t = same-imports 0 ys (xs ++ ts) (o ∙ sym (others-before 0 xs ts h)) (t ∙ sym (types-behind xs ts h))
