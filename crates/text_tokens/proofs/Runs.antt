-- Runs of a machine over bytes, and what two tests of parts say of them.
use Rattle.std.proofs.Common.{◌≡◌, refl, sym, ap, ◌∙◌, ℕ, Bool, true, false, ◌&&◌, ◌==◌, if◌then◌else◌, List, [], ◌∷◌, ◌++◌, Option, Some, None, append-nil, append_assoc}
use Rattle.std.proofs.lemmas.List.Splits.{slice_split-cons_yes, slice_split-cons_no}
use Rattle.std.specs.List.{list_all, slice_split, onto_first}
use Rattle.std.specs.Option.{option_map, option_map_or}
use Rattle.wit_model.specs.Names.{cut}
use Rattle.base_lemmas.proofs.Bools.{and-true}

-- the state after a text
abbrev pub run : {S : Type 0} → (S → ℕ → S) → S → List ℕ → S
run step s [] = s
run step s (c ∷ cs) = run step (step s c) cs

pub run-append : {S : Type 0} (step : S → ℕ → S) (s : S) (xs : List ℕ) (c : ℕ) → run step s (xs ++ c ∷ []) ≡ step (run step s xs) c
run-append step s [] c = refl
run-append step s (x ∷ xs) c = run-append step (step s x) xs c

-- ---- parts between a mark

-- the first part, with bytes in front
abbrev pub onto : List ℕ → List (List ℕ) → List (List ℕ)
onto p [] = p ∷ []
onto p (part ∷ parts) = (p ++ part) ∷ parts

pub onto_first-onto : (p : List ℕ) (c : ℕ) (parts : List (List ℕ)) → onto p (onto_first c parts) ≡ onto (p ++ c ∷ []) parts
onto_first-onto p c [] = refl
onto_first-onto p c (part ∷ parts) = ap (λ x. x ∷ parts) (sym (append_assoc p (c ∷ []) part))

onto_nil-first : (c : ℕ) (parts : List (List ℕ)) → onto [] (onto_first c parts) ≡ onto_first c parts
onto_nil-first c [] = refl
onto_nil-first c (part ∷ parts) = refl

pub onto_nil : (m : ℕ) (cs : List ℕ) → onto [] (slice_split (λ b. b == m) cs) ≡ slice_split (λ b. b == m) cs
onto_nil m [] = refl
onto_nil m (c ∷ cs) = go (c == m) refl
  where
    go : (b : Bool) → (c == m) ≡ b → onto [] (slice_split (λ b. b == m) (c ∷ cs)) ≡ slice_split (λ b. b == m) (c ∷ cs)
    go true d = rw (slice_split-cons_yes (λ b. b == m) c cs d) refl
    go false d = rw (slice_split-cons_no (λ b. b == m) c cs d) (onto_nil-first c (slice_split (λ b. b == m) cs))

-- the mark, and what follows it
pub split-yes : (m : ℕ) (p : List ℕ) (c : ℕ) (cs : List ℕ) → (c == m) ≡ true → onto p (slice_split (λ b. b == m) (c ∷ cs)) ≡ p ∷ onto [] (slice_split (λ b. b == m) cs)
split-yes m p c cs d = rw (slice_split-cons_yes (λ b. b == m) c cs d, append-nil p) (ap (λ x. p ∷ x) (sym (onto_nil m cs)))

-- another byte
pub split-no : (m : ℕ) (p : List ℕ) (c : ℕ) (cs : List ℕ) → (c == m) ≡ false → onto p (slice_split (λ b. b == m) (c ∷ cs)) ≡ onto (p ++ c ∷ []) (slice_split (λ b. b == m) cs)
split-no m p c cs d = rw (slice_split-cons_no (λ b. b == m) c cs d) (onto_first-onto p c (slice_split (λ b. b == m) cs))

-- Parts between marks: a state for each beginning of a part, and a dead one.
pub parts-run : {S : Type 0} (step : S → ℕ → S) (ok : S → Bool) (m : ℕ) (passes : List ℕ → Bool) (after : List ℕ → S) (dead : S)
    → ((p : List ℕ) → passes p ≡ ok (after p))
    → ((p : List ℕ) (c : ℕ) → (c == m) ≡ false → step (after p) c ≡ after (p ++ c ∷ []))
    → ((p : List ℕ) (c : ℕ) → (c == m) ≡ true → step (after p) c ≡ (if passes p then after [] else dead))
    → ((cs : List ℕ) → ok (run step dead cs) ≡ false)
    → (p cs : List ℕ) → list_all passes (onto p (slice_split (λ b. b == m) cs)) ≡ ok (run step (after p) cs)
parts-run step ok m passes after dead ends goes marks ended p [] = rw (append-nil p) (and-true (passes p) ∙ ends p)
parts-run {S} step ok m passes after dead ends goes marks ended p (c ∷ cs) =
    go (c == m) refl (parts-run step ok m passes after dead ends goes marks ended [] cs) (parts-run step ok m passes after dead ends goes marks ended (p ++ c ∷ []) cs)
  where
    marked : (f : Bool) → list_all passes (onto [] (slice_split (λ b. b == m) cs)) ≡ ok (run step (after []) cs)
        → (f && list_all passes (onto [] (slice_split (λ b. b == m) cs))) ≡ ok (run step (if f then after [] else dead) cs)
    marked true h = h
    marked false h = sym (ended cs)

    go : (b : Bool) → (c == m) ≡ b → list_all passes (onto [] (slice_split (λ b. b == m) cs)) ≡ ok (run step (after []) cs)
        → list_all passes (onto (p ++ c ∷ []) (slice_split (λ b. b == m) cs)) ≡ ok (run step (after (p ++ c ∷ [])) cs)
        → list_all passes (onto p (slice_split (λ b. b == m) (c ∷ cs))) ≡ ok (run step (step (after p) c) cs)
    go true d h k = ap (list_all passes) (split-yes m p c cs d) ∙ (marked (passes p) h ∙ ap (λ s. ok (run step s cs)) (sym (marks p c d)))
    go false d h k = ap (list_all passes) (split-no m p c cs d) ∙ (k ∙ ap (λ s. ok (run step s cs)) (sym (goes p c d)))

-- ---- the first mark

-- What stands before the first mark, and what follows it.
pub cut-run : {S A : Type 0} (step : S → ℕ → S) (ok : S → Bool) (step_front : A → ℕ → A) (ok_front : A → Bool) (front : A → S) (start dead : S) (m : ℕ) (back : List ℕ → Bool)
    → ((a : A) → ok (front a) ≡ ok_front a)
    → ((a : A) (c : ℕ) → (c == m) ≡ false → step (front a) c ≡ front (step_front a c))
    → ((a : A) (c : ℕ) → (c == m) ≡ true → step (front a) c ≡ (if ok_front a then start else dead))
    → ((cs : List ℕ) → ok (run step start cs) ≡ back cs)
    → ((cs : List ℕ) → ok (run step dead cs) ≡ false)
    → (a : A) (cs : List ℕ) → option_map_or (λ (p : List ℕ × List ℕ). ok_front (run step_front a p.0) && back p.1) (cut m cs) (ok_front (run step_front a cs)) ≡ ok (run step (front a) cs)
unfolding cut
cut-run step ok step_front ok_front front start dead m back ends goes marks behind ended a [] = sym (ends a)
cut-run {S} {A} step ok step_front ok_front front start dead m back ends goes marks behind ended a (c ∷ cs) =
    go (c == m) refl (cut-run step ok step_front ok_front front start dead m back ends goes marks behind ended (step_front a c) cs)
  where
    marked : (f : Bool) → (f && back cs) ≡ ok (run step (if f then start else dead) cs)
    marked true = sym (behind cs)
    marked false = sym (ended cs)

    further : (o : Option (List ℕ × List ℕ))
        → option_map_or (λ (p : List ℕ × List ℕ). ok_front (run step_front a p.0) && back p.1) (option_map (λ (p : List ℕ × List ℕ). (c ∷ p.0, p.1)) o) (ok_front (run step_front a (c ∷ cs)))
        ≡ option_map_or (λ (p : List ℕ × List ℕ). ok_front (run step_front (step_front a c) p.0) && back p.1) o (ok_front (run step_front (step_front a c) cs))
    further None = refl
    further (Some p) = refl

    go : (b : Bool) → (c == m) ≡ b
        → option_map_or (λ (p : List ℕ × List ℕ). ok_front (run step_front (step_front a c) p.0) && back p.1) (cut m cs) (ok_front (run step_front (step_front a c) cs))
        ≡ ok (run step (front (step_front a c)) cs)
        → option_map_or (λ (p : List ℕ × List ℕ). ok_front (run step_front a p.0) && back p.1) (cut m (c ∷ cs)) (ok_front (run step_front a (c ∷ cs))) ≡ ok (run step (step (front a) c) cs)
    go true d h = rw d (marked (ok_front a) ∙ ap (λ s. ok (run step s cs)) (sym (marks a c d)))
    go false d h = rw d (further (cut m cs) ∙ (h ∙ ap (λ s. ok (run step s cs)) (sym (goes a c d))))

-- another test of what stands before the mark
pub cut-front : (f g back : List ℕ → Bool) (text : List ℕ) → ((t : List ℕ) → f t ≡ g t) → (o : Option (List ℕ × List ℕ))
    → option_map_or (λ (p : List ℕ × List ℕ). f p.0 && back p.1) o (f text) ≡ option_map_or (λ (p : List ℕ × List ℕ). g p.0 && back p.1) o (g text)
cut-front f g back text e None = e text
cut-front f g back text e (Some p) = ap (λ b. b && back p.1) (e p.0)
