-- Keys of types of functions are the same exactly where their shapes are; and what a key is made of.
use Rattle.std.proofs.Common.{rules as std_rules, ◌≡◌, refl, sym, ap, ◌∙◌, subst, ℕ, ◌+◌, ◌<◌, ◌≤◌, Bool, true, ◌&&◌, List, [], ◌∷◌, ◌++◌, drop, map, length, get_or, append-nil, nat_eq, ◌==◌, Option, Some, None, option_map, IfSome}
use mathlib.Core.Bool.{beq, true≢false}
use Rattle.std.specs.{Borrow.Bor, Cmp.Lexicographic.pointwise, List.AllByRecursion, Option.option_eq}
use Rattle.std.proofs.lemmas.{Bool.eqb-true, Bool.eq-eqb, Bool.and_from as both, List.map-append, Slice.Eq.bytes_eq-Decides}
use Rattle.wit_model.specs.{Meaning.Signature, Text.Text, Text.text_eq, Tree.Tree}
use Rattle.comp_bytes.specs.declared.forms.ComponentValType.{ComponentValType}
use Rattle.comp_bytes.specs.{Raw.FunctionType, RawOf.labeled, Reading.◌>>=◌}
use Rattle.comp_meaning.specs.Follow.{each, field_type, function_signature, given, value_type}
use Rattle.read_follow.specs.declared.{keys.FunctionKey.FunctionKey, refusal.Refusal.Refusal, slots.Slot.Slot}
use Rattle.read_follow.specs.{Found.Refuses, Rows.behind_rows, Slots.slots_in, Slots.AreInRange}
use Rattle.read_follow.specs.Functions.{function_shape, param_of, param_tree, signature_in, FunctionShape, IsSignatureOf}
use Rattle.plan_meaning.specs.Shapes.{part_tree}
use Rattle.read_follow.proofs.{KeyLaws.beq_again, RowLaws.behind_more, RowLaws.raw_at, RowLaws.raw_end, Refusing.refused}
use Rattle.base_lemmas.proofs.Bools.{beq_same, left_of as first_true, right_of as second_true}
use Rattle.wit_model.proofs.TextLemmas.{text_same}
use Rattle.read_follow.specs.contracts.keys.FunctionKeyPartialEq.TheImpl as key_eq

-- ---- sameness

abbrev pub same_function : FunctionKey → FunctionKey → Bool
same_function = key_eq.ghosts.eq

abbrev pub same_param : Bor (List ℕ) × ℕ → Bor (List ℕ) × ℕ → Bool
same_param a b = text_eq a.0.now b.0.now && (a.1 == b.1)

same_by : (a b : FunctionKey) → same_function a b ≡ (beq a.is_async b.is_async && (pointwise same_param a.params.items b.params.items && option_eq nat_eq a.result b.result))
same_by a b = refl

params_same : (xs ys : List (Bor (List ℕ) × ℕ)) → pointwise same_param xs ys ≡ true → map param_of xs ≡ map param_of ys
params_same [] [] e = refl
params_same [] (y ∷ ys) e = absurd (true≢false (sym e))
params_same (x ∷ xs) [] e = absurd (true≢false (sym e))
params_same (x ∷ xs) (y ∷ ys) e = search (std_rules, first_true, text_same, eqb-true, second_true, params_same xs ys (second_true (same_param x y) (pointwise same_param xs ys) e))

params_again : (xs ys : List (Bor (List ℕ) × ℕ)) → map param_of xs ≡ map param_of ys → pointwise same_param xs ys ≡ true
params_again [] [] e = refl
params_again [] (y ∷ ys) e = absurd cc
params_again (x ∷ xs) [] e = absurd cc
params_again (x ∷ xs) (y ∷ ys) e =
    let pair : param_of x ≡ param_of y = cc in
    both _ _ (both _ _ ((bytes_eq-Decides x.0.now y.0.now).1 (ap (λ (p : Text × ℕ). p.0) pair)) (eq-eqb _ _ (ap (λ (p : Text × ℕ). p.1) pair))) (params_again xs ys cc)

outcomes_same : (a b : Option ℕ) → option_eq nat_eq a b ≡ true → a ≡ b
outcomes_same z u e = search std_rules

pub function_same : (a b : FunctionKey) → same_function a b ≡ true → function_shape a ≡ function_shape b
function_same a b e = search (std_rules, beq_same, first_true, second_true, params_same, outcomes_same)

pub function_again : (a b : FunctionKey) → function_shape a ≡ function_shape b → same_function a b ≡ true
function_again a b e = both (beq a.is_async b.is_async) _ (ap (beq a.is_async) (sym (ap (λ (s : FunctionShape). s.is_async) e)) ∙ beq_again a.is_async)
    (both _ _ (params_again a.params.items b.params.items (ap (λ (s : FunctionShape). s.params) e)) ((search std_rules)))

-- ---- parameters, one after the other

abbrev pub Params : Type 0
Params = List (Bor (List ℕ) × ℕ)

-- so many parameters are found, and those behind them decide
abbrev pub ParamsSoFar : List Slot → List (Bor (List ℕ) × ComponentValType) → ℕ → Params → Type 0
ParamsSoFar ss all i ks = (T : List Tree) (F : List Signature)
    → behind_rows (map (param_tree T) (map param_of ks)) (each (field_type (slots_in T F ss)) (drop i (map labeled all))) ≡ each (field_type (slots_in T F ss)) (map labeled all)

pub params_start : (ss : List Slot) (all : List (Bor (List ℕ) × ComponentValType)) (ks : Params) → ks ≡ [] → ParamsSoFar ss all 0 ks
params_start ss all ks none T F = search std_rules

pub none_above : (P : Text × ℕ → Type 0) (ks : Params) → ks ≡ [] → AllByRecursion P (map param_of ks)
none_above P ks none = subst (λ (zs : Params). AllByRecursion P (map param_of zs)) (sym none) tt

module _ (ss : List Slot) (all : List (Bor (List ℕ) × ComponentValType)) (i : ℕ) (ks : Params) (kept : ParamsSoFar ss all i ks) where
  module _ (d : Bor (List ℕ) × ComponentValType) (more : i < length all) where
    head : (T : List Tree) (F : List Signature) (o : Option Tree) → value_type (slots_in T F ss) (get_or all i d).1 ≡ o
        → each (field_type (slots_in T F ss)) (drop i (map labeled all)) ≡ (o >>= λ t. each (field_type (slots_in T F ss)) (drop (i + 1) (map labeled all)) >>= λ ys. Some
        (((get_or all i d).0.now, t) ∷ ys))
    head T F None e = ap (each (field_type (slots_in T F ss))) (raw_at labeled all i d more)
        ∙ ap (λ o. (o >>= λ t. Some ((get_or all i d).0.now, t)) >>= λ y. each (field_type (slots_in T F ss)) (drop (i + 1) (map labeled all)) >>= λ ys. Some (y ∷ ys)) e
    head T F (Some t) e = ap (each (field_type (slots_in T F ss))) (raw_at labeled all i d more)
        ∙ ap (λ o. (o >>= λ t. Some ((get_or all i d).0.now, t)) >>= λ y. each (field_type (slots_in T F ss)) (drop (i + 1) (map labeled all)) >>= λ ys. Some (y ∷ ys)) e

    pub param_row : (k : ℕ) (nks : Params) → ((T : List Tree) (F : List Signature) → value_type (slots_in T F ss) (get_or all i d).1 ≡ Some (part_tree T k))
        → nks ≡ ks ++ ((get_or all i d).0, k) ∷ [] → ParamsSoFar ss all (i + 1) nks
    param_row k nks e is T F =
        let x = get_or all i d in
        let found = each (field_type (slots_in T F ss)) (drop (i + 1) (map labeled all)) in
        let front = map (param_tree T) (map param_of ks) in
        ap (λ zs. behind_rows zs found) (ap (λ (zs : Params). map (param_tree T) (map param_of zs)) is
        ∙ (ap (map (param_tree T)) (map-append param_of ks ((x.0, k) ∷ [])) ∙ map-append (param_tree T) (map param_of ks) ((x.0.now, k) ∷ [])))
        ∙ (sym (behind_more front (x.0.now, part_tree T k) found) ∙ (ap (behind_rows front) (sym (head T F (Some (part_tree T k)) (e T F))) ∙ kept T F))

    pub param_refused : (e : Refusal) → ((T : List Tree) (F : List Signature) → Refuses e (value_type (slots_in T F ss) (get_or all i d).1))
        → (T : List Tree) (F : List Signature) → Refuses e (each (field_type (slots_in T F ss)) (map labeled all))
    param_refused e r T F = refused e (value_type (slots_in T F ss) (get_or all i d).1) (each (field_type (slots_in T F ss)) (map labeled all))
        (λ none. sym (kept T F) ∙ ap (behind_rows (map (param_tree T) (map param_of ks))) (head T F None none)) (r T F)

  pub param_rows : length all ≤ i → (T : List Tree) (F : List Signature) → each (field_type (slots_in T F ss)) (map labeled all) ≡ Some (map (param_tree T) (map param_of ks))
  param_rows past T F = sym (kept T F) ∙ (ap (λ rows. behind_rows (map (param_tree T) (map param_of ks)) (each (field_type (slots_in T F ss)) rows)) (raw_end labeled all i past)
      ∙ ap Some (append-nil (map (param_tree T) (map param_of ks))))

-- ---- the whole type

module _ (ss : List Slot) (f : FunctionType) where
  abbrev signed : Option (List (Text × Tree)) → Option (Option Tree) → Option Signature
  signed ps r = ps >>= λ xs. r >>= λ y. Some (record { is_async = f.is_async; params = xs; result = y })

  pub signature_is : (s : FunctionShape) → s.is_async ≡ f.is_async → ((n : ℕ) → AreInRange n ss → AllByRecursion (λ p. p.1 < 14 + n) s.params)
      → ((n : ℕ) → AreInRange n ss → IfSome s.outcome (λ k. k < 14 + n))
      → ((T : List Tree) (F : List Signature) → each (field_type (slots_in T F ss)) f.parameters ≡ Some (map (param_tree T) s.params))
      → ((T : List Tree) (F : List Signature) → given (value_type (slots_in T F ss)) f.result_type ≡ Some (option_map (part_tree T) s.outcome)) → IsSignatureOf s ss f
  unfolding signature_in
  signature_is s kind hp ho fp fo = record {
    ranges = λ n ranges. record { params = hp n ranges; outcome = ho n ranges };
    found = λ T F. (λ i. signed (fp T F i) (fo T F i)) ∙ (λ i. Some (record { is_async = sym kind i; params = map (param_tree T) s.params; result = option_map (part_tree T) s.outcome }));
  }

  pub no_params : (e : Refusal) (T : List Tree) (F : List Signature) → Refuses e (each (field_type (slots_in T F ss)) f.parameters) → Refuses e (function_signature (slots_in T F ss) f)
  no_params e T F = search std_rules

  pub no_outcome : (e : Refusal) (T : List Tree) (F : List Signature) → Refuses e (given (value_type (slots_in T F ss)) f.result_type) → Refuses e (function_signature (slots_in T F ss) f)
  no_outcome e T F = search std_rules

-- the part of an outcome is in range
pub outcome_in : (o : Option ℕ) (ss : List Slot) → IfSome o (λ k. (n : ℕ) → AreInRange n ss → k < 14 + n) → (n : ℕ) → AreInRange n ss → IfSome o (λ k. k < 14 + n)
outcome_in x ss h n ranges = search std_rules
