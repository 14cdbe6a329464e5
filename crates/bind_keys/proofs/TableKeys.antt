-- Keys of a table are the same where their whole texts are.
use Rattle.std.proofs.Common.{rules as std_rules, arith, ◌≡◌, refl, sym, ap, subst, ◌∙◌, ℕ, suc, ◌+◌, Bool, true, false, not, ◌&&◌, List, [], ◌∷◌, length, cond, Option, None, Some, option_map, String}
use Rattle.std.specs.{Prelude.map, Prelude.nat_eq, Prelude.nat_lt, Prelude.position, Prelude.slice_get, Option.option_eq, List.position_or_len}
use Rattle.std.specs.declared.alloc.Global.{Global}
use Rattle.std.proofs.{lemmas.Bool.eq-eqb, lemmas.Bool.eqb-true, lemmas.Bool.lt-ltb, lemmas.Option.same_Some as same-some, lemmas.Grind.common_steps}
use Rattle.base_lemmas.proofs.Bools.{and-true, both_ways, no-and}
use Rattle.wit_model.specs.Text.{Text, text_eq, text_of}
use Rattle.wit_model.proofs.{VersionLaws.same_text, TextLemmas.text_same as text-same}
use Rattle.bind_keys.specs.{Cuts.has_slash, Cuts.text_under, CutLaws.cut_same, Tables.front_text, Tables.Fronts, Tables.IsFront, Tables.number_at}

-- ---- the number of a text

at_next : (n m : ℕ) (b : Bool) (o : Option ℕ) → cond (nat_lt n m) (Some n) None ≡ o
    → cond (nat_lt (cond (not b) (1 + n) 0) (suc m)) (Some (cond (not b) (1 + n) 0)) None ≡ cond b (Some 0) (option_map suc o)
at_next n m true o e = ap (λ v. cond v (Some 0) None) (lt-ltb 0 (suc m) (omega arith))
at_next n m false o e = by (nat_lt n m) refl ∙ ap (option_map suc) e
  where
    by : (c : Bool) → nat_lt n m ≡ c → cond (nat_lt (1 + n) (suc m)) (Some (1 + n)) None ≡ option_map suc (cond (nat_lt n m) (Some n) None)
    by _ h = grind (arith, common_steps, h)

pub position_is : (keys : List (String Global)) (text : Text) → position (λ s. text_eq text (text_of s)) keys ≡ number_at (map text_of keys) text
position_is [] text = refl
position_is (s ∷ keys) text = at_next (position_or_len (λ x. text_eq text (text_of x)) keys) (length keys) (text_eq text (text_of s)) (number_at (map text_of keys) text) (position_is keys text)

-- what is numbered stands there
pub there : (fs : Fronts) (text : Text) (n : ℕ) → number_at fs text ≡ Some n → slice_get fs n ≡ Some text
there [] text n h = absurd (search (std_rules, h))
there (x ∷ fs) text n h = by (text_eq text x) refl (number_at fs text) refl (λ i e. there fs text i e) h
  where
    by : (b : Bool) → text_eq text x ≡ b → (o : Option ℕ) → number_at fs text ≡ o → ((i : ℕ) → number_at fs text ≡ Some i → slice_get fs i ≡ Some text) → cond b (Some 0) (option_map suc o) ≡ Some n
        → slice_get (x ∷ fs) n ≡ Some text
    by true same o e rest k = subst (λ (i : ℕ). slice_get (x ∷ fs) i ≡ Some text) (same-some 0 n k) (ap Some (sym (text-same text x same)))
    by false other (Some i) e rest k = subst (λ (j : ℕ). slice_get (x ∷ fs) j ≡ Some text) (same-some (suc i) n k) (rest i e)
    by false other None e rest k = absurd (search (std_rules, k))

pub front_there : (fs : Fronts) (text name : Text) (n : ℕ) → number_at fs text ≡ Some n → front_text fs (Some n) name ≡ text
front_there fs text name n h = search (std_rules, there fs text n h)

-- ---- two keys

other_way : (a b : Text) → text_eq a b ≡ false → text_eq b a ≡ false
other_way a b h = both_ways (text_eq b a) (text_eq a b) (λ e. same_text a b (sym (text-same b a e))) (λ e. same_text b a (sym (text-same a b e))) ∙ h

numbers_same : (fs : Fronts) (t u : Text) (i j : ℕ) → number_at fs t ≡ Some i → number_at fs u ≡ Some j → nat_eq i j ≡ text_eq t u
numbers_same fs t u i j h k = both_ways (nat_eq i j) (text_eq t u) (λ e. same_text t u (same-some t u (sym (there fs t i h) ∙ (ap (slice_get fs) (eqb-true i j e) ∙ there fs u j k))))
    (λ e. eq-eqb i j (same-some i j (sym h ∙ (ap (number_at fs) (text-same t u e) ∙ k))))

fronts_same : (fs : Fronts) (a b : Option ℕ) (name : Text) → IsFront fs a name → IsFront fs b name → option_eq nat_eq a b ≡ text_eq (front_text fs a name) (front_text fs b name)
fronts_same fs None None name p q = sym (same_text name name refl)
fronts_same fs None (Some j) name p (u, at, apart) = sym (ap (text_eq name) (front_there fs u name j at) ∙ other_way u name apart)
fronts_same fs (Some i) None name (t, at, apart) q = sym (ap (λ x. text_eq x name) (front_there fs t name i at) ∙ apart)
fronts_same fs (Some i) (Some j) name (t, at, apart) (u, at-2, apart-2) = numbers_same fs t u i j at at-2 ∙ sym (λ x. text_eq (front_there fs t name i at x) (front_there fs u name j at-2 x))

-- two names told apart, and what stands before them
pub parts_same : (fs : Fronts) (a b : Option ℕ) (n m : Text) → has_slash n ≡ false → has_slash m ≡ false → IsFront fs a n → IsFront fs b m
    → (option_eq nat_eq a b && text_eq n m) ≡ text_eq (text_under (front_text fs a n) n) (text_under (front_text fs b m) m)
parts_same fs a b n m bare bare-2 p q = by (text_eq n m) refl ∙ cut_same (front_text fs a n) n (front_text fs b m) m bare bare-2
  where
    by : (u : Bool) → text_eq n m ≡ u → (option_eq nat_eq a b && u) ≡ (u && text_eq (front_text fs a n) (front_text fs b m))
    by true h =
        let same : n ≡ m = text-same n m h in
        and-true (option_eq nat_eq a b) ∙ (fronts_same fs a b n p (subst (IsFront fs b) (sym same) q) ∙ ap (λ x. text_eq (front_text fs a n) (front_text fs b x)) same)
    by false h = no-and (option_eq nat_eq a b)

-- a text without a number stands before no key
pub parts_apart : (fs : Fronts) (text : Text) (b : Option ℕ) (n m : Text) → has_slash n ≡ false → has_slash m ≡ false → number_at fs text ≡ None → text_eq text n ≡ false → IsFront fs b m
    → text_eq (text_under text n) (text_under (front_text fs b m) m) ≡ false
parts_apart fs text b n m bare bare-2 none apart q = sym (cut_same text n (front_text fs b m) m bare bare-2) ∙ by (text_eq n m) refl
  where
    away : (v : Bool) (u : Text) (j : ℕ) → text_eq text u ≡ v → number_at fs u ≡ Some j → v ≡ false
    away true u j e at = absurd (search (std_rules, sym none ∙ (ap (number_at fs) (text-same text u e) ∙ at)))
    away false u j e at = refl

    of : (c : Option ℕ) → IsFront fs c m → text_eq n m ≡ true → text_eq text (front_text fs c m) ≡ false
    of None p h = ap (text_eq text) (sym (text-same n m h)) ∙ apart
    of (Some j) (u, at, other) h = ap (text_eq text) (front_there fs u m j at) ∙ away (text_eq text u) u j refl at

    by : (u : Bool) → text_eq n m ≡ u → (u && text_eq text (front_text fs b m)) ≡ false
    by true h = of b q h
    by false h = refl
