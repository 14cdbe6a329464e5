-- Texts that stand once, and the first that repeats an earlier one.
use Rattle.std.proofs.Common.{rules as std_rules, ◌≡◌, refl, sym, ap, subst, ◌∙◌, true, false, cond, List, [], ◌∷◌, ◌++◌, append_assoc, map, Bor, ℕ, Option, None, Some, MatchOption, Result, IfOk}
use Rattle.std.proofs.{lemmas.List.map-append, lemmas.Slice.Eq.bytes_eq-Decides, lemmas.Bool.or_parts as neither, lemmas.List.Elements.Contains-append_right}
use Rattle.std.specs.List.{list_any, AllByRecursion, Contains, IsDistinct}
use Rattle.wit_model.specs.declared.model.{Resolve.Resolve, World.World}
use Rattle.wit_model.specs.Text.{Text, text_eq}
use Rattle.wit_model.proofs.{Distinct.text_eq_flip, TextLemmas.text_there as any_there}
use Rattle.compat_meaning.specs.Compatible.{keys_of_world, HasKeysOnce, IsFirstRepeat, IsRepeatedIn}
use Rattle.base_lemmas.proofs.Elements.{all_at, all_end, any_of_map as list_any_mapped, first-contained, last_of as contains_one, none_in}
use Rattle.compat_meaning.proofs.Either.{of_first, of_two}

abbrev pub now : List (Bor (List ℕ)) → List Text
now = map (λ s. s.now)

pub now_push : (keys : List (Bor (List ℕ))) (t : Bor (List ℕ)) → now (keys ++ t ∷ []) ≡ now keys ++ t.now ∷ []
now_push keys t = map-append (λ s. s.now) keys (t ∷ [])

-- ---- a text more

pub distinct_push : (xs : List Text) (t : Text) → IsDistinct text_eq xs → list_any (text_eq t) xs ≡ false → IsDistinct text_eq (xs ++ t ∷ [])
unfolding IsDistinct
distinct_push [] t d e = (tt, tt)
distinct_push (x ∷ xs) t d e =
    let n = neither (text_eq t x) (list_any (text_eq t) xs) e in
    (all_end (λ y. text_eq x y ≡ false) xs t d.0 (text_eq_flip x t ∙ n.0), distinct_push xs t d.1 n.1)

-- the same of borrowed texts
module _ (keys : List (Bor (List ℕ))) (t : Bor (List ℕ)) where
  pub key_there : list_any (λ k. text_eq t.now k.now) keys ≡ true → Contains (now keys) t.now
  key_there e = any_there t.now (now keys) (list_any_mapped (text_eq t.now) (λ s. s.now) keys ∙ e)

  pub key_pushed : list_any (λ k. text_eq t.now k.now) keys ≡ false → cond (list_any (λ k. text_eq t.now k.now) keys) keys (keys ++ t ∷ []) ≡ keys ++ t ∷ []
  key_pushed e = ap (λ b. cond b keys (keys ++ t ∷ [])) e

  pub key_distinct : IsDistinct text_eq (now keys) → list_any (λ k. text_eq t.now k.now) keys ≡ false → IsDistinct text_eq (now (keys ++ t ∷ []))
  key_distinct d e = subst (IsDistinct text_eq) (sym (now_push keys t)) (distinct_push (now keys) t.now d (list_any_mapped (text_eq t.now) (λ s. s.now) keys ∙ e))

-- ---- lists in turn

all_differ : (x : Text) (xs : List Text) (y : Text) → AllByRecursion (λ z. text_eq x z ≡ false) xs → Contains xs y → x ≡ y → ⊥
all_differ x xs y h c e = let wrong : true ≡ false = sym ((bytes_eq-Decides x y).1 e) ∙ all_at (λ z. text_eq x z ≡ false) xs h y c in cc

pub distinct_apart : (xs ys : List Text) (t : Text) → IsDistinct text_eq (xs ++ t ∷ ys) → Contains xs t → ⊥
unfolding IsDistinct
distinct_apart [] ys t d c = absurd (none_in t c)
distinct_apart (x ∷ xs) ys t d c = of_first x xs t (all_differ x (xs ++ t ∷ ys) t d.0 (Contains-append_right xs (t ∷ ys) t (first-contained t ys))) (distinct_apart xs ys t d.1) c

-- a list with a repeat has a text twice
pub repeat_excludes : (ts : List Text) (t : Text) → IsFirstRepeat ts t → IsDistinct text_eq ts → ⊥
repeat_excludes ts t f d = distinct_apart f.front f.rest t (subst (IsDistinct text_eq) f.split d) f.again

pub repeated_excludes : (lists : List (List Text)) (t : Text) → IsRepeatedIn lists t → ((ts : List Text) → Contains lists ts → IsDistinct text_eq ts) → ⊥
repeated_excludes lists t f all = repeat_excludes f.list t f.repeats (all f.list
    (subst (λ (xs : List (List Text)). Contains xs f.list) (sym f.split) (Contains-append_right f.front (f.list ∷ f.rest) f.list (first-contained f.list f.rest))))

pub repeated_first : (ts : List Text) (rest : List (List Text)) (t : Text) → IsFirstRepeat ts t → IsRepeatedIn (ts ∷ rest) t
repeated_first ts rest t f = record { front = []; list = ts; rest = rest; split = refl; before = λ xs c. absurd (none_in xs c); repeats = f }

pub repeated_in_front : (xs ys : List (List Text)) (t : Text) → IsRepeatedIn xs t → IsRepeatedIn (xs ++ ys) t
repeated_in_front xs ys t f = search (std_rules, append_assoc)

pub repeated_behind : (xs ys : List (List Text)) (t : Text) → ((ts : List Text) → Contains xs ts → IsDistinct text_eq ts) → IsRepeatedIn ys t → IsRepeatedIn (xs ++ ys) t
repeated_behind xs ys t all f = record {
  front = xs ++ f.front;
  list = f.list;
  rest = f.rest;
  split = ap (λ zs. xs ++ zs) f.split ∙ sym (append_assoc xs f.front (f.list ∷ f.rest));
  before = λ ts c. of_two xs f.front ts (all ts) (f.before ts) c;
  repeats = f.repeats;
}

-- ---- the keys of a world

pub one_once : (ts : List Text) → IsDistinct text_eq ts → (us : List Text) → Contains (ts ∷ []) us → IsDistinct text_eq us
one_once ts d us c = subst (IsDistinct text_eq) (contains_one ts us c) d

pub keys_once : (r : Resolve) (w : World) → HasKeysOnce r w → (ts : List Text) → Contains (keys_of_world r w) ts → IsDistinct text_eq ts
keys_once r w h ts c = search std_rules

pub both_once : (r : Resolve) (a b : World) → HasKeysOnce r a → HasKeysOnce r b → (ts : List Text) → Contains (keys_of_world r a ++ keys_of_world r b) ts → IsDistinct text_eq ts
both_once r a b h k ts c = search std_rules

-- ---- answers

pub given : {X : Type 0} (P : Type 0) (Q : X → Type 0) (o : Option X) (x : X) → MatchOption o P Q → o ≡ Some x → Q x
given P Q o x m e = subst (λ p. MatchOption p P Q) e m

pub none_given : {X : Type 0} (P : Type 0) (Q : X → Type 0) (o : Option X) → MatchOption o P Q → o ≡ None → P
none_given P Q o m e = subst (λ p. MatchOption p P Q) e m

pub ok_either_way : {X E : Type 0} (P P' : Type 0) (Q Q' : X → Type 0) (r : Result (Option X) E) → (P → P') → ((x : X) → Q x → Q' x) → IfOk r (λ o. MatchOption o P Q)
    → IfOk r (λ o. MatchOption o P' Q')
ok_either_way x y z u v f g m = search std_rules
