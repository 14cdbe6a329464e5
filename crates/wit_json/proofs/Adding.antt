-- Tokens added one after another.
use Rattle.std.proofs.Common.{rules as std_rules, ◌≡◌, ◌∙◌, sym, ap, subst, refl, ℕ, ◌+◌, ◌<◌, ◌≤◌, List, [], ◌∷◌, ◌++◌, drop, get_or, length, append-nil, append_assoc, Result, Ok, Err, OnOk}
use Rattle.std.proofs.lemmas.List.{drop_more, drop_all}
use Rattle.std.specs.List.{flat_map}
use Rattle.json.specs.{Token.Token, Written.Written, Written.Writes}
use Rattle.wit_json.specs.Adds.{Adds}

-- one token
pub added : {E : Type 0} {x : Unit {0}} {a b : Written} {t : Token} → Writes {E = E} (Ok x) a b t → Adds a b (t ∷ [])
added h = record { tokens = h.ok; before = h.room.0 }

-- the same, by whether it was refused
pub added_by : {E : Type 0} (r : Result (Unit {0}) E) {a b : Written} {t : Token} → Writes r a b t → OnOk r (Adds a b (t ∷ []))
added_by x h = search std_rules

adds_none : (a : Written) → Adds a a []
adds_none a = record { tokens = sym (append-nil a.tokens); before = refl }

pub adds_as : {a b : Written} {ts all : List Token} → Adds a b ts → ts ≡ all → Adds a b all
adds_as {a = a} {b = b} h e = subst (λ ts. Adds a b ts) e h

join : {a b c : Written} {ts us : List Token} → Adds a b ts → Adds b c us → Adds a c (ts ++ us)
join {a = a} {b = b} {c = c} {ts = ts} {us = us} h k = record { tokens = k.tokens ∙ ap (λ xs. xs ++ us) h.tokens ∙ append_assoc a.tokens ts us; before = k.before ∙ h.before }

pub adds2 : {a b c : Written} {A B all : List Token} → Adds a b A → Adds b c B → A ++ B ≡ all → Adds a c all
adds2 p q e = adds_as (join p q) e

pub adds3 : {a b c d : Written} {A B C all : List Token} → Adds a b A → Adds b c B → Adds c d C → A ++ (B ++ C) ≡ all → Adds a d all
adds3 p q r e = adds2 p (join q r) e

pub adds4 : {a b c d e : Written} {A B C D all : List Token} → Adds a b A → Adds b c B → Adds c d C → Adds d e D → A ++ (B ++ (C ++ D)) ≡ all → Adds a e all
adds4 p q r s e = adds3 p q (join r s) e

pub adds5 : {a b c d e f : Written} {A B C D E all : List Token} → Adds a b A → Adds b c B → Adds c d C → Adds d e D → Adds e f E → A ++ (B ++ (C ++ (D ++ E))) ≡ all → Adds a f all
adds5 p q r s t e = adds4 p q r (join s t) e

pub adds6 : {a b c d e f g : Written} {A B C D E F all : List Token} → Adds a b A → Adds b c B → Adds c d C → Adds d e D → Adds e f E → Adds f g F → A ++ (B ++ (C ++ (D ++ (E ++ F)))) ≡ all
    → Adds a g all
adds6 p q r s t u e = adds5 p q r s (join t u) e

pub adds7 : {a b c d e f g i : Written} {A B C D E F G all : List Token} → Adds a b A → Adds b c B → Adds c d C → Adds d e D → Adds e f E → Adds f g F → Adds g i G
    → A ++ (B ++ (C ++ (D ++ (E ++ (F ++ G))))) ≡ all → Adds a i all
adds7 p q r s t u v e = adds6 p q r s t (join u v) e

-- what a last call adds, by whether it was refused
pub then_ok : {E : Type 0} (r : Result (Unit {0}) E) {a b : Written} (c : Written) {A : List Token} (B : List Token) {all : List Token} → Adds a b A → OnOk r (Adds b c B) → A ++ B ≡ all
    → OnOk r (Adds a c all)
then_ok (Ok x) c B p q e = adds2 p q e
then_ok (Err x) c B p q e = tt

pub then_token : {E : Type 0} (r : Result (Unit {0}) E) {a b c : Written} {A all : List Token} {t : Token} → Adds a b A → Writes r b c t → A ++ t ∷ [] ≡ all → OnOk r (Adds a c all)
then_token r {c = c} {t = t} p h e = then_ok r c (t ∷ []) p (added_by r h) e

pub ruleset adding = (added, adds2, adds3, adds4, adds5, adds6, adds7)

-- ---- along a list

-- What is added so far, and the tokens of the elements that are left, are those of all.
pub record Lists {A : Type 0} (each : A → List Token) (all left : List A) (old now : Written) : Type 0 where
  pub so_far : List Token
  pub adds : Adds old now so_far
  pub whole : so_far ++ flat_map each left ≡ flat_map each all

-- all are left
pub lists_none : {A : Type 0} (each : A → List Token) (all left : List A) (a : Written) → left ≡ all → Lists each all left a a
lists_none each all left a e = record { so_far = []; adds = adds_none a; whole = ap (flat_map each) e }

-- one more of them
pub lists_more : {A : Type 0} (each : A → List Token) (all left rest : List A) (x : A) {a b c : Written} → Lists each all left a b → left ≡ x ∷ rest → Adds b c (each x) → Lists each all rest a c
lists_more each all left rest x h e k = record {
  so_far = h.so_far ++ each x;
  adds = join h.adds k;
  whole = append_assoc h.so_far (each x) (flat_map each rest) ∙ ap (λ l. h.so_far ++ flat_map each l) (sym e) ∙ h.whole;
}

-- none is left
pub lists_all : {A : Type 0} (each : A → List Token) (all left : List A) {a b : Written} → Lists each all left a b → left ≡ [] → Adds a b (flat_map each all)
lists_all each all left h e = adds_as h.adds (sym (append-nil h.so_far) ∙ ap (λ l. h.so_far ++ flat_map each l) (sym e) ∙ h.whole)

-- one more of a slice
pub lists_next : {A : Type 0} (each : A → List Token) (xs : List A) (i : ℕ) (x : A) {a b c : Written} → Lists each xs (drop i xs) a b → i < length xs → x ≡ get_or xs i x → Adds b c (each x)
    → Lists each xs (drop (i + 1) xs) a c
lists_next each xs i x h within e k = lists_more each xs (drop i xs) (drop (i + 1) xs) x h (drop_more xs i x within ∙ ap (λ y. y ∷ drop (i + 1) xs) (sym e)) k

-- the whole slice
pub lists_whole : {A : Type 0} (each : A → List Token) (xs : List A) (i : ℕ) {a b : Written} → Lists each xs (drop i xs) a b → length xs ≤ i → Adds a b (flat_map each xs)
lists_whole each xs i h within = lists_all each xs (drop i xs) h (drop_all i xs within)

pub ruleset listing = (lists_none, lists_more, lists_all, lists_next, lists_whole)
