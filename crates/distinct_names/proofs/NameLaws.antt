-- Names, none of which stands twice: as they are put into a table one after the other, and as labels.
use Rattle.std.proofs.Common.{rules as std_rules, ◌≡◌, sym, ◌∙◌, ℕ, ◌+◌, ◌<◌, ◌≤◌, Bool, true, false, not, cond, List, [], ◌∷◌, ◌++◌, map, drop, length, get_or, Result, IfOk}
use Rattle.std.specs.{Borrow.Bor, List.list_all, List.list_any}
use Rattle.wit_model.specs.{Text.Text, Text.text_eq, Names.is_label}
use Rattle.wit_model.proofs.Distinct.{adds_new, adds_distinct, new_turn, old_turn, last_turn}
use Rattle.comp_meaning.specs.Rules.{are_labels, distinct}
use Rattle.comp_meaning.proofs.RulesLemmas.{distinct_same}

abbrev pub seen : Bor (List ℕ) → Text
seen k = k.now

adds_all : (ts : List Text) → adds_new text_eq [] ts ≡ distinct ts
adds_all ts = adds_distinct ts ∙ distinct_same ts

module _ {A : Type 0} (name : A → Text) (items : List A) (i : ℕ) (x : A) (more : i < length items) (is : x ≡ get_or items i x) (k : Bor (List ℕ)) (is_name : k.now ≡ name x)
    (ks : List (Bor (List ℕ))) (r : Bool) (tells : r ≡ not (list_any (λ o. text_eq k.now o.now) ks))
    (kept : adds_new text_eq (map seen ks) (drop i (map name items)) ≡ adds_new text_eq [] (map name items)) where
  pub name_seen : r ≡ false → false ≡ distinct (map name items)
  name_seen old = sym (old_turn text_eq name seen items i x ks k r more is is_name tells old) ∙ (kept ∙ adds_all (map name items))

  pub name_new : (new : List (Bor (List ℕ))) → r ≡ true → new ≡ cond (list_any (λ o. text_eq k.now o.now) ks) ks (ks ++ k ∷ [])
      → adds_new text_eq (map seen new) (drop (i + 1) (map name items)) ≡ adds_new text_eq [] (map name items)
  name_new new fresh added = new_turn text_eq name seen items i x ks k new r (adds_new text_eq [] (map name items)) more is is_name tells fresh added kept

pub names_all : {A : Type 0} (name : A → Text) (items : List A) (i : ℕ) (ks : List (Bor (List ℕ))) → length items ≤ i
    → adds_new text_eq (map seen ks) (drop i (map name items)) ≡ adds_new text_eq [] (map name items) → true ≡ distinct (map name items)
names_all name items i ks past kept = sym (last_turn text_eq name items i (map seen ks) past) ∙ (kept ∙ adds_all (map name items))

-- texts that are labels, each once
pub labels_good : {E : Type 0} (r : Result Bool E) (ls : List Text) → list_all is_label ls ≡ true → IfOk r (λ b. b ≡ distinct ls) → IfOk r (λ b. b ≡ are_labels ls)
labels_good x ls all h = search std_rules
