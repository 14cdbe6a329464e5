-- Which definition is which, call by call.
use Rattle.std.proofs.Common.{rules as std_rules, ◌≡◌, refl, sym, subst, ap, ◌∙◌, ℕ, ◌+◌, inl, inr, append_assoc, append-nil, Bool, true, false, cond, List, [], ◌∷◌, ◌++◌, length, length-append, arith, count_by, zero-add, map}
use Rattle.std.proofs.lemmas.List.{map-append, Sums.sum_by-append, Elements.Contains-append_cases, Elements.Contains-append_left, Elements.filter-append}
use Rattle.std.proofs.lemmas.List.Sorted.{IsPermutation-trans, IsPermutation-append_left, IsPermutation-map, Contains-permutation, sum_by-IsPermutation}
use Rattle.std.specs.{Prelude.IsPermutation, Prelude.not, Prelude.filter, List.Contains, BTreeMap.BTreeMap}
use Rattle.wit_model.specs.declared.model.{Resolve.Resolve, TypeId.TypeId}
use Rattle.encode_types.specs.declared.maps.TypeEncodingMaps.{TypeEncodingMaps}
use Rattle.encode_types.specs.{Codes.lists_of, Codes.ListKey, Maps.LearnsNumber, Maps.LearnsList, Scope.Scope}
use Rattle.encode_types.specs.Counts.{Definitions, Marked, slots_of, named_slots, other_slots, kind_slots, key_slots, names_defined, is_defined_by_name, type_more_if, IsTarget, AddsSlots}
use Rattle.encode_types.proofs.Lists.{none-in}
use Rattle.base_lemmas.proofs.{Elements.last_of as one-contained, Lists.map_of_map}

-- ---- marked slots

marked-both : (p : Bool × ℕ → Bool) (xs ys : Marked) → slots_of (filter p (xs ++ ys)) ≡ slots_of (filter p xs) ++ slots_of (filter p ys)
marked-both p xs ys = ap slots_of (filter-append p xs ys) ∙ map-append (λ x. x.1) (filter p xs) (filter p ys)

-- lists that have been learnt one after the other
pub more-then : {X : Type 0} (us vs ws xs ys : List X) → IsPermutation (us ++ xs) vs → IsPermutation (vs ++ ys) ws → IsPermutation (us ++ (xs ++ ys)) ws
more-then us vs ws xs ys p q = subst (λ zs. IsPermutation zs ws) (append_assoc us xs ys) (IsPermutation-trans ((us ++ xs) ++ ys) (vs ++ ys) ws (IsPermutation-append_left ys (us ++ xs) vs p) q)

same-kinds : (m m' : TypeEncodingMaps) → m'.def_to_index.entries ≡ m.def_to_index.entries → IsPermutation (kind_slots m ++ []) (kind_slots m')
same-kinds m m' e = search std_rules

-- one more in a table of lists
one-list-more : (t t' : BTreeMap ListKey ℕ) (xs : List ℕ) (i : ℕ) → IsPermutation (lists_of t ++ (xs, i) ∷ []) (lists_of t')
    → IsPermutation (map (λ e. e.1) t.entries ++ i ∷ []) (map (λ e. e.1) t'.entries)
one-list-more t t' xs i p = simp (map-append, map_of_map) at (IsPermutation-map (λ (e : List ℕ × ℕ). e.1) _ _ p)

-- the keys of functions, likewise
pub same-keys : (m m' : TypeEncodingMaps) → m'.func_type_map.entries ≡ m.func_type_map.entries → IsPermutation (key_slots m ++ []) (key_slots m')
same-keys m m' e = search std_rules

pub one-key-more : (m m' : TypeEncodingMaps) (xs : List ℕ) (i : ℕ) → IsPermutation (lists_of m.func_type_map ++ (xs, i) ∷ []) (lists_of m'.func_type_map)
    → IsPermutation (key_slots m ++ i ∷ []) (key_slots m')
one-key-more m m' xs i more = one-list-more m.func_type_map m'.func_type_map xs i more

pub count-push : {X : Type 0} (p : X → Bool) (xs : List X) (x : X) → count_by p (xs ++ x ∷ []) ≡ count_by p xs + cond (p x) 1 0
count-push p xs x = sum_by-append (λ y. cond (p y) 1 0) xs (x ∷ []) ∙ ap (λ n. count_by p xs + n) (zero-add (cond (p x) 1 0))

-- one number more: a name that is defined, or none
one-number-more : (r : Resolve) (scope : Scope) (m m' : TypeEncodingMaps) (id : TypeId) (i : ℕ) → LearnsNumber m m' id i
    → names_defined r scope m' ≡ names_defined r scope m + cond {A = ℕ} (is_defined_by_name r scope id.0) 1 0
one-number-more r scope m m' id i l = sum_by-IsPermutation (λ (e : ℕ × ℕ). cond (is_defined_by_name r scope e.0) 1 0) _ _ l.more ∙ count-push (λ e. is_defined_by_name r scope e.0)
    m.id_to_index.entries (id.0, i)

number-stays : (m m' : TypeEncodingMaps) (id : TypeId) (i : ℕ) → LearnsNumber m m' id i → (n j : ℕ) → Contains m.id_to_index.entries (n, j) → Contains m'.id_to_index.entries (n, j)
number-stays m m' id i l n j c = Contains-permutation _ _ (n, j) l.more (Contains-append_left m.id_to_index.entries ((id.0, i) ∷ []) (n, j) c)

-- ---- what a call adds

target-stays : {r : Resolve} {m m' : TypeEncodingMaps} {i : ℕ} → ((n j : ℕ) → Contains m.id_to_index.entries (n, j) → Contains m'.id_to_index.entries (n, j)) → IsTarget r m i → IsTarget r m' i
target-stays {r} {m} {m'} {i} stay t = record { number = t.number; def = t.def; target = t.target; there = t.there; alias = t.alias; index = stay t.target.0 i t.index }

-- one after the other
pub slots-then : {r : Resolve} {scope : Scope} {a b c : TypeEncodingMaps} {d e f : Definitions} → AddsSlots r scope a b d e → AddsSlots r scope b c e f → AddsSlots r scope a c d f
slots-then {r} {scope} {a} {b} {c} {d} {e} {f} p q = record {
  added = p.added ++ q.added;
  targets = p.targets ++ q.targets;
  types = q.types ∙ ap (λ xs. xs ++ slots_of q.added) p.types ∙ append_assoc d.types (slots_of p.added) (slots_of q.added) ∙ ap (λ xs. d.types ++ xs)
      (sym (map-append (λ (x : Bool × ℕ). x.1) p.added q.added));
  exported = q.exported ∙ ap (λ xs. xs ++ slots_of q.targets) p.exported ∙ append_assoc d.exported (slots_of p.targets) (slots_of q.targets) ∙ ap (λ xs. d.exported ++ xs)
      (sym (map-append (λ (x : Bool × ℕ). x.1) p.targets q.targets));
  kinds = subst (λ xs. IsPermutation (kind_slots a ++ xs) (kind_slots c)) (sym (marked-both (λ x. not x.0) p.added q.added))
      (more-then (kind_slots a) (kind_slots b) (kind_slots c) (other_slots p.added) (other_slots q.added) p.kinds q.kinds);
  names =
      (let l : length (named_slots (p.added ++ q.added)) ≡ length (named_slots p.added) + length (named_slots q.added) =
      ap length (marked-both (λ x. x.0) p.added q.added) ∙ length-append (named_slots p.added) (named_slots q.added) in
      let x = p.names in
      let y = q.names in
      omega arith);
  own = marked-both (λ x. x.0) p.targets q.targets ∙ (λ i. p.own i ++ q.own i) ∙ sym (marked-both (λ x. x.0) p.added q.added);
  others = λ i h. elim (Contains-append_cases (other_slots p.targets) (other_slots q.targets) i (subst (λ xs. Contains xs i) (marked-both (λ x. not x.0) p.targets q.targets) h)) [
    | inl x ↦ target-stays {r = r} {m = b} {m' = c} q.numbers_stay (p.others i x)
    | inr y ↦ q.others i y
  ];
  numbers_stay = λ n i h. q.numbers_stay n i (p.numbers_stay n i h);
}

module _ (r : Resolve) (scope : Scope) (m m' : TypeEncodingMaps) (d d' : Definitions) where
  -- no type number more
  slots-unnumbered : (added : Marked) → m'.id_to_index.entries ≡ m.id_to_index.entries → IsPermutation (kind_slots m ++ other_slots added) (kind_slots m') → d'.types ≡ d.types ++ slots_of added
      → d'.exported ≡ d.exported → named_slots added ≡ [] → AddsSlots r scope m m' d d'
  slots-unnumbered added n kinds t e none = record {
    added = added;
    targets = [];
    types = t;
    exported = e ∙ sym (append-nil d.exported);
    kinds = kinds;
    names = (λ i. length (none i) + names_defined r scope m) ∙ zero-add (names_defined r scope m) ∙ sym (ap (count_by (λ e. is_defined_by_name r scope e.0)) n);
    own = sym none;
    others = λ i c. none-in i c;
    numbers_stay = λ k i c. subst (λ (es : List (ℕ × ℕ)). Contains es (k, i)) (sym n) c;
  }

  -- nothing
  pub slots-none : m'.id_to_index.entries ≡ m.id_to_index.entries → m'.def_to_index.entries ≡ m.def_to_index.entries → d'.types ≡ d.types → d'.exported ≡ d.exported → AddsSlots r scope m m' d d'
  slots-none n k t e = slots-unnumbered [] n (same-kinds m m' k) (t ∙ sym (append-nil d.types)) e refl

  -- an unnamed kind, in slot i
  pub slots-kind : (xs : List ℕ) (i : ℕ) → LearnsList m m' xs i → d'.types ≡ d.types ++ i ∷ [] → d'.exported ≡ d.exported → AddsSlots r scope m m' d d'
  slots-kind xs i l t e = slots-unnumbered ((false, i) ∷ []) l.rest.numbers (one-list-more m.def_to_index m'.def_to_index xs i l.more) t e refl

  module _ (id : TypeId) (i : ℕ) (l : LearnsNumber m m' id i) where
    -- a type number
    slots-numbered : (added targets : Marked) (b : Bool) → is_defined_by_name r scope id.0 ≡ b → length (named_slots added) ≡ cond {A = ℕ} b 1 0 → other_slots added ≡ []
        → d'.types ≡ d.types ++ slots_of added → d'.exported ≡ d.exported ++ slots_of targets → named_slots targets ≡ named_slots added
        → ((k : ℕ) → Contains (other_slots targets) k → IsTarget r m' k) → AddsSlots r scope m m' d d'
    slots-numbered added targets b is count none t e own others = record {
      added = added;
      targets = targets;
      types = t;
      exported = e;
      kinds = subst (λ xs. IsPermutation (kind_slots m ++ xs) (kind_slots m')) (sym none) (same-kinds m m' l.rest.kinds);
      names = (let x = one-number-more r scope m m' id i l in let y = ap (λ (z : Bool). cond {A = ℕ} z 1 0) is in omega (arith, x, y, count));
      own = own;
      others = others;
      numbers_stay = number-stays m m' id i l;
    }

    -- one that has no definition under a name, and is exported under none but a resource's
    pub slots-number : is_defined_by_name r scope id.0 ≡ false → d'.types ≡ d.types → d'.exported ≡ d.exported → AddsSlots r scope m m' d d'
    slots-number b t e = slots-numbered [] [] false b refl refl (t ∙ sym (append-nil d.types)) (e ∙ sym (append-nil d.exported)) refl (λ k c. none-in k c)

    -- one of a named type, whose name is exported from slot j: that of its definition, or of what it is another name of
    pub slots-named : (j : ℕ) (b : Bool) → is_defined_by_name r scope id.0 ≡ b → d'.types ≡ (type_more_if b j d).types → d'.exported ≡ d.exported ++ j ∷ [] → (b ≡ false → IsTarget r m j)
        → AddsSlots r scope m m' d d'
    slots-named j true b t e target = slots-numbered ((true, j) ∷ []) ((true, j) ∷ []) true b refl refl t e refl (λ k c. none-in k c)
    slots-named j false b t e target = slots-numbered [] ((false, j) ∷ []) false b refl refl (t ∙ sym (append-nil d.types)) e refl
        (λ k c. subst (IsTarget r m') (one-contained j k c) (target-stays {r = r} {m = m} {m' = m'} (number-stays m m' id i l) (target refl)))
