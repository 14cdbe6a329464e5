-- Ordered maps as lists of entries: what is found, what isn't, and what is added.
use Rattle.std.proofs.Common.{rules as std_rules, ◌≡◌, refl, sym, subst, ap, ◌∙◌, ℕ, zero, suc, ◌+◌, ◌<◌, Bool, true, false, List, [], ◌∷◌, ◌++◌, map, length, get_or, take, Option, Some, None, arith, inl, inr, nat_cmp, length-append, append_assoc, Ordering}
use Rattle.std.proofs.lemmas.{Cmp.nat_cmp_total, Cmp.nat_list_cmp_total, Map.Lookups.exact_bytes, Map.Lookups.exact_unsigned, Bool.cases_Bool, Bool.cond-true, Bool.cond-false, Bool.cases_eq, List.length-map, List.map-append, List.take_more}
use Rattle.std.proofs.lemmas.List.{Edits.swapped_from_swap, Elements.Contains-append_left, Elements.Contains-push, Elements.Contains-push_cases}
use Rattle.std.proofs.lemmas.List.Sorted.{IsPermutation-refl, IsPermutation-sym, IsPermutation-cons, IsPermutation-to_front, IsPermutation-trans, IsPermutation-swap, IsPermutation-keeps, length_permutation, Contains-permutation, IsPermutation-map}
use Rattle.std.specs.{Prelude.IsPermutation, Prelude.AllPairs, Prelude.◌⊎◌, Prelude.IfSome, Prelude.IfNone, Prelude.IsSome, Borrow.Bor, Cmp.IsTotalOrder, List.Contains, List.swap, Map.keys_of, Map.lookup, Option.is_some, Option.unwrap_or, Cmp.Lexicographic.slice_cmp, Ordering.is_eq, Ordering.match_ordering, Ordering.ordering_reverse, Ordering.ordering_then, BTreeMap.insert_entry, BTreeMap.is_at}
use Rattle.std.specs.declared.cmp.Ordering.TheVariants.{Less, Equal, Greater}
use Rattle.wit_model.specs.Text.{Text, text_of}
use Rattle.wit_model.specs.declared.model.Param.{Param}
use Rattle.encode_types.specs.declared.{key.FunctionKey.FunctionKey, maps.TypeEncodingMaps.TypeEncodingMaps}
use Rattle.encode_types.specs.Codes.{names_of, lists_of, Names, ListKey, IsTable, HasNumber, AreListed, AddsParams, AddsParam, IsKeyList, type_code}
use Rattle.encode_types.specs.{Heads.head_of, Heads.name_order, KeyLaws.key_equiv}
use Rattle.encode_types.specs.Maps.{AreNumbered, NamesGrow, AddsNames, IsOnce, LacksKey, LacksList}
use Rattle.encode_types.proofs.{EqualLists.lists-of-keys, Lists.none-in}
use Rattle.base_lemmas.proofs.Elements.{contains-map, lookup_stands as found, map_from as contains-unmap}

pub equal-is : (o : Ordering) → is_eq o ≡ true → o ≡ Equal
equal-is x h = search std_rules

module _ {K X : Type 0} (test : K → Bool) where
  -- where nothing is found, no entry passes
  pub absent : (es : List (K × X)) → lookup test es ≡ None → (k : K) (v : X) → Contains es (k, v) → test k ≡ true → ⊥
  absent [] h k v c t = none-in _ c
  absent (e ∷ es) h k v (zero, l, x) t = search std_rules
  absent (e ∷ es) h k v (suc i, l, x) t = elim (cases_Bool (test e.0)) [
    | inl y ↦ (let s : Some e.1 ≡ None = sym (cond-true _ _ _ y) ∙ h in let z : ⊥ = cc in z)
    | inr n ↦ absent es (sym (cond-false _ _ _ n) ∙ h) k v (i, omega (arith, l), x) t
  ]

-- a new entry goes somewhere among the others
module _ {K X : Type 0} (cmp : K → K → Ordering) (k : K) (v : X) where
  placed : (es : List (K × X)) → lookup (is_at (cmp k)) es ≡ None → IsPermutation ((k, v) ∷ es) (insert_entry cmp es k v)
  placed [] h = IsPermutation-refl _
  placed (e ∷ es) h = by (cmp k e.0) refl (λ n. placed es (sym (cond-false _ _ _ n) ∙ h))
    where
      by : (o : Ordering) → cmp k e.0 ≡ o → (is_eq (cmp k e.0) ≡ false → IsPermutation ((k, v) ∷ es) (insert_entry cmp es k v))
          → IsPermutation ((k, v) ∷ e ∷ es) (match_ordering o ((k, v) ∷ e ∷ es) ((e.0, v) ∷ es) (e ∷ insert_entry cmp es k v))
      by Less q more = IsPermutation-refl _
      by Equal q more = absurd (let y : is_eq (cmp k e.0) ≡ true = ap is_eq q in let s : Some e.1 ≡ None = sym (cond-true _ _ _ y) ∙ h in let z : ⊥ = cc in z)
      by Greater q more =
          let n : is_eq (cmp k e.0) ≡ false = ap is_eq q in
          IsPermutation-trans ((k, v) ∷ e ∷ es) (e ∷ (k, v) ∷ es) (e ∷ insert_entry cmp es k v) (IsPermutation-swap ((k, v) ∷ e ∷ es) (e ∷ (k, v) ∷ es) 0 1 (omega arith) (omega arith) refl)
          (IsPermutation-cons e _ _ (more n))

  -- where the entry is there already, the entries stay
  pub stays : (es : List (K × X)) → lookup (is_at (cmp k)) es ≡ Some v → keys_of (insert_entry cmp es k v) ≡ keys_of es → insert_entry cmp es k v ≡ es
  stays [] h q = absurd (let z : ⊥ = cc in z)
  stays (e ∷ es) h q = by (cmp k e.0) refl q (λ n r. stays es (sym (cond-false _ _ _ n) ∙ h) r)
    where
      by : (o : Ordering) → cmp k e.0 ≡ o → keys_of (match_ordering o ((k, v) ∷ e ∷ es) ((e.0, v) ∷ es) (e ∷ insert_entry cmp es k v)) ≡ keys_of (e ∷ es)
          → (is_eq (cmp k e.0) ≡ false → keys_of (insert_entry cmp es k v) ≡ keys_of es → insert_entry cmp es k v ≡ es)
          → match_ordering o ((k, v) ∷ e ∷ es) ((e.0, v) ∷ es) (e ∷ insert_entry cmp es k v) ≡ e ∷ es
      by Less p r more = absurd (let l : suc (suc (length (keys_of es))) ≡ suc (length (keys_of es)) = ap length r in omega (arith, l))
      by Equal p r more =
          let found_is : Some e.1 ≡ Some v = sym (cond-true _ _ _ (ap is_eq p)) ∙ h in
          let same : e.1 ≡ v = cc in
          ap (λ x. (e.0, x) ∷ es) (sym same)
      by Greater p r more =
          let rest : keys_of (insert_entry cmp es k v) ≡ keys_of es = cc in
          ap (λ xs. e ∷ xs) (more (ap is_eq p) rest)

  pub inserted : (es fs : List (K × X)) → lookup (is_at (cmp k)) es ≡ None → fs ≡ insert_entry cmp es k v → IsPermutation (es ++ (k, v) ∷ []) fs
  inserted es fs h e = subst (IsPermutation (es ++ (k, v) ∷ [])) (sym e) (IsPermutation-trans _ _ _ (IsPermutation-to_front es (k, v)) (placed es h))

-- ---- pairs apart

module _ {X : Type 0} (R : X → X → Type 0) (back : (x y : X) → R x y → R y x) where
  -- of two different places, whichever comes first
  abbrev Apart : List X → Type 0
  Apart xs = (i j : ℕ) (d : X) → (i ≡ j → ⊥) → i < length xs → j < length xs → R (get_or xs i d) (get_or xs j d)

  apart-from : (xs : List X) → AllPairs R xs → Apart xs
  apart-from xs h i j d n li lj = search std_rules

  pairs-from : (xs : List X) → Apart xs → AllPairs R xs
  pairs-from xs h i j d l lj = h i j d (λ e. omega (arith, e, l)) (omega (arith, l, lj)) lj

  exchanged : (xs : List X) (a b : ℕ) → a < length xs → b < length xs → Apart xs → Apart (swap xs a b)
  exchanged xs a b la lb h i j d n li lj =
      let s = swapped_from_swap xs (swap xs a b) a b d la lb refl in
      let m : length (swap xs a b) ≡ length xs = length_permutation xs (swap xs a b) (IsPermutation-swap xs (swap xs a b) a b la lb refl) in
      let place : (k : ℕ) → k < length xs → (p : ℕ) × (get_or (swap xs a b) k d ≡ get_or xs p d) × (p < length xs)
      × (((k ≡ a) × (p ≡ b)) ⊎ (((k ≡ b) × (p ≡ a)) ⊎ ((k ≡ a → ⊥) × (k ≡ b → ⊥) × (p ≡ k)))) = λ k lk. elim (cases_eq k a) [
        | inl e ↦ (b, ap (λ z. get_or (swap xs a b) z d) e ∙ s.0, lb, inl (e, refl))
        | inr e ↦ elim (cases_eq k b) [ inl f ↦ (a, ap (λ z. get_or (swap xs a b) z d) f ∙ s.1, la, inr (inl (f, refl))) | inr f ↦ (k, s.2 k e f, lk, inr (inr (e, f, refl))) ]
      ] in
      let p = place i (omega (arith, li, m)) in
      let q = place j (omega (arith, lj, m)) in
      rw (p.1, q.1) (h p.0 q.0 d (λ e. differ a b i j p.0 q.0 n p.3 q.3 e) p.2 q.2)
    where
      differ : (a b i j p q : ℕ) → (i ≡ j → ⊥) → ((i ≡ a) × (p ≡ b)) ⊎ (((i ≡ b) × (p ≡ a)) ⊎ ((i ≡ a → ⊥) × (i ≡ b → ⊥) × (p ≡ i)))
          → ((j ≡ a) × (q ≡ b)) ⊎ (((j ≡ b) × (q ≡ a)) ⊎ ((j ≡ a → ⊥) × (j ≡ b → ⊥) × (q ≡ j))) → p ≡ q → ⊥
      differ a b i j p q n s t e = n (grind (arith, s, t, e))

  pub pairs-permuted : (xs ys : List X) → IsPermutation xs ys → AllPairs R xs → AllPairs R ys
  pairs-permuted xs ys p h = pairs-from ys (IsPermutation-keeps xs Apart (apart-from xs h) (λ l i j li lj k. exchanged l i j li lj k) ys p)

-- ---- memberships through permutations

module _ {X : Type 0} (xs ys : List X) (x : X) (p : IsPermutation (xs ++ x ∷ []) ys) where
  pub kept-in : (y : X) → Contains xs y → Contains ys y
  kept-in y c = Contains-permutation _ ys y p (Contains-append_left xs (x ∷ []) y c)

  pub new-in : Contains ys x
  new-in = Contains-permutation _ ys x p (Contains-push xs x)

  pub one-more-in : (y : X) → Contains ys y → Contains xs y ⊎ (x ≡ y)
  one-more-in y c = Contains-push_cases xs x y (Contains-permutation ys _ y (IsPermutation-sym _ ys p) c)

-- of entries: another place among the values
pub entry-more : {X : Type 0} (xs ys : List (X × ℕ)) (x : X) (i : ℕ) → IsPermutation (xs ++ (x, i) ∷ []) ys → (y : X) (j : ℕ) → Contains ys (y, j) → Contains xs (y, j) ⊎ ((y ≡ x) × (j ≡ i))
entry-more xs ys x i p y j c = elim (one-more-in xs ys (x, i) p (y, j) c) [ inl q ↦ inl q | inr e ↦ inr (ap (λ z. z.0) (sym e), ap (λ z. z.1) (sym e)) ]

-- ---- options

pub some-when : {X : Type 0} (o : Option X) (P : X → Type 0) → ((v : X) → o ≡ Some v → P v) → IfSome o P
some-when x y f = search std_rules

pub none-when : {X : Type 0} (o : Option X) (Q : Type 0) → (o ≡ None → Q) → IfNone o Q
none-when x y f = search std_rules

-- what some holds of is found, where none says that it holds of none
pub some-where : {X : Type 0} (o : Option X) (P : X → Type 0) → IfNone o ((x : X) → P x → ⊥) → (x : X) × P x → IsSome o
some-where x y h k = search std_rules

pub none-or : {X : Type 0} (o : Option X) → ((v : X) → o ≡ Some v → ⊥) → o ≡ None
none-or x f = search std_rules

-- ---- orders

self-equal : (o : Ordering) → o ≡ ordering_reverse o → o ≡ Equal
self-equal x h = search std_rules

pub equal-self : {K : Type 0} {R : K → K → Ordering} → IsTotalOrder R → (x : K) → R x x ≡ Equal
equal-self o x = self-equal _ (o.antisymm x x)

pub at-some : {X : Type 0} (o : Option X) (P : X → Type 0) (v : X) → o ≡ Some v → IfSome o P → P v
at-some o P v e h = rw e at h

pub at-none : {X : Type 0} (o : Option X) (Q : Type 0) → o ≡ None → IfNone o Q → Q
at-none o Q e h = rw e at h

-- ---- entries by a number

pub number-found : (es : List (ℕ × ℕ)) (n : ℕ) (o : Option ℕ) → o ≡ lookup (is_at (nat_cmp n)) es → IfSome o (λ i. Contains es (n, i))
number-found es n o q = some-when o _ (λ v e. let f = found (is_at (nat_cmp n)) es v (sym q ∙ e) in subst (λ k. Contains es (k, v)) (sym (exact_unsigned n f.0 (equal-is _ f.2))) f.1)

-- ---- entries by a list of numbers that is read from the key

module _ {K : Type 0} (f : K → List ℕ) where
  abbrev read : List (K × ℕ) → List (List ℕ × ℕ)
  read es = map (λ e. (f e.0, e.1)) es

  -- by a test that passes at this list alone
  pub reads : (xs : List ℕ) (test : K → Bool) → ((k : K) → test k ≡ true → f k ≡ xs) → (es : List (K × ℕ)) (v : ℕ) → lookup test es ≡ Some v → Contains (read es) (xs, v)
  reads xs test tells es v h =
      let r = found test es v h in
      subst (λ ys. Contains (read es) (ys, v)) (tells r.0 r.2) (contains-map (λ (e : K × ℕ). (f e.0, e.1)) es (r.0, v) r.1)

  -- by a test that passes at each entry with this list
  pub lacks : (xs : List ℕ) (test : K → Bool) (es : List (K × ℕ)) → ((k : K) (v : ℕ) → Contains es (k, v) → f k ≡ xs → test k ≡ true) → lookup test es ≡ None → (i : ℕ) → Contains (read es) (xs, i) → ⊥
  lacks xs test es finds h i c =
      let r = contains-unmap (λ (e : K × ℕ). (f e.0, e.1)) es (xs, i) c in
      absent test es h r.0.0 r.0.1 r.1 (finds r.0.0 r.0.1 r.1 (ap (λ (z : List ℕ × ℕ). z.0) r.2))

  pub list-inserted : (cmp : K → K → Ordering) (k : K) → ((j : K) → is_at (cmp k) j ≡ true → f j ≡ f k) → (es fs : List (K × ℕ)) (i : ℕ) → ((j : ℕ) → Contains (read es) (f k, j) → ⊥)
      → fs ≡ insert_entry cmp es k i → IsPermutation (read es ++ (f k, i) ∷ []) (read fs)
  list-inserted cmp k tells es fs i none e =
      let p = inserted cmp k i es fs (none-or (lookup (is_at (cmp k)) es) (λ v h. none v (reads (f k) (is_at (cmp k)) tells es v h))) e in
      subst (λ xs. IsPermutation xs (read fs)) (map-append (λ (e : K × ℕ). (f e.0, e.1)) es ((k, i) ∷ [])) (IsPermutation-map (λ (e : K × ℕ). (f e.0, e.1)) _ _ p)

-- ---- lists in falling order

abbrev at_list : List ℕ → ListKey → Bool
at_list xs k = is_eq (slice_cmp nat_cmp k.0.items xs)

tells-list : (xs : List ℕ) (k : ListKey) → at_list xs k ≡ true → k.0.items ≡ xs
tells-list xs k h = exact_bytes k.0.items xs (equal-is _ h)

pub key-found : (es : List (ListKey × ℕ)) (xs : List ℕ) (o : Option ℕ) → o ≡ lookup (at_list xs) es → IfSome o (λ i. Contains (map {B = List ℕ × ℕ} (λ e. (e.0.0.items, e.1)) es) (xs, i))
key-found es xs o q = some-when o _ (λ v e. reads (λ (k : ListKey). k.0.items) xs (at_list xs) (tells-list xs) es v (sym q ∙ e))

pub key-lacks : (es : List (ListKey × ℕ)) (xs : List ℕ) (o : Option ℕ) → o ≡ lookup (at_list xs) es → IfNone o (LacksList (map {B = List ℕ × ℕ} (λ e. (e.0.0.items, e.1)) es) xs)
key-lacks es xs o q = none-when o _ (λ e. lacks (λ (k : ListKey). k.0.items) xs (at_list xs) es (λ k v c s. ap (λ ys. is_eq (slice_cmp nat_cmp ys xs)) s ∙ ap is_eq (equal-self nat_list_cmp_total xs))
    (sym q ∙ e))

pub key-inserted : (es fs : List (ListKey × ℕ)) (k : ListKey) (i : ℕ) → LacksList (map {B = List ℕ × ℕ} (λ e. (e.0.0.items, e.1)) es) k.0.items
    → fs ≡ insert_entry (λ a b. slice_cmp nat_cmp b.0.items a.0.items) es k i
    → IsPermutation (map {B = List ℕ × ℕ} (λ e. (e.0.0.items, e.1)) es ++ (k.0.items, i) ∷ []) (map {B = List ℕ × ℕ} (λ e. (e.0.0.items, e.1)) fs)
key-inserted es fs k i none e = list-inserted (λ (k : ListKey). k.0.items) (λ a b. slice_cmp nat_cmp b.0.items a.0.items) k (λ j h. tells-list k.0.items j h) es fs i none e

-- ---- names

abbrev at_name : Bor Text → Bor Text → Bool
at_name k j = is_at (name_order k) j

abbrev texts_of : List (Bor Text × ℕ) → Names
texts_of es = map (λ e. (e.0.now, e.1)) es

second-equal : (a b : Ordering) → is_eq (ordering_then a b) ≡ true → is_eq b ≡ true
second-equal x b h = search std_rules

tells-name : (k j : Bor Text) → at_name k j ≡ true → j.now ≡ k.now
tells-name k j h = sym (exact_bytes k.now j.now (equal-is _ (second-equal (nat_cmp (head_of k.now) (head_of j.now)) (slice_cmp nat_cmp k.now j.now) h)))

same-name : (k j : Bor Text) → j.now ≡ k.now → at_name k j ≡ true
same-name k j s = search (std_rules, equal-self, nat_cmp_total, nat_list_cmp_total)

name-lacks : (es : List (Bor Text × ℕ)) (k : Bor Text) → lookup (at_name k) es ≡ None → (i : ℕ) → Contains (texts_of es) (k.now, i) → ⊥
name-lacks es k h = lacks (λ (j : Bor Text). j.now) k.now (at_name k) es (λ j v c s. same-name k j s) h

pub names-grow : (names names' : Names) (t : Text) → IsPermutation (names ++ (t, length names) ∷ []) names' → ((n : ℕ) → Contains names (t, n) → ⊥) → NamesGrow names names'
names-grow names names' t p none = record { kept = λ u n c. kept-in names names' (t, length names) p (u, n) c; numbered = numbered }
  where
    more : (u : Text) (n : ℕ) → Contains names' (u, n) → Contains names (u, n) ⊎ ((u ≡ t) × (n ≡ length names))
    more u n c = entry-more names names' t (length names) p u n c

    numbered : AreNumbered names → AreNumbered names'
    numbered a = record {
      table = record {
        one_number = λ u m n c d. elim (more u m c) [
          | inl c' ↦ elim (more u n d) [ inl d' ↦ a.table.one_number u m n c' d' | inr e ↦ absurd (none m (rw e.0 at c')) ]
          | inr e ↦ elim (more u n d) [ inl d' ↦ absurd (none n (rw e.0 at d')) | inr g ↦ e.1 ∙ sym g.1 ]
        ];
        one_text = λ u w n c d. elim (more u n c) [
          | inl c' ↦ elim (more w n d) [ inl d' ↦ a.table.one_text u w n c' d' | inr e ↦ absurd (omega (arith, a.below u n c', e.1)) ]
          | inr e ↦ elim (more w n d) [ inl d' ↦ absurd (omega (arith, a.below w n d', e.1)) | inr g ↦ e.0 ∙ sym g.0 ]
        ];
      };
      below = λ u n c.
          let m : length names' ≡ length names + 1 = length_permutation (names ++ (t, length names) ∷ []) names' p ∙ length-append names ((t, length names) ∷ []) in
          elim (more u n c) [ inl c' ↦ omega (arith, a.below u n c', m) | inr e ↦ omega (arith, e.1, m) ];
    }

pub names-same : (names names' : Names) → names' ≡ names → NamesGrow names names'
names-same names names' e = subst (NamesGrow names) (sym e) (record { kept = λ t n c. c; numbered = λ a. a })

pub names-then : {a b c : Names} → NamesGrow a b → NamesGrow b c → NamesGrow a c
names-then p q = record { kept = λ t n h. q.kept t n (p.kept t n h); numbered = λ h. q.numbered (p.numbered h) }

-- what is learnt of a name that is given a number unless it has one
pub record LearnsName (es fs : List (Bor Text × ℕ)) (k : Bor Text) (n : ℕ) : Type 0 where
  pub grow : NamesGrow (texts_of es) (texts_of fs)
  pub known : HasNumber (texts_of es) k.now → fs ≡ es
  pub there : Contains (texts_of fs) (k.now, n)

pub name-learnt : (es fs : List (Bor Text × ℕ)) (k : Bor Text) (n : ℕ) → fs ≡ insert_entry name_order es k n → n ≡ unwrap_or (lookup (is_at (name_order k)) es) (length es)
    → (IsSome (lookup (is_at (name_order k)) es) → keys_of fs ≡ keys_of es) → LearnsName es fs k n
name-learnt es fs k n e q s = by (lookup (at_name k) es) refl
  where
    by : (o : Option ℕ) → lookup (at_name k) es ≡ o → LearnsName es fs k n
    by None h =
        let long : n ≡ length (texts_of es) = q ∙ ap (λ o. unwrap_or o (length es)) h ∙ sym (length-map es (λ (e : Bor Text × ℕ). (e.0.now, e.1))) in
        let more : IsPermutation (texts_of es ++ (k.now, n) ∷ []) (texts_of fs) = list-inserted (λ (j : Bor Text). j.now) name_order k (λ j t. tells-name k j t) es fs n (name-lacks es k h) e in
        record {
          grow = names-grow (texts_of es) (texts_of fs) k.now (subst (λ (m : ℕ). IsPermutation (texts_of es ++ (k.now, m) ∷ []) (texts_of fs)) long more) (name-lacks es k h);
          known = λ has. absurd (name-lacks es k h has.0 has.1);
          there = new-in (texts_of es) (texts_of fs) (k.now, n) more;
        }
    by (Some v) h =
        let same : n ≡ v = q ∙ ap (λ o. unwrap_or o (length es)) h in
        let put : fs ≡ insert_entry name_order es k v = e ∙ ap (insert_entry name_order es k) same in
        let stay : fs ≡ es = put ∙ stays name_order k v es h (ap keys_of (sym put) ∙ s (ap is_some h)) in
        record {
          grow = names-same (texts_of es) (texts_of fs) (ap texts_of stay);
          known = λ has. stay;
          there = subst (λ (m : ℕ). Contains (texts_of fs) (k.now, m)) (sym same)
              (subst (λ (gs : List (Bor Text × ℕ)). Contains (texts_of gs) (k.now, v)) (sym stay) (reads (λ (j : Bor Text). j.now) k.now (at_name k) (tells-name k) es v h));
        }

-- ---- lists of parameters

pub listed-more : (names : Names) (ps : List Param) (xs : List ℕ) (p : Param) (n : ℕ) → AreListed names ps xs → Contains names (text_of p.name, n)
    → AreListed names (ps ++ p ∷ []) (xs ++ n ∷ type_code p.ty ∷ [])
listed-more names [] [] p n h c = (c, refl, tt)
listed-more names (q ∷ ps) (x ∷ y ∷ xs) p n h c = (h.0, h.1, listed-more names ps xs p n h.2 c)
listed-more names ps xs p n h c = absurd h

pub listed-names : (names : Names) (ps : List Param) (xs : List ℕ) (p : Param) → AreListed names ps xs → Contains ps p → (n : ℕ) × Contains names (text_of p.name, n)
listed-names names [] xs p h c = none-in p c
listed-names names (q ∷ ps) (x ∷ y ∷ xs) p h (zero, l, e) = (x, subst (λ (z : Param). Contains names (text_of z.name, x)) e h.0)
listed-names names (q ∷ ps) (x ∷ y ∷ xs) p h (suc i, l, e) = listed-names names ps xs p h.2 (i, omega (arith, l), e)
listed-names names (q ∷ ps) xs p h c = absurd h

pub listed-grow : (names names' : Names) (ps : List Param) (xs : List ℕ) → NamesGrow names names' → AreListed names ps xs → AreListed names' ps xs
listed-grow names names' [] [] g h = tt
listed-grow names names' (q ∷ ps) (x ∷ y ∷ xs) g h = (g.kept _ x h.0, h.1, listed-grow names names' ps xs g h.2)
listed-grow names names' ps xs g h = absurd h

pub key-grow : (names names' : Names) (key : FunctionKey) (xs : List ℕ) → NamesGrow names names' → IsKeyList names key xs → IsKeyList names' key xs
key-grow names names' key xs g h = record { middle = h.middle; listed = listed-grow names names' key.params.0.now h.middle g h.listed; is = h.is }

-- one more parameter of a loop
pub adds-next : (names : Names) (ps : List Param) (i : ℕ) (p : Param) (start before after : List ℕ) → i < length ps → p ≡ get_or ps i p → AddsParams names i start before ps
    → AddsParam names before after p → AddsParams names (i + 1) start after ps
adds-next names ps i p start before after l e a b =
    search (std_rules, append_assoc start a.middle (b.number ∷ type_code p.ty ∷ []), take_more ps i p l, listed-more names (take i ps) a.middle p b.number a.are b.there)

pub adds-grow : (names names' : Names) (n : ℕ) (xs ys : List ℕ) (ps : List Param) → NamesGrow names names' → AddsParams names n xs ys ps → AddsParams names' n xs ys ps
adds-grow names names' n xs ys ps g a = record { middle = a.middle; is = a.is; are = listed-grow names names' (take n ps) a.middle g a.are; most = a.most }

-- one key has one list
pub one-list : (names : Names) (key : FunctionKey) (xs ys : List ℕ) → IsTable names → IsKeyList names key xs → IsKeyList names key ys → xs ≡ ys
one-list names key xs ys t p q = lists-of-keys names key key xs ys t p q (key_equiv.refl key)

pub adds-same-names : (m : TypeEncodingMaps) → AddsNames m m
adds-same-names m = search std_rules

pub adds-names-then : {a b c : TypeEncodingMaps} → AddsNames a b → AddsNames b c → AddsNames a c
adds-names-then p q = search std_rules

-- a key whose list the maps lack
pub key-lacking : (m : TypeEncodingMaps) (key : FunctionKey) (xs : List ℕ) → IsOnce m → IsKeyList (names_of m.names) key xs → LacksList (lists_of m.func_type_map) xs → LacksKey m key
key-lacking m key xs once is none i h = none i (subst (λ (ys : List ℕ). Contains (lists_of m.func_type_map) (ys, i)) (one-list (names_of m.names) key h.0 xs once.names_.table h.1 is) h.2)
