-- An instance more in the component type of a world: it is the latest one of its interface, and the aliases stay.
use Rattle.std.proofs.Common.{rules as std_rules, ◌≡◌, refl, sym, subst, ap, ◌∙◌, ℕ, ◌+◌, ◌⊎◌, inl, inr, nat_cmp, nat_eq, Bool, true, false, List, [], ◌∷◌, ◌++◌, append_assoc, append-nil, length, length-append, map, flat_map, Option, Some, None, is_some, arith, ◌≤◌}
use Rattle.std.proofs.{lemmas.Cmp.nat_eq_equiv, lemmas.Cmp.nat_cmp_total, lemmas.Map.Keys.IsDistinct-push, Math.Seq.drop-append_seam, Math.Seq.take-append_seam}
use Rattle.std.proofs.{lemmas.List.Elements.Contains-append_cases, lemmas.List.Elements.Contains-append_left, lemmas.List.Elements.Contains-append_right, lemmas.List.map-append}
use Rattle.std.proofs.{lemmas.Option.slice_get_within, lemmas.Bool.cases_Bool}
use Rattle.std.specs.{BTreeMap.is_at, BTreeMap.insert_entry, List.Contains, List.IsDistinct, Ordering.is_eq}
use Rattle.wit_model.specs.declared.model.{Resolve.Resolve, TypeId.TypeId}
use Rattle.comp_bytes.specs.{Raw.Alias, Raw.Declaration, Raw.Declarations, Raw.append, Held.type_slots_of}
use Rattle.encode_types.specs.Known.{Aliased, AreAliases, Around, IsAlias, ReachesAround, alias_declared, aliased, as_before, known_instance, known_slot, with_alias, with_aliases}
use Rattle.encode_types.proofs.{Lists.none-in, Planning.lacks-member, Tables.equal-self}
use Rattle.wit_encode.specs.{DependencyAliases.alias_in, DependencyAliases.export_alias, WrittenNames.instance_name, WrittenNames.instance_names}
use Rattle.wit_encode.specs.Encoders.{declared_after}
use Rattle.wit_encode.specs.WorldAliases.{HasAliasesBehind, HasSlot, IsAliasBehind, KeepsAliases, KeepsBehind, KeepsListed, PlacedAlias, aliases_in, in_one_list, interfaces_in, pairs_in, place_and_number, placed_alias, placed_aliases, IsLatest}
use Rattle.wit_encode.proofs.{DependencyAliases.known-kept, WrittenNames.names-behind, WrittenNames.names-more, Numbers.apart-behind}
use Rattle.wit_encode.proofs.{Imported.at-same, LatestInstances.found-new, LatestInstances.found-other}
use Rattle.base_lemmas.proofs.Elements.{contains-later, contains-map, contains-one, last_of as one-contained, map_from as from-map}
use Rattle.base_lemmas.proofs.{Lists.map_of_map, Lists.at_last, Lists.front_at, Numbers.none-twice, Options.some_same as one-some, Lists.front_or_end}

-- ---- The aliases in the component type of a world, behind each declaration but that of an instance, and in the end.

-- ---- one declaration more

at-count : (n m : ℕ) (xs : List Alias) → n ≡ m → map {B = ℕ × Alias} (λ a. (n, a)) xs ≡ map {B = ℕ × Alias} (λ a. (m, a)) xs
at-count n m xs e = ap (λ (k : ℕ). map {B = ℕ × Alias} (λ a. (k, a)) xs) e

placed-behind : (n : ℕ) (ds : Declarations) (d : Declaration)
    → placed_aliases n (append ds (Declarations.declares d Declarations.no_more)) ≡ placed_aliases n ds ++ map {B = ℕ × Alias} (λ a. (n + length (instance_names ds), a)) (alias_in d)
placed-behind n Declarations.no_more d = append-nil (map {B = ℕ × Alias} (λ a. (n, a)) (alias_in d)) ∙ at-count n (n + 0) (alias_in d) (omega arith)
placed-behind n (Declarations.declares e rest) d =
    let more = length-append (instance_name e) (instance_names rest) in
    ap (λ xs. map {B = ℕ × Alias} (λ a. (n, a)) (alias_in e) ++ xs) (placed-behind (n + length (instance_name e)) rest d)
    ∙ sym (append_assoc (map {B = ℕ × Alias} (λ a. (n, a)) (alias_in e)) (placed_aliases (n + length (instance_name e)) rest)
    (map {B = ℕ × Alias} (λ a. ((n + length (instance_name e)) + length (instance_names rest), a)) (alias_in d)))
    ∙ ap (λ xs. (map {B = ℕ × Alias} (λ a. (n, a)) (alias_in e) ++ placed_aliases (n + length (instance_name e)) rest) ++ xs)
    (at-count ((n + length (instance_name e)) + length (instance_names rest)) (n + length (instance_name e ++ instance_names rest)) (alias_in d) (omega (arith, more)))
placed-behind n (Declarations.component inner rest) d = placed-behind n rest d
placed-behind n (Declarations.instance inner rest) d = placed-behind n rest d

placed-around : (n : ℕ) (ds inner : Declarations) → placed_aliases n (append ds (Declarations.instance inner Declarations.no_more)) ≡ placed_aliases n ds
placed-around n Declarations.no_more inner = refl
placed-around n (Declarations.declares e rest) inner = ap (λ xs. map {B = ℕ × Alias} (λ a. (n, a)) (alias_in e) ++ xs) (placed-around (n + length (instance_name e)) rest inner)
placed-around n (Declarations.component i rest) inner = placed-around n rest inner
placed-around n (Declarations.instance i rest) inner = placed-around n rest inner

-- one that is no alias
pub placed-plain : (ds : Declarations) (d : Declaration) → alias_in d ≡ [] → placed_aliases 0 (declared_after ds d) ≡ placed_aliases 0 ds
placed-plain ds d none = placed-behind 0 ds d ∙ ap (λ (xs : List Alias). placed_aliases 0 ds ++ map {B = ℕ × Alias} (λ a. (0 + length (instance_names ds), a)) xs) none ∙ append-nil
    (placed_aliases 0 ds)

-- ---- which type numbers have one

pub slot-there : (o : Option ℕ) → (o ≡ None → ⊥) → is_some o ≡ true
slot-there x s = search std_rules

pub there-slot : (o : Option ℕ) → is_some o ≡ true → o ≡ None → ⊥
there-slot x s e = search std_rules

known-one : (a : Around) (x : Aliased) (n : ℕ) → is_some (known_slot (with_alias a x).known n) ≡ true → (is_some (known_slot a.known n) ≡ true) ⊎ (x.number.0 ≡ n)
known-one a x n h = elim (cases_Bool (is_at (nat_cmp n) x.number.0)) [
  | inl e ↦ inr (sym (at-same n x.number.0 e))
  | inr e ↦ inl (ap is_some (sym (found-other x.number.0 (type_slots_of a.declared) n a.known e)) ∙ h)
]

-- those that had one, and the new ones
pub known-among : (a : Around) (made : List Aliased) (n : ℕ) → is_some (known_slot (with_aliases a made).known n) ≡ true → (is_some (known_slot a.known n) ≡ true)
    ⊎ ((x : Aliased) × Contains made x × (x.number.0 ≡ n))
known-among a [] n h = inl h
known-among a (x ∷ made) n h = elim (known-among (with_alias a x) made n h) [
  | inl old ↦ elim (known-one a x n old) [ inl older ↦ inl older | inr e ↦ inr (x, (0, omega arith, refl), e) ]
  | inr new ↦ inr (new.0, contains-later x made new.0 new.1, new.2)
]

pub known-reached : {r : Resolve} {id : TypeId} (a a' : Around) → ReachesAround r id a a' → (n : ℕ) → is_some (known_slot a'.known n) ≡ true → (is_some (known_slot a.known n) ≡ true) ⊎ (n ≡ id.0)
known-reached a a' (as_before e) n h = inl (ap (λ (z : Around). is_some (known_slot z.known n)) (sym e) ∙ h)
known-reached {r} {id} a a' (aliased x is of_id e) n h = elim (known-among a (x ∷ []) n (ap (λ (z : Around). is_some (known_slot z.known n)) (sym e) ∙ h)) [
  | inl old ↦ inl old
  | inr new ↦ inr (sym new.2 ∙ sym (ap (λ (y : Aliased). y.number.0) (one-contained x new.0 new.1)) ∙ ap (λ (t : TypeId). t.0) of_id)
]

-- ---- what an encoder keeps

-- behind instances of these interfaces
abbrev newest : List ℕ → Aliased → PlacedAlias
newest ns x = (length ns, x)

-- the number of its type
abbrev number_of : PlacedAlias → ℕ
number_of x = x.1.number.0

module _ (r : Resolve) (count : ℕ) (ns : List ℕ) (before : List (ℕ × ℕ)) where
  -- where the names of instances and the aliases stay
  keeps-others : (a : Around) (outer : Declarations) → length (instance_names outer) ≡ length (instance_names a.declared) → placed_aliases 0 outer ≡ placed_aliases 0 a.declared
      → KeepsBehind r count a ns before (length ns) → KeepsBehind r count (record a { declared = outer }) ns before (length ns)
  keeps-others a outer names aliases h = record {
    keeps = record {
      counted = h.keeps.counted;
      named = names ∙ h.keeps.named;
      listed = h.keeps.listed;
      has = record { made = h.keeps.has.made; are = aliases ∙ h.keeps.has.are; once = h.keeps.has.once; each = h.keeps.has.each; asked = h.keeps.has.asked };
      all = h.keeps.all;
    };
    more = h.more;
    are = h.are;
    placed = h.placed;
  }

  -- behind a declaration of no alias and no instance
  pub keeps-plain : (a : Around) (outer : Declarations) (d : Declaration) → outer ≡ declared_after a.declared d → alias_in d ≡ [] → instance_name d ≡ []
      → KeepsBehind r count a ns before (length ns) → KeepsBehind r count (record a { declared = outer }) ns before (length ns)
  keeps-plain a outer d is none plain h = keeps-others a outer (ap (λ (z : Declarations). length (instance_names z)) is
      ∙ ap length (names-more a.declared d ∙ ap (λ xs. instance_names a.declared ++ xs) plain ∙ append-nil (instance_names a.declared))) (ap (placed_aliases 0) is ∙ placed-plain a.declared d none) h

  -- behind an instance type
  pub keeps-inner : (a : Around) (inner : Declarations) → KeepsBehind r count a ns before (length ns)
      → KeepsBehind r count (record a { declared = append a.declared (Declarations.instance inner Declarations.no_more) }) ns before (length ns)
  keeps-inner a inner h = keeps-others a (append a.declared (Declarations.instance inner Declarations.no_more)) (ap length (names-behind a.declared inner)) (placed-around 0 a.declared inner) h

  -- behind one alias
  pub keeps-alias : (a : Around) (x : Aliased) → IsAlias r a x → KeepsBehind r count a ns before (length ns) → KeepsBehind r count (with_alias a x) ns before (length ns)
  keeps-alias a x is h = record {
    keeps = record {
      counted = h.keeps.counted;
      named = ap length (names-more a.declared (alias_declared x) ∙ append-nil (instance_names a.declared)) ∙ h.keeps.named;
      listed = h.keeps.listed;
      has = record {
        made = h.keeps.has.made ++ newest ns x ∷ [];
        are = placed-behind 0 a.declared (alias_declared x) ∙ (λ j. h.keeps.has.are j ++ (same j, export_alias x) ∷ []) ∙ sym (map-append placed_alias h.keeps.has.made (newest ns x ∷ []));
        once = subst (IsDistinct nat_eq) (sym numbers_)
            (IsDistinct-push nat_eq_equiv (map number_of h.keeps.has.made) x.number.0 h.keeps.has.once (lacks-member (map number_of h.keeps.has.made) x.number.0 fresh));
        each = λ y c. elim (Contains-append_cases h.keeps.has.made (newest ns x ∷ []) y c) [
          | inl k ↦ h.keeps.has.each y k
          | inr k ↦ subst (IsAliasBehind r ns) (one-contained (newest ns x) y k) latest
        ];
        asked = λ y c. elim (Contains-append_cases h.keeps.has.made (newest ns x ∷ []) y c) [
          | inl k ↦ known-kept x.number.0 (type_slots_of a.declared) y.1.number.0 a.known (h.keeps.has.asked y k)
          | inr k ↦ subst (λ (z : PlacedAlias). HasSlot (with_alias a x) z.1.number.0) (one-contained (newest ns x) y k) (λ none. cc (found-new x.number.0 (type_slots_of a.declared) a.known))
        ];
      };
      all = λ t s. subst (λ (ms : List ℕ). Contains ms t) (sym numbers_) (elim (known-one a x t (slot-there (known_slot (with_alias a x).known t) s)) [
        | inl k ↦ Contains-append_left (map number_of h.keeps.has.made) (x.number.0 ∷ []) t (h.keeps.all t (there-slot (known_slot a.known t) k))
        | inr e ↦ Contains-append_right (map number_of h.keeps.has.made) (x.number.0 ∷ []) t (subst (Contains (x.number.0 ∷ [])) e (contains-one x.number.0))
      ]);
    };
    more = h.more ++ (length ns, x.number.0) ∷ [];
    are = map-append place_and_number h.keeps.has.made (newest ns x ∷ []) ∙ ap (λ (xs : List (ℕ × ℕ)). xs ++ (length ns, x.number.0) ∷ []) h.are
        ∙ append_assoc before h.more ((length ns, x.number.0) ∷ []);
    placed = λ y c. elim (Contains-append_cases h.more ((length ns, x.number.0) ∷ []) y c) [ inl k ↦ h.placed y k | inr k ↦ sym (ap (λ (z : ℕ × ℕ). z.0) (one-contained (length ns, x.number.0) y k)) ];
  }
    where
      numbers_ : map number_of (h.keeps.has.made ++ newest ns x ∷ []) ≡ map number_of h.keeps.has.made ++ x.number.0 ∷ []
      numbers_ = map-append number_of h.keeps.has.made (newest ns x ∷ [])

      same : 0 + length (instance_names a.declared) ≡ length ns
      same = omega (arith, h.keeps.named)

      fresh : Contains (map number_of h.keeps.has.made) x.number.0 → ⊥
      fresh c = let y = from-map number_of h.keeps.has.made x.number.0 c in h.keeps.has.asked y.0 y.1 (ap (known_slot a.known) y.2 ∙ is.first)

      latest : IsAliasBehind r ns (newest ns x)
      latest =
          let instance = h.keeps.listed is.interface.0 x.instance is.instance in
          record { def = is.def; name = is.name; interface = is.interface; there = is.there; named_ = is.named_; owned = is.owned; text = is.text; behind = omega arith; instance = instance }

  pub keeps-aliases : (a : Around) (made : List Aliased) → AreAliases r a made → KeepsBehind r count a ns before (length ns) → KeepsBehind r count (with_aliases a made) ns before (length ns)
  keeps-aliases a [] are h = h
  keeps-aliases a (x ∷ made) are h = keeps-aliases (with_alias a x) made are.1 (keeps-alias a x are.0 h)

-- ---- from one item to the next

-- nothing has been declared
pub keeps-nothing : (r : Resolve) (count : ℕ) (a : Around) → a.declared ≡ Declarations.no_more → a.instances ≡ [] → a.known ≡ [] → count ≡ 0 → KeepsAliases r count a []
keeps-nothing r count a none unlisted unknown zero_ = record {
  counted = zero_;
  named = ap (λ (z : Declarations). length (instance_names z)) none;
  listed = λ i k e. cc (ap (λ es. known_instance es i) (sym unlisted) ∙ e);
  has = record { made = []; are = ap (placed_aliases 0) none; once = none-twice; each = λ x c. none-in x c; asked = λ x c. none-in x c };
  all = λ t s. absurd (s (ap (λ es. known_slot es t) unknown));
}

-- the aliases so far are those of before
pub none-since : {r : Resolve} {count : ℕ} {a : Around} {ns : List ℕ} (k : KeepsAliases r count a ns) → KeepsBehind r count a ns (map place_and_number k.has.made) (length ns)
none-since k = record { keeps = k; more = []; are = sym (append-nil (map place_and_number k.has.made)); placed = λ x c. none-in x c }

pairs-told : (xs : List (ℕ × ℕ)) → pairs_in (flat_map (λ x. x.0 ∷ x.1 ∷ []) xs) ≡ xs
pairs-told [] = refl
pairs-told (x ∷ xs) = ap (λ (ys : List (ℕ × ℕ)). x ∷ ys) (pairs-told xs)

interfaces-told : (ns : List ℕ) (xs : List (ℕ × ℕ)) → interfaces_in (in_one_list ns xs) ≡ ns
interfaces-told ns xs = take-append_seam ns (flat_map (λ x. x.0 ∷ x.1 ∷ []) xs)

aliases-told : (ns : List ℕ) (xs : List (ℕ × ℕ)) → aliases_in (in_one_list ns xs) ≡ xs
aliases-told ns xs = ap pairs_in (drop-append_seam ns (flat_map (λ x. x.0 ∷ x.1 ∷ []) xs)) ∙ pairs-told xs

-- what calls keep of a list of numbers they keep of interfaces and aliases
pub keeps-told : {r : Resolve} {count count' : ℕ} {a a' : Around} → ((xs : List ℕ) → KeepsListed r count a xs → KeepsListed r count' a' xs) → (ns : List ℕ) (before : List (ℕ × ℕ))
    → KeepsBehind r count a ns before (length ns) → KeepsBehind r count' a' ns before (length ns)
keeps-told {r} {count} {count'} {a} {a'} h ns before k = subst (λ (ms : List ℕ). KeepsBehind r count' a' ms before (length ms)) (interfaces-told ns before)
    (subst (λ (xs : List (ℕ × ℕ)). KeepsBehind r count' a' (interfaces_in (in_one_list ns before)) xs (length (interfaces_in (in_one_list ns before)))) (aliases-told ns before)
    (h (in_one_list ns before) (subst (λ (xs : List (ℕ × ℕ)). KeepsBehind r count a (interfaces_in (in_one_list ns before)) xs (length (interfaces_in (in_one_list ns before))))
    (sym (aliases-told ns before)) (subst (λ (ms : List ℕ). KeepsBehind r count a ms before (length ms)) (sym (interfaces-told ns before)) k))))

-- a new alias is of no type that had one before
pub alias-new : {r : Resolve} {count count' n : ℕ} {a a' : Around} {ns ms : List ℕ} (k : KeepsAliases r count a ns) (b : KeepsBehind r count' a' ms (map place_and_number k.has.made) n)
    → (x : ℕ × ℕ) → Contains b.more x → HasSlot a x.1 → ⊥
alias-new {a = a} k b x c s =
    let there = from-map (λ (y : PlacedAlias). y.1.number.0) k.has.made x.1 (k.all x.1 s) in
    let old : Contains (map (λ (z : ℕ × ℕ). z.1) (map place_and_number k.has.made)) x.1 = subst (Contains (map (λ (z : ℕ × ℕ). z.1) (map place_and_number k.has.made))) there.2
    (contains-map (λ (z : ℕ × ℕ). z.1) (map place_and_number k.has.made) (place_and_number there.0) (contains-map place_and_number k.has.made there.0 there.1)) in
    let new : Contains (map (λ (z : ℕ × ℕ). z.1) b.more) x.1 = contains-map (λ (z : ℕ × ℕ). z.1) b.more x c in
    apart-behind (map (λ (z : ℕ × ℕ). z.1) (map place_and_number k.has.made)) (map (λ (z : ℕ × ℕ). z.1) b.more) x.1 (subst (IsDistinct nat_eq) numbers_ b.keeps.has.once) old new
  where
    numbers_ : map (λ (y : PlacedAlias). y.1.number.0) b.keeps.has.made ≡ map (λ (z : ℕ × ℕ). z.1) (map place_and_number k.has.made) ++ map (λ (z : ℕ × ℕ). z.1) b.more
    numbers_ = sym (map_of_map (λ (z : ℕ × ℕ). z.1) place_and_number b.keeps.has.made) ∙ ap (map (λ (z : ℕ × ℕ). z.1)) b.are ∙ map-append (λ (z : ℕ × ℕ). z.1) (map place_and_number k.has.made) b.more

-- ---- in the end

pub aliases-in-end : (r : Resolve) (count : ℕ) (a : Around) (ns : List ℕ) (P : ℕ → ℕ → Type 0) (k : KeepsAliases r count a ns)
    → ((x : PlacedAlias) → Contains k.has.made x → P x.0 x.1.number.0) → HasAliasesBehind r ns P a.declared
aliases-in-end r count a ns P k f = record { made = k.has.made; are = k.has.are; once = k.has.once; each = k.has.each; asked = f }

-- ---- the latest instances

-- what is the latest one stays so for those that stand before
latest-before : (ns : List ℕ) (i n j k : ℕ) → n ≤ length ns → IsLatest ns n j k → IsLatest (ns ++ i ∷ []) n j k
latest-before ns i n j k few l = record {
  before = l.before;
  is = front_at ns (i ∷ []) k j l.is;
  last = λ m above below at. elim (front_or_end ns i m j at) [ inl old ↦ l.last m above below old | inr new ↦ omega (arith, new.0, below, few) ];
}

-- and so for another interface
latest-other : (ns : List ℕ) (i j k : ℕ) → (j ≡ i → ⊥) → IsLatest ns (length ns) j k → IsLatest (ns ++ i ∷ []) (length (ns ++ i ∷ [])) j k
latest-other ns i j k other l = record {
  before = omega (arith, length-append ns (i ∷ []), l.before);
  is = front_at ns (i ∷ []) k j l.is;
  last = λ m above below at. elim (front_or_end ns i m j at) [ inl old ↦ l.last m above (slice_get_within ns m j old) old | inr new ↦ other (sym new.1) ];
}

-- the new one is the latest of its interface
latest-new : (ns : List ℕ) (i : ℕ) → IsLatest (ns ++ i ∷ []) (length (ns ++ i ∷ [])) i (length ns)
latest-new ns i = record {
  before = omega (arith, length-append ns (i ∷ []));
  is = at_last ns i;
  last = λ j above below at. elim (front_or_end ns i j i at) [ inl old ↦ omega (arith, slice_get_within ns j i old, above) | inr new ↦ omega (arith, new.0, above) ];
}

module _ (r : Resolve) (count : ℕ) (ns : List ℕ) (i : ℕ) (old : List (ℕ × ℕ)) where
  -- behind the import or the export of an instance, listed as that of its interface
  pub keeps-instance : (a b : Around) (inner : Declarations) (d : Declaration) → b.declared ≡ declared_after (append a.declared (Declarations.instance inner Declarations.no_more)) d → alias_in d ≡ []
      → length (instance_name d) ≡ 1 → b.instances ≡ insert_entry nat_cmp a.instances i count → b.known ≡ a.known → KeepsBehind r count a ns old (length ns)
      → KeepsBehind r (count + 1) b (ns ++ i ∷ []) old (length ns)
  keeps-instance a b inner d is none one listed known before = record {
    keeps = record {
      counted = omega (arith, before.keeps.counted, length-append ns (i ∷ []));
      named =
          (let e : length (instance_names b.declared) ≡ length (instance_names behind.declared ++ instance_name d) =
          ap (λ (z : Declarations). length (instance_names z)) is ∙ ap length (names-more behind.declared d) in
          omega (arith, e, length-append (instance_names behind.declared) (instance_name d), length-append ns (i ∷ []), inside.keeps.named, one));
      listed = λ j k e. by j k (ap (λ es. known_instance es j) (sym listed) ∙ e) (is_at (nat_cmp j) i) refl;
      has = record {
        made = inside.keeps.has.made;
        are = ap (placed_aliases 0) is ∙ placed-plain behind.declared d none ∙ inside.keeps.has.are;
        once = inside.keeps.has.once;
        each = λ x c. (
            let y = inside.keeps.has.each x c in
            let long = length-append ns (i ∷ []) in
            let here = latest-before ns i x.0 y.interface.0 x.1.instance y.behind y.instance in
            record { def = y.def; name = y.name; interface = y.interface; there = y.there; named_ = y.named_; owned = y.owned; text = y.text; behind = omega (arith, long, y.behind); instance = here }
            );
        asked = λ x c n. inside.keeps.has.asked x c (ap (λ es. known_slot es x.1.number.0) (sym known) ∙ n);
      };
      all = λ t s. inside.keeps.all t (λ n. s (ap (λ es. known_slot es t) known ∙ n));
    };
    more = inside.more;
    are = inside.are;
    placed = inside.placed;
  }
    where
      behind : Around
      behind = record a { declared = append a.declared (Declarations.instance inner Declarations.no_more) }

      inside : KeepsBehind r count behind ns old (length ns)
      inside = keeps-inner r count ns old a inner before

      by : (j k : ℕ) → known_instance (insert_entry nat_cmp a.instances i count) j ≡ Some k → (b : Bool) → is_at (nat_cmp j) i ≡ b → IsLatest (ns ++ i ∷ []) (length (ns ++ i ∷ [])) j k
      by j k e true s =
          let same : j ≡ i = at-same j i s in
          let found : known_instance (insert_entry nat_cmp a.instances i count) j ≡ Some count = ap (known_instance (insert_entry nat_cmp a.instances i count)) same ∙ found-new i count a.instances in
          subst (λ (m : ℕ). IsLatest (ns ++ i ∷ []) (length (ns ++ i ∷ [])) j m) (sym before.keeps.counted ∙ one-some count k (sym found ∙ e))
          (subst (λ (m : ℕ). IsLatest (ns ++ i ∷ []) (length (ns ++ i ∷ [])) m (length ns)) (sym same) (latest-new ns i))
      by j k e false s = latest-other ns i j k (λ same. cc (ap (is_at (nat_cmp j)) (sym same) ∙ ap is_eq (equal-self nat_cmp_total j)))
          (before.keeps.listed j k (sym (found-other i count j a.instances s) ∙ e))
