-- One instance more, which is listed as that of its interface.
use Rattle.std.proofs.Common.{◌≡◌, refl, sym, subst, ap, ◌∙◌, ℕ, ◌<◌, nat_cmp, Ordering, Bool, true, false, cond, if◌then◌else◌, List, [], ◌∷◌, ◌++◌, length, Option, Some, None, slice_get, inl, inr}
use Rattle.std.proofs.lemmas.{Bool.cond-true, Bool.cond-false, Cmp.nat_cmp_total, Bool.cases_Bool}
use Rattle.std.specs.{BTreeMap.insert_entry, BTreeMap.is_at, FinMap.nat_cmp-IsAntisymmetric, Option.option_map_or, Ordering.is_eq, Ordering.match_ordering}
use Rattle.std.specs.List.{Contains, filter}
use Rattle.std.specs.declared.cmp.Ordering.TheVariants.{Less, Equal, Greater}
use Rattle.wit_model.specs.declared.model.Resolve.{Resolve}
use Rattle.comp_meaning.specs.Follow.{Instance}
use Rattle.encode_types.specs.Known.{Around, are_right, below, is_standing, known_instance, outer_instances, outer_slots, standing_instances, stands_around}
use Rattle.encode_types.proofs.Tables.{equal-is, equal-self}
use Rattle.wit_encode.proofs.{ImportsStand.below-there}
use Rattle.base_lemmas.proofs.{Elements.filter_keeps as contains-filter, Elements.filter_kept as filter-contains, Lists.front_more as get-left, Lists.at_last}

-- ---- one entry in an ordered map, new or not

pub own-key : (i : ℕ) → is_at (nat_cmp i) i ≡ true
own-key i = ap is_eq (equal-self nat_cmp_total i)

module _ (i number : ℕ) where
  pub found-new : (es : List (ℕ × ℕ)) → known_instance (insert_entry nat_cmp es i number) i ≡ Some number
  found-new [] = cond-true _ _ _ (own-key i)
  found-new (e ∷ es) = by (nat_cmp i e.0) refl (found-new es)
    where
      by : (o : Ordering) → nat_cmp i e.0 ≡ o → known_instance (insert_entry nat_cmp es i number) i ≡ Some number
          → known_instance (match_ordering o ((i, number) ∷ e ∷ es) ((e.0, number) ∷ es) (e ∷ insert_entry nat_cmp es i number)) i ≡ Some number
      by Less q more = cond-true _ _ _ (own-key i)
      by Equal q more = cond-true _ _ _ (ap is_eq q)
      by Greater q more = cond-false _ _ _ (ap is_eq q) ∙ more

  pub found-other : (m : ℕ) (es : List (ℕ × ℕ)) → is_at (nat_cmp m) i ≡ false → known_instance (insert_entry nat_cmp es i number) m ≡ known_instance es m
  found-other m [] other = cond-false _ _ _ other
  found-other m (e ∷ es) other = by (nat_cmp i e.0) refl (found-other m es other)
    where
      by : (o : Ordering) → nat_cmp i e.0 ≡ o → known_instance (insert_entry nat_cmp es i number) m ≡ known_instance es m
          → known_instance (match_ordering o ((i, number) ∷ e ∷ es) ((e.0, number) ∷ es) (e ∷ insert_entry nat_cmp es i number)) m ≡ known_instance (e ∷ es) m
      by Less q more = cond-false _ _ _ other
      by Equal q more =
          let there : is_at (nat_cmp m) e.0 ≡ false = subst (λ (z : ℕ). is_at (nat_cmp m) z ≡ false) (nat_cmp-IsAntisymmetric i e.0 q) other in
          cond-false _ _ _ there ∙ sym (cond-false _ _ _ there)
      by Greater q more = ap (λ o. cond (is_at (nat_cmp m) e.0) (Some e.1) o) more

-- ---- which interfaces stand

module _ (r : Resolve) (a a' : Around) (x : Instance) (i : ℕ) (instances : outer_instances a'.declared ≡ outer_instances a.declared ++ x ∷ [])
    (listed : a'.instances ≡ insert_entry nat_cmp a.instances i (length (outer_instances a.declared)))
    (right : are_right r a.known (outer_slots a.declared) ≡ true) (right-after : are_right r a'.known (outer_slots a'.declared) ≡ true) where
  abbrev number : ℕ
  number = length (outer_instances a.declared)

  -- what stands as the instance of this number
  abbrev at_number : List Instance → ℕ → Option ℕ → Bool
  at_number xs j o = option_map_or (λ k. option_map_or (is_standing r j) (slice_get xs k) false) o false

  new-stands : is_standing r i x ≡ true → stands_around r a'.instances (outer_instances a'.declared) i ≡ true
  new-stands h = ap (λ es. at_number (outer_instances a'.declared) i (known_instance es i)) listed ∙ ap (at_number (outer_instances a'.declared) i) (found-new i number a.instances)
      ∙ ap (λ xs. option_map_or (is_standing r i) (slice_get xs number) false) instances ∙ ap (λ o. option_map_or (is_standing r i) o false) (at_last (outer_instances a.declared) x) ∙ h

  still-there : (j k : ℕ) (o : Option Instance) → slice_get (outer_instances a.declared) k ≡ o → option_map_or (is_standing r j) o false ≡ true
      → option_map_or (is_standing r j) (slice_get (outer_instances a.declared ++ x ∷ []) k) false ≡ true
  still-there j k None e h = absurd cc
  still-there j k (Some y) e h = ap (λ o. option_map_or (is_standing r j) o false) (get-left (outer_instances a.declared) x k y e) ∙ h

  still-listed : (j : ℕ) (o : Option ℕ) → at_number (outer_instances a.declared) j o ≡ true → at_number (outer_instances a.declared ++ x ∷ []) j o ≡ true
  still-listed j None h = h
  still-listed j (Some k) h = still-there j k (slice_get (outer_instances a.declared) k) refl h

  old-stands : (j : ℕ) → is_at (nat_cmp j) i ≡ false → stands_around r a.instances (outer_instances a.declared) j ≡ true → stands_around r a'.instances (outer_instances a'.declared) j ≡ true
  old-stands j other h = ap (λ es. at_number (outer_instances a'.declared) j (known_instance es j)) listed ∙ ap (at_number (outer_instances a'.declared) j) (found-other i number j a.instances other)
      ∙ ap (λ xs. at_number xs j (known_instance a.instances j)) instances ∙ still-listed j (known_instance a.instances j) h

  stands-after : (j : ℕ) → j < length r.interfaces.items → stands_around r a'.instances (outer_instances a'.declared) j ≡ true → Contains (standing_instances r a') j
  stands-after j inside h =
      let all = contains-filter (stands_around r a'.instances (outer_instances a'.declared)) (below (length r.interfaces.items)) j (below-there (length r.interfaces.items) j inside) h in
      subst (λ (b : Bool). Contains (if b then filter (stands_around r a'.instances (outer_instances a'.declared)) (below (length r.interfaces.items)) else []) j) (sym right-after) all

  stood-before : (j : ℕ) → Contains (standing_instances r a) j → stands_around r a.instances (outer_instances a.declared) j ≡ true
  stood-before j c = (filter-contains (stands_around r a.instances (outer_instances a.declared)) (below (length r.interfaces.items)) j
      (subst (λ (b : Bool). Contains (if b then filter (stands_around r a.instances (outer_instances a.declared)) (below (length r.interfaces.items)) else []) j) right c)).1

  -- the interface stands by the new instance, and the others by their own
  pub stands-then : (j : ℕ) → j < length r.interfaces.items → (j ≡ i → is_standing r i x ≡ true) → (is_at (nat_cmp j) i ≡ false → Contains (standing_instances r a) j)
      → Contains (standing_instances r a') j
  stands-then j inside new old = elim (cases_Bool (is_at (nat_cmp j) i)) [
    | inl e ↦ (let same : j ≡ i = nat_cmp-IsAntisymmetric j i (equal-is (nat_cmp j i) e) in
        subst (Contains (standing_instances r a')) (sym same) (stands-after i (subst (λ (z : ℕ). z < length r.interfaces.items) same inside) (new-stands (new same))))
    | inr e ↦ stands-after j inside (old-stands j e (stood-before j (old e)))
  ]
