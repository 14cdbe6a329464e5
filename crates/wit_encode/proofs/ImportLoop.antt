-- Interfaces imported one after the other, in the order in which they are reached.
use Rattle.std.proofs.Common.{rules as std_rules, ◌≡◌, refl, sym, subst, ap, ◌∙◌, ℕ, zero, suc, ◌+◌, ◌<◌, ◌≤◌, ◌==◌, Bool, true, false, not, map, get_or, option_map, List, [], ◌∷◌, ◌++◌, length, take, append_assoc, Option, Some, None, slice_get, is_some, option_and_then, arith}
use Rattle.std.proofs.{lemmas.List.Elements.Contains-append_left, Math.ListN.length-map, lemmas.List.take_all, lemmas.Map.Steps.length-le_from_distinct_below}
use Rattle.std.proofs.lemmas.Option.{slice_get_within, slice_get-map, slice_get-get_or, same_Some as same-some}
use Rattle.std.specs.List.{Contains, IsDistinct, list_any}
use Rattle.wit_model.specs.{Lookup.interface_at, Lookup.interface_path, Lookup.path_of_interface, Valid.IsValid, Valid.is_place, Valid.numbers_in_range}
use Rattle.wit_model.specs.Uses.{direct_deps}
use Rattle.wit_model.specs.declared.model.{Resolve.Resolve, Interface.Interface, InterfaceId.InterfaceId}
use Rattle.wit_model.proofs.{Elements.none-in, OnePath.found-in, OnePath.interface-passes as interface_passes}
use Rattle.encode_shown.specs.Views.{AreReached, AreUsed, UseEarlier}
use Rattle.encode_types.specs.Known.{Around, UsedStand, known_instance, standing_instances}
use Rattle.comp_bytes.specs.Raw.{Declarations}
use Rattle.wit_encode.specs.Dependencies.{AreImportable, HasImported, ImportsTypes, with_import}
use Rattle.wit_encode.specs.{DependencyCounts.DefinesImports, WrittenNames.NamesInterfaces}
use Rattle.wit_encode.specs.{DependencyAliases.HasImportAliases, DependencyRoom.HoldsImports, DependencyRoom.ImportsLackRoom, DependencyRoom.LacksImport}
use Rattle.wit_encode.proofs.{DependencyAliases.import-aliased, DependencyHolding.import-defines, DependencyHolding.import-few, DependencyHolding.next-lacks}
use Rattle.wit_encode.proofs.{Imported.imports_grow, ImportsStand.imports_stand, UsedPaths.used-path, WrittenNames.imports-named}
use Rattle.base_lemmas.proofs.{Lists.take_found, Elements.all_at_too}
use Rattle.std.proofs.{lemmas.Bool.lt-ltb, Common.drop, lemmas.List.length-take-le, lemmas.List.take-append-drop, Math.Seq.take-append_seam}
use Rattle.encode_shown.proofs.Dependencies.{distinct-front}
use Rattle.base_lemmas.proofs.{Bools.left_of as first_true, Elements.any-contains, Numbers.equal, Numbers.same-number, Options.there as some-of, Lists.at_last, Elements.get-contains}

-- ---- lists

-- what an interface uses stands before it
pub earlier-at : (r : Resolve) (earlier ns : List ℕ) (k n m : ℕ) → UseEarlier r earlier ns → slice_get ns k ≡ Some n → Contains (direct_deps r n) m → Contains (earlier ++ take k ns) m
earlier-at r earlier [] k n m u e c = absurd cc
earlier-at r earlier (x ∷ ns) zero n m u e c = Contains-append_left earlier [] m (u.0 m (subst (λ y. Contains (direct_deps r y) m) (sym (same-some x n e)) c))
earlier-at r earlier (x ∷ ns) (suc k) n m u e c = subst (λ xs. Contains xs m) (append_assoc earlier (x ∷ []) (take k ns)) (earlier-at r (earlier ++ x ∷ []) ns k n m u.1 e c)

earlier-front : (r : Resolve) (earlier ns ms : List ℕ) → UseEarlier r earlier (ns ++ ms) → UseEarlier r earlier ns
earlier-front r earlier [] ms u = tt
earlier-front r earlier (x ∷ ns) ms u = (u.0, earlier-front r (earlier ++ x ∷ []) ns ms u.1)

-- a number doesn't stand before its place
not-before : (ns : List ℕ) (k n : ℕ) → IsDistinct (λ a b. a == b) ns → slice_get ns k ≡ Some n → Contains (take k ns) n → ⊥
unfolding IsDistinct
not-before [] k n d e c = cc
not-before (x ∷ ns) zero n d e c = none-in n c
not-before (x ∷ ns) (suc k) n d e (suc j, l, q) = not-before ns k n d.1 e (j, omega (arith, l), q)
not-before (x ∷ ns) (suc k) n d e (zero, l, q) = cc (sym (same-number x) ∙ (ap (λ y. x == y) q ∙ all_at_too (λ y. (x == y) ≡ false) ns d.0 k n e))

pub take-next : (ns : List ℕ) (k n : ℕ) → slice_get ns k ≡ Some n → take k ns ++ n ∷ [] ≡ take (suc k) ns
take-next ns k n e = let more : k + 1 ≡ suc k = omega arith in sym (take_found ns k n e) ∙ ap (λ (j : ℕ). take j ns) more

pub length-taken : (ns : List ℕ) (k n : ℕ) → slice_get ns k ≡ Some n → length (take k ns) ≡ k
length-taken ns k n e = let within = slice_get_within ns k n e in length-take-le k ns (omega (arith, within))

-- ---- one import after the other

pub path-in-range : (r : Resolve) (n : ℕ) → is_some (interface_path r n) ≡ true → n < length r.interfaces.items
path-in-range r n h = go (interface_at r n) refl
  where
    go : (o : Option Interface) → interface_at r n ≡ o → n < length r.interfaces.items
    go (Some i) e = slice_get_within r.interfaces.items n i e
    go None e = cc (sym (ap (λ o. is_some (option_and_then (path_of_interface r) o)) e) ∙ h)

module _ (r : Resolve) (v : IsValid r) (ns : List ℕ) (can : AreImportable r ns) (k n : ℕ) (at : slice_get ns k ≡ Some n) (a : Around) (h : HasImported r a (take k ns)) where
  pub next-uses : UsedStand r (standing_instances r a) n
  next-uses = imports_stand r a (take k ns) n v h (λ m c. earlier-at r [] ns k n m can.earlier at c)

  pub next-path : is_some (interface_path r n) ≡ true
  next-path = can.paths n (get-contains ns k n at)

  first : known_instance a.instances n ≡ None
  first = go (known_instance a.instances n) refl
    where
      go : (o : Option ℕ) → known_instance a.instances n ≡ o → known_instance a.instances n ≡ None
      go None e = e
      go (Some j) e = absurd (not-before ns k n can.once at (h.alone n j e))

  pub next-imported : (canonical : Bool) (a' : Around) → ImportsTypes r canonical a a' (record { 0 = n }) k → HasImported r a' (take (suc k) ns)
  next-imported canonical a' t =
      let path = some-of (interface_path r n) next-path in
      let grown = imports_grow r canonical a t.encoded (take k ns) (record { 0 = n }) t.def path.0 t.slot v path.1 h first t.encodes in
      subst (HasImported r a') (take-next ns k n at)
      (subst (λ (z : Around). HasImported r z (take k ns ++ n ∷ [])) (ap (λ j. with_import r canonical (record { 0 = n }) t.slot j t.encoded) (length-taken ns k n at) ∙ sym t.imports) grown)

-- ---- what an interface reaches

used-at : (r : Resolve) (ns : List ℕ) (last n : ℕ) → AreUsed r ns last → Contains ns n → (m : ℕ) × Contains (direct_deps r m) n
used-at r [] last n u c = none-in n c
used-at r (x ∷ ns) last n u (zero, l, e) = (u.0.0, subst (Contains (direct_deps r u.0.0)) e u.0.2)
used-at r (x ∷ ns) last n u (suc k, l, e) = used-at r ns last n u.1 (k, omega (arith, l), e)

pub reached-importable : (r : Resolve) → IsValid r → (n : ℕ) (ns : List ℕ) → AreReached r n ns → AreImportable r ns
reached-importable r v n ns h =
    let earlier = earlier-front r [] ns (n ∷ []) h.earlier in
    record { earlier = earlier; once = distinct-front ns (n ∷ []) h.once; paths = λ m c. let u = used-at r ns n m h.used c in used-path r v u.0 m u.1 }

-- the interface itself uses these alone
pub reached-used : (r : Resolve) (n : ℕ) (ns : List ℕ) → AreReached r n ns → (m : ℕ) → Contains (direct_deps r n) m → Contains ns m
reached-used r n ns h m c = subst (λ xs. Contains xs m) (take-append_seam ns (n ∷ [])) (earlier-at r [] (ns ++ n ∷ []) (length ns) n m h.earlier (at_last ns n) c)

-- ---- how many there are

not-itself : (m : ℕ) → not (m == m) ≡ true → ⊥
not-itself m h = cc (sym (ap not (same-number m)) ∙ h)

in-place : (r : Resolve) → IsValid r → (n : ℕ) (i : Interface) → interface_at r n ≡ Some i → is_place n ≡ true
unfolding numbers_in_range
in-place r v n i at = first_true (is_place n) _ (interface_passes numbers_in_range r v.rules.numbers_in_range n i at)

few-interfaces : (r : Resolve) → IsValid r → length r.interfaces.items ≤ 4294967295
few-interfaces r v =
    let none : 4294967295 < length r.interfaces.items → ⊥ = λ l. let found = found-in r.interfaces.items 4294967295 (lt-ltb 4294967295 (length r.interfaces.items) l) in
    not-itself 4294967295 (in-place r v 4294967295 found.0 found.1) in
    omega (arith, none)

pub few-importable : (r : Resolve) → IsValid r → (ns : List ℕ) → AreImportable r ns → length ns ≤ 4294967295
few-importable r v ns h = omega (arith, length-le_from_distinct_below ns (length r.interfaces.items) h.once (λ q m. path-in-range r q (h.paths q (found q m))), few-interfaces r v)
  where
    found : (q : ℕ) → list_any (λ y. q == y) ns ≡ true → Contains ns q
    found q m = let x = any-contains (λ y. q == y) ns m in subst (Contains ns) (sym (equal q x.0 x.2)) x.1

-- ---- the same interfaces, as a slice and in their packages

pub moved : (r r' : Resolve) (xs ys : List InterfaceId) (a : Around) → r' ≡ r → ys ≡ xs → HasImported r' a (map (λ (id : InterfaceId). id.0) ys) → HasImported r a (map (λ (id : InterfaceId). id.0) xs)
moved r r' xs ys a e l h = search std_rules

pub moved-held : (r r' : Resolve) (xs ys : List InterfaceId) (a : Around) → r' ≡ r → ys ≡ xs → HoldsImports r' a (map (λ (id : InterfaceId). id.0) ys)
    → HoldsImports r a (map (λ (id : InterfaceId). id.0) xs)
moved-held r r' xs ys a e l h = search std_rules

abbrev pub item : List InterfaceId → ℕ → InterfaceId
item xs k = get_or xs k (record { 0 = 0 })

abbrev pub numbers : List InterfaceId → List ℕ
numbers xs = map (λ (id : InterfaceId). id.0) xs

pub number-at : (xs : List InterfaceId) (k : ℕ) → k < length xs → slice_get (numbers xs) k ≡ Some (item xs k).0
number-at xs k l = slice_get-map (λ (id : InterfaceId). id.0) xs k ∙ ap (option_map (λ (id : InterfaceId). id.0)) (slice_get-get_or xs k (record { 0 = 0 }) l)

-- what holds where the next interface is imported
pub record IsNext (r : Resolve) (xs : List InterfaceId) (k : ℕ) (a : Around) : Type 0 where
  pub valid : IsValid r
  pub inside : (item xs k).0 < length r.interfaces.items
  pub uses : UsedStand r (standing_instances r a) (item xs k).0
  pub then : (canonical : Bool) (a' : Around) → ImportsTypes r canonical a a' (item xs k) k → HasImported r a' (take (k + 1) (numbers xs))

pub is-next : (r r' : Resolve) (xs : List InterfaceId) (k : ℕ) (a : Around) → r' ≡ r → IsValid r → AreImportable r (numbers xs) → k < length xs → HasImported r' a (take k (numbers xs))
    → IsNext r' xs k a
is-next r r' xs k a e v can l = subst (λ (q : Resolve). HasImported q a (take k (numbers xs)) → IsNext q xs k a) (sym e) (λ h.
    let at = number-at xs k l in
    let more : suc k ≡ k + 1 = omega arith in
    record {
      valid = v;
      inside = path-in-range r (item xs k).0 (next-path r v (numbers xs) can k (item xs k).0 at a h);
      uses = next-uses r v (numbers xs) can k (item xs k).0 at a h;
      then = λ canonical a' t. subst (λ (j : ℕ). HasImported r a' (take j (numbers xs))) more (next-imported r v (numbers xs) can k (item xs k).0 at a h canonical a' t);
    })

-- what holds behind all that are taken holds behind all
pub all-of : (P : List ℕ → Type 0) (xs : List InterfaceId) (k : ℕ) → length xs ≤ k → P (take k (numbers xs)) → P (numbers xs)
all-of P xs k l h = subst P (take_all k (numbers xs) (omega (arith, length-map xs (λ (id : InterfaceId). id.0), l))) h

-- ---- how much is held and defined

pub numbers-next : (xs : List InterfaceId) (k : ℕ) → k < length xs → take k (numbers xs) ++ (item xs k).0 ∷ [] ≡ take (k + 1) (numbers xs)
numbers-next xs k l = sym (take_found (numbers xs) k (item xs k).0 (number-at xs k l))

pub defines-next : (r r' : Resolve) (canonical : Bool) (xs : List InterfaceId) (k : ℕ) (a a' : Around) → r' ≡ r → k < length xs → ImportsTypes r' canonical a a' (item xs k) k
    → DefinesImports r a.declared (take k (numbers xs)) → DefinesImports r a'.declared (take (k + 1) (numbers xs))
defines-next r r' canonical xs k a a' e l t h =
    let u : ImportsTypes r canonical a a' (item xs k) k = subst (λ (q : Resolve). ImportsTypes q canonical a a' (item xs k) k) e t in
    subst (DefinesImports r a'.declared) (numbers-next xs k l) (import-defines r canonical a a' (item xs k) k u (take k (numbers xs)) h)

pub aliases-next : (r r' : Resolve) (canonical : Bool) (xs : List InterfaceId) (k : ℕ) (a a' : Around) → r' ≡ r → k < length xs → ImportsTypes r' canonical a a' (item xs k) k
    → HasImported r' a (take k (numbers xs)) → HasImportAliases r a (take k (numbers xs)) → HasImportAliases r a' (take (k + 1) (numbers xs))
aliases-next r r' canonical xs k a a' e l t imported h = subst (HasImportAliases r a') (numbers-next xs k l)
    (import-aliased r canonical a a' (take k (numbers xs)) (item xs k) k (subst (λ (q : Resolve). ImportsTypes q canonical a a' (item xs k) k) e t)
    (subst (λ (q : Resolve). HasImported q a (take k (numbers xs))) e imported) h)

pub held-next : (r r' : Resolve) (canonical : Bool) (xs : List InterfaceId) (k : ℕ) (a a' : Around) → r' ≡ r → k < length xs → ImportsTypes r' canonical a a' (item xs k) k
    → HoldsImports r a (take k (numbers xs)) → HoldsImports r a' (take (k + 1) (numbers xs))
held-next r r' canonical xs k a a' e l t h =
    subst (HoldsImports r a') (numbers-next xs k l) (import-few r canonical a a' (item xs k) k (subst (λ (q : Resolve). ImportsTypes q canonical a a' (item xs k) k) e t) (take k (numbers xs)) h)

-- the next one has no room
pub next-refused : (r r' : Resolve) (canonical : Bool) (xs : List InterfaceId) (k : ℕ) (a : Around) → r' ≡ r → k < length xs → HasImported r' a (take k (numbers xs))
    → HoldsImports r a (take k (numbers xs)) → LacksImport r' canonical a (item xs k) → ImportsLackRoom r (numbers xs)
next-refused r r' canonical xs k a e l h held lacks =
    let at = number-at xs k l in
    let few : length (take k (numbers xs)) ≡ k = length-taken (numbers xs) k (item xs k).0 at in
    let all : length (numbers xs) ≡ length xs = length-map xs (λ (id : InterfaceId). id.0) in
    next-lacks r (numbers xs) (take k (numbers xs)) taken (omega (arith, few, all, l)) a (subst (λ (q : Resolve). HasImported q a (take k (numbers xs))) e h) held
    canonical (item xs k) (get-contains (numbers xs) k (item xs k).0 at) (subst (λ (q : Resolve). LacksImport q canonical a (item xs k)) e lacks)
  where
    taken : (n : ℕ) → Contains (take k (numbers xs)) n → Contains (numbers xs) n
    taken n c = subst (λ ns. Contains ns n) (take-append-drop k (numbers xs)) (Contains-append_left (take k (numbers xs)) (drop k (numbers xs)) n c)

-- ---- names

pub named-next : (r r' : Resolve) (canonical : Bool) (xs : List InterfaceId) (k : ℕ) (start : Declarations) (a a' : Around) → r' ≡ r → k < length xs → ImportsTypes r' canonical a a' (item xs k) k
    → NamesInterfaces r canonical (take k (numbers xs)) start a.declared → NamesInterfaces r canonical (take (k + 1) (numbers xs)) start a'.declared
named-next r r' canonical xs k start a a' e l t named = subst (λ (ns : List ℕ). NamesInterfaces r canonical ns start a'.declared) (numbers-next xs k l)
    (imports-named r canonical a a' (item xs k) k (take k (numbers xs)) start (subst (λ (q : Resolve). ImportsTypes q canonical a a' (item xs k) k) e t) named)
