-- Which functions of an interface have no room, call after call.
use Rattle.std.proofs.Common.{rules as std_rules, ◌≡◌, refl, sym, subst, ap, ◌∙◌, ℕ, ◌+◌, ◌≤◌, ◌⊎◌, inl, inr, Bool, true, false, cond, ◌||◌, List, [], ◌∷◌, ◌++◌, map, length, length-append, Option, arith}
use Rattle.std.proofs.lemmas.{List.length-map, List.Elements.Contains-append_cases, List.Elements.Contains-append_left, List.Elements.Contains-append_right}
use Rattle.std.proofs.lemmas.Map.{Keys.IsDistinct-push, Made.length-le_from_is_member}
use Rattle.std.specs.{Cmp.IsEquivalence, List.Contains, List.IsDistinct, List.list_any, Set.is_member, Set.unique_keys, Set.distinct_count}
use Rattle.wit_model.specs.{Text.Text, Parts.function_types, Meant.signature_of}
use Rattle.wit_model.specs.declared.model.{Resolve.Resolve, Function.Function, InterfaceId.InterfaceId, «Type».«Type» as ValueType}
use Rattle.wit_model.proofs.Elements.{contains-flat}
use Rattle.encode_types.specs.declared.maps.TypeEncodingMaps.{TypeEncodingMaps}
use Rattle.encode_types.specs.{Maps.IsOnce, Maps.LearnsOnly, Maps.MapsGrow, Distinct.Key, Distinct.key_of, Distinct.are_same, Distinct.KnowsKey, Codes.ListKey}
use Rattle.encode_types.specs.MetKinds.{ReachedFrom}
use Rattle.encode_types.specs.Room.{Request, Refusals, HoldsFor, FindsNoRoom, function_type, export_name, function_name, function_requests}
use Rattle.encode_types.proofs.{Lists.none-in, Rooms.lacks-request, Rooms.room-more, Rooms.room-after}
use Rattle.wit_encode.specs.FunctionRoom.{LacksFunctions}
use Rattle.wit_encode.proofs.HeldKeys.{same_equiv, keyed}
use Rattle.base_lemmas.proofs.Elements.{any-at, any-contains as any-found, contains-map, last_of as one-contained, map_from as from-map}

-- ---- how many keys

module _ {K : Type 0} {eq : K → K → Bool} (laws : IsEquivalence eq) where
  member-alike : (xs : List K) (x q : K) → eq q x ≡ true → is_member eq xs x ≡ true → is_member eq xs q ≡ true
  member-alike xs x q e m = let found = any-found (eq x) xs m in any-at (eq q) xs found.0 found.1 (laws.congr q x found.0 e ∙ found.2)

  -- a member stands among those that are counted once
  unique-has : (xs : List K) (q : K) → is_member eq xs q ≡ true → is_member eq (unique_keys eq xs) q ≡ true
  unique-has [] q h = h
  unique-has (x ∷ xs) q h = by (is_member eq xs x) (eq q x) refl refl (unique-has xs q)
    where
      by : (b c : Bool) → is_member eq xs x ≡ b → eq q x ≡ c → (is_member eq xs q ≡ true → is_member eq (unique_keys eq xs) q ≡ true)
          → is_member eq (cond b (unique_keys eq xs) (x ∷ unique_keys eq xs)) q ≡ true
      by true true m e r = r (member-alike xs x q e m)
      by true false m e r = r (sym (ap (λ c. c || is_member eq xs q) e) ∙ h)
      by false true m e r = ap (λ c. c || is_member eq (unique_keys eq xs) q) e
      by false false m e r = ap (λ c. c || is_member eq (unique_keys eq xs) q) e ∙ r (sym (ap (λ c. c || is_member eq xs q) e) ∙ h)

-- different keys of a list are no more than it has
pub keys-few : (keys xs : List Key) → IsDistinct are_same keys → ((q : Key) → is_member are_same keys q ≡ true → is_member are_same xs q ≡ true) → length keys ≤ distinct_count are_same xs
keys-few keys xs d h = length-le_from_is_member same_equiv keys (unique_keys are_same xs) d (λ q m. unique-has same_equiv xs q (h q m))

-- a key for each entry
entry-keys : (m : TypeEncodingMaps) (once : IsOnce m) → length (keyed m once).keys ≡ length m.func_type_map.entries
entry-keys m once = (keyed m once).count ∙ length-map m.func_type_map.entries (λ (e : ListKey × ℕ). (e.0.0.items, e.1))

-- ---- one function

abbrev Named : Type 0
Named = Text × Function

module _ (r : Resolve) (own : Option InterfaceId) (N : Refusals) (t : Text) (f : Function) where
  abbrev its-name : Request
  its-name = export_name (function_name (t, f))

  abbrev its-type : Request
  its-type = function_type (signature_of r f)

  absent : (m : TypeEncodingMaps) (once : IsOnce m) → (KnowsKey m (key_of f) → ⊥) → list_any (are_same (key_of f)) (keyed m once).keys ≡ false
  absent m once new = search std_rules

  -- its type has none, or a part of it, where its key is new
  pub lacks-type : (m : TypeEncodingMaps) (h h' : ℕ) → IsOnce m → (KnowsKey m (key_of f) → ⊥) → FindsNoRoom r own (function_types f) (its-type ∷ []) 1 m h h' N
      → LacksFunctions r own (function_types f) ((t, f) ∷ []) m h h' N
  lacks-type m h h' once new room =
      let ks = (keyed m once).keys in
      record {
        keys = ks ++ key_of f ∷ [];
        different = IsDistinct-push same_equiv ks (key_of f) (keyed m once).different (absent m once new);
        from = λ key among. (let found = any-found (are_same key) (ks ++ key_of f ∷ []) among in elim (Contains-append_cases ks (key_of f ∷ []) found.0 found.1) [
          | inl c ↦ inl ((keyed m once).known key (any-at (are_same key) ks found.0 c found.2))
          | inr c ↦ inr (any-at (are_same key) (key_of f ∷ []) found.0 c found.2)
        ]);
        room = room-more refl (λ n x. x) (λ q c. Contains-append_left (its-type ∷ []) (its-name ∷ []) q c) (omega (arith, entry-keys m once, length-append ks (key_of f ∷ []))) room;
      }

  -- its name has none, behind its type
  pub lacks-name : (a b : TypeEncodingMaps) (h h' h'' : ℕ) → IsOnce b → MapsGrow a b → HoldsFor r own a b h h' 0 → LearnsOnly (ReachedFrom r own (function_types f)) a b
      → ((key : Key) → KnowsKey b key → KnowsKey a key ⊎ (is_member are_same (key_of f ∷ []) key ≡ true)) → h'' ≤ h' → N its-name → LacksFunctions r own (function_types f) ((t, f) ∷ []) a h h'' N
  lacks-name a b h h' h'' once grow holds only learnt low lacks = record {
    keys = (keyed b once).keys;
    different = (keyed b once).different;
    from = λ key among. learnt key ((keyed b once).known key among);
    room = room-after refl grow holds only (λ n x. x) (λ q c. Contains-append_right (its-type ∷ []) (its-name ∷ []) q c) (omega (arith, entry-keys b once))
        (lacks-request r own (function_types f) its-name b h' h'' N low lacks);
  }

-- ---- more functions

module _ {r : Resolve} {own own' : Option InterfaceId} {N : Refusals} {ts ts' : List ValueType} {a b : TypeEncodingMaps} {h h' h'' : ℕ} (e : own' ≡ own) (grow : MapsGrow a b)
    (only : LearnsOnly (ReachedFrom r own ts) a b) (reach : (n : ℕ) → ReachedFrom r own ts' n → ReachedFrom r own ts n) where
  -- one of these functions, behind others
  pub next-lacks : {i : ℕ} (fs : List Named) (g : Named) (done : List Function) → HoldsFor r own a b h h' i
      → ((key : Key) → KnowsKey b key → KnowsKey a key ⊎ (is_member are_same (map key_of done) key ≡ true)) → ((f : Function) → Contains done f → Contains (map (λ (x : Named). x.1) fs) f)
      → Contains fs g → i + 1 ≤ length fs → LacksFunctions r own' ts' (g ∷ []) b h' h'' N → LacksFunctions r own ts fs a h h'' N
  next-lacks {i} fs g done holds known among there many p = record {
    keys = p.keys;
    different = p.different;
    from = λ key m. elim (p.from key m) [
      | inl k ↦ elim (known key k) [ inl x ↦ inl x | inr y ↦ inr (of-done key y) ]
      | inr y ↦ inr (let found = any-found (are_same key) (key_of g.1 ∷ []) y in
          any-at (are_same key) (map (λ (x : Named). key_of x.1) fs) found.0 (subst (Contains (map (λ (x : Named). key_of x.1) fs)) (one-contained (key_of g.1) found.0 found.1)
          (contains-map (λ (x : Named). key_of x.1) fs g there)) found.2)
    ];
    room = room-after e grow holds only reach (λ q c. contains-flat (function_requests r) fs g q there c) (omega (arith, many)) p.room;
  }
    where
      of-done : (key : Key) → is_member are_same (map key_of done) key ≡ true → is_member are_same (map (λ (x : Named). key_of x.1) fs) key ≡ true
      of-done key m =
          let found = any-found (are_same key) (map key_of done) m in
          let f = from-map key_of done found.0 found.1 in
          let x = from-map (λ (x : Named). x.1) fs f.0 (among f.0 f.1) in
          any-at (are_same key) (map (λ (x : Named). key_of x.1) fs) found.0 (subst (Contains (map (λ (x : Named). key_of x.1) fs)) (ap key_of x.2 ∙ f.2)
          (contains-map (λ (x : Named). key_of x.1) fs x.0 x.1)) found.2

  -- functions, behind types
  pub lacks-behind : (fs : List Named) → HoldsFor r own a b h h' 0 → ((key : Key) → KnowsKey b key → KnowsKey a key) → LacksFunctions r own' ts' fs b h' h'' N → LacksFunctions r own ts fs a h h'' N
  lacks-behind fs holds known p =
      let room = room-after e grow holds only reach (λ q c. c) (omega arith) p.room in
      record { keys = p.keys; different = p.different; from = λ key m. elim (p.from key m) [ inl k ↦ inl (known key k) | inr y ↦ inr y ]; room = room }

-- types, before all functions
pub lacks-types : {r : Resolve} {own : Option InterfaceId} {N : Refusals} {ts ts' : List ValueType} {m : TypeEncodingMaps} {h h' : ℕ} (fs : List Named) → IsOnce m
    → ((n : ℕ) → ReachedFrom r own ts' n → ReachedFrom r own ts n) → FindsNoRoom r own ts' [] 0 m h h' N → LacksFunctions r own ts fs m h h' N
lacks-types {r} {own} {N} {ts} {ts'} {m} {h} {h'} fs once reach room = record {
  keys = (keyed m once).keys;
  different = (keyed m once).different;
  from = λ key among. inl ((keyed m once).known key among);
  room = room-more refl reach (λ q c. none-in q c) (omega (arith, entry-keys m once)) room;
}
