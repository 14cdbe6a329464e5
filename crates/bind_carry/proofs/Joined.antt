-- Names that a package gains join those that it had.
use Rattle.std.proofs.Common.{rules as std_rules, ◌≡◌, refl, sym, ap, ap₂, ◌∙◌, ℕ, zero, suc, Bool, true, false, not, ◌||◌, cond, List, [], ◌∷◌, map, ◌⊎◌, inl, inr, subst, Some, slice_get}
use Rattle.std.proofs.lemmas.Simd.{map-map}
use Rattle.std.specs.{List.filter, List.list_all, List.list_any, List.AllZip, List.Contains, Prelude.String}
use Rattle.wit_model.specs.declared.model.{Function.Function, FunctionKind.FunctionKind, WorldItem.WorldItem, WorldKey.WorldKey}
use Rattle.wit_model.specs.{Parts.function_numbers, Text.Text, Text.text_of}
use Rattle.bind_copy.specs.Copies.{is_key_under, is_new_under, number_under, IsEntryUnder, IsFunctionUnder, IsItemUnder, IsKeyUnder, call_under as call_under_numbers}
use Rattle.bind_union.specs.{Carried.call_under, Carried.ItemBecomes, Carried.IsFunctionCopy, Carried.KeyBecomes, Carried.Renumbering, Joined.is_new, Joined.same_key, Joined.Joined, Merged.is_name, Merged.JoinedNames}
use Rattle.bind_carry.specs.ReadyItems.{AreReady, IsItemReady, IsKeyReady}
use Rattle.std.specs.declared.alloc.Global.{Global}
use Rattle.bind_union.specs.Joined as joined
use Rattle.bind_union.specs.Merged as names

-- ---- Items that are copied where their keys are new join those that were there.

module _ (f : Renumbering) (types : List ℕ) (by_type : number_under types ≡ f.types) where
  -- ---- functions

  call_same : (k : FunctionKind) → call_under_numbers (number_under types) k ≡ call_under f k
  call_same x = search std_rules

  pub function_copy : (old new : Function) → IsFunctionUnder types old new → list_all f.carries_type (function_numbers old) ≡ true → IsFunctionCopy f old new
  function_copy old new is parts = search (std_rules, call_same, map-map)

-- What is carried has the numbers that were handed on.
module _ (f : Renumbering) (interfaces types : List ℕ) (by_interface : (n : ℕ) → f.carries_interface n ≡ true → number_under interfaces n ≡ f.interfaces n) (by_type : number_under types ≡ f.types) where
  -- ---- keys

  key_becomes : (old new : WorldKey) → IsKeyUnder interfaces old new → IsKeyReady f old → KeyBecomes f old new
  key_becomes x y is ready = search std_rules

  item_becomes : (old new : WorldItem) → IsItemUnder interfaces types old new → IsItemReady f old → ItemBecomes f old new
  item_becomes x y is ready = search (std_rules, function_copy)

  same_test : (k x : WorldKey) → IsKeyReady f k → is_key_under interfaces k x ≡ same_key f k x
  same_test x y ready = search std_rules

  any_same : (k : WorldKey) → IsKeyReady f k → (own : List (WorldKey × WorldItem))
      → list_any (λ (x : WorldKey × WorldItem). is_key_under interfaces k x.0) own ≡ list_any (λ (x : WorldKey × WorldItem). same_key f k x.0) own
  any_same k ready [] = refl
  any_same k ready (x ∷ xs) = ap₂ (λ a b. a || b) (same_test k x.0 ready) (any_same k ready xs)

  pub new_same : (own : List (WorldKey × WorldItem)) (k : WorldKey) → IsKeyReady f k → is_new_under interfaces own k ≡ is_new f own k
  new_same own k ready = ap not (any_same k ready own)

  -- ---- items

  module _ (own : List (WorldKey × WorldItem)) where
    abbrev test : WorldKey × WorldItem → Bool
    test e = is_new_under interfaces own e.0

    -- those that are copied, and those that own ones stand for
    pub items_join : (olds news : List (WorldKey × WorldItem)) → AllZip (IsEntryUnder interfaces types) (filter test olds) news → AreReady f interfaces own olds → Joined f own olds news
    items_join [] [] zip ready = joined.none
    items_join [] (x ∷ xs) zip ready = absurd zip
    items_join (e ∷ es) news zip ready = go (test e) refl news zip (λ xs rest. items_join es xs rest
        (record { new_ready = λ n x at. ready.new_ready (suc n) x at; met = λ n x at. ready.met (suc n) x at }))
      where
        go : (b : Bool) → test e ≡ b → (xs : List (WorldKey × WorldItem)) → AllZip (IsEntryUnder interfaces types) (cond b (e ∷ filter test es) (filter test es)) xs
            → ((ys : List (WorldKey × WorldItem)) → AllZip (IsEntryUnder interfaces types) (filter test es) ys → Joined f own es ys) → Joined f own (e ∷ es) xs
        go true q [] zip more = absurd zip
        go true q (x ∷ xs) zip more =
            let r = ready.new_ready zero e refl q in
            joined.added e x es xs (sym (new_same own e.0 r.0) ∙ q) (key_becomes e.0 x.0 zip.0.0 r.0, item_becomes e.1 x.1 zip.0.1 r.1) (more xs zip.1)
        go false q xs zip more = let m = ready.met zero e refl q in joined.met e m.there es xs m.in_own m.becomes m.stands (more xs zip)

-- ---- Names join those that were there, one by one, as they are copied.

module _ {V : Type 0} (id_of : V → ℕ) (number : ℕ → ℕ) (copies left_out : ℕ → Bool) (p : String Global × V → Bool) (own : List (Text × ℕ)) where
  abbrev named : List (String Global × V) → List (Text × ℕ)
  named es = map (λ (e : String Global × V). (text_of e.0, id_of e.1)) es

  -- a name with the number that it has from now on
  abbrev pub IsNameUnder : String Global × V → String Global × V → Type 0
  IsNameUnder old new = (text_of new.0 ≡ text_of old.0) × (id_of new.1 ≡ number (id_of old.1))

  -- What passes is copied, and under a name that wasn't there; the rest was there, or is left out.
  pub record AreNamesReady (es : List (String Global × V)) : Type 0 where
    pub added : (n : ℕ) (e : String Global × V) → slice_get es n ≡ Some e → p e ≡ true → (copies (id_of e.1) ≡ true) × (left_out (id_of e.1) ≡ false) × (is_name (text_of e.0) own ≡ false)
    pub there : (n : ℕ) (e : String Global × V) → slice_get es n ≡ Some e → p e ≡ false → Contains own (text_of e.0, number (id_of e.1)) ⊎ (left_out (id_of e.1) ≡ true)

  pub names_join : (es news : List (String Global × V)) → AllZip IsNameUnder (filter p es) news → AreNamesReady es → JoinedNames number copies left_out own (named es) (named news)
  names_join [] [] zip ready = names.none
  names_join [] (x ∷ xs) zip ready = absurd zip
  names_join (e ∷ es) news zip ready = go (p e) refl news zip (λ xs rest. names_join es xs rest (record { added = λ n x at. ready.added (suc n) x at; there = λ n x at. ready.there (suc n) x at }))
    where
      go : (b : Bool) → p e ≡ b → (xs : List (String Global × V)) → AllZip IsNameUnder (cond b (e ∷ filter p es) (filter p es)) xs
          → ((ys : List (String Global × V)) → AllZip IsNameUnder (filter p es) ys → JoinedNames number copies left_out own (named es) (named ys))
          → JoinedNames number copies left_out own (named (e ∷ es)) (named xs)
      go true q [] zip more = absurd zip
      go true q (x ∷ xs) zip more =
          let a = ready.added zero e refl q in
          subst (λ (y : Text × ℕ). JoinedNames number copies left_out own (named (e ∷ es)) (y ∷ named xs)) (λ i. (sym zip.0.0 i, sym zip.0.1 i))
          (names.added (text_of e.0) (id_of e.1) (named es) (named xs) a.0 a.1 a.2 (more xs zip.1))
      go false q xs zip more = elim (ready.there zero e refl q) [
        | inl c ↦ names.met (text_of e.0) (id_of e.1) (named es) (named xs) c (more xs zip)
        | inr l ↦ names.left (text_of e.0) (id_of e.1) (named es) (named xs) l (more xs zip)
      ]
