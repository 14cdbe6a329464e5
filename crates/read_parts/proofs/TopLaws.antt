-- Types and exports at the top, as they take their indexes.
use Rattle.std.proofs.Common.{rules as std_rules, ◌≡◌, refl, sym, ap, ◌∙◌, subst, ℕ, Bool, false, not, ◌&&◌, ◌||◌, ◌==◌, List, [], ◌∷◌, ◌++◌, map, Option, Some, None, slice_get}
use Rattle.std.proofs.{Math.Dec.eqb, lemmas.List.map-append}
use Rattle.std.specs.List.{AllByRecursion, list_any}
use Rattle.wit_model.specs.{Text.Text, Names.is_label}
use Rattle.comp_bytes.specs.{Levels.PartType, Reading.◌>>=◌}
use Rattle.comp_meaning.specs.{ByLevels.Top, ByLevels.top_export, Follow.each, Follow.provided, Follow.when, Reads.is_bare_name, Rules.distinct}
use Rattle.read_follow.specs.declared.{refusal.Refusal.Refusal, sections.TopExport.TopExport}
use Rattle.read_follow.specs.{ExternNames.raw_name, Found.Refuses, PartTypes.raw_part_type, PartTypes.IsWholePart, Pieces.raw_export}
use Rattle.read_follow.proofs.{Refusing.refused, SlotLaws.mapped_none}
use Rattle.read_parts.specs.declared.tops.{Exported.Exported, TopType.TopType, Tops.Tops}
use Rattle.read_parts.specs.Exported.{distinct_parts, part_under}
use Rattle.read_parts.specs.Tops.{label_and_number, may_export, number_found, top_of, AreTops, IsExportAdded}
use Rattle.base_lemmas.proofs.Lists.{mapped_get}

abbrev raw_type : TopType → PartType
raw_type x = raw_part_type x.part

abbrev number : Exported → ℕ
number x = x.number

abbrev IsWholeType : TopType → Type 0
IsWholeType x = IsWholePart x.part

-- ---- an export

flip : (n m : ℕ) → eqb n m ≡ (m == n)
flip n m = search std_rules

pub any_flip : (n : ℕ) (ks : List ℕ) → list_any (eqb n) ks ≡ list_any (λ m. m == n) ks
any_flip n [] = refl
any_flip n (k ∷ ks) = λ i. flip n k i || any_flip n ks i

any_number : (n : ℕ) (xs : List Exported) → list_any (λ (x : Text × ℕ). x.1 == n) (map label_and_number xs) ≡ list_any (λ m. m == n) (map number xs)
any_number n [] = refl
any_number n (x ∷ xs) = ap (λ b. (x.number == n) || b) (any_number n xs)

-- the number of an index, if it may be exported
pub number_given : (old : Tops) (e : TopExport) (slots : List ℕ) (n : ℕ) (b : Bool) → slots ≡ old.slots.items → Some n ≡ slice_get slots e.index → may_export old e n ≡ b
    → number_found old e ≡ provided b n
number_given old e slots n b same at is = search std_rules

pub number_absent : (old : Tops) (e : TopExport) (slots : List ℕ) → slots ≡ old.slots.items → None ≡ slice_get slots e.index → number_found old e ≡ None
number_absent old e slots same at = ap (λ o. o >>= λ k. provided (may_export old e k) k) (sym (at ∙ ap (λ ss. slice_get ss e.index) same))

module _ (old : Tops) (st : AreTops old) (e : TopExport) where
  -- what the definition makes of a type's number
  abbrev with_export : ℕ → Top
  with_export n = record { types = (top_of old).types; slots = old.slots.items ++ n ∷ []; exported = map label_and_number old.exported.items ++ (e.name.text.now, n) ∷ [] }

  same_test : (n : ℕ) → (is_bare_name (raw_name e.name) && (is_label e.name.text.now && not (list_any (λ (x : Text × ℕ). x.1 == n) (map label_and_number old.exported.items)))) ≡ may_export old e n
  same_test n = ap (λ b. is_bare_name (raw_name e.name) && (is_label e.name.text.now && not b)) (any_number n old.exported.items ∙ ap (list_any (λ m. m == n)) (sym st.numbers))

  guarded : {A B : Type 0} (b : Bool) (x : A) (g : A → B) → provided b (g x) ≡ (provided b x >>= λ y. Some (g y))
  guarded x y g = search std_rules

  export_law : (o : Option ℕ) → slice_get old.slots.items e.index ≡ o → top_export (top_of old) (raw_export e) ≡ ((o >>= λ n. provided (may_export old e n) n) >>= λ n. Some (with_export n))
  export_law o at = search (std_rules, same_test, guarded)

  pub export_absent : (r : Refusal) → Refuses r (number_found old e) → Refuses r (top_export (top_of old) (raw_export e))
  export_absent r h = refused r (number_found old e) (top_export (top_of old) (raw_export e))
      (λ none. export_law (slice_get old.slots.items e.index) refl ∙ ap (λ o. o >>= λ n. Some (with_export n)) none) h

  -- a type whose number is found is not exported yet
  pub not_exported : (n : ℕ) → number_found old e ≡ Some n → list_any (λ m. m == n) old.numbers.keys ≡ false
  not_exported n found = search std_rules

  module _ (new : Tops) (n : ℕ) (added : IsExportAdded old new e.name.text n) where
    pub export_added : number_found old e ≡ Some n → top_export (top_of old) (raw_export e) ≡ Some (top_of new)
    export_added found =
        let types : map raw_type old.types.items ≡ map raw_type new.types.items = ap (λ ts. map raw_type ts.items) (sym added.types) in
        let exported : map label_and_number old.exported.items ++ (e.name.text.now, n) ∷ [] ≡ map label_and_number new.exported.items =
        sym (ap (map label_and_number) added.exported ∙ map-append label_and_number old.exported.items (record { label = e.name.text; number = n } ∷ [])) in
        export_law (slice_get old.slots.items e.index) refl ∙ (ap (λ o. o >>= λ k. Some (with_export k)) found
        ∙ (λ i. Some (record { types = types i; slots = sym added.slots i; exported = exported i })))

    pub tops_with_export : AreTops new
    tops_with_export = record {
      whole = subst (AllByRecursion IsWholeType) (ap (λ ts. ts.items) (sym added.types)) st.whole;
      numbers = added.numbers ∙ (ap (λ ns. ns ++ n ∷ []) st.numbers ∙ sym (ap (map number) added.exported ∙ map-append number old.exported.items (record { label = e.name.text; number = n } ∷ [])));
    }

-- ---- all exports

part_found : (types : List TopType) (label : Text) (n : ℕ) (x : TopType) → Some x ≡ slice_get types n
    → part_under (map raw_type types) (label, n) ≡ (let p : Text × PartType = (label, raw_type x) in Some p)
part_found types label n x at = ap (λ o. o >>= λ p. let q : Text × PartType = (label, p) in Some q) (mapped_get raw_type types n x (sym at))

pub part_here : (types given : List TopType) (label : Text) (n : ℕ) (x : TopType) → given ≡ types → Some x ≡ slice_get given n
    → part_under (map raw_type types) (label, n) ≡ (let p : Text × PartType = (label, raw_type x) in Some p)
part_here types given label n x same at = part_found types label n x (at ∙ ap (λ ts. slice_get ts n) same)

pub part_nowhere : (types given : List TopType) (label : Text) (n : ℕ) → given ≡ types → None ≡ slice_get given n → part_under (map raw_type types) (label, n) ≡ None
part_nowhere types given label n same at = ap (λ o. o >>= λ p. let q : Text × PartType = (label, p) in Some q) (mapped_none raw_type types n (sym (at ∙ ap (λ ts. slice_get ts n) same)))

-- the labels as they are kept
labels_same : (xs : List Exported) → map (λ (x : Text × ℕ). x.0) (map label_and_number xs) ≡ map (λ (x : Exported). x.label.now) xs
labels_same [] = refl
labels_same (x ∷ xs) = ap (λ ts. x.label.now ∷ ts) (labels_same xs)

pub distinct_is : (t : Tops) (given : List Exported) (r b : Bool) → given ≡ t.exported.items → r ≡ distinct (map (λ (x : Exported). x.label.now) given) → r ≡ b
    → distinct_parts (top_of t) ≡ when b (each (part_under (top_of t).types) (top_of t).exported)
distinct_is t given r b same tells is = search (std_rules, labels_same)
