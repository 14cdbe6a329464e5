-- What the sections of a component export that was given component types, each with its export.
use Rattle.std.proofs.Common.{rules as std_rules, ◌≡◌, ℕ, suc, ◌+◌, ◌≤◌, ◌==◌, Bool, true, false, ◌&&◌, ◌||◌, List, [], ◌∷◌, ◌++◌, map, length, Some, Option, slice_get, refl, sym, ap, ◌∙◌, subst, append_assoc, append-nil, arith}
use borrow.Author.Tests.{eq-eqb}
use Rattle.std.specs.List.{list_all, list_any}
use Rattle.wit_model.specs.{Text.Text, Names.is_label}
use Rattle.comp_bytes.specs.Raw.{Declarations, TopType, TopExport, Section}
use Rattle.comp_bytes.specs.{Reading.◌>>=◌, Parts.Part, Parts.sections_of_parts, Parts.with_part, Parts.plain_export, Parts.top_slots}
use Rattle.comp_meaning.specs.{Follow.each, Follow.when, Reads.Top, Reads.steps, Reads.top_section, Reads.exported_types, Rules.distinct}
use Rattle.encode_exports.specs.{ExportedParts.exporting, ExportedParts.exporting_from, ExportedParts.one_exported, ExportLaws.TypesAreExported}
use Rattle.base_lemmas.proofs.{Bools.left_of as first_true, Bools.right_of as second_true, Lists.middle_get as last_found, Numbers.apart}
use Rattle.std.proofs.lemmas.Bool.{and_from as both_true}

-- ---- the sections

-- each component type in a section, and its export in another
abbrev pub sections_from : ℕ → List (Text × Declarations) → List Section
sections_from slots [] = []
sections_from slots (x ∷ xs) = Section.types (TopType.component x.1 ∷ []) ∷ Section.exports (plain_export x.0 slots ∷ []) ∷ sections_from (suc (suc slots)) xs

pub sections_apart : (ds : Declarations) (e : TopExport) (slots : ℕ) (xs : List (Text × Declarations))
    → with_part (Part.top_type (TopType.component ds)) (with_part (Part.top_export e) (sections_from slots xs)) ≡ Section.types (TopType.component ds ∷ []) ∷ Section.exports (e ∷ [])
    ∷ sections_from slots xs
sections_apart ds e slots [] = refl
sections_apart ds e slots (x ∷ xs) = refl

sections_are : (slots : ℕ) (xs : List (Text × Declarations)) → sections_of_parts (exporting_from slots xs) ≡ sections_from slots xs
sections_are slots [] = refl
sections_are slots (x ∷ xs) = rw (sections_are (suc (suc slots)) xs) (sections_apart x.1 (plain_export x.0 slots) (suc (suc slots)) xs)

-- ---- the types that they export

abbrev numbers_from : ℕ → List (Text × Declarations) → List (Text × ℕ)
numbers_from n [] = []
numbers_from n (x ∷ xs) = (x.0, n) ∷ numbers_from (suc n) xs

-- nothing is exported with this number or a larger one
abbrev IsFresh : ℕ → List (Text × ℕ) → Type 0
IsFresh n es = (m : ℕ) → n ≤ m → list_any (λ x. x.1 == m) es ≡ false

any_end : (m : ℕ) (es : List (Text × ℕ)) (name : Text) (n : ℕ) → list_any (λ x. x.1 == m) es ≡ false → (n == m) ≡ false → list_any (λ x. x.1 == m) (es ++ (name, n) ∷ []) ≡ false
any_end m [] name n none h = rw h refl
any_end m (e ∷ es) name n none h = both_false (e.1 == m) (list_any (λ x. x.1 == m) es) none (λ rest. any_end m es name n rest h)
  where
    both_false : (a b : Bool) {c : Bool} → (a || b) ≡ false → (b ≡ false → c ≡ false) → (a || c) ≡ false
    both_false true b none f = none
    both_false false b none f = f none

fresh_next : (n : ℕ) (es : List (Text × ℕ)) (name : Text) → IsFresh n es → IsFresh (suc n) (es ++ (name, n) ∷ [])
fresh_next n es name h m above = search (std_rules, any_end, apart)

one_longer : {A : Type 0} (xs : List A) (x : A) → length (xs ++ x ∷ []) ≡ suc (length xs)
one_longer [] x = refl
one_longer (y ∷ ys) x = ap suc (one_longer ys x)

abbrev AreLabelled : List (Text × Declarations) → Type 0
AreLabelled xs = list_all (λ x. is_label x.0) xs ≡ true

-- one more component type and its export
one_type : (ds : List Declarations) (slots : List ℕ) (es : List (Text × ℕ)) (name : Text) (d : Declarations) → IsFresh (length ds) es → is_label name ≡ true
    → (top_section (record { types = ds; slots = slots; exported = es }) (Section.types (TopType.component d ∷ [])) >>= λ next. top_section next
    (Section.exports (plain_export name (length slots) ∷ []))) ≡ Some (record { types = ds ++ d ∷ []; slots = (slots ++ length ds ∷ []) ++ length ds ∷ []; exported = es ++ (name, length ds) ∷ [] })
one_type ds slots es name d fresh label = search (std_rules, last_found)

-- the same, by the number of indexes that are taken
next_type : (ds : List Declarations) (slots : List ℕ) (es : List (Text × ℕ)) (k : ℕ) (name : Text) (d : Declarations) (rest : List Section) → length slots ≡ k → IsFresh (length ds) es
    → is_label name ≡ true → steps top_section (record { types = ds; slots = slots; exported = es }) (Section.types (TopType.component d ∷ []) ∷ Section.exports (plain_export name k ∷ []) ∷ rest)
    ≡ steps top_section (record { types = ds ++ d ∷ []; slots = (slots ++ length ds ∷ []) ++ length ds ∷ []; exported = es ++ (name, length ds) ∷ [] }) rest
next_type ds slots es k name d rest taken fresh label = search (std_rules, one_type)

-- the component types and their exports behind what stood at the top
top_after : (xs : List (Text × Declarations)) (ds : List Declarations) (slots : List ℕ) (es : List (Text × ℕ)) (k : ℕ) → length slots ≡ k → IsFresh (length ds) es → AreLabelled xs
    → (after : List ℕ) × (steps top_section (record { types = ds; slots = slots; exported = es }) (sections_from k xs) ≡ Some
    (record { types = ds ++ map (λ x. x.1) xs; slots = after; exported = es ++ numbers_from (length ds) xs }))
top_after [] ds slots es k taken fresh labels = (slots, λ i. Some (record { types = sym (append-nil ds) i; slots = slots; exported = sym (append-nil es) i }))
top_after (x ∷ xs) ds slots es k taken fresh labels =
    let longer = one_longer ds x.1 in
    let slots_longer : length ((slots ++ length ds ∷ []) ++ length ds ∷ []) ≡ suc (suc k) = one_longer (slots ++ length ds ∷ []) (length ds) ∙ ap suc (one_longer slots (length ds) ∙ ap suc taken) in
    let P : ℕ → Type 0 = λ n. IsFresh n (es ++ (x.0, length ds) ∷ []) in
    let later = top_after xs (ds ++ x.1 ∷ []) ((slots ++ length ds ∷ []) ++ length ds ∷ []) (es ++ (x.0, length ds) ∷ []) (suc (suc k)) slots_longer
    (subst P (sym longer) (fresh_next (length ds) es x.0 fresh)) (second_true (is_label x.0) (list_all (λ y. is_label y.0) xs) labels) in (
      later.0,
      next_type ds slots es k x.0 x.1 (sections_from (suc (suc k)) xs) taken fresh (first_true (is_label x.0) (list_all (λ y. is_label y.0) xs) labels) ∙ later.1 ∙ λ i. Some (record {
        types = append_assoc ds (x.1 ∷ []) (map (λ y. y.1) xs) i;
        slots = later.0;
        exported = (ap (λ (n : ℕ). (es ++ (x.0, length ds) ∷ []) ++ numbers_from n xs) longer ∙ append_assoc es ((x.0, length ds) ∷ []) (numbers_from (suc (length ds)) xs)) i;
      }),
    )

as_many : (n : ℕ) (xs : List (Text × Declarations)) → length (numbers_from n xs) ≡ length (map (λ x. x.1) xs)
as_many n [] = refl
as_many n (x ∷ xs) = ap suc (as_many (suc n) xs)

same_names : (n : ℕ) (xs : List (Text × Declarations)) → map (λ x. x.0) (numbers_from n xs) ≡ map (λ x. x.0) xs
same_names n [] = refl
same_names n (x ∷ xs) = ap (λ names. x.0 ∷ names) (same_names (suc n) xs)

abbrev find_in : List Declarations → Text × ℕ → Option (Text × Declarations)
find_in types x = slice_get types x.1 >>= λ ds. Some (x.0, ds)

each_found : (front : List Declarations) (xs : List (Text × Declarations)) → each (find_in (front ++ map (λ x. x.1) xs)) (numbers_from (length front) xs) ≡ Some xs
each_found front [] = refl
each_found front (x ∷ xs) = search (std_rules, append_assoc, one_longer, last_found, each_found (front ++ x.1 ∷ []) xs)

no_exports : IsFresh 0 []
no_exports m h = refl

-- the component types that the sections export
pub types_exported : (xs : List (Text × Declarations)) → AreLabelled xs → distinct (map (λ x. x.0) xs) ≡ true → exported_types (sections_from 0 xs) ≡ Some xs
types_exported xs labels apart =
    let top = top_after xs [] [] [] 0 refl no_exports labels in
    ap (λ (o : Option Top). o >>= λ top. when (length top.exported == length top.types && distinct (map (λ x. x.0) top.exported)) (each (find_in top.types) top.exported)) top.1
    ∙ ap (λ (b : Bool). when b (each (find_in (map (λ x. x.1) xs)) (numbers_from 0 xs))) (both_true _ _ (eq-eqb _ _ (as_many 0 xs)) (ap distinct (same_names 0 xs) ∙ apart)) ∙ each_found [] xs

pub all_exported : TypesAreExported
all_exported xs labels apart = ap exported_types (sections_are 0 xs) ∙ types_exported xs labels apart

-- ---- one more

-- a type and its export take two indexes
slots_taken : (n : ℕ) (xs : List (Text × Declarations)) (x : Text × Declarations) → exporting_from n (xs ++ x ∷ []) ≡ exporting_from n xs ++ one_exported (n + top_slots (exporting_from n xs)) x
slots_taken n [] x = ap (λ k. one_exported k x) (omega arith)
slots_taken n (y ∷ ys) x = search (std_rules, slots_taken (suc (suc n)) ys x)

pub one_more : (ps new : List Part) (xs : List (Text × Declarations)) (x : Text × Declarations) → new ≡ ps ++ one_exported (top_slots ps) x → ps ≡ exporting xs → new ≡ exporting (xs ++ x ∷ [])
one_more ps new xs x is old = search (std_rules, slots_taken)
