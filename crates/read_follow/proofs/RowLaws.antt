-- Rows, one after the other.
use Rattle.std.proofs.Common.{rules as std_rules, ◌≡◌, refl, sym, ap, ◌∙◌, subst, ℕ, ◌+◌, ◌<◌, ◌≤◌, Bool, true, false, ◌==◌, List, [], ◌∷◌, ◌++◌, drop, map, length, get_or, option_map, is_some, IfSome, Option, Some, None, option_to_list, append_assoc, append-nil}
use Rattle.std.proofs.{Math.ListN.drop_of_length-le, lemmas.List.drop-map, lemmas.List.drop_more, lemmas.List.map-append, lemmas.List.Concat.flat_map_single}
use Rattle.std.proofs.lemmas.{Bool.false≢true, Grind.flat_map-append}
use Rattle.std.specs.{Borrow.Bor, List.flat_map, List.AllByRecursion}
use Rattle.wit_model.specs.{Rules.has_items, Text.Text, Meaning.Signature}
use Rattle.wit_model.specs.Tree.{Form, Tree, children, given_trees, is_given, record_tree, tuple_tree, variant_tree}
use Rattle.comp_bytes.specs.declared.forms.ComponentValType.{ComponentValType}
use Rattle.comp_bytes.specs.{Raw.DefinedType, Raw.Labeled, RawOf.labeled, Reading.◌>>=◌}
use Rattle.comp_meaning.specs.Follow.{given as payload, case_type, definition, each, field_type, is_filled, provided, value_type}
use Rattle.read_follow.specs.declared.{refusal.Refusal.Refusal, slots.Slot.Slot}
use Rattle.read_follow.specs.{Found.Refuses, Slots.slots_in, Slots.AreInRange, DefinitionKeys.IsNodeOf}
use Rattle.read_follow.specs.Rows.{behind_rows, case_labels, case_trees, field_labels, field_trees, value_labels, value_trees, RowsOf, RowsSoFar}
use Rattle.plan_meaning.specs.Shapes.{marked, part_tree}
use Rattle.read_follow.proofs.Refusing.{refused}
use Rattle.base_lemmas.proofs.{Elements.all_end}
use Rattle.wit_model.proofs.RulesLemmas.{items_of_map as mapped_items}

pub behind_more : {Y : Type 0} (front : List Y) (y : Y) (found : Option (List Y)) → behind_rows front (found >>= λ ys. Some (y ∷ ys)) ≡ behind_rows (front ++ y ∷ []) found
behind_more front y x = search (std_rules, append_assoc)

module _ {A Y : Type 0} (f : A → Option Y) (labs : Y → List (Text × Bool)) (trees : Y → List Tree) (rows : List A) where
  module _ (i : ℕ) (labels : List (Text × Bool)) (ts : List Tree) (so_far : RowsSoFar f labs trees rows i labels ts) where
    module _ (x : A) (at : drop i rows ≡ x ∷ drop (i + 1) rows) where
      pub rows_more : (y : Y) (more_labels : List (Text × Bool)) (more_ts : List Tree) → f x ≡ Some y → more_labels ≡ labels ++ labs y → more_ts ≡ ts ++ trees y
          → RowsSoFar f labs trees rows (i + 1) more_labels more_ts
      rows_more y more_labels more_ts e el et = record {
        ys = so_far.ys ++ y ∷ [];
        kept = sym (behind_more so_far.ys y (each f (drop (i + 1) rows)))
            ∙ (ap (behind_rows so_far.ys) (sym (ap (each f) at ∙ ap (λ o. o >>= λ z. each f (drop (i + 1) rows) >>= λ ys. Some (z ∷ ys)) e)) ∙ so_far.kept);
        labels_are = flat_map-append labs so_far.ys (y ∷ []) ∙ ((λ j. so_far.labels_are j ++ append-nil (labs y) j) ∙ sym el);
        trees_are = flat_map-append trees so_far.ys (y ∷ []) ∙ ((λ j. so_far.trees_are j ++ append-nil (trees y) j) ∙ sym et);
      }

      pub rows_absent : f x ≡ None → each f rows ≡ None
      rows_absent e = sym so_far.kept ∙ ap (behind_rows so_far.ys) (ap (each f) at ∙ ap (λ o. o >>= λ z. each f (drop (i + 1) rows) >>= λ ys. Some (z ∷ ys)) e)

    pub rows_all : drop i rows ≡ [] → RowsOf f labs trees rows labels ts
    rows_all none = record {
      ys = so_far.ys;
      found = sym so_far.kept ∙ (ap (λ xs. behind_rows so_far.ys (each f xs)) none ∙ ap Some (append-nil so_far.ys));
      labels_are = so_far.labels_are;
      trees_are = so_far.trees_are;
    }

-- ---- what is made of them

field_marks : (ys : List (Text × Tree)) → flat_map field_labels ys ≡ marked true (map (λ l. l.0) (flat_map field_labels ys))
field_marks [] = refl
field_marks (y ∷ ys) = ap (λ rest. (y.0, true) ∷ rest) (field_marks ys)

field_names : (ys : List (Text × Tree)) → map (λ f. f.0) ys ≡ map (λ l. l.0) (flat_map field_labels ys)
field_names [] = refl
field_names (y ∷ ys) = ap (λ rest. y.0 ∷ rest) (field_names ys)

payload_first : (o : Option Tree) (rest : List (Option Tree)) (ts : List Tree) → given_trees rest ≡ children ts → given_trees (o ∷ rest) ≡ children (option_to_list o ++ ts)
payload_first x rest ts e = search std_rules

payloads : (ys : List (Text × Option Tree)) → given_trees (map (λ c. c.1) ys) ≡ children (flat_map case_trees ys)
payloads [] = refl
payloads (y ∷ ys) = payload_first y.1 (map (λ c. c.1) ys) (flat_map case_trees ys) (payloads ys)

value_list : (ts : List Tree) → flat_map value_trees ts ≡ ts
value_list [] = refl
value_list (t ∷ ts) = ap (λ rest. t ∷ rest) (value_list ts)

pub items_there : {A : Type 0} (xs : List A) → is_filled xs ≡ true → has_items xs ≡ true
items_there x e = search std_rules

-- what is found for some rows is some
rows_filled : {A Y : Type 0} (f : A → Option Y) (rows : List A) (ys : List Y) → each f rows ≡ Some ys → is_filled rows ≡ true → is_filled ys ≡ true
rows_filled f z ys e h = search std_rules

flat_items : {X Y : Type 0} (f : X → Y) (xs : List X) → is_filled xs ≡ true → has_items (flat_map (λ x. f x ∷ []) xs) ≡ true
flat_items f x h = search std_rules

module _ (ss : List Slot) (ks : List ℕ) (ranges : (n : ℕ) → AreInRange n ss → AllByRecursion (λ k. k < 14 + n) ks) where
  pub record_is : (fields : List (Labeled ComponentValType)) (labels : List (Text × Bool)) → is_filled fields ≡ true
      → ((T : List Tree) (F : List Signature) → RowsOf (field_type (slots_in T F ss)) field_labels field_trees fields labels (map (part_tree T) ks))
      → IsNodeOf (record { sort = 1; number = 0; labels = labels; parts = ks }) ss (DefinedType.record_of fields)
  record_is fields labels filled rows =
      let first = rows [] [] in
      record {
        form = Form.record_of (map (λ l. l.0) labels);
        parts = ks;
        shape = λ i. record { sort = 1; number = 0; labels = (subst (λ (ls : List (Text × Bool)). ls ≡ marked true (map (λ l. l.0) ls)) first.labels_are (field_marks first.ys)) i; parts = ks };
        ranges = ranges;
        formed = mapped_items (λ (l : Text × Bool). l.0) labels ∙ (ap has_items (sym first.labels_are) ∙ flat_items (λ (f : Text × Tree). (f.0, true)) first.ys
            (rows_filled (field_type (slots_in [] [] ss)) fields first.ys first.found filled));
        found = λ T F named apart.
            let r = rows T F in
            ap (λ o. o >>= λ fs. provided (is_filled fields) (record_tree fs)) r.found
            ∙ (ap (λ b. provided b (record_tree r.ys)) filled ∙ (λ i. Some (Tree.node (Form.record_of ((field_names r.ys ∙ ap (map (λ l. l.0)) r.labels_are) i))
            (children ((sym (flat_map_single (λ f. f.1) r.ys) ∙ r.trees_are) i)))));
      }

  pub variant_is : (cases : List (Labeled (Option ComponentValType))) (labels : List (Text × Bool)) → is_filled cases ≡ true
      → ((T : List Tree) (F : List Signature) → RowsOf (case_type (slots_in T F ss)) case_labels case_trees cases labels (map (part_tree T) ks))
      → IsNodeOf (record { sort = 2; number = 0; labels = labels; parts = ks }) ss (DefinedType.variant_of cases)
  variant_is cases labels filled rows = record {
    form = Form.variant_of labels;
    parts = ks;
    shape = refl;
    ranges = ranges;
    formed = (let first = rows [] [] in ap has_items (sym first.labels_are) ∙ flat_items (λ (c : Text × Option Tree). (c.0, is_given c.1)) first.ys
        (rows_filled (case_type (slots_in [] [] ss)) cases first.ys first.found filled));
    found = λ T F named apart.
        let r = rows T F in
        let names : map (λ c. (c.0, is_given c.1)) r.ys ≡ labels = sym (flat_map_single (λ c. (c.0, is_given c.1)) r.ys) ∙ r.labels_are in
        let ts : given_trees (map (λ c. c.1) r.ys) ≡ children (map (part_tree T) ks) = payloads r.ys ∙ ap children r.trees_are in
        ap (λ o. o >>= λ cs. provided (is_filled cases) (variant_tree cs)) r.found ∙ (ap (λ b. provided b (variant_tree r.ys)) filled ∙ (λ i. Some (Tree.node (Form.variant_of (names i)) (ts i))));
  }

  pub tuple_is : (vs : List ComponentValType) (labels : List (Text × Bool)) → labels ≡ [] → is_filled vs ≡ true
      → ((T : List Tree) (F : List Signature) → RowsOf (value_type (slots_in T F ss)) value_labels value_trees vs [] (map (part_tree T) ks))
      → IsNodeOf (record { sort = 9; number = 0; labels = labels; parts = ks }) ss (DefinedType.tuple_of vs)
  tuple_is vs labels none filled rows = record {
    form = Form.tuple_of;
    parts = ks;
    shape = λ i. record { sort = 9; number = 0; labels = none i; parts = ks };
    ranges = ranges;
    formed = (let first = rows [] [] in sym (mapped_items (part_tree []) ks)
        ∙ (ap has_items (sym first.trees_are) ∙ flat_items (λ (t : Tree). t) first.ys (rows_filled (value_type (slots_in [] [] ss)) vs first.ys first.found filled)));
    found = λ T F named apart.
        let r = rows T F in
        let ts : r.ys ≡ map (part_tree T) ks = sym (value_list r.ys) ∙ r.trees_are in
        ap (λ o. o >>= λ xs. provided (is_filled vs) (tuple_tree xs)) r.found ∙ (ap (λ b. provided b (tuple_tree r.ys)) filled ∙ (λ i. Some (Tree.node Form.tuple_of (children (ts i)))));
  }

pub all_filled : {A B : Type 0} (f : A → B) (xs : List A) → false ≡ (length xs == 0) → is_filled (map f xs) ≡ true
all_filled f [] e = absurd (false≢true e)
all_filled f (x ∷ xs) e = refl

pub list_filled : {A : Type 0} (xs : List A) → false ≡ (length xs == 0) → is_filled xs ≡ true
list_filled x e = search std_rules

-- ---- loops over rows

-- a part more, if there is one
pub part_more : (ss : List Slot) (ks : List ℕ) (p : Option ℕ) → ((n : ℕ) → AreInRange n ss → AllByRecursion (λ k. k < 14 + n) ks) → IfSome p (λ k. (n : ℕ) → AreInRange n ss → k < 14 + n)
    → (n : ℕ) → AreInRange n ss → AllByRecursion (λ k. k < 14 + n) (ks ++ option_to_list p)
part_more ss ks x all one n ranges = search (std_rules, append-nil, all_end)

module _ {X A : Type 0} (raw : X → A) (all : List X) (i : ℕ) where
  pub raw_at : (d : X) → i < length all → drop i (map raw all) ≡ raw (get_or all i d) ∷ drop (i + 1) (map raw all)
  raw_at d more = drop-map raw i all ∙ (ap (map raw) (drop_more all i d more) ∙ ap (λ xs. raw (get_or all i d) ∷ xs) (sym (drop-map raw (i + 1) all)))

  pub raw_end : length all ≤ i → drop i (map raw all) ≡ []
  raw_end past = drop-map raw i all ∙ ap (map raw) (drop_of_length-le all past)

module _ (ss : List Slot) (all : List ComponentValType) (i : ℕ) (ks : List ℕ)
    (kept : (T : List Tree) (F : List Signature) → RowsSoFar (value_type (slots_in T F ss)) value_labels value_trees all i [] (map (part_tree T) ks)) where
  module _ (d : ComponentValType) (more : i < length all) where
    pub value_row : (k : ℕ) (nks : List ℕ) → ((T : List Tree) (F : List Signature) → value_type (slots_in T F ss) (get_or all i d) ≡ Some (part_tree T k)) → nks ≡ ks ++ k ∷ []
        → (T : List Tree) (F : List Signature) → RowsSoFar (value_type (slots_in T F ss)) value_labels value_trees all (i + 1) [] (map (part_tree T) nks)
    value_row k nks e ek T F = rows_more (value_type (slots_in T F ss)) value_labels value_trees all i [] (map (part_tree T) ks) (kept T F) (get_or all i d) (drop_more all i d more) (part_tree T k) []
        (map (part_tree T) nks) (e T F) refl (ap (map (part_tree T)) ek ∙ map-append (part_tree T) ks (k ∷ []))

    pub value_refused : (e : Refusal) → ((T : List Tree) (F : List Signature) → Refuses e (value_type (slots_in T F ss) (get_or all i d))) → (T : List Tree) (F : List Signature)
        → Refuses e (each (value_type (slots_in T F ss)) all)
    value_refused e r T F = refused e (value_type (slots_in T F ss) (get_or all i d)) (each (value_type (slots_in T F ss)) all)
        (rows_absent (value_type (slots_in T F ss)) value_labels value_trees all i [] (map (part_tree T) ks) (kept T F) (get_or all i d) (drop_more all i d more)) (r T F)

  pub value_rows : length all ≤ i → (T : List Tree) (F : List Signature) → RowsOf (value_type (slots_in T F ss)) value_labels value_trees all [] (map (part_tree T) ks)
  value_rows past T F = rows_all (value_type (slots_in T F ss)) value_labels value_trees all i [] (map (part_tree T) ks) (kept T F) (drop_of_length-le all past)

module _ (ss : List Slot) (all : List (Bor (List ℕ) × ComponentValType)) (i : ℕ) (labels : List (Text × Bool)) (ks : List ℕ)
    (kept : (T : List Tree) (F : List Signature) → RowsSoFar (field_type (slots_in T F ss)) field_labels field_trees (map labeled all) i labels (map (part_tree T) ks)) where
  module _ (d : Bor (List ℕ) × ComponentValType) (more : i < length all) where
    pub field_row : (k : ℕ) (nls : List (Text × Bool)) (nks : List ℕ) → ((T : List Tree) (F : List Signature) → value_type (slots_in T F ss) (get_or all i d).1 ≡ Some (part_tree T k))
        → nls ≡ labels ++ ((get_or all i d).0.now, true) ∷ [] → nks ≡ ks ++ k ∷ []
        → (T : List Tree) (F : List Signature) → RowsSoFar (field_type (slots_in T F ss)) field_labels field_trees (map labeled all) (i + 1) nls (map (part_tree T) nks)
    field_row k nls nks e el ek T F =
        let x = get_or all i d in
        rows_more (field_type (slots_in T F ss)) field_labels field_trees (map labeled all) i labels (map (part_tree T) ks) (kept T F) (labeled x) (raw_at labeled all i d more)
        (x.0.now, part_tree T k) nls (map (part_tree T) nks) (ap (λ o. o >>= λ t. Some (x.0.now, t)) (e T F)) el (ap (map (part_tree T)) ek ∙ map-append (part_tree T) ks (k ∷ []))

    pub field_refused : (e : Refusal) → ((T : List Tree) (F : List Signature) → Refuses e (value_type (slots_in T F ss) (get_or all i d).1)) → (T : List Tree) (F : List Signature)
        → Refuses e (each (field_type (slots_in T F ss)) (map labeled all))
    field_refused e r T F =
        let x = get_or all i d in
        refused e (value_type (slots_in T F ss) x.1) (each (field_type (slots_in T F ss)) (map labeled all))
        (λ none. rows_absent (field_type (slots_in T F ss)) field_labels field_trees (map labeled all) i labels (map (part_tree T) ks) (kept T F) (labeled x) (raw_at labeled all i d more)
        (ap (λ o. o >>= λ t. Some (x.0.now, t)) none)) (r T F)

  pub field_rows : length all ≤ i → (T : List Tree) (F : List Signature) → RowsOf (field_type (slots_in T F ss)) field_labels field_trees (map labeled all) labels (map (part_tree T) ks)
  field_rows past T F = rows_all (field_type (slots_in T F ss)) field_labels field_trees (map labeled all) i labels (map (part_tree T) ks) (kept T F) (raw_end labeled all i past)

module _ (ss : List Slot) (all : List (Bor (List ℕ) × Option ComponentValType)) (i : ℕ) (labels : List (Text × Bool)) (ks : List ℕ)
    (kept : (T : List Tree) (F : List Signature) → RowsSoFar (case_type (slots_in T F ss)) case_labels case_trees (map labeled all) i labels (map (part_tree T) ks)) where
  module _ (d : Bor (List ℕ) × Option ComponentValType) (more : i < length all) where
    pub case_row : (p : Option ℕ) (b : Bool) (nls : List (Text × Bool)) (nks : List ℕ)
        → ((T : List Tree) (F : List Signature) → payload (value_type (slots_in T F ss)) (get_or all i d).1 ≡ Some (option_map (part_tree T) p))
        → b ≡ is_some p → nls ≡ labels ++ ((get_or all i d).0.now, b) ∷ [] → nks ≡ ks ++ option_to_list p
        → (T : List Tree) (F : List Signature) → RowsSoFar (case_type (slots_in T F ss)) case_labels case_trees (map labeled all) (i + 1) nls (map (part_tree T) nks)
    case_row p b nls nks e mark el ek T F =
        let x = get_or all i d in
        rows_more (case_type (slots_in T F ss)) case_labels case_trees (map labeled all) i labels (map (part_tree T) ks) (kept T F) (labeled x) (raw_at labeled all i d more)
        (x.0.now, option_map (part_tree T) p) nls (map (part_tree T) nks) (ap (λ o. o >>= λ t. Some (x.0.now, t)) (e T F))
        (el ∙ ap (λ c. labels ++ (x.0.now, c) ∷ []) (mark ∙ sym ((search std_rules))))
        (ap (map (part_tree T)) ek ∙ (map-append (part_tree T) ks (option_to_list p) ∙ ap (λ ts. map (part_tree T) ks ++ ts) ((search std_rules))))

    pub case_refused : (e : Refusal) → ((T : List Tree) (F : List Signature) → Refuses e (payload (value_type (slots_in T F ss)) (get_or all i d).1)) → (T : List Tree) (F : List Signature)
        → Refuses e (each (case_type (slots_in T F ss)) (map labeled all))
    case_refused e r T F =
        let x = get_or all i d in
        refused e (payload (value_type (slots_in T F ss)) x.1) (each (case_type (slots_in T F ss)) (map labeled all))
        (λ none. rows_absent (case_type (slots_in T F ss)) case_labels case_trees (map labeled all) i labels (map (part_tree T) ks) (kept T F) (labeled x) (raw_at labeled all i d more)
        (ap (λ o. o >>= λ t. Some (x.0.now, t)) none)) (r T F)

  pub case_rows : length all ≤ i → (T : List Tree) (F : List Signature) → RowsOf (case_type (slots_in T F ss)) case_labels case_trees (map labeled all) labels (map (part_tree T) ks)
  case_rows past T F = rows_all (case_type (slots_in T F ss)) case_labels case_trees (map labeled all) i labels (map (part_tree T) ks) (kept T F) (raw_end labeled all i past)

-- ---- where they are not found

module _ (ss : List Slot) (e : Refusal) (T : List Tree) (F : List Signature) where
  pub no_record : (fields : List (Labeled ComponentValType)) → Refuses e (each (field_type (slots_in T F ss)) fields) → Refuses e (definition (slots_in T F ss) (DefinedType.record_of fields))
  no_record fields = search std_rules

  pub no_variant : (cases : List (Labeled (Option ComponentValType))) → Refuses e (each (case_type (slots_in T F ss)) cases) → Refuses e (definition (slots_in T F ss) (DefinedType.variant_of cases))
  no_variant cases = search std_rules

  pub no_tuple : (vs : List ComponentValType) → Refuses e (each (value_type (slots_in T F ss)) vs) → Refuses e (definition (slots_in T F ss) (DefinedType.tuple_of vs))
  no_tuple vs = refused e (each (value_type (slots_in T F ss)) vs) (definition (slots_in T F ss) (DefinedType.tuple_of vs)) (λ none. ap (λ o. o >>= λ xs. provided (is_filled vs) (tuple_tree xs)) none)
