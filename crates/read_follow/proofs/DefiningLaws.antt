-- Types of values and of functions in tables that grow.
use Rattle.std.proofs.Common.{rules as std_rules, ◌≡◌, ◌⊎◌, refl, sym, ap, ◌∙◌, ℕ, ◌+◌, ◌<◌, ◌≤◌, arith, inl, inr, true, List, [], ◌∷◌, ◌++◌, map, length, Option, Some, option_map, IfSome, slice_get, unwrap_or, append_assoc, append-nil, length-append}
use Rattle.std.proofs.lemmas.{Bool.cases_lt, Option.slice_get_past, Option.slice_get_within as found_below}
use Rattle.std.specs.List.{AllByRecursion}
use Rattle.wit_model.specs.{Meaning.Signature, Text.Text, Tree.Form, Tree.Place, Tree.Tree, Tree.children, Types.no_tree}
use Rattle.comp_bytes.specs.Raw.{DefinedType}
use Rattle.comp_meaning.specs.Follow.{definition, is_key}
use Rattle.read_follow.specs.declared.{refusal.Refusal.Refusal, slots.Slot.Slot}
use Rattle.read_follow.specs.Defining.{AddsForms, ArePlacedBelow, Grows, IsDefined, IsPlacedBelow, IsUndefined}
use Rattle.read_follow.specs.{DefinitionKeys.HasNoKeys, DefinitionKeys.IsNodeOf, Found.Refuses, Slots.slots_in, Slots.AreInRange, Slots.AreNames}
use Rattle.read_follow.specs.Functions.{functions_in, param_tree, signature_in, AreApart, AreFunctionsIn, FunctionShape, IsFunctionIn}
use Rattle.read_follow.specs.Numbering.{bare_parts, scoped_trees}
use Rattle.plan_meaning.specs.PlanRules.{is_form}
use Rattle.plan_meaning.specs.Shapes.{Shape, code, form_of, named_shape, node_shape, part_tree, shape_tree, shape_trees, Adds, stays, comes, IsShape, a_node, IsTable}
use Rattle.plan_meaning.proofs.ShapeLaws.{form_back, name_tree, node_tree, one_number, part_behind, tree_at_number}
use Rattle.plan_meaning.proofs.ShapesLemmas.{no_sort as no_name}
use Rattle.read_follow.proofs.{NumberingLaws.adds_next, TableGrowth.part_kept, TableGrowth.trees_length, TableGrowth.trees_more}
use Rattle.base_lemmas.proofs.{Elements.all_at_too, Elements.all_end, Lists.get_back as mapped_back, Lists.last_or, Lists.within_there as slice_there}
use Rattle.read_follow.specs.declared.slots.Slot.TheVariants as slots

-- ---- lists that grow

pub same_list : {X : Type 0} (xs : List X) → Grows xs xs
same_list xs = record { more = []; is = sym (append-nil xs) }

pub one_longer : {X : Type 0} (xs : List X) (x : X) → Grows xs (xs ++ x ∷ [])
one_longer xs x = record { more = x ∷ []; is = refl }

pub adds_grow : (old new : List Shape) (s : Shape) → Adds old s new → Grows old new
adds_grow old new s stays = same_list old
adds_grow old new s (comes fresh) = one_longer old s

pub adds_one : (old new : List Shape) (s : Shape) → Adds old s new → length new ≤ length old + 1
adds_one old new s stays = omega arith
adds_one old new s (comes fresh) = let long : length (old ++ s ∷ []) ≡ length old + 1 = length-append old (s ∷ []) in omega (arith, long)

pub adds_placed : (m : ℕ) (old new : List Shape) (s : Shape) → Adds old s new → ArePlacedBelow m old → IsPlacedBelow m s → ArePlacedBelow m new
adds_placed m old new s stays placed one = placed
adds_placed m old new s (comes fresh) placed one = all_end (IsPlacedBelow m) old s placed one

-- where no name comes into a table, each stood there
adds_no_name : (old new : List Shape) (s : Shape) → Adds old s new → (s.sort ≡ 0 → ⊥) → (k q : ℕ) (name : Text) → slice_get new k ≡ Some (named_shape q name) → k < length old
adds_no_name old new s stays formed k q name e = found_below old k (named_shape q name) e
adds_no_name old new s (comes fresh) formed k q name e = search (std_rules, last_or)

-- either nothing came, or the shape is the last
pub adds_cases : (old new : List Shape) (s : Shape) → Adds old s new → (new ≡ old) ⊎ (new ≡ old ++ s ∷ [])
adds_cases old new s stays = inl refl
adds_cases old new s (comes fresh) = inr refl

-- where nothing comes into it
pub no_shapes : (ss : List Shape) → AddsForms ss ss
no_shapes ss = record { names = λ n q name e. found_below ss n (named_shape q name) e; formed = λ n form parts e. inl (found_below ss n (node_shape form parts) e) }

-- a shape is of one form
form_same : (f g : Form) (ks js : List ℕ) → node_shape f ks ≡ node_shape g js → f ≡ g
form_same f g ks js e = sym (form_back f) ∙ (ap (λ (s : Shape). form_of (code s.sort s.number s.labels)) e ∙ form_back g)

-- each form that comes into a table is one that may
adds_formed : (old new : List Shape) (s : Shape) → Adds old s new → (f : Form) (ks : List ℕ) → s ≡ node_shape f ks → is_form f ks ≡ true
    → (n : ℕ) (form : Form) (parts : List ℕ) → slice_get new n ≡ Some (node_shape form parts) → (n < length old) ⊎ (is_form form parts ≡ true)
adds_formed old new s stays f ks is formed n form parts e = inl (found_below old n (node_shape form parts) e)
adds_formed old new s (comes fresh) f ks is formed n form parts e = search (std_rules, last_or old s n (node_shape form parts) e)

-- where a name comes into it
pub adds_name : (old new : List Shape) (p : ℕ) (name : Text) → Adds old (named_shape p name) new
    → (n : ℕ) (form : Form) (parts : List ℕ) → slice_get new n ≡ Some (node_shape form parts) → (n < length old) ⊎ (is_form form parts ≡ true)
adds_name old new p name adds n form parts e = search (std_rules, adds_cases, found_below, last_or, no_name)

pub longer : {X : Type 0} (old new : List X) → Grows old new → length old ≤ length new
longer old new g = let long : length new ≡ length old + length g.more = ap length g.is ∙ length-append old g.more in omega (arith, long)

-- ---- trees of a table that grows

trees_behind : (place : ℕ → Place) (ss us : List Shape) → (U : List Tree) × (shape_trees place (ss ++ us) ≡ shape_trees place ss ++ U)
trees_behind place ss [] = ([], ap (shape_trees place) (append-nil ss) ∙ sym (append-nil (shape_trees place ss)))
trees_behind place ss (u ∷ us) = search (std_rules, append_assoc, trees_more, trees_behind place (ss ++ u ∷ []) us)

-- what is the same for each that holds
pub map_so : {A B : Type 0} (P : A → Type 0) (f g : A → B) → ((x : A) → P x → f x ≡ g x) → (xs : List A) → AllByRecursion P xs → map f xs ≡ map g xs
map_so P f g same [] h = refl
map_so P f g same (x ∷ xs) h = λ i. same x h.0 i ∷ map_so P f g same xs h.1 i

module _ (place : ℕ → Place) (ss new : List Shape) (grown : Grows ss new) where
  -- a part stands for what it did
  pub part_grown : (k : ℕ) → k < 14 + length ss → part_tree (shape_trees place new) k ≡ part_tree (shape_trees place ss) k
  part_grown k h =
      let rest = trees_behind place ss grown.more in
      ap (λ us. part_tree (shape_trees place us) k) grown.is ∙ (ap (λ U. part_tree U k) rest.1 ∙ part_kept (shape_trees place ss) rest.0 k (omega (arith, h, trees_length place ss)))

  pub parts_grown : (ks : List ℕ) → AllByRecursion (λ k. k < 14 + length ss) ks → map (part_tree (shape_trees place new)) ks ≡ map (part_tree (shape_trees place ss)) ks
  parts_grown ks h = map_so _ _ _ part_grown ks h

  -- so it is with their scopes
  pub scoped_grown : {S : Type 0} (ps : List (S × ℕ)) → AllByRecursion (λ k. k < 14 + length ss) (bare_parts ps) → scoped_trees (shape_trees place new) ps ≡ scoped_trees (shape_trees place ss) ps
  scoped_grown [] h = refl
  scoped_grown (p ∷ ps) h = λ i. (p.0, part_grown p.1 h.0 i) ∷ scoped_grown ps h.1 i

  outcome_grown : (o : Option ℕ) → IfSome o (λ k. k < 14 + length ss) → option_map (part_tree (shape_trees place new)) o ≡ option_map (part_tree (shape_trees place ss)) o
  outcome_grown x h = search (std_rules, part_grown)

  signature_grown : (s : FunctionShape) → IsFunctionIn (length ss) s → signature_in (shape_trees place new) s ≡ signature_in (shape_trees place ss) s
  unfolding signature_in
  signature_grown s h = λ i. record { is_async = s.is_async; params = map_so _ _ _ (λ (q : Text × ℕ) b j. (q.0, part_grown q.1 b j)) s.params h.params i; result = outcome_grown s.outcome h.outcome i }

  -- the types of functions are what they were
  pub functions_grown : (fs : List FunctionShape) → AreFunctionsIn (length ss) fs → functions_in (shape_trees place new) fs ≡ functions_in (shape_trees place ss) fs
  functions_grown fs h = map_so _ _ _ signature_grown fs h

-- ---- keys of maps

-- no type of a table may be the key of a map
pub no_keys : (place : ℕ → Place) (ss : List Shape) → IsTable ss → HasNoKeys (shape_trees place ss)
no_keys place ss table n = ap is_key (part_behind T n) ∙ elim (cases_lt n (length ss)) [
  | inl inside ↦
      let found = slice_there ss n inside in
      ap (λ o. is_key (unwrap_or o no_tree)) (tree_at_number place ss table n found.0 found.1) ∙ (search (std_rules, name_tree, node_tree))
  | inr past ↦ ap (λ o. is_key (unwrap_or o no_tree)) (slice_get_past T n (omega (arith, past, trees_length place ss)))
]
  where
    T : List Tree
    T = shape_trees place ss

-- ---- definitions

-- a primitive
pub part_defined : (ss : List Shape) (old new : List Slot) (d : DefinedType) (k : ℕ) → k < 14 → new ≡ old ++ slots.Value k ∷ []
    → ((T : List Tree) (F : List Signature) → definition (slots_in T F old) d ≡ Some (part_tree T k)) → IsDefined ss old d ss new
part_defined ss old new d k small is found = record {
  part = k;
  next = is;
  range = omega (arith, small);
  grown = same_list ss;
  count = omega arith;
  counted = inl (omega (arith, small), refl);
  placed = λ m placed. placed;
  forms = no_shapes ss;
  found = λ place F named. found (shape_trees place ss) F;
}

-- a form, by its number in the table
pub key_defined : (ss more : List Shape) (old new : List Slot) (d : DefinedType) (s : Shape) (n : ℕ) → IsTable ss → IsTable more → AreInRange (length ss) old → IsNodeOf s old d
    → slice_get more n ≡ Some s → Adds ss s more → new ≡ old ++ slots.Value (14 + n) ∷ [] → IsDefined ss old d more new
key_defined ss more old new d s n table wider ranges node at adds is =
    let grown = adds_grow ss more s adds in
    record {
      part = 14 + n;
      next = is;
      range = omega (arith, found_below more n s at);
      grown = grown;
      count = adds_one ss more s adds;
      counted = adds_next ss more s n adds at;
      placed = λ m placed. adds_placed m ss more s adds placed (λ none. absurd (no_name node.form (sym (ap (λ (x : Shape). x.sort) node.shape) ∙ none)));
      forms = record {
        names = adds_no_name ss more s adds (λ none. absurd (no_name node.form (sym (ap (λ (x : Shape). x.sort) node.shape) ∙ none)));
        formed = adds_formed ss more s adds node.form node.parts node.shape node.formed;
      };
      found = λ place F named.
          let U = shape_trees place more in
          node.found (shape_trees place ss) F named (no_keys place ss table) ∙ ap Some
          (sym (part_behind U n ∙ (ap (λ o. unwrap_or o no_tree) (tree_at_number place more wider n s at)
          ∙ (ap (shape_tree place U) node.shape ∙ (node_tree place U node.form node.parts
          ∙ ap (λ ts. Tree.node node.form (children ts)) (parts_grown place ss more grown node.parts (node.ranges (length ss) ranges)))))));
    }

-- a key of a table is of a shape over the types before it
pub key_shaped : (ss : List Shape) (old : List Slot) (d : DefinedType) (s : Shape) → AreInRange (length ss) old → IsNodeOf s old d → IsShape (length ss) s
key_shaped ss old d s ranges node = a_node node.form node.parts node.shape (node.ranges (length ss) ranges)

-- where the definition stands for nothing
pub undefined : (ss : List Shape) (old : List Slot) (d : DefinedType) (e : Refusal) → IsTable ss
    → ((T : List Tree) (F : List Signature) → AreNames T old → HasNoKeys T → Refuses e (definition (slots_in T F old) d)) → IsUndefined ss old d e
undefined ss old d e table r place F named = r (shape_trees place ss) F named (no_keys place ss table)

-- ---- equal signatures

pub all_at : {A : Type 0} (P : A → Type 0) (xs : List A) (n : ℕ) (x : A) → AllByRecursion P xs → slice_get xs n ≡ Some x → P x
all_at P xs n x all e = all_at_too P xs all n x e

module _ (place : ℕ → Place) (distinct : (p q : ℕ) → place p ≡ place q → p ≡ q) (ss : List Shape) (table : IsTable ss) where
  abbrev trees : List Tree
  trees = shape_trees place ss

  one_params : (ps qs : List (Text × ℕ)) → AllByRecursion (λ p. p.1 < 14 + length ss) ps → AllByRecursion (λ p. p.1 < 14 + length ss) qs
      → map (param_tree trees) ps ≡ map (param_tree trees) qs → ps ≡ qs
  one_params [] [] hp hq e = refl
  one_params [] (q ∷ qs) hp hq e = absurd cc
  one_params (p ∷ ps) [] hp hq e = absurd cc
  one_params (p ∷ ps) (q ∷ qs) hp hq e =
      let pair : param_tree trees p ≡ param_tree trees q = cc in
      λ i. ((ap (λ (x : Text × Tree). x.0) pair) i, (one_number place distinct ss table p.1 q.1 hp.0 hq.0 (ap (λ (x : Text × Tree). x.1) pair)) i) ∷ (one_params ps qs hp.1 hq.1 cc) i

  one_outcome : (o u : Option ℕ) → IfSome o (λ k. k < 14 + length ss) → IfSome u (λ k. k < 14 + length ss) → option_map (part_tree trees) o ≡ option_map (part_tree trees) u → o ≡ u
  one_outcome x y ho hu e = search (std_rules, one_number)

  one_signature : (s t : FunctionShape) → IsFunctionIn (length ss) s → IsFunctionIn (length ss) t → signature_in trees s ≡ signature_in trees t → s ≡ t
  unfolding signature_in
  one_signature s t hs ht e =
      let params = one_params s.params t.params hs.params ht.params (ap (λ (f : Signature). f.params) e) in
      let outcome = one_outcome s.outcome t.outcome hs.outcome ht.outcome (ap (λ (f : Signature). f.result) e) in
      λ i. record { is_async = (ap (λ (f : Signature). f.is_async) e) i; params = params i; outcome = outcome i }

  pub one_function : (fs : List FunctionShape) → AreFunctionsIn (length ss) fs → AreApart fs → (a b : ℕ) (f : Signature) → slice_get (functions_in trees fs) a ≡ Some f
      → slice_get (functions_in trees fs) b ≡ Some f → a ≡ b
  one_function fs ranges apart a b f ea eb = search (std_rules, mapped_back, one_signature, all_at)
