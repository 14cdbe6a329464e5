-- In a table of shapes each number has a tree, and no tree has two numbers.
use Rattle.std.proofs.Common.{rules as std_rules, ◌≡◌, ◌⊎◌, inl, inr, refl, sym, ap, ◌∙◌, ℕ, zero, suc, ◌+◌, ◌-◌, ◌<◌, arith, Bool, List, [], ◌∷◌, ◌++◌, map, take, length, Some, slice_get, unwrap_or, option_map}
use Rattle.std.proofs.lemmas.{Bool.cases_lt as below_or, Option.slice_get-map as get_of_map}
use Rattle.std.specs.List.{AllByRecursion, Contains}
use Rattle.wit_model.specs.{Text.Text, Types.grow, Types.no_tree, Tree.Primitive, Tree.Place, Tree.Form, Tree.Tree, Tree.Trees, Tree.children}
use Rattle.wit_model.proofs.Tables.{grow_at}
use Rattle.comp_meaning.specs.Same.{primitive_number}
use Rattle.plan_meaning.specs.Shapes.{Shape, form_code, form_of, marked, node_shape, named_shape, primitives, part_tree, shape_tree, shape_trees, IsShape, a_name, a_node, IsTable, OneNumber}
use Rattle.plan_meaning.specs.NumberedViews.{itself, inside, AreApart}
use Rattle.base_lemmas.proofs.{Elements.contains-later, Elements.get-contains, Lists.slice_front, Lists.slice_take, Lists.within_there as slice_there}
use Rattle.plan_meaning.proofs.Lists.{each_so}

-- ---- forms by their codes

pub first_marked : (b : Bool) (ls : List Text) → map (λ l. l.0) (marked b ls) ≡ ls
first_marked b [] = refl
first_marked b (l ∷ ls) = ap (λ rest. l ∷ rest) (first_marked b ls)

pub form_back : (f : Form) → form_of (form_code f) ≡ f
unfolding form_of
form_back x = search (std_rules, first_marked)

by_form : (place : ℕ → Place) (T : List Tree) (f : Form) (ks : List ℕ) → shape_tree place T (node_shape f ks) ≡ Tree.node (form_of (form_code f)) (children (map (part_tree T) ks))
unfolding shape_tree
by_form place x y ks = search std_rules

-- the tree of the shape of a form
pub node_tree : (place : ℕ → Place) (T : List Tree) (f : Form) (ks : List ℕ) → shape_tree place T (node_shape f ks) ≡ Tree.node f (children (map (part_tree T) ks))
node_tree place T f ks = by_form place T f ks ∙ ap (λ g. Tree.node g (children (map (part_tree T) ks))) (form_back f)

pub name_tree : (place : ℕ → Place) (T : List Tree) (p : ℕ) (name : Text) → shape_tree place T (named_shape p name) ≡ Tree.named (place p) name
unfolding shape_tree
name_tree place T p name = refl

-- ---- parts

slice_behind : {X : Type 0} (xs ys : List X) (n : ℕ) → slice_get (xs ++ ys) (length xs + n) ≡ slice_get ys n
slice_behind [] ys n = ap (slice_get ys) (omega arith)
slice_behind (x ∷ xs) ys n = let one : length (x ∷ xs) + n ≡ suc (length xs + n) = omega arith in ap (slice_get (x ∷ (xs ++ ys))) one ∙ slice_behind xs ys n

pub part_behind : (T : List Tree) (n : ℕ) → part_tree T (14 + n) ≡ unwrap_or (slice_get T n) no_tree
unfolding part_tree
part_behind T n = ap (λ o. unwrap_or o no_tree) (slice_behind (map Tree.primitive primitives) T n)

pub part_front : (T : List Tree) (k : ℕ) → k < 14 → part_tree T k ≡ unwrap_or (slice_get (map Tree.primitive primitives) k) no_tree
unfolding part_tree
part_front T k h = ap (λ o. unwrap_or o no_tree) (slice_front (map Tree.primitive primitives) T k h)

-- a primitive, or a number of the table
pub split_part : (k : ℕ) → (k < 14) ⊎ ((n : ℕ) × (k ≡ 14 + n))
split_part k = elim (below_or k 14) [ inl h ↦ inl h | inr h ↦ inr (k - 14, omega (arith, h)) ]

-- ---- the number of a primitive

abbrev number_in : Tree → ℕ
number_in (Tree.primitive p) = primitive_number p
number_in _ = 99

abbrev AreNumbered : ℕ → List Primitive → Type 0
AreNumbered o [] = Unit {0}
AreNumbered o (p ∷ ps) = (primitive_number p ≡ o) × AreNumbered (o + 1) ps

numbered_at : (o : ℕ) (ps : List Primitive) → AreNumbered o ps → (k : ℕ) → k < length ps → number_in (unwrap_or (slice_get (map Tree.primitive ps) k) no_tree) ≡ o + k
numbered_at o [] n k h = absurd (omega (arith, h))
numbered_at o (p ∷ ps) n zero h = n.0 ∙ omega arith
numbered_at o (p ∷ ps) n (suc k) h = numbered_at (o + 1) ps n.1 k (omega (arith, h)) ∙ omega arith

primitive_at : (T : List Tree) (k : ℕ) → k < 14 → number_in (part_tree T k) ≡ k
primitive_at T k h = search (std_rules, part_front, numbered_at)

-- ---- the tree of a number

module _ (T : List Tree) (n : ℕ) where
  part_same : (k : ℕ) → k < 14 + n → part_tree (take n T) k ≡ part_tree T k
  part_same k h = search (std_rules, split_part k, part_front, part_behind, slice_take)

  parts_same : (ks : List ℕ) → AllByRecursion (λ k. k < 14 + n) ks → map (part_tree (take n T)) ks ≡ map (part_tree T) ks
  parts_same [] h = refl
  parts_same (k ∷ ks) h = λ i. part_same k h.0 i ∷ parts_same ks h.1 i

  shape_same : (place : ℕ → Place) (s : Shape) → IsShape n s → shape_tree place (take n T) s ≡ shape_tree place T s
  shape_same place s y = search (std_rules, name_tree, node_tree, parts_same)

pub tree_at_number : (place : ℕ → Place) (ss : List Shape) → IsTable ss → (n : ℕ) (s : Shape) → slice_get ss n ≡ Some s
    → slice_get (shape_trees place ss) n ≡ Some (shape_tree place (shape_trees place ss) s)
unfolding shape_trees
tree_at_number place ss table n s e = search (std_rules, grow_at (shape_tree place) ss n s e, shape_same (grow (shape_tree place) [] ss) n place s (table.each n s e))

-- ---- no tree has two numbers

module _ (place : ℕ → Place) (ss : List Shape) (table : IsTable ss) where
  abbrev trees : List Tree
  trees = shape_trees place ss

  abbrev InRange : ℕ → Type 0
  InRange k = k < 14 + length ss

  -- what a part is, and what it stands for
  pub data PartView (k : ℕ) (t : Tree) : Type 0 where
    is_primitive : (p : Primitive) → k < 14 → t ≡ Tree.primitive p → primitive_number p ≡ k → PartView k t
    is_name : (n : ℕ) (p : ℕ) (x : Text) → k ≡ 14 + n → slice_get ss n ≡ Some (named_shape p x) → t ≡ Tree.named (place p) x → PartView k t
    is_node : (n : ℕ) (f : Form) (ks : List ℕ) → k ≡ 14 + n → slice_get ss n ≡ Some (node_shape f ks) → t ≡ Tree.node f (children (map (part_tree trees) ks)) → AllByRecursion InRange ks → PartView k t

  shape_view : (k n : ℕ) (s : Shape) → k ≡ 14 + n → n < length ss → slice_get ss n ≡ Some s → IsShape n s → part_tree trees k ≡ shape_tree place trees s → PartView k (part_tree trees k)
  shape_view k n s is h e (a_name p x same) t = is_name n p x is (e ∙ ap Some same) (t ∙ (ap (shape_tree place trees) same ∙ name_tree place trees p x))
  shape_view k n s is h e (a_node f ks same below) t = is_node n f ks is (e ∙ ap Some same) (t ∙ (ap (shape_tree place trees) same ∙ node_tree place trees f ks))
      (each_so (λ k. k < 14 + n) InRange (λ k low. omega (arith, low, h)) ks below)

  pub viewed : (k : ℕ) → InRange k → PartView k (part_tree trees k)
  viewed k h = elim (split_part k) [
    | inl small ↦
        let found = slice_there primitives k small in
        let stands : part_tree trees k ≡ Tree.primitive found.0 = part_front trees k small ∙ ap (λ o. unwrap_or o no_tree)
        (get_of_map Tree.primitive primitives k ∙ ap (option_map Tree.primitive) found.1) in
        is_primitive found.0 small stands (sym (ap number_in stands) ∙ primitive_at trees k small)
    | inr m ↦
        let below : m.0 < length ss = omega (arith, h, m.1) in
        let found = slice_there ss m.0 below in
        shape_view k m.0 found.0 m.1 below found.1 (table.each m.0 found.0 found.1)
        (ap (part_tree trees) m.1 ∙ (part_behind trees m.0 ∙ ap (λ o. unwrap_or o no_tree) (tree_at_number place ss table m.0 found.0 found.1)))
  ]

  same_place_number : (a b n m : ℕ) (s : Shape) → a ≡ 14 + n → b ≡ 14 + m → slice_get ss n ≡ Some s → slice_get ss m ≡ Some s → a ≡ b
  same_place_number a b n m s ea eb fn fm = ea ∙ (ap (λ i. 14 + i) (table.apart n m s fn fm) ∙ sym eb)

  -- the parts of two parts
  abbrev SameParts : ℕ → ℕ → Tree → Tree → Type 0
  SameParts a b t u = (ks ls : List ℕ) → AllByRecursion InRange ks → AllByRecursion InRange ls → ((k l : ℕ) → Contains ks k → Contains ls l → AreApart place ss k l)
      → (f g : Form) → t ≡ Tree.node f (children (map (part_tree trees) ks)) → u ≡ Tree.node g (children (map (part_tree trees) ls)) → ks ≡ ls

  both_views : (a b : ℕ) (t u : Tree) → AreApart place ss a b → t ≡ u → PartView a t → PartView b u → SameParts a b t u → a ≡ b
  both_views a b t u apart e (is_primitive p ha ta na) (is_primitive q hb tb nb) rec = sym na ∙ (ap number_in (sym ta ∙ (e ∙ tb)) ∙ nb)
  both_views a b t u apart e (is_primitive p ha ta na) (is_name m q y eb sb tb) rec = search std_rules
  both_views a b t u apart e (is_primitive p ha ta na) (is_node m g ls eb sb tb below) rec = search std_rules
  both_views a b t u apart e (is_name n p x ea sa ta) (is_primitive q hb tb nb) rec = search std_rules
  both_views a b t u apart e (is_node n f ks ea sa ta below) (is_primitive q hb tb nb) rec = search std_rules
  both_views a b t u apart e (is_name n p x ea sa ta) (is_name m q y eb sb tb) rec =
      let named : Tree.named (place p) x ≡ Tree.named (place q) y = sym ta ∙ (e ∙ tb) in
      let places : place p ≡ place q = cc in
      let names : x ≡ y = cc in
      let numbers : p ≡ q = apart p q (itself a n p x ea sa) (itself b m q y eb sb) places in
      same_place_number a b n m (named_shape q y) ea eb (sa ∙ (λ i. Some (named_shape (numbers i) (names i)))) sb
  both_views a b t u apart e (is_name n p x ea sa ta) (is_node m g ls eb sb tb below) rec = search std_rules
  both_views a b t u apart e (is_node n f ks ea sa ta below) (is_name m q y eb sb tb) rec = search std_rules
  both_views a b t u apart e (is_node n f ks ea sa ta ra) (is_node m g ls eb sb tb rb) rec =
      let nodes : Tree.node f (children (map (part_tree trees) ks)) ≡ Tree.node g (children (map (part_tree trees) ls)) = sym ta ∙ (e ∙ tb) in
      let forms : f ≡ g = cc in
      let parts : ks ≡ ls = rec ks ls ra rb (λ k l ck cl p q hp hq. apart p q (inside a n k p f ks ea sa ck hp) (inside b m l q g ls eb sb cl hq)) f g ta tb in
      same_place_number a b n m (node_shape g ls) ea eb (sa ∙ (λ i. Some (node_shape (forms i) (parts i)))) sb

  mutual
    same_part : (x : Tree) (a b : ℕ) → InRange a → InRange b → AreApart place ss a b → part_tree trees a ≡ x → part_tree trees b ≡ x → a ≡ b
    same_part (Tree.primitive p) a b ha hb apart ea eb = search (std_rules, both_views, viewed a ha, viewed b hb)
    same_part (Tree.named q y) a b ha hb apart ea eb = both_views a b (part_tree trees a) (part_tree trees b) apart (ea ∙ sym eb) (viewed a ha) (viewed b hb)
        (λ ks ls ra rb near f g ta tb. let wrong : Tree.named q y ≡ Tree.node f (children (map (part_tree trees) ks)) = sym ea ∙ ta in absurd cc)
    same_part (Tree.node h ts) a b ha hb apart ea eb = both_views a b (part_tree trees a) (part_tree trees b) apart (ea ∙ sym eb) (viewed a ha) (viewed b hb) (λ ks ls ra rb near f g ta tb.
        let one : Tree.node h ts ≡ Tree.node f (children (map (part_tree trees) ks)) = sym ea ∙ ta in
        let two : Tree.node h ts ≡ Tree.node g (children (map (part_tree trees) ls)) = sym eb ∙ tb in
        let first : children (map (part_tree trees) ks) ≡ ts = cc in
        let second : children (map (part_tree trees) ls) ≡ ts = cc in
        same_parts ts ks ls ra rb near first second)

    same_parts : (xs : Trees) (ks ls : List ℕ) → AllByRecursion InRange ks → AllByRecursion InRange ls → ((k l : ℕ) → Contains ks k → Contains ls l → AreApart place ss k l)
        → children (map (part_tree trees) ks) ≡ xs → children (map (part_tree trees) ls) ≡ xs → ks ≡ ls
    same_parts xs [] [] ra rb near ea eb = refl
    same_parts (Trees.child x xs) (k ∷ ks) (l ∷ ls) ra rb near ea eb =
        let ka : part_tree trees k ≡ x = cc in
        let la : part_tree trees l ≡ x = cc in
        let kr : children (map (part_tree trees) ks) ≡ xs = cc in
        let lr : children (map (part_tree trees) ls) ≡ xs = cc in
        let heads : k ≡ l = same_part x k l ra.0 rb.0 (near k l (get-contains (k ∷ ks) 0 k refl) (get-contains (l ∷ ls) 0 l refl)) ka la in
        let rests : ks ≡ ls = same_parts xs ks ls ra.1 rb.1 (λ m n cm cn. near m n (contains-later k ks m cm) (contains-later l ls n cn)) kr lr in
        λ i. heads i ∷ rests i
    same_parts _ _ _ ra rb near ea eb = absurd cc

  -- equal trees have one number, where no two names in them are of one place under two numbers
  pub one_number_apart : (a b : ℕ) → InRange a → InRange b → AreApart place ss a b → part_tree trees a ≡ part_tree trees b → a ≡ b
  one_number_apart a b ha hb apart e = same_part (part_tree trees b) a b ha hb apart e refl

pub one_number : OneNumber
one_number place apart ss table a b ha hb e = one_number_apart place ss table a b ha hb (λ p q hp hq. apart p q) e
