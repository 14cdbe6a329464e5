-- The tests of Same say whether two meanings are equal.
use Rattle.std.proofs.Common.{rules as std_rules, ◌≡◌, refl, sym, ap, subst, ◌∙◌, ℕ, Bool, true, ◌&&◌, eqb, List, [], ◌∷◌, map, Option, Some}
use Rattle.std.proofs.lemmas.{Bool.and_from, Bool.Decides.Decides-and, Bool.Decides.Decides-eqb, Slice.Eq.bytes_eq-Decides, Slice.Eq.slice_eq-Decides}
use Rattle.std.specs.{Prelude.slice_get, Prelude.unwrap_or, Bool.Decides, Cmp.Lexicographic.pointwise, Cmp.Derive.Mapped.pointwise-map}
use Rattle.wit_model.specs.{Text.Text, Text.text_eq, Tree.Primitive, Tree.Form, Tree.Tree, Tree.Trees, Tree.TypeDeclaration}
use Rattle.comp_meaning.specs.Same.{same_option, same_bool, primitive_number, same_place, same_form, same_tree, same_trees, same_declaration, same_type, same_signature, same_function, same_identity}
use Rattle.comp_meaning.specs.{Reads.same_shown, SameLaws.DecidesEquality, SameLaws.SameTypesAreEqual, SameLaws.named_meaning}
use Rattle.base_lemmas.proofs.Bools.{left_of as first_true, right_of as second_true}

-- ---- parts

texts_decide : DecidesEquality text_eq
texts_decide a b = bytes_eq-Decides a b

bools_decide : DecidesEquality same_bool
bools_decide true true = (λ e. refl, λ e. refl)
bools_decide _ _ = search std_rules

options_decide : {A : Type 0} (same : A → A → Bool) → DecidesEquality same → (a b : Option A) → Decides (same_option same a b) (a ≡ b)
options_decide same d (Some x) (Some y) = (λ e. ap Some ((d x y).0 e), λ e. (d x y).1 (let same_value : x ≡ y = cc in same_value))
options_decide same d _ _ = search std_rules

pairs_decide : {A B : Type 0} (same : A → A → Bool) (other : B → B → Bool) → DecidesEquality same → DecidesEquality other → (x y : A × B) → Decides (same x.0 y.0 && other x.1 y.1) (x ≡ y)
pairs_decide same other d e x y = search (std_rules, Decides-and)

lists_decide : {A : Type 0} (same : A → A → Bool) → DecidesEquality same → (xs ys : List A) → Decides (pointwise same xs ys) (xs ≡ ys)
lists_decide same d xs ys = slice_eq-Decides d xs ys (pointwise same xs ys) refl

-- ---- trees

abbrev primitive_of : ℕ → Primitive
primitive_of n = unwrap_or (slice_get (Primitive.bool ∷ Primitive.u8 ∷ Primitive.u16 ∷ Primitive.u32 ∷ Primitive.u64 ∷ Primitive.s8 ∷ Primitive.s16 ∷ Primitive.s32 ∷ Primitive.s64
    ∷ Primitive.f32 ∷ Primitive.f64 ∷ Primitive.char ∷ Primitive.string ∷ []) n) Primitive.error_context

numbered : (p : Primitive) → primitive_of (primitive_number p) ≡ p
numbered Primitive.bool = refl
numbered _ = refl

primitives_decide : (p q : Primitive) → Decides (eqb (primitive_number p) (primitive_number q)) (p ≡ q)
primitives_decide p q = search (std_rules, numbered, Decides-eqb)

pub places_decide : DecidesEquality same_place
places_decide p q = search std_rules

cases_decide : (xs ys : List (Text × Bool)) → Decides (pointwise (λ x y. text_eq x.0 y.0 && same_bool x.1 y.1) xs ys) (xs ≡ ys)
cases_decide = lists_decide (λ x y. text_eq x.0 y.0 && same_bool x.1 y.1) (pairs_decide text_eq same_bool texts_decide bools_decide)

labels_decide : (xs ys : List Text) → Decides (pointwise text_eq xs ys) (xs ≡ ys)
labels_decide = lists_decide text_eq texts_decide

form_is : (f g : Form) → same_form f g ≡ true → f ≡ g
form_is (Form.record_of xs) (Form.record_of ys) e = ap Form.record_of ((labels_decide xs ys).0 e)
form_is (Form.variant_of xs) (Form.variant_of ys) e = ap Form.variant_of ((cases_decide xs ys).0 e)
form_is (Form.fixed_list_of n) (Form.fixed_list_of m) e = ap Form.fixed_list_of ((Decides-eqb n m).0 e)
form_is (Form.flags_of xs) (Form.flags_of ys) e = ap Form.flags_of ((labels_decide xs ys).0 e)
form_is (Form.enum_of xs) (Form.enum_of ys) e = ap Form.enum_of ((labels_decide xs ys).0 e)
form_is (Form.result_of a b) (Form.result_of c d) e = search (std_rules, Decides-and, bools_decide)
form_is (Form.future_of a) (Form.future_of b) e = ap Form.future_of ((bools_decide a b).0 e)
form_is (Form.stream_of a) (Form.stream_of b) e = ap Form.stream_of ((bools_decide a b).0 e)
form_is _ _ e = search std_rules

pub form_itself : (f : Form) → same_form f f ≡ true
form_itself (Form.record_of xs) = (labels_decide xs xs).1 refl
form_itself (Form.variant_of xs) = (cases_decide xs xs).1 refl
form_itself (Form.fixed_list_of n) = (Decides-eqb n n).1 refl
form_itself (Form.flags_of xs) = (labels_decide xs xs).1 refl
form_itself (Form.enum_of xs) = (labels_decide xs xs).1 refl
form_itself (Form.result_of a b) = (Decides-and (same_bool a a) (same_bool b b) (bools_decide a a) (bools_decide b b)).1 (refl, refl)
form_itself (Form.future_of a) = (bools_decide a a).1 refl
form_itself (Form.stream_of a) = (bools_decide a a).1 refl
form_itself _ = refl

mutual
  tree_is : (t u : Tree) → same_tree t u ≡ true → t ≡ u
  tree_is (Tree.primitive p) (Tree.primitive q) e = ap Tree.primitive ((primitives_decide p q).0 e)
  tree_is (Tree.named p x) (Tree.named q y) e =
      let both = (Decides-and (same_place p q) (text_eq x y) (places_decide p q) (texts_decide x y)).0 e in
      ap (λ place. Tree.named place x) both.0 ∙ ap (Tree.named q) both.1
  tree_is (Tree.node f ts) (Tree.node g us) e =
      ap (λ x. Tree.node x ts) (form_is f g (first_true (same_form f g) (same_trees ts us) e)) ∙ ap (Tree.node g) (trees_are ts us (second_true (same_form f g) (same_trees ts us) e))
  tree_is _ _ e = absurd cc

  trees_are : (ts us : Trees) → same_trees ts us ≡ true → ts ≡ us
  trees_are (Trees.child t ts) (Trees.child u us) e =
      ap (λ x. Trees.child x ts) (tree_is t u (first_true (same_tree t u) (same_trees ts us) e)) ∙ ap (Trees.child u) (trees_are ts us (second_true (same_tree t u) (same_trees ts us) e))
  trees_are _ _ e = search std_rules

mutual
  pub tree_itself : (t : Tree) → same_tree t t ≡ true
  tree_itself (Tree.primitive p) = (primitives_decide p p).1 refl
  tree_itself (Tree.named p x) = (Decides-and (same_place p p) (text_eq x x) (places_decide p p) (texts_decide x x)).1 (refl, refl)
  tree_itself (Tree.node f ts) = and_from (same_form f f) (same_trees ts ts) (form_itself f) (trees_themselves ts)

  pub trees_themselves : (ts : Trees) → same_trees ts ts ≡ true
  trees_themselves Trees.no_children = refl
  trees_themselves (Trees.child t ts) = and_from (same_tree t t) (same_trees ts ts) (tree_itself t) (trees_themselves ts)

pub trees_decide : DecidesEquality same_tree
trees_decide t u = (tree_is t u, λ e. subst (λ (x : Tree). same_tree t x ≡ true) e (tree_itself t))

-- ---- declarations, types and functions

pub declarations_decide : DecidesEquality same_declaration
declarations_decide (TypeDeclaration.type_ t) (TypeDeclaration.type_ u) =
    (λ e. ap TypeDeclaration.type_ ((trees_decide t u).0 e), λ e. (trees_decide t u).1 (let same_tree_there : t ≡ u = cc in same_tree_there))
declarations_decide _ _ = search std_rules

pub types_decide : DecidesEquality same_type
types_decide a b = search (std_rules, Decides-and, declarations_decide, options_decide, texts_decide)

pub signatures_decide : DecidesEquality same_signature
signatures_decide a b =
    let params = pointwise (λ x y. text_eq x.0 y.0 && same_tree x.1 y.1) a.params b.params in
    let result = same_option same_tree a.result b.result in
    let front = Decides-and (same_bool a.is_async b.is_async) params (bools_decide a.is_async b.is_async)
    ((lists_decide (λ x y. text_eq x.0 y.0 && same_tree x.1 y.1) (pairs_decide text_eq same_tree texts_decide trees_decide)) a.params b.params) in
    let all = Decides-and (same_bool a.is_async b.is_async && params) result front (options_decide same_tree trees_decide a.result b.result) in
    (λ h. let parts = all.0 h in λ i. record { is_async = parts.0.0 i; params = parts.0.1 i; result = parts.1 i }, λ e. all.1 ((ap (λ x. x.is_async) e, ap (λ x. x.params) e), ap (λ x. x.result) e))

pub functions_decide : DecidesEquality same_function
functions_decide a b =
    let both = Decides-and (same_signature a.signature b.signature) (same_option text_eq a.external_id b.external_id) (signatures_decide a.signature b.signature)
    (options_decide text_eq texts_decide a.external_id b.external_id) in
    (λ h. let parts = both.0 h in λ i. record { signature = parts.0 i; external_id = parts.1 i }, λ e. both.1 (ap (λ x. x.signature) e, ap (λ x. x.external_id) e))

pub identities_decide : DecidesEquality same_identity
identities_decide a b = search (std_rules, Decides-and, texts_decide, options_decide)

-- ---- the types that views show

pub shown_types_decide : SameTypesAreEqual
shown_types_decide ts us =
    let d = lists_decide (λ x y. text_eq x.0 y.0 && same_type x.1 y.1) (pairs_decide text_eq same_type texts_decide types_decide) (map named_meaning ts) (map named_meaning us) in
    let mapped : pointwise (λ x y. text_eq x.0 y.0 && same_type x.1 y.1) (map named_meaning ts) (map named_meaning us) ≡ pointwise same_shown ts us =
    pointwise-map named_meaning (λ x y. text_eq x.0 y.0 && same_type x.1 y.1) ts us in
    (λ h. d.0 (mapped ∙ h), λ e. sym mapped ∙ d.1 e)
