-- Kinds that are the same declare the same tree.
use Rattle.std.proofs.Common.{◌≡◌, refl, sym, ap, true, false, ◌&&◌, rules, List, [], ◌∷◌, map, Option, option_map, Bool, cond, nat_eq}
use Rattle.std.proofs.lemmas.Bool.{eqb-true}
use Rattle.wit_model.specs.declared.model.{TypeDefKind.TypeDefKind, «Type».«Type» as ValueType}
use Rattle.wit_model.specs.{Rules.is_named_kind, Types.declared_by, Types.tree_of, Tree.Tree, Tree.type_, Tree.tuple_tree, Text.Text, Text.text_of, Types.trees_of}
use Rattle.std.specs.{Prelude.not, Option.option_eq, Cmp.Lexicographic.pointwise}
use Rattle.encode_types.specs.{Maps.same_kind, Key.same_type, Key.same_param, Key.same_params, Key.same_key, Key.key_signature}
use Rattle.encode_types.specs.declared.key.FunctionKey.{FunctionKey}
use Rattle.wit_model.specs.declared.model.TypeDefKind.TheVariants as kind
use mathlib.Core.Bool.{beq, true≢false}
use Rattle.wit_model.specs.declared.model.{Param.Param, Resolve.Resolve, Tuple.Tuple}
use Rattle.base_lemmas.proofs.Bools.{beq_same as beq-same, left_of as first_true, right_of as second_true}

pub same_types : (a b : ValueType) → same_type a b ≡ true → a ≡ b
same_types a b e = search rules

pub optional_same : (a b : Option ValueType) → option_eq same_type a b ≡ true → a ≡ b
optional_same u v e = search rules

pub types_same : (xs ys : List ValueType) → pointwise same_type xs ys ≡ true → xs ≡ ys
types_same [] [] e = refl
types_same [] (y ∷ ys) e = absurd (let z : ⊥ = cc in z)
types_same (x ∷ xs) [] e = absurd (let z : ⊥ = cc in z)
types_same (x ∷ xs) (y ∷ ys) e = λ i. same_types x y (first_true (same_type x y) (pointwise same_type xs ys) e) i ∷ types_same xs ys (second_true (same_type x y) (pointwise same_type xs ys) e) i

-- an unnamed kind that passes a test where it can't
pub clash : {P : Type 0} (named passes : Bool) → named ≡ false → passes ≡ true → cond named true (not passes) ≡ true → P
clash true b n e h = absurd (true≢false n)
clash false true n e h = absurd (true≢false (sym h))
clash false false n e h = absurd (true≢false (sym e))

-- What is told alike of tuples with the same types is told alike of all unnamed kinds that are the same: an unnamed type is of none of the named kinds.
module _ {X : Type 0} (f : TypeDefKind → X) (tuples : (a b : Tuple) → a.types.items ≡ b.types.items → f (kind.Tuple a) ≡ f (kind.Tuple b)) where
  pub told_alike : (a b : TypeDefKind) → is_named_kind a ≡ false → same_kind a b ≡ true → f a ≡ f b
  told_alike (kind.Option a) (kind.Option b) n e = let h : same_type a b ≡ true = search rules in ap (λ t. f (kind.Option t)) (same_types a b h)
  told_alike (kind.List a) (kind.List b) n e = let h : same_type a b ≡ true = search rules in ap (λ t. f (kind.List t)) (same_types a b h)
  told_alike (kind.Handle a) (kind.Handle b) n e = let h : kind.Handle a ≡ kind.Handle b = search rules in ap f h
  told_alike (kind.Tuple a) (kind.Tuple b) n e = let h : pointwise same_type a.types.items b.types.items ≡ true = search rules in tuples a b (types_same _ _ h)
  told_alike (kind.Result a) (kind.Result b) n e =
      let c : (option_eq same_type a.ok b.ok && option_eq same_type a.err b.err) ≡ true = e in
      λ i. f (kind.Result (record { ok = optional_same a.ok b.ok (first_true _ _ c) i; err = optional_same a.err b.err (second_true _ _ c) i }))
  told_alike (kind.Map a x) (kind.Map b y) n e =
      let c : (same_type a b && same_type x y) ≡ true = e in λ i. f (kind.Map (same_types a b (first_true _ _ c) i) (same_types x y (second_true _ _ c) i))
  told_alike (kind.FixedLengthList a x) (kind.FixedLengthList b y) n e =
      let c : (same_type a b && nat_eq x y) ≡ true = e in λ i. f (kind.FixedLengthList (same_types a b (first_true _ _ c) i) (eqb-true x y (second_true _ _ c) i))
  told_alike (kind.Future a) (kind.Future b) n e = let h : option_eq same_type a b ≡ true = search rules in ap (λ t. f (kind.Future t)) (optional_same a b h)
  told_alike (kind.Stream a) (kind.Stream b) n e = let h : option_eq same_type a b ≡ true = search rules in ap (λ t. f (kind.Stream t)) (optional_same a b h)
  told_alike a b n e = clash (is_named_kind a) (same_kind a b) n e refl

pub same_tree : (ts : List Tree) (a b : TypeDefKind) → is_named_kind a ≡ false → same_kind a b ≡ true → declared_by ts a ≡ declared_by ts b
same_tree ts = told_alike (declared_by ts) (λ a b e. ap (λ xs. type_ (tuple_tree (map (tree_of ts) xs))) e)

-- ---- keys of functions

params-same : (trees : List Tree) (xs ys : List Param) → pointwise same_param xs ys ≡ true
    → map {B = Text × Tree} (λ p. (text_of p.name, tree_of trees p.ty)) xs ≡ map {B = Text × Tree} (λ p. (text_of p.name, tree_of trees p.ty)) ys
params-same trees [] [] h = refl
params-same trees [] (y ∷ ys) h = absurd (true≢false (sym h))
params-same trees (x ∷ xs) [] h = absurd (true≢false (sym h))
params-same trees (x ∷ xs) (y ∷ ys) h = search (rules, first_true, same_types, second_true, params-same trees xs ys (second_true (same_param x y) (pointwise same_param xs ys) h))

-- equal keys have one signature
pub same-signature : (r : Resolve) (a b : FunctionKey) → same_key a b ≡ true → key_signature r a ≡ key_signature r b
same-signature r a b h =
    let more = second_true (beq a.async_ b.async_) (same_params a.params b.params && option_eq same_type a.result.now b.result.now) h in
    let async = beq-same a.async_ b.async_ (first_true (beq a.async_ b.async_) (same_params a.params b.params && option_eq same_type a.result.now b.result.now) h) in
    let params = params-same (trees_of r) a.params.0.now b.params.0.now (first_true (same_params a.params b.params) (option_eq same_type a.result.now b.result.now) more) in
    let result = optional_same a.result.now b.result.now (second_true (same_params a.params b.params) (option_eq same_type a.result.now b.result.now) more) in
    λ i. record { is_async = async i; params = params i; result = option_map (tree_of (trees_of r)) (result i) }
