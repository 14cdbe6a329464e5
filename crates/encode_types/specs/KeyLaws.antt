-- Keys of functions: the equality is an equivalence, and equal keys are hashed alike.
use Rattle.std.specs.Cmp.{IsEquivalence, IsPartialEquivalence, partial_equiv_from_equiv, bool_eq_equiv, first_so, second_so}
use Rattle.std.specs.{Hash.Alike, Hash.on_Alike, Hash.and-Alike, Hash.items_Alike, Cmp.Lexicographic.options_equiv}
use Rattle.std.specs.Prelude.{◌≡◌, Bool, true, false, [], ◌∷◌, ◌++◌, Option, Some, None, nat_eq, pos, refl}
use Rattle.std.proofs.{lemmas.Cmp.on_equiv, lemmas.Cmp.and_equiv, lemmas.Cmp.lists_equiv, lemmas.Cmp.nat_list_eq_equiv, Common.sym, Common.ap}
use Rattle.std.proofs.lemmas.Bool.{eqb-true}
use Rattle.std.specs.Hash as fed
use mathlib.Core.Bool.{beq, true≢false}
use Rattle.std.specs.Option.{option_eq}
use Rattle.wit_model.specs.{contracts.model.TypeEq.TheImpl.Laws.laws-law, Text.Text, Text.text_of, Text.text_eq}
use Rattle.wit_model.specs.declared.model.«Type».{«Type» as ValueType}
use Rattle.encode_types.specs.Key.{same_type, same_param, same_params, same_key, type_writes, param_writes, params_writes, key_writes}
use Rattle.wit_model.specs.contracts.model.TypeHash.TheImpl.Laws as type_hash

pub type_equiv : IsEquivalence same_type
type_equiv = laws-law

pub param_equiv : IsEquivalence same_param
param_equiv = and_equiv (on_equiv (λ p. text_of p.name) nat_list_eq_equiv) (on_equiv (λ p. p.ty) type_equiv)

pub params_equiv : IsEquivalence same_params
params_equiv = on_equiv (λ a. a.0.now) (lists_equiv param_equiv)

pub params_partial_equiv : IsPartialEquivalence same_params
params_partial_equiv = partial_equiv_from_equiv params_equiv

pub key_equiv : IsEquivalence same_key
key_equiv = and_equiv (on_equiv (λ k. k.async_) bool_eq_equiv)
    (and_equiv (on_equiv (λ k. k.params) params_equiv) (on_equiv (λ k. k.result.now) (options_equiv type_equiv)))

pub key_partial_equiv : IsPartialEquivalence same_key
key_partial_equiv = partial_equiv_from_equiv key_equiv

-- equal texts are one text
pub text_same : (a b : Text) → text_eq a b ≡ true → a ≡ b
text_same [] [] h = refl
text_same [] (y ∷ ys) h = absurd (true≢false (sym h))
text_same (x ∷ xs) [] h = absurd (true≢false (sym h))
text_same (x ∷ xs) (y ∷ ys) h =
    λ i. eqb-true x y (first_so (nat_eq x y) (text_eq xs ys) h) i ∷ text_same xs ys (second_so (nat_eq x y) (text_eq xs ys) h) i

text_alike : Alike text_eq fed.str
text_alike = record { fed = λ a b h. ap fed.str (text_same a b h) }

bool_alike : Alike beq fed.bool
bool_alike = record { fed = λ a b h. ap fed.bool (beq-true a b h) }
  where
    beq-true : (a b : Bool) → beq a b ≡ true → a ≡ b
    beq-true true true h = refl
    beq-true true false h = absurd (true≢false (sym h))
    beq-true false true h = absurd (true≢false (sym h))
    beq-true false false h = refl

type_alike : Alike same_type type_writes
type_alike = record { fed = type_hash.respects_eq-law }

option_alike : Alike (option_eq same_type) (fed.option type_writes)
option_alike = record { fed = both }
  where
    both : (a b : Option ValueType) → option_eq same_type a b ≡ true → fed.option type_writes a ≡ fed.option type_writes b
    both None None h = refl
    both None (Some y) h = absurd (true≢false (sym h))
    both (Some x) None h = absurd (true≢false (sym h))
    both (Some x) (Some y) h = ap (λ w. fed.isize (pos 1) ++ w) (type_alike.fed x y h)

param_alike : Alike same_param param_writes
param_alike = and-Alike (on_Alike (λ p. text_of p.name) text_alike) (on_Alike (λ p. p.ty) type_alike)

pub params_alike : Alike same_params params_writes
params_alike = on_Alike (λ a. a.0.now) (items_Alike param_alike)

pub key_alike : Alike same_key key_writes
key_alike = and-Alike (on_Alike (λ k. k.async_) bool_alike) (and-Alike (on_Alike (λ k. k.params) params_alike) (on_Alike (λ k. k.result.now) option_alike))
