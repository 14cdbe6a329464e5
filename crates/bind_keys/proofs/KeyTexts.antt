-- Keys compared part by part.
use Rattle.std.proofs.Common.{rules as std_rules, ◌≡◌, refl, sym, ap, ◌∙◌, Bool, true, false, [], ◌∷◌, ◌++◌, append_assoc, Option, Some, None, option_map, option_and_then}
use Rattle.std.proofs.lemmas.Cmp.{nat_list_eq_equiv}
use Rattle.std.specs.Option.{option_map_or}
use Rattle.wit_model.specs.{Text.Text, Text.text_eq, Rules.after_prefix}
use Rattle.bind_keys.specs.{Keys.text_under, Cuts.has_slash, Cuts.IsCut, CutLaws.slash_within, KeyTests.after_slash}
use Rattle.wit_model.proofs.{TextLemmas.text_same, RulesLemmas.after_both}
use mathlib.Core.Bool.{true≢false}

-- a text and what it ends with
pub same_after : (p q t : Text) → text_eq (p ++ q) t ≡ option_map_or (text_eq q) (after_prefix p t) false
same_after [] q t = refl
same_after (p ∷ ps) q [] = refl
same_after (p ∷ ps) q (b ∷ bs) = search (std_rules, same_after ps q bs)

nothing_behind : (xs : Text) → xs ++ [] ≡ xs
nothing_behind [] = refl
nothing_behind (x ∷ xs) = ap (λ ys. x ∷ ys) (nothing_behind xs)

-- one text after another: nothing follows where the first isn't there, and else what follows the second
pub then_none : (p q t : Text) (rest : Option Text) → rest ≡ None → None ≡ after_prefix p t → rest ≡ after_prefix (p ++ q) t
then_none p q t rest none h = none ∙ ap (option_and_then (after_prefix q)) h ∙ sym (after_both p q t)

pub then_some : (p q t first : Text) (rest : Option Text) → Some first ≡ after_prefix p t → rest ≡ after_prefix q first → rest ≡ after_prefix (p ++ q) t
then_some p q t first rest found h = h ∙ ap (option_and_then (after_prefix q)) found ∙ sym (after_both p q t)

-- the parts of a path
pub path_parts : (space name interface end : Text) → ((space ++ (58 ∷ [])) ++ (name ++ (47 ∷ []))) ++ (interface ++ end) ≡ space ++ (58 ∷ (name ++ (47 ∷ (interface ++ end))))
path_parts space name interface end = search (std_rules, append_assoc)

-- a key is its scope and a slash, and the function's name
pub key_after : (scope function t : Text) → text_eq (text_under scope function) t ≡ option_map_or (text_eq function) (after_slash scope t) false
key_after scope function t = ap (λ k. text_eq k t) (sym (append_assoc scope (47 ∷ []) function)) ∙ same_after (scope ++ (47 ∷ [])) function t

-- the same the other way round
pub under_is : (front name t : Text) → text_eq t (text_under front name) ≡ option_map_or (text_eq name) (after_slash front t) false
under_is front name t = nat_list_eq_equiv.symm t (text_under front name) ∙ key_after front name t

-- ---- a key that is cut

-- a text with a slash is none without
no_slash_in : (front function name : Text) → has_slash name ≡ false → text_eq (text_under front function) name ≡ false
no_slash_in front function name bare = by (text_eq (text_under front function) name) refl
  where
    by : (b : Bool) → text_eq (text_under front function) name ≡ b → b ≡ false
    by true same = absurd (true≢false (sym (slash_within front function) ∙ ap has_slash (text_same (text_under front function) name same) ∙ bare))
    by false other = refl

-- what is left of the front of a key, behind the scope, is compared with the function
behind_scope : (scope function front name : Text) → has_slash name ≡ false
    → text_eq (text_under scope function) (text_under front name) ≡ option_map_or (λ rest. text_eq (47 ∷ function) (text_under rest name)) (after_prefix scope front) false
behind_scope [] function front name bare = refl
behind_scope (b ∷ scope) function [] name bare = search (std_rules, no_slash_in)
behind_scope (b ∷ scope) function (c ∷ front) name bare = search (std_rules, behind_scope scope function front name bare)

-- the same where there may be no scope
pub is_behind : (scope : Option Text) (function key front name : Text) → IsCut key front name
    → option_map_or (λ k. text_eq k key) (option_map (λ s. text_under s function) scope) false
    ≡ option_map_or (λ rest. text_eq (47 ∷ function) (text_under rest name)) (option_and_then (λ s. after_prefix s front) scope) false
is_behind x function key front name cut = search (std_rules, behind_scope)
