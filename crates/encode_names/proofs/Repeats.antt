-- Texts that are seen one after the other: a text that was seen, and one that is new.
use Rattle.std.proofs.Common.{◌≡◌, sym, ap, subst, ◌∙◌, true, false, cond, Bool, List, [], ◌∷◌, ◌++◌, map, String}
use Rattle.std.proofs.lemmas.{List.map-append, Cmp.nat_list_eq_equiv, Map.Keys.IsDistinct-push, Map.Views.Contains-from_any}
use Rattle.std.specs.declared.alloc.Global.{Global}
use Rattle.std.specs.List.{list_any, Contains, IsDistinct}
use Rattle.wit_model.specs.Text.{Text, text_eq, text_of}
use Rattle.base_lemmas.proofs.Elements.{any_of_map as list_any_mapped}
use Rattle.wit_model.proofs.TextLemmas.{text_same as text-same}

abbrev pub Strings : Type 0
Strings = List (String Global)

module _ (names : Strings) (name : String Global) where
  abbrev was_seen : Bool
  was_seen = list_any (λ k. text_eq (text_of name) (text_of k)) names

  abbrev texts : List Text
  texts = map text_of names

  pub seen-there : was_seen ≡ true → Contains texts (text_of name)
  seen-there e = Contains-from_any text-same (text_of name) texts (list_any_mapped (text_eq (text_of name)) text_of names ∙ e)

  pub new-pushed : was_seen ≡ false → cond was_seen names (names ++ name ∷ []) ≡ names ++ name ∷ []
  new-pushed e = ap (λ b. cond b names (names ++ name ∷ [])) e

  pub texts-pushed : map text_of (names ++ name ∷ []) ≡ texts ++ text_of name ∷ []
  texts-pushed = map-append text_of names (name ∷ [])

  pub new-distinct : IsDistinct text_eq texts → was_seen ≡ false → IsDistinct text_eq (map text_of (names ++ name ∷ []))
  new-distinct d e = subst (IsDistinct text_eq) (sym texts-pushed) (IsDistinct-push nat_list_eq_equiv texts (text_of name) d (list_any_mapped (text_eq (text_of name)) text_of names ∙ e))
