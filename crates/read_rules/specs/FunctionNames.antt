-- Functions that belong to one of several resources, kind by kind (WIT.md, "Resources").
use Rattle.std.specs.Prelude.{◌≡◌, ℕ, Bool, true, false, not, ◌&&◌, ◌||◌, ◌==◌, List, [], ◌∷◌, ◌++◌, Option, Some, None}
use Rattle.std.specs.{Borrow.Bor, List.list_all, List.list_any}
use Rattle.wit_model.specs.{Text.Text, Text.text_eq, Names.constructor_name, Names.method_name, Names.static_name}
use Rattle.comp_meaning.specs.Rules.{is_label_behind}
use Rattle.plan_meaning.specs.{NumberedRules.begins_with_self, NumberedRules.constructs, NumberedRules.is_function, NumberedViews.FunctionShape}
use Rattle.read_rules.specs.declared.tables.Tables.{Tables}
use Rattle.read_rules.specs.Tables.{known_in, numbered_tables}

-- what was cut from a name is the text
abbrev pub is_cut : Option (Bor (List ℕ)) → Text → Bool
is_cut None text = false
is_cut (Some t) text = text_eq t.now text

-- A text, before and behind its last dot, or one without.
abbrev pub IsLastCut : Text → Option (Bor (List ℕ) × Bor (List ℕ)) → Type 0
IsLastCut text None = list_all (λ b. not (b == 46)) text ≡ true
IsLastCut text (Some x) = (text ≡ x.0.now ++ (46 ∷ x.1.now)) × (list_all (λ b. not (b == 46)) x.1.now ≡ true)

-- a function of this name and type may stand in the place, whose resources have these names
abbrev pub is_function_in : Tables → ℕ → List Text → Text → FunctionShape → Bool
is_function_in t p resources name f = is_function (numbered_tables t) (known_in t) p resources name f

module _ (t : Tables) (p : ℕ) where
  abbrev pub constructs_one : List Text → Text → FunctionShape → Bool
  constructs_one resources name f =
      list_any (λ r. (text_eq name (constructor_name r) && not f.is_async) && constructs (numbered_tables t) (known_in t) p r f.result) resources

  abbrev pub is_method_of_one : List Text → Text → FunctionShape → Bool
  is_method_of_one resources name f =
      list_any (λ r. is_label_behind (method_name r []) name && begins_with_self (numbered_tables t) (known_in t) p r f.params) resources

abbrev pub is_static_of_one : List Text → Text → Bool
is_static_of_one resources name = list_any (λ r. is_label_behind (static_name r []) name) resources

-- a constructor, a method or a static function of one of the resources
abbrev pub is_member_of_one : Tables → ℕ → List Text → Text → FunctionShape → Bool
is_member_of_one t p resources name f =
    constructs_one t p resources name f || (is_method_of_one t p resources name f || is_static_of_one resources name)
