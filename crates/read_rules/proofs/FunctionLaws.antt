-- Functions that belong to one of several resources: the name says which.
use Rattle.std.proofs.Common.{rules as std_rules, ◌≡◌, sym, ap, ◌∙◌, ℕ, Bool, true, false, not, ◌&&◌, ◌||◌, List, [], Some, None, codes}
use Rattle.std.specs.{List.list_any, Option.option_map_or}
use Rattle.wit_model.specs.{Text.Text, Text.text_eq, Names.constructor_name, Names.method_name, Names.static_name, Rules.after_prefix}
use Rattle.comp_meaning.specs.Rules.{is_label_behind}
use Rattle.plan_meaning.specs.{NumberedRules.begins_with_self, NumberedRules.constructs, NumberedRules.is_function_of, NumberedViews.FunctionShape}
use Rattle.read_rules.specs.declared.tables.Tables.{Tables}
use Rattle.read_rules.specs.FunctionNames.{constructs_one, is_member_of_one, is_method_of_one, is_static_of_one}
use Rattle.read_rules.specs.Tables.{known_in, numbered_tables}
use Rattle.read_rules.proofs.TextLaws.{any_either, any_none, any_same}
use Rattle.base_lemmas.proofs.Bools.{and_line as regroup, or_line as line_up}
use Rattle.wit_model.proofs.TextLemmas.{is_joined}

-- ---- tests

pub all_three : (a n m : Bool) → a ≡ true → n ≡ true → (a && (n && m)) ≡ m
all_three x n m p q = search std_rules

pub second_no : (a n m : Bool) → n ≡ false → (a && (n && m)) ≡ false
second_no x n m p = search std_rules

pub first_yes : (a b : Bool) → a ≡ true → (a && b) ≡ b
first_yes a b p = ap (λ v. v && b) p

module _ (t : Tables) (p : ℕ) (rs : List Text) (name : Text) (f : FunctionShape) where
  abbrev makes : Text → Bool
  makes r = constructs (numbered_tables t) (known_in t) p r f.result

  abbrev takes : Text → Bool
  takes r = begins_with_self (numbered_tables t) (known_in t) p r f.params

  pub constructor_some : (rest : Text) → Some rest ≡ after_prefix (codes "[constructor]") name → constructs_one t p rs name f ≡ (list_any (text_eq rest) rs && (not f.is_async && makes rest))
  constructor_some rest found =
      let named : (r : Text) → text_eq name (constructor_name r) ≡ text_eq rest r = λ r. is_joined (codes "[constructor]") r name ∙ ap (λ o. option_map_or (λ x. text_eq x r) o false) (sym found) in
      let each : (r : Text) → ((text_eq name (constructor_name r) && not f.is_async) && makes r) ≡ (text_eq rest r && (not f.is_async && makes r)) =
      λ r. ap (λ v. (v && not f.is_async) && makes r) (named r) ∙ regroup (text_eq rest r) (not f.is_async) (makes r) in
      ap (λ (g : Text → Bool). list_any g rs) (λ i r. each r i) ∙ any_same rest (λ r. not f.is_async && makes r) rs

  pub constructor_none : None ≡ after_prefix (codes "[constructor]") name → constructs_one t p rs name f ≡ false
  constructor_none none = any_none (λ r. (text_eq name (constructor_name r) && not f.is_async) && makes r) (λ r.
      ap (λ v. (v && not f.is_async) && makes r) (is_joined (codes "[constructor]") r name ∙ ap (λ o. option_map_or (λ x. text_eq x r) o false) (sym none))) rs

  pub method_some : (resource : Text) → ((r : Text) → is_label_behind (method_name r []) name ≡ text_eq resource r)
      → is_method_of_one t p rs name f ≡ (list_any (text_eq resource) rs && takes resource)
  method_some resource named = ap (λ (g : Text → Bool). list_any g rs) (λ i r. named r i && takes r) ∙ any_same resource takes rs

  pub method_none : ((r : Text) → is_label_behind (method_name r []) name ≡ false) → is_method_of_one t p rs name f ≡ false
  method_none none = any_none (λ r. is_label_behind (method_name r []) name && takes r) (λ r. ap (λ v. v && takes r) (none r)) rs

  -- whichever kind of function it is
  pub member_of_one : list_any (is_function_of (numbered_tables t) (known_in t) p name f) rs ≡ is_member_of_one t p rs name f
  member_of_one =
      let A = λ (r : Text). (text_eq name (constructor_name r) && not f.is_async) && makes r in
      let B = λ (r : Text). is_label_behind (method_name r []) name && takes r in
      let C = λ (r : Text). is_label_behind (static_name r []) name in
      any_either (λ r. A r || B r) C rs ∙ (ap (λ v. v || list_any C rs) (any_either A B rs) ∙ line_up (list_any A rs) (list_any B rs) (list_any C rs))

pub static_some : (rs : List Text) (name resource : Text) → ((r : Text) → is_label_behind (static_name r []) name ≡ text_eq resource r) → is_static_of_one rs name ≡ list_any (text_eq resource) rs
static_some rs name resource named = ap (λ (g : Text → Bool). list_any g rs) (λ i r. named r i)

pub static_none : (rs : List Text) (name : Text) → ((r : Text) → is_label_behind (static_name r []) name ≡ false) → is_static_of_one rs name ≡ false
static_none rs name none = any_none (λ r. is_label_behind (static_name r []) name) none rs
