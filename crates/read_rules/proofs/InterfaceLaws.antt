-- What the rules on interfaces come to, function by function and name by name.
use Rattle.std.proofs.Common.{rules as std_rules, ◌≡◌, refl, sym, ap, ◌∙◌, ℕ, Bool, true, false, ◌&&◌, List, [], ◌∷◌, ◌++◌, map, Result, Ok, Err, IfOk}
use Rattle.std.proofs.lemmas.List.{map-append}
use Rattle.std.specs.{Borrow.Bor, List.list_all}
use Rattle.wit_model.specs.{Text.Text}
use Rattle.comp_meaning.specs.Rules.{distinct}
use Rattle.plan_meaning.specs.NumberedRules.{is_function, is_interface, is_type, resources_of}
use Rattle.plan_meaning.specs.NumberedViews.{FunctionShape, NumberedFunction, NumberedView, function_at}
use Rattle.read_rules.specs.declared.{tables.FunctionType.FunctionType, tables.Tables.Tables, views.ViewFunction.ViewFunction, views.ViewType.ViewType}
use Rattle.read_rules.specs.{Interfaces.are_functions, Interfaces.have_one_name_each, Views.numbered_function, Views.numbered_type}
use Rattle.read_rules.specs.{Resources.AreSame, Tables.known_in, Tables.now_of, Tables.numbered_function_type, Tables.numbered_tables}

module _ (t : Tables) (p : ℕ) where
  pub stands_as : (rs : List Text) (name : Text) (signature : ℕ) (shape : FunctionType) → numbered_function_type shape ≡ function_at (numbered_tables t) signature
      → {E : Type 0} (r : Result Bool E) → IfOk r (λ b. b ≡ is_function (numbered_tables t) (known_in t) p rs name (numbered_function_type shape))
      → IfOk r (λ b. b ≡ is_function (numbered_tables t) (known_in t) p rs name (function_at (numbered_tables t) signature))
  stands_as rs name signature shape at x h = search std_rules

  -- resources matter by which they are alone
  pub same_function : (rs ss : List Text) → AreSame rs ss → (name : Text) (f : FunctionShape)
      → is_function (numbered_tables t) (known_in t) p rs name f ≡ is_function (numbered_tables t) (known_in t) p ss name f
  same_function rs ss same name f = search std_rules

  pub same_functions : (rs ss : List Text) → AreSame rs ss → (fs : List (Text × NumberedFunction)) → are_functions t p rs fs ≡ are_functions t p ss fs
  same_functions rs ss same [] = refl
  same_functions rs ss same (f ∷ fs) = λ i. same_function rs ss same f.0 (function_at (numbered_tables t) f.1.signature) i && same_functions rs ss same fs i

  module _ (v : NumberedView) where
    abbrev types_pass : Bool
    types_pass = list_all (is_type (numbered_tables t) (known_in t) p) v.types

    abbrev functions_pass : Bool
    functions_pass = are_functions t p (resources_of v.types) v.functions

    pub types_fail : types_pass ≡ false → false ≡ is_interface (numbered_tables t) (known_in t) p v
    types_fail fails = sym (ap (λ b. (b && functions_pass) && have_one_name_each v) fails)

    module _ (pass : types_pass ≡ true) (rs : List Text) (same : AreSame rs (resources_of v.types)) where
      others : is_interface (numbered_tables t) (known_in t) p v ≡ (are_functions t p rs v.functions && have_one_name_each v)
      others = ap (λ b. (b && functions_pass) && have_one_name_each v) pass ∙ ap (λ b. b && have_one_name_each v) (sym (same_functions rs (resources_of v.types) same v.functions))

      pub functions_fail : are_functions t p rs v.functions ≡ false → false ≡ is_interface (numbered_tables t) (known_in t) p v
      functions_fail fails = sym (others ∙ ap (λ b. b && have_one_name_each v) fails)

      pub names_decide : are_functions t p rs v.functions ≡ true → {E : Type 0} (r : Result Bool E) → IfOk r (λ b. b ≡ have_one_name_each v)
          → IfOk r (λ b. b ≡ is_interface (numbered_tables t) (known_in t) p v)
      names_decide passes (Ok b) h = h ∙ sym (others ∙ ap (λ x. x && have_one_name_each v) passes)
      names_decide passes (Err e) h = tt

type_names : (xs : List ViewType) → map now_of (map (λ x. x.name) xs) ≡ map (λ x. x.name) (map numbered_type xs)
type_names [] = refl
type_names (x ∷ xs) = ap (λ ts. x.name.now ∷ ts) (type_names xs)

function_names : (fs : List ViewFunction) → map now_of (map (λ f. f.name) fs) ≡ map (λ f. f.0) (map numbered_function fs)
function_names [] = refl
function_names (f ∷ fs) = ap (λ ts. f.name.now ∷ ts) (function_names fs)

pub names_apart : {E : Type 0} (r : Result Bool E) (xs : List ViewType) (fs : List ViewFunction) (names : List (Bor (List ℕ))) → names ≡ map (λ x. x.name) xs ++ map (λ f. f.name) fs
    → IfOk r (λ b. b ≡ distinct (map now_of names)) → IfOk r (λ b. b ≡ distinct (map (λ x. x.name) (map numbered_type xs) ++ map (λ f. f.0) (map numbered_function fs)))
names_apart y xs fs names e h = search (std_rules, map-append, type_names, function_names)
