-- Tables and places in numbers.
use Rattle.std.proofs.Common.{rules as std_rules, ◌≡◌, sym, ap, ◌∙◌, subst, ℕ, zero, suc, ◌+◌, ◌<◌, List, [], ◌∷◌, map, length, Option, Some, None, IfSome, slice_get, unwrap_or}
use Rattle.wit_model.specs.Text.{Text}
use Rattle.comp_meaning.specs.Follow.{instance_place}
use Rattle.plan_meaning.specs.{NumberedViews.AllOf, NumberedViews.IsPart, NumberedViews.PartsOf, NumberedViews.Tables, Shapes.Shape}
use Rattle.read_follow.specs.Functions.{AreApart, AreFunctionsIn, FunctionShape, IsFunctionIn}
use Rattle.read_follow.proofs.DefiningLaws.{all_at}
use Rattle.read_numbers.specs.{NumberedParts.numbered_function, NumberedParts.tables_in, NumberLaws.PlacesInNumbers, NumberLaws.TablesInNumbers}
use Rattle.base_lemmas.proofs.Lists.{get_back as at_mapped}
use Rattle.plan_meaning.specs.NumberedViews as views

-- a type of a function from its numbers
abbrev function_back : views.FunctionShape → FunctionShape
function_back f = record { is_async = f.is_async; params = f.params; outcome = f.result }

pub path_there : (paths : List (Option Text)) (n : ℕ) (path : Text) → unwrap_or (slice_get paths n) None ≡ Some path → slice_get paths n ≡ Some (Some path)
path_there [] n path e = absurd cc
path_there (o ∷ paths) zero path e = ap Some e
path_there (o ∷ paths) (suc n) path e = path_there paths n path e

given : (n : ℕ) (o : Option ℕ) → IfSome o (λ k. k < 14 + n) → AllOf (λ k. k < 14 + n) o
given n x h = search std_rules

module _ (shapes : List Shape) (fs : List FunctionShape) (paths : List (Option Text)) where
  abbrev t : Tables
  t = tables_in shapes fs paths

  parts_in : AreFunctionsIn (length shapes) fs → (n : ℕ) (f : views.FunctionShape) → slice_get (map numbered_function fs) n ≡ Some f → PartsOf (IsPart t) f
  parts_in ranges n f at =
      let found = at_mapped numbered_function fs n f at in
      let range = all_at (IsFunctionIn (length shapes)) fs n found.0 ranges found.1 in
      subst (λ (g : views.FunctionShape). PartsOf (IsPart t) g) found.2 (range.params, given (length shapes) found.0.outcome range.outcome)

  one_number : AreApart fs → (m n : ℕ) (f : views.FunctionShape) → slice_get (map numbered_function fs) m ≡ Some f → slice_get (map numbered_function fs) n ≡ Some f → m ≡ n
  one_number apart m n f em en =
      let a = at_mapped numbered_function fs m f em in
      let b = at_mapped numbered_function fs n f en in
      apart m n a.0 a.1 (b.1 ∙ ap Some (ap function_back (b.2 ∙ sym a.2)))

pub tables_in_numbers : TablesInNumbers
tables_in_numbers shapes fs paths tables apart paths_apart = record {
  shapes = tables.table;
  functions = parts_in shapes fs paths tables.signatures;
  apart = one_number shapes fs paths apart;
  paths = λ m n path em en. paths_apart m n path (path_there paths m path em) (path_there paths n path en);
}

pub places_in_numbers : PlacesInNumbers
places_in_numbers shapes fs paths n o e = ap (λ x. instance_place (unwrap_or x None)) e
