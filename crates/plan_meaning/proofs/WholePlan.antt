-- A worked example: the plan of two packages, with uses across them. It has a resource, an inline interface, a type of a world, an
-- interface under a label, an external id, and an interface of the other package that no world shows.
use Rattle.std.proofs.Common.{rules as std_rules, ◌≡◌, refl, ℕ, zero, suc, true, false, List, [], ◌∷◌, Option, Some, None}
use Rattle.std.specs.{Prelude.codes, List.list_any}
use Rattle.wit_model.specs.declared.model.{TypeOwner.TypeOwner, FunctionKind.FunctionKind}
use Rattle.wit_model.specs.{Text.Text, Meaning.TypeMeaning, Tree.Tree, Tree.Place, Tree.Form}
use Rattle.plan_meaning.specs.{Shapes.part_tree, PlanRules.IsPlan, PlanRules.IsPackagePlan, PlanRules.IsWanted, PlanRules.shown, PlanRules.used}
use Rattle.plan_meaning.specs.Plan.{Plan, PlannedKind, resource, alias, formed, PlannedType, PlannedFunction, PlannedInterface, interface, function, declares, label, path_of, PlannedWorld, met_in, resource_marks, trees_in, interface_in}
use Rattle.wit_model.specs.declared.model.TypeOwner.TheVariants as owner
use Rattle.wit_model.specs.declared.model.FunctionKind.TheVariants as call
use Rattle.wit_model.specs.Tree as tree
use Rattle.plan_meaning.specs.PlanRules as rules

-- ---- types: those of s:r/j, s:r/k, a:b/i and a:b/s, the world's and the inline interface's, with unnamed ones between them

abbrev pub of_interface : ℕ → TypeOwner
of_interface n = owner.Interface (record { 0 = n })

abbrev pub of_world : TypeOwner
of_world = owner.World (record { 0 = 0 })

abbrev named_type : Text → TypeOwner → PlannedKind → PlannedType
named_type name o kind = record { name = Some name; owner = o; kind = kind; external_id = None }

abbrev pub unnamed_type : Form → List ℕ → PlannedType
unnamed_type form ks = record { name = None; owner = owner.None; kind = formed form ks; external_id = None }

abbrev pub planned_types : List PlannedType
planned_types =
    record { name = Some (codes "t"); owner = of_interface 0; kind = alias 3; external_id = Some (codes "pkg") } ∷ named_type (codes "t") (of_interface 1) (alias 14)
    ∷ named_type (codes "t") (of_interface 2) (alias 15) ∷ unnamed_type Form.list_of (16 ∷ []) ∷ named_type (codes "r") (of_interface 3) resource ∷ unnamed_type Form.own_of (18 ∷ [])
    ∷ named_type (codes "h") (of_interface 3) (formed Form.own_of (18 ∷ [])) ∷ unnamed_type (Form.result_of true false) (19 ∷ []) ∷ unnamed_type Form.borrow_of (18 ∷ [])
    ∷ named_type (codes "t") of_world (alias 14) ∷ named_type (codes "t") (of_interface 4) (alias 14) ∷ []

-- ---- functions, interfaces and the world

abbrev pub taking : Text → FunctionKind → Text → ℕ → Option ℕ → PlannedFunction
taking name kind param part result = record { name = name; kind = kind; params = (param, part) ∷ []; result = result; external_id = None }

abbrev pub plain : Text → ℕ → PlannedFunction
plain name part = taking name call.Freestanding (codes "x") part None

abbrev pub planned_interfaces : List PlannedInterface
planned_interfaces =
    record { name = Some (codes "j"); package_ = Some 0; types = (codes "t", 0) ∷ []; functions = (codes "f", plain (codes "f") 14) ∷ [] }
    ∷ record { name = Some (codes "k"); package_ = Some 0; types = (codes "t", 1) ∷ []; functions = [] }
    ∷ record { name = Some (codes "i"); package_ = Some 1; types = (codes "t", 2) ∷ []; functions = (codes "f", plain (codes "f") 17) ∷ [] } ∷ record {
      name = Some (codes "s");
      package_ = Some 1;
      types = (codes "r", 4) ∷ (codes "h", 6) ∷ [];
      functions = (codes "[constructor]r", taking (codes "[constructor]r") (call.Constructor (record { 0 = 4 })) (codes "x") 1 (Some 21))
          ∷ (codes "[method]r.m", taking (codes "[method]r.m") (call.AsyncMethod (record { 0 = 4 })) (codes "self") 22 None) ∷ [];
    } ∷ record { name = None; package_ = Some 1; types = (codes "t", 10) ∷ []; functions = (codes "f", taking (codes "f") call.AsyncFreestanding (codes "x") 24 None) ∷ [] } ∷ []

abbrev pub planned_world : PlannedWorld
planned_world = record {
  name = codes "w";
  package_ = Some 1;
  imports = (label (codes "p"), interface 0 None) ∷ (label (codes "t"), declares 9) ∷ (label (codes "f"), function (plain (codes "f") 23)) ∷ [];
  exports = (label (codes "h"), interface 4 None) ∷ (label (codes "t"), function (plain (codes "t") 23)) ∷ (label (codes "x"), interface 3 None) ∷ (path_of 3, interface 3 None) ∷ [];
}

abbrev pub whole_plan : Plan
whole_plan = record {
  packages = record { identity = record { namespace = codes "s"; name = codes "r"; version = None }; interfaces = (codes "j", 0) ∷ (codes "k", 1) ∷ []; worlds = [] }
      ∷ record { identity = record { namespace = codes "a"; name = codes "b"; version = None }; interfaces = (codes "i", 2) ∷ (codes "s", 3) ∷ []; worlds = (codes "w", 0) ∷ [] } ∷ [];
  interfaces = planned_interfaces;
  worlds = planned_world ∷ [];
  types = planned_types;
  main = 1;
}

-- ---- what holds of it

pub is_plan : IsPlan whole_plan
unfolding met_in resource_marks trees_in part_tree
is_plan = search std_rules

-- interface i is of the package itself
own_interface : (i : PlannedInterface) → interface_in whole_plan 2 ≡ Some i → rules.is_foreign whole_plan i ≡ true → ⊥
own_interface i e h = search std_rules

wanted : (n : ℕ) (i : PlannedInterface) → interface_in whole_plan n ≡ Some i → rules.is_foreign whole_plan i ≡ true → IsWanted whole_plan n
wanted (suc zero) i e h = used 2 refl
wanted (suc (suc zero)) i e h = absurd (own_interface i e h)
wanted (suc (suc (suc (suc (suc n))))) i e h = absurd (let wrong : ⊥ = cc in wrong)
wanted _ i e h = shown 0 planned_world refl refl

bare : (n : ℕ) (i : PlannedInterface) → interface_in whole_plan n ≡ Some i → rules.is_foreign whole_plan i ≡ true → list_any (λ w. rules.is_shown_in w n) (planned_world ∷ []) ≡ false
    → i.functions ≡ []
bare y i e h hidden = search std_rules

-- It is the plan of a package.
pub is_package_plan : IsPackagePlan whole_plan
is_package_plan = record { plan = is_plan; no_more = record { types = refl; packages = refl }; main = refl; worlds = refl; wanted = wanted; bare = bare }

-- ---- what it means

tree-jt : Tree
tree-jt = Tree.named (Place.of_interface (codes "s:r/j")) (codes "t")

tree-r : Tree
tree-r = Tree.named (Place.of_interface (codes "a:b/s")) (codes "r")

alias-of : Tree → Option (List ℕ) → List (List ℕ × TypeMeaning)
alias-of t id = (codes "t", record { declaration = tree.type_ t; external_id = id }) ∷ []
