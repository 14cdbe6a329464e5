-- A declaration is read by its first bytes.
use Rattle.std.proofs.Common.{rules as std_rules, ◌≡◌, ap, ℕ, List, ◌++◌, Option, cond, Bool}
use Rattle.comp_bytes.specs.Raw.{Declaration}
use Rattle.comp_bytes.specs.Reading.{choose, tagged_at, declaration_at, function_type_forms, defined_type_forms}
use Rattle.comp_bytes.proofs.FirstByteLaws.{declared_types_chosen}
use Rattle.read_follow.specs.Declares.{type_by_first, declaration_by_first}

type_first : (bytes : List ℕ) → tagged_at (function_type_forms Declaration.function ++ defined_type_forms Declaration.defined) bytes ≡ type_by_first bytes
unfolding tagged_at type_by_first
type_first x = search (std_rules, declared_types_chosen)

first_of : {A : Type 0} (b : Bool) (x y others : Option A) → x ≡ y → cond b x others ≡ cond b y others
first_of b x y others e = ap (λ o. cond b o others) e

pub declaration_first : (bytes : List ℕ) → declaration_at bytes ≡ declaration_by_first bytes
unfolding declaration_at declaration_by_first tagged_at choose
declaration_first x = search (std_rules, first_of, type_first)
