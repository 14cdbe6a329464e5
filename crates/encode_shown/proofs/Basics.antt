-- What a rule that is kept says of an entry, and owners.
use Rattle.std.proofs.Common.{rules as std_rules, ◌≡◌, subst, ◌+◌, Bool, true, false, ◌||◌, Option, Some, None, arith}
use Rattle.std.specs.{Prelude.option_and_then, Option.option_map_or}
use Rattle.wit_model.specs.{Checks.references, Valid.IsValid, Valid.Keeps}
use Rattle.wit_model.specs.declared.model.Resolve.{Resolve}
use Rattle.wit_model.proofs.{Entries.each_from_all, Entries.types_keep, TreeTable.kept_numbers}

-- types refer to smaller numbers alone
pub valid-references : (r : Resolve) → IsValid r → Keeps references r
unfolding references
valid-references r v = types_keep (λ r n def. references.type_ r n def) r (each_from_all (references.type_ r) 0 r.types.items (λ n def is.
    let at : n ≡ 0 + n = omega arith in
    subst (λ m. references.type_ r m def ≡ true) at (kept_numbers r v.rules n def is)))

pub or-cases : {P : Type 0} (a b : Bool) → (a || b) ≡ true → (a ≡ true → P) → (b ≡ true → P) → P
or-cases x b h p q = search std_rules

pub bool-cases : {P : Type 0} (b : Bool) → (b ≡ true → P) → (b ≡ false → P) → P
bool-cases x p q = search std_rules

-- a look-up that finds nothing, or this
pub option-cases : {A P : Type 0} (o : Option A) → (o ≡ None → P) → ((x : A) → o ≡ Some x → P) → P
option-cases y p q = search std_rules

-- what is there, of which this holds
abbrev pub Given : {A : Type 0} → Option A → (A → Type 0) → Type 0
Given {A} o P = (x : A) × (o ≡ Some x) × P x

-- what a look-up gives is of what is there
pub given-by : {A B : Type 0} (f : A → Option B) (o : Option A) (y : B) → option_and_then f o ≡ Some y → Given o (λ x. f x ≡ Some y)
given-by f y z h = search std_rules

-- what passes a test is there
pub passed : {A : Type 0} (test : A → Bool) (o : Option A) → option_map_or test o false ≡ true → Given o (λ x. test x ≡ true)
passed test y h = search std_rules
