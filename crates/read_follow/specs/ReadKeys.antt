-- Types of functions that are followed as they are read, with no list of their own for the parameters.
use Rattle.std.specs.Prelude.{ℕ, Bool, false, ◌==◌, ◌&&◌, ◌||◌, List, ◌∷◌, Option, Some, if◌then◌else◌}
use Rattle.std.specs.Borrow.{Bor}
use Rattle.wit_model.specs.{Text.Text, Tree.Tree}
use Rattle.comp_bytes.specs.Reading.{Reader, ◌>>=◌}
use Rattle.read_follow.specs.Functions.{param_of, param_tree}

-- reads a form, and gives what f makes of it, if it makes anything
abbrev pub made_at : {A B : Type 0} → (A → Option B) → Reader A → Reader B
made_at f reader bytes = reader bytes >>= λ x. f x.0 >>= λ y. Some (y, x.1)

-- a parameter of a key, with the type that its part stands for
abbrev pub param_meant : List Tree → Bor (List ℕ) × ℕ → Text × Tree
param_meant T p = param_tree T (param_of p)

-- the byte that begins the type of a function
abbrev pub function_byte : Bool → ℕ
function_byte is_async = if is_async then 0x43 else 0x40

-- whether the declaration of a function's type stands in front (Binary.md, "Type Definitions")
abbrev pub has_function_in_front : List ℕ → Bool
has_function_in_front (declares ∷ form ∷ rest) = declares == 0x01 && (form == 0x40 || form == 0x43)
has_function_in_front bytes = false
