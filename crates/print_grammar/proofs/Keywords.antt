-- A word is a keyword where it is the text of one.
use Rattle.std.proofs.Common.{rules as std_rules, ◌≡◌, refl, ℕ, drop, List, [], ◌∷◌, Bool, ◌||◌, Option, Some, if◌then◌else◌}
use Rattle.std.specs.{Prelude.is_some, List.list_any, List.slice_get}
use Rattle.wit_model.specs.Text.{Text, text_eq}
use Rattle.print_grammar.specs.Keyword.{Keyword, entry_of}

is_some_if : {X : Type 0} (b : Bool) (x : X) (o : Option X) (c : Bool) → is_some o ≡ c → is_some (if b then Some x else o) ≡ (b || c)
is_some_if x y o c e = search std_rules

pub is_entry : (entries : List (Text × Keyword)) (word : Text) → is_some (entry_of entries word) ≡ list_any (λ e. text_eq e.0 word) entries
is_entry [] word = refl
is_entry (entry ∷ entries) word = is_some_if _ _ _ _ (is_entry entries word)

-- a text whose first byte is known
pub first_and_rest : (word : Text) (first : ℕ) → slice_get word 0 ≡ Some first → word ≡ first ∷ drop 1 word
first_and_rest y first e = search std_rules
