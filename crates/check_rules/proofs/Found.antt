-- What a walk over a list of a `Resolve` has found, entry by entry and at its end.
use Rattle.std.proofs.Common.{rules as std_rules, ◌≡◌, refl, sym, ap, ◌∙◌, ℕ, ◌<◌, Bool, true, false, List, Some, Option, get_or, length, slice_get, option_map, MatchOption}
use Rattle.std.proofs.lemmas.Option.{slice_get_read}
use Rattle.wit_model.specs.declared.model.{Resolve.Resolve, Interface.Interface, TypeDef.TypeDef}
use Rattle.wit_model.specs.{Rules.each_from, Valid.Rule, Valid.IsFound, Valid.entry_keeps}
use Rattle.wit_model.proofs.Checks.{interfaces_pass, worlds_pass, types_pass, keeps_three, keeps_two}
use Rattle.wit_model.specs.declared.error.EntryList.TheVariants as lists

-- ---- entry by entry

-- what a test says of the entry that was read
pub said : {A : Type 0} (test : ℕ → A → Bool) (xs : List A) (n : ℕ) (x : A) (b : Bool) → n < length xs → x ≡ get_or xs n x → b ≡ test n x → option_map (test n) (slice_get xs n) ≡ Some b
said test xs n x b within is says = ap (option_map (test n)) (slice_get_read xs _ n x refl within is) ∙ ap Some (sym says)

abbrev pub InterfacesKeep : Rule → Resolve → ℕ → Type 0
InterfacesKeep rule r n = (k : ℕ) → k < n → entry_keeps rule r lists.Interfaces k ≡ Some true

abbrev pub WorldsKeep : Rule → Resolve → ℕ → Type 0
WorldsKeep rule r n = (k : ℕ) → k < n → entry_keeps rule r lists.Worlds k ≡ Some true

abbrev pub TypesKeep : Rule → Resolve → ℕ → Type 0
TypesKeep rule r n = (k : ℕ) → k < n → entry_keeps rule r lists.Types k ≡ Some true

-- ---- at its end

pub ruleset walked = (std_rules, interfaces_pass, worlds_pass, types_pass, keeps_three, keeps_two)

pub found_interfaces : (rule : Rule) (r : Resolve) (xs : List Interface) → xs ≡ r.interfaces.items → (o : Option ℕ)
    → MatchOption o (each_from (rule.interface_ r) 0 xs ≡ true) (λ n. option_map (rule.interface_ r n) (slice_get xs n) ≡ Some false) → IsFound rule r lists.Interfaces o
found_interfaces rule r xs same x h = search std_rules

pub found_types : (rule : Rule) (r : Resolve) (xs : List TypeDef) → xs ≡ r.types.items → (o : Option ℕ)
    → MatchOption o (each_from (rule.type_ r) 0 xs ≡ true) (λ n. option_map (rule.type_ r n) (slice_get xs n) ≡ Some false) → IsFound rule r lists.Types o
found_types rule r xs same x h = search std_rules
