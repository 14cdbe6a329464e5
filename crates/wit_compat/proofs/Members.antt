-- What is found under a name, and what two interfaces have by name.
use Rattle.std.proofs.Common.{rules as std_rules, ◌≡◌, ◌↔◌, sym, ap, subst, ◌∙◌, ℕ, Bool, false, List, Option, Some, None, option_map, IsTrue, IfSome, IfOk, Result}
use Rattle.std.proofs.lemmas.Option.{same_Some as same-some}
use Rattle.std.specs.{Borrow.Bor, List.Contains, List.IsAmong, Option.option_copied}
use Rattle.wit_model.specs.declared.model.{Resolve.Resolve, Interface.Interface, TypeId.TypeId}
use Rattle.wit_model.specs.{Lookup.interface_at, Meaning.InterfaceSense, Meaning.TypeMeaning, Meaning.interface_sense, Meant.interface_meaning, Meant.interface_meaning_at, Meant.type_meaning_at, Text.Text}
use Rattle.compat_meaning.specs.TwoSides.{functions_sense, types_sense}
use Rattle.compat_meaning.proofs.Sided.{never}
use Rattle.base_lemmas.proofs.Options.{if_ok}

pub among_found : {X : Type 0} (xs : List X) (o : Option (Bor X)) (y : Bor X) → IfSome o (λ x. IsAmong xs x.now) → o ≡ Some y → Contains xs y.now
among_found xs o y h is = let m : IsAmong xs y.now = subst (λ p. IfSome p (λ x. IsAmong xs x.now)) is h in (m.0, m.1.0, sym m.1.1)

-- what a type of a `Resolve` means
abbrev pub meaning_in : Resolve → TypeId → TypeMeaning
meaning_in r id = type_meaning_at r id.0

-- ---- what is found under a name

-- a look-up, by a text that is the name
module _ {X Y : Type 0} (g : Y → X) (x : X) (find : Text → Option Y) (t name : Text) (o : Option (Bor Y)) (same : t ≡ name)
    (value : option_copied o ≡ find t) where
  found : (p : Option (Bor Y)) → o ≡ p → option_map g (find name) ≡ option_map g (option_copied p)
  found p is = ap (λ u. option_map g (find u)) (sym same) ∙ ap (option_map g) (sym value) ∙ ap (λ q. option_map g (option_copied q)) is

  pub found_exact : (y : Bor Y) → o ≡ Some y → {E : Type 0} (b : Result Bool E) → IfOk b (λ b. IsTrue b ↔ (x ≡ g y.now)) → IfOk b (λ b. IsTrue b ↔ (option_map g (find name) ≡ Some x))
  found_exact y is b h = if_ok _ _ (λ b e. (λ t. found (Some y) is ∙ ap Some (sym (e.0 t)), λ q. e.1 (sym (same-some (g y.now) x (sym (found (Some y) is) ∙ q))))) b h

  pub missing_exact : o ≡ None → IsTrue false ↔ (option_map g (find name) ≡ Some x)
  missing_exact is = never _ (λ q. let wrong : None ≡ Some x = sym (found None is) ∙ q in let z : ⊥ = cc in z)

-- ---- interfaces

module _ (a b : Resolve) where
  module _ (i j : Interface) where
    pub types_back : interface_sense (interface_meaning a i) ≡ interface_sense (interface_meaning b j) → types_sense a i.types.entries ≡ types_sense b j.types.entries
    types_back same = ap (λ (s : InterfaceSense). s.types) same

    pub members_exact : (y : Bool) → types_sense a i.types.entries ≡ types_sense b j.types.entries → (IsTrue y ↔ (functions_sense a i.functions.entries ≡ functions_sense b j.functions.entries))
        → IsTrue y ↔ (interface_sense (interface_meaning a i) ≡ interface_sense (interface_meaning b j))
    members_exact y types h = (λ t. let functions = h.0 t in λ k. record { types = types k; functions = functions k }, λ same. h.1 (ap (λ (s : InterfaceSense). s.functions) same))

  pub interfaces_exact : (n m : ℕ) (i j : Interface) (y : Bool) → interface_at a n ≡ Some i → interface_at b m ≡ Some j
      → (IsTrue y ↔ (interface_sense (interface_meaning a i) ≡ interface_sense (interface_meaning b j))) → IsTrue y
      ↔ (interface_sense (interface_meaning_at a n) ≡ interface_sense (interface_meaning_at b m))
  interfaces_exact n m i j y iat jat h = search std_rules
