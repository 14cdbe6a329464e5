-- One type that is handed in after the other is printed.
use Rattle.std.proofs.Common.{rules as std_rules, ◌≡◌, refl, sym, ap, subst, ◌∙◌, ℕ, ◌+◌, ◌<◌, ◌==◌, Bool, true, List, [], ◌∷◌, ◌++◌, Option, Some, Vec, length, drop, get_or, cond}
use Rattle.std.proofs.lemmas.List.{drop_more}
use Rattle.std.specs.{Borrow.Bor, List.list_all, Map.lookup, Option.option_map_or}
use Rattle.std.specs.declared.alloc.Global.{Global}
use Rattle.wit_model.specs.declared.model.{Resolve.Resolve, Function.Function, TypeId.TypeId, TypeOwner.TypeOwner}
use Rattle.wit_model.specs.Text.{Text}
use Rattle.print_output.specs.OutputCall.{OutputCall, OutputView, Moves, Begins}
use Rattle.print_grammar.specs.{Tree.MemberTree, Calls.members_calls, Calls.printed_after}
use Rattle.print_items.specs.Shown.{Listed}
use Rattle.print_packages.specs.GivenTypes.{Functions, are_functions_of, behind, functions_under, given_declarations}
use Rattle.print_uses.specs.UseGroups.{is_listed_function, listed_declaration, listed_of}
use Rattle.print_uses.proofs.Declarations.{members_append, printed_append}
use Rattle.print_items.proofs.Moves.{Going, made_on, refused_in}
use Rattle.base_lemmas.proofs.Bools.{left_of, right_of}

under_test : (r : Resolve) (o : TypeOwner) (fs : Vec (Bor Function) Global) (found : Option (Vec (Bor Function) Global)) (b : Bool) → list_all (is_listed_function r o) (behind fs) ≡ true
    → list_all (is_listed_function r o) (option_map_or behind found []) ≡ true → list_all (is_listed_function r o) (option_map_or behind (cond b (Some fs) found) []) ≡ true
under_test r o fs found x here then = search std_rules

-- the functions under a type number are of the owner's resources, as all are
pub under_known : (r : Resolve) (o : TypeOwner) (id : TypeId) (entries : Functions) → are_functions_of r o entries ≡ true → list_all (is_listed_function r o) (functions_under entries id) ≡ true
under_known r o id [] h = refl
under_known r o id (e ∷ es) h =
    under_test r o e.1 (lookup (λ k. id.0 == k.0) es) (id.0 == e.0.0) (left_of _ _ h) (under_known r o id es (right_of (list_all (is_listed_function r o) (behind e.1)) _ h))

module _ (ts : List (Bor Text × TypeId)) (i : ℕ) (d : Bor Text × TypeId) (within : i < length ts) (r : Resolve) (o : TypeOwner) (entries : Functions) (has : Bool) where
  abbrev here : Listed
  here = record { name = (get_or ts i d).0.now; id = (get_or ts i d).1 }

  abbrev one : List MemberTree
  one = listed_declaration r o (functions_under entries (get_or ts i d).1) here

  abbrev rest : List MemberTree
  rest = given_declarations r o entries (listed_of (drop (i + 1) ts))

  given_next : given_declarations r o entries (listed_of (drop i ts)) ≡ one ++ rest
  given_next = ap (λ us. given_declarations r o entries (listed_of us)) (drop_more ts i d within)

  calls_next : (emits : Bool) → members_calls emits has (given_declarations r o entries (listed_of (drop i ts))) ≡ members_calls emits has one ++ members_calls emits (printed_after has one) rest
  calls_next emits = ap (members_calls emits has) given_next ∙ members_append emits has one rest

  pub given_made : {Kept : Type 0} {keeps : OutputView Kept → OutputCall → Kept} {all : List OutputCall} {old now new : OutputView Kept} (fs : List Function) (emits printed : Bool)
      → fs ≡ functions_under entries (get_or ts i d).1 → Going keeps (members_calls emits has (given_declarations r o entries (listed_of (drop i ts)))) all old now
      → printed ≡ printed_after has (listed_declaration r o fs here) → Moves keeps now (members_calls emits has (listed_declaration r o fs here)) new
      → Going keeps (members_calls emits printed rest) all old new
  given_made {keeps = keeps} {now = now} {new = new} fs emits printed same g e m = made_on (members_calls emits has one) (members_calls emits printed rest) g
      (calls_next emits ∙ ap (λ b. members_calls emits has one ++ members_calls emits b rest) (sym (e ∙ ap (λ gs. printed_after has (listed_declaration r o gs here)) same)))
      (subst (λ gs. Moves keeps now (members_calls emits has (listed_declaration r o gs here)) new) same m)

  pub given_refused : {Kept : Type 0} {keeps : OutputView Kept → OutputCall → Kept} {all : List OutputCall} {old now new : OutputView Kept} (fs : List Function) (emits : Bool)
      → fs ≡ functions_under entries (get_or ts i d).1 → Going keeps (members_calls emits has (given_declarations r o entries (listed_of (drop i ts)))) all old now
      → Begins keeps now (members_calls emits has (listed_declaration r o fs here)) new → Begins keeps old all new
  given_refused {keeps = keeps} {now = now} {new = new} fs emits same g b = refused_in (members_calls emits has one) (members_calls emits (printed_after has one) rest) g (calls_next emits)
      (subst (λ gs. Begins keeps now (members_calls emits has (listed_declaration r o gs here)) new) same b)

  pub given_some : (fs : List Function) (printed all : Bool) → fs ≡ functions_under entries (get_or ts i d).1 → printed_after has (given_declarations r o entries (listed_of (drop i ts))) ≡ all
      → printed ≡ printed_after has (listed_declaration r o fs here) → printed_after printed rest ≡ all
  given_some fs printed all same h e = search (std_rules, printed_append, given_next)
