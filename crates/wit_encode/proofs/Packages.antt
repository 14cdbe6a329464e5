-- Component types that are added one after the other.
use Rattle.std.proofs.Common.{rules as std_rules, ◌≡◌, refl, sym, ap, subst, ◌∙◌, ℕ, Bool, true, List, [], ◌∷◌, ◌++◌, append_assoc, append-nil, Some, Result, IfErr, OnOk, inl, inr, ◌≤◌}
use Rattle.std.proofs.lemmas.List.Elements.{Contains-push_cases, Contains-append_left, Contains-append_right}
use Rattle.std.specs.{Prelude.IsErrAnd, List.Contains}
use Rattle.wit_model.specs.{Text.Text, Text.text_of, Names.PackageIdentity, Lookup.interface_path, Lookup.world_at, Weight.interface_weight}
use Rattle.wit_model.specs.declared.{model.World.World, error.Error.Error, model.Resolve.Resolve}
use Rattle.wit_model.proofs.Elements.{zip-push}
use Rattle.comp_bytes.specs.{Raw.Declarations, Parts.Part, Refusal.IsMemoryOrSize}
use Rattle.encode_exports.specs.ExportedParts.{exporting}
use Rattle.wit_encode.specs.{Dependencies.ShowsComponent, DependencyCounts.DefinesComponent, Scopes.HasNoEqualPaths, Scopes.RefusesInterface, Instance.declared_extent, WrittenNames.WritesPaths}
use Rattle.wit_encode.specs.Packages.{AddsInterface, AddsWorld, AddsWorlds, HasNoClashAt, HaveNoClash, HaveNoEqualPaths, HoldsInterfaces, IsWrapperOf, ListedInterface, ListedWorld, RefusesInterfaces, RefusesWorldAt, RefusesWorlds, WrapsWorld}
use Rattle.base_lemmas.proofs.{Elements.contains-one, Options.passed}

pub on-ok : {X E A B : Type 0} (given : Result X E) → OnOk given A → (A → B) → OnOk given B
on-ok x a f = search std_rules

pub type-added : (r : Resolve) (canonical : Bool) (e : ListedInterface) (declared : Declarations) (old new : List Part)
    → ((path : Text) → interface_path r e.1.0 ≡ Some path → ShowsComponent r e.1.0 path declared) → WritesPaths r canonical e.1.0 declared → DefinesComponent r e.1.0 declared
    → declared_extent declared ≤ interface_weight r e.1.0 → ((types : List (Text × Declarations)) → old ≡ exporting types → new ≡ exporting (types ++ (text_of e.0, declared) ∷ []))
    → AddsInterface r canonical e old new
type-added r canonical e declared old new shows names once light more = search (std_rules, zip-push)

each-more : {X : Type 0} (P : X → Type 0) (xs : List X) (x : X) → ((y : X) → Contains xs y → P y) → P x → (y : X) → Contains (xs ++ x ∷ []) y → P y
each-more P xs x h one y c = elim (Contains-push_cases xs x y c) [ inl there ↦ h y there | inr e ↦ subst P e one ]

pub paths-added : (r : Resolve) (entries : List ListedInterface) (e : ListedInterface) → HaveNoEqualPaths r entries → HasNoEqualPaths r e.1.0 → HaveNoEqualPaths r (entries ++ e ∷ [])
paths-added r entries e h one = each-more (λ f. HasNoEqualPaths r f.1.0) entries e h one

pub room-refused : {X : Type 0} (r : Resolve) (n : ℕ) (canonical : Bool) (given : Result X Error) → (canonical ≡ true → HasNoEqualPaths r n) → IfErr given IsMemoryOrSize
    → IfErr given (RefusesInterface r n canonical)
room-refused r n canonical x differ h = search std_rules

pub first-refused : {X : Type 0} (r : Resolve) (entries before after : List ListedInterface) (f : ListedInterface) (canonical : Bool) (e : Error) (given : Result X Error)
    → entries ≡ before ++ (f ∷ after)
    → (canonical ≡ true → HaveNoEqualPaths r before) → RefusesInterface r f.1.0 canonical e → IsErrAnd given (λ d. d ≡ e) → IfErr given (RefusesInterfaces r entries canonical)
first-refused r entries before after f canonical e given are differ refuses h =
    passed (RefusesInterfaces r entries canonical) given e h (record { before = before; refused = f; after = after; are = are; differ = differ; refuses = refuses })

-- ---- one interface after the other

-- The component types of the first interfaces have been added, and these are left.
pub record IsBegun (r : Resolve) (canonical : Bool) (entries left : List ListedInterface) (parts : List Part) : Type 0 where
  pub done : List ListedInterface
  pub split : entries ≡ done ++ left
  pub holds : HoldsInterfaces r canonical done parts
  pub differ : canonical ≡ true → HaveNoEqualPaths r done

pub next-listed : (r : Resolve) (canonical : Bool) (entries left rest : List ListedInterface) (parts : List Part) (e : ListedInterface) → IsBegun r canonical entries left parts → left ≡ e ∷ rest
    → Contains entries e
next-listed r canonical entries left rest parts e h is = subst (λ (es : List ListedInterface). Contains es e) (sym (h.split ∙ ap (λ (es : List ListedInterface). h.done ++ es) is))
    (Contains-append_right h.done (e ∷ rest) e (Contains-append_left (e ∷ []) rest e (contains-one e)))

pub next-done : (r : Resolve) (canonical : Bool) (entries left rest : List ListedInterface) (parts parts' : List Part) (e : ListedInterface) → IsBegun r canonical entries left parts → left ≡ e ∷ rest
    → AddsInterface r canonical e parts parts' → (canonical ≡ true → HasNoEqualPaths r e.1.0) → IsBegun r canonical entries rest parts'
next-done r canonical entries left rest parts parts' e h is adds one = record {
  done = h.done ++ e ∷ [];
  split = h.split ∙ ap (λ (es : List ListedInterface). h.done ++ es) is ∙ sym (append_assoc h.done (e ∷ []) rest);
  holds = adds h.done h.holds;
  differ = λ asked. paths-added r h.done e (h.differ asked) (one asked);
}

pub next-refused : {X : Type 0} (r : Resolve) (canonical : Bool) (entries left rest : List ListedInterface) (parts : List Part) (e : ListedInterface) (error : Error) (given : Result X Error)
    → IsBegun r canonical entries left parts → left ≡ e ∷ rest → RefusesInterface r e.1.0 canonical error → IsErrAnd given (λ d. d ≡ error) → IfErr given (RefusesInterfaces r entries canonical)
next-refused r canonical entries left rest parts e error given h is refuses same =
    first-refused r entries h.done rest e canonical error given (h.split ∙ ap (λ (es : List ListedInterface). h.done ++ es) is) h.differ refuses same

-- ---- worlds

pub world-added : (r : Resolve) (canonical : Bool) (p : PackageIdentity) (e : ListedWorld) (w : World) (declared : Declarations) (old new : List Part) → world_at r e.1.0 ≡ Some w
    → WrapsWorld r canonical p e.1.0 w declared
    → ((types : List (Text × Declarations)) → old ≡ exporting types → new ≡ exporting (types ++ (text_of e.0, declared) ∷ [])) → AddsWorld r canonical p e old new
world-added r canonical p e w declared old new there wraps more = λ interfaces worlds h. record {
  interface_types = h.interface_types;
  world_types = h.world_types ++ (text_of e.0, declared) ∷ [];
  interfaces_are = h.interfaces_are;
  worlds_are = zip-push (IsWrapperOf r canonical p) worlds h.world_types e (text_of e.0, declared) h.worlds_are (record { label = refl; world = w; there = there; wraps = wraps });
  is = more (h.interface_types ++ h.world_types) h.is ∙ ap exporting (append_assoc h.interface_types h.world_types ((text_of e.0, declared) ∷ []));
}

pub world-passed : {X : Type 0} (r : Resolve) (n : ℕ) (canonical : Bool) (e : Error) (given : Result X Error) → RefusesWorldAt r n canonical e → IsErrAnd given (λ d. d ≡ e)
    → IfErr given (RefusesWorldAt r n canonical)
world-passed r n canonical e given h same = passed (RefusesWorldAt r n canonical) given e same h

-- The wrappers of the first worlds have been added behind these parts, and these worlds are left.
pub record WorldsBegun (r : Resolve) (p : PackageIdentity) (canonical : Bool) (entries left : List ListedWorld) (parts parts' : List Part) : Type 0 where
  pub done : List ListedWorld
  pub split : entries ≡ done ++ left
  pub adds : AddsWorlds r canonical p done parts parts'
  pub differ : canonical ≡ true → HaveNoClash r done

pub next-world : (r : Resolve) (p : PackageIdentity) (canonical : Bool) (entries left rest : List ListedWorld) (parts parts' : List Part) (e : ListedWorld)
    → WorldsBegun r p canonical entries left parts parts' → left ≡ e ∷ rest → Contains entries e
next-world r p canonical entries left rest parts parts' e h is = subst (λ (es : List ListedWorld). Contains es e) (sym (h.split ∙ ap (λ (es : List ListedWorld). h.done ++ es) is))
    (Contains-append_right h.done (e ∷ rest) e (Contains-append_left (e ∷ []) rest e (contains-one e)))

pub world-done : (r : Resolve) (p : PackageIdentity) (canonical : Bool) (entries left rest : List ListedWorld) (parts middle parts' : List Part) (e : ListedWorld)
    → WorldsBegun r p canonical entries left parts middle
    → left ≡ e ∷ rest → AddsWorld r canonical p e middle parts' → (canonical ≡ true → HasNoClashAt r e.1.0) → WorldsBegun r p canonical entries rest parts parts'
world-done r p canonical entries left rest parts middle parts' e h is adds one = record {
  done = h.done ++ e ∷ [];
  split = h.split ∙ ap (λ (es : List ListedWorld). h.done ++ es) is ∙ sym (append_assoc h.done (e ∷ []) rest);
  adds = λ interfaces held. adds interfaces h.done (h.adds interfaces held);
  differ = λ asked. each-more (λ f. HasNoClashAt r f.1.0) h.done e (h.differ asked) (one asked);
}

pub world-refused : {X : Type 0} (r : Resolve) (p : PackageIdentity) (canonical : Bool) (entries left rest : List ListedWorld) (parts middle : List Part) (e : ListedWorld) (error : Error)
    (given : Result X Error)
    → WorldsBegun r p canonical entries left parts middle → left ≡ e ∷ rest → RefusesWorldAt r e.1.0 canonical error → IsErrAnd given (λ d. d ≡ error) → IfErr given (RefusesWorlds r entries canonical)
world-refused r p canonical entries left rest parts middle e error given h is refuses same = passed (RefusesWorlds r entries canonical) given error same
    (record { before = h.done; refused = e; after = rest; are = h.split ∙ ap (λ (es : List ListedWorld). h.done ++ es) is; differ = h.differ; refuses = refuses })

pub all-worlds_apart : (r : Resolve) (p : PackageIdentity) (canonical : Bool) (entries left : List ListedWorld) (parts parts' : List Part)
    → WorldsBegun r p canonical entries left parts parts' → left ≡ [] → canonical ≡ true → HaveNoClash r entries
all-worlds_apart r p canonical entries left parts parts' h is asked = subst (HaveNoClash r) (sym (h.split ∙ ap (λ (es : List ListedWorld). h.done ++ es) is ∙ append-nil h.done)) (h.differ asked)
