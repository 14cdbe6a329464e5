-- Functions export no type, where each named type that they use is known.
use Rattle.std.proofs.Common.{rules as std_rules, ◌≡◌, sym, subst, ap, ◌∙◌, ℕ, map, List, String, Option, Result, Ok, Err, OnOk}
use Rattle.std.specs.List.{Contains}
use Rattle.std.specs.declared.alloc.Global.{Global}
use Rattle.wit_model.specs.{Text.Text, Meaning.TypeMeaning, Meaning.FunctionMeaning, Parts.function_types, Valid.IsValid}
use Rattle.wit_model.specs.declared.model.{Resolve.Resolve, Function.Function, TypeId.TypeId}
use Rattle.comp_bytes.specs.Raw.{Declarations}
use Rattle.encode_types.specs.declared.maps.TypeEncodingMaps.{TypeEncodingMaps}
use Rattle.wit_encode.specs.declared.interface.OpenInterface.{OpenInterface}
use Rattle.encode_types.specs.{Maps.IsKnown, Maps.IsOnce, Maps.LearnsOnly, Maps.MapsGrow, Maps.by_number, Plan.MetFrom, Scope.Scope, Counts.Shows}
use Rattle.wit_encode.specs.Exports.{AllKnown, KnowsUsed, UsesListed}
use Rattle.wit_encode.specs.Instance.{keyed, own_of, contents_of, encoder_scope, definitions_with, ShowsFunction, exports_in}
use Rattle.wit_encode.proofs.Exporting.{shows-nothing, function-unnamed}
use Rattle.base_lemmas.proofs.Elements.{contains-map, map_from as contains-mapped}

-- a function: its type, and then its export
pub function-stays : {A E : Type 0} (res : Result A E) (r r₀ r₁ r₂ : Resolve) (o₀ o₁ o₂ : Declarations) (i₀ i₁ i₂ : Option OpenInterface) (m₀ m₁ : TypeEncodingMaps) (f : Function)
    (g : Text × FunctionMeaning) → IsValid r → KnowsUsed r m₀ f → r₀ ≡ r → encoder_scope r₁ o₁ i₁ ≡ encoder_scope r₀ o₀ i₀ → r₂ ≡ r₁ → IsOnce m₁
    → LearnsOnly (MetFrom r (own_of i₀) m₀ (function_types f)) m₀ m₁ → Shows r (encoder_scope r₀ o₀ i₀) m₀ m₁ (definitions_with (contents_of r₀ o₀ i₀)) (definitions_with (contents_of r₁ o₁ i₁))
    → OnOk res (ShowsFunction (contents_of r₁ o₁ i₁) (contents_of r₂ o₂ i₂) g) → OnOk res (exports_in r o₂ i₂ ≡ exports_in r o₀ i₀)
function-stays (Err x) r r₀ r₁ r₂ o₀ o₁ o₂ i₀ i₁ i₂ m₀ m₁ f g v used e s e₂ once learns shows ok = ok
function-stays (Ok a) r r₀ r₁ r₂ o₀ o₁ o₂ i₀ i₁ i₂ m₀ m₁ f g v used e s e₂ once learns shows ok = ap (λ (z : Resolve). exports_in z o₂ i₂) (sym (e₂ ∙ ((ap (λ (z : Scope). z.packages) s) ∙ e)))
    ∙ (ap (map (λ t. (t.name, t.meaning))) ok.types_shown ∙ (shows-nothing r (encoder_scope r₀ o₀ i₀) m₀ m₁ (definitions_with (contents_of r₀ o₀ i₀)) (definitions_with (contents_of r₁ o₁ i₁))
    (MetFrom r (own_of i₀) m₀ (function_types f)) once learns (function-unnamed r v (encoder_scope r₀ o₀ i₀) m₀ f used) shows ∙ ap (λ (z : Resolve). exports_in z o₀ i₀) e))

-- what is known stays known
pub used-kept : (r : Resolve) (m m' : TypeEncodingMaps) (f : Function) → MapsGrow m m' → KnowsUsed r m f → KnowsUsed r m' f
used-kept r m m' f grow used n c = let old = used n c in (old.0, grow.keeps (by_number n) old.0 old.1)

-- functions that use types of the list alone, where these are known
pub listed-used : (r : Resolve) (m : TypeEncodingMaps) (types : List TypeId) (f : Function) → AllKnown m types → UsesListed r types f → KnowsUsed r m f
listed-used r m types f known uses n c =
    let found = contains-mapped (λ (t : TypeId). t.0) types n (uses n c) in
    subst (λ (k : ℕ). IsKnown m k) found.2 (known found.0 found.1)

-- what types have exported stays over their functions
pub exported-after : {A E : Type 0} (res : Result A E) (r r₀ r₁ : Resolve) (o₀ o₁ o₂ : Declarations) (i₀ i₁ i₂ : Option OpenInterface) (all : List (Text × TypeMeaning)) → r₀ ≡ r
    → encoder_scope r₁ o₁ i₁ ≡ encoder_scope r₀ o₀ i₀ → exports_in r₁ o₁ i₁ ≡ all → OnOk res (exports_in r o₂ i₂ ≡ exports_in r o₁ i₁) → OnOk res (exports_in r o₂ i₂ ≡ all)
exported-after x r y u v w p q t a all e s h ok = search std_rules

-- a function by its key is one of the map
pub keyed-value : (es : List (String Global × Function)) (f : Text × Function) → Contains (map keyed es) f → Contains (map (λ x. x.1) es) f.1
keyed-value es f c =
    let found = contains-mapped keyed es f c in
    subst (λ (g : Function). Contains (map (λ x. x.1) es) g) (ap (λ (z : Text × Function). z.1) found.2) (contains-map (λ x. x.1) es found.0 found.1)
