-- What stays over the functions of an interface.
use Rattle.std.proofs.Common.{◌≡◌, sym, subst, ap, ◌∙◌, ℕ, ◌&&◌, List, [], ◌∷◌, ◌++◌, Result, Ok, Err, OnOk, OnErr, Option}
use Rattle.std.specs.List.{list_all}
use Rattle.wit_model.specs.{Text.Text, Meaning.FunctionMeaning}
use Rattle.wit_model.specs.declared.model.{Resolve.Resolve, Function.Function, «Type».«Type» as ValueType}
use Rattle.comp_bytes.specs.Raw.{Declarations}
use Rattle.comp_meaning.specs.Follow.{Slot}
use Rattle.encode_types.specs.declared.maps.TypeEncodingMaps.{TypeEncodingMaps}
use Rattle.wit_encode.specs.declared.interface.OpenInterface.{OpenInterface}
use Rattle.encode_types.specs.{Maps.MapsAgree, Scope.Scope, Scope.IsImportable, Scope.IsDeclared, Fits.CanEncode, Known.GrowsAround}
use Rattle.wit_encode.specs.Instance.{SlotsStand, is_slot_of, resources_in, own_of, around_of, standing_instances, scope_from, contents_of, encoder_scope, ShowsFunction, with_functions, Continues, CanEncodeFunction}
use Rattle.encode_types.proofs.Around.{around-same, around-trans}

-- ---- what is asked of a scope doesn't hang on the functions

importable-apart : (s : Scope) (fs : List (Text × FunctionMeaning)) (i n : ℕ) → IsImportable s i n → IsImportable (with_functions s fs) i n
importable-apart s fs i n h = record { def = h.def; name = h.name; there = h.there; named_ = h.named_; owned = h.owned; stands = h.stands }

declared-apart : (s : Scope) (fs : List (Text × FunctionMeaning)) (d : Text × _) → IsDeclared s d → IsDeclared (with_functions s fs) d
declared-apart s fs d h = record { there = h.there; alike = h.alike; sound = h.sound }

pub encode-apart : (r : Resolve) (s : Scope) (fs : List (Text × FunctionMeaning)) (ts : List ValueType) → CanEncode r s ts → CanEncode r (with_functions s fs) ts
encode-apart r s fs ts c = record {
  packages_ = c.packages_;
  layered = c.layered;
  in_range = c.in_range;
  fits = λ t h n m def at. let f = c.fits t h n m def at in record {
    foreign = λ i e. importable-apart s fs i.0 n (f.foreign i e);
    unnamed = f.unnamed;
    placed = f.placed;
    declared = λ e name is. declared-apart s fs _ (f.declared e name is);
    formed = λ e d. record { sound = (f.formed e d).sound; formed = (f.formed e d).formed };
  };
}

pub function-apart : (r : Resolve) (s : Scope) (fs : List (Text × FunctionMeaning)) (f : Function) → CanEncodeFunction r s f → CanEncodeFunction r (with_functions s fs) f
function-apart r s fs f c = record { types = encode-apart r s fs _ c.types; formed = record { sound = c.formed.sound; params = c.formed.params; result_ = c.formed.result_ } }

-- ---- calls

module _ {r r' : Resolve} {outer outer' : Declarations} {inner inner' : Option OpenInterface} {m m' : TypeEncodingMaps} where
  -- a call that keeps the law
  pub continues-kept : encoder_scope r' outer' inner' ≡ encoder_scope r outer inner → MapsAgree r m' (SlotsStand (contents_of r' outer' inner').slots)
      → GrowsAround r (around_of outer inner) (around_of outer' inner') → Continues r r' outer outer' inner inner' m m'
  continues-kept s a g = record { scope_stays = λ i. with_functions (s i) (contents_of r' outer' inner').shown.functions; agree = a; around_ = g }

  pub function-continues : (f : Function) → Continues r r' outer outer' inner inner' m m' → CanEncodeFunction r (encoder_scope r outer inner) f → CanEncodeFunction r (encoder_scope r' outer' inner') f
  function-continues f c h = subst (λ (s : Scope). CanEncodeFunction r s f) (sym c.scope_stays) (function-apart r (encoder_scope r outer inner) (contents_of r' outer' inner').shown.functions f h)

  -- a function that is exported
  pub continues-shown : {f : Text × FunctionMeaning} → r' ≡ r → outer' ≡ outer → own_of inner' ≡ own_of inner → ShowsFunction (contents_of r outer inner) (contents_of r' outer' inner') f
      → MapsAgree r m (SlotsStand (contents_of r outer inner).slots) → m' ≡ m → around_of outer' inner' ≡ around_of outer inner → Continues r r' outer outer' inner inner' m m'
  continues-shown e o w s a q around =
      let sound : ((contents_of r' outer' inner').is_followed && list_all (is_slot_of (resources_in r' (own_of inner'))) (contents_of r' outer' inner').slots)
      ≡ ((contents_of r outer inner).is_followed && list_all (is_slot_of (resources_in r (own_of inner))) (contents_of r outer inner).slots) =
      (λ i. s.followed i && list_all (is_slot_of (resources_in (e i) (w i))) (s.slots i)) in
      record {
        scope_stays = λ i. scope_from (e i) (w i) (standing_instances (e i) (around i)) (contents_of r' outer' inner').shown.functions (sound i);
        agree = subst (λ (z : TypeEncodingMaps). MapsAgree r z (SlotsStand (contents_of r' outer' inner').slots)) (sym q) (subst (λ (xs : List Slot). MapsAgree r m (SlotsStand xs)) (sym s.slots) a);
        around_ = around-same around;
      }

pub continues-trans : {r r' r'' : Resolve} {outer outer' outer'' : Declarations} {inner inner' inner'' : Option OpenInterface} {m m' m'' : TypeEncodingMaps}
    → Continues r r' outer outer' inner inner' m m' → Continues r' r'' outer' outer'' inner' inner'' m' m'' → r' ≡ r → Continues r r'' outer outer'' inner inner'' m m''
continues-trans {r} {r'} {r''} {outer} {outer'} {outer''} {inner} {inner'} {inner''} {m} {m'} {m''} p q e = record {
  scope_stays = q.scope_stays ∙ (λ i. with_functions (p.scope_stays i) (contents_of r'' outer'' inner'').shown.functions);
  agree = subst (λ (z : Resolve). MapsAgree z m'' (SlotsStand (contents_of r'' outer'' inner'').slots)) e q.agree;
  around_ = around-trans p.around_ (subst (λ (z : Resolve). GrowsAround z (around_of outer' inner') (around_of outer'' inner'')) e q.around_);
}

-- a function: its type, and then its export
pub record Showed {A E : Type 0} (res : Result A E) (r : Resolve) (o₀ o₂ : Declarations) (i₀ i₂ : Option OpenInterface) (m₀ m₂ : TypeEncodingMaps) (f : Text × FunctionMeaning) : Type 0 where
  pub continues : Continues r r o₀ o₂ i₀ i₂ m₀ m₂
  pub shows : OnOk res ((contents_of r o₂ i₂).shown.functions ≡ (contents_of r o₀ i₀).shown.functions ++ f ∷ [])

pub function-showed : {A E : Type 0} (res : Result A E) (r r₀ r₁ r₂ : Resolve) (o₀ o₁ o₂ : Declarations) (i₀ i₁ i₂ : Option OpenInterface) (m₀ m₁ m₂ : TypeEncodingMaps) (f g : Text × FunctionMeaning)
    → r₀ ≡ r → encoder_scope r₁ o₁ i₁ ≡ encoder_scope r₀ o₀ i₀ → MapsAgree r m₁ (SlotsStand (contents_of r₁ o₁ i₁).slots) → GrowsAround r₀ (around_of o₀ i₀) (around_of o₁ i₁) → r₂ ≡ r₁ → o₂ ≡ o₁
    → own_of i₂ ≡ own_of i₁ → around_of o₂ i₂ ≡ around_of o₁ i₁ → m₂ ≡ m₁ → g ≡ f → OnOk res (ShowsFunction (contents_of r₁ o₁ i₁) (contents_of r₂ o₂ i₂) g) → OnErr res (i₂ ≡ i₁)
    → Showed res r o₀ o₂ i₀ i₂ m₀ m₂ f
function-showed res r r₀ r₁ r₂ o₀ o₁ o₂ i₀ i₁ i₂ m₀ m₁ m₂ f g e s agree grown e₂ eo ei around em eg ok err =
    let e₁ : r₁ ≡ r₀ = ap (λ (z : Scope). z.packages) s in
    let agree₁ : MapsAgree r₁ m₁ (SlotsStand (contents_of r₁ o₁ i₁).slots) = subst (λ (z : Resolve). MapsAgree z m₁ (SlotsStand (contents_of r₁ o₁ i₁).slots)) (sym (e₁ ∙ e)) agree in
    let first : Continues r₀ r₁ o₀ o₁ i₀ i₁ m₀ m₁ = continues-kept s (subst (λ (z : Resolve). MapsAgree z m₁ (SlotsStand (contents_of r₁ o₁ i₁).slots)) e₁ agree₁) grown in
    let all : Continues r₀ r₂ o₀ o₂ i₀ i₂ m₀ m₂ = continues-trans first (second res agree₁ ok err) e₁ in
    let here : r₂ ≡ r = e₂ ∙ (e₁ ∙ e) in
    record { continues = subst (λ (z : Resolve). Continues z r o₀ o₂ i₀ i₂ m₀ m₂) e (subst (λ (z : Resolve). Continues r₀ z o₀ o₂ i₀ i₂ m₀ m₂) here all); shows = more res here ok }
  where
    second : {A E : Type 0} (res : Result A E) → MapsAgree r₁ m₁ (SlotsStand (contents_of r₁ o₁ i₁).slots) → OnOk res (ShowsFunction (contents_of r₁ o₁ i₁) (contents_of r₂ o₂ i₂) g)
        → OnErr res (i₂ ≡ i₁) → Continues r₁ r₂ o₁ o₂ i₁ i₂ m₁ m₂
    second (Ok a) agree ok err = continues-shown e₂ eo ei ok agree em around
    second (Err x) agree ok err = record {
      scope_stays = λ j. with_functions (encoder_scope (e₂ j) (eo j) (err j)) (contents_of r₂ o₂ i₂).shown.functions;
      agree = subst (λ (z : TypeEncodingMaps). MapsAgree r₁ z (SlotsStand (contents_of r₂ o₂ i₂).slots)) (sym em)
          (subst (λ (xs : List Slot). MapsAgree r₁ m₁ (SlotsStand xs)) (λ j. (contents_of (sym e₂ j) (sym eo j) (sym err j)).slots) agree);
      around_ = around-same around;
    }

    more : {A E : Type 0} (res : Result A E) → r₂ ≡ r → OnOk res (ShowsFunction (contents_of r₁ o₁ i₁) (contents_of r₂ o₂ i₂) g)
        → OnOk res ((contents_of r o₂ i₂).shown.functions ≡ (contents_of r o₀ i₀).shown.functions ++ f ∷ [])
    more (Ok a) here ok = ap (λ (z : Resolve). (contents_of z o₂ i₂).shown.functions) (sym here) ∙ ok.functions_shown
        ∙ (λ j. ((ap (λ (z : Scope). z.functions) s ∙ ap (λ (z : Resolve). (contents_of z o₀ i₀).shown.functions) e) j) ++ eg j ∷ [])
    more (Err x) here ok = ok

-- what types leave goes on to their functions
pub after-types : (r r₀ r₁ : Resolve) (o₀ o₁ : Declarations) (i₀ i₁ : Option OpenInterface) (m₀ m₁ : TypeEncodingMaps) → r₀ ≡ r → encoder_scope r₁ o₁ i₁ ≡ encoder_scope r₀ o₀ i₀
    → MapsAgree r m₁ (SlotsStand (contents_of r₁ o₁ i₁).slots) → GrowsAround r₀ (around_of o₀ i₀) (around_of o₁ i₁) → Continues r r o₀ o₁ i₀ i₁ m₀ m₁
after-types r r₀ r₁ o₀ o₁ i₀ i₁ m₀ m₁ e s agree grown =
    let e₁ : r₁ ≡ r₀ = ap (λ (z : Scope). z.packages) s in
    let first : Continues r₀ r₁ o₀ o₁ i₀ i₁ m₀ m₁ = continues-kept s (subst (λ (z : Resolve). MapsAgree z m₁ (SlotsStand (contents_of r₁ o₁ i₁).slots)) (sym e) agree) grown in
    subst (λ (z : Resolve). Continues z r o₀ o₁ i₀ i₁ m₀ m₁) e (subst (λ (z : Resolve). Continues r₀ z o₀ o₁ i₀ i₁ m₀ m₁) (e₁ ∙ e) first)

pub same-scope : (r r₀ r₁ : Resolve) (o₀ o₁ : Declarations) (i₀ i₁ : Option OpenInterface) → r₀ ≡ r → encoder_scope r₁ o₁ i₁ ≡ encoder_scope r₀ o₀ i₀ → encoder_scope r₀ o₀ i₀ ≡ encoder_scope r o₁ i₁
same-scope r r₀ r₁ o₀ o₁ i₀ i₁ e s = sym s ∙ ap (λ (z : Resolve). encoder_scope z o₁ i₁) (ap (λ (z : Scope). z.packages) s ∙ e)
