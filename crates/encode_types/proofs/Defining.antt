-- What is defined, call by call.
use Rattle.std.proofs.Common.{rules as std_rules, ◌≡◌, refl, sym, subst, ap, ◌∙◌, ℕ, ◌+◌, inl, inr, append_assoc, append-nil, Bool, true, false, List, [], ◌∷◌, ◌++◌, Result, IfOk, Option, Some, None, length, length-append, arith, map}
use Rattle.std.proofs.lemmas.List.{map-append, length-map, Sorted.IsPermutation-refl, Sorted.length_permutation, Elements.Contains-append_cases, Elements.filter_map-append}
use Rattle.wit_model.specs.{Tree.Tree, Types.trees_of, Types.tree_of, Meaning.TypeMeaning, Text.Text, Text.text_of}
use Rattle.wit_model.specs.declared.model.{Resolve.Resolve, TypeId.TypeId, TypeDefKind.TypeDefKind, «Type».«Type» as ValueType, Param.Param}
use Rattle.std.specs.{Borrow.Bor, List.AllZip, List.cons_option, Prelude.IsPermutation}
use Rattle.comp_bytes.specs.Raw.{ExternName}
use Rattle.comp_bytes.specs.declared.forms.{ComponentValType.ComponentValType, ComponentDefinedType.ComponentDefinedType}
use Rattle.encode_types.specs.declared.maps.TypeEncodingMaps.{TypeEncodingMaps}
use Rattle.encode_types.specs.Slots.{Pairs, Standing, tree, Keeps, SlotAdded, StandsFor, StandsForOptional, NamedStands, Follows}
use Rattle.encode_types.specs.{Kinds.kind_tree, Scope.Scope, Known.GrowsAround, Definition.FollowsKind, Definition.IsWrittenParam, View.View, View.Agrees, View.Grows, Leaves.Leaves, Leaves.LeavesSlots}
use Rattle.encode_types.specs.Maps.{Says, Holds, MapsAgree, IsWritten, HasKind, by_kind, LearnsNumber, LearnsList}
use Rattle.encode_types.specs.Counts.{Definitions, one_type_more, type_more_if, is_defined_by_name, own_name, ExportsOne, Shows, IsTarget, AddsTypes}
use Rattle.encode_types.proofs.{Lists.none-in, Around.around-same, Around.around-trans, Written.written-stands}
use Rattle.encode_types.proofs.Marking.{more-then, slots-none, slots-then, slots-kind, slots-number, slots-named}
use Rattle.wit_model.proofs.Elements.{zip-along}
use Rattle.base_lemmas.proofs.Elements.{zip-kept}
use Rattle.comp_bytes.specs.declared.forms.ComponentValType.TheVariants as v

-- ---- more pairs

pub stands-more : (S S' : Pairs) → Keeps S S' → (x : ComponentValType) (t : Tree) → StandsFor S x t → StandsFor S' x t
stands-more x y k z t h = search std_rules

pub optional-more : (S S' : Pairs) → Keeps S S' → (x : Option ComponentValType) (t : Option Tree) → StandsForOptional S x t → StandsForOptional S' x t
optional-more y z k u v h = search std_rules

pub follows-more : (S S' : Pairs) → Keeps S S' → (d : ComponentDefinedType) (t : Tree) → Follows S d t → Follows S' d t
follows-more z v k p t h = search (std_rules, zip-kept, stands-more, optional-more)

-- ---- with maps that agree

pub says-kept : (r : Resolve) (m : TypeEncodingMaps) (S : Pairs) → MapsAgree r m S → Keeps (Says r m) S
says-kept r m S a i s (k, h, e) = subst (λ (z : Standing). S i z) (sym e) (a.says k i h)

pub value-stands : (r : Resolve) (m : TypeEncodingMaps) (S : Pairs) (x : ComponentValType) (t : ValueType) → MapsAgree r m S → IsWritten m x t → StandsFor S x (tree_of (trees_of r) t)
value-stands r m S x t a w = stands-more (Says r m) S (says-kept r m S a) x _ (written-stands r m x t w)

pub definition-stands : (r : Resolve) (m : TypeEncodingMaps) (S : Pairs) (k : TypeDefKind) (d : ComponentDefinedType) → MapsAgree r m S → FollowsKind m k d → Follows S d (kind_tree r k)
definition-stands r m S k d a h = follows-more (Says r m) S (says-kept r m S a) d _ (h r)

pub params-stand : (r : Resolve) (m : TypeEncodingMaps) (S : Pairs) (xs : List (Bor Text × ComponentValType)) (ps : List Param) → MapsAgree r m S → AllZip (IsWrittenParam m) xs ps
    → AllZip (NamedStands S) xs (map (λ p. (text_of p.name, tree_of (trees_of r) p.ty)) ps)
params-stand r m S xs ps a z = zip-along (IsWrittenParam m) (NamedStands S) (λ p. (text_of p.name, tree_of (trees_of r) p.ty)) (λ x p w. (w.0, value-stands r m S x.1 p.ty a w.1)) xs ps z

pub adds-ok : {E : Type 0} (x : Result ℕ E) (S S' : Pairs) (n n' : ℕ) (P : Standing → Type 0) (m : Standing) → IfOk x (λ i. SlotAdded S S' n n' i P) → P m → IfOk x (λ i. S' i m)
adds-ok x y z n n' u m h p = search std_rules

-- a kind that is known has the tree
pub kind-stands : (r : Resolve) (m : TypeEncodingMaps) (S : Pairs) (k : TypeDefKind) (i : ℕ) → MapsAgree r m S → HasKind m k i → S i (tree (kind_tree r k))
kind-stands r m S k i a h = a.says (by_kind k) i h

-- ---- counts

pub lists-longer : {K : Type 0} (f : K → List ℕ) (es fs : List (K × ℕ)) (x : List ℕ × ℕ)
    → IsPermutation (map {B = List ℕ × ℕ} (λ e. (f e.0, e.1)) es ++ x ∷ []) (map {B = List ℕ × ℕ} (λ e. (f e.0, e.1)) fs) → length fs ≡ length es + 1
lists-longer f es fs x p = search (std_rules, length-map, length_permutation, length-append)

pub shows-none : (r : Resolve) (scope : Scope) (m m' : TypeEncodingMaps) (d d' : Definitions) → m'.id_to_index.entries ≡ m.id_to_index.entries → d'.exports ≡ d.exports → Shows r scope m m' d d'
shows-none r scope m m' d d' e f = record {
  learnt = [];
  shown = [];
  numbers = subst (λ (es : List (ℕ × ℕ)). IsPermutation (m.id_to_index.entries ++ []) es) (append-nil m.id_to_index.entries ∙ sym e) (IsPermutation-refl _);
  exports = f ∙ sym (append-nil d.exports);
  declared = λ x c. none-in x c;
  names = refl;
}

pub shows-trans : {r : Resolve} {scope : Scope} {a b c : TypeEncodingMaps} {d e f : Definitions} → Shows r scope a b d e → Shows r scope b c e f → Shows r scope a c d f
shows-trans {r} {scope} {a} {b} {c} {d} {e} {f} p q = record {
  learnt = p.learnt ++ q.learnt;
  shown = p.shown ++ q.shown;
  numbers = more-then a.id_to_index.entries b.id_to_index.entries c.id_to_index.entries p.learnt q.learnt p.numbers q.numbers;
  exports = q.exports ∙ ap (λ xs. xs ++ q.shown) p.exports ∙ append_assoc d.exports p.shown q.shown;
  declared = λ x h. elim (Contains-append_cases p.shown q.shown x h) [ inl y ↦ p.declared x y | inr y ↦ q.declared x y ];
  names = map-append (λ (x : Text × TypeMeaning). x.0) p.shown q.shown ∙ (λ i. p.names i ++ q.names i) ∙ sym (filter_map-append (λ e. own_name r scope e.0) p.learnt q.learnt);
}

one-name : (o : Option Text) (t : Text) → o ≡ Some t → cons_option o [] ≡ t ∷ []
one-name o t e = ap (λ x. cons_option x []) e

-- a number that shows nothing
shows-unshown : (r : Resolve) (scope : Scope) (m m' : TypeEncodingMaps) (d d' : Definitions) (id : TypeId) (i : ℕ) → LearnsNumber m m' id i → own_name r scope id.0 ≡ None → d'.exports ≡ d.exports
    → Shows r scope m m' d d'
shows-unshown r scope m m' d d' id i l n e = search std_rules

-- a number that is shown by its name
shows-shown : (r : Resolve) (scope : Scope) (m m' : TypeEncodingMaps) (d d₁ d' : Definitions) (id : TypeId) (i : ℕ) {slot : Option ℕ} (name : ExternName) → LearnsNumber m m' id i
    → own_name r scope id.0 ≡ Some name.text → d₁.exports ≡ d.exports → ExportsOne scope d₁ d' slot name → Shows r scope m m' d d'
shows-shown r scope m m' d d₁ d' id i name l n e x = search std_rules

pub counts-none : (r : Resolve) (scope : Scope) (m : TypeEncodingMaps) (d : Definitions) → AddsTypes r scope m m d d
counts-none r scope m d = search (std_rules, slots-none, shows-none)

pub counts-trans : {r : Resolve} {scope scope' : Scope} {a b c : TypeEncodingMaps} {d e f : Definitions} → scope' ≡ scope → AddsTypes r scope a b d e → AddsTypes r scope' b c e f
    → AddsTypes r scope a c d f
counts-trans {r} {scope} {scope'} {a} {b} {c} {d} {e} {f} s p q =
    let q' : AddsTypes r scope b c e f = subst (λ (z : Scope). AddsTypes r z b c e f) s q in
    record {
      slots = slots-then p.slots q'.slots;
      functions = q'.functions ∙ p.functions;
      keys = record {
        lists = q'.keys.lists ∙ p.keys.lists;
        names_ = q'.keys.names_ ∙ p.keys.names_;
        units =
            record { future_ = q'.keys.units.future_ ∙ p.keys.units.future_; stream_ = q'.keys.units.stream_ ∙ p.keys.units.stream_ };
      };
      shows = shows-trans p.shows q'.shows;
    }

-- an unnamed kind, in slot i
pub counts-kind : (r : Resolve) (scope : Scope) (m m' : TypeEncodingMaps) (d d' : Definitions) (xs : List ℕ) (i : ℕ) → LearnsList m m' xs i → d' ≡ one_type_more i d → AddsTypes r scope m m' d d'
counts-kind r scope m m' d d' xs i l e = record {
  slots = slots-kind r scope m m' d d' xs i l (ap (λ (z : Definitions). z.types) e) (ap (λ (z : Definitions). z.exported) e);
  functions = ap (λ (z : Definitions). z.functions) e;
  keys = record { lists = l.rest.keys; names_ = l.rest.names_; units = record { future_ = l.rest.unit_future_; stream_ = l.rest.unit_stream_ } };
  shows = shows-none r scope m m' d d' l.rest.numbers (ap (λ (z : Definitions). z.exports) e);
}

-- a number that has no definition and is exported under no name
pub counts-number : (r : Resolve) (scope : Scope) (m m' : TypeEncodingMaps) (d d' : Definitions) (id : TypeId) (i : ℕ) → LearnsNumber m m' id i → own_name r scope id.0 ≡ None
    → is_defined_by_name r scope id.0 ≡ false → d' ≡ d → AddsTypes r scope m m' d d'
counts-number r scope m m' d d' id i l n b e = record {
  slots = slots-number r scope m m' d d' id i l b (ap (λ (z : Definitions). z.types) e) (ap (λ (z : Definitions). z.exported) e);
  functions = ap (λ (z : Definitions). z.functions) e;
  keys = record { lists = l.rest.keys; names_ = l.rest.names_; units = record { future_ = l.rest.unit_future_; stream_ = l.rest.unit_stream_ } };
  shows = shows-unshown r scope m m' d d' id i l n (ap (λ (z : Definitions). z.exports) e);
}

-- a resource
pub counts-resource : (r : Resolve) (scope : Scope) (m m' : TypeEncodingMaps) (d d' : Definitions) (id : TypeId) (i : ℕ) (name : ExternName) → LearnsNumber m m' id i
    → own_name r scope id.0 ≡ Some name.text → is_defined_by_name r scope id.0 ≡ false → ExportsOne scope d d' None name → AddsTypes r scope m m' d d'
counts-resource r scope m m' d d' id i name l n b x = record {
  slots = slots-number r scope m m' d d' id i l b (ap (λ (z : Definitions). z.types) x.one_more) (ap (λ (z : Definitions). z.exported) x.one_more ∙ append-nil d.exported);
  functions = ap (λ (z : Definitions). z.functions) x.one_more;
  keys = record { lists = l.rest.keys; names_ = l.rest.names_; units = record { future_ = l.rest.unit_future_; stream_ = l.rest.unit_stream_ } };
  shows = shows-shown r scope m m' d d d' id i name l n refl x;
}

-- a definition that is or isn't added changes nothing but the types
same-but-types : (b : Bool) (i : ℕ) (d : Definitions) → ((type_more_if b i d).exported ≡ d.exported) × ((type_more_if b i d).functions ≡ d.functions) × ((type_more_if b i d).exports ≡ d.exports)
same-but-types false i d = (refl, refl, refl)
same-but-types true i d = (refl, refl, refl)

-- a number whose name is exported from slot j: that of its definition, or of what it is another name of
pub counts-named : (r : Resolve) (scope : Scope) (m m' : TypeEncodingMaps) (d d₁ d' : Definitions) (id : TypeId) (i j : ℕ) (b : Bool) (name : ExternName) → LearnsNumber m m' id i
    → own_name r scope id.0 ≡ Some name.text → is_defined_by_name r scope id.0 ≡ b → d₁ ≡ type_more_if b j d
    → ExportsOne scope d₁ d' (Some j) name → (b ≡ false → IsTarget r m j) → AddsTypes r scope m m' d d'
counts-named r scope m m' d d₁ d' id i j b name l n q e x target = record {
  slots = slots-named r scope m m' d d' id i l j b q (ap (λ (z : Definitions). z.types) x.one_more ∙ ap (λ (z : Definitions). z.types) e)
      (ap (λ (z : Definitions). z.exported) x.one_more ∙ ap (λ (z : Definitions). z.exported ++ j ∷ []) e ∙ ap (λ xs. xs ++ j ∷ []) (same-but-types b j d).0) target;
  functions = ap (λ (z : Definitions). z.functions) x.one_more ∙ ap (λ (z : Definitions). z.functions) e ∙ (same-but-types b j d).1;
  keys = record { lists = l.rest.keys; names_ = l.rest.names_; units = record { future_ = l.rest.unit_future_; stream_ = l.rest.unit_stream_ } };
  shows = shows-shown r scope m m' d d₁ d' id i name l n (ap (λ (z : Definitions). z.exports) e ∙ (same-but-types b j d).2) x;
}

-- ---- what calls leave

pub leaves-kept : {r : Resolve} {v v' : View} → Agrees r v → Grows v v' → v'.scope ≡ v.scope → v'.maps ≡ v.maps → Leaves r v v'
leaves-kept {r} {v} {v'} a g s e = record {
  agree = subst (λ (z : TypeEncodingMaps). MapsAgree r z v'.stands) (sym e) (record { says = λ k i h. g.kept i _ (a.says k i h); once = a.once });
  maps_grow = record { keeps = λ k i h. subst (λ (z : TypeEncodingMaps). Holds z k i) (sym e) h };
  units = record { future_ = ap (λ (z : TypeEncodingMaps). z.unit_future) e; stream_ = ap (λ (z : TypeEncodingMaps). z.unit_stream) e };
  grows = g;
  scope_stays = s;
}

-- nothing has been done
pub leaves-none : {r : Resolve} {v : View} → Agrees r v → Leaves r v v
leaves-none {r} {v} a = leaves-kept {v = v} {v' = v} a (record { kept = λ i s h. h; more = omega arith; around_ = around-same refl; own_ = λ ns h. h }) refl refl

grows-trans : {v v' v'' : View} → v'.scope ≡ v.scope → Grows v v' → Grows v' v'' → Grows v v''
grows-trans {v} {v'} {v''} s p q = record {
  kept = λ i x h. q.kept i x (p.kept i x h);
  more = (let x = p.more in let y = q.more in omega arith);
  around_ = around-trans p.around_ (subst (λ (z : Scope). GrowsAround z.packages v'.around v''.around) s q.around_);
  own_ = λ ns h. q.own_ ns (p.own_ ns h);
}

pub leaves-trans : {r : Resolve} {v v' v'' : View} → Leaves r v v' → Leaves r v' v'' → Leaves r v v''
leaves-trans p q = record {
  agree = q.agree;
  maps_grow = record { keeps = λ k i h. q.maps_grow.keeps k i (p.maps_grow.keeps k i h) };
  units = record { future_ = q.units.future_ ∙ p.units.future_; stream_ = q.units.stream_ ∙ p.units.stream_ };
  grows = grows-trans p.scope_stays p.grows q.grows;
  scope_stays = q.scope_stays ∙ p.scope_stays;
}

-- with a call behind it that leaves the maps, or before it
pub leaves-beside : {r : Resolve} {v v' v'' : View} → Leaves r v v' → Grows v' v'' → v''.scope ≡ v'.scope → v''.maps ≡ v'.maps → Leaves r v v''
leaves-beside {r} {v} {v'} {v''} p g s e = leaves-trans p (leaves-kept {v = v'} {v' = v''} p.agree g s e)

pub leaves-before : {r : Resolve} {v v' v'' : View} → Leaves r v' v'' → Agrees r v → Grows v v' → v'.scope ≡ v.scope → v'.maps ≡ v.maps → Leaves r v v''
leaves-before {r} {v} {v'} {v''} q a g s e = leaves-trans (leaves-kept {v = v} {v' = v'} a g s e) q

-- with a call behind it that fills one of the two caches
pub leaves-fill : {r : Resolve} {v v' v'' : View} → Leaves r v v' → LeavesSlots r v' v'' → LeavesSlots r v v''
leaves-fill p q = record {
  agree = q.agree;
  maps_grow = record { keeps = λ k i h. q.maps_grow.keeps k i (p.maps_grow.keeps k i h) };
  grows = grows-trans p.scope_stays p.grows q.grows;
  scope_stays = q.scope_stays ∙ p.scope_stays;
}
