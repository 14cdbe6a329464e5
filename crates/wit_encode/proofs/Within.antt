-- The calls of an encoder of interfaces, by whether it is encoding one.
use Rattle.std.proofs.Common.{rules as std_rules, ◌≡◌, sym, subst, ℕ, List, [], ◌∷◌, ◌++◌, length, Result, IfOk, OnOk, OnErr, Option, Some, None}
use Rattle.wit_model.specs.{Tree.Tree, Tree.named, Meaning.Signature}
use Rattle.wit_model.specs.declared.model.Resolve.{Resolve}
use Rattle.comp_bytes.specs.declared.forms.{ComponentDefinedType.ComponentDefinedType, ComponentFuncType.ComponentFuncType}
use Rattle.comp_bytes.specs.{Raw.Declaration, Raw.Declarations, Raw.ExternName, Raw.append, RawOf.raw_defined, RawOf.raw_function}
use Rattle.comp_bytes.specs.Held.{type_slots, type_slots_of}
use Rattle.wit_encode.specs.declared.interface.OpenInterface.{OpenInterface}
use Rattle.encode_types.specs.{Counts.Definitions, Counts.one_type_more, Counts.one_function_more, Counts.ExportsOne, Formed.IsFormed, Formed.IsFormedSignature}
use Rattle.encode_types.specs.Slots.{Standing, Pairs, SlotAdded, tree, Follows, FollowsFunction, Defines, DefinesFunction}
use Rattle.encode_types.specs.Scope.{DeclaresSlot, DeclaresResource}
use Rattle.wit_encode.specs.Instance.{SlotsStand, around_at, contents_of, encoder_scope, definitions_with}
use Rattle.wit_encode.proofs.Calls.{Calls, defined-inside, function-inside, type-inside, resource-inside}
use Rattle.wit_encode.proofs.Outside.{defined-outside, function-outside}
use Rattle.comp_bytes.specs.declared.forms.ComponentTypeRef.TheVariants as refs

-- a call that takes the encoder from one state to another
abbrev pub CallsTo : {E : Type 0} → Result ℕ E → Resolve → Declarations → Option OpenInterface → Declarations → Option OpenInterface → (Standing → Type 0) → Type 0 → Type 0
CallsTo res r outer inner outer' inner' P counts = Calls res (encoder_scope r outer inner) (encoder_scope r outer' inner') (contents_of r outer inner) (contents_of r outer' inner') P counts

abbrev pub CanDefine : Resolve → Declarations → Option OpenInterface → ComponentDefinedType → Type 0
CanDefine r outer inner d = (t : Tree) × Follows (SlotsStand (contents_of r outer inner).slots) d t × IsFormed (encoder_scope r outer inner) t

abbrev pub CanDefineFunction : Resolve → Declarations → Option OpenInterface → ComponentFuncType → Type 0
CanDefineFunction r outer inner d = (s : Signature) × FollowsFunction (SlotsStand (contents_of r outer inner).slots) d s × IsFormedSignature (encoder_scope r outer inner) s

abbrev DefinesTo : {E : Type 0} → Result ℕ E → Resolve → Declarations → Option OpenInterface → Declarations → Option OpenInterface → ComponentDefinedType → Type 0
DefinesTo res r outer inner outer' inner' d = CallsTo res r outer inner outer' inner' (Defines (SlotsStand (contents_of r outer inner).slots) d)
    (definitions_with (contents_of r outer' inner') ≡ one_type_more (length (contents_of r outer inner).slots) (definitions_with (contents_of r outer inner)))

abbrev DefinesFunctionTo : {E : Type 0} → Result ℕ E → Resolve → Declarations → Option OpenInterface → Declarations → Option OpenInterface → ComponentFuncType → Type 0
DefinesFunctionTo res r outer inner outer' inner' d = CallsTo res r outer inner outer' inner' (DefinesFunction (SlotsStand (contents_of r outer inner).slots) d)
    (definitions_with (contents_of r outer' inner') ≡ one_function_more (length (contents_of r outer inner).slots) (definitions_with (contents_of r outer inner)))

abbrev ShowsTo : {E : Type 0} → Result ℕ E → Resolve → Declarations → Option OpenInterface → Option OpenInterface → Option ℕ → ExternName → Type 0
ShowsTo res r outer inner inner' slot name = CallsTo res r outer inner outer inner' (λ m. m ≡ tree (named (encoder_scope r outer inner).place name.text))
    (ExportsOne (encoder_scope r outer inner) (definitions_with (contents_of r outer inner)) (definitions_with (contents_of r outer inner')) slot name)

-- a definition, by the slot that is answered for it
pub slot-defined : {E : Type 0} (res : Result ℕ E) (S S' : Pairs) (n n' : ℕ) (P : Standing → Type 0) (d d' : Definitions) → IfOk res (λ k. SlotAdded S S' n n' k P) → OnOk res (d' ≡ one_type_more n d)
    → IfOk res (λ k. d' ≡ one_type_more k d)
slot-defined x y z n n' u d d' a e = search std_rules

-- the type of a function, likewise
pub slot-function : {E : Type 0} (res : Result ℕ E) (S S' : Pairs) (n n' : ℕ) (P : Standing → Type 0) (d d' : Definitions) → IfOk res (λ k. SlotAdded S S' n n' k P)
    → OnOk res (d' ≡ one_function_more n d) → IfOk res (λ k. d' ≡ one_function_more k d)
slot-function x y z n n' u d d' a e = search std_rules

module _ {E : Type 0} (res : Result ℕ E) (r : Resolve) (outer : Declarations) (inner : Option OpenInterface) where
  module _ (current : OpenInterface) (ds' : List Declaration) (is : inner ≡ Some current) where
    abbrev next : Option OpenInterface
    next = Some (record current { declared = ds' })

    pub defined-within : (d : ComponentDefinedType) → CanDefine r outer inner d
        → IfOk res (λ k. (k ≡ type_slots current.declared) × (ds' ≡ current.declared ++ Declaration.defined (raw_defined d) ∷ [])) → OnErr res (ds' ≡ current.declared)
        → DefinesTo res r outer inner outer next d
    defined-within d q ok err = subst (λ (o : Option OpenInterface). CanDefine r outer o d → DefinesTo res r outer o outer next d) (sym is)
        (λ q. defined-inside res r current.interface (around_at outer current.foreign) current.declared ds' q.2.sound d q.0 q.1 q.2 ok err) q

    pub function-within : (d : ComponentFuncType) → CanDefineFunction r outer inner d
        → IfOk res (λ k. (k ≡ type_slots current.declared) × (ds' ≡ current.declared ++ Declaration.function (raw_function d) ∷ [])) → OnErr res (ds' ≡ current.declared)
        → DefinesFunctionTo res r outer inner outer next d
    function-within d q ok err = subst (λ (o : Option OpenInterface). CanDefineFunction r outer o d → DefinesFunctionTo res r outer o outer next d) (sym is)
        (λ q. function-inside res r current.interface (around_at outer current.foreign) current.declared ds' q.2.sound d q.0 q.1 q.2 ok err) q

    pub type-within : (k : ℕ) (name : ExternName) → DeclaresSlot (encoder_scope r outer inner) (SlotsStand (contents_of r outer inner).slots) name k
        → IfOk res (λ k'. (k' ≡ type_slots current.declared) × (ds' ≡ current.declared ++ Declaration.exported name (refs.TypeEq k) ∷ [])) → OnErr res (ds' ≡ current.declared)
        → ShowsTo res r outer inner next (Some k) name
    type-within k name q ok err = subst (λ (o : Option OpenInterface). DeclaresSlot (encoder_scope r outer o) (SlotsStand (contents_of r outer o).slots) name k
        → ShowsTo res r outer o next (Some k) name) (sym is) (λ q. type-inside res r current.interface (around_at outer current.foreign) current.declared ds' q.declared.sound k name q ok err) q

    pub resource-within : (name : ExternName) → DeclaresResource (encoder_scope r outer inner) name
        → IfOk res (λ k'. (k' ≡ type_slots current.declared) × (ds' ≡ current.declared ++ Declaration.exported name refs.SubResource ∷ [])) → OnErr res (ds' ≡ current.declared)
        → ShowsTo res r outer inner next None name
    resource-within name q ok err = subst (λ (o : Option OpenInterface). DeclaresResource (encoder_scope r outer o) name → ShowsTo res r outer o next None name) (sym is)
        (λ q. resource-inside res r current.interface (around_at outer current.foreign) current.declared ds' q.declared.sound name q ok err) q

  module _ (outer' : Declarations) (is : inner ≡ None) where
    pub defined-without : (d : ComponentDefinedType) → CanDefine r outer inner d
        → IfOk res (λ k. (k ≡ type_slots_of outer) × (outer' ≡ append outer (Declarations.declares (Declaration.defined (raw_defined d)) Declarations.no_more))) → OnErr res (outer' ≡ outer)
        → DefinesTo res r outer inner outer' inner d
    defined-without d q ok err = subst (λ (o : Option OpenInterface). CanDefine r outer o d → DefinesTo res r outer o outer' o d) (sym is)
        (λ q. defined-outside res r outer outer' q.2.sound d q.0 q.1 q.2 ok err) q

    pub function-without : (d : ComponentFuncType) → CanDefineFunction r outer inner d
        → IfOk res (λ k. (k ≡ type_slots_of outer) × (outer' ≡ append outer (Declarations.declares (Declaration.function (raw_function d)) Declarations.no_more))) → OnErr res (outer' ≡ outer)
        → DefinesFunctionTo res r outer inner outer' inner d
    function-without d q ok err = subst (λ (o : Option OpenInterface). CanDefineFunction r outer o d → DefinesFunctionTo res r outer o outer' o d) (sym is)
        (λ q. function-outside res r outer outer' q.2.sound d q.0 q.1 q.2 ok err) q
