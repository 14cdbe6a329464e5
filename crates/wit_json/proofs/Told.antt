-- Entries, told from their tokens.
use Rattle.std.proofs.Common.{◌≡◌, ◌∙◌, sym, ap, ℕ, List, [], ◌∷◌, ◌++◌, map, refl, codes, Option, Some, None, option_map}
use Rattle.std.proofs.lemmas.{Bool.true≢false, Fmt.decimal_injective}
use Rattle.std.specs.{Prelude.if◌then◌else◌, Prelude.⊤, List.AllByRecursion, Str.Parse.digits_value}
use Rattle.indexmap.specs.IndexMap.{values}
use Rattle.json.specs.Token.{Token, begin_object, end_object, begin_array, end_array, key, string, number, null}
use Rattle.wit_model.specs.declared.model.{Resolve.Resolve, Package.Package, WorldId.WorldId, TypeDef.TypeDef, Function.Function, Param.Param}
use Rattle.wit_model.specs.declared.model.{PackageId.PackageId, Interface.Interface, WorldKey.WorldKey, WorldItem.WorldItem, TypeId.TypeId, TypeOwner.TypeOwner}
use Rattle.wit_model.specs.declared.model.{PackageName.PackageName, InterfaceId.InterfaceId, World.World, «Type».«Type» as ValueType, FunctionKind.FunctionKind}
use Rattle.wit_model.specs.{Text.Text, Text.text_of, Text.text_eq, Text.optional_text, Lookup.key_text, Lookup.optional_version_text}
use Rattle.wit_json.specs.Bare.{BareFunction, BareInterface, BareItem, BareKind, BarePackage, BareResolve, BareType, BareWorld, bare_entry, bare_function, bare_interface, bare_item, bare_kind, bare_package, bare_type, bare_world}
use Rattle.wit_json.specs.Bare.BareItem.{interface, function, type_}
use Rattle.wit_json.specs.Listed.{entry_tokens, external_member, function_kind_tokens, function_tokens, interface_tokens, item_tokens, kind_tokens, listed, member, number_entry, number_or_null, number_token, owner_tokens, package_name_tokens, package_tokens, param_tokens, text_or_null, tokens_of, type_or_null, type_tokens, world_tokens}
use Rattle.wit_json.specs.Small.{HasSmallFunction, HasSmallInterface, HasSmallItem, HasSmallNumbers, HasSmallPackage, HasSmallType, HasSmallWorld, IsSmall, IsSmallFunctionKind, IsSmallHome, IsSmallKind, IsSmallOwner, IsSmallType, NothingElseIsLost, TextsTell}
use Rattle.wit_json.proofs.Codes.{Begins, Tells, TellsToken, begins_object, tells_all, tells_as, tells_before, tells_behind, tells_of, tells_read, tells_token, tells_two}
use Rattle.wit_json.proofs.KindsRead.{kind_read, kind_told, number_told, read_type, type_told, wide}
use Rattle.wit_model.specs.declared.model.WorldItem.TheVariants as item
use Rattle.wit_model.specs.declared.model.TypeOwner.TheVariants as owner
use Rattle.wit_model.specs.declared.model.FunctionKind.TheVariants as call

-- ---- single tokens

number_same : (m n : ℕ) → IsSmall m → IsSmall n → number_token m ≡ number_token n → m ≡ n
number_same m n h k e = decimal_injective m n (wide h) (wide k) (texts e)
  where
    texts : {a b : List ℕ} → number a ≡ number b → a ≡ b
    texts e = cc

string_same : {a b : Text} → string a ≡ string b → a ≡ b
string_same e = cc

text_or_null_same : (a b : Option Text) → text_or_null a ≡ text_or_null b → a ≡ b
text_or_null_same None None e = refl
text_or_null_same None (Some b) e = cc
text_or_null_same (Some a) None e = cc
text_or_null_same (Some a) (Some b) e = ap (λ t. Some t) (string_same e)

home_same : (a b : Option PackageId) → IsSmallHome a → IsSmallHome b → number_or_null (option_map (λ id. id.0) a) ≡ number_or_null (option_map (λ id. id.0) b) → a ≡ b
home_same None None h k e = refl
home_same None (Some b) h k e = cc
home_same (Some a) None h k e = cc
home_same (Some a) (Some b) h k e = ap (λ n. Some (record { 0 = n })) (number_same a.0 b.0 h k e)

module _ {X : Type 0} where
  text_tells : (v w : X → Text) → TellsToken (λ x. ⊤) (λ x. string (v x)) (λ x. string (w x)) v w
  text_tells v w = record { same = λ x y p q e. string_same e }

  optional_tells : (v : X → Option Text) → TellsToken (λ x. ⊤) (λ x. text_or_null (v x)) (λ x. text_or_null (v x)) v v
  optional_tells v = record { same = λ x y p q e. text_or_null_same (v x) (v y) e }

  number_tells : (v : X → ℕ) → TellsToken (λ x. IsSmall (v x)) (λ x. number_token (v x)) (λ x. number_token (v x)) v v
  number_tells v = record { same = λ x y p q e. number_same (v x) (v y) p q e }

  type_tells : (v : X → Option ValueType) → TellsToken (λ x. IsSmallType (v x)) (λ x. type_or_null (v x)) (λ x. type_or_null (v x)) v v
  type_tells v = record { same = λ x y p q e. sym (type_told (v x) p) ∙ ap read_type e ∙ type_told (v y) q }

  home_tells : (v : X → Option PackageId) → TellsToken (λ x. IsSmallHome (v x)) (λ x. number_or_null (option_map (λ id. id.0) (v x))) (λ x. number_or_null (option_map (λ id. id.0) (v x))) v v
  home_tells v = record { same = λ x y p q e. home_same (v x) (v y) p q e }

  -- a member
  member_tells : {V : Type 0} {D : X → Type 0} {f g : X → Token} {v w : X → V} (name : Text) → TellsToken D f g v w → Tells D (λ x. member name (f x)) (λ x. member name (g x)) v w
  member_tells name h = tells_behind (key name) (tells_token h)

  -- a list behind its name
  listed_tells : {Y V : Type 0} {D : Y → Type 0} {f g : Y → List Token} {v w : Y → V} (name : Text) (part : X → List Y) → Tells D f g v w → Begins f → Begins g
      → Tells (λ x. AllByRecursion D (part x)) (λ x. key name ∷ listed f (part x)) (λ x. key name ∷ listed g (part x)) (λ x. map v (part x)) (λ x. map w (part x))
  listed_tells name part h b c = tells_behind (key name) (tells_behind begin_array (tells_of part (tells_all h b c)))

-- a number is no end of a list
number_no_end : {s : List ℕ} → number s ≡ end_array → ⊥
number_no_end e = cc

number_begins : {Y : Type 0} (n : Y → ℕ) → Begins (λ y. number_entry (n y))
number_begins n = record { first = λ y. number_token (n y); rest = λ y. []; is = λ y. refl; no_end = λ y e. number_no_end e }

-- a list of numbers behind its name
numbers_tell : {X Y : Type 0} (name : Text) (n : Y → ℕ) (part : X → List Y)
    → Tells (λ x. AllByRecursion (λ y. IsSmall (n y)) (part x)) (λ x. key name ∷ listed (λ y. number_entry (n y)) (part x)) (λ x. key name ∷ listed (λ y. number_entry (n y)) (part x))
    (λ x. map n (part x)) (λ x. map n (part x))
numbers_tell name n part = listed_tells name part (tells_token (number_tells n)) (number_begins n) (number_begins n)

-- ---- what is told by a word

kind_tells : Tells IsSmallKind kind_tokens kind_tokens bare_kind bare_kind
kind_tells = tells_read kind_read kind_told

owner_read : List Token → TypeOwner × List Token
owner_read (begin_object ∷ key w ∷ number n ∷ end_object ∷ ts) =
    (if text_eq w (codes "world") then owner.World (record { 0 = digits_value 10 n }) else owner.Interface (record { 0 = digits_value 10 n }), ts)
owner_read (null ∷ ts) = (owner.None, ts)
owner_read ts = (owner.None, ts)

owner_told : (o : TypeOwner) (s : List Token) → IsSmallOwner o → owner_read (owner_tokens o ++ s) ≡ (o, s)
unfolding owner_read owner_tokens
owner_told (owner.World id) s h = ap (λ n. (owner.World (record { 0 = n }), s)) (number_told id.0 h)
owner_told (owner.Interface id) s h = ap (λ n. (owner.Interface (record { 0 = n }), s)) (number_told id.0 h)
owner_told owner.None s h = refl

owner_tells : Tells IsSmallOwner owner_tokens owner_tokens (λ o. o) (λ o. o)
owner_tells = tells_read owner_read owner_told

call_of : Text → TypeId → FunctionKind
call_of w id =
    if text_eq w (codes "method") then call.Method id
    else if text_eq w (codes "async-method") then call.AsyncMethod id
    else if text_eq w (codes "static") then call.Static id
    else if text_eq w (codes "async-static") then call.AsyncStatic id
    else call.Constructor id

call_read : List Token → FunctionKind × List Token
call_read (begin_object ∷ key w ∷ number n ∷ end_object ∷ ts) = (call_of w (record { 0 = digits_value 10 n }), ts)
call_read (string w ∷ ts) = (if text_eq w (codes "freestanding") then call.Freestanding else call.AsyncFreestanding, ts)
call_read ts = (call.Freestanding, ts)

call_told : (k : FunctionKind) (s : List Token) → IsSmallFunctionKind k → call_read (function_kind_tokens k ++ s) ≡ (k, s)
unfolding call_read call_of function_kind_tokens
call_told call.Freestanding s h = refl
call_told call.AsyncFreestanding s h = refl
call_told (call.Method id) s h = ap (λ n. (call.Method (record { 0 = n }), s)) (number_told id.0 h)
call_told (call.AsyncMethod id) s h = ap (λ n. (call.AsyncMethod (record { 0 = n }), s)) (number_told id.0 h)
call_told (call.Static id) s h = ap (λ n. (call.Static (record { 0 = n }), s)) (number_told id.0 h)
call_told (call.AsyncStatic id) s h = ap (λ n. (call.AsyncStatic (record { 0 = n }), s)) (number_told id.0 h)
call_told (call.Constructor id) s h = ap (λ n. (call.Constructor (record { 0 = n }), s)) (number_told id.0 h)

call_tells : Tells IsSmallFunctionKind function_kind_tokens function_kind_tokens (λ k. k) (λ k. k)
call_tells = tells_read call_read call_told

-- ---- types

type_def_tells : Tells HasSmallType type_tokens type_tokens bare_type bare_type
unfolding type_tokens
type_def_tells =
    tells_as (λ (z : Option Text × (BareKind × (TypeOwner × Option Text))). record { name = z.0; kind = z.1.0; owner = z.1.1.0; external_id = z.1.1.1 }) (λ def h. (tt, (h.0, (h.1, tt))))
    (tells_behind begin_object (tells_two (member_tells (codes "name") (optional_tells (λ (def : TypeDef). optional_text def.name)))
    (tells_two (tells_behind (key (codes "kind")) (tells_of (λ (def : TypeDef). def.kind) kind_tells))
    (tells_two (tells_behind (key (codes "owner")) (tells_of (λ (def : TypeDef). def.owner) owner_tells))
    (tells_before end_object (member_tells (codes "external-id") (optional_tells (λ (def : TypeDef). optional_text def.external_id))))))))

-- ---- functions and interfaces

param_tells : Tells {V = Text × Option ValueType} (λ (p : Param). IsSmallType (Some p.ty)) param_tokens param_tokens (λ p. (text_of p.name, Some p.ty)) (λ p. (text_of p.name, Some p.ty))
param_tells = tells_as (λ (z : Text × Option ValueType). z) (λ p h. (tt, h))
    (tells_behind begin_object (tells_two (member_tells (codes "name") (text_tells (λ (p : Param). text_of p.name) (λ (p : Param). text_of p.name)))
    (tells_before end_object (member_tells (codes "type") (type_tells (λ (p : Param). Some p.ty))))))

function_tells : Tells HasSmallFunction function_tokens function_tokens bare_function bare_function
unfolding function_tokens
function_tells = tells_as (λ (z : Text × (FunctionKind × (List (Text × Option ValueType) × (Option ValueType × Option Text)))). record
    { name = z.0; kind = z.1.0; params = z.1.1.0; result = z.1.1.1.0; external_id = z.1.1.1.1 }) (λ f h. (tt, (h.kind, (h.params, (h.result, tt)))))
    (tells_behind begin_object (tells_two (member_tells (codes "name") (text_tells (λ (f : Function). text_of f.name) (λ (f : Function). text_of f.name)))
    (tells_two (tells_behind (key (codes "kind")) (tells_of (λ (f : Function). f.kind) call_tells))
    (tells_two (listed_tells (codes "params") (λ (f : Function). f.params.items) param_tells (begins_object _ (λ p. refl)) (begins_object _ (λ p. refl)))
    (tells_two (member_tells (codes "result") (type_tells (λ (f : Function). f.result)))
    (tells_before end_object (member_tells (codes "external-id") (optional_tells (λ (f : Function). optional_text f.external_id)))))))))

interface_tells : Tells HasSmallInterface interface_tokens interface_tokens bare_interface bare_interface
unfolding interface_tokens function_tokens
interface_tells =
    tells_as (λ (z : Option Text × (Option PackageId × (List ℕ × List BareFunction))). record { name = z.0; home = z.1.0; types = z.1.1.0; functions = z.1.1.1 })
    (λ i h. (tt, (h.home, (h.types, h.functions))))
    (tells_behind begin_object (tells_two (member_tells (codes "name") (optional_tells (λ (i : Interface). optional_text i.name)))
    (tells_two (member_tells (codes "package") (home_tells (λ (i : Interface). i.«package»)))
    (tells_two (numbers_tell (codes "types") (λ (id : TypeId). id.0) (λ (i : Interface). values i.types))
    (tells_before end_object (listed_tells (codes "functions") (λ (i : Interface). values i.functions) function_tells (begins_object _ (λ x. refl)) (begins_object _ (λ x. refl))))))))

-- ---- worlds

shown_tells : Tells (λ (z : ℕ × Option Text). IsSmall z.0 × ⊤) (λ z. member (codes "interface") (number_token z.0) ++ external_member z.1)
    (λ z. member (codes "interface") (number_token z.0) ++ external_member z.1) (λ z. z) (λ z. z)
shown_tells = tells_two (member_tells (codes "interface") (number_tells (λ (z : ℕ × Option Text). z.0))) (member_tells (codes "external-id") (optional_tells (λ (z : ℕ × Option Text). z.1)))

named_tells : Tells IsSmall (λ n. member (codes "type") (number_token n)) (λ n. member (codes "type") (number_token n)) (λ n. n) (λ n. n)
named_tells = member_tells (codes "type") (number_tells (λ n. n))

-- the name that comes first
first_name : List Token → Text
first_name (key w ∷ ts) = w
first_name ts = []

item_told : (a b : WorldItem) (s t : List Token) → HasSmallItem a → HasSmallItem b → item_tokens a ++ s ≡ item_tokens b ++ t → (bare_item a ≡ bare_item b) × (s ≡ t)
unfolding item_tokens first_name
item_told (item.Interface i _ _ x) (item.Interface j _ _ y) s t h k e =
    let r = shown_tells.told (i.0, optional_text x) (j.0, optional_text y) s t (h, tt) (k, tt) e in (ap (λ z. interface z.0 z.1) r.0, r.1)
item_told (item.Interface i _ _ x) (item.Function g) s t h k e = absurd (true≢false (ap (λ ts. text_eq (first_name ts) (codes "interface")) e))
item_told (item.Interface i _ _ x) (item.Type_ m) s t h k e = absurd (true≢false (ap (λ ts. text_eq (first_name ts) (codes "interface")) e))
item_told (item.Function f) (item.Interface j _ _ y) s t h k e = absurd (true≢false (ap (λ ts. text_eq (first_name ts) (codes "function")) e))
item_told (item.Function f) (item.Function g) s t h k e = let r = (tells_behind (key (codes "function")) function_tells).told f g s t h k e in (ap function r.0, r.1)
item_told (item.Function f) (item.Type_ m) s t h k e = absurd (true≢false (ap (λ ts. text_eq (first_name ts) (codes "function")) e))
item_told (item.Type_ n) (item.Interface j _ _ y) s t h k e = absurd (true≢false (ap (λ ts. text_eq (first_name ts) (codes "type")) e))
item_told (item.Type_ n) (item.Function g) s t h k e = absurd (true≢false (ap (λ ts. text_eq (first_name ts) (codes "type")) e))
item_told (item.Type_ n) (item.Type_ m) s t h k e = let r = named_tells.told n.0 m.0 s t h k e in (ap type_ r.0, r.1)

item_tells : Tells HasSmallItem item_tokens item_tokens bare_item bare_item
item_tells = record { told = item_told }

module _ (r q : Resolve) where
  entry_tells : Tells (λ (e : WorldKey × WorldItem). HasSmallItem e.1) (entry_tokens r) (entry_tokens q) (bare_entry r) (bare_entry q)
  unfolding entry_tokens
  entry_tells = tells_as (λ (z : Text × BareItem). z) (λ e h. (tt, h))
      (tells_behind begin_object (tells_two (member_tells (codes "key") (text_tells (λ (e : WorldKey × WorldItem). key_text r e.0) (λ (e : WorldKey × WorldItem). key_text q e.0)))
      (tells_before end_object (tells_of (λ (e : WorldKey × WorldItem). e.1) item_tells))))

  world_tells : Tells HasSmallWorld (world_tokens r) (world_tokens q) (bare_world r) (bare_world q)
  unfolding world_tokens entry_tokens
  world_tells =
      tells_as (λ (z : Text × (Option PackageId × (List (Text × BareItem) × List (Text × BareItem)))). record { name = z.0; home = z.1.0; imports = z.1.1.0; exports = z.1.1.1 })
      (λ w h. (tt, (h.home, (h.imports, h.exports))))
      (tells_behind begin_object (tells_two (member_tells (codes "name") (text_tells (λ (w : World). text_of w.name) (λ (w : World). text_of w.name)))
      (tells_two (member_tells (codes "package") (home_tells (λ (w : World). w.«package»)))
      (tells_two (listed_tells (codes "imports") (λ (w : World). w.imports.entries) entry_tells (begins_object _ (λ x. refl)) (begins_object _ (λ x. refl)))
      (tells_before end_object (listed_tells (codes "exports") (λ (w : World). w.exports.entries) entry_tells (begins_object _ (λ x. refl)) (begins_object _ (λ x. refl))))))))

-- ---- packages

name_tells : Tells {V = Text × (Text × Option Text)} (λ (n : PackageName). ⊤ × (⊤ × ⊤)) package_name_tokens package_name_tokens
    (λ n. (text_of n.namespace, (text_of n.name, optional_version_text n.version))) (λ n. (text_of n.namespace, (text_of n.name, optional_version_text n.version)))
unfolding package_name_tokens
name_tells = tells_two (member_tells (codes "namespace") (text_tells (λ (n : PackageName). text_of n.namespace) (λ (n : PackageName). text_of n.namespace)))
    (tells_two (member_tells (codes "name") (text_tells (λ (n : PackageName). text_of n.name) (λ (n : PackageName). text_of n.name)))
    (member_tells (codes "version") (optional_tells (λ (n : PackageName). optional_version_text n.version))))

package_tells : Tells HasSmallPackage package_tokens package_tokens bare_package bare_package
unfolding package_tokens
package_tells =
    tells_as (λ (z : (Text × (Text × Option Text)) × (List ℕ × List ℕ)). record { identity = record { namespace = z.0.0; name = z.0.1.0; version = z.0.1.1 }; interfaces = z.1.0; worlds = z.1.1 })
    (λ p h. ((tt, (tt, tt)), (h.interfaces, h.worlds))) (tells_behind begin_object
    (tells_two (tells_of (λ (p : Package). p.name) name_tells) (tells_two (numbers_tell (codes "interfaces") (λ (id : InterfaceId). id.0) (λ (p : Package). values p.interfaces))
    (tells_before end_object (numbers_tell (codes "worlds") (λ (id : WorldId). id.0) (λ (p : Package). values p.worlds))))))

-- ---- the whole

-- the four lists, where names are looked up in r
abbrev lists_of : Resolve → Resolve → List Token
lists_of r x = key (codes "packages") ∷ (listed package_tokens x.packages.items ++ (key (codes "worlds") ∷ (listed (world_tokens r) x.worlds.items
    ++ (key (codes "interfaces") ∷ (listed interface_tokens x.interfaces.items ++ (key (codes "types") ∷ listed type_tokens x.types.items))))))

abbrev bare_of : Resolve → Resolve → BareResolve
bare_of r x =
    record { packages = map bare_package x.packages.items; worlds = map (bare_world r) x.worlds.items; interfaces = map bare_interface x.interfaces.items; types = map bare_type x.types.items }

module _ (r q : Resolve) where
  lists_tell : Tells HasSmallNumbers (lists_of r) (lists_of q) (bare_of r) (bare_of q)
  unfolding package_tokens world_tokens interface_tokens type_tokens
  lists_tell =
      tells_as (λ (z : List BarePackage × (List BareWorld × (List BareInterface × List BareType))). record { packages = z.0; worlds = z.1.0; interfaces = z.1.1.0; types = z.1.1.1 })
      (λ x h. (h.packages, (h.worlds, (h.interfaces, h.types)))) (tells_two
      (listed_tells (codes "packages") (λ (x : Resolve). x.packages.items) package_tells (begins_object _ (λ x. refl)) (begins_object _ (λ x. refl)))
      (tells_two (listed_tells (codes "worlds") (λ (x : Resolve). x.worlds.items) (world_tells r q) (begins_object _ (λ x. refl)) (begins_object _ (λ x. refl)))
      (tells_two (listed_tells (codes "interfaces") (λ (x : Resolve). x.interfaces.items) interface_tells (begins_object _ (λ x. refl)) (begins_object _ (λ x. refl)))
      (listed_tells (codes "types") (λ (x : Resolve). x.types.items) type_def_tells (begins_object _ (λ x. refl)) (begins_object _ (λ x. refl))))))

-- equal tokens say the same
pub nothing_else : NothingElseIsLost
unfolding tokens_of
nothing_else r q h k e = ((lists_tell r q).told r q [] [] h k (ap (λ ts. ts ++ []) e)).0

-- a text is the listing of one
pub texts_tell : TextsTell
unfolding tokens_of
texts_tell text subject r q n m h k small small' a b =
    let begun = tells_behind begin_object (tells_behind (key (codes "format")) (tells_behind (number_token 1) (tells_of (λ (x : Resolve × ℕ). x.0) (lists_tell r q)))) in
    let all = tells_two begun (tells_before end_object (member_tells subject (number_tells (λ (x : Resolve × ℕ). x.1)))) in
    let same = all.told (r, n) (q, m) [] [] (h, small) (k, small') (ap (λ ts. ts ++ []) (sym a.reads_back ∙ b.reads_back)) in
    (ap (λ z. z.0) same.0, ap (λ z. z.1) same.0)
