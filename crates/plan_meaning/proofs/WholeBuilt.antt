-- The worked plan of two packages, built: valid, and of the plan's meaning. Where values lie in memory is left open.
use Rattle.std.proofs.Common.{ℕ, ◌<◌, ◌^◌, List, [], ◌∷◌, length, refl, codes, Vec, String, arith, lit<, Some, None, Option, rules}
use Rattle.std.specs.declared.{alloc.Global.Global, hash.FoldHasher.FoldHasher, hash.BuildHasherDefault.BuildHasherDefault}
use denote.RawPtr.{null_ptr}
use Rattle.std.specs.{Str.IsUtf8}
use Rattle.indexmap.specs.{IndexMap.IndexMap, Layout.hash_map}
use Rattle.wit_model.specs.declared.model.{Resolve.Resolve, Interface.Interface, TypeDefKind.TypeDefKind, «Type».«Type» as ValueType, FunctionKind.FunctionKind}
use Rattle.wit_model.specs.declared.model.{TypeId.TypeId, TypeDef.TypeDef, TypeOwner.TypeOwner, Function.Function, World.World, WorldItem.WorldItem, Docs.Docs}
use Rattle.wit_model.specs.{Valid.IsValid}
use Rattle.plan_meaning.proofs.{Valid.built_is_valid, WholePlan.whole_plan, WholePlan.is_plan}
use Rattle.base_lemmas.proofs.Numbers.{utf8-a, utf8-b, utf8-constructor, utf8-f, utf8-h, utf8-i, utf8-j, utf8-k, utf8-method, utf8-p, utf8-pkg, utf8-r, utf8-s, utf8-self, utf8-t, utf8-w, utf8-x}
use Rattle.wit_model.specs.declared.model.TypeDefKind.TheVariants as kind
use Rattle.wit_model.specs.declared.model.TypeOwner.TheVariants as owner
use Rattle.wit_model.specs.declared.model.Handle.TheVariants as handle
use Rattle.wit_model.specs.declared.model.«Type».TheVariants as ty
use Rattle.wit_model.specs.declared.model.FunctionKind.TheVariants as call
use Rattle.wit_model.specs.declared.model.WorldKey.TheVariants as key
use Rattle.wit_model.specs.declared.model.WorldItem.TheVariants as item
use Rattle.wit_model.specs.declared.model.Stability.TheVariants as stability

module _ (alloc : Global) (hasher : BuildHasherDefault FoldHasher) where
  abbrev vec_of : {X : Type 0} → (xs : List X) → length xs < 2 ^ 63 → Vec X Global
  vec_of xs h = record { ptr = null_ptr; len = length xs; cap = length xs; alloc = alloc; items = xs; ok = (refl, omega arith); small = h }

  -- an ASCII text is the UTF-8 of its own bytes
  abbrev text : (bs : List ℕ) → length bs < 2 ^ 63 → IsUtf8 bs → String Global
  text bs h u = record { bytes = vec_of bs h; ok = ∣ u ∣₁ }

  abbrev map_of : {K X : Type 0} → List (K × X) → IndexMap K X (BuildHasherDefault FoldHasher)
  map_of es = hash_map es hasher 0

  abbrev no_docs : Docs
  no_docs = record { contents = None }

  abbrev text-t : String Global
  text-t = text (codes "t") (lit< tt) utf8-t

  abbrev text-f : String Global
  text-f = text (codes "f") (lit< tt) utf8-f

  abbrev text-x : String Global
  text-x = text (codes "x") (lit< tt) utf8-x

  abbrev type-id : ℕ → TypeId
  type-id n = record { 0 = n }

  abbrev of_type : ℕ → ValueType
  of_type n = ty.Id (type-id n)

  abbrev in_interface : ℕ → TypeOwner
  in_interface n = owner.Interface (record { 0 = n })

  abbrev def : Option (String Global) → TypeDefKind → TypeOwner → TypeDef
  def name kind_ owner_ = record { name = name; kind = kind_; owner = owner_; docs = no_docs; stability = stability.Unknown; external_id = None }

  abbrev func : String Global → FunctionKind → String Global → ValueType → Option ValueType → Function
  func name kind_ param t result = record {
    name = name;
    kind = kind_;
    params = vec_of (record { name = param; ty = t } ∷ []) (lit< tt);
    result = result;
    docs = no_docs;
    stability = stability.Unknown;
    external_id = None;
  }

  -- under its own name
  abbrev entry : String Global → FunctionKind → String Global → ValueType → Option ValueType → String Global × Function
  entry name kind_ param t result = (name, func name kind_ param t result)

  abbrev face : Option (String Global) → ℕ → List (String Global × TypeId) → List (String Global × Function) → Interface
  face name home types_ functions_ = record { name = name; types = map_of types_; functions = map_of functions_; docs = no_docs; stability = stability.Unknown; «package» = Some (record { 0 = home }) }

  abbrev shown : ℕ → WorldItem
  shown n = item.Interface (record { 0 = n }) stability.Unknown no_docs None

  abbrev world : World
  world = record {
    name = text (codes "w") (lit< tt) utf8-w;
    imports = map_of ((key.Name (text (codes "p") (lit< tt) utf8-p), shown 0) ∷ (key.Name text-t, item.Type_ (type-id 9)) ∷
        (key.Name text-f, item.Function (func text-f call.Freestanding text-x (of_type 9) None)) ∷ []);
    exports = map_of ((key.Name (text (codes "h") (lit< tt) utf8-h), shown 4) ∷ (key.Name text-t, item.Function (func text-t call.Freestanding text-x (of_type 9) None)) ∷ (key.Name text-x, shown 3)
        ∷ (key.Interface (record { 0 = 3 }), shown 3) ∷ []);
    docs = no_docs;
    stability = stability.Unknown;
    «package» = Some (record { 0 = 1 });
  }

  abbrev whole : Resolve
  whole = record {
    packages = vec_of (
        record {
          name = record { namespace = text (codes "s") (lit< tt) utf8-s; name = text (codes "r") (lit< tt) utf8-r; version = None };
          docs = no_docs;
          interfaces = map_of ((text (codes "j") (lit< tt) utf8-j, record { 0 = 0 }) ∷ (text (codes "k") (lit< tt) utf8-k, record { 0 = 1 }) ∷ []);
          worlds = map_of [];
        } ∷ record {
          name = record { namespace = text (codes "a") (lit< tt) utf8-a; name = text (codes "b") (lit< tt) utf8-b; version = None };
          docs = no_docs;
          interfaces = map_of ((text (codes "i") (lit< tt) utf8-i, record { 0 = 2 }) ∷ (text (codes "s") (lit< tt) utf8-s, record { 0 = 3 }) ∷ []);
          worlds = map_of ((text (codes "w") (lit< tt) utf8-w, record { 0 = 0 }) ∷ []);
        } ∷ []) (lit< tt);
    interfaces = vec_of (
        face (Some (text (codes "j") (lit< tt) utf8-j)) 0 ((text-t, type-id 0) ∷ []) (entry text-f call.Freestanding text-x (of_type 0) None ∷ [])
        ∷ face (Some (text (codes "k") (lit< tt) utf8-k)) 0 ((text-t, type-id 1) ∷ []) []
        ∷ face (Some (text (codes "i") (lit< tt) utf8-i)) 1 ((text-t, type-id 2) ∷ []) (entry text-f call.Freestanding text-x (of_type 3) None ∷ [])
        ∷ face (Some (text (codes "s") (lit< tt) utf8-s)) 1 ((text (codes "r") (lit< tt) utf8-r, type-id 4) ∷ (text (codes "h") (lit< tt) utf8-h, type-id 6) ∷ [])
        (entry (text (codes "[constructor]r") (lit< tt) utf8-constructor) (call.Constructor (type-id 4)) text-x ty.U8 (Some (of_type 7))
        ∷ entry (text (codes "[method]r.m") (lit< tt) utf8-method) (call.AsyncMethod (type-id 4)) (text (codes "self") (lit< tt) utf8-self) (of_type 8) None ∷ [])
        ∷ face None 1 ((text-t, type-id 10) ∷ []) (entry text-f call.AsyncFreestanding text-x (of_type 10) None ∷ []) ∷ []) (lit< tt);
    worlds = vec_of (world ∷ []) (lit< tt);
    types = vec_of (
        record { name = Some text-t; kind = kind.Type_ ty.U32; owner = in_interface 0; docs = no_docs; stability = stability.Unknown; external_id = Some (text (codes "pkg") (lit< tt) utf8-pkg) }
        ∷ def (Some text-t) (kind.Type_ (of_type 0)) (in_interface 1) ∷ def (Some text-t) (kind.Type_ (of_type 1)) (in_interface 2) ∷ def None (kind.List (of_type 2)) owner.None
        ∷ def (Some (text (codes "r") (lit< tt) utf8-r)) kind.Resource (in_interface 3) ∷ def None (kind.Handle (handle.Own (type-id 4))) owner.None
        ∷ def (Some (text (codes "h") (lit< tt) utf8-h)) (kind.Handle (handle.Own (type-id 4))) (in_interface 3) ∷ def None (kind.Result (record { ok = Some (of_type 5); err = None })) owner.None
        ∷ def None (kind.Handle (handle.Borrow (type-id 4))) owner.None ∷ def (Some text-t) (kind.Type_ (of_type 0)) (owner.World (record { 0 = 0 }))
        ∷ def (Some text-t) (kind.Type_ (of_type 0)) (in_interface 4) ∷ []) (lit< tt);
  }

  is_valid : IsValid whole
  is_valid = built_is_valid whole_plan whole is_plan (search rules)
