-- What the slots of a scope stand for (Component Model Binary.md, "Index Spaces" and "Type Definitions").
use Rattle.std.specs.Prelude.{ℕ, ◌+◌, ◌≤◌, ◌≡◌, ◌⊎◌, List, map, Option, Some, None}
use Rattle.std.specs.{List.AllZip, Borrow.Bor}
use Rattle.wit_model.specs.{Text.Text, Meaning.Signature}
use Rattle.wit_model.specs.Tree.{Tree, primitive, record_tree, variant_tree, flags_tree, enum_tree, tuple_tree, list_tree, fixed_list_tree, map_tree, option_tree, result_tree, own_tree, borrow_tree, future_tree, stream_tree}
use Rattle.comp_bytes.specs.declared.forms.{ComponentValType.ComponentValType, ComponentDefinedType.ComponentDefinedType, ComponentFuncType.ComponentFuncType}
use Rattle.comp_bytes.specs.declared.forms.ComponentValType.TheVariants as v
use Rattle.comp_bytes.specs.declared.forms.ComponentDefinedType.TheVariants as form
pub use Rattle.comp_meaning.specs.Follow.{primitive_of_type as primitive_of}

-- what a slot stands for
pub data Standing : Type 0 where
  tree : Tree → Standing
  function : Signature → Standing

-- which slots stand for what
abbrev pub Pairs : Type 1
Pairs = ℕ → Standing → Type 0

-- what a slot stands for by the first, it stands for by the second too
abbrev pub Keeps : Pairs → Pairs → Type 0
Keeps S S' = (i : ℕ) (m : Standing) → S i m → S' i m

-- the second says what the first does and that slot i stands for what P holds of, and nothing else
pub record Adds (S S' : Pairs) (i : ℕ) (P : Standing → Type 0) : Type 0 where
  pub kept : Keeps S S'
  pub new : (m : Standing) → P m → S' i m
  pub only : (j : ℕ) (m : Standing) → S' j m → S j m ⊎ ((j ≡ i) × P m)

-- there are at least as many slots, and the old ones stand for what they did
pub record SlotsGrow (S S' : Pairs) (n n' : ℕ) : Type 0 where
  pub kept : Keeps S S'
  pub more : n ≤ n'

-- slot i is new, and stands for what P holds of
pub record SlotAdded (S S' : Pairs) (n n' i : ℕ) (P : Standing → Type 0) : Type 0 where
  pub index : i ≡ n
  pub one_more : n' ≡ n + 1
  pub adds : Adds S S' i P

-- ---- definitions, with each index followed

-- a part that is written in place or by index stands for a tree
abbrev pub StandsFor : Pairs → ComponentValType → Tree → Type 0
StandsFor S (v.Primitive x) t = t ≡ primitive (primitive_of x)
StandsFor S (v.Type_ i) t = S i (tree t)

-- a part that may be left out: both are left out, or it stands for the tree
abbrev pub StandsForOptional : Pairs → Option ComponentValType → Option Tree → Type 0
StandsForOptional S None None = Unit {0}
StandsForOptional S (Some x) (Some t) = StandsFor S x t
StandsForOptional S _ _ = ⊥

-- a name with a part: a field or a parameter
abbrev pub NamedStands : Pairs → Bor Text × ComponentValType → Text × Tree → Type 0
NamedStands S x f = (x.0.now ≡ f.0) × StandsFor S x.1 f.1

-- a name with a part that may be left out: a case
abbrev pub CaseStands : Pairs → Bor Text × Option ComponentValType → Text × Option Tree → Type 0
CaseStands S x c = (x.0.now ≡ c.0) × StandsForOptional S x.1 c.1

-- the texts of borrowed names
abbrev pub texts : List (Bor Text) → List Text
texts names = map (λ name. name.now) names

-- a definition, with each index followed, is a tree
abbrev pub Follows : Pairs → ComponentDefinedType → Tree → Type 0
Follows S (form.Primitive x) t = t ≡ primitive (primitive_of x)
Follows S (form.Record fields) t = (fs : List (Text × Tree)) × AllZip (NamedStands S) fields.items fs × (t ≡ record_tree fs)
Follows S (form.Variant cases) t = (cs : List (Text × Option Tree)) × AllZip (CaseStands S) cases.items cs × (t ≡ variant_tree cs)
Follows S (form.List x) t = (u : Tree) × StandsFor S x u × (t ≡ list_tree u)
Follows S (form.FixedLengthList x n) t = (u : Tree) × StandsFor S x u × (t ≡ fixed_list_tree u n)
Follows S (form.Map k x) t = (a : Tree) × (b : Tree) × StandsFor S k a × StandsFor S x b × (t ≡ map_tree a b)
Follows S (form.Tuple xs) t = (ts : List Tree) × AllZip (StandsFor S) xs.items ts × (t ≡ tuple_tree ts)
Follows S (form.Flags names) t = t ≡ flags_tree (texts names.items)
Follows S (form.Enum names) t = t ≡ enum_tree (texts names.items)
Follows S (form.Option x) t = (u : Tree) × StandsFor S x u × (t ≡ option_tree u)
Follows S (form.Result x y) t = (a : Option Tree) × (b : Option Tree) × StandsForOptional S x a × StandsForOptional S y b × (t ≡ result_tree a b)
Follows S (form.Own i) t = (u : Tree) × S i (tree u) × (t ≡ own_tree u)
Follows S (form.Borrow i) t = (u : Tree) × S i (tree u) × (t ≡ borrow_tree u)
Follows S (form.Stream x) t = (u : Option Tree) × StandsForOptional S x u × (t ≡ stream_tree u)
Follows S (form.Future x) t = (u : Option Tree) × StandsForOptional S x u × (t ≡ future_tree u)

-- what a definition stands for
abbrev pub Defines : Pairs → ComponentDefinedType → Standing → Type 0
Defines S def (tree t) = Follows S def t
Defines S def (function s) = ⊥

-- the type of a function, with each index followed, is a signature
pub record FollowsFunction (S : Pairs) (f : ComponentFuncType) (s : Signature) : Type 0 where
  pub async : f.async_ ≡ s.is_async
  pub params : AllZip (NamedStands S) f.params.items s.params
  pub result_ : StandsForOptional S f.result s.result

-- what the type of a function stands for
abbrev pub DefinesFunction : Pairs → ComponentFuncType → Standing → Type 0
DefinesFunction S f (tree t) = ⊥
DefinesFunction S f (function s) = FollowsFunction S f s

-- what an export leaves: a slot of its own for the name, or the index that it took stands for the name too
abbrev pub NameAdded : Pairs → Pairs → ℕ → ℕ → ℕ → Tree → Option ℕ → Type 0
NameAdded S S' n n' i t None = (n' ≡ n) × Adds S S' i (λ m. m ≡ tree t)
NameAdded S S' n n' i t (Some j) = SlotAdded S S' n n' j (λ m. m ≡ tree t)
