-- What makes the type of a function (Component Model Binary.md, "Type Definitions"): whether it is asynchronous, its parameters by name and type, its result.
use Rattle.std.specs.Prelude.{◌≡◌, ◌&&◌, Bool, map, option_map, ◌++◌}
use mathlib.Core.Bool.{beq}
use Rattle.std.specs.Hash as fed
use Rattle.std.specs.{Option.option_eq, Cmp.Lexicographic.pointwise}
use Rattle.wit_model.specs.declared.model.{Resolve.Resolve, Param.Param, Function.Function, «Type».«Type» as ValueType}
use Rattle.wit_model.specs.{Text.text_of, Text.text_eq, Lookup.is_async, Types.trees_of, Types.tree_of, Meaning.Signature}
use Rattle.encode_types.specs.declared.key.{ParamSignatures.ParamSignatures, FunctionKey.FunctionKey}
use Rattle.wit_model.specs.contracts.model.TypePartialEq.TheImpl as type_eq
use Rattle.wit_model.specs.contracts.model.TypeHash.TheImpl as type_hash

-- whether two types are the same
abbrev pub same_type : ValueType → ValueType → Bool
same_type = type_eq.ghosts.eq

-- whether two parameters have the same name and type
abbrev pub same_param : Param → Param → Bool
same_param p q = text_eq (text_of p.name) (text_of q.name) && same_type p.ty q.ty

-- whether two functions have the same parameters, in order
abbrev pub same_params : ParamSignatures → ParamSignatures → Bool
same_params a b = pointwise same_param a.0.now b.0.now

-- whether two keys are the same
abbrev pub same_key : FunctionKey → FunctionKey → Bool
same_key a b = beq a.async_ b.async_ && (same_params a.params b.params && option_eq same_type a.result.now b.result.now)

-- this is the key of the function
pub record IsKeyOf (key : FunctionKey) (f : Function) : Type 0 where
  pub async : key.async_ ≡ is_async f.kind
  pub params : key.params.0.now ≡ f.params.items
  pub result_ : key.result.now ≡ f.result

-- the signature that a key makes
abbrev pub key_signature : Resolve → FunctionKey → Signature
key_signature r key = record {
  is_async = key.async_;
  params = map (λ p. (text_of p.name, tree_of (trees_of r) p.ty)) key.params.0.now;
  result = option_map (tree_of (trees_of r)) key.result.now;
}

-- ---- what is hashed

-- what is hashed of a type
abbrev pub type_writes : ValueType → fed.HashWrites
type_writes = type_hash.ghosts.hash_input

-- what is hashed of a parameter: its name and its type
abbrev pub param_writes : Param → fed.HashWrites
param_writes p = fed.str (text_of p.name) ++ type_writes p.ty

-- what is hashed of parameters, in order
abbrev pub params_writes : ParamSignatures → fed.HashWrites
params_writes a = fed.slice param_writes a.0.now

-- what is hashed of a key
abbrev pub key_writes : FunctionKey → fed.HashWrites
key_writes k = fed.bool k.async_ ++ (params_writes k.params ++ fed.option type_writes k.result.now)
