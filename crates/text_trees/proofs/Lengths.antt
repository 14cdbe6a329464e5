-- What follows a thing is shorter than what it stands in front of.
use Rattle.std.proofs.Common.{◌<◌, ◌≤◌, List, length, arith, Option}
use Rattle.wit_model.specs.Text.{Text}
use Rattle.print_grammar.specs.Token.{Token}
use Rattle.print_grammar.specs.Tree.{TypeTree, TypeTrees, Gates, Prefix, PathTree, UsedName}
use Rattle.print_grammar.specs.Grammar.{CommaList, Repeated, ReadsType, ReadsTypes, ReadsParam, ReadsParams, ReadsResult, ReadsSignature, ReadsVersion, ReadsVersionArgument, ReadsPath, ReadsUsedName, ReadsUse, ReadsHead}
use Rattle.text_trees.specs.Grammar.{Documentation, Marks, ReadsMarks, ReadsGates, ReadsPrefix, ReadsField, ReadsCase, ReadsLabel, ReadsResourceMember, ReadsDeclared, ReadsMember, ReadsExtern, ReadsWorldMember, ReadsOtherName, ReadsInclusion, ReadsPart, ReadsItem, ReadsNested}
use Rattle.print_grammar.specs.Grammar.ReadsType.{primitive, named, named_with_percent, own, borrow, tuple, option, map, list, fixed_list, future, future_of, stream, stream_of, result, result_ok, result_of, result_err}
use Rattle.print_grammar.specs.Grammar.ReadsTypes.{last_type, last_type_with_comma, next_type}
use Rattle.print_grammar.specs.Grammar.CommaList.{last, last_with_comma, next}
use Rattle.print_grammar.specs.Grammar.Repeated.{closed, again}
use Rattle.print_grammar.specs.Grammar.{ReadsParam.param, ReadsParams.no_params, ReadsParams.params, ReadsResult.no_result, ReadsResult.with_result, ReadsSignature.func, ReadsSignature.async_func}
use Rattle.print_grammar.specs.Grammar.{ReadsVersion.no_version, ReadsVersion.with_version, ReadsVersionArgument.version_argument}
use Rattle.text_trees.specs.Grammar.ReadsMarks.{no_more, since, unstable, deprecated, external_id}
use Rattle.text_trees.specs.Grammar.{ReadsGates.gates, ReadsPrefix.prefix}
use Rattle.print_grammar.specs.Grammar.{ReadsPath.local, ReadsPath.full, ReadsUsedName.same_name, ReadsUsedName.other_name, ReadsUse.use_names}
use Rattle.text_trees.specs.Grammar.{ReadsField.field, ReadsCase.case_alone, ReadsCase.case_of, ReadsLabel.label}
use Rattle.text_trees.specs.Grammar.ReadsResourceMember.{constructor_, method, static}
use Rattle.text_trees.specs.Grammar.ReadsDeclared.{record_, variant, flags, enum, alias, resource, resource_with}
use Rattle.text_trees.specs.Grammar.ReadsMember.{member_use, member_type, member_function}
use Rattle.text_trees.specs.Grammar.ReadsExtern.{extern_path, extern_function, extern_named_path, extern_interface}
use Rattle.text_trees.specs.Grammar.ReadsWorldMember.{world_use, world_type, world_import, world_export}
use Rattle.print_grammar.specs.Grammar.{ReadsHead.head}
use Rattle.text_trees.specs.Grammar.ReadsInclusion.{all_of, all_with, all_with_end}
use Rattle.text_trees.specs.Grammar.{ReadsPart.has, ReadsPart.includes}
use Rattle.text_trees.specs.Grammar.ReadsItem.{interface_item, world_item, name_item, other_name_item}
use Rattle.text_trees.specs.Grammar.{ReadsNested.nested_package}

-- what follows a thing is shorter
abbrev pub Shortens : {X : Type 0} → (List Token → X → List Token → Type 0) → Type 0
Shortens {X} Reads = (ts rest : List Token) (x : X) → Reads ts x rest → length rest < length ts

-- ---- lists

pub listed-shortens : {X : Type 0} {Reads : List Token → X → List Token → Type 0} {close : Token} → Shortens Reads → Shortens (CommaList Reads close)
listed-shortens short _ _ _ (last r) = let h = short _ _ _ r in omega (arith, h)
listed-shortens short _ _ _ (last_with_comma r) = let h = short _ _ _ r in omega (arith, h)
listed-shortens short _ _ _ (next r l) = let h = short _ _ _ r in let k = listed-shortens short _ _ _ l in omega (arith, h, k)

pub repeated-shortens : {X : Type 0} {Reads : List Token → X → List Token → Type 0} {close : Token} → Shortens Reads → Shortens (Repeated Reads close)
repeated-shortens short _ _ _ closed = omega arith
repeated-shortens short _ _ _ (again r l) = let h = short _ _ _ r in let k = repeated-shortens short _ _ _ l in omega (arith, h, k)

-- ---- types and signatures

mutual
  pub type-shortens : {ts rest : List Token} {ty : TypeTree} → ReadsType ts ty rest → length rest < length ts
  type-shortens primitive = omega arith
  type-shortens named = omega arith
  type-shortens named_with_percent = omega arith
  type-shortens (own i) = omega arith
  type-shortens (borrow i) = omega arith
  type-shortens (tuple r) = let h = types-shorten r in omega (arith, h)
  type-shortens (option r) = let h = type-shortens r in omega (arith, h)
  type-shortens (map r s) = let h = type-shortens r in let k = type-shortens s in omega (arith, h, k)
  type-shortens (list r) = let h = type-shortens r in omega (arith, h)
  type-shortens (fixed_list r) = let h = type-shortens r in omega (arith, h)
  type-shortens future = omega arith
  type-shortens (future_of r) = let h = type-shortens r in omega (arith, h)
  type-shortens stream = omega arith
  type-shortens (stream_of r) = let h = type-shortens r in omega (arith, h)
  type-shortens result = omega arith
  type-shortens (result_ok r) = let h = type-shortens r in omega (arith, h)
  type-shortens (result_of r s) = let h = type-shortens r in let k = type-shortens s in omega (arith, h, k)
  type-shortens (result_err r) = let h = type-shortens r in omega (arith, h)

  pub types-shorten : {ts rest : List Token} {types : TypeTrees} → ReadsTypes ts types rest → length rest < length ts
  types-shorten (last_type r) = let h = type-shortens r in omega (arith, h)
  types-shorten (last_type_with_comma r) = let h = type-shortens r in omega (arith, h)
  types-shorten (next_type r s) = let h = type-shortens r in let k = types-shorten s in omega (arith, h, k)

pub param-shortens : Shortens ReadsParam
param-shortens _ _ _ (param i r) = let h = type-shortens r in omega (arith, h)

params-shorten : Shortens ReadsParams
params-shorten _ _ _ no_params = omega arith
params-shorten _ _ _ (params l) = let h = listed-shortens param-shortens _ _ _ l in omega (arith, h)

result-shortens : {ts rest : List Token} {ty : Option TypeTree} → ReadsResult ts ty rest → length rest ≤ length ts
result-shortens no_result = omega arith
result-shortens (with_result r) = let h = type-shortens r in omega (arith, h)

signature-shortens : Shortens ReadsSignature
signature-shortens _ _ _ (func p r) = let h = params-shorten _ _ _ p in let k = result-shortens r in omega (arith, h, k)
signature-shortens _ _ _ (async_func p r) = let h = params-shorten _ _ _ p in let k = result-shortens r in omega (arith, h, k)

-- ---- in front of an item

version-shortens : {ts rest : List Token} {version : Option Text} → ReadsVersion ts version rest → length rest ≤ length ts
version-shortens no_version = omega arith
version-shortens with_version = omega arith

pub argument-shortens : Shortens ReadsVersionArgument
argument-shortens _ _ _ (version_argument e) = omega arith

marks-shorten : {ts rest : List Token} {marks all : Marks} → ReadsMarks marks ts all rest → length rest ≤ length ts
marks-shorten no_more = omega arith
marks-shorten (since e a b r m) = let h = argument-shortens _ _ _ r in let k = marks-shorten m in omega (arith, h, k)
marks-shorten (unstable e f i a b m) = let k = marks-shorten m in omega (arith, k)
marks-shorten (deprecated e a r m) = let h = argument-shortens _ _ _ r in let k = marks-shorten m in omega (arith, h, k)
marks-shorten (external_id e a m) = let k = marks-shorten m in omega (arith, k)

gates-shorten : {ts rest : List Token} {given : Gates} → ReadsGates ts given rest → length rest ≤ length ts
gates-shorten (gates marks m n e) = marks-shorten m

prefix-shortens : {docs : Documentation} {ts rest : List Token} {pre : Prefix} → ReadsPrefix docs ts pre rest → length rest ≤ length ts
prefix-shortens (prefix marks m e) = marks-shorten m

-- ---- paths, uses and declared types

path-shortens : Shortens ReadsPath
path-shortens _ _ _ (local i) = omega arith
path-shortens _ _ _ (full i j k v) = let h = version-shortens v in omega (arith, h)

pub used_name-shortens : Shortens ReadsUsedName
used_name-shortens _ _ _ (same_name i) = omega arith
used_name-shortens _ _ _ (other_name i j) = omega arith

use-shortens : {ts rest : List Token} {path : PathTree} {names : List UsedName} → ReadsUse ts path names rest → length rest < length ts
use-shortens (use_names p l) = let h = path-shortens _ _ _ p in let k = listed-shortens used_name-shortens _ _ _ l in omega (arith, h, k)

pub field-shortens : {docs : Documentation} → Shortens (ReadsField docs)
field-shortens _ _ _ (field i r) = let h = type-shortens r in omega (arith, h)

pub case-shortens : {docs : Documentation} → Shortens (ReadsCase docs)
case-shortens _ _ _ (case_alone i) = omega arith
case-shortens _ _ _ (case_of i r) = let h = type-shortens r in omega (arith, h)

pub label-shortens : {docs : Documentation} → Shortens (ReadsLabel docs)
label-shortens _ _ _ (label i) = omega arith

pub resource_member-shortens : {docs : Documentation} → Shortens (ReadsResourceMember docs)
resource_member-shortens _ _ _ (constructor_ p a r) =
    let h = prefix-shortens p in let k = params-shorten _ _ _ a in let l = result-shortens r in omega (arith, h, k, l)
resource_member-shortens _ _ _ (method p i s) = let h = prefix-shortens p in let k = signature-shortens _ _ _ s in omega (arith, h, k)
resource_member-shortens _ _ _ (static p i s) = let h = prefix-shortens p in let k = signature-shortens _ _ _ s in omega (arith, h, k)

declared-shortens : {docs : Documentation} → Shortens (ReadsDeclared docs)
declared-shortens _ _ _ (record_ i l) = let h = listed-shortens field-shortens _ _ _ l in omega (arith, h)
declared-shortens _ _ _ (variant i l) = let h = listed-shortens case-shortens _ _ _ l in omega (arith, h)
declared-shortens _ _ _ (flags i l) = let h = listed-shortens label-shortens _ _ _ l in omega (arith, h)
declared-shortens _ _ _ (enum i l) = let h = listed-shortens label-shortens _ _ _ l in omega (arith, h)
declared-shortens _ _ _ (alias i r) = let h = type-shortens r in omega (arith, h)
declared-shortens _ _ _ (resource i) = omega arith
declared-shortens _ _ _ (resource_with i l) = let h = repeated-shortens resource_member-shortens _ _ _ l in omega (arith, h)

-- ---- what interfaces, worlds and packages have

pub member-shortens : {docs : Documentation} → Shortens (ReadsMember docs)
member-shortens _ _ _ (member_use p u) = let h = prefix-shortens p in let k = use-shortens u in omega (arith, h, k)
member-shortens _ _ _ (member_type p d) = let h = prefix-shortens p in let k = declared-shortens _ _ _ d in omega (arith, h, k)
member-shortens _ _ _ (member_function p i s) = let h = prefix-shortens p in let k = signature-shortens _ _ _ s in omega (arith, h, k)

extern-shortens : {docs : Documentation} → Shortens (ReadsExtern docs)
extern-shortens _ _ _ (extern_path p) = let h = path-shortens _ _ _ p in omega (arith, h)
extern-shortens _ _ _ (extern_function i s) = let h = signature-shortens _ _ _ s in omega (arith, h)
extern-shortens _ _ _ (extern_named_path i p) = let h = path-shortens _ _ _ p in omega (arith, h)
extern-shortens _ _ _ (extern_interface i l) = let h = repeated-shortens member-shortens _ _ _ l in omega (arith, h)

pub world_member-shortens : {docs : Documentation} → Shortens (ReadsWorldMember docs)
world_member-shortens _ _ _ (world_use p u) = let h = prefix-shortens p in let k = use-shortens u in omega (arith, h, k)
world_member-shortens _ _ _ (world_type p d) = let h = prefix-shortens p in let k = declared-shortens _ _ _ d in omega (arith, h, k)
world_member-shortens _ _ _ (world_import p e) = let h = prefix-shortens p in let k = extern-shortens _ _ _ e in omega (arith, h, k)
world_member-shortens _ _ _ (world_export p e) = let h = prefix-shortens p in let k = extern-shortens _ _ _ e in omega (arith, h, k)

pub other_name-shortens : Shortens ReadsOtherName
other_name-shortens _ _ _ (ReadsOtherName.other_name i j) = omega arith

inclusion-shortens : {ts rest : List Token} {path : PathTree} {names : List UsedName} → ReadsInclusion ts path names rest → length rest < length ts
inclusion-shortens (all_of p) = let h = path-shortens _ _ _ p in omega (arith, h)
inclusion-shortens (all_with p l) = let h = path-shortens _ _ _ p in let k = listed-shortens other_name-shortens _ _ _ l in omega (arith, h, k)
inclusion-shortens (all_with_end p l) = let h = path-shortens _ _ _ p in let k = listed-shortens other_name-shortens _ _ _ l in omega (arith, h, k)

pub part-shortens : {docs : Documentation} → Shortens (ReadsPart docs)
part-shortens _ _ _ (has r) = world_member-shortens _ _ _ r
part-shortens _ _ _ (includes p r) = let h = prefix-shortens p in let k = inclusion-shortens r in omega (arith, h, k)

pub item-shortens : {docs : Documentation} → Shortens (ReadsItem docs)
item-shortens _ _ _ (interface_item g i l) = let h = gates-shorten g in let k = repeated-shortens member-shortens _ _ _ l in omega (arith, h, k)
item-shortens _ _ _ (world_item g i l) = let h = gates-shorten g in let k = repeated-shortens part-shortens _ _ _ l in omega (arith, h, k)
item-shortens _ _ _ (name_item p) = let h = path-shortens _ _ _ p in omega (arith, h)
item-shortens _ _ _ (other_name_item p i) = let h = path-shortens _ _ _ p in omega (arith, h)

head-shortens : Shortens ReadsHead
head-shortens _ _ _ (head i j v) = let h = version-shortens v in omega (arith, h)

pub nested-shortens : {docs : Documentation} → Shortens (ReadsNested docs)
nested-shortens _ _ _ (nested_package h l) = let j = head-shortens _ _ _ h in let k = repeated-shortens item-shortens _ _ _ l in omega (arith, j, k)
