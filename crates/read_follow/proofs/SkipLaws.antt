-- What is behind a form that is read to find its end.
use Rattle.std.proofs.Common.{rules as std_rules, ◌≡◌, sym, ap, ◌∙◌, ℕ, suc, ◌+◌, ◌-◌, ◌<◌, ◌≤◌, arith, Bool, true, false, cond, List, ◌∷◌, Option, Some, None, ◌==◌}
use Rattle.comp_bytes.specs.FirstByte.{declared_type_at, defined_type_at, function_type_at}
use Rattle.comp_bytes.specs.Raw.{Declaration, DefinedType, ExternName}
use Rattle.comp_bytes.specs.Reading.{Reader, ◌>>=◌, as_at, case_at, choose, declaration_at, description_at, extern_name_at, field_at, function_of, name_at, pair_at, plain_name, result_list_at, sequence_at, tagged_at, u32_at, value_type_at, vector_at}
use Rattle.comp_bytes.specs.declared.forms.ComponentTypeRef.{ComponentTypeRef}
use Rattle.read_follow.specs.{Bodies.behind, Bodies.held_declaration_at, Bodies.is_import, Declares.declaration_by_first, Declares.type_by_first}
use Rattle.read_follow.proofs.{BodyLaws.found_before, BodyLaws.none_found, DeclarationLaws.declaration_first}

-- a form under another name has the same bytes behind it
pub behind_as : {A B : Type 0} (f : A → B) (o : Option (A × List ℕ)) → behind (o >>= λ x. Some (f x.0, x.1)) ≡ behind o
behind_as f x = search std_rules

-- ---- items, one behind the other

module _ {A : Type 0} (reader : Reader A) (n i : ℕ) (bytes rest : List ℕ) (kept : behind (sequence_at reader (n - i) rest) ≡ behind (sequence_at reader n bytes)) where
  one_left : (k : ℕ) (found : Option (A × List ℕ)) → reader rest ≡ found → sequence_at reader (suc k) rest ≡ (found >>= λ y. sequence_at reader k y.1 >>= λ ys. Some (y.0 ∷ ys.0, ys.1))
  unfolding sequence_at
  one_left k found e = ap (λ o. o >>= λ y. sequence_at reader k y.1 >>= λ ys. Some (y.0 ∷ ys.0, ys.1)) e

  less : i < n → n - i ≡ suc (n - (i + 1))
  less h = omega (arith, h)

  one_passed : i < n → (x : A) (after : List ℕ) → reader rest ≡ Some (x, after) → behind (sequence_at reader (n - (i + 1)) after) ≡ behind (sequence_at reader n bytes)
  one_passed more x after e = sym ((search std_rules)) ∙ (sym (ap behind (ap (λ k. sequence_at reader k rest) (less more) ∙ one_left (n - (i + 1)) (Some (x, after)) e)) ∙ kept)

  pub skip_one : i < n → (after : List ℕ) → behind (reader rest) ≡ Some after → behind (sequence_at reader (n - (i + 1)) after) ≡ behind (sequence_at reader n bytes)
  skip_one more after e = let found = found_before (reader rest) after e in one_passed more found.0 after found.1

  pub skip_none : i < n → behind (reader rest) ≡ None → behind (sequence_at reader n bytes) ≡ None
  skip_none more e = sym kept ∙ ap behind (ap (λ k. sequence_at reader k rest) (less more) ∙ one_left (n - (i + 1)) None (none_found (reader rest) e))

  pub skip_all : n ≤ i → behind (sequence_at reader n bytes) ≡ Some rest
  unfolding sequence_at
  skip_all done = let none : n - i ≡ 0 = omega arith in sym kept ∙ ap (λ k. behind (sequence_at reader k rest)) none

-- a vector, by its number
pub vector_found : {A : Type 0} (reader : Reader A) (bytes : List ℕ) (o : Option (ℕ × List ℕ)) → u32_at bytes ≡ o → vector_at reader bytes ≡ (o >>= λ n. sequence_at reader n.0 n.1)
unfolding vector_at
vector_found reader bytes o e = ap (λ p. p >>= λ n. sequence_at reader n.0 n.1) e

-- ---- pairs

abbrev paired : {A B : Type 0} → A → B × List ℕ → (A × B) × List ℕ
paired x y = ((x, y.0), y.1)

abbrev next_of : {A B : Type 0} → Reader B → A × List ℕ → Option ((A × B) × List ℕ)
next_of second x = second x.1 >>= λ y. Some (paired x.0 y)

one_behind : {A B C : Type 0} (f : A × B → C) (x : A) (o : Option (B × List ℕ)) → behind ((o >>= λ y. Some (paired x y)) >>= λ p. Some (f p.0, p.1)) ≡ behind o
one_behind f x y = search std_rules

both_behind : {A B C : Type 0} (f : A × B → C) (second : Reader B) (o : Option (A × List ℕ)) → behind ((o >>= next_of second) >>= λ p. Some (f p.0, p.1)) ≡ (behind o >>= λ rest. behind (second rest))
both_behind f second y = search std_rules

-- ---- fields, and imports and exports

module _ (bytes : List ℕ) where
  field_behind : behind (field_at bytes) ≡ (behind (name_at bytes) >>= λ rest. behind (value_type_at rest))
  unfolding field_at as_at pair_at
  field_behind = both_behind (λ p. record { label = p.0; type_of = p.1 }) value_type_at (name_at bytes)

  pub field_passed : (found : Option (List ℕ)) → behind (name_at bytes) ≡ found → behind (field_at bytes) ≡ (found >>= λ rest. behind (value_type_at rest))
  field_passed found e = field_behind ∙ ap (λ o. o >>= λ rest. behind (value_type_at rest)) e

  seen_behind : behind (pair_at extern_name_at description_at bytes) ≡ (behind (extern_name_at bytes) >>= λ rest. behind (description_at rest))
  unfolding pair_at
  seen_behind = sym (behind_as (λ p. p) (extern_name_at bytes >>= next_of description_at)) ∙ both_behind (λ p. p) description_at (extern_name_at bytes)

  pub seen_passed : (found : Option (List ℕ)) → behind (extern_name_at bytes) ≡ found → behind (pair_at extern_name_at description_at bytes) ≡ (found >>= λ rest. behind (description_at rest))
  seen_passed found e = seen_behind ∙ ap (λ o. o >>= λ rest. behind (description_at rest)) e

pub plain_skipped : (bytes rest : List ℕ) (tag : ℕ) → bytes ≡ tag ∷ rest → tag ≡ 0 → behind (extern_name_at bytes) ≡ behind (name_at rest)
unfolding extern_name_at tagged_at choose as_at
plain_skipped bytes rest tag front is = ap (λ text. behind (extern_name_at text)) (front ∙ ap (λ b. b ∷ rest) is) ∙ behind_as plain_name (name_at rest)

-- ---- functions

module _ (is_async : Bool) (bytes : List ℕ) where
  function_behind : behind (function_type_at is_async bytes) ≡ (behind (vector_at field_at bytes) >>= λ rest. behind (result_list_at rest))
  unfolding function_type_at as_at pair_at
  function_behind = both_behind (function_of is_async) result_list_at (vector_at field_at bytes)

  pub function_skipped : (params rest : List ℕ) → behind (vector_at field_at bytes) ≡ Some params → behind (result_list_at params) ≡ Some rest → behind (function_type_at is_async bytes) ≡ Some rest
  function_skipped params rest e f = function_behind ∙ (ap (λ o. o >>= λ r. behind (result_list_at r)) e ∙ f)

  pub function_cut : behind (vector_at field_at bytes) ≡ None → behind (function_type_at is_async bytes) ≡ None
  function_cut e = function_behind ∙ ap (λ o. o >>= λ r. behind (result_list_at r)) e

  pub function_unended : (params : List ℕ) → behind (vector_at field_at bytes) ≡ Some params → behind (result_list_at params) ≡ None → behind (function_type_at is_async bytes) ≡ None
  function_unended params e f = function_behind ∙ (ap (λ o. o >>= λ r. behind (result_list_at r)) e ∙ f)

-- ---- definitions

module _ (bytes : List ℕ) where
  pub record_skipped : behind (defined_type_at 0x72 bytes) ≡ behind (vector_at field_at bytes)
  unfolding defined_type_at as_at
  record_skipped = behind_as DefinedType.record_of (vector_at field_at bytes)

  pub variant_skipped : behind (defined_type_at 0x71 bytes) ≡ behind (vector_at case_at bytes)
  unfolding defined_type_at as_at
  variant_skipped = behind_as DefinedType.variant_of (vector_at case_at bytes)

  pub tuple_skipped : behind (defined_type_at 0x6f bytes) ≡ behind (vector_at value_type_at bytes)
  unfolding defined_type_at as_at
  tuple_skipped = behind_as DefinedType.tuple_of (vector_at value_type_at bytes)

  pub flags_skipped : behind (defined_type_at 0x6e bytes) ≡ behind (vector_at name_at bytes)
  unfolding defined_type_at as_at
  flags_skipped = behind_as DefinedType.flags_of (vector_at name_at bytes)

  pub enum_skipped : behind (defined_type_at 0x6d bytes) ≡ behind (vector_at name_at bytes)
  unfolding defined_type_at as_at
  enum_skipped = behind_as DefinedType.enum_of (vector_at name_at bytes)

-- ---- declarations

abbrev held : Option (Declaration × List ℕ) → Option (Declaration × List ℕ)
held o = o >>= λ d. cond (is_import d.0) None (Some d)

held_as : {A : Type 0} (f : A → Declaration) → ((x : A) → is_import (f x) ≡ false) → (o : Option (A × List ℕ)) → held (o >>= λ x. Some (f x.0, x.1)) ≡ (o >>= λ x. Some (f x.0, x.1))
held_as f none y = search std_rules

-- a declared type is no import
held_type : (bytes : List ℕ) → held (type_by_first bytes) ≡ type_by_first bytes
unfolding type_by_first declared_type_at as_at
held_type x = search std_rules

type_declared : (rest : List ℕ) → declaration_at (1 ∷ rest) ≡ type_by_first rest
unfolding declaration_by_first
type_declared rest = declaration_first (1 ∷ rest)

module _ (bytes rest : List ℕ) (tag : ℕ) (front : bytes ≡ tag ∷ rest) (is : tag ≡ 1) where
  split : bytes ≡ 1 ∷ rest
  split = front ∙ ap (λ b. b ∷ rest) is

  pub type_skipped : behind (declaration_at bytes) ≡ behind (type_by_first rest)
  type_skipped = ap behind (ap declaration_at split ∙ type_declared rest)

  pub held_type_skipped : behind (held_declaration_at bytes) ≡ behind (type_by_first rest)
  unfolding held_declaration_at
  held_type_skipped = ap behind (ap held (ap declaration_at split ∙ type_declared rest) ∙ held_type rest)

-- ---- declared imports and exports

abbrev seen_at : Reader (ExternName × ComponentTypeRef)
seen_at = pair_at extern_name_at description_at

abbrev imported : ExternName × ComponentTypeRef → Declaration
imported p = Declaration.imported p.0 p.1

abbrev exported : ExternName × ComponentTypeRef → Declaration
exported p = Declaration.exported p.0 p.1

import_declared : (rest : List ℕ) → declaration_at (3 ∷ rest) ≡ as_at imported seen_at rest
unfolding declaration_by_first
import_declared rest = declaration_first (3 ∷ rest)

export_declared : (rest : List ℕ) → declaration_at (4 ∷ rest) ≡ as_at exported seen_at rest
unfolding declaration_by_first
export_declared rest = declaration_first (4 ∷ rest)

module _ (bytes rest : List ℕ) (tag : ℕ) (front : bytes ≡ tag ∷ rest) where
  front_is : (first : ℕ) → tag ≡ first → bytes ≡ first ∷ rest
  front_is first is = front ∙ ap (λ b. b ∷ rest) is

  pub import_skipped : tag ≡ 3 → behind (declaration_at bytes) ≡ behind (pair_at extern_name_at description_at rest)
  unfolding as_at
  import_skipped is = ap behind (ap declaration_at (front_is 3 is) ∙ import_declared rest) ∙ behind_as imported (seen_at rest)

  pub export_skipped : tag ≡ 4 → behind (declaration_at bytes) ≡ behind (pair_at extern_name_at description_at rest)
  unfolding as_at
  export_skipped is = ap behind (ap declaration_at (front_is 4 is) ∙ export_declared rest) ∙ behind_as exported (seen_at rest)

  pub held_export_skipped : tag ≡ 4 → behind (held_declaration_at bytes) ≡ behind (pair_at extern_name_at description_at rest)
  unfolding held_declaration_at as_at
  held_export_skipped is = search (std_rules, front_is, export_declared, held_as, behind_as)

  -- ---- declared types, by their first byte

  pub function_declared : tag ≡ 0x40 → behind (type_by_first bytes) ≡ behind (function_type_at false rest)
  unfolding type_by_first declared_type_at as_at
  function_declared is = ap (λ text. behind (type_by_first text)) (front_is 0x40 is) ∙ behind_as Declaration.function (function_type_at false rest)

  pub async_declared : tag ≡ 0x43 → behind (type_by_first bytes) ≡ behind (function_type_at true rest)
  unfolding type_by_first declared_type_at as_at
  async_declared is = ap (λ text. behind (type_by_first text)) (front_is 0x43 is) ∙ behind_as Declaration.function (function_type_at true rest)

  unlike : (k : ℕ) → (tag ≡ k → ⊥) → (tag == k) ≡ false
  unlike k h = search std_rules

  pub value_declared : (tag ≡ 0x40 → ⊥) → (tag ≡ 0x43 → ⊥) → behind (type_by_first bytes) ≡ behind (defined_type_at tag rest)
  unfolding type_by_first declared_type_at as_at
  value_declared e f = search std_rules
