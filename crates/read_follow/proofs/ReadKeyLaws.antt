-- Types of functions that are followed as they are read: what they stand for is what those stand for that are read first.
use Rattle.std.proofs.Common.{rules as std_rules, ◌≡◌, refl, sym, ap, ◌∙◌, ℕ, zero, suc, Bool, true, false, List, [], ◌∷◌, map, Option, Some, None, option_map}
use Rattle.std.specs.{Borrow.Bor}
use Rattle.std.proofs.lemmas.{Option.same_Some as some_same}
use Rattle.wit_model.specs.{Meaning.Signature, Text.Text, Tree.Tree}
use Rattle.comp_bytes.specs.{FirstByte.declared_type_at, FirstByte.function_type_at, Levels.Entry, Levels.entry_at, Levels.plain, Raw.Declaration, Raw.FunctionType, Raw.Labeled}
use Rattle.comp_bytes.specs.Reading.{Reader, ◌>>=◌, as_at, declaration_at, field_at, function_of, pair_at, result_list_at, sequence_at, u32_at, vector_at}
use Rattle.comp_bytes.specs.declared.forms.ComponentValType.{ComponentValType}
use Rattle.comp_meaning.specs.Follow.{Slot as Meant, each, field_type, function_signature, given, value_type}
use Rattle.read_follow.specs.declared.{keys.FunctionKey.FunctionKey}
use Rattle.read_follow.specs.Functions.{function_shape, param_of, param_tree, signature_in}
use Rattle.read_follow.specs.{Declares.declaration_by_first, Declares.type_by_first, ReadKeys.function_byte, ReadKeys.made_at, ReadKeys.param_meant}
use Rattle.plan_meaning.specs.Shapes.{part_tree}
use Rattle.read_follow.proofs.{DeclarationLaws.declaration_first, EntryLaws.plain_front, StepLaws.after_first, StepLaws.headed}

-- ---- one form

module _ {A B : Type 0} (f : A → Option B) (reader : Reader A) (bytes : List ℕ) where
  -- what was read decides
  pub made_on : (x : A) (rest : List ℕ) → reader bytes ≡ Some (x, rest) → made_at f reader bytes ≡ (f x >>= λ y. Some (y, rest))
  made_on x rest e = ap (λ o. o >>= λ z. f z.0 >>= λ y. Some (y, z.1)) e

  pub made_some : (x : A) (rest : List ℕ) (y : B) → reader bytes ≡ Some (x, rest) → f x ≡ Some y → made_at f reader bytes ≡ Some (y, rest)
  made_some x rest y e h = made_on x rest e ∙ ap (λ o. o >>= λ z. Some (z, rest)) h

  pub made_unmeant : (x : A) (rest : List ℕ) → reader bytes ≡ Some (x, rest) → f x ≡ None → made_at f reader bytes ≡ None
  made_unmeant x rest e h = made_on x rest e ∙ ap (λ o. o >>= λ z. Some (z, rest)) h

  pub made_unread : reader bytes ≡ None → made_at f reader bytes ≡ None
  made_unread e = ap (λ o. o >>= λ z. f z.0 >>= λ y. Some (y, z.1)) e

-- ---- forms one behind the other

module _ {A B : Type 0} (f : A → Option B) (reader : Reader A) where
  abbrev rows : Option (List A × List ℕ) → Option (List B × List ℕ)
  rows o = o >>= λ xs. each f xs.0 >>= λ ys. Some (ys, xs.1)

  first_row : (x : A) (o : Option (List A × List ℕ)) (m : Option B) → f x ≡ m → rows (headed x o) ≡ (m >>= λ y. headed y (rows o))
  first_row x None None e = refl
  first_row x None (Some y) e = refl
  first_row x (Some xs) None e = ap (λ m. (m >>= λ y. each f xs.0 >>= λ ys. Some (y ∷ ys)) >>= λ ys. Some (ys, xs.1)) e
  first_row x (Some xs) (Some y) e = ap (λ m. (m >>= λ y. each f xs.0 >>= λ ys. Some (y ∷ ys)) >>= λ ys. Some (ys, xs.1)) e ∙ by (each f xs.0)
    where
      by : (o : Option (List B)) → ((o >>= λ ys. Some (y ∷ ys)) >>= λ ys. Some (ys, xs.1)) ≡ headed y (o >>= λ ys. Some (ys, xs.1))
      by x = search std_rules

  pub sequence_made : (n : ℕ) (bytes : List ℕ) → sequence_at (made_at f reader) n bytes ≡ rows (sequence_at reader n bytes)
  unfolding sequence_at
  sequence_made zero bytes = refl
  sequence_made (suc n) bytes = by (reader bytes) (λ behind. sequence_made n behind)
    where
      made : (rest : List ℕ) (m : Option B) → after_first (made_at f reader) n (m >>= λ y. Some (y, rest)) ≡ (m >>= λ y. headed y (sequence_at (made_at f reader) n rest))
      made rest None = refl
      made rest (Some y) = refl

      by : (o : Option (A × List ℕ)) → ((behind : List ℕ) → sequence_at (made_at f reader) n behind ≡ rows (sequence_at reader n behind))
          → after_first (made_at f reader) n (o >>= λ x. f x.0 >>= λ y. Some (y, x.1)) ≡ rows (after_first reader n o)
      by x h = search (std_rules, made, headed, first_row)

  pub vector_made : (bytes : List ℕ) → vector_at (made_at f reader) bytes ≡ rows (vector_at reader bytes)
  unfolding vector_at
  vector_made bytes = by (u32_at bytes)
    where
      by : (o : Option (ℕ × List ℕ)) → (o >>= λ n. sequence_at (made_at f reader) n.0 n.1) ≡ rows (o >>= λ n. sequence_at reader n.0 n.1)
      by x = search (std_rules, sequence_made)

-- ---- the type of a function

-- the parameters and what is given back, as they are read
abbrev both_read : List (Labeled ComponentValType) → Option (Option ComponentValType × List ℕ) → Option ((List (Labeled ComponentValType) × Option ComponentValType) × List ℕ)
both_read fs o = o >>= λ y. Some ((fs, y.0), y.1)

abbrev typed_as : Bool → Option ((List (Labeled ComponentValType) × Option ComponentValType) × List ℕ) → Option (FunctionType × List ℕ)
typed_as is_async o = o >>= λ p. Some (function_of is_async p.0, p.1)

-- what was found, with the bytes behind it
abbrev followed_by : {A : Type 0} → List ℕ → Option A → Option (A × List ℕ)
followed_by rest o = o >>= λ y. Some (y, rest)

abbrev meant_as : {A B : Type 0} → (A → Option B) → Option (A × List ℕ) → Option (B × List ℕ)
meant_as f o = o >>= λ x. followed_by x.1 (f x.0)

module _ (slots : List Meant) (is_async : Bool) where
  abbrev signed : List (Text × Tree) → Option Tree → Signature
  signed ps r = record { is_async = is_async; params = ps; result = r }

  abbrev outcome_at : Reader (Option Tree)
  outcome_at = made_at (given (value_type slots)) result_list_at

  abbrev ended_by : List (Text × Tree) → Option (Option Tree × List ℕ) → Option (Signature × List ℕ)
  ended_by ps o = o >>= λ r. Some (signed ps r.0, r.1)

  abbrev with_outcome : Option (List (Text × Tree) × List ℕ) → Option (Signature × List ℕ)
  with_outcome o = o >>= λ ps. ended_by ps.0 (outcome_at ps.1)

  pub function_made : (bytes : List ℕ) → made_at (function_signature slots) (function_type_at is_async) bytes ≡ with_outcome (vector_at (made_at (field_type slots) field_at) bytes)
  unfolding function_type_at as_at pair_at
  function_made bytes = by (vector_at field_at bytes) ∙ ap with_outcome (sym (vector_made (field_type slots) field_at bytes))
    where
      last : (ps : List (Text × Tree)) (rest : List ℕ) (g : Option (Option Tree)) → followed_by rest (g >>= λ t. Some (signed ps t)) ≡ ended_by ps (followed_by rest g)
      last ps rest None = refl
      last ps rest (Some t) = refl

      parts : (fs : List (Labeled ComponentValType)) (behind : List ℕ) (o : Option (Option ComponentValType × List ℕ)) → result_list_at behind ≡ o
          → meant_as (function_signature slots) (typed_as is_async (both_read fs o)) ≡ with_outcome (followed_by behind (each (field_type slots) fs))
      parts fs behind None e = search (std_rules, made_unread)
      parts fs behind (Some v) e = search (std_rules, last, made_on)

      by : (o : Option (List (Labeled ComponentValType) × List ℕ))
          → meant_as (function_signature slots) (typed_as is_async (o >>= λ x. both_read x.0 (result_list_at x.1))) ≡ with_outcome (meant_as (each (field_type slots)) o)
      by x = search (std_rules, parts)

-- the parameters and what is given back make the whole
module _ (T : List Tree) (slots : List Meant) (is_async : Bool) (bytes : List ℕ) where
  meant_params : (ps : List (Bor (List ℕ) × ℕ)) → map (param_meant T) ps ≡ map (param_tree T) (map param_of ps)
  meant_params [] = refl
  meant_params (p ∷ ps) = ap (λ rest. param_meant T p ∷ rest) (meant_params ps)

  pub key_found : (k : FunctionKey) (behind rest : List ℕ) → k.is_async ≡ is_async → vector_at (made_at (field_type slots) field_at) bytes ≡ Some (map (param_meant T) k.params.items, behind)
      → made_at (given (value_type slots)) result_list_at behind ≡ Some (option_map (part_tree T) k.result, rest)
      → made_at (function_signature slots) (function_type_at is_async) bytes ≡ Some (signature_in T (function_shape k), rest)
  unfolding signature_in
  key_found k behind rest kind ps r = function_made slots is_async bytes
      ∙ (ap (with_outcome slots is_async) ps ∙ (ap (ended_by slots is_async (map (param_meant T) k.params.items)) r
      ∙ (λ i. Some (record { is_async = sym kind i; params = meant_params k.params.items i; result = option_map (part_tree T) k.result }, rest))))

  pub no_key : vector_at (made_at (field_type slots) field_at) bytes ≡ None → made_at (function_signature slots) (function_type_at is_async) bytes ≡ None
  no_key e = function_made slots is_async bytes ∙ ap (with_outcome slots is_async) e

  pub no_end : (ps : List (Bor (List ℕ) × ℕ)) (behind : List ℕ) → vector_at (made_at (field_type slots) field_at) bytes ≡ Some (map (param_meant T) ps, behind)
      → made_at (given (value_type slots)) result_list_at behind ≡ None → made_at (function_signature slots) (function_type_at is_async) bytes ≡ None
  no_end ps behind e none = function_made slots is_async bytes ∙ (ap (with_outcome slots is_async) e ∙ ap (ended_by slots is_async (map (param_meant T) ps)) none)

-- ---- the type that is in front

module _ (slots : List Meant) (is_async : Bool) (bytes : List ℕ) (f : FunctionType) (behind : List ℕ) (at : function_type_at is_async bytes ≡ Some (f, behind)) where
  -- what was found is what it stands for, and what is behind it
  pub signature_read : (s : Signature) (rest : List ℕ) → made_at (function_signature slots) (function_type_at is_async) bytes ≡ Some (s, rest) → (function_signature slots f ≡ Some s) × (rest ≡ behind)
  signature_read s rest e = by (function_signature slots f) (sym (made_on (function_signature slots) (function_type_at is_async) bytes f behind at) ∙ e)
    where
      by : (o : Option Signature) → followed_by behind o ≡ Some (s, rest) → (o ≡ Some s) × (rest ≡ behind)
      by x h = search (std_rules, some_same)

  pub signature_unread : made_at (function_signature slots) (function_type_at is_async) bytes ≡ None → function_signature slots f ≡ None
  signature_unread e = by (function_signature slots f) (sym (made_on (function_signature slots) (function_type_at is_async) bytes f behind at) ∙ e)
    where
      by : (o : Option Signature) → followed_by behind o ≡ None → o ≡ None
      by x h = search std_rules

-- ---- the declaration of a function's type is in front

abbrev pub declared_as : Option (FunctionType × List ℕ) → Option (Declaration × List ℕ)
declared_as o = o >>= λ f. Some (Declaration.function f.0, f.1)

abbrev pub entered_as : Option (FunctionType × List ℕ) → Option (Entry × List ℕ)
entered_as o = o >>= λ f. Some (plain (Declaration.function f.0), f.1)

pub function_declared : (is_async : Bool) (bytes rest : List ℕ) → bytes ≡ 1 ∷ function_byte is_async ∷ rest → declaration_at bytes ≡ declared_as (function_type_at is_async rest)
unfolding declaration_by_first type_by_first declared_type_at as_at
function_declared false bytes rest e = ap declaration_at e ∙ declaration_first (1 ∷ 0x40 ∷ rest)
function_declared true bytes rest e = ap declaration_at e ∙ declaration_first (1 ∷ 0x43 ∷ rest)

pub function_entry : (is_async : Bool) (bytes rest : List ℕ) → bytes ≡ 1 ∷ function_byte is_async ∷ rest → entry_at bytes ≡ entered_as (function_type_at is_async rest)
function_entry is_async bytes rest e = ap entry_at e ∙ (at is_async ∙ by (function_type_at is_async rest))
  where
    as_plain : Option (Declaration × List ℕ) → Option (Entry × List ℕ)
    as_plain o = o >>= λ d. Some (plain d.0, d.1)

    at : (b : Bool) → entry_at (1 ∷ function_byte b ∷ rest) ≡ as_plain (declared_as (function_type_at b rest))
    at false = plain_front (1 ∷ 0x40 ∷ rest) (declared_as (function_type_at false rest)) refl (function_declared false (1 ∷ 0x40 ∷ rest) rest refl)
    at true = plain_front (1 ∷ 0x43 ∷ rest) (declared_as (function_type_at true rest)) refl (function_declared true (1 ∷ 0x43 ∷ rest) rest refl)

    by : (o : Option (FunctionType × List ℕ)) → as_plain (declared_as o) ≡ entered_as o
    by x = search std_rules
