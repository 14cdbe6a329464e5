-- A list of tokens begins with at most one type, where what follows doesn't go on with it.
use Rattle.std.proofs.Common.{rules as std_rules, ◌≡◌, refl, ap, ℕ, true, false, nat_lt, List, [], ◌∷◌, ◌++◌, append-nil, append_assoc, codes, Some, ◌^◌, Bool}
use Rattle.std.proofs.lemmas.Bool.{ltb-true}
use Rattle.wit_model.specs.Names.{is_label, begins_with_letter}
use Rattle.print_grammar.specs.{Keyword.Keyword, Keyword.PrimitiveName, Keyword.primitive_text, Keyword.escaped, WellNamed.is_well_type, WellNamed.are_well_types}
use Rattle.print_grammar.specs.{Keyword.PrimitiveName.Bool_, Tree.TypeTrees.NoTypes, Tree.TypeTrees.AndTypes, Grammar.ReadsType, Grammar.ReadsTypes, Grammar.IsId}
use Rattle.print_grammar.specs.{Calls.type_calls, Calls.types_calls, AsRead.type_as_read, AsRead.types_as_read, Tree.TypeTree, Tree.TypeTrees}
use Rattle.print_grammar.specs.{Token.Token, Token.spelled, Token.Mark, Token.Token.Punctuation, Token.Token.Key, Token.Token.Digits}
use Rattle.print_grammar.specs.{Grammar.ReadsTypes.last_type, Grammar.ReadsTypes.next_type, Grammar.ReadsTypes.last_type_with_comma, Grammar.IsId.plain, Grammar.IsId.with_percent}
use Rattle.print_grammar.specs.Token.Mark.{Less, Greater, Comma, CloseParen, CloseBrace, Semi, At}
use Rattle.print_grammar.specs.Tree.TypeTree.{PrimitiveType, Name, Handle, Own, Borrow, TupleOf, OptionOf, ListOf, FixedListOf, MapOf, Result, ResultOk, ResultErr, ResultOf, Future, FutureOf, Stream, StreamOf}
use Rattle.print_grammar.specs.Grammar.ReadsType.{primitive, named, named_with_percent, own, borrow, tuple, option, map, list, fixed_list, future, future_of, stream, stream_of, result, result_ok, result_of, result_err}
use Rattle.print_output.specs.{OutputCall.OutputCall, OutputCall.OutputCall.PushStr, OutputCall.OutputCall.Str}
use Rattle.print_grammar.proofs.TokenFacts.{word_at, mark_at, id_token, id_is}
use Rattle.print_grammar.proofs.VersionFacts.{number_at, ends_version}
use Rattle.print_grammar.proofs.{TextOf.text_of, Printing.Prints.by_type, Printing.Prints.by_push, Printing.Prints.by_start, Printing.Prints.by_end}
use Rattle.print_grammar.proofs.Printing.{Follows, Printed, Prints, Ended, relist, word_call, id_call, call_is, less_call, greater_call, comma_call, no_word, printed_text, space, mark}
use Rattle.std.specs.Fmt.{decimal}
use Rattle.base_lemmas.proofs.Bools.{left_of, right_of}

-- ---- What is printed of a type is read as it.

primitive_spelled : (p : PrimitiveName) → spelled (primitive_text p) ≡ Some (Key (Keyword.PrimitiveWord p))
primitive_spelled Bool_ = refl
primitive_spelled _ = refl

primitive_letter : (p : PrimitiveName) → begins_with_letter (primitive_text p) ≡ true
primitive_letter Bool_ = refl
primitive_letter _ = refl

named_reads : (t : Token) (label : List ℕ) (after : List Token) → IsId t label → ReadsType (t ∷ after) (Name label) after
named_reads _ label after IsId.plain = ReadsType.named
named_reads _ label after IsId.with_percent = ReadsType.named_with_percent

-- the name of a type or of a resource
name_reads : {call : OutputCall} (label : List ℕ) {more : List OutputCall} {ts : List Token} → Prints call (escaped label) → is_label label ≡ true → Ended more ts
    → Printed false (call ∷ more) (λ before. ReadsType before (Name label) ts)
name_reads label {ts = ts} p h e = (id_token label ∷ ts, id_call label p h e.word e.follows, named_reads (id_token label) label ts (id_is label))

-- a word alone
pub word_reads : {call : OutputCall} {text : List ℕ} {more : List OutputCall} {ts : List Token} {P : List Token → Type 0} (k : Keyword) → Prints call text → begins_with_letter text ≡ true
    → spelled text ≡ Some (Key k) → Ended more ts → P (Key k ∷ ts) → Printed false (call ∷ more) P
word_reads {ts = ts} k p letter s e r = (Key k ∷ ts, word_call (Key k) p letter s e.word e.follows, r)

-- a word and an open angle bracket
pub opened : {first start : OutputCall} {word : List ℕ} {more : List OutputCall} {ts : List Token} (k : Keyword) → Prints first word → begins_with_letter word ≡ true → spelled word ≡ Some (Key k)
    → Prints start (60 ∷ []) → Follows false more ts → Follows false (first ∷ start ∷ more) (Key k ∷ Punctuation Less ∷ ts)
opened k p letter s q f = word_call (Key k) p letter s (no_word q refl _) (less_call q f)

-- the same in one call
pushed : (word : List ℕ) {text : List ℕ} {more : List OutputCall} {ts : List Token} (k : Keyword) → text ≡ word ++ (60 ∷ []) → begins_with_letter word ≡ true → spelled word ≡ Some (Key k)
    → Follows false more ts → Follows false (PushStr text ∷ more) (Key k ∷ Punctuation Less ∷ ts)
pushed word {more = more} k t letter s f = call_is by_push (λ level. rw (t, append_assoc) (word_at word (60 ∷ text_of false level more) (Key k) letter s refl (mark Less refl (f.at level))))

-- the length of a list, after a comma
abbrev pub length_text : ℕ → List ℕ
length_text n = codes ", " ++ decimal n

pub length_call : {call end : OutputCall} (n : ℕ) {more : List OutputCall} {ts : List Token} → nat_lt n (2 ^ 64) ≡ true → Prints call (length_text n) → Prints end (62 ∷ [])
    → Ended (end ∷ more) (Punctuation Greater ∷ ts) → Ended (call ∷ end ∷ more) (Punctuation Comma ∷ Digits n ∷ Punctuation Greater ∷ ts)
length_call {call} {end} n {more} small p q e = record {
  follows = call_is p (λ level.
      let behind = number_at n (text_of false level (end ∷ more)) (ltb-true n (2 ^ 64) small) (ap ends_version (printed_text q level more)) (e.follows.at level) in
      mark Comma refl (space behind));
  word = no_word p refl (end ∷ more);
}

-- nothing for the first part of a result
err_call : {more : List OutputCall} {ts : List Token} → Follows false more ts → Follows false (Str (codes "_, ") ∷ more) (Key Keyword.Underscore ∷ Punctuation Comma ∷ ts)
err_call f = record { at = λ level. mark_at 95 (Key Keyword.Underscore) refl refl refl (λ d more. refl) (mark Comma refl (space (f.at level))) }

mutual
  pub type_reads : (ty : TypeTree) → is_well_type ty ≡ true → {more : List OutputCall} {ts : List Token} → Ended more ts
      → Printed false (type_calls ty ++ more) (λ before. ReadsType before (type_as_read ty) ts)
  type_reads (PrimitiveType p) h e = word_reads (Keyword.PrimitiveWord p) by_type (primitive_letter p) (primitive_spelled p) e ReadsType.primitive
  type_reads (Name name) h e = name_reads name by_type h e
  type_reads (Handle resource) h e = name_reads resource by_type h e
  type_reads (Own resource) h e =
      let f = greater_call by_end e.follows in (_, opened Keyword.Own by_type refl refl by_start (id_call resource by_type h f.word f.follows), ReadsType.own (id_is resource))
  type_reads (Borrow resource) h e =
      let f = greater_call by_end e.follows in (_, opened Keyword.Borrow by_type refl refl by_start (id_call resource by_type h f.word f.follows), ReadsType.borrow (id_is resource))
  type_reads (TupleOf types) h e =
      let i = types_reads types h (greater_call by_end e.follows) in simp append_assoc (_, opened Keyword.Tuple by_type refl refl by_start i.1, ReadsType.tuple i.2)
  type_reads (OptionOf ty) h e = let i = type_reads ty h (greater_call by_end e.follows) in simp append_assoc (_, opened Keyword.Option_ by_type refl refl by_start i.1, ReadsType.option i.2)
  type_reads (ListOf ty) h e = let i = type_reads ty h (greater_call by_end e.follows) in simp append_assoc (_, opened Keyword.List_ by_type refl refl by_start i.1, ReadsType.list i.2)
  type_reads (FixedListOf ty n) h e =
      let i = type_reads ty (left_of _ _ h) (length_call n (right_of (is_well_type ty) _ h) by_push by_end (greater_call by_end e.follows)) in
      simp append_assoc (_, opened Keyword.List_ by_type refl refl by_start i.1, ReadsType.fixed_list i.2)
  type_reads (MapOf key value) h e =
      let v = type_reads value (right_of (is_well_type key) _ h) (greater_call by_end e.follows) in
      let i = type_reads key (left_of _ _ h) (comma_call v.1) in simp append_assoc (_, opened Keyword.Map by_type refl refl by_start i.1, ReadsType.map i.2 v.2)
  type_reads Result h e = word_reads Keyword.Result by_type refl refl e ReadsType.result
  type_reads (ResultOk ok) h e = let i = type_reads ok h (greater_call by_end e.follows) in simp append_assoc (_, opened Keyword.Result by_type refl refl by_start i.1, ReadsType.result_ok i.2)
  type_reads (ResultErr err) h e =
      let i = type_reads err h (greater_call by_end e.follows) in simp append_assoc (_, opened Keyword.Result by_type refl refl by_start (err_call i.1), ReadsType.result_err i.2)
  type_reads (ResultOf ok err) h e =
      let v = type_reads err (right_of (is_well_type ok) _ h) (greater_call by_end e.follows) in
      let i = type_reads ok (left_of _ _ h) (comma_call v.1) in simp append_assoc (_, opened Keyword.Result by_type refl refl by_start i.1, ReadsType.result_of i.2 v.2)
  type_reads Future h e = word_reads Keyword.Future by_push refl refl e ReadsType.future
  type_reads (FutureOf ty) h e = let i = type_reads ty h (greater_call by_push e.follows) in simp append_assoc (_, pushed (codes "future") Keyword.Future refl refl refl i.1, ReadsType.future_of i.2)
  type_reads Stream h e = word_reads Keyword.Stream by_push refl refl e ReadsType.stream
  type_reads (StreamOf ty) h e = let i = type_reads ty h (greater_call by_push e.follows) in simp append_assoc (_, pushed (codes "stream") Keyword.Stream refl refl refl i.1, ReadsType.stream_of i.2)

  types_reads : (types : TypeTrees) → are_well_types types ≡ true → {more : List OutputCall} {ts : List Token} → Ended more (Punctuation Greater ∷ ts)
      → Printed false (types_calls types ++ more) (λ before. ReadsTypes before (types_as_read types) ts)
  types_reads NoTypes h e = absurd cc
  types_reads (AndTypes ty NoTypes) h e = let i = type_reads ty (left_of _ _ h) e in simp append-nil (i.0, i.1, last_type i.2)
  types_reads (AndTypes ty (AndTypes other types)) h e =
      let r = types_reads (AndTypes other types) (right_of (is_well_type ty) _ h) e in
      let i = type_reads ty (left_of _ _ h) (comma_call r.1) in relist (i.0, i.1, next_type i.2 r.2) (simp append_assoc)

-- ---- A token is at most one name.

pub id-unique : {t : Token} {a b : List ℕ} → IsId t a → IsId t b → a ≡ b
id-unique plain plain = refl
id-unique with_percent with_percent = refl

-- ---- what may follow

abbrev is_stop : Mark → Bool
is_stop Semi = true
is_stop Comma = true
is_stop Greater = true
is_stop CloseParen = true
is_stop CloseBrace = true
is_stop mark = false

-- whether tokens begin with `;`, `,`, `>`, `)` or `}`
abbrev pub stops : List Token → Bool
stops (Punctuation mark ∷ tokens) = is_stop mark
stops tokens = false

-- whether tokens begin with `<` or `@`
abbrev pub begins_with_less : List Token → Bool
begins_with_less (Punctuation Less ∷ tokens) = true
begins_with_less tokens = false

abbrev pub begins_with_at : List Token → Bool
begins_with_at (Punctuation At ∷ tokens) = true
begins_with_at tokens = false

pub no_less : (ts : List Token) → stops ts ≡ true → begins_with_less ts ≡ false
no_less (Punctuation Less ∷ ts) h = absurd cc
no_less _ h = refl

-- ---- types

-- the same tree, and the same tokens after it
abbrev Same : TypeTree → TypeTree → List Token → List Token → Type 0
Same s t a b = (s ≡ t) × (a ≡ b)

-- the tokens after the first one
pub tail_same : {x y : Token} {a b : List Token} → x ∷ a ≡ y ∷ b → a ≡ b
tail_same e = cc

-- no type begins with `>`
no_types_at_end : {after rest : List Token} {types : TypeTrees} → ReadsTypes (Punctuation Greater ∷ after) types rest → ⊥
no_types_at_end (last_type a) = elim a [ ]
no_types_at_end (last_type_with_comma a) = elim a [ ]
no_types_at_end (next_type a c) = elim a [ ]

mutual
  pub type-unique : {before after rest : List Token} {t s : TypeTree} → begins_with_less after ≡ false → begins_with_less rest ≡ false → ReadsType before t after → ReadsType before s rest
      → Same t s after rest
  type-unique first second primitive primitive = (refl, refl)
  type-unique first second named named = (refl, refl)
  type-unique first second named_with_percent named_with_percent = (refl, refl)
  type-unique first second (own a) (own b) = (ap TypeTree.Own (id-unique a b), refl)
  type-unique first second (borrow a) (borrow b) = (ap TypeTree.Borrow (id-unique a b), refl)
  type-unique first second (tuple a) (tuple b) = let h = types-unique a b in (ap TypeTree.TupleOf h.0, h.1)
  type-unique first second (option a) (option b) = let h = type-unique refl refl a b in (ap TypeTree.OptionOf h.0, cc)
  type-unique first second (list a) (list b) = let h = type-unique refl refl a b in (ap TypeTree.ListOf h.0, cc)
  type-unique first second (list a) (fixed_list b) = let h = type-unique refl refl a b in absurd (cc h.1)
  type-unique first second (fixed_list a) (list b) = let h = type-unique refl refl a b in absurd (cc h.1)
  type-unique first second (fixed_list a) (fixed_list b) = let h = type-unique refl refl a b in (cc (h.0, h.1), cc h.1)
  type-unique first second (map a c) (map b d) =
      let h = type-unique refl refl a b in let k = type-unique refl refl c (rw (← tail_same h.1) at d) in (cc (h.0, k.0), cc k.1)
  type-unique first second future future = (refl, refl)
  type-unique first second (future_of a) (future_of b) = let h = type-unique refl refl a b in (ap TypeTree.FutureOf h.0, cc)
  type-unique first second stream stream = (refl, refl)
  type-unique first second (stream_of a) (stream_of b) = let h = type-unique refl refl a b in (ap TypeTree.StreamOf h.0, cc)
  type-unique first second result result = (refl, refl)
  type-unique first second (result_ok a) (result_ok b) = let h = type-unique refl refl a b in (ap TypeTree.ResultOk h.0, cc)
  type-unique first second (result_ok a) (result_of b d) = let h = type-unique refl refl a b in absurd (cc h.1)
  type-unique first second (result_of a c) (result_ok b) = let h = type-unique refl refl a b in absurd (cc h.1)
  type-unique first second (result_of a c) (result_of b d) =
      let h = type-unique refl refl a b in let k = type-unique refl refl c (rw (← tail_same h.1) at d) in (cc (h.0, k.0), cc k.1)
  type-unique first second (result_err a) (result_err b) = let h = type-unique refl refl a b in (ap TypeTree.ResultErr h.0, cc)
  type-unique first second (result_ok a) (result_err b) = elim a [ ]
  type-unique first second (result_of a c) (result_err b) = elim a [ ]
  type-unique first second (result_err a) (result_ok b) = elim b [ ]
  type-unique first second (result_err a) (result_of b d) = elim b [ ]
  type-unique first second x y = search std_rules

  pub types-unique : {before after rest : List Token} {t s : TypeTrees} → ReadsTypes before t after → ReadsTypes before s rest → (t ≡ s) × (after ≡ rest)
  types-unique (last_type a) (last_type b) = let h = type-unique refl refl a b in (cc h.0, cc h.1)
  types-unique (last_type a) (last_type_with_comma b) = let h = type-unique refl refl a b in absurd (cc h.1)
  types-unique (last_type a) (next_type b d) = let h = type-unique refl refl a b in absurd (cc h.1)
  types-unique (last_type_with_comma a) (last_type b) = let h = type-unique refl refl a b in absurd (cc h.1)
  types-unique (last_type_with_comma a) (last_type_with_comma b) = let h = type-unique refl refl a b in (cc h.0, cc h.1)
  types-unique (last_type_with_comma a) (next_type b d) = let h = type-unique refl refl a b in absurd (no_types_at_end (rw (← tail_same h.1) at d))
  types-unique (next_type a c) (last_type b) = let h = type-unique refl refl a b in absurd (cc h.1)
  types-unique (next_type a c) (last_type_with_comma b) = let h = type-unique refl refl a b in absurd (no_types_at_end (rw (tail_same h.1) at c))
  types-unique (next_type a c) (next_type b d) = let h = type-unique refl refl a b in let k = types-unique c (rw (← tail_same h.1) at d) in (cc (h.0, k.0), k.1)
