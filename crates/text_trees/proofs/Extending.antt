-- With more room a reader finds the same, and it refuses the same but where a type had too many levels.
use Rattle.std.proofs.Common.{ℕ, ◌≤◌, Bool, true, false, List, ◌∷◌, arith, zero, suc, if◌then◌else◌}
use Rattle.wit_model.specs.Text.{Text}
use Rattle.print_grammar.specs.{Keyword.Keyword, Token.Token, Token.Mark}
use Rattle.print_grammar.specs.Token.Token.{Word, Escaped, Key}
use Rattle.print_grammar.specs.Tree.{TypeTree, SignatureTree, Prefix, PackageHead}
use Rattle.text_trees.specs.Grammar.{Documentation}
use Rattle.text_trees.specs.Reading.{Wanted.Shallower, Reading, Reading.Found, Reading.Refused, then_read, made, behind, begins, behind_mark, if_mark, begins_key, behind_key, if_key, if_id, things_in_front, until, repeated, listed_in_front, listed}
use Rattle.text_trees.specs.ReadTypes.{payload_in_front, form_in_front, type_by, level_in_front, type_in_front, params_in_front, result_in_front, signature_in_front}
use Rattle.text_trees.specs.ReadDeclared.{function_behind, field_in_front, case_in_front, resource_member_in_front, declared_in_front}
use Rattle.text_trees.specs.ReadFiles.{member_in_front, extern_in_front, world_member_behind, part_in_front, item_in_front, nested_behind, nested_in_front, piece_in_front, text_in_front}
use Rattle.text_trees.proofs.FilesFound.{item_by, nested_by, text_by}

-- ---- readings

-- a reading and another one: the same, or the first lacks levels
pub data Extends {X : Type 0} : Reading X → Reading X → Type 0 where
  same : {r : Reading X} → Extends r r
  too_deep : {rest : List Token} {r : Reading X} → Extends (Refused Shallower rest) r

-- what one reader answers, another answers too, but where the first lacks levels
pub record Extended {X : Type 0} (read more : List Token → Reading X) : Type 0 where
  pub at : (ts : List Token) → Extends (read ts) (more ts)

as_it_is : {X : Type 0} {read : List Token → Reading X} → Extended read read
as_it_is = record { at = λ ts. same }

then_extends : {X Y : Type 0} {r s : Reading X} {f g : X → List Token → Reading Y} → Extends r s → ((x : X) → Extended (f x) (g x)) → Extends (then_read r f) (then_read s g)
unfolding then_read
then_extends (same {r = Found x rest}) e = (e x).at rest
then_extends (same {r = Refused wanted rest}) e = same
then_extends too_deep e = too_deep

made_extends : {X Y : Type 0} (f : X → Y) {r s : Reading X} → Extends r s → Extends (made f r) (made f s)
unfolding made
made_extends f same = same
made_extends f too_deep = too_deep

either_extends : {X : Type 0} (b : Bool) {r s u v : Reading X} → Extends r s → Extends u v → Extends (if b then r else u) (if b then s else v)
either_extends true e f = e
either_extends false e f = f

module _ {X : Type 0} where
  then_read_on : {Y : Type 0} {read more : List Token → Reading Y} {f g : Y → List Token → Reading X} → Extended read more → ((y : Y) → Extended (f y) (g y))
      → Extended (λ ts. then_read (read ts) f) (λ ts. then_read (more ts) g)
  then_read_on e h = record { at = λ ts. then_extends (e.at ts) h }

  making : {Y : Type 0} (make : Y → X) {read more : List Token → Reading Y} → Extended read more → Extended (λ ts. made make (read ts)) (λ ts. made make (more ts))
  making make e = record { at = λ ts. made_extends make (e.at ts) }

  behind_a_mark : (mark : Mark) {read more : List Token → Reading X} → Extended read more → Extended (behind_mark mark read) (behind_mark mark more)
  unfolding behind_mark
  behind_a_mark mark e = record { at = λ ts. either_extends (begins mark ts) (e.at (behind ts)) same }

  if_a_mark : (mark : Mark) {read more other less : List Token → Reading X} → Extended read more → Extended other less → Extended (if_mark mark read other) (if_mark mark more less)
  unfolding if_mark
  if_a_mark mark e f = record { at = λ ts. either_extends (begins mark ts) (e.at (behind ts)) (f.at ts) }

  behind_a_key : (keyword : Keyword) {read more : List Token → Reading X} → Extended read more → Extended (behind_key keyword read) (behind_key keyword more)
  unfolding behind_key
  behind_a_key keyword e = record { at = λ ts. either_extends (begins_key keyword ts) (e.at (behind ts)) same }

  if_a_key : (keyword : Keyword) {read more other less : List Token → Reading X} → Extended read more → Extended other less
      → Extended (if_key keyword read other) (if_key keyword more less)
  unfolding if_key
  if_a_key keyword e f = record { at = λ ts. either_extends (begins_key keyword ts) (e.at (behind ts)) (f.at ts) }

  if_an_id : {f g : Text → List Token → Reading X} {other less : List Token → Reading X} → ((name : Text) → Extended (f name) (g name)) → Extended other less
      → Extended (if_id f other) (if_id g less)
  unfolding if_id
  if_an_id {f} {g} {other} {less} e h = record { at = go }
    where
      go : (ts : List Token) → Extends (if_id f other ts) (if_id g less ts)
      go (Word name ∷ ts) = (e name).at ts
      go (Escaped name ∷ ts) = (e name).at ts
      go ts = h.at ts

  by_a_test : (test : List Token → Bool) {read more other less : List Token → Reading X} → Extended read more → Extended other less
      → Extended (λ ts. if test ts then read ts else other ts) (λ ts. if test ts then more ts else less ts)
  by_a_test test e f = record { at = λ ts. either_extends (test ts) (e.at ts) (f.at ts) }

  -- a reader that looks at the documentation in front of what it reads
  by_docs : (docs : Documentation) (read more : List Text → List Token → Reading X) → ((lines : List Text) → Extended (read lines) (more lines))
      → Extended (λ ts. read (docs ts) ts) (λ ts. more (docs ts) ts)
  by_docs docs read more e = record { at = λ ts. (e (docs ts)).at ts }

-- ---- lists

module _ {X : Type 0} {read more : List Token → Reading X} (e : Extended read more) where
  things_extend : (ends : List Token → Bool) (n : ℕ) → Extended (things_in_front ends read n) (things_in_front ends more n)
  unfolding things_in_front
  things_extend ends zero = as_it_is
  things_extend ends (suc n) = by_a_test ends as_it_is (then_read_on e (λ x. making (λ xs. x ∷ xs) (things_extend ends n)))

  until_extends : (ends : List Token → Bool) → Extended (until ends read) (until ends more)
  unfolding until
  until_extends ends = record { at = λ ts. (things_extend ends _).at ts }

  repeated_extends : (close : Mark) → Extended (repeated read close) (repeated more close)
  unfolding repeated
  repeated_extends close = then_read_on (until_extends (begins close)) (λ xs. as_it_is)

  listed_in_front_extends : (close : Mark) (n : ℕ) → Extended (listed_in_front read close n) (listed_in_front more close n)
  unfolding listed_in_front
  listed_in_front_extends close zero = as_it_is
  listed_in_front_extends close (suc n) =
      then_read_on e (λ x. then_read_on as_it_is (λ goes_on. record { at = λ ts. either_extends goes_on (made_extends (λ xs. x ∷ xs) ((listed_in_front_extends close n).at ts)) same }))

  listed_extends : (close : Mark) → Extended (listed read close) (listed more close)
  unfolding listed
  listed_extends close = record { at = λ ts. (listed_in_front_extends close _).at ts }

-- ---- types

module _ {read more : List Token → Reading TypeTree} (e : Extended read more) where
  payload-extends : (alone : TypeTree) (of : TypeTree → TypeTree) → Extended (payload_in_front alone of read) (payload_in_front alone of more)
  payload-extends alone of = if_a_mark _ (then_read_on e (λ ty. as_it_is)) as_it_is

  form-extends : Extended (form_in_front read) (form_in_front more)
  form-extends =
      if_a_key _ as_it_is
      (if_a_key _ as_it_is
      (if_a_key _ (behind_a_mark _ (making _ (listed_extends e _)))
      (if_a_key _ (making _ (behind_a_mark _ (then_read_on e (λ ty. as_it_is))))
      (if_a_key _ (behind_a_mark _ (then_read_on e (λ ty. as_it_is)))
      (if_a_key _ (behind_a_mark _ (then_read_on e (λ k. behind_a_mark _ (then_read_on e (λ v. as_it_is)))))
      (if_a_key _ (if_a_mark _ (if_a_key _ (behind_a_mark _ (then_read_on e (λ err. as_it_is)))
      (then_read_on e (λ ok. if_a_mark _ (then_read_on e (λ err. as_it_is)) as_it_is))) as_it_is)
      (if_a_key _ (payload-extends _ _)
      (if_a_key _ (payload-extends _ _) as_it_is))))))))

by-extends : {form more : List Token → Reading TypeTree} → Extended form more → Extended (type_by form) (type_by more)
by-extends {form} {more} e = record { at = go }
  where
    go : (ts : List Token) → Extends (type_by form ts) (type_by more ts)
    go (Word name ∷ ts) = same
    go (Key (Keyword.PrimitiveWord p) ∷ ts) = same
    go (Key Keyword.Use ∷ ts) = e.at _
    go (Key keyword ∷ ts) = e.at _
    go _ = same

level-extends : (room more : ℕ) → room ≤ more → Extended (level_in_front room) (level_in_front more)
unfolding level_in_front
level-extends zero more h = record { at = λ ts. too_deep }
level-extends (suc room) zero h = absurd (omega arith)
level-extends (suc room) (suc more) h = form-extends (by-extends (level-extends room more (omega arith)))

module _ (room more : ℕ) (h : room ≤ more) where
  type-extends : Extended (type_in_front room) (type_in_front more)
  type-extends = by-extends (level-extends room more h)

  alias-extends : Extended (type_in_front (suc room)) (type_in_front (suc more))
  alias-extends = by-extends (level-extends (suc room) (suc more) (omega (arith, h)))

  -- ---- signatures and declared types

  params-extend : Extended (params_in_front room) (params_in_front more)
  params-extend =
      behind_a_mark _ (if_a_mark _ as_it_is (listed_extends (then_read_on as_it_is (λ name. behind_a_mark _ (then_read_on type-extends (λ ty. as_it_is)))) _))

  result-extends : Extended (result_in_front room) (result_in_front more)
  result-extends = if_a_mark _ (making _ type-extends) as_it_is

  signature-extends : Extended (signature_in_front room) (signature_in_front more)
  signature-extends =
      if_a_key _ (behind_a_key _ (then_read_on params-extend (λ params. then_read_on result-extends (λ result. as_it_is))))
      (behind_a_key _ (then_read_on params-extend (λ params. then_read_on result-extends (λ result. as_it_is))))

  function-extends : {X : Type 0} (function_of : SignatureTree → X) → Extended (function_behind room function_of) (function_behind more function_of)
  function-extends function_of = then_read_on signature-extends (λ signature. as_it_is)

module _ (docs : Documentation) (room more : ℕ) (h : room ≤ more) where
  field-extends : Extended (field_in_front docs room) (field_in_front docs more)
  field-extends =
      by_docs docs (λ lines. field_in_front (λ us. lines) room) (λ lines. field_in_front (λ us. lines) more) (λ lines.
      then_read_on as_it_is (λ name. behind_a_mark _ (then_read_on (type-extends room more h) (λ ty. as_it_is))))

  case-extends : Extended (case_in_front docs room) (case_in_front docs more)
  case-extends =
      by_docs docs (λ lines. case_in_front (λ us. lines) room) (λ lines. case_in_front (λ us. lines) more) (λ lines.
      then_read_on as_it_is (λ name. if_a_mark _ (then_read_on (type-extends room more h) (λ ty. as_it_is)) as_it_is))

  resource_member-extends : Extended (resource_member_in_front docs room) (resource_member_in_front docs more)
  resource_member-extends =
      then_read_on as_it_is (λ pre.
      if_a_key _ (then_read_on (params-extend room more h) (λ params. then_read_on (result-extends room more h) (λ result. as_it_is)))
      (then_read_on as_it_is (λ name. behind_a_mark _ (if_a_key _ (function-extends room more h _) (function-extends room more h _)))))

  declared-extends : Extended (declared_in_front docs room) (declared_in_front docs more)
  declared-extends =
      if_a_key _ (then_read_on as_it_is (λ name. behind_a_mark _ (making _ (listed_extends field-extends _))))
      (if_a_key _ (then_read_on as_it_is (λ name. behind_a_mark _ (making _ (listed_extends case-extends _))))
      (if_a_key _ as_it_is
      (if_a_key _ as_it_is
      (if_a_key _ (then_read_on as_it_is (λ name. behind_a_mark _ (then_read_on (alias-extends room more h) (λ ty. as_it_is))))
      (if_a_key _ (then_read_on as_it_is (λ name. if_a_mark _ as_it_is (behind_a_mark _ (making _ (repeated_extends resource_member-extends _))))) as_it_is)))))

  -- ---- what interfaces, worlds and packages have

  member-extends : Extended (member_in_front docs room) (member_in_front docs more)
  member-extends =
      then_read_on as_it_is (λ pre. if_an_id (λ name. behind_a_mark _ (function-extends room more h _)) (if_a_key _ as_it_is (making _ declared-extends)))

  extern-extends : Extended (extern_in_front docs room) (extern_in_front docs more)
  extern-extends =
      then_read_on as_it_is (λ name. if_a_mark _ as_it_is (behind_a_mark _ (by_a_test _ (function-extends room more h _)
      (if_a_key _ (making _ (behind_a_mark _ (repeated_extends member-extends _))) as_it_is))))

  world_member_behind-extends : (pre : Prefix) → Extended (world_member_behind docs room pre) (world_member_behind docs more pre)
  world_member_behind-extends pre =
      if_a_key _ (making _ extern-extends) (if_a_key _ (making _ extern-extends) (if_a_key _ as_it_is (making _ declared-extends)))

  part-extends : Extended (part_in_front docs room) (part_in_front docs more)
  part-extends = then_read_on as_it_is (λ pre. if_a_key _ as_it_is (making _ (world_member_behind-extends pre)))

  item-extends : Extended (item_in_front docs room) (item_in_front docs more)
  item-extends =
      by_docs docs (item_by docs room) (item_by docs more) (λ lines.
      if_a_key _ as_it_is
      (then_read_on as_it_is (λ gates.
      if_a_key _ (then_read_on as_it_is (λ name. making _ (behind_a_mark _ (repeated_extends member-extends _))))
      (if_a_key _ (then_read_on as_it_is (λ name. making _ (behind_a_mark _ (repeated_extends part-extends _)))) as_it_is))))

  nested_behind-extends : (lines : List Text) (head : PackageHead) → Extended (nested_behind docs room lines head) (nested_behind docs more lines head)
  nested_behind-extends lines head = behind_a_mark _ (making _ (repeated_extends item-extends _))

  nested-extends : Extended (nested_in_front docs room) (nested_in_front docs more)
  nested-extends =
      by_docs docs (nested_by docs room) (nested_by docs more) (λ lines. behind_a_key _ (then_read_on as_it_is (nested_behind-extends lines)))

  piece-extends : Extended (piece_in_front docs room) (piece_in_front docs more)
  piece-extends = by_a_test (begins_key Keyword.Package) (making _ nested-extends) (making _ item-extends)

  text_by-extends : (lines : List Text) → Extended (text_by docs room lines) (text_by docs more lines)
  text_by-extends lines =
      if_a_key _ (then_read_on as_it_is (λ head.
      if_a_mark _ (making _ (until_extends piece-extends _))
      (then_read_on (nested_behind-extends lines head) (λ it. making _ (until_extends piece-extends _)))))
      (making _ (until_extends piece-extends _))

  -- With more room the same texts are found, and the same is refused but what had too many levels.
  pub text-extends : Extended (text_in_front docs room) (text_in_front docs more)
  unfolding if_key
  text-extends = by_docs docs (text_by docs room) (text_by docs more) text_by-extends
