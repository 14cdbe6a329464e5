-- Documentation makes no difference to where a reader stops, and to what it wants there.
use Rattle.std.proofs.Common.{◌≡◌, ℕ, Bool, true, false, List, ◌∷◌, zero, suc, if◌then◌else◌}
use Rattle.wit_model.specs.Text.{Text}
use Rattle.print_grammar.specs.{Keyword.Keyword, Token.Token, Token.Mark}
use Rattle.print_grammar.specs.Token.Token.{Word, Escaped}
use Rattle.print_grammar.specs.Tree.{SignatureTree, Prefix, PackageHead, PathTree, UsedName}
use Rattle.text_trees.specs.{Grammar.Documentation, TextTree.TextTree}
use Rattle.text_trees.specs.Reading.{Wanted, Reading, Reading.Found, Reading.Refused, then_read, made, behind, begins, behind_mark, if_mark, begins_key, behind_key, if_key, if_id, things_in_front, until, repeated, listed_in_front, listed}
use Rattle.text_trees.specs.ReadDeclared.{prefix_in_front, use_behind, function_behind, field_in_front, case_in_front, label_in_front, resource_member_in_front, declared_in_front}
use Rattle.text_trees.specs.ReadFiles.{member_in_front, extern_in_front, world_member_behind, part_in_front, item_in_front, nested_behind, nested_in_front, piece_in_front, text_in_front}
use Rattle.text_trees.proofs.FilesFound.{item_by, nested_by, text_by}

-- ---- readings

-- Two readings find something in front of the same tokens, or both are refused there, wanting the same.
data Alike {X : Type 0} : Reading X → Reading X → Type 0 where
  both_find : {x y : X} {rest : List Token} → Alike (Found x rest) (Found y rest)
  both_refuse : {wanted : Wanted} {rest : List Token} → Alike (Refused wanted rest) (Refused wanted rest)

-- two readers stop alike
record StopAlike {X : Type 0} (read other : List Token → Reading X) : Type 0 where
  at : (ts : List Token) → Alike (read ts) (other ts)

as_itself : {X : Type 0} (r : Reading X) → Alike r r
as_itself (Found x rest) = both_find
as_itself (Refused wanted rest) = both_refuse

then_alike : {X Y : Type 0} {r s : Reading X} {f g : X → List Token → Reading Y} → Alike r s → ((x y : X) → StopAlike (f x) (g y)) → Alike (then_read r f) (then_read s g)
unfolding then_read
then_alike (both_find {x} {y} {rest}) a = (a x y).at rest
then_alike both_refuse a = both_refuse

then_same : {X Y : Type 0} (r : Reading X) {f g : X → List Token → Reading Y} → ((x : X) → StopAlike (f x) (g x)) → Alike (then_read r f) (then_read r g)
unfolding then_read
then_same (Found x rest) a = (a x).at rest
then_same (Refused wanted rest) a = both_refuse

made_alike : {X Y : Type 0} (f g : X → Y) {r s : Reading X} → Alike r s → Alike (made f r) (made g s)
unfolding made
made_alike f g both_find = both_find
made_alike f g both_refuse = both_refuse

either_alike : {X : Type 0} (b : Bool) {r s u v : Reading X} → Alike r s → Alike u v → Alike (if b then r else u) (if b then s else v)
either_alike true e f = e
either_alike false e f = f

-- ---- readers

module _ {X : Type 0} where
  it_is : {read : List Token → Reading X} → StopAlike read read
  it_is {read} = record { at = λ ts. as_itself (read ts) }

  finding : {x y : X} → StopAlike (Found x) (Found y)
  finding = record { at = λ ts. both_find }

  -- readers that go on alike, behind what is read alike
  behind_alike : {Y : Type 0} {read other : List Token → Reading Y} {f g : Y → List Token → Reading X} → StopAlike read other → ((y z : Y) → StopAlike (f y) (g z))
      → StopAlike (λ ts. then_read (read ts) f) (λ ts. then_read (other ts) g)
  behind_alike e h = record { at = λ ts. then_alike (e.at ts) h }

  -- readers that go on alike, behind the same
  behind_same : {Y : Type 0} (read : List Token → Reading Y) {f g : Y → List Token → Reading X} → ((y : Y) → StopAlike (f y) (g y))
      → StopAlike (λ ts. then_read (read ts) f) (λ ts. then_read (read ts) g)
  behind_same read h = record { at = λ ts. then_same (read ts) h }

  making : {Y : Type 0} (f g : Y → X) {read other : List Token → Reading Y} → StopAlike read other → StopAlike (λ ts. made f (read ts)) (λ ts. made g (other ts))
  making f g e = record { at = λ ts. made_alike f g (e.at ts) }

  behind_a_mark : (mark : Mark) {read other : List Token → Reading X} → StopAlike read other → StopAlike (behind_mark mark read) (behind_mark mark other)
  unfolding behind_mark
  behind_a_mark mark e = record { at = λ ts. either_alike (begins mark ts) (e.at (behind ts)) both_refuse }

  if_a_mark : (mark : Mark) {read more other less : List Token → Reading X} → StopAlike read more → StopAlike other less → StopAlike (if_mark mark read other) (if_mark mark more less)
  unfolding if_mark
  if_a_mark mark e f = record { at = λ ts. either_alike (begins mark ts) (e.at (behind ts)) (f.at ts) }

  behind_a_key : (keyword : Keyword) {read other : List Token → Reading X} → StopAlike read other → StopAlike (behind_key keyword read) (behind_key keyword other)
  unfolding behind_key
  behind_a_key keyword e = record { at = λ ts. either_alike (begins_key keyword ts) (e.at (behind ts)) both_refuse }

  if_a_key : (keyword : Keyword) {read more other less : List Token → Reading X} → StopAlike read more → StopAlike other less
      → StopAlike (if_key keyword read other) (if_key keyword more less)
  unfolding if_key
  if_a_key keyword e f = record { at = λ ts. either_alike (begins_key keyword ts) (e.at (behind ts)) (f.at ts) }

  if_an_id : {f g : Text → List Token → Reading X} {other less : List Token → Reading X} → ((name : Text) → StopAlike (f name) (g name)) → StopAlike other less
      → StopAlike (if_id f other) (if_id g less)
  unfolding if_id
  if_an_id {f} {g} {other} {less} e h = record { at = go }
    where
      go : (ts : List Token) → Alike (if_id f other ts) (if_id g less ts)
      go (Word name ∷ ts) = (e name).at ts
      go (Escaped name ∷ ts) = (e name).at ts
      go ts = h.at ts

  by_a_test : (test : List Token → Bool) {read more other less : List Token → Reading X} → StopAlike read more → StopAlike other less
      → StopAlike (λ ts. if test ts then read ts else other ts) (λ ts. if test ts then more ts else less ts)
  by_a_test test e f = record { at = λ ts. either_alike (test ts) (e.at ts) (f.at ts) }

  -- readers that look at the documentation in front of what they read
  by_docs : (docs others : Documentation) (read other : List Text → List Token → Reading X) → ((lines more : List Text) → StopAlike (read lines) (other more))
      → StopAlike (λ ts. read (docs ts) ts) (λ ts. other (others ts) ts)
  by_docs docs others read other e = record { at = λ ts. (e (docs ts) (others ts)).at ts }

-- ---- lists

module _ {X : Type 0} {read other : List Token → Reading X} (e : StopAlike read other) where
  things_stop : (ends : List Token → Bool) (n : ℕ) → StopAlike (things_in_front ends read n) (things_in_front ends other n)
  unfolding things_in_front
  things_stop ends zero = it_is
  things_stop ends (suc n) = by_a_test ends finding (behind_alike e (λ x y. making (λ xs. x ∷ xs) (λ xs. y ∷ xs) (things_stop ends n)))

  until_stops : (ends : List Token → Bool) → StopAlike (until ends read) (until ends other)
  unfolding until
  until_stops ends = record { at = λ ts. (things_stop ends _).at ts }

  repeated_stops : (close : Mark) → StopAlike (repeated read close) (repeated other close)
  unfolding repeated
  repeated_stops close = behind_alike (until_stops (begins close)) (λ xs ys. record { at = λ ts. both_find })

  listed_in_front_stops : (close : Mark) (n : ℕ) → StopAlike (listed_in_front read close n) (listed_in_front other close n)
  unfolding listed_in_front
  listed_in_front_stops close zero = it_is
  listed_in_front_stops close (suc n) =
      behind_alike e (λ x y. behind_same _ (λ goes_on. record {
        at = λ ts. either_alike goes_on (made_alike (λ xs. x ∷ xs) (λ xs. y ∷ xs) ((listed_in_front_stops close n).at ts)) both_find;
      }))

  listed_stops : (close : Mark) → StopAlike (listed read close) (listed other close)
  unfolding listed
  listed_stops close = record { at = λ ts. (listed_in_front_stops close _).at ts }

-- ---- the readers

function_stops : (room : ℕ) {X : Type 0} (f g : SignatureTree → X) → StopAlike (function_behind room f) (function_behind room g)
function_stops room f g = behind_same _ (λ signature. behind_a_mark _ finding)

use_stops : {X : Type 0} (f g : PathTree → List UsedName → X) → StopAlike (use_behind f) (use_behind g)
use_stops f g = behind_same _ (λ path. behind_a_mark _ (behind_a_mark _ (behind_same _ (λ names. behind_a_mark _ finding))))

module _ (docs others : Documentation) (room : ℕ) where
  prefix_stops : StopAlike (prefix_in_front docs) (prefix_in_front others)
  prefix_stops =
      by_docs docs others (λ lines. prefix_in_front (λ us. lines)) (λ lines. prefix_in_front (λ us. lines)) (λ lines more.
      behind_same _ (λ marks. making _ _ it_is))

  field_stops : StopAlike (field_in_front docs room) (field_in_front others room)
  field_stops =
      by_docs docs others (λ lines. field_in_front (λ us. lines) room) (λ lines. field_in_front (λ us. lines) room) (λ lines more.
      behind_same _ (λ name. behind_a_mark _ (behind_same _ (λ ty. finding))))

  case_stops : StopAlike (case_in_front docs room) (case_in_front others room)
  case_stops =
      by_docs docs others (λ lines. case_in_front (λ us. lines) room) (λ lines. case_in_front (λ us. lines) room) (λ lines more.
      behind_same _ (λ name. if_a_mark _ (behind_same _ (λ ty. behind_a_mark _ finding)) finding))

  label_stops : StopAlike (label_in_front docs) (label_in_front others)
  label_stops =
      by_docs docs others (λ lines. label_in_front (λ us. lines)) (λ lines. label_in_front (λ us. lines)) (λ lines more. behind_same _ (λ name. finding))

  resource_member_stops : StopAlike (resource_member_in_front docs room) (resource_member_in_front others room)
  resource_member_stops =
      behind_alike prefix_stops (λ pre other.
      if_a_key _ (behind_same _ (λ params. behind_same _ (λ result. behind_a_mark _ finding)))
      (behind_same _ (λ name. behind_a_mark _ (if_a_key _ (function_stops room _ _) (function_stops room _ _)))))

  declared_stops : StopAlike (declared_in_front docs room) (declared_in_front others room)
  declared_stops =
      if_a_key _ (behind_same _ (λ name. behind_a_mark _ (making _ _ (listed_stops field_stops _))))
      (if_a_key _ (behind_same _ (λ name. behind_a_mark _ (making _ _ (listed_stops case_stops _))))
      (if_a_key _ (behind_same _ (λ name. behind_a_mark _ (making _ _ (listed_stops label_stops _))))
      (if_a_key _ (behind_same _ (λ name. behind_a_mark _ (making _ _ (listed_stops label_stops _))))
      (if_a_key _ it_is
      (if_a_key _ (behind_same _ (λ name. if_a_mark _ finding (behind_a_mark _ (making _ _ (repeated_stops resource_member_stops _))))) it_is)))))

  member_stops : StopAlike (member_in_front docs room) (member_in_front others room)
  member_stops =
      behind_alike prefix_stops (λ pre other.
      if_an_id (λ name. behind_a_mark _ (function_stops room _ _)) (if_a_key _ (use_stops _ _) (making _ _ declared_stops)))

  extern_stops : StopAlike (extern_in_front docs room) (extern_in_front others room)
  extern_stops =
      behind_same _ (λ name. if_a_mark _ finding (behind_a_mark _ (by_a_test _ (function_stops room _ _)
      (if_a_key _ (making _ _ (behind_a_mark _ (repeated_stops member_stops _))) it_is))))

  world_member_behind_stops : (pre other : Prefix) → StopAlike (world_member_behind docs room pre) (world_member_behind others room other)
  world_member_behind_stops pre other =
      if_a_key _ (making _ _ extern_stops) (if_a_key _ (making _ _ extern_stops) (if_a_key _ (use_stops _ _) (making _ _ declared_stops)))

  part_stops : StopAlike (part_in_front docs room) (part_in_front others room)
  part_stops =
      behind_alike prefix_stops (λ pre other.
      if_a_key _ (behind_same _ (λ path. if_a_key _ (behind_a_mark _ (behind_same _ (λ names. if_a_mark _ finding finding))) (behind_a_mark _ finding)))
      (making _ _ (world_member_behind_stops pre other)))

  item_stops : StopAlike (item_in_front docs room) (item_in_front others room)
  item_stops =
      by_docs docs others (item_by docs room) (item_by others room) (λ lines more.
      if_a_key _ it_is
      (behind_same _ (λ gates.
      if_a_key _ (behind_same _ (λ name. making _ _ (behind_a_mark _ (repeated_stops member_stops _))))
      (if_a_key _ (behind_same _ (λ name. making _ _ (behind_a_mark _ (repeated_stops part_stops _)))) it_is))))

  nested_behind_stops : (lines more : List Text) (head : PackageHead) → StopAlike (nested_behind docs room lines head) (nested_behind others room more head)
  nested_behind_stops lines more head = behind_a_mark _ (making _ _ (repeated_stops item_stops _))

  nested_stops : StopAlike (nested_in_front docs room) (nested_in_front others room)
  nested_stops =
      by_docs docs others (nested_by docs room) (nested_by others room) (λ lines more. behind_a_key _ (behind_same _ (nested_behind_stops lines more)))

  piece_stops : StopAlike (piece_in_front docs room) (piece_in_front others room)
  piece_stops = by_a_test (begins_key Keyword.Package) (making _ _ nested_stops) (making _ _ item_stops)

  text_by_stops : (lines more : List Text) → StopAlike (text_by docs room lines) (text_by others room more)
  text_by_stops lines more =
      if_a_key _ (behind_same _ (λ head.
      if_a_mark _ (making _ _ (until_stops piece_stops _))
      (behind_alike (nested_behind_stops lines more head) (λ it other. making _ _ (until_stops piece_stops _)))))
      (making _ _ (until_stops piece_stops _))

  text_stops : StopAlike (text_in_front docs room) (text_in_front others room)
  unfolding if_key
  text_stops = by_docs docs others (text_by docs room) (text_by others room) text_by_stops

  -- What is refused with some documentation is refused with any, at the same place, and the same is wanted.
  pub refused_with_any : (ts rest : List Token) (wanted : Wanted) → text_in_front docs room ts ≡ Refused wanted rest → text_in_front others room ts ≡ Refused wanted rest
  refused_with_any ts rest wanted e = go (text_stops.at ts) e
    where
      go : {r s : Reading TextTree} → Alike r s → r ≡ Refused wanted rest → s ≡ Refused wanted rest
      go both_refuse e = e
      go both_find e = absurd (cc e)
