-- Reading a text stops at one byte, for one want.
use Rattle.std.proofs.Common.{◌≡◌, refl, sym, ap, ◌∙◌, subst, ℕ, ◌==◌, List, [], ◌∷◌, length, drop, zero, suc, length-drop, arith, if◌then◌else◌}
use Rattle.std.proofs.lemmas.List.{length-map}
use Rattle.wit_model.specs.Text.{Text}
use Rattle.print_grammar.specs.Token.{Token}
use Rattle.text_tokens.specs.Kinds.{primitive_here, keyword_here, mark_here}
use Rattle.text_tokens.specs.Places.{HasTokensAt, Placed}
use Rattle.text_tokens.specs.declared.keyword.Primitive.{Primitive}
use Rattle.text_tokens.specs.declared.keyword.Primitive.TheVariants as primitives
use Rattle.text_tokens.specs.declared.keyword.Keyword.{Keyword}
use Rattle.text_tokens.specs.declared.keyword.Keyword.TheVariants as key
use Rattle.text_tokens.specs.declared.token.Mark.{Mark}
use Rattle.text_tokens.specs.declared.token.Mark.TheVariants as mark
use Rattle.text_tokens.specs.declared.token.Token.{Token as PlacedToken}
use Rattle.text_trees.specs.declared.refusal.Word.{Word}
use Rattle.text_trees.specs.declared.refusal.Word.TheVariants as word
use Rattle.text_trees.specs.declared.refusal.Wanted.{Wanted}
use Rattle.text_trees.specs.declared.refusal.Wanted.TheVariants as wanted
use Rattle.text_trees.specs.Reading.{Reading.Refused, Wanted as wants}
use Rattle.text_trees.specs.Reads.{StopsAt, StopsReading, first_byte}
use Rattle.text_trees.specs.Seen.{primitive_there, keyword_there, mark_there, said, word_text, wanted_there}
use Rattle.text_trees.specs.Laws.{tokens_here}
use Rattle.text_trees.proofs.{Saying.placed_said, Texts.one_tokens}

-- ---- wants

primitive_back : (p : Primitive) → primitive_here (primitive_there p) ≡ p
primitive_back primitives.Bool = refl
primitive_back primitives.U8 = refl
primitive_back primitives.U16 = refl
primitive_back primitives.U32 = refl
primitive_back primitives.U64 = refl
primitive_back primitives.S8 = refl
primitive_back primitives.S16 = refl
primitive_back primitives.S32 = refl
primitive_back primitives.S64 = refl
primitive_back primitives.F32 = refl
primitive_back primitives.F64 = refl
primitive_back primitives.Char = refl
primitive_back primitives.String = refl
primitive_back primitives.ErrorContext = refl

keyword_back : (k : Keyword) → keyword_here (keyword_there k) ≡ k
keyword_back (key.PrimitiveWord p) = ap key.PrimitiveWord (primitive_back p)
keyword_back key.Use = refl
keyword_back key.Type_ = refl
keyword_back key.Func = refl
keyword_back key.Float32 = refl
keyword_back key.Float64 = refl
keyword_back key.Resource = refl
keyword_back key.Record = refl
keyword_back key.Flags = refl
keyword_back key.Variant = refl
keyword_back key.Enum = refl
keyword_back key.Option_ = refl
keyword_back key.Result = refl
keyword_back key.Future = refl
keyword_back key.Stream = refl
keyword_back key.List_ = refl
keyword_back key.Own = refl
keyword_back key.Borrow = refl
keyword_back key.Underscore = refl
keyword_back key.As = refl
keyword_back key.From = refl
keyword_back key.Static = refl
keyword_back key.Interface = refl
keyword_back key.Tuple = refl
keyword_back key.World = refl
keyword_back key.Import = refl
keyword_back key.Export = refl
keyword_back key.Package = refl
keyword_back key.With = refl
keyword_back key.Include = refl
keyword_back key.Constructor = refl
keyword_back key.Async = refl
keyword_back key.Map = refl

mark_back : (m : Mark) → mark_here (mark_there m) ≡ m
mark_back mark.OpenBrace = refl
mark_back mark.CloseBrace = refl
mark_back mark.OpenParen = refl
mark_back mark.CloseParen = refl
mark_back mark.Less = refl
mark_back mark.Greater = refl
mark_back mark.Colon = refl
mark_back mark.Semi = refl
mark_back mark.Comma = refl
mark_back mark.Dot = refl
mark_back mark.Equals = refl
mark_back mark.Slash = refl
mark_back mark.At = refl
mark_back mark.Arrow = refl

-- the word with this text
word_of : Text → Word
word_of [] = word.Feature
word_of (c ∷ cs) = if c == 118 then word.Version else word.Feature

word_back : (w : Word) → word_of (word_text w) ≡ w
unfolding word_of
word_back word.Version = refl
word_back word.Feature = refl

-- what the code wants where its reader wants this
want_of : wants → Wanted
want_of (wants.AMark m) = wanted.Mark (mark_here m)
want_of (wants.AKeyword k) = wanted.Keyword (keyword_here k)
want_of (wants.AWord text) = wanted.Word (word_of text)
want_of wants.AnId = wanted.Id
want_of wants.AVersion = wanted.Version
want_of wants.ANumber = wanted.Number
want_of wants.AString = wanted.String
want_of wants.AType = wanted.«Type»
want_of wants.AMember = wanted.Member
want_of wants.AnItem = wanted.Item
want_of wants.AnAttribute = wanted.Attribute
want_of wants.AGate = wanted.Gate
want_of wants.Shallower = wanted.Shallower

want_back : (w : Wanted) → want_of (wanted_there w) ≡ w
unfolding want_of
want_back (wanted.Mark m) = ap wanted.Mark (mark_back m)
want_back (wanted.Keyword k) = ap wanted.Keyword (keyword_back k)
want_back (wanted.Word w) = ap wanted.Word (word_back w)
want_back wanted.Id = refl
want_back wanted.Version = refl
want_back wanted.Number = refl
want_back wanted.String = refl
want_back wanted.«Type» = refl
want_back wanted.Member = refl
want_back wanted.Item = refl
want_back wanted.Attribute = refl
want_back wanted.Gate = refl
want_back wanted.Shallower = refl

same_want : (w v : Wanted) → wanted_there w ≡ wanted_there v → w ≡ v
same_want w v e = sym (want_back w) ∙ ap want_of e ∙ want_back v

-- ---- places

none_left : (text : List ℕ) (n : ℕ) → first_byte text (drop n []) ≡ length text
none_left text zero = refl
none_left text (suc n) = refl

too_long : (t : Token) (ts : List Token) (n : ℕ) → (t ∷ ts) ≡ drop n ts → ⊥
too_long t ts n e = let l = ap length e in omega (arith, l, length-drop n ts)

-- where the same tokens are left, the same byte is next
same_byte : (text : List ℕ) (places : List PlacedToken) (ts : List Token) → length ts ≡ length places → (n m : ℕ) → drop n ts ≡ drop m ts
    → first_byte text (drop n places) ≡ first_byte text (drop m places)
same_byte text [] ts l n m e = none_left text n ∙ sym (none_left text m)
same_byte text (p ∷ places) [] l n m e = absurd (omega (arith, l))
same_byte text (p ∷ places) (t ∷ ts) l zero zero e = refl
same_byte text (p ∷ places) (t ∷ ts) l zero (suc m) e = absurd (too_long t ts m e)
same_byte text (p ∷ places) (t ∷ ts) l (suc n) zero e = absurd (too_long t ts n (sym e))
same_byte text (p ∷ places) (t ∷ ts) l (suc n) (suc m) e = same_byte text places ts (omega (arith, l)) n m e

as_many : (text : List ℕ) (places : List PlacedToken) (ts : List Token) → Placed text 0 (length text) places ts → length ts ≡ length places
as_many text places ts p = ap length (placed_said text 0 (length text) places ts p) ∙ length-map places (said text)

same_stop : (text : List ℕ) (places : List PlacedToken) (ts : List Token) (w v : Wanted) (a b : ℕ) → length ts ≡ length places → StopsAt text places ts w a
    → StopsAt text places ts v b → (w ≡ v) × (a ≡ b)
same_stop text places ts w v a b l s t =
    let e : Refused (wanted_there w) (drop s.before ts) ≡ Refused (wanted_there v) (drop t.before ts) = sym s.refused ∙ t.refused in
    let f : wanted_there w ≡ wanted_there v = cc e in
    let g : drop s.before ts ≡ drop t.before ts = cc e in
    (same_want w v f, s.byte ∙ same_byte text places ts l s.before t.before g ∙ sym t.byte)

pub one_refusal : ((text : List ℕ) (xs ys : List PlacedToken) → HasTokensAt text xs → HasTokensAt text ys → xs ≡ ys)
    → (text : List ℕ) (w v : Wanted) (a b : ℕ) → StopsReading text w a → StopsReading text v b → (w ≡ v) × (a ≡ b)
one_refusal places text w v a b s t =
    let ps : t.places ≡ s.places = places text t.places s.places t.has s.has in
    let ts : t.has.found ≡ s.has.found = one_tokens t.has.spelled s.has.spelled in
    let there : StopsAt text s.places (tokens_here t.has.found) v b = subst (λ ps. StopsAt text ps (tokens_here t.has.found) v b) ps t.stops in
    same_stop text s.places (tokens_here s.has.found) w v a b (as_many text s.places (tokens_here s.has.found) s.has.placed) s.stops
    (subst (λ us. StopsAt text s.places (tokens_here us) v b) ts there)
