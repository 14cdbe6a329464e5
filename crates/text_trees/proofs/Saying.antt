-- Tokens that stand at places are those that the places say.
use Rattle.std.proofs.Common.{◌≡◌, refl, sym, ap, ◌∙◌, subst, ℕ, suc, ◌-◌, ◌++◌, append-nil, append_assoc, ◌<◌, ◌≤◌, ◌==◌, Bool, true, false, List, [], ◌∷◌, length, map, Option, Some, None, take, drop, arith, length-drop, if◌then◌else◌}
use Rattle.std.specs.{Option.option_map, Option.option_map_or, Char.is_ascii_alphabetic, Char.is_ascii_digit, Str.Parse.digits_value}
use Rattle.print_grammar.specs.Keyword.{PrimitiveName as names, Keyword as keywords, keyword_of}
use Rattle.print_grammar.specs.Token.{Token as toks, Front, Front.Skipped, Front.Found, StringState.Between}
use Rattle.print_grammar.specs.Token.{Taken, after_comment, begins_comment, found, is_blank, longest, mark_of, mark_texts, number_token, spelled, string_characters, word_token}
use Rattle.semver.specs.Order.{is_numeric}
use Rattle.wit_model.specs.{Text.text_eq, Names.is_label, Names.is_numeral, Names.is_version_of}
use Rattle.text_tokens.specs.declared.token.Token.{Token}
use Rattle.text_tokens.specs.Comments.{after_block, begins_block, behind_one, front_in_text, skipped}
use Rattle.text_tokens.specs.Kinds.{kind_here, keyword_here, primitive_here}
use Rattle.text_tokens.specs.Places.Placed.{none_placed, skip_placed, one_placed}
use Rattle.text_tokens.specs.Places.{Placed, StandsAt}
use Rattle.text_trees.specs.Seen.{keyword_there, primitive_there, said, spelled_as}

front_found : (cs : List ℕ) (t : toks) (rest : List ℕ) → front_in_text cs ≡ Found t rest → found (longest [] cs) ≡ Found t rest
front_found [] t rest e = absurd (cc e)
front_found (c ∷ cs) t rest e =
    go (is_blank c) (begins_comment (c ∷ cs)) (begins_block (c ∷ cs)) (after_block 0 (behind_one cs)) (found (longest [] (c ∷ cs))) e
  where
    go : (b k n : Bool) (o : Option (List ℕ)) (f : Front)
        → (elim b [ true ↦ Skipped cs | false ↦ elim k [ true ↦ Skipped (after_comment cs) | false ↦ elim n [ true ↦ skipped o | false ↦ f ] ] ]) ≡ Found t rest
        → f ≡ Found t rest
    go true k n o f e = absurd (cc e)
    go false true n o f e = absurd (cc e)
    go false false true None f e = absurd (cc e)
    go false false true (Some r) f e = absurd (cc e)
    go false false false o f e = e

abbrev token_or : toks → Option Taken → toks
token_or t (Some x) = x.token
token_or t None = t

abbrev rest_or : List ℕ → Option Taken → List ℕ
rest_or rest (Some x) = x.rest
rest_or rest None = rest

some_taken : (o : Option toks) (left : List ℕ) (x : Taken) → option_map (λ t. record { token = t; rest = left }) o ≡ Some x → (o ≡ Some x.token) × (x.rest ≡ left)
some_taken None left x e = absurd (cc e)
some_taken (Some t) left x e = (ap Some (ap (token_or t) e), sym (ap (rest_or left) e))

longest_spelled : (front cs : List ℕ) (x : Taken) → longest front cs ≡ Some x
    → (n : ℕ) × (spelled (front ++ take n cs) ≡ Some x.token) × (x.rest ≡ drop n cs) × (n ≤ length cs)
longest_spelled front [] x e = let p = some_taken (spelled front) [] x e in (0, ap spelled (append-nil front) ∙ p.0, p.1, omega arith)
longest_spelled front (c ∷ cs) x e = go (λ y f. longest_spelled (front ++ c ∷ []) cs y f) (longest (front ++ c ∷ []) cs) refl e
  where
    go : ((y : Taken) → longest (front ++ c ∷ []) cs ≡ Some y
        → (n : ℕ) × (spelled ((front ++ c ∷ []) ++ take n cs) ≡ Some y.token) × (y.rest ≡ drop n cs) × (n ≤ length cs))
        → (o : Option Taken) → longest (front ++ c ∷ []) cs ≡ o
        → (elim o [ Some taken ↦ Some taken | None ↦ option_map (λ t. record { token = t; rest = c ∷ cs }) (spelled front) ]) ≡ Some x
        → (n : ℕ) × (spelled (front ++ take n (c ∷ cs)) ≡ Some x.token) × (x.rest ≡ drop n (c ∷ cs)) × (n ≤ length (c ∷ cs))
    go again (Some y) f g =
        let p = again x (f ∙ g) in
        let h = p.3 in (suc p.0, ap spelled (sym (append_assoc front (c ∷ []) (take p.0 cs))) ∙ p.1, p.2, omega (arith, h))
    go again None f g = let p = some_taken (spelled front) (c ∷ cs) x g in (0, ap spelled (append-nil front) ∙ p.0, p.1, omega arith)

spelled_at : (cs : List ℕ) (t : toks) (rest : List ℕ) → found (longest [] cs) ≡ Found t rest
    → (n : ℕ) × (spelled (take n cs) ≡ Some t) × (rest ≡ drop n cs) × (n ≤ length cs)
spelled_at cs t rest e = go (longest [] cs) refl e
  where
    go : (o : Option Taken) → longest [] cs ≡ o → found o ≡ Found t rest → (n : ℕ) × (spelled (take n cs) ≡ Some t) × (rest ≡ drop n cs) × (n ≤ length cs)
    go None f g = absurd (cc g)
    go (Some x) f g =
        let p = longest_spelled [] cs x f in
        let a : x.token ≡ t = cc g in
        let b : x.rest ≡ rest = cc g in (p.0, p.1 ∙ ap Some a, sym b ∙ p.2, p.3)

primitive_again : (p : names) → primitive_there (primitive_here p) ≡ p
primitive_again names.Bool_ = refl
primitive_again names.U8 = refl
primitive_again names.U16 = refl
primitive_again names.U32 = refl
primitive_again names.U64 = refl
primitive_again names.S8 = refl
primitive_again names.S16 = refl
primitive_again names.S32 = refl
primitive_again names.S64 = refl
primitive_again names.F32 = refl
primitive_again names.F64 = refl
primitive_again names.Char = refl
primitive_again names.String = refl
primitive_again names.ErrorContext = refl

keyword_again : (k : keywords) → keyword_there (keyword_here k) ≡ k
keyword_again (keywords.PrimitiveWord p) = ap keywords.PrimitiveWord (primitive_again p)
keyword_again keywords.Use = refl
keyword_again keywords.Type_ = refl
keyword_again keywords.Func = refl
keyword_again keywords.Float32 = refl
keyword_again keywords.Float64 = refl
keyword_again keywords.Resource = refl
keyword_again keywords.Record = refl
keyword_again keywords.Flags = refl
keyword_again keywords.Variant = refl
keyword_again keywords.Enum = refl
keyword_again keywords.Option_ = refl
keyword_again keywords.Result = refl
keyword_again keywords.Future = refl
keyword_again keywords.Stream = refl
keyword_again keywords.List_ = refl
keyword_again keywords.Own = refl
keyword_again keywords.Borrow = refl
keyword_again keywords.Underscore = refl
keyword_again keywords.As = refl
keyword_again keywords.From = refl
keyword_again keywords.Static = refl
keyword_again keywords.Interface = refl
keyword_again keywords.Tuple = refl
keyword_again keywords.World = refl
keyword_again keywords.Import = refl
keyword_again keywords.Export = refl
keyword_again keywords.Package = refl
keyword_again keywords.With = refl
keyword_again keywords.Include = refl
keyword_again keywords.Constructor = refl
keyword_again keywords.Async = refl
keyword_again keywords.Map = refl

-- tokens of a table that their kinds alone make, whatever the text
abbrev Plain : List (List ℕ × toks) → Type 0
Plain [] = Unit {0}
Plain (entry ∷ entries) = ((text : List ℕ) → spelled_as text (kind_here entry.1) ≡ entry.1) × Plain entries

plain_of : (entries : List (List ℕ × toks)) (text : List ℕ) (t : toks) → Plain entries → mark_of entries text ≡ Some t → spelled_as text (kind_here t) ≡ t
plain_of [] text t h e = absurd (cc e)
plain_of (entry ∷ entries) text t h e = go (λ f. plain_of entries text t h.1 f) (text_eq entry.0 text) e
  where
    go : (mark_of entries text ≡ Some t → spelled_as text (kind_here t) ≡ t) → (b : Bool) → (if b then Some entry.1 else mark_of entries text) ≡ Some t → spelled_as text (kind_here t) ≡ t
    go others true e = let same : entry.1 ≡ t = cc e in subst (λ x. spelled_as text (kind_here x) ≡ x) same (h.0 text)
    go others false e = others e

plain_marks : Plain mark_texts
plain_marks = (
  λ text. refl,
  (
    λ text. refl,
    (
      λ text. refl,
      (
        λ text. refl,
        (λ text. refl, (λ text. refl, (λ text. refl, (λ text. refl, (λ text. refl, (λ text. refl, (λ text. refl, (λ text. refl, (λ text. refl, (λ text. refl, (λ text. refl, tt))))))))))),
      ),
    ),
  ),
)

word_is : (text : List ℕ) (k : Option keywords) → spelled_as text (kind_here (word_token text k)) ≡ word_token text k
word_is text (Some k) = ap toks.Key (keyword_again k)
word_is text None = refl

number_is : (text : List ℕ) (t : toks) → number_token text ≡ Some t → spelled_as text (kind_here t) ≡ t
number_is text t e = go (is_numeric text) (is_version_of is_numeral text) e
  where
    go : (b v : Bool) → (elim b [ true ↦ Some (toks.Digits (digits_value 10 text)) | false ↦ if v then Some (toks.VersionText text) else None ]) ≡ Some t
        → spelled_as text (kind_here t) ≡ t
    go true v e = let same : toks.Digits (digits_value 10 text) ≡ t = cc e in subst (λ x. spelled_as text (kind_here x) ≡ x) same refl
    go false true e = let same : toks.VersionText text ≡ t = cc e in subst (λ x. spelled_as text (kind_here x) ≡ x) same refl
    go false false e = absurd (cc e)

quoted_is : (c : ℕ) (cs : List ℕ) (t : toks) (s : Option (List ℕ)) → string_characters Between cs ≡ s → option_map toks.Quoted s ≡ Some t
    → spelled_as (c ∷ cs) (kind_here t) ≡ t
quoted_is c cs t (Some s) f e =
    let same : toks.Quoted s ≡ t = cc e in
    subst (λ x. spelled_as (c ∷ cs) (kind_here x) ≡ x) same (ap (λ o. toks.Quoted (option_map_or (λ cs. cs) o [])) f)
quoted_is c cs t None f e = absurd (cc e)

spelled_is : (text : List ℕ) (t : toks) → spelled text ≡ Some t → spelled_as text (kind_here t) ≡ t
spelled_is [] t e = absurd (cc e)
spelled_is (c ∷ cs) t e =
    go (is_ascii_alphabetic c) (is_label (c ∷ cs)) (is_ascii_digit c) (c == 37) (is_label cs) (c == 34) e
  where
    go : (a l d p m q : Bool) → (elim a [
      | true ↦ (if l then Some (word_token (c ∷ cs) (keyword_of (c ∷ cs))) else None)
      | false ↦ elim d [
        | true ↦ number_token (c ∷ cs)
        | false ↦ elim p [
          | true ↦ (if m then Some (toks.Escaped cs) else None)
          | false ↦ elim q [ true ↦ option_map toks.Quoted (string_characters Between cs) | false ↦ mark_of mark_texts (c ∷ cs) ]
        ]
      ]
    ]) ≡ Some t → spelled_as (c ∷ cs) (kind_here t) ≡ t
    go true true d p m q e =
        let same : word_token (c ∷ cs) (keyword_of (c ∷ cs)) ≡ t = cc e in
        subst (λ x. spelled_as (c ∷ cs) (kind_here x) ≡ x) same (word_is (c ∷ cs) (keyword_of (c ∷ cs)))
    go true false d p m q e = absurd (cc e)
    go false l true p m q e = number_is (c ∷ cs) t e
    go false l false true true q e = let same : toks.Escaped cs ≡ t = cc e in subst (λ x. spelled_as (c ∷ cs) (kind_here x) ≡ x) same refl
    go false l false true false q e = absurd (cc e)
    go false l false false m true e = quoted_is c cs t (string_characters Between cs) refl e
    go false l false false m false e = plain_of mark_texts (c ∷ cs) t plain_marks e

counts : (text : List ℕ) (start end n : ℕ) → drop end text ≡ drop n (drop start text) → n ≤ length (drop start text) → start < end → end ≤ length text → end - start ≡ n
counts text start end n e w l h =
    let a : length (drop end text) ≡ length (drop n (drop start text)) = ap length e in
    let b : length (drop end text) ≡ length text - end = length-drop end text in
    let c : length (drop n (drop start text)) ≡ length (drop start text) - n = length-drop n (drop start text) in
    let d : length (drop start text) ≡ length text - start = length-drop start text in
    omega (arith, a, b, c, d, w, l, h)

stands_said : (text : List ℕ) (place : Token) (token : toks) → StandsAt text place token → said text place ≡ token
stands_said text place token s =
    let cs : List ℕ = drop place.start text in
    let p = spelled_at (drop place.start text) token (drop place.end text) (front_found (drop place.start text) token (drop place.end text) s.found) in
    let n : place.end - place.start ≡ p.0 = counts text place.start place.end p.0 p.2 p.3 s.longer s.within in
    ap (λ x. spelled_as (take x (drop place.start text)) place.kind) n ∙ ap (spelled_as (take p.0 (drop place.start text))) s.kind
    ∙ spelled_is (take p.0 (drop place.start text)) token p.1

pub placed_said : (text : List ℕ) (at to : ℕ) (places : List Token) (tokens : List toks) → Placed text at to places tokens → tokens ≡ map (said text) places
placed_said text at to places tokens none_placed = refl
placed_said text at to places tokens (skip_placed {next = next} e l w p) = placed_said text next to places tokens p
placed_said text at to (x ∷ places) (y ∷ tokens) (one_placed place token s p) =
    let here : said text place ≡ token = stands_said text place token s in
    let rest : tokens ≡ map (said text) places = placed_said text place.end to places tokens p in cc (here, rest)
