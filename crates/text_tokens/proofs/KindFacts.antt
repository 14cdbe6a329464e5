-- What a token is, by its text.
use Rattle.std.proofs.Common.{rules as std_rules, ◌≡◌, refl, sym, ap, ◌∙◌, ℕ, Bool, true, false, ◌==◌, if◌then◌else◌, List, ◌∷◌, Option, Some, None, drop, subst}
use Rattle.std.specs.{List.slice_get, Option.option_map, Char.is_ascii_alphabetic, Char.is_ascii_digit, Str.Parse.digits_value}
use Rattle.semver.specs.Order.{is_numeric}
use Rattle.wit_model.specs.Names.{is_label, is_numeral, is_version_of}
use Rattle.print_grammar.specs.Keyword.{Keyword as keywords, keyword_of}
use Rattle.print_grammar.specs.Token.Token.{Escaped, VersionText, Quoted}
use Rattle.print_grammar.specs.Token.{Token, StringState as states, mark_of, mark_texts, number_token, spelled, string_characters, word_token}
use Rattle.text_tokens.specs.declared.keyword.Keyword.{Keyword}
use Rattle.text_tokens.specs.declared.token.Kind.TheVariants as kind
use Rattle.text_tokens.specs.Kinds.{kind_here, keyword_here}

-- a token of a kind of its own, if there is one
of_if : (b : Bool) (x t : Token) → (if b then Some x else None) ≡ Some t → kind_here x ≡ kind_here t
of_if true x t e = let f : x ≡ t = cc in ap kind_here f
of_if false x t e = absurd cc

pub digits_kind : (text : List ℕ) (t : Token) → is_numeric text ≡ true → number_token text ≡ Some t → kind.Digits ≡ kind_here t
digits_kind text t h e = go (is_numeric text) h e
  where
    go : (b : Bool) → b ≡ true
        → (elim b [ true ↦ Some (Token.Digits (digits_value 10 text)) | false ↦ (if is_version_of is_numeral text then Some (VersionText text) else None) ]) ≡ Some t
        → kind.Digits ≡ kind_here t
    go true f g = let x : Token.Digits (digits_value 10 text) ≡ t = cc in ap kind_here x
    go false f g = absurd (cc f)

pub version_kind : (text : List ℕ) (t : Token) → is_numeric text ≡ false → number_token text ≡ Some t → kind.Version ≡ kind_here t
version_kind text t h e = go (is_numeric text) h e
  where
    go : (b : Bool) → b ≡ false
        → (elim b [ true ↦ Some (Token.Digits (digits_value 10 text)) | false ↦ (if is_version_of is_numeral text then Some (VersionText text) else None) ]) ≡ Some t
        → kind.Version ≡ kind_here t
    go true f g = absurd (cc f)
    go false f g = of_if (is_version_of is_numeral text) (VersionText text) t g

-- the token by its first byte's tests
abbrev by_first : Bool → Bool → Bool → Bool → ℕ → List ℕ → Option Token
by_first a d p q c cs =
    elim a [
      | true ↦ (if is_label (c ∷ cs) then Some (word_token (c ∷ cs) (keyword_of (c ∷ cs))) else None)
      | false ↦ elim d [
        | true ↦ number_token (c ∷ cs)
        | false ↦ elim p [
          | true ↦ (if is_label cs then Some (Escaped cs) else None)
          | false ↦ elim q [
            | true ↦ option_map Quoted (string_characters states.Between cs)
            | false ↦ mark_of mark_texts (c ∷ cs)
          ]
        ]
      ]
    ]

-- the tests of a first byte, as they come out
pub record First (c : ℕ) (a d p q : Bool) : Type 0 where
  pub letter : is_ascii_alphabetic c ≡ a
  pub digit : is_ascii_digit c ≡ d
  pub percent : (c == 37) ≡ p
  pub quote : (c == 34) ≡ q

by_tests : (c : ℕ) (cs : List ℕ) (a d p q : Bool) → First c a d p q → spelled (c ∷ cs) ≡ by_first a d p q c cs
by_tests c cs a d p q f = rw (← f.letter, ← f.digit, ← f.percent, ← f.quote) refl

pub word_kind : (c : ℕ) (cs : List ℕ) (t : Token) → is_ascii_alphabetic c ≡ true → spelled (c ∷ cs) ≡ Some t → kind_here (word_token (c ∷ cs) (keyword_of (c ∷ cs))) ≡ kind_here t
word_kind c cs t a e =
    of_if (is_label (c ∷ cs)) (word_token (c ∷ cs) (keyword_of (c ∷ cs))) t
    (sym (by_tests c cs true (is_ascii_digit c) (c == 37) (c == 34) (record { letter = a; digit = refl; percent = refl; quote = refl })) ∙ e)

pub number_spelled : (c : ℕ) (cs : List ℕ) (t : Token) → is_ascii_alphabetic c ≡ false → is_ascii_digit c ≡ true → spelled (c ∷ cs) ≡ Some t → number_token (c ∷ cs) ≡ Some t
number_spelled c cs t a d e = sym (by_tests c cs false true (c == 37) (c == 34) (record { letter = a; digit = d; percent = refl; quote = refl })) ∙ e

-- ---- words

pub word_key : (text : List ℕ) (k : Keyword) → Some k ≡ option_map keyword_here (keyword_of text) → kind.Key k ≡ kind_here (word_token text (keyword_of text))
word_key text k e = go (keyword_of text) e
  where
    go : (o : Option keywords) → Some k ≡ option_map keyword_here o → kind.Key k ≡ kind_here (word_token text o)
    go None f = absurd cc
    go (Some w) f = let x : k ≡ keyword_here w = cc in ap kind.Key x

pub word_plain : (text : List ℕ) → None ≡ option_map keyword_here (keyword_of text) → kind.Word ≡ kind_here (word_token text (keyword_of text))
word_plain text e = go (keyword_of text) e
  where
    go : (o : Option keywords) → None ≡ option_map keyword_here o → kind.Word ≡ kind_here (word_token text o)
    go None f = refl
    go (Some w) f = absurd cc

-- a text whose first byte is known
pub first_and_rest : (text : List ℕ) (first : ℕ) → slice_get text 0 ≡ Some first → text ≡ first ∷ drop 1 text
first_and_rest text first e = search std_rules

pub word_kind_at : (text : List ℕ) (first : ℕ) (t : Token) → slice_get text 0 ≡ Some first → is_ascii_alphabetic first ≡ true → spelled text ≡ Some t
    → kind_here (word_token text (keyword_of text)) ≡ kind_here t
word_kind_at text first t at letter e =
    let P : List ℕ → Type 0 = λ x. spelled x ≡ Some t → kind_here (word_token x (keyword_of x)) ≡ kind_here t in
    subst P (sym (first_and_rest text first at)) (word_kind first (drop 1 text) t letter) e
