-- What the custom sections of a component say, section by section.
use Rattle.std.proofs.Common.{rules as std_rules, ◌≡◌, ◌∙◌, refl, sym, ap, subst, ℕ, suc, Bool, true, false, List, [], ◌∷◌, ◌++◌, append_assoc, append-nil, length, drop, Option, Some, None, Ok, option_map, arith}
use Rattle.std.proofs.{lemmas.Grind.flat_map-append, lemmas.List.length-append}
use Rattle.std.specs.{Prelude.◌-◌, Prelude.slice_get, Borrow.Bor}
use Rattle.wit_model.specs.Text.{Text, text_eq}
use Rattle.wit_model.proofs.{TextLemmas.text_same}
use Rattle.wit_model.specs.declared.model.StringEncoding.{StringEncoding}
use Rattle.comp_bytes.specs.{Form.Sequence, Frames.IsCustom, Frames.IsFrame, Raw.Section, Spelling.IsComponent, Spelling.IsSection}
use Rattle.wit_metadata.specs.Carried.{contents_under, last_of}
use Rattle.wit_metadata.specs.{Encodings.contents_of, Encodings.section_name, Modules.Framed, Said.EncodingsAreReadBack, Said.IsSaidIn, Said.said_by}
use Rattle.wit_metadata.proofs.ModuleLaws.{one-custom, one-frame}

-- no frame stands in front of these bytes
abbrev pub IsFrameless : List ℕ → Type 0
IsFrameless bytes = (f : Framed) (front rest : List ℕ) → bytes ≡ front ++ rest → IsFrame f front → ⊥

-- ---- one section

-- the contents that were found, if any
abbrev pub contents_found : Option (Bor (List ℕ)) → List (List ℕ)
contents_found (Some found) = found.now ∷ []
contents_found None = []

-- the frame of a section, in which what it says is found
pub record IsFrameFor (s : Section) (front : List ℕ) : Type 0 where
  pub frame : Framed
  pub framed_ : IsFrame frame front
  pub says : (found : Option (Bor (List ℕ))) → IsSaidIn frame found → contents_under section_name (s ∷ []) ≡ contents_found found

custom-says : (name text contents : List ℕ) → IsCustom (name, text) contents → (found : Option (Bor (List ℕ))) → IsSaidIn (0, contents) found
    → contents_under section_name (Section.custom name text ∷ []) ≡ contents_found found
custom-says name text contents custom (Some found) is = search (std_rules, one-custom contents (section_name, found.now) (name, text) is.1 custom)
custom-says name text contents custom None none = by-test (text_eq section_name name) refl
  where
    by-test : (b : Bool) → text_eq section_name name ≡ b → contents_under section_name (Section.custom name text ∷ []) ≡ []
    by-test false e = rw e refl
    by-test true e = absurd (none refl text (subst (λ (t : Text). IsCustom (t, text) contents) (sym (text_same section_name name e)) custom))

pub frame-for : (s : Section) (front : List ℕ) → IsSection s front → IsFrameFor s front
frame-for (Section.custom name text) front (contents, framed, custom) = record {
  frame = (0, contents);
  framed_ = framed;
  says = custom-says name text contents (custom.0, custom.1, custom.2, custom.3, custom.4);
}
frame-for (Section.types ts) front (contents, framed, types) = record { frame = (7, contents); framed_ = framed; says = none-said }
  where
    none-said : (found : Option (Bor (List ℕ))) → IsSaidIn (7, contents) found → [] ≡ contents_found found
    none-said (Some found) is = let wrong : ⊥ = omega (arith, is.0) in absurd wrong
    none-said None is = refl
frame-for (Section.exports es) front (contents, framed, exports) = record { frame = (0x0b, contents); framed_ = framed; says = none-said }
  where
    none-said : (found : Option (Bor (List ℕ))) → IsSaidIn (0x0b, contents) found → [] ≡ contents_found found
    none-said (Some found) is = let wrong : ⊥ = omega (arith, is.0) in absurd wrong
    none-said None is = refl

-- ---- the last of what was found

under-end : (done : List Section) (s : Section) → contents_under section_name (done ++ s ∷ []) ≡ contents_under section_name done ++ contents_under section_name (s ∷ [])
under-end done s = flat_map-append _ done (s ∷ [])

last-found : (xs : List (List ℕ)) (x : List ℕ) → slice_get (xs ++ x ∷ []) (length xs) ≡ Some x
last-found [] x = refl
last-found (y ∷ xs) x = last-found xs x

last-is : (xs : List (List ℕ)) (x : List ℕ) → last_of (xs ++ x ∷ []) ≡ Some x
last-is xs x = search (std_rules, length-append xs (x ∷ []), last-found xs x)

-- ---- sections that have been read

abbrev pub now_of : Option (Bor (List ℕ)) → Option (List ℕ)
now_of last = option_map (λ (b : Bor (List ℕ)). b.now) last

-- the first of the sections have been read, and the rest spells the others
pub record IsPartly (sections : List Section) (rest : List ℕ) (last : Option (Bor (List ℕ))) : Type 0 where
  pub done : List Section
  pub more : List Section
  pub are : sections ≡ done ++ more
  pub spelled : Sequence IsSection more rest
  pub says : now_of last ≡ last_of (contents_under section_name done)

abbrev pub IsPartlyRead : List ℕ → List ℕ → Option (Bor (List ℕ)) → Type 0
IsPartlyRead bytes rest last = (sections : List Section) → IsComponent sections bytes → IsPartly sections rest last

pub none-read : (bytes rest : List ℕ) → rest ≡ drop 8 bytes → IsPartlyRead bytes rest None
none-read bytes rest is sections ((front, text, parts, begins, spelled), short) = search std_rules

-- what is known after a section in which this was found
abbrev pub later : Option (Bor (List ℕ)) → Option (Bor (List ℕ)) → Option (Bor (List ℕ))
later (Some found) last = Some found
later None last = last

later-says : (found last : Option (Bor (List ℕ))) (xs ys : List (List ℕ)) → ys ≡ contents_found found → now_of last ≡ last_of xs → now_of (later found last) ≡ last_of (xs ++ ys)
later-says x last xs ys is says = search (std_rules, last-is, append-nil)

module _ (bytes rest : List ℕ) (last : Option (Bor (List ℕ))) (h : IsPartlyRead bytes rest last) (filled : length rest ≡ 0 → ⊥) where
  pub one-more : (f : Framed) (behind front : List ℕ) → rest ≡ front ++ behind → IsFrame f front → (found : Option (Bor (List ℕ))) → IsSaidIn f found → IsPartlyRead bytes behind (later found last)
  one-more f behind front parts framed found is sections component = go known.more refl known.spelled
    where
      known : IsPartly sections rest last
      known = h sections component

      go : (more : List Section) → known.more ≡ more → Sequence IsSection more rest → IsPartly sections behind (later found last)
      go [] e ended = absurd (filled (ap length ended))
      go (s ∷ ss) e (here, after, halves, spelled, others) =
          let frame = frame-for s here spelled in
          let same = one-frame f frame.frame front behind here after framed frame.framed_ (sym parts ∙ halves) in
          let says = frame.says found (subst (λ (g : Framed). IsSaidIn g found) (ap (λ (x : Framed × List ℕ). x.0) same) is) in
          record {
            done = known.done ++ s ∷ [];
            more = ss;
            are = known.are ∙ (ap (λ (ms : List Section). known.done ++ ms) e ∙ sym (append_assoc known.done (s ∷ []) ss));
            spelled = subst (Sequence IsSection ss) (sym (ap (λ (x : Framed × List ℕ). x.1) same)) others;
            says = later-says found last (contents_under section_name known.done) (contents_under section_name (s ∷ [])) says known.says ∙ ap last_of (sym (under-end known.done s));
          }

  pub none-framed : IsFrameless rest → (sections : List Section) → IsComponent sections bytes → ⊥
  none-framed none sections component = go known.more known.spelled
    where
      known : IsPartly sections rest last
      known = h sections component

      go : (more : List Section) → Sequence IsSection more rest → ⊥
      go [] ended = filled (ap length ended)
      go (s ∷ ss) (here, after, halves, spelled, others) = let frame = frame-for s here spelled in none frame.frame here after halves frame.framed_

-- nothing is left
pub all-read : (bytes rest : List ℕ) (last : Option (Bor (List ℕ))) → IsPartlyRead bytes rest last → length rest ≡ 0 → (sections : List Section) → IsComponent sections bytes
    → now_of last ≡ last_of (contents_under section_name sections)
all-read bytes rest last h empty sections component = go known.more refl known.spelled
  where
    known : IsPartly sections rest last
    known = h sections component

    go : (more : List Section) → known.more ≡ more → Sequence IsSection more rest → now_of last ≡ last_of (contents_under section_name sections)
    go [] e ended = known.says ∙ ap (λ (ss : List Section). last_of (contents_under section_name ss)) (sym (known.are ∙ (ap (λ (ms : List Section). known.done ++ ms) e ∙ append-nil known.done)))
    go (s ∷ ss) e (here, after, halves, spelled, others) =
        let frame = frame-for s here spelled in
        let first : length here ≡ suc (length frame.framed_.0) = ap length frame.framed_.1 in
        let whole = ap length halves ∙ length-append here after in
        absurd (omega (arith, first, whole, empty))

-- ---- encodings that are carried

contents-say : (e : StringEncoding) → said_by (Some (contents_of e)) ≡ Ok e
contents-say x = search std_rules

pub read-back : EncodingsAreReadBack
read-back e bytes answer carried answers = answers carried.sections carried.spelled ∙ (ap said_by carried.says ∙ contents-say e)
