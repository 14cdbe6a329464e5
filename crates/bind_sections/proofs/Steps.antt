-- How a module is read, section by section.
use Rattle.std.proofs.Common.{rules as std_rules, ◌≡◌, ◌∙◌, refl, sym, ap, subst, arith, ℕ, ◌+◌, ◌≤◌, ◌==◌, nat_eq, zero, suc, Bool, true, false, List, [], ◌∷◌, ◌++◌, append_assoc, append-nil, length, Option, Some, None}
use mathlib.Core.Logic.{inl, inr}
use Rattle.std.specs.{Prelude.◌⊎◌, List.AllByRecursion, List.starts_with}
use Rattle.std.proofs.lemmas.{Bool.true≢false, List.length-append, Option.none-some, Option.same_Some as some-same}
use Rattle.wit_model.specs.declared.{error.Error.Error, model.StringEncoding.StringEncoding}
use Rattle.wit_model.specs.Meaning.{WorldPackage}
use Rattle.comp_bytes.specs.{Form.Sequence, Frames.IsCustom, Frames.IsFrame, Reading.frame_at, Reading.name_at}
use Rattle.comp_bytes.proofs.{ComponentLaws.frame_law, PartLaws.name_law}
use Rattle.bind_meaning.specs.{Binding.Binding, ByMeaning.binding_of_world, Clash.CanUnite, Roots.root_binding, Union.union}
use Rattle.wit_metadata.specs.Modules.{AreSections, Carries, Framed, IsFrontless, IsInFront, IsNamed, carrying_name, module_preamble}
use Rattle.wit_metadata.proofs.ModuleLaws.{named-end, one-custom, sequence-end}
use Rattle.bind_sections.specs.SectionBindings.{RefusesSection}
use Rattle.bind_sections.specs.Bound.{Binds, CarryData, HasSections, IsClashError, IsLeftOver, IsRefused, Refuses, SectionMeans}
use Rattle.bind_sections.specs.Steps.{IsCountedTo, IsDataInFront, IsReadTo, LeftOversEnd, OthersArePassed, ReadingBegins, ReadingEnds, RefusalsEnd, WorldsAreBound}
use Rattle.base_lemmas.proofs.Numbers.{equal, same-number}

-- ---- the section in front

no-name : (f : Framed) → f.0 ≡ 0 → name_at f.1 ≡ None → IsNamed f → ⊥
no-name f custom none named =
    let c = named custom in
    let found : name_at f.1 ≡ Some (c.0.0, c.1.1) = ap name_at c.1.2 ∙ name_law.again c.0.0 c.1.0 c.1.1 c.1.3 in
    none-some {A = List ℕ × List ℕ} (c.0.0, c.1.1) (sym none ∙ found)

-- a section stands in front, or none does
front-of : (bytes : List ℕ) → ((f : Framed) × (rest : List ℕ) × IsInFront bytes f rest) ⊎ IsFrontless bytes
front-of bytes = by (frame_at bytes) refl
  where
    by-name : (f : Framed) (rest : List ℕ) → frame_at bytes ≡ Some (f, rest) → f.0 ≡ 0 → (o : Option (List ℕ × List ℕ)) → name_at f.1 ≡ o → ((g : Framed) × (more : List ℕ) × IsInFront bytes g more)
        ⊎ IsFrontless bytes
    by-name f rest at custom None none = inr (λ g more h.
        let same : (let x : Framed × List ℕ = (f, rest) in x) ≡ (g, more) = some-same (f, rest) (g, more) (sym at ∙ (ap frame_at h.parts ∙ frame_law.again g h.front more h.framed_)) in
        no-name f custom none (subst IsNamed (sym (ap (λ (x : Framed × List ℕ). x.0) same)) h.named_))
    by-name f rest at custom (Some name) is =
        let taken = frame_law.takes bytes f rest at in
        let named = name_law.takes f.1 name.0 name.1 is in
        inl (f, rest, record { front = taken.front; parts = taken.parts; framed_ = taken.spelled; named_ = λ e. ((name.0, name.1), (named.front, name.1, named.parts, named.spelled, refl)) })

    by-id : (f : Framed) (rest : List ℕ) → frame_at bytes ≡ Some (f, rest) → (b : Bool) → (f.0 == 0) ≡ b → ((g : Framed) × (more : List ℕ) × IsInFront bytes g more) ⊎ IsFrontless bytes
    by-id f rest at true is = by-name f rest at (equal f.0 0 is) (name_at f.1) refl
    by-id f rest at false is =
        let taken = frame_law.takes bytes f rest at in
        inl (f, rest, record { front = taken.front; parts = taken.parts; framed_ = taken.spelled; named_ = λ e. absurd (true≢false (sym (ap (λ n. n == 0) e ∙ same-number 0) ∙ is)) })

    by : (o : Option (Framed × List ℕ)) → frame_at bytes ≡ o → ((g : Framed) × (more : List ℕ) × IsInFront bytes g more) ⊎ IsFrontless bytes
    by None none = inr (λ g more h. none-some (g, more) (sym none ∙ (ap frame_at h.parts ∙ frame_law.again g h.front more h.framed_)))
    by (Some x) at = by-id x.0 x.1 at (x.0.0 == 0) refl

shorter : (bytes : List ℕ) (f : Framed) (rest : List ℕ) → IsInFront bytes f rest → suc (length rest) ≤ length bytes
shorter bytes f rest h = search (std_rules, length-append)

-- ---- all sections of what is left

pub record HasMore (bytes : List ℕ) : Type 0 where
  pub sections : List Framed
  pub left : List ℕ
  pub front : List ℕ
  pub parts : bytes ≡ front ++ left
  pub are : AreSections sections front
  pub ends : IsFrontless left

more-within : (fuel : ℕ) (bytes : List ℕ) → length bytes ≤ fuel → HasMore bytes
more-within zero bytes short = record { sections = []; left = bytes; front = []; parts = refl; are = (refl, tt); ends = λ f rest h. (let less = shorter bytes f rest h in omega (arith, short, less)) }
more-within (suc fuel) bytes short = by (front-of bytes) (λ rest less. more-within fuel rest less)
  where
    by : ((f : Framed) × (rest : List ℕ) × IsInFront bytes f rest) ⊎ IsFrontless bytes → ((rest : List ℕ) → length rest ≤ fuel → HasMore rest) → HasMore bytes
    by (inr none) more = record { sections = []; left = bytes; front = []; parts = refl; are = (refl, tt); ends = none }
    by (inl (f, rest, h)) more =
        let less = shorter bytes f rest h in
        let others = more rest (omega (arith, short, less)) in record {
          sections = f ∷ others.sections;
          left = others.left;
          front = h.front ++ others.front;
          parts = h.parts ∙ (ap (λ (t : List ℕ). h.front ++ t) others.parts ∙ sym (append_assoc h.front others.front others.left));
          are = ((h.front, others.front, refl, h.framed_, others.are.0), (h.named_, others.are.1));
          ends = others.ends;
        }

pub has-more : (bytes : List ℕ) → HasMore bytes
has-more bytes = more-within (length bytes) bytes (omega arith)

-- ---- what sections carry

told-carrying : (f : Framed) → ((d : List ℕ) × CarryData (f ∷ []) (d ∷ [])) ⊎ (Carries f → ⊥)
told-carrying f = by (f.0 == 0) refl
  where
    with-name : (custom : f.0 ≡ 0) (name text : List ℕ) → IsCustom (name, text) f.1 → (b : Bool) → starts_with nat_eq name carrying_name ≡ b → ((d : List ℕ) × CarryData (f ∷ []) (d ∷ []))
        ⊎ (Carries f → ⊥)
    with-name custom name text is true begins = inl (text, CarryData.carrying f [] (name, text) [] custom is begins CarryData.none)
    with-name custom name text is false begins = inr (λ c.
        let same = one-custom f.1 (name, text) c.1.0 is c.1.1 in
        true≢false (sym (ap (λ (x : List ℕ × List ℕ). starts_with nat_eq x.0 carrying_name) same ∙ c.1.2) ∙ begins))

    by-name : (custom : f.0 ≡ 0) (o : Option (List ℕ × List ℕ)) → name_at f.1 ≡ o → ((d : List ℕ) × CarryData (f ∷ []) (d ∷ [])) ⊎ (Carries f → ⊥)
    by-name custom None none = inr (λ c. no-name f custom none (λ e. (c.1.0, c.1.1)))
    by-name custom (Some name) is = let named = name_law.takes f.1 name.0 name.1 is in
        with-name custom name.0 name.1 (named.front, name.1, named.parts, named.spelled, refl) (starts_with nat_eq name.0 carrying_name) refl

    by : (b : Bool) → (f.0 == 0) ≡ b → ((d : List ℕ) × CarryData (f ∷ []) (d ∷ [])) ⊎ (Carries f → ⊥)
    by true is = by-name (equal f.0 0 is) (name_at f.1) refl
    by false is = inr (λ c. true≢false (sym (ap (λ n. n == 0) c.0 ∙ same-number 0) ∙ is))

-- one list after the other
carry-both : (fs gs : List Framed) (ds es : List (List ℕ)) → CarryData fs ds → CarryData gs es → CarryData (fs ++ gs) (ds ++ es)
carry-both fs gs ds es CarryData.none more = more
carry-both fs gs ds es (CarryData.carrying f others c rest custom is begins carry) more = CarryData.carrying f (others ++ gs) c (rest ++ es) custom is begins (carry-both others gs rest es carry more)
carry-both fs gs ds es (CarryData.other f others rest never carry) more = CarryData.other f (others ++ gs) (rest ++ es) never (carry-both others gs rest es carry more)

pub carried-by : (fs : List Framed) → (ds : List (List ℕ)) × CarryData fs ds
carried-by [] = ([], CarryData.none)
carried-by (f ∷ fs) = by (told-carrying f) (carried-by fs)
  where
    by : ((d : List ℕ) × CarryData (f ∷ []) (d ∷ [])) ⊎ (Carries f → ⊥) → (ds : List (List ℕ)) × CarryData fs ds → (ds : List (List ℕ)) × CarryData (f ∷ fs) ds
    by (inl (d, carry)) (ds, more) = (d ∷ ds, carry-both (f ∷ []) fs (d ∷ []) ds carry more)
    by (inr never) (ds, more) = (ds, CarryData.other f fs ds never more)

-- ---- bound

binds-end : (ds : List (List ℕ)) (a c : Binding) (d : List ℕ) (m : WorldPackage) (e : StringEncoding) → Binds a ds c → SectionMeans d m e → CanUnite c (binding_of_world m e)
    → Binds a (ds ++ d ∷ []) (union c (binding_of_world m e))
binds-end [] a c d m e same means u = (m, e, means, subst (λ x. CanUnite x (binding_of_world m e)) (sym same) u, ap (λ x. union x (binding_of_world m e)) same)
binds-end (x ∷ ds) a c d m e (n, f, meant, v, rest) means u = (n, f, meant, v, binds-end ds (union a (binding_of_world n f)) c d m e rest means u)

refuses-behind : (Left : Error → Type 0) (ds es : List (List ℕ)) (a c : Binding) (error : Error) → Binds a ds c → Refuses Left c es error → Refuses Left a (ds ++ es) error
refuses-behind Left [] es a c error same refused = subst (λ x. Refuses Left x es error) (sym same) refused
refuses-behind Left (x ∷ ds) es a c error (n, f, meant, v, rest) refused = inr (n, f, meant, inr (v, refuses-behind Left ds es (union a (binding_of_world n f)) c error rest refused))

-- ---- the steps

pub reading_begins : ReadingBegins
reading_begins input rest parts = record { sections = []; front = []; parts = parts; are = (refl, tt); data_ = []; carry = CarryData.none; binds = refl }

module _ (input bytes : List ℕ) (c : Binding) (h : IsReadTo input c bytes) where
  parts-on : (front rest : List ℕ) → bytes ≡ front ++ rest → input ≡ module_preamble ++ ((h.front ++ front) ++ rest)
  parts-on front rest is = h.parts ∙ ap (λ (t : List ℕ). module_preamble ++ t) (ap (λ (t : List ℕ). h.front ++ t) is ∙ sym (append_assoc h.front front rest))

  one-on : (f : Framed) (rest : List ℕ) → IsInFront bytes f rest → (es : List (List ℕ)) → CarryData (f ∷ []) es → (b : Binding) → Binds root_binding (h.data_ ++ es) b → IsReadTo input b rest
  one-on f rest stands es carry b binds = record {
    sections = h.sections ++ f ∷ [];
    front = h.front ++ stands.front;
    parts = parts-on stands.front rest stands.parts;
    are = (sequence-end h.sections h.front h.are.0 f stands.front stands.framed_, named-end h.sections h.are.1 f stands.named_);
    data_ = h.data_ ++ es;
    carry = carry-both h.sections (f ∷ []) h.data_ es h.carry carry;
    binds = binds;
  }

  -- the sections of the whole module
  named-both : (fs gs : List Framed) → AllByRecursion IsNamed fs → AllByRecursion IsNamed gs → AllByRecursion IsNamed (fs ++ gs)
  named-both [] gs all more = more
  named-both (f ∷ fs) gs all more = (all.0, named-both fs gs all.1 more)

  sequence-both : (fs gs : List Framed) (a b : List ℕ) → Sequence IsFrame fs a → Sequence IsFrame gs b → Sequence IsFrame (fs ++ gs) (a ++ b)
  sequence-both [] gs a b ended more = subst (Sequence IsFrame gs) (ap (λ (t : List ℕ). t ++ b) (sym ended)) more
  sequence-both (f ∷ fs) gs a b (here, rest, parts, spelled, others) more = search (std_rules, append_assoc, sequence-both fs gs rest b others more)

  pub whole : (more : HasMore bytes) → HasSections input (h.sections ++ more.sections) more.left
  whole more = record {
    front = h.front ++ more.front;
    parts = parts-on more.front more.left more.parts;
    sections = (sequence-both h.sections more.sections h.front more.front h.are.0 more.are.0, named-both h.sections more.sections h.are.1 more.are.1);
    ends = more.ends;
  }

  -- what refuses the sections that follow refuses the module
  pub refused : (error : Error) (more : HasMore bytes) (es : List (List ℕ)) → CarryData more.sections es → Refuses (IsLeftOver input more.left) c es error → IsRefused input error
  refused error more es carry refuses = IsRefused.first (h.sections ++ more.sections) more.left (h.data_ ++ es) (whole more) (carry-both h.sections more.sections h.data_ es h.carry carry)
      (refuses-behind (IsLeftOver input more.left) h.data_ es root_binding c error h.binds refuses)

-- the sections that follow, of which this is the first
pub more-behind : (bytes d rest : List ℕ) (x : IsDataInFront bytes d rest) → HasMore rest → HasMore bytes
more-behind bytes d rest x more = record {
  sections = x.frame ∷ more.sections;
  left = more.left;
  front = x.front.front ++ more.front;
  parts = x.front.parts ∙ (ap (λ (t : List ℕ). x.front.front ++ t) more.parts ∙ sym (append_assoc x.front.front more.front more.left));
  are = ((x.front.front, more.front, refl, x.front.framed_, more.are.0), (x.front.named_, more.are.1));
  ends = more.ends;
}

-- the same with the sections counted that carry worlds

pub counting_begins : (input rest : List ℕ) → input ≡ module_preamble ++ rest → IsCountedTo input root_binding 0 rest
unfolding reading_begins
counting_begins input rest parts = (reading_begins input rest parts, refl)

pub other-counted : (input bytes rest : List ℕ) (c : Binding) (n : ℕ) (f : Framed) → IsCountedTo input c n bytes → IsInFront bytes f rest → (Carries f → ⊥) → IsCountedTo input c n rest
unfolding one-on
other-counted input bytes rest c n f (h, is) stands never = (
  one-on input bytes c h f rest stands [] (CarryData.other f [] [] never CarryData.none) c (subst (λ ds. Binds root_binding ds c) (sym (append-nil h.data_)) h.binds),
  ap length (append-nil h.data_) ∙ is,
)

pub world-counted : (input bytes rest d : List ℕ) (c : Binding) (n : ℕ) (m : WorldPackage) (e : StringEncoding) → IsCountedTo input c n bytes → IsDataInFront bytes d rest → SectionMeans d m e
    → CanUnite c (binding_of_world m e) → IsCountedTo input (union c (binding_of_world m e)) (n + 1) rest
unfolding one-on
world-counted input bytes rest d c n m e (h, is) x means u = (
  one-on input bytes c h x.frame rest x.front (d ∷ []) x.carry (union c (binding_of_world m e)) (binds-end h.data_ root_binding c d m e h.binds means u),
  length-append h.data_ (d ∷ []) ∙ ap (λ (k : ℕ). k + 1) is,
)

pub others_are_passed : OthersArePassed
others_are_passed input bytes rest c f h stands never = (other-counted input bytes rest c (length h.data_) f (h, refl) stands never).0

pub worlds_are_bound : WorldsAreBound
worlds_are_bound input bytes rest d c m e h x means u = (world-counted input bytes rest d c (length h.data_) m e (h, refl) x means u).0

pub reading_ends : ReadingEnds
reading_ends input c h = search std_rules

-- and the data of all
pub all-behind : (input bytes d rest : List ℕ) (c : Binding) (h : IsReadTo input c bytes) (x : IsDataInFront bytes d rest) (more : HasMore rest) (es : List (List ℕ)) → CarryData more.sections es
    → CarryData (h.sections ++ (more-behind bytes d rest x more).sections) (h.data_ ++ (d ∷ es))
unfolding more-behind
all-behind input bytes d rest c h x more es carry = carry-both h.sections (x.frame ∷ more.sections) h.data_ (d ∷ es) h.carry (carry-both (x.frame ∷ []) more.sections (d ∷ []) es x.carry carry)

pub refusals_end : RefusalsEnd
unfolding more-behind
refusals_end input bytes rest d c error h x why =
    let more = has-more rest in
    let others = carried-by more.sections in
    refused input bytes c h error (more-behind bytes d rest x more) (d ∷ others.0) (carry-both (x.frame ∷ []) more.sections (d ∷ []) others.0 x.carry others.1) (by more.left others.0 why)
  where
    by : (left : List ℕ) (es : List (List ℕ)) → RefusesSection d error ⊎ ((m : WorldPackage) × (e : StringEncoding) × SectionMeans d m e × IsClashError c (binding_of_world m e) error)
        → Refuses (IsLeftOver input left) c (d ∷ es) error
    by left es (inl is) = inl is
    by left es (inr (m, e, means, clash)) = inr (m, e, means, inl clash)

pub left_overs_end : LeftOversEnd
left_overs_end input bytes c error h none over =
    refused input bytes c h error (record { sections = []; left = bytes; front = []; parts = refl; are = (refl, tt); ends = none }) [] CarryData.none over
