-- Sections in front of bytes, those behind them, and those that carry no world.
use Rattle.std.proofs.Common.{rules as std_rules, ◌≡◌, ◌≤◌, ◌<◌, ◌∙◌, ◌+◌, refl, sym, ap, subst, ℕ, suc, nat_eq, Bool, true, false, List, [], ◌∷◌, ◌++◌, append_assoc, append-nil, length, drop, Option, Some, None, Ok, Err, arith}
use Rattle.std.proofs.lemmas.{Bool.true≢false, Bool.Decides.Decides-eqb, Slice.Eq.starts_is, List.length-append, Option.same_Some as some-same}
use Rattle.std.proofs.Math.Seq.{drop-append_seam}
use Rattle.std.specs.{Prelude.◌-◌, Borrow.Bor, List.AllByRecursion, List.flat_map, List.starts_with}
use Rattle.wit_model.specs.declared.error.Error.{Error}
use Rattle.comp_bytes.specs.{Form.Sequence, Answer.Refuses, Frames.IsCustom, Frames.IsFrame, Frames.ReadsCustom, Reading.frame_at, Writing.framed}
use Rattle.comp_bytes.proofs.{ComponentLaws.frame_law, PartLaws.name_law}
use Rattle.wit_metadata.specs.Modules.{AreOthers, Carries, Framed, HasData, IsFrontData, IsFrontless, IsInFront, IsModule, IsNamed, RefusesModule, TellsCarrying, carrying_name, module_bytes, module_preamble}
use Rattle.base_lemmas.proofs.Lists.{is-nothing as no-bytes}
use Rattle.wit_model.specs.declared.error.Error.TheVariants as errors

-- ---- one section

-- the contents of a custom section have one name, and one text behind it
pub one-custom : (contents : List ℕ) (c d : List ℕ × List ℕ) → IsCustom c contents → IsCustom d contents → c ≡ d
one-custom contents c d (front, rest, parts, spelled, is) (other, more, halves, written, are) = search (std_rules, name_law.again c.0 front rest spelled, name_law.again d.0 other more written)

one-name : (contents : List ℕ) (c d : List ℕ × List ℕ) → IsCustom c contents → IsCustom d contents → c.0 ≡ d.0
one-name contents c d first second = ap (λ (x : List ℕ × List ℕ). x.0) (one-custom contents c d first second)

-- one section stands in front of bytes
pub one-frame : (f g : Framed) (front rest other more : List ℕ) → IsFrame f front → IsFrame g other → front ++ rest ≡ other ++ more → let x : Framed × List ℕ = (f, rest) in x ≡ (g, more)
one-frame f g front rest other more spelled written same = some-same (f, rest) (g, more) (sym (frame_law.again f front rest spelled) ∙ (ap frame_at same ∙ frame_law.again g other more written))

-- ---- a section more

pub sequence-end : (fs : List Framed) (text : List ℕ) → Sequence IsFrame fs text → (f : Framed) (front : List ℕ) → IsFrame f front → Sequence IsFrame (fs ++ f ∷ []) (text ++ front)
sequence-end [] text none f front spelled = (front, [], ap (λ (t : List ℕ). t ++ front) none ∙ sym (append-nil front), spelled, refl)
sequence-end (g ∷ fs) text (here, rest, parts, first, others) f front spelled = search (std_rules, append_assoc, sequence-end fs rest others f front spelled)

pub named-end : (fs : List Framed) → AllByRecursion IsNamed fs → (f : Framed) → IsNamed f → AllByRecursion IsNamed (fs ++ f ∷ [])
named-end [] all f named = (named, tt)
named-end (g ∷ fs) all f named = (all.0, named-end fs all.1 f named)

pub others-end : (fs others : List Framed) → AreOthers fs others → (f : Framed) → (Carries f → ⊥) → AreOthers (fs ++ f ∷ []) (others ++ f ∷ [])
others-end fs others AreOthers.none f carries = AreOthers.other f [] [] carries AreOthers.none
others-end fs others (AreOthers.carrying g gs os h are) f carries = AreOthers.carrying g (gs ++ f ∷ []) (os ++ f ∷ []) h (others-end gs os are f carries)
others-end fs others (AreOthers.other g gs os h are) f carries = AreOthers.other g (gs ++ f ∷ []) (os ++ f ∷ []) h (others-end gs os are f carries)

pub carried-end : (fs others : List Framed) → AreOthers fs others → (f : Framed) → Carries f → AreOthers (fs ++ f ∷ []) others
carried-end fs others AreOthers.none f carries = AreOthers.carrying f [] [] carries AreOthers.none
carried-end fs others (AreOthers.carrying g gs os h are) f carries = AreOthers.carrying g (gs ++ f ∷ []) os h (carried-end gs os are f carries)
carried-end fs others (AreOthers.other g gs os h are) f carries = AreOthers.other g (gs ++ f ∷ []) os h (carried-end gs os are f carries)

bytes-end : (fs : List Framed) (f : Framed) → flat_map (λ (g : Framed). framed g.0 g.1) (fs ++ f ∷ []) ≡ flat_map (λ (g : Framed). framed g.0 g.1) fs ++ framed f.0 f.1
bytes-end [] f = append-nil (framed f.0 f.1)
bytes-end (g ∷ fs) f = ap (λ (t : List ℕ). framed g.0 g.1 ++ t) (bytes-end fs f) ∙ sym (append_assoc (framed g.0 g.1) (flat_map (λ (h : Framed). framed h.0 h.1) fs) (framed f.0 f.1))

pub module-end : (fs : List Framed) (f : Framed) → module_bytes (fs ++ f ∷ []) ≡ module_bytes fs ++ framed f.0 f.1
module-end fs f = ap (λ (t : List ℕ). module_preamble ++ t) (bytes-end fs f)

one-longer : (fs : List Framed) (f : Framed) → length (fs ++ f ∷ []) ≡ suc (length fs)
one-longer fs f = let both = length-append fs (f ∷ []) in omega arith

-- no fewer sections than others
no-more : (fs others : List Framed) → AreOthers fs others → length others ≤ length fs
no-more fs others AreOthers.none = omega arith
no-more fs others (AreOthers.carrying g gs os h are) = let rest = no-more gs os are in omega arith
no-more fs others (AreOthers.other g gs os h are) = let rest = no-more gs os are in omega arith

-- ---- sections that have been read

-- how many of the sections are others: fewer, or all
abbrev pub AreTold : Bool → List Framed → List Framed → Type 0
AreTold true fs others = length others < length fs
AreTold false fs others = others ≡ fs

pub record IsRead (bytes rest kept : List ℕ) (bound : Bool) : Type 0 where
  pub sections : List Framed
  pub front : List ℕ
  pub parts : bytes ≡ module_preamble ++ (front ++ rest)
  pub spelled : Sequence IsFrame sections front
  pub named_ : AllByRecursion IsNamed sections
  pub others : List Framed
  pub are : AreOthers sections others
  pub told : AreTold bound sections others
  pub kept_are : kept ≡ module_bytes others

pub nothing-read : (bytes rest kept : List ℕ) → bytes ≡ module_preamble ++ rest → kept ≡ module_preamble → IsRead bytes rest kept false
nothing-read bytes rest kept parts is = record {
  sections = [];
  front = [];
  parts = parts;
  spelled = refl;
  named_ = tt;
  others = [];
  are = AreOthers.none;
  told = refl;
  kept_are = is ∙ sym (append-nil module_preamble);
}

module _ (bytes rest kept : List ℕ) (bound : Bool) (h : IsRead bytes rest kept bound) (f : Framed) (behind : List ℕ) (stands : IsInFront rest f behind) where
  parts-on : bytes ≡ module_preamble ++ ((h.front ++ stands.front) ++ behind)
  parts-on = h.parts ∙ ap (λ (t : List ℕ). module_preamble ++ t) (ap (λ (t : List ℕ). h.front ++ t) stands.parts ∙ sym (append_assoc h.front stands.front behind))

  -- a section that carries a world is left out
  pub carried-read : Carries f → IsRead bytes behind kept true
  carried-read carries = record {
    sections = h.sections ++ f ∷ [];
    front = h.front ++ stands.front;
    parts = parts-on;
    spelled = sequence-end h.sections h.front h.spelled f stands.front stands.framed_;
    named_ = named-end h.sections h.named_ f stands.named_;
    others = h.others;
    are = carried-end h.sections h.others h.are f carries;
    told = let longer = one-longer h.sections f in let few = no-more h.sections h.others h.are in omega (arith, longer, few);
    kept_are = h.kept_are;
  }

  told-on : (b : Bool) → AreTold b h.sections h.others → AreTold b (h.sections ++ f ∷ []) (h.others ++ f ∷ [])
  told-on x fewer = search (std_rules, one-longer h.sections f, one-longer h.others f)

  -- any other is kept
  pub other-read : (Carries f → ⊥) → (new : List ℕ) → new ≡ kept ++ framed f.0 f.1 → IsRead bytes behind new bound
  other-read carries new is = record {
    sections = h.sections ++ f ∷ [];
    front = h.front ++ stands.front;
    parts = parts-on;
    spelled = sequence-end h.sections h.front h.spelled f stands.front stands.framed_;
    named_ = named-end h.sections h.named_ f stands.named_;
    others = h.others ++ f ∷ [];
    are = others-end h.sections h.others h.are f carries;
    told = told-on bound h.told;
    kept_are = is ∙ (ap (λ (t : List ℕ). t ++ framed f.0 f.1) h.kept_are ∙ sym (module-end h.others f));
  }

-- ---- the end

module _ (bytes rest kept : List ℕ) (empty : length rest ≡ 0) where
  all-read : (bound : Bool) (h : IsRead bytes rest kept bound) → IsModule h.sections bytes
  all-read bound h = (h.front, h.parts ∙ ap (λ (t : List ℕ). module_preamble ++ t) (ap (λ (t : List ℕ). h.front ++ t) (no-bytes rest empty) ∙ append-nil h.front), (h.spelled, h.named_))

-- ---- refusals

-- behind sections stands nothing that is none
module _ (rest : List ℕ) (filled : length rest ≡ 0 → ⊥) (none : IsFrontless rest) where
  stuck : (done fs : List Framed) (front : List ℕ) → Sequence IsFrame done front → Sequence IsFrame fs (front ++ rest) → AllByRecursion IsNamed fs → ⊥
  stuck done [] front spelled ended named = search (std_rules, length-append front rest)
  stuck [] (g ∷ gs) front spelled (here, more, parts, first, others) named =
      none g more (record { front = here; parts = ap (λ (t : List ℕ). t ++ rest) (sym spelled) ∙ parts; framed_ = first; named_ = named.0 })
  stuck (d ∷ ds) (g ∷ gs) front (here, behind, halves, one, more_done) (there, more, parts, first, others) named =
      let same : here ++ (behind ++ rest) ≡ there ++ more = sym (append_assoc here behind rest) ∙ (ap (λ (t : List ℕ). t ++ rest) (sym halves) ∙ parts) in
      let after : behind ++ rest ≡ more = ap (λ (x : Framed × List ℕ). x.1) (one-frame d g here (behind ++ rest) there more one first same) in
      stuck ds gs behind more_done (subst (λ (t : List ℕ). Sequence IsFrame gs t) (sym after) others) named.1

  pub no-module : (bytes kept : List ℕ) (bound : Bool) → IsRead bytes rest kept bound → (fs : List Framed) → IsModule fs bytes → ⊥
  no-module bytes kept bound h fs (text, is, (spelled, named)) =
      let same : h.front ++ rest ≡ text = sym (drop-append_seam module_preamble (h.front ++ rest)) ∙ (ap (drop 8) (sym h.parts ∙ is) ∙ drop-append_seam module_preamble text) in
      stuck h.sections fs h.front h.spelled (subst (λ (t : List ℕ). Sequence IsFrame fs t) (sym same) spelled) named

-- ---- the section in front

-- a frame that stands in front of bytes is the one that was read
pub nameless-frontless : (bytes : List ℕ) (f : Framed) (front rest : List ℕ) → bytes ≡ front ++ rest → IsFrame f front → (IsNamed f → ⊥) → IsFrontless bytes
nameless-frontless bytes f front rest parts spelled nameless g more h = search (std_rules, one-frame f g front rest h.front more spelled h.framed_ (sym parts ∙ h.parts))

-- ---- whether a section carries a world

module _ (f : Framed) (custom : f.0 ≡ 0) where
  pub told-by_name : (name rest : List ℕ) (begins : Bool) → IsCustom (name, rest) f.1 → begins ≡ starts_with nat_eq name carrying_name → TellsCarrying f (Ok begins)
  told-by_name name rest true read is = (λ e. ((name, rest), read), (custom, ((name, rest), read, sym is)))
  told-by_name name rest false read is = (
    λ e. ((name, rest), read),
    λ carries.
        let same : name ≡ carries.1.0.0 = one-name f.1 (name, rest) carries.1.0 read carries.1.1 in
        true≢false (sym carries.1.2 ∙ (ap (λ (t : List ℕ). starts_with nat_eq t carrying_name) (sym same) ∙ sym is)),
  )

  pub name-refused : (e : Error) → ReadsCustom f.1 (Err e) → TellsCarrying f (Err e)
  name-refused e refused named = let c = named custom in none-read e refused c.0 c.1
    where
      none-read : (e : Error) → Refuses e f.1 ((c : List ℕ × List ℕ) → IsCustom c f.1 → ⊥) → (c : List ℕ × List ℕ) → IsCustom c f.1 → ⊥
      none-read (errors.NoReading cause offset) r = r.1
      none-read _ r = absurd r

-- ---- the data of a section that carries a world

pub no-data : (contents : List ℕ) (e : Error) → ReadsCustom contents (Err e) → HasData contents None
no-data contents (errors.NoReading cause offset) r = r.1
no-data contents _ r = absurd r

module _ (bytes rest : List ℕ) (f : Framed) (stands : IsInFront bytes f rest) where
  -- it is what stands behind the name
  pub carried-data : Carries f → (found : Option (Bor (List ℕ))) → HasData f.1 found → IsFrontData bytes found rest
  carried-data carries None none = absurd (none carries.1.0 carries.1.1)
  carried-data carries (Some found) (name, named) = (
    f,
    stands,
    record {
      custom = carries.0;
      name = name;
      named_ = named;
      begins = ap (λ (t : List ℕ). starts_with nat_eq t carrying_name) (one-name f.1 (name, found.now) carries.1.0 named carries.1.1) ∙ carries.1.2;
    },
  )

-- ---- the whole module

-- what begins as a module has other bytes behind its preamble, and nothing else does
pub behind-preamble : (bytes rest : List ℕ) → starts_with nat_eq bytes module_preamble ≡ true → rest ≡ drop 8 bytes → bytes ≡ module_preamble ++ rest
behind-preamble bytes rest begins is = (starts_is Decides-eqb bytes module_preamble _ refl).0 begins ∙ ap (λ (t : List ℕ). module_preamble ++ t) (sym is)

pub other-preamble : (bytes : List ℕ) → starts_with nat_eq bytes module_preamble ≡ false → RefusesModule bytes errors.NotAModule
other-preamble bytes begins rest is = true≢false (sym ((starts_is Decides-eqb bytes module_preamble _ refl).1 rest is) ∙ begins)

pub refused-at : (bytes rest kept : List ℕ) (bound : Bool) → IsRead bytes rest kept bound → (length rest ≡ 0 → ⊥) → IsFrontless rest
    → RefusesModule bytes (errors.BadModule (length bytes - length rest))
refused-at bytes rest kept bound h filled none = (
  record {
    sections = h.sections;
    front = h.front;
    left = rest;
    parts = h.parts;
    are = (h.spelled, h.named_);
    some = λ e. filled (ap length e);
    ends = none;
    at = behind (length module_preamble) (length bytes) (length h.front) (length rest)
        (ap length h.parts ∙ (length-append module_preamble (h.front ++ rest) ∙ ap (λ (n : ℕ). length module_preamble + n) (length-append h.front rest)));
  },
  no-module rest filled none bytes kept bound h,
)
  where
    behind : (n whole front left : ℕ) → whole ≡ n + (front + left) → whole - left + left ≡ whole
    behind n whole front left e = omega (arith, e)
