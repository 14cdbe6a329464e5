-- A section behind a module, and what the two bind.
use Rattle.std.proofs.Common.{◌≡◌, ◌∙◌, refl, sym, ap, subst, arith, ℕ, nat_eq, Bool, true, List, [], ◌∷◌, ◌++◌, append_assoc, append-nil, length, drop}
use Rattle.std.proofs.lemmas.List.{length-append}
use Rattle.std.proofs.Math.Seq.{drop-append_seam}
use Rattle.std.specs.List.{starts_with}
use Rattle.wit_model.specs.declared.model.StringEncoding.{StringEncoding}
use Rattle.wit_model.specs.Meaning.{WorldPackage}
use Rattle.comp_bytes.specs.{Form.Name, Form.Sequence, Frames.IsCustom, Frames.IsFrame, Number.IsU32, Writing.framed, Writing.name_bytes, Writing.u32_bytes}
use Rattle.bind_meaning.specs.{Binding.Binding, ByMeaning.binding_of_world, Clash.CanUnite, Roots.root_binding, Union.union}
use Rattle.wit_metadata.specs.Modules.{Framed, carrying_name, module_preamble}
use Rattle.wit_metadata.proofs.ModuleLaws.{one-custom, one-frame}
use Rattle.bind_sections.specs.{Bound.Binds, Bound.CarryData, Bound.HasSections, Bound.IsBound, Bound.SectionMeans, Steps.IsDataInFront, Steps.IsReadTo}
use Rattle.bind_sections.specs.BoundLaws.{BoundOnce, SectionsMeanOnce}
use Rattle.bind_sections.proofs.Steps.{HasMore, whole}
use Rattle.wit_component.specs.Carried.{CarriesEncoding}
use Rattle.witc_written.specs.Carried.{AttachesWorld, EmbedsWorld, IsCarried, section_contents, section_name, with_section}

-- ---- a section that is written

pub carried : (name d : List ℕ) → Name (section_name name) (name_bytes (section_name name))
    → IsU32 (length (section_contents (section_name name) d)) (u32_bytes (length (section_contents (section_name name) d))) → IsCarried name d
carried name d named counted =
    let contents = section_contents (section_name name) d in
    let custom : IsCustom (section_name name, d) contents = (name_bytes (section_name name), d, refl, named, refl) in
    let begins : starts_with nat_eq (section_name name) carrying_name ≡ true = refl in record {
      frame = (0, contents);
      front = record {
        front = framed 0 contents;
        parts = sym (append-nil (framed 0 contents));
        framed_ = (u32_bytes (length contents) ++ contents, refl, (u32_bytes (length contents), contents, refl, counted, refl));
        named_ = λ is. ((section_name name, d), custom);
      };
      carry = CarryData.carrying (0, contents) [] (section_name name, d) [] refl custom begins CarryData.none;
    }

-- ---- the sections of a module

no-frame : (f : Framed) (front rest : List ℕ) → IsFrame f front → [] ≡ front ++ rest → ⊥
no-frame f front rest (contents, tagged, counted) none =
    let parts = length-append front rest in
    let whole = ap length none in
    let some = ap length tagged in
    omega (arith, parts, whole, some)

-- bytes are one list of frames
one-list : (fs gs : List Framed) (bytes : List ℕ) → Sequence IsFrame fs bytes → Sequence IsFrame gs bytes → fs ≡ gs
one-list [] [] bytes none ended = refl
one-list [] (g ∷ gs) bytes none (front, rest, parts, spelled, others) = absurd (no-frame g front rest spelled (sym none ∙ parts))
one-list (f ∷ fs) [] bytes (front, rest, parts, spelled, others) none = absurd (no-frame f front rest spelled (sym none ∙ parts))
one-list (f ∷ fs) (g ∷ gs) bytes (here, rest, parts, spelled, others) (front, behind, halves, written, more) =
    let same = one-frame f g here rest front behind spelled written (sym parts ∙ halves) in
    let tails = one-list fs gs rest others (subst (Sequence IsFrame gs) (sym (ap (λ (x : Framed × List ℕ). x.1) same)) more) in
    ap (λ (x : Framed). x ∷ fs) (ap (λ (x : Framed × List ℕ). x.0) same) ∙ ap (λ (xs : List Framed). g ∷ xs) tails

-- a module that ends with its sections has one list of them
one-module : (input : List ℕ) (fs gs : List Framed) → HasSections input fs [] → HasSections input gs [] → fs ≡ gs
one-module input fs gs a b =
    let same : a.front ++ [] ≡ b.front ++ [] =
    sym (drop-append_seam module_preamble (a.front ++ [])) ∙ (ap (drop (length module_preamble)) (sym a.parts ∙ b.parts) ∙ drop-append_seam module_preamble (b.front ++ [])) in
    let front : b.front ≡ a.front = sym (append-nil b.front) ∙ (sym same ∙ append-nil a.front) in
    one-list fs gs a.front a.sections.0 (subst (Sequence IsFrame gs) front b.sections.0)

-- what the data of sections binds, they bind however it was found
same-bound : (fs : List Framed) (ds es : List (List ℕ)) (a c : Binding) → CarryData fs ds → CarryData fs es → Binds a es c → Binds a ds c
same-bound [] ds es a c CarryData.none CarryData.none binds = binds
same-bound (f ∷ fs) ds es a c (CarryData.carrying _ _ x xs custom named begins rest) (CarryData.carrying _ _ y ys custom_too written begins_too rest_too) (m, e, means, unites, binds) =
    let is : y.1 ≡ x.1 = ap (λ (z : List ℕ × List ℕ). z.1) (one-custom f.1 y x written named) in
    (m, e, subst (λ (d : List ℕ). SectionMeans d m e) is means, unites, same-bound fs xs ys (union a (binding_of_world m e)) c rest rest_too binds)
same-bound (f ∷ fs) ds es a c (CarryData.carrying _ _ x xs custom named begins rest) (CarryData.other _ _ ys never rest_too) binds = absurd (never (custom, (x, named, begins)))
same-bound (f ∷ fs) ds es a c (CarryData.other _ _ xs never rest) (CarryData.carrying _ _ y ys custom named begins rest_too) binds = absurd (never (custom, (y, named, begins)))
same-bound (f ∷ fs) ds es a c (CarryData.other _ _ xs never rest) (CarryData.other _ _ ys never_too rest_too) binds = same-bound fs xs ys a c rest rest_too binds

-- one section more, which carries this data
carry-more : (fs : List Framed) (ds : List (List ℕ)) → CarryData fs ds → (f : Framed) (d : List ℕ) → CarryData (f ∷ []) (d ∷ []) → CarryData (fs ++ f ∷ []) (ds ++ d ∷ [])
carry-more fs ds CarryData.none f d more = more
carry-more fs ds (CarryData.carrying g gs c cs custom is begins carry) f d more = CarryData.carrying g (gs ++ f ∷ []) c (cs ++ d ∷ []) custom is begins (carry-more gs cs carry f d more)
carry-more fs ds (CarryData.other g gs cs never carry) f d more = CarryData.other g (gs ++ f ∷ []) (cs ++ d ∷ []) never (carry-more gs cs carry f d more)

-- ---- bindings, but for the last

-- what data binds, of which one more is the last
pub record BindsLast (a : Binding) (ds : List (List ℕ)) (d : List ℕ) (c : Binding) : Type 0 where
  pub before : Binding
  pub binds : Binds a ds before
  pub meant : WorldPackage
  pub encoding : StringEncoding
  pub means : SectionMeans d meant encoding
  pub unites : CanUnite before (binding_of_world meant encoding)
  pub is : union before (binding_of_world meant encoding) ≡ c

binds-last : (a c : Binding) (ds : List (List ℕ)) (d : List ℕ) → Binds a (ds ++ d ∷ []) c → BindsLast a ds d c
binds-last a c [] d (m, e, means, unites, is) = record { before = a; binds = refl; meant = m; encoding = e; means = means; unites = unites; is = is }
binds-last a c (x ∷ ds) d (m, e, means, unites, rest) =
    let r = binds-last (union a (binding_of_world m e)) c ds d rest in
    record { before = r.before; binds = (m, e, means, unites, r.binds); meant = r.meant; encoding = r.encoding; means = r.means; unites = r.unites; is = r.is }

-- ---- a section behind a module

module _ (once : SectionsMeanOnce × BoundOnce) (module_ section d out : List ℕ) (before after : Binding) (alone : IsBound module_ before) (x : IsDataInFront section d [])
    (parts : out ≡ module_ ++ section) (both : IsBound out after) where
  whole-parts : module_ ≡ module_preamble ++ alone.stand.front
  whole-parts = alone.stand.parts ∙ ap (λ (t : List ℕ). module_preamble ++ t) (append-nil alone.stand.front)

  read-to : IsReadTo out before section
  read-to = record {
    sections = alone.sections;
    front = alone.stand.front;
    parts = parts ∙ (ap (λ (t : List ℕ). t ++ section) whole-parts ∙ append_assoc module_preamble alone.stand.front section);
    are = alone.stand.sections;
    data_ = alone.data_;
    carry = alone.carry;
    binds = alone.binds;
  }

  behind : HasMore section
  behind = record {
    sections = x.frame ∷ [];
    left = [];
    front = x.front.front;
    parts = x.front.parts;
    are = ((x.front.front, [], sym (append-nil x.front.front), x.front.framed_, refl), (x.front.named_, tt));
    ends = alone.stand.ends;
  }

  stand : HasSections out (alone.sections ++ x.frame ∷ []) []
  unfolding read-to behind
  stand = whole out section before read-to behind

  carry : CarryData (alone.sections ++ x.frame ∷ []) (alone.data_ ++ d ∷ [])
  carry = carry-more alone.sections alone.data_ alone.carry x.frame d x.carry

  pub last : BindsLast root_binding alone.data_ d after
  last =
      let same = one-module out both.sections (alone.sections ++ x.frame ∷ []) both.stand stand in
      let found : CarryData (alone.sections ++ x.frame ∷ []) both.data_ = subst (λ (fs : List Framed). CarryData fs both.data_) same both.carry in
      binds-last root_binding after alone.data_ d (same-bound (alone.sections ++ x.frame ∷ []) (alone.data_ ++ d ∷ []) both.data_ root_binding after carry found both.binds)

  same-before : last.before ≡ before
  same-before = once.1 module_ last.before before (record { sections = alone.sections; stand = alone.stand; data_ = alone.data_; carry = alone.carry; binds = last.binds }) alone

  module _ (e : StringEncoding) (says : CarriesEncoding e d) where
    same-encoding : last.encoding ≡ e
    same-encoding = (once.0 d last.meant last.meant last.encoding e last.means (record { reads = last.means.reads; says = says })).1

    pub means-so : SectionMeans d last.meant e
    means-so = record { reads = last.means.reads; says = says }

    pub unites-so : CanUnite before (binding_of_world last.meant e)
    unites-so = subst (λ (b : Binding). CanUnite b (binding_of_world last.meant e)) same-before
        (subst (λ (f : StringEncoding). CanUnite last.before (binding_of_world last.meant f)) same-encoding last.unites)

    pub binds-so : IsBound out (union before (binding_of_world last.meant e))
    binds-so = subst (IsBound out) (sym last.is ∙ (ap (λ (f : StringEncoding). union last.before (binding_of_world last.meant f)) same-encoding
        ∙ ap (λ (b : Binding). union b (binding_of_world last.meant e)) same-before)) both

-- the world is attached
pub attaches : SectionsMeanOnce × BoundOnce → (module_ bytes name : List ℕ) (e : StringEncoding) (canonical : Bool) (out d : List ℕ) → EmbedsWorld bytes name e canonical d → IsCarried name d
    → out ≡ with_section module_ name d → (alone : (b : Binding) × IsBound module_ b) → (both : (b : Binding) × IsBound out b) → AttachesWorld module_ bytes name e canonical out
attaches once module_ bytes name e canonical out d embeds x is alone both =
    let section = framed 0 (section_contents (section_name name) d) in record {
      data_ = d;
      embeds = embeds;
      is = is;
      before = alone.0;
      whole = alone.1;
      meant = (last once module_ section d out alone.0 both.0 alone.1 x is both.1).meant;
      means = means-so once module_ section d out alone.0 both.0 alone.1 x is both.1 e embeds.says;
      unites = unites-so once module_ section d out alone.0 both.0 alone.1 x is both.1 e embeds.says;
      binds = binds-so once module_ section d out alone.0 both.0 alone.1 x is both.1 e embeds.says;
    }
