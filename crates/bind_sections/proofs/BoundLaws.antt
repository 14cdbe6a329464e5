-- A module binds one thing at most, and what binds something isn't refused.
use Rattle.std.proofs.Common.{rules as std_rules, ◌≡◌, ◌∙◌, refl, sym, ap, subst, ℕ, ◌+◌, List, [], ◌∷◌, ◌++◌, append_assoc, length, Some, Ok, Err, arith}
use mathlib.Core.Logic.{inl, inr}
use Rattle.std.specs.{Prelude.◌≢◌, Prelude.Result, List.AllByRecursion}
use Rattle.wit_model.specs.declared.{error.Error.Error, model.StringEncoding.StringEncoding}
use Rattle.wit_model.specs.{Text.text_of, Meaning.WorldPackage}
use Rattle.comp_bytes.specs.{Form.Sequence, Frames.IsFrame}
use Rattle.comp_bytes.proofs.ComponentLaws.{one_component}
use Rattle.comp_meaning.specs.Reads.{ReadsWorld}
use Rattle.comp_meaning.proofs.MeaningLaws.{one_world}
use Rattle.bind_meaning.specs.{Binding.Binding, ByMeaning.binding_of_world, Clash.CanUnite, Roots.root_binding, Union.union}
use Rattle.bind_meaning.proofs.ClashLaws.{one_clash, united_have_no_clash}
use Rattle.wit_metadata.specs.{Carried.CarriesEncoding, Modules.Framed, Modules.IsFrontless, Modules.IsNamed}
use Rattle.wit_metadata.specs.{Encodings.contents_of, Said.AnswersSaid, Said.said_by}
use Rattle.wit_metadata.proofs.{ModuleLaws.one-custom, ModuleLaws.one-frame, SaidLaws.read-back}
use Rattle.bind_sections.specs.SectionBindings.{RefusesSection}
use Rattle.bind_sections.specs.Bound.{Binds, CarryData, HasSections, IsClashError, IsLeftOver, IsRefused, Refuses, SectionMeans}
use Rattle.bind_sections.specs.BoundLaws.{BoundIsNotRefused, BoundOnce, OneRefusal, SameRefusal, SectionsMeanOnce}
use Rattle.wit_model.specs.declared.error.Error.TheVariants as errors

-- ---- the sections of a module

-- what two lists of sections, and what is left behind them, have in common
abbrev Read : Type 0
Read = List Framed × List ℕ

one-more : (f g : Framed) (fs gs : List Framed) (left more : List ℕ) → f ≡ g → (let x : Read = (fs, left) in x ≡ (gs, more)) → let x : Read = (f ∷ fs, left) in x ≡ (g ∷ gs, more)
one-more f g fs gs left more same rest = λ i. (same i ∷ (rest i).0, (rest i).1)

same-sections : (fs gs : List Framed) (a b left more : List ℕ) → Sequence IsFrame fs a → AllByRecursion IsNamed fs → Sequence IsFrame gs b → AllByRecursion IsNamed gs →
    a ++ left ≡ b ++ more → IsFrontless left → IsFrontless more → let x : Read = (fs, left) in x ≡ (gs, more)
same-sections [] [] a b left more ended named ended_too named_too same none none_too = search std_rules
same-sections [] (g ∷ gs) a b left more ended named (here, rest, parts, spelled, others) named_too same none none_too =
    let is : left ≡ here ++ (rest ++ more) = ap (λ (t : List ℕ). t ++ left) (sym ended) ∙ (same ∙ (ap (λ (t : List ℕ). t ++ more) parts ∙ append_assoc here rest more)) in
    absurd (none g (rest ++ more) (record { front = here; parts = is; framed_ = spelled; named_ = named_too.0 }))
same-sections (f ∷ fs) [] a b left more (here, rest, parts, spelled, others) named ended named_too same none none_too =
    let is : more ≡ here ++ (rest ++ left) = ap (λ (t : List ℕ). t ++ more) (sym ended) ∙ (sym same ∙ (ap (λ (t : List ℕ). t ++ left) parts ∙ append_assoc here rest left)) in
    absurd (none_too f (rest ++ left) (record { front = here; parts = is; framed_ = spelled; named_ = named.0 }))
same-sections (f ∷ fs) (g ∷ gs) a b left more (here, rest, parts, spelled, others) named (front, behind, halves, written, others_too) named_too same none none_too =
    let is : here ++ (rest ++ left) ≡ front ++ (behind ++ more)
    = sym (append_assoc here rest left) ∙ (ap (λ (t : List ℕ). t ++ left) (sym parts) ∙ (same ∙ (ap (λ (t : List ℕ). t ++ more) halves ∙ append_assoc front behind more))) in
    let first = one-frame f g here (rest ++ left) front (behind ++ more) spelled written is in
    one-more f g fs gs left more (ap (λ (x : Framed × List ℕ). x.0) first)
    (same-sections fs gs rest behind left more others named.1 others_too named_too.1 (ap (λ (x : Framed × List ℕ). x.1) first) none none_too)

pub one-reading : (input : List ℕ) (fs gs : List Framed) (left more : List ℕ) → HasSections input fs left → HasSections input gs more → let x : Read = (fs, left) in x ≡ (gs, more)
one-reading input fs gs left more a b = search (std_rules, same-sections)

-- the data that sections carry
pub one-data : (fs : List Framed) (ds es : List (List ℕ)) → CarryData fs ds → CarryData fs es → ds ≡ es
one-data [] ds es CarryData.none CarryData.none = refl
one-data (f ∷ fs) ds es (CarryData.carrying _ _ c cs custom named begins rest) (CarryData.carrying _ _ d others custom_too written begins_too rest_too) =
    search (std_rules, one-custom f.1 c d named written, one-data fs cs others rest rest_too)
one-data (f ∷ fs) ds es (CarryData.carrying _ _ c cs custom named begins rest) (CarryData.other _ _ others never rest_too) = absurd (never (custom, (c, named, begins)))
one-data (f ∷ fs) ds es (CarryData.other _ _ cs never rest) (CarryData.carrying _ _ d others custom named begins rest_too) = absurd (never (custom, (d, named, begins)))
one-data (f ∷ fs) ds es (CarryData.other _ _ cs never rest) (CarryData.other _ _ others never_too rest_too) = one-data fs cs others rest rest_too

-- ---- a section

said-itself : (e : StringEncoding) → (let x : Result StringEncoding Error = Ok e in x) ≡ said_by (Some (contents_of e))
said-itself x = search std_rules

pub carries-answers : (e : StringEncoding) (d : List ℕ) → CarriesEncoding e d → AnswersSaid d (Ok e)
carries-answers e d carries sections component = search (std_rules, said-itself e, one_component d sections carries.sections component carries.spelled)

pub ok-same : (a b : StringEncoding) → (let x : Result StringEncoding Error = Ok a in x) ≡ Ok b → a ≡ b
ok-same a b e = search std_rules

err-never : (a : StringEncoding) (error : Error) → (let x : Result StringEncoding Error = Err error in x) ≡ Ok a → ⊥
err-never a error e = let no : ⊥ = cc in no

pub sections_mean_once : SectionsMeanOnce
sections_mean_once d m n e f a b = (one_world d m n a.reads b.reads, sym (ok-same f e (read-back e d (Ok f) a.says (carries-answers f d b.says))))

-- ---- one after the other

binds-once : (a c d : Binding) (ds : List (List ℕ)) → Binds a ds c → Binds a ds d → c ≡ d
binds-once a c d [] x y = sym x ∙ y
binds-once a c d (s ∷ ds) (m, e, means, u, x) (n, f, other, v, y) =
    let same = sections_mean_once s m n e f means other in
    binds-once (union a (binding_of_world n f)) c d ds (subst (λ w. Binds (union a (binding_of_world w f)) ds c) same.0 (subst (λ w. Binds (union a (binding_of_world m w)) ds c) same.1 x)) y

pub bound_once : BoundOnce
bound_once input c d x y =
    let read = one-reading input x.sections y.sections [] [] x.stand y.stand in
    let same : x.data_ ≡ y.data_ = one-data y.sections x.data_ y.data_ (subst (λ fs. CarryData fs x.data_) (ap (λ (r : Read). r.0) read) x.carry) y.carry in
    binds-once root_binding c d y.data_ (subst (λ ds. Binds root_binding ds c) same x.binds) y.binds

-- ---- bound or refused

-- what means a world begins with another byte than 3
begins-otherwise : (d rest : List ℕ) (m : WorldPackage) → ReadsWorld d m → d ≡ 3 ∷ rest → ⊥
begins-otherwise d rest m read is = search std_rules

-- and isn't empty
means-some : (d : List ℕ) (m : WorldPackage) → ReadsWorld d m → d ≡ [] → ⊥
means-some d m read is = search std_rules

nothing-begins : (d rest : List ℕ) → d ≡ [] → d ≡ 3 ∷ rest → ⊥
nothing-begins d rest none is = let wrong = ap length (sym none ∙ is) in omega (arith, wrong)

pub means-is-let-through : (d : List ℕ) (m : WorldPackage) (e : StringEncoding) (error : Error) → SectionMeans d m e → RefusesSection d error → error ≡ errors.Memory
means-is-let-through d m e error means (RefusesSection.empty none is) = absurd (means-some d m means.reads none)
means-is-let-through d m e error means (RefusesSection.historical rest is historical) = absurd (begins-otherwise d rest m means.reads is)
means-is-let-through d m e error means (RefusesSection.unread some other cause offset is within none) = absurd (none m means.reads)
means-is-let-through d m e error means (RefusesSection.unsaid n read says) = absurd (err-never e error (read-back e d (Err error) means.says says))
means-is-let-through d m e error means (RefusesSection.memory is) = is

pub no-clash-error : (a b : Binding) (error : Error) → CanUnite a b → IsClashError a b error → ⊥
no-clash-error a b x u clash = search (std_rules, united_have_no_clash)

nothing-left : (input left : List ℕ) (error : Error) → left ≡ [] → IsLeftOver input left error → ⊥
nothing-left input left x none over = search std_rules

binds-or-refuses : (input left : List ℕ) (a c : Binding) (ds : List (List ℕ)) (error : Error) → left ≡ [] → Binds a ds c → Refuses (IsLeftOver input left) a ds error → error ≡ errors.Memory
binds-or-refuses input left a c [] error none x over = absurd (nothing-left input left error none over)
binds-or-refuses input left a c (d ∷ ds) error none (m, e, means, u, x) (inl refused) = means-is-let-through d m e error means refused
binds-or-refuses input left a c (d ∷ ds) error none (m, e, means, u, x) (inr (n, f, other, inl clash)) = search (std_rules, sections_mean_once d m n e f means other)
binds-or-refuses input left a c (d ∷ ds) error none (m, e, means, u, x) (inr (n, f, other, inr (v, y))) =
    let same = sections_mean_once d m n e f means other in
    binds-or-refuses input left (union a (binding_of_world n f)) c ds error none
    (subst (λ w. Binds (union a (binding_of_world w f)) ds c) same.0 (subst (λ w. Binds (union a (binding_of_world m w)) ds c) same.1 x)) y

pub bound_is_not_refused : BoundIsNotRefused
bound_is_not_refused input c error x (IsRefused.no_module none is) = absurd (none (x.stand.front ++ []) x.stand.parts)
bound_is_not_refused input c error x (IsRefused.first fs left ds stand carry refuses) =
    let read = one-reading input x.sections fs [] left x.stand stand in
    let same : x.data_ ≡ ds = one-data fs x.data_ ds (subst (λ gs. CarryData gs x.data_) (ap (λ (r : Read). r.0) read) x.carry) carry in
    binds-or-refuses input left root_binding c ds error (sym (ap (λ (r : Read). r.1) read)) (subst (λ es. Binds root_binding es c) same x.binds) refuses

-- ---- refused once

err-same : (e f : Error) → (let x : Result StringEncoding Error = Err e in x) ≡ Err f → e ≡ f
err-same e f is = search std_rules

section-refused-once : (d : List ℕ) (e f : Error) → e ≢ errors.Memory → f ≢ errors.Memory → RefusesSection d e → RefusesSection d f → SameRefusal e f
section-refused-once d e f a b (RefusesSection.memory is) y = absurd (a is)
section-refused-once d e f a b x (RefusesSection.memory is) = absurd (b is)
section-refused-once d e f a b (RefusesSection.empty none is) (RefusesSection.empty none_too is_too) = SameRefusal.same (is ∙ sym is_too)
section-refused-once d e f a b (RefusesSection.empty nothing is) (RefusesSection.historical rest begins is_too) = absurd (nothing-begins d rest nothing begins)
section-refused-once d e f a b (RefusesSection.empty nothing is) (RefusesSection.unread some other cause offset is_too within none) = absurd (some nothing)
section-refused-once d e f a b (RefusesSection.empty nothing is) (RefusesSection.unsaid m read says) = absurd (means-some d m read nothing)
section-refused-once d e f a b (RefusesSection.historical rest begins is) (RefusesSection.empty nothing is_too) = absurd (nothing-begins d rest nothing begins)
section-refused-once d e f a b (RefusesSection.unread some other cause offset is within none) (RefusesSection.empty nothing is_too) = absurd (some nothing)
section-refused-once d e f a b (RefusesSection.unsaid m read says) (RefusesSection.empty nothing is_too) = absurd (means-some d m read nothing)
section-refused-once d e f a b (RefusesSection.historical rest begins is) (RefusesSection.historical more begins_too is_too) = SameRefusal.same (is ∙ sym is_too)
section-refused-once d e f a b (RefusesSection.historical rest begins is) (RefusesSection.unread some other cause offset is_too within none) = absurd (other rest begins)
section-refused-once d e f a b (RefusesSection.historical rest begins is) (RefusesSection.unsaid m read says) = absurd (begins-otherwise d rest m read begins)
section-refused-once d e f a b (RefusesSection.unread some other cause offset is within none) (RefusesSection.historical rest begins is_too) = absurd (other rest begins)
section-refused-once d e f a b (RefusesSection.unread some other cause offset is within none) (RefusesSection.unread some_too other_too cause_too offset_too is_too within_too none_too) =
    SameRefusal.unread cause cause_too offset offset_too is is_too
section-refused-once d e f a b (RefusesSection.unread some other cause offset is within none) (RefusesSection.unsaid m read says) = absurd (none m read)
section-refused-once d e f a b (RefusesSection.unsaid m read says) (RefusesSection.historical rest begins is) = absurd (begins-otherwise d rest m read begins)
section-refused-once d e f a b (RefusesSection.unsaid m read says) (RefusesSection.unread some other cause offset is within none) = absurd (none m read)
section-refused-once d e f a b (RefusesSection.unsaid m read says) (RefusesSection.unsaid n read_too says_too) =
    SameRefusal.same (err-same e f (says read.sections read.spelled ∙ sym (says_too read.sections read.spelled)))

clashes-once : (a b : Binding) (e f : Error) → IsClashError a b e → IsClashError a b f → SameRefusal e f
clashes-once a b (errors.Clash k s) (errors.Clash l t) x y = let one = one_clash a b k l (text_of s) (text_of t) x y in SameRefusal.clash k l s t refl refl one.0 one.1
clashes-once a b (errors.Clash k s) _ x y = absurd y
clashes-once a b _ f x y = absurd x

left-once : (input left : List ℕ) (e f : Error) → IsLeftOver input left e → IsLeftOver input left f → SameRefusal e f
left-once input left z f x y = search std_rules

refuses-once : (input left : List ℕ) (a : Binding) (ds : List (List ℕ)) (e f : Error) → e ≢ errors.Memory → f ≢ errors.Memory → Refuses (IsLeftOver input left) a ds e
    → Refuses (IsLeftOver input left) a ds f → SameRefusal e f
refuses-once input left a [] e f p q x y = left-once input left e f x y
refuses-once input left a (d ∷ ds) e f p q (inl x) (inl y) = section-refused-once d e f p q x y
refuses-once input left a (d ∷ ds) e f p q (inl x) (inr (m, g, means, rest)) = absurd (p (means-is-let-through d m g e means x))
refuses-once input left a (d ∷ ds) e f p q (inr (m, g, means, rest)) (inl y) = absurd (q (means-is-let-through d m g f means y))
refuses-once input left a (d ∷ ds) e f p q (inr (m, g, means, inl x)) (inr (n, h, other, inl y)) =
    let same = sections_mean_once d m n g h means other in
    clashes-once a (binding_of_world n h) e f (subst (λ w. IsClashError a (binding_of_world w h) e) same.0 (subst (λ w. IsClashError a (binding_of_world m w) e) same.1 x)) y
refuses-once input left a (d ∷ ds) e f p q (inr (m, g, means, inl x)) (inr (n, h, other, inr (v, y))) = search (std_rules, sections_mean_once d m n g h means other)
refuses-once input left a (d ∷ ds) e f p q (inr (m, g, means, inr (u, x))) (inr (n, h, other, inl y)) = search (std_rules, sections_mean_once d m n g h means other)
refuses-once input left a (d ∷ ds) e f p q (inr (m, g, means, inr (u, x))) (inr (n, h, other, inr (v, y))) =
    let same = sections_mean_once d m n g h means other in
    refuses-once input left (union a (binding_of_world n h)) ds e f p q
    (subst (λ w. Refuses (IsLeftOver input left) (union a (binding_of_world w h)) ds e) same.0 (subst (λ w. Refuses (IsLeftOver input left) (union a (binding_of_world m w)) ds e) same.1 x)) y

pub one_refusal : OneRefusal
one_refusal input e f p q (IsRefused.no_module none is) (IsRefused.no_module none_too is_too) = SameRefusal.same (is ∙ sym is_too)
one_refusal input e f p q (IsRefused.no_module none is) (IsRefused.first fs left ds stand carry refuses) = absurd (none (stand.front ++ left) stand.parts)
one_refusal input e f p q (IsRefused.first fs left ds stand carry refuses) (IsRefused.no_module none is) = absurd (none (stand.front ++ left) stand.parts)
one_refusal input e f p q (IsRefused.first fs left ds stand carry x) (IsRefused.first gs more es stand_too carry_too y) =
    let read = one-reading input fs gs left more stand stand_too in
    let data_same : ds ≡ es = one-data gs ds es (subst (λ hs. CarryData hs ds) (ap (λ (r : Read). r.0) read) carry) carry_too in
    refuses-once input more root_binding es e f p q
    (subst (λ l. Refuses (IsLeftOver input l) root_binding es e) (ap (λ (r : Read). r.1) read) (subst (λ xs. Refuses (IsLeftOver input left) root_binding xs e) data_same x)) y
