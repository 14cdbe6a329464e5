-- Which section of a module is refused: one at most, and none where all are bound.
use Rattle.std.proofs.Common.{◌≡◌, refl, sym, ap, subst, ℕ, ◌==◌, zero, suc, Bool, true, false, cond, List, [], ◌∷◌, ◌++◌, length, Option, Some, None, Err}
use mathlib.Core.Logic.{inl, inr}
use Rattle.std.specs.Prelude.{◌≢◌, Result}
use Rattle.wit_model.specs.declared.{error.Error.Error, model.StringEncoding.StringEncoding}
use Rattle.wit_model.specs.Meaning.{WorldPackage}
use Rattle.bind_meaning.specs.{Binding.Binding, ByMeaning.binding_of_world, Clash.CanUnite, Roots.root_binding, Union.union}
use Rattle.wit_metadata.specs.{Carried.contents_under, Carried.last_of, Encodings.encoding_at, Encodings.section_name, Said.said_by, Said.said_by_code}
use Rattle.wit_metadata.specs.Modules.{Framed}
use Rattle.bind_sections.specs.{SectionBindings.RefusesSection, Bound.Binds, Bound.CarryData, Bound.HasSections, Bound.SectionMeans}
use Rattle.bind_sections.specs.Blamed.{Blames, IsRefusedAs, NoRefusedSection, OneRefusedSection, RefusesNext, RefusesNoSection}
use Rattle.bind_sections.proofs.BoundLaws.{means-is-let-through, no-clash-error, one-data, one-reading, sections_mean_once}
use Rattle.bind_sections.proofs.Steps.{all-behind, carried-by, has-more, more-behind, whole}
use Rattle.wit_model.specs.declared.error.Error.TheVariants as errors

-- ---- what refuses a section

abbrev Answer : Type 0
Answer = Result StringEncoding Error

-- the refusals of an encoding
abbrev IsSaidError : Error → Type 0
IsSaidError errors.EncodingMissing = Unit {0}
IsSaidError errors.EncodingUnknownFormat = Unit {0}
IsSaidError (errors.EncodingVersion byte) = Unit {0}
IsSaidError (errors.BadStringEncoding byte) = Unit {0}
IsSaidError _ = ⊥

abbrev SaysSo : Answer → Type 0
SaysSo (Err e) = IsSaidError e
SaysSo _ = Unit {0}

said-so : (x : Option (List ℕ)) → SaysSo (said_by x)
said-so None = tt
said-so (Some []) = tt
said-so (Some (b ∷ [])) = tt
said-so (Some (b ∷ code ∷ [])) = at-four (b == 4)
  where
    by-code : (o : Option StringEncoding) → SaysSo (said_by_code code o)
    by-code None = tt
    by-code (Some x) = tt

    at-four : (t : Bool) → SaysSo (cond t (said_by_code code (encoding_at code)) (Err (errors.EncodingVersion b)))
    at-four true = by-code (encoding_at code)
    at-four false = tt
said-so (Some (b ∷ code ∷ c ∷ rest)) = tt

blames-said : (input : List ℕ) (n : ℕ) (e : Error) → IsSaidError e → IsRefusedAs input n e → Blames input n e
blames-said input n errors.EncodingMissing so r = r
blames-said input n errors.EncodingUnknownFormat so r = r
blames-said input n (errors.EncodingVersion byte) so r = r
blames-said input n (errors.BadStringEncoding byte) so r = r
blames-said input n _ so r = absurd so

-- a refusal of a section's data is of a section
pub blames-section : (input : List ℕ) (n : ℕ) (e : Error) (d : List ℕ) → RefusesSection d e → IsRefusedAs input n e → Blames input n e
blames-section input n e d (RefusesSection.empty none is) r = subst (Blames input n) (sym is) (subst (IsRefusedAs input n) is r)
blames-section input n e d (RefusesSection.historical rest begins is) r = subst (Blames input n) (sym is) (subst (IsRefusedAs input n) is r)
blames-section input n e d (RefusesSection.unread some other cause offset is within none) r = subst (Blames input n) (sym is) (subst (IsRefusedAs input n) is r)
blames-section input n e d (RefusesSection.unsaid m reads says) r =
    blames-said input n e (subst SaysSo (sym (says reads.sections reads.spelled)) (said-so (last_of (contents_under section_name reads.sections)))) r
blames-section input n e d (RefusesSection.memory is) r = subst (Blames input n) (sym is) tt

-- ---- along all data of a module

-- Onto this binding, the data of this number is the first that is refused, and so.
abbrev RefusedAt : Binding → List (List ℕ) → ℕ → Error → Type 0
RefusedAt a [] n error = ⊥
RefusedAt a (d ∷ ds) zero error = RefusesNext a d error
RefusedAt a (d ∷ ds) (suc n) error = (m : WorldPackage) × (e : StringEncoding) × SectionMeans d m e × CanUnite a (binding_of_world m e) × RefusedAt (union a (binding_of_world m e)) ds n error

refused-behind : (ds es : List (List ℕ)) (a c : Binding) (d : List ℕ) (error : Error) → Binds a ds c → RefusesNext c d error → RefusedAt a (ds ++ (d ∷ es)) (length ds) error
refused-behind [] es a c d error same why = subst (λ x. RefusesNext x d error) (sym same) why
refused-behind (x ∷ ds) es a c d error (m, e, means, u, rest) why = (m, e, means, u, refused-behind ds es (union a (binding_of_world m e)) c d error rest why)

-- what unites isn't refused
next-unites : (a : Binding) (d : List ℕ) (error : Error) (m : WorldPackage) (e : StringEncoding) → error ≢ errors.Memory → RefusesNext a d error → SectionMeans d m e
    → CanUnite a (binding_of_world m e) → ⊥
next-unites a d error m e other (inl why) means u = other (means-is-let-through d m e error means why)
next-unites a d error m e other (inr (n, f, meant, clash)) means u =
    let same = sections_mean_once d m n e f means meant in
    no-clash-error a (binding_of_world n f) error (subst (λ w. CanUnite a (binding_of_world w f)) same.0 (subst (λ w. CanUnite a (binding_of_world m w)) same.1 u)) clash

refused-once : (ds : List (List ℕ)) (a : Binding) (i j : ℕ) (e f : Error) → e ≢ errors.Memory → f ≢ errors.Memory → RefusedAt a ds i e → RefusedAt a ds j f → i ≡ j
refused-once [] a i j e f p q x y = absurd x
refused-once (d ∷ ds) a zero zero e f p q x y = refl
refused-once (d ∷ ds) a zero (suc j) e f p q x (m, g, means, u, y) = absurd (next-unites a d e m g p x means u)
refused-once (d ∷ ds) a (suc i) zero e f p q (m, g, means, u, x) y = absurd (next-unites a d f m g q y means u)
refused-once (d ∷ ds) a (suc i) (suc j) e f p q (m, g, means, u, x) (n, h, other, v, y) =
    let same = sections_mean_once d m n g h means other in
    ap suc (refused-once ds (union a (binding_of_world n h)) i j e f p q
    (subst (λ w. RefusedAt (union a (binding_of_world w h)) ds i e) same.0 (subst (λ w. RefusedAt (union a (binding_of_world m w)) ds i e) same.1 x)) y)

bound-or-refused : (ds : List (List ℕ)) (a c : Binding) (i : ℕ) (e : Error) → e ≢ errors.Memory → Binds a ds c → RefusedAt a ds i e → ⊥
bound-or-refused [] a c i e p x y = y
bound-or-refused (d ∷ ds) a c zero e p (m, g, means, u, x) y = next-unites a d e m g p y means u
bound-or-refused (d ∷ ds) a c (suc i) e p (m, g, means, u, x) (n, h, other, v, y) =
    let same = sections_mean_once d m n g h means other in
    bound-or-refused ds (union a (binding_of_world n h)) c i e p (subst (λ w. Binds (union a (binding_of_world w h)) ds c) same.0 (subst (λ w. Binds (union a (binding_of_world m w)) ds c) same.1 x)) y

-- ---- of a module

-- among all sections of a module, the data of this number is refused so
record IsRefusedAmong (input : List ℕ) (n : ℕ) (error : Error) : Type 0 where
  fs : List Framed
  left : List ℕ
  ds : List (List ℕ)
  stand : HasSections input fs left
  carry : CarryData fs ds
  at : RefusedAt root_binding ds n error

among : (input : List ℕ) (n : ℕ) (error : Error) → IsRefusedAs input n error → IsRefusedAmong input n error
among input n error r =
    let h = r.before.0 in
    let more = has-more r.rest in
    let others = carried-by more.sections in
    let all = more-behind r.bytes r.data_ r.rest r.next more in record {
      fs = h.sections ++ all.sections;
      left = all.left;
      ds = h.data_ ++ (r.data_ ∷ others.0);
      stand = whole input r.bytes r.bound h all;
      carry = all-behind input r.bytes r.data_ r.rest r.bound h r.next more others.0 others.1;
      at = subst (λ k. RefusedAt root_binding (h.data_ ++ (r.data_ ∷ others.0)) k error) r.before.1 (refused-behind h.data_ others.0 root_binding r.bound r.data_ error h.binds r.why);
    }

abbrev Read : Type 0
Read = List Framed × List ℕ

-- two lists of all data of a module are one
same-data : (input : List ℕ) (fs gs : List Framed) (left more : List ℕ) (ds es : List (List ℕ)) → HasSections input fs left → HasSections input gs more → CarryData fs ds → CarryData gs es → ds ≡ es
same-data input fs gs left more ds es stand stand_too carry carry_too =
    let read = one-reading input fs gs left more stand stand_too in
    one-data gs ds es (subst (λ hs. CarryData hs ds) (ap (λ (r : Read). r.0) read) carry) carry_too

pub one_refused_section : OneRefusedSection
one_refused_section input m n x y =
    let a = among input m x.error x.refused in
    let b = among input n y.error y.refused in
    let same = same-data input a.fs b.fs a.left b.left a.ds b.ds a.stand b.stand a.carry b.carry in
    refused-once b.ds root_binding m n x.error y.error x.other y.other (subst (λ ds. RefusedAt root_binding ds m x.error) same a.at) b.at

pub no_refused_section : NoRefusedSection
no_refused_section input n (RefusesNoSection.no_module none) y = let h = y.refused.before.0 in none (h.front ++ y.refused.bytes) h.parts
no_refused_section input n (RefusesNoSection.through c rest h ends) y =
    let b = among input n y.error y.refused in
    let stand : HasSections input h.sections rest = record { front = h.front; parts = h.parts; sections = h.are; ends = ends } in
    let same = same-data input h.sections b.fs rest b.left h.data_ b.ds stand b.stand h.carry b.carry in
    bound-or-refused b.ds root_binding c n y.error y.other (subst (λ ds. Binds root_binding ds c) same h.binds) b.at
