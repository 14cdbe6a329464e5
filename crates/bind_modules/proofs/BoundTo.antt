-- What is known of bindings behind each section of a module.
use Rattle.std.proofs.Common.{rules as std_rules, ◌≡◌, ◌∙◌, refl, sym, ap, subst, ℕ, ◌+◌, ◌-◌, ◌≤◌, ◌<◌, List, [], ◌++◌, append-nil, length, Option, Some, None, arith}
use Rattle.std.proofs.lemmas.List.{length-append}
use Rattle.std.specs.{Prelude.◌≢◌, Prelude.slice_get, Prelude.IfErr, Prelude.Result, Borrow.Bor}
use Rattle.wit_model.specs.declared.{error.Error.Error, model.Resolve.Resolve, model.WorldKey.WorldKey}
use Rattle.wit_model.specs.Lookup.{identity_of, optional_version_text}
use Rattle.bind_meaning.specs.Binding.{Binding}
use Rattle.wit_bind.specs.declared.bindgen.Bindgen.{Bindgen}
use Rattle.wit_bind.specs.{Bindings.binding_of, Extends.Extends, Merged.IsMerge, Roots.IsRoot}
use Rattle.wit_bind.proofs.RootBindings.{roots_are_roots}
use Rattle.wit_metadata.specs.Modules.{Framed, IsFrontData, IsFrontless, IsInFront, IsModule, IsNoModule, RefusesModule, module_preamble}
use Rattle.bind_sections.specs.{Bound.CarryData, Bound.HasSections, Bound.IsBound, Bound.IsRefused, Bound.RefusesBindings, SectionBindings.IsBoundBy}
use Rattle.bind_sections.specs.{Steps.IsCountedTo, Steps.IsDataInFront, Steps.IsReadTo, Blamed.Blames, Blamed.IsRefusedSection, Blamed.RefusesNoSection}
use Rattle.bind_sections.proofs.{DecodeSteps.section-merged, Steps.counting_begins, Steps.left_overs_end, Steps.other-counted, Steps.reading_ends}
use Rattle.bind_modules.specs.{BoundTo.BeginsWithRoot, BoundTo.IsBoundTo, Reached.IsReached}
use Rattle.base_lemmas.proofs.Lists.{is-nothing as no-bytes}
use Rattle.wit_model.specs.declared.error.Error.TheVariants as errors

-- ---- the first package

root_begins : (b : Bindgen) → IsRoot b → BeginsWithRoot b.resolve
root_begins b root =
    let p = root.holds.is_package in record {
      package_ = root.holds.package_;
      first = ap (λ (ps : List _). slice_get ps 0) root.holds.packages;
      named_ = λ i. record { namespace = p.namespace i; name = p.name i; version = optional_version_text (p.unversioned i) };
    }

grown_begins : (old new : Resolve) (bound : ℕ) → Extends old new bound → BeginsWithRoot old → BeginsWithRoot new
grown_begins old new bound grown root =
    let q = grown.packages 0 root.package_ root.first in
    record { package_ = q.0; first = q.1; named_ = ap identity_of q.2.name ∙ root.named_ }

-- ---- the steps

-- before the first section
pub begins : (input rest : List ℕ) (b : Bindgen) → input ≡ module_preamble ++ rest → IsRoot b → IsBoundTo input b 0 rest
begins input rest b parts root =
    let is = roots_are_roots b root in record {
      read = subst (λ c. IsCountedTo input c 0 rest) (sym is.1) (counting_begins input rest parts);
      bindgen = is.0;
      root = root_begins b root;
      reached = IsReached.begun b rest parts root;
    }

-- a section that carries data
pub data-in-front : (bytes rest : List ℕ) (found : Bor (List ℕ)) → IsFrontData bytes (Some found) rest → IsDataInFront bytes found.now rest
data-in-front bytes rest found (f, front, carries) =
    record { frame = f; front = front; carry = CarryData.carrying f [] (carries.name, found.now) [] carries.custom carries.named_ carries.begins CarryData.none }

-- it was merged
pub merged : (input bytes rest d : List ℕ) (n : ℕ) (own b new : Bindgen) (answer : List WorldKey) → IsBoundTo input own n bytes → IsDataInFront bytes d rest → IsBoundBy d b → IsMerge own b new answer
    → IsBoundTo input new (n + 1) rest
merged input bytes rest d n own b new answer h x bound is = record {
  read = section-merged input bytes rest d own h.read.0 x b bound n h.read.1 new is.united is.union;
  bindgen = is.valid;
  root = grown_begins own.resolve new.resolve own.world.0 is.extends h.root;
  reached = IsReached.merged own b new answer bytes d rest h.reached x bound is;
}

-- one that carries none
pub passed : (input bytes rest : List ℕ) (n : ℕ) (b : Bindgen) → IsBoundTo input b n bytes → IsFrontData bytes None rest → IsBoundTo input b n rest
passed input bytes rest n b h (f, front, never) = record {
  read = other-counted input bytes rest (binding_of b) n f h.read front never;
  bindgen = h.bindgen;
  root = h.root;
  reached = IsReached.passed b bytes rest f h.reached front never;
}

-- each has bytes
one-shorter : (bytes rest : List ℕ) (f : Framed) → IsInFront bytes f rest → length rest < length bytes
one-shorter bytes rest f h = search (std_rules, length-append)

pub shorter : (bytes rest : List ℕ) (found : Option (Bor (List ℕ))) → IsFrontData bytes found rest → length rest < length bytes
shorter bytes rest (Some found) (f, front, carries) = one-shorter bytes rest f front
shorter bytes rest None (f, front, never) = one-shorter bytes rest f front

-- what is left is a part of the module
pub part : (input rest : List ℕ) (n : ℕ) (b : Bindgen) → IsBoundTo input b n rest → length rest ≤ length input
part input rest n b h = search (std_rules, length-append)

behind : (n whole front rest : ℕ) → whole ≡ n + (front + rest) → whole - rest + rest ≡ whole
behind n whole front rest e = omega (arith, e)

-- where the bytes begin that are left
pub begins-at : (input rest : List ℕ) (n : ℕ) (b : Bindgen) → IsBoundTo input b n rest → length input - length rest + length rest ≡ length input
begins-at input rest n b h = search (std_rules, behind, length-append)

-- how many sections have been counted: each has bytes

pub behind-preamble : (input rest : List ℕ) → input ≡ module_preamble ++ rest → 0 + length rest ≤ length input
behind-preamble input rest parts = let whole = ap length parts ∙ length-append module_preamble rest in omega (arith, whole)

pub counted-on : (count new rest behind whole : ℕ) → count + rest ≤ whole → new ≤ count + 1 → behind < rest → new + behind ≤ whole
counted-on count new rest behind whole h more less = omega (arith, h, more, less)

-- ---- the end

pub ends : (input rest : List ℕ) (n : ℕ) (b : Bindgen) → IsBoundTo input b n rest → length rest ≡ 0 → IsBound input (binding_of b)
ends input rest n b h none = reading_ends input (binding_of b) (subst (IsReadTo input (binding_of b)) (no-bytes rest none) h.read.0)

pub ends-reached : (input rest : List ℕ) (n : ℕ) (b : Bindgen) → IsBoundTo input b n rest → length rest ≡ 0 → IsReached input b []
ends-reached input rest n b h none = subst (IsReached input b) (no-bytes rest none) h.reached

-- ---- refusals

-- a refusal that is of a section
pub to-blame : (input : List ℕ) (n : ℕ) (e : Error) → (e ≡ errors.Memory → ⊥) → (e ≡ errors.Size → ⊥) → (e ≡ errors.NotAModule → ⊥) → ((offset : ℕ) → e ≡ errors.BadModule offset → ⊥)
    → Blames input n e → IsRefusedSection input n
to-blame input n e memory size module_ frame h = search std_rules

-- the same refusal is of size where the other is
pub same-size : {X : Type 0} (A : Type 0) (r : Result X Error) (e : Error) → IfErr r (λ d. d ≡ e) → (e ≡ errors.Size → A) → IfErr r (λ d. d ≡ errors.Size → A)
same-size x y e same h = search std_rules

pub no-module : (input : List ℕ) (e : Error) → e ≡ errors.NotAModule → IsNoModule input → RefusesBindings input e
no-module input e is none = subst (RefusesBindings input) (sym is) (IsRefused.no_module none refl)

pub no-module-blamed : (input : List ℕ) (n : ℕ) (e : Error) → e ≡ errors.NotAModule → IsNoModule input → Blames input n e
no-module-blamed input n e is none = subst (Blames input n) (sym is) (RefusesNoSection.no_module none)

pub left-over : (input bytes : List ℕ) (n : ℕ) (b : Bindgen) (offset : ℕ) (e : Error) → IsBoundTo input b n bytes → bytes ≢ [] → IsFrontless bytes → offset + length bytes ≡ length input
    → e ≡ errors.BadModule offset → RefusesBindings input e
left-over input bytes n b offset e h some none at is = subst (RefusesBindings input) (sym is) (left_overs_end input bytes (binding_of b) (errors.BadModule offset) h.read.0 none (some, at))

pub left-over-blamed : (input bytes : List ℕ) (n : ℕ) (b : Bindgen) (offset : ℕ) (e : Error) → IsBoundTo input b n bytes → IsFrontless bytes → e ≡ errors.BadModule offset → Blames input n e
left-over-blamed input bytes n b offset e h none is = subst (Blames input n) (sym is) (RefusesNoSection.through (binding_of b) bytes h.read.0 none)

-- a module that binds something has no section that is refused
pub bound-blames-none : (input : List ℕ) (c : Binding) → IsBound input c → RefusesNoSection input
bound-blames-none input c bound = RefusesNoSection.through c [] (record {
  sections = bound.sections;
  front = bound.stand.front;
  parts = bound.stand.parts;
  are = bound.stand.sections;
  data_ = bound.data_;
  carry = bound.carry;
  binds = bound.binds;
}) bound.stand.ends

-- A module that binds something is refused, where it is stripped, for want of memory alone.
pub strip-refused : (input : List ℕ) (c : Binding) (e : Error) → IsBound input c → RefusesModule input e → RefusesBindings input e
strip-refused input c errors.Memory bound r = tt
strip-refused input c errors.Size bound r = tt
strip-refused input c errors.NotAModule bound r = absurd (r (bound.stand.front ++ []) bound.stand.parts)
strip-refused input c (errors.BadModule offset) bound r = absurd (r.1 bound.sections (is-module bound.stand))
  where
    is-module : HasSections input bound.sections [] → IsModule bound.sections input
    is-module s = (s.front, s.parts ∙ ap (λ (t : List ℕ). module_preamble ++ t) (append-nil s.front), s.sections)
strip-refused input c _ bound r = absurd r
