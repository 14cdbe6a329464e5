-- All data of a module, one after the other.
use Rattle.std.proofs.Common.{◌≡◌, ◌∙◌, ◌<◌, ◌+◌, ◌-◌, ◌^◌, refl, sym, ap, subst, arith, ℕ, List, [], ◌∷◌, ◌++◌, append_assoc, append-nil, length, Option, Some, None}
use Rattle.std.proofs.lemmas.List.{length-append}
use Rattle.std.specs.{List.AllByRecursion, List.flat_map, Borrow.Bor}
use Rattle.comp_bytes.specs.Frames.{IsFrame}
use Rattle.wit_model.specs.declared.error.Error.{Error}
use Rattle.wit_metadata.specs.Modules.{CarriesData, Framed, IsFrontData, IsFrontless, IsNoModule, module_preamble}
use Rattle.wit_component.specs.Bound.{CarryData}
use Rattle.witc_alike.specs.Carried.{ListsData, RefusesSections, counted}
use Rattle.witc_alike.proofs.WalkLaws.{Walks, carry-end, further, no-module, other-end, stuck}
use Rattle.base_lemmas.proofs.Lists.{is-nothing}
use Rattle.wit_model.specs.declared.error.Error.TheVariants as errors

-- ---- one more

-- what a section carries is shorter than its contents, whose length is a number of 32 bits
data-short : (f : Framed) (front text : List ℕ) → IsFrame f front → CarriesData f text → length text < 2 ^ 32
data-short f front text spelled c =
    let fits : length f.1 < 2 ^ 32 = spelled.2.3.fits in
    let whole = ap length c.named_.2 ∙ length-append c.named_.0 c.named_.1 in
    let is = ap length c.named_.4 in
    omega (arith, fits, whole, is)

short-end : (ds : List (List ℕ)) → AllByRecursion (λ (d : List ℕ). length d < 2 ^ 32) ds → (d : List ℕ) → length d < 2 ^ 32 → AllByRecursion (λ (d : List ℕ). length d < 2 ^ 32) (ds ++ d ∷ [])
short-end [] all d short = (short, tt)
short-end (e ∷ ds) all d short = (all.0, short-end ds all.1 d short)

counted-end : (ds : List (List ℕ)) (d : List ℕ) → flat_map counted (ds ++ d ∷ []) ≡ flat_map counted ds ++ counted d
counted-end [] d = append-nil (counted d)
counted-end (e ∷ ds) d = ap (λ (t : List ℕ). counted e ++ t) (counted-end ds d) ∙ sym (append_assoc (counted e) (flat_map counted ds) (counted d))

-- ---- the walk

pub nothing-listed : (bytes rest : List ℕ) → bytes ≡ module_preamble ++ rest → (text : List ℕ) → text ≡ [] → ListsData bytes rest text
nothing-listed bytes rest parts text none = record { data_ = []; begins = record { sections = []; front = []; parts = parts; are = (refl, tt); carry = CarryData.none }; short = tt; is = none }

module _ (bytes rest text : List ℕ) (h : ListsData bytes rest text) where
  -- as many are passed over as there are
  walks : Walks bytes (length h.data_) rest 0
  walks = record { data_ = h.data_; begins = h.begins; counted = omega arith }

  -- a section that carries no world
  pub other-listed : (behind : List ℕ) (o : Option (Bor (List ℕ))) → ((found : Bor (List ℕ)) → o ≡ Some found → ⊥) → IsFrontData rest o behind → ListsData bytes behind text
  other-listed behind None none at = record {
    data_ = h.data_;
    begins = further bytes rest behind h.data_ h.begins at.0 at.1 h.data_ (other-end h.begins.sections h.data_ h.begins.carry at.0 at.2);
    short = h.short;
    is = h.is;
  }
  other-listed behind (Some found) none at = absurd (none found refl)

  module _ (behind : List ℕ) (o : Option (Bor (List ℕ))) (found : Bor (List ℕ)) (some : o ≡ Some found) (front : IsFrontData rest o behind) where
    here : IsFrontData rest (Some found) behind
    here = subst (λ (p : Option (Bor (List ℕ))). IsFrontData rest p behind) some front

    pub short-here : length found.now < 2 ^ 32
    short-here = data-short here.0 here.1.front found.now here.1.framed_ here.2

    -- one that carries a world
    pub one-listed : (new : List ℕ) → new ≡ text ++ counted found.now → ListsData bytes behind new
    one-listed new is = record {
      data_ = h.data_ ++ found.now ∷ [];
      begins = further bytes rest behind h.data_ h.begins here.0 here.1 (h.data_ ++ found.now ∷ []) (carry-end h.begins.sections h.data_ h.begins.carry here.0 found.now here.2);
      short = short-end h.data_ h.short found.now short-here;
      is = is ∙ (ap (λ (t : List ℕ). t ++ counted found.now) h.is ∙ sym (counted-end h.data_ found.now));
    }

  -- there are no more
  pub all-listed : length rest ≡ 0 → ListsData bytes [] text
  all-listed empty = subst (λ (left : List ℕ). ListsData bytes left text) (is-nothing rest empty) h

  -- no section begins where something is left
  pub stuck-listed : (offset : ℕ) → offset ≡ length bytes - length rest → (length rest ≡ 0 → ⊥) → IsFrontless rest → (e : Error) → e ≡ errors.BadModule offset → RefusesSections bytes e
  stuck-listed offset at some none e is = (length h.data_, stuck bytes (length h.data_) rest 0 walks offset at some none e is)

pub no-module-listed : (bytes : List ℕ) → IsNoModule bytes → (e : Error) → e ≡ errors.NotAModule → RefusesSections bytes e
no-module-listed bytes none e is = (0, no-module bytes 0 none e is)
