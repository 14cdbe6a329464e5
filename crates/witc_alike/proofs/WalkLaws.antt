-- Sections of a module, read one after the other.
use Rattle.std.proofs.Common.{rules as std_rules, ◌≡◌, ◌∙◌, ◌<◌, ◌≤◌, ◌+◌, ◌-◌, refl, sym, ap, subst, arith, ℕ, List, [], ◌∷◌, ◌++◌, append_assoc, length, Option, Some, None}
use Rattle.std.proofs.lemmas.List.{length-append}
use Rattle.std.specs.{Prelude.Vec, Prelude.slice_get, Borrow.Bor}
use Rattle.std.specs.declared.alloc.Global.{Global}
use Rattle.wit_model.specs.declared.error.Error.{Error}
use Rattle.wit_metadata.specs.Modules.{Carries, CarriesData, Framed, IsFrontData, IsFrontless, IsInFront, IsNoModule, module_preamble}
use Rattle.wit_metadata.proofs.ModuleLaws.{named-end, sequence-end}
use Rattle.wit_component.specs.Bound.{CarryData}
use Rattle.witc_alike.specs.Carried.{BeginsWith, HasNumber, RefusesWalk}
use Rattle.base_lemmas.proofs.Lists.{at_last, is-nothing}
use Rattle.wit_model.specs.declared.error.Error.TheVariants as errors

-- ---- a section more

pub carry-end : (fs : List Framed) (ds : List (List ℕ)) → CarryData fs ds → (f : Framed) (d : List ℕ) → CarriesData f d → CarryData (fs ++ f ∷ []) (ds ++ d ∷ [])
carry-end fs ds CarryData.none f d c = CarryData.carrying f [] (c.name, d) [] c.custom c.named_ c.begins CarryData.none
carry-end fs ds (CarryData.carrying g gs x es custom is begins carry) f d c = CarryData.carrying g (gs ++ f ∷ []) x (es ++ d ∷ []) custom is begins (carry-end gs es carry f d c)
carry-end fs ds (CarryData.other g gs es never carry) f d c = CarryData.other g (gs ++ f ∷ []) (es ++ d ∷ []) never (carry-end gs es carry f d c)

pub other-end : (fs : List Framed) (ds : List (List ℕ)) → CarryData fs ds → (f : Framed) → (Carries f → ⊥) → CarryData (fs ++ f ∷ []) ds
other-end fs ds CarryData.none f none = CarryData.other f [] [] none CarryData.none
other-end fs ds (CarryData.carrying g gs x es custom is begins carry) f none = CarryData.carrying g (gs ++ f ∷ []) x es custom is begins (other-end gs es carry f none)
other-end fs ds (CarryData.other g gs es never carry) f none = CarryData.other g (gs ++ f ∷ []) es never (other-end gs es carry f none)

module _ (bytes rest behind : List ℕ) (ds : List (List ℕ)) (h : BeginsWith bytes ds rest) (f : Framed) (stands : IsInFront rest f behind) where
  pub further : (es : List (List ℕ)) → CarryData (h.sections ++ f ∷ []) es → BeginsWith bytes es behind
  further es carry = search (std_rules, append_assoc h.front stands.front behind, sequence-end h.sections h.front h.are.0 f stands.front stands.framed_, named-end h.sections h.are.1 f stands.named_)

-- A section that stands in front takes bytes.
pub taken : (bytes rest : List ℕ) (o : Option (Bor (List ℕ))) → IsFrontData bytes o rest → (front : List ℕ) × (bytes ≡ front ++ rest) × (0 < length front)
taken bytes rest x y = search std_rules

-- so fewer are left
pub fewer : (bytes front rest : List ℕ) → bytes ≡ front ++ rest → 0 < length front → length rest < length bytes
fewer bytes front rest parts some = let whole = ap length parts ∙ length-append front rest in omega (arith, whole, some)

-- ---- the walk

-- a number that isn't 0 is one more than the one below it
pub one-less : (left : ℕ) → (left ≡ 0 → ⊥) → left ≡ left - 1 + 1
one-less x some = search std_rules

-- Some sections have been read, this is left behind them, and so many of those that carry worlds are to be passed over.
pub record Walks (bytes : List ℕ) (n : ℕ) (rest : List ℕ) (left : ℕ) : Type 0 where
  pub data_ : List (List ℕ)
  pub begins : BeginsWith bytes data_ rest
  pub counted : length data_ + left ≡ n

pub nothing-walked : (bytes rest : List ℕ) (n : ℕ) → bytes ≡ module_preamble ++ rest → Walks bytes n rest n
nothing-walked bytes rest n parts = record { data_ = []; begins = record { sections = []; front = []; parts = parts; are = (refl, tt); carry = CarryData.none }; counted = omega arith }

module _ (bytes : List ℕ) (n : ℕ) (rest : List ℕ) (left : ℕ) (h : Walks bytes n rest left) where
  -- what is left is no more than the bytes
  pub within : length rest ≤ length bytes
  within = search (std_rules, length-append module_preamble (h.begins.front ++ rest), length-append h.begins.front rest)

  -- a section that carries no world
  pub other-walked : (behind : List ℕ) (o : Option (Bor (List ℕ))) → ((found : Bor (List ℕ)) → o ≡ Some found → ⊥) → IsFrontData rest o behind → Walks bytes n behind left
  other-walked behind None none at = record {
    data_ = h.data_;
    begins = further bytes rest behind h.data_ h.begins at.0 at.1 h.data_ (other-end h.begins.sections h.data_ h.begins.carry at.0 at.2);
    counted = h.counted;
  }
  other-walked behind (Some found) none at = absurd (none found refl)

  module _ (behind : List ℕ) (o : Option (Bor (List ℕ))) (found : Bor (List ℕ)) (some : o ≡ Some found) (front : IsFrontData rest o behind) where
    here : IsFrontData rest (Some found) behind
    here = subst (λ (p : Option (Bor (List ℕ))). IsFrontData rest p behind) some front

    begins-on : BeginsWith bytes (h.data_ ++ found.now ∷ []) behind
    begins-on = further bytes rest behind h.data_ h.begins here.0 here.1 (h.data_ ++ found.now ∷ []) (carry-end h.begins.sections h.data_ h.begins.carry here.0 found.now here.2)

    -- one that carries a world, and isn't the one
    pub passed-over : (more : ℕ) → left ≡ more + 1 → Walks bytes n behind more
    passed-over more is = record {
      data_ = h.data_ ++ found.now ∷ [];
      begins = begins-on;
      counted = (let long = length-append h.data_ (found.now ∷ []) in let counted = h.counted in omega (arith, long, counted, is));
    }

    -- the one
    pub found-walked : left ≡ 0 → (v : Vec ℕ Global) → v.items ≡ found.now → HasNumber bytes n (Some v)
    found-walked none v is =
        let last : length h.data_ ≡ n = (let counted = h.counted in omega (arith, counted, none)) in (
          h.data_ ++ found.now ∷ [],
          behind,
          begins-on,
          subst (λ (k : ℕ). slice_get (h.data_ ++ found.now ∷ []) k ≡ Some v.items) last (at_last h.data_ found.now ∙ ap Some (sym is)),
        )

  -- there are no more
  pub none-left : length rest ≡ 0 → HasNumber bytes n None
  none-left empty = (h.data_, subst (λ (t : List ℕ). BeginsWith bytes h.data_ t) (is-nothing rest empty) h.begins, (let counted = h.counted in omega (arith, counted)))

  -- no section begins where something is left
  pub stuck : (offset : ℕ) → offset ≡ length bytes - length rest → (length rest ≡ 0 → ⊥) → IsFrontless rest → (e : Error) → e ≡ errors.BadModule offset → RefusesWalk bytes n e
  stuck offset at some none e is =
      let inside = within in
      let ends : offset + length rest ≡ length bytes = omega (arith, at, inside) in
      let few : length h.data_ ≤ n = (let counted = h.counted in omega (arith, counted)) in
      subst (RefusesWalk bytes n) (sym is) (h.data_, rest, h.begins, few, (λ no. some (ap length no)), none, ends)

pub no-module : (bytes : List ℕ) (n : ℕ) → IsNoModule bytes → (e : Error) → e ≡ errors.NotAModule → RefusesWalk bytes n e
no-module bytes n none e is = subst (RefusesWalk bytes n) (sym is) none
