-- How a world's imports, or its exports, come to be those that are stated. Serves exports, imports, worlds.
use Rattle.std.proofs.Common.{◌≡◌, ◌∙◌, refl, sym, ap, subst, nat_eq, List, [], ◌++◌, append-nil, append_assoc, Some}
use Rattle.std.proofs.Common.{slice_get, Contains, ◌⊎◌, inl, inr, arith}
use Rattle.std.proofs.lemmas.List.Elements.{Contains-append_left, Contains-append_cases}
use Rattle.indexmap.specs.IndexMap.{get}
use Rattle.wit_model.specs.declared.model.TypeDef.{TypeDef}
use Rattle.text_types.specs.declared.members.Interfaces.{Interfaces}
use Rattle.text_types.specs.{Begins.Begins}
use Rattle.text_types.proofs.Growth.{begins_join, begins_none}
use Rattle.text_shown.specs.{ShowsWorlds.StandsIn, ShowsWorlds.Stated}
use Rattle.wit_text.specs.{Items.WorldEntry, Items.path_key, MadeInterfaces.GrowsInterfaces, Puts.number_at, Puts.IsFrontedBy}
use Rattle.wit_text.specs.MadeWorlds.{StatedIn}
use Rattle.wit_text.specs.Sides.{home_in, sources_in, AddsPaths, AreNumbered, Continues, GrowsInline, Holds, IsGiven, IsInText}
use Rattle.wit_text.specs.Sides.{IsKnown, IsKnown.a_label, IsKnown.a_path, IsPut, Side}
use Rattle.wit_text.specs.declared.given.Given.{Given}
use Rattle.wit_text.proofs.WorldsGrow.{stated_carried}

-- what is stated, and the entry that it is
abbrev pub Is : Given → Interfaces → List TypeDef → Stated → WorldEntry → Type 0
Is given a defs = StatedIn (sources_in given) a defs (home_in given)

-- ---- lists

pub contains_nil : {X : Type 0} {P : Type 0} (x : X) → Contains [] x → P
contains_nil x h = absurd (let low = h.1 in omega arith)

-- ---- interfaces that grow

pub inline_none : (a : Interfaces) → GrowsInline a a
inline_none a = record { list = begins_none a.list.items; numbers = refl }

pub inline_join : {a b c : Interfaces} → GrowsInline a b → GrowsInline b c → GrowsInline a c
inline_join h k = record { list = begins_join h.list k.list; numbers = k.numbers ∙ h.numbers }

pub grows_interfaces : {a b : Interfaces} → GrowsInline a b → GrowsInterfaces a b
grows_interfaces {a = a} {b = b} h = record {
  list = h.list;
  numbers = λ n made e. subst (λ v. slice_get v.items n ≡ Some (Some made)) (sym h.numbers) e;
}

pub in_text : {given : Given} {a : Interfaces} → IsGiven given a → IsInText given
in_text h = h.here

pub given_on : {given : Given} {a b : Interfaces} → GrowsInline a b → IsGiven given a → IsGiven given b
given_on {given = given} g h = record {
  here = h.here;
  imports = h.imports;
  exports = h.exports;
  numbered = subst (λ v. AreNumbered (sources_in given) v.items) (sym g.numbers) h.numbered;
}

-- ---- entries that are put

module _ {given : Given} {side : Side} where
  put_on : {a b : Interfaces} {entry : WorldEntry} → GrowsInline a b → IsPut given a side entry → IsPut given b side entry
  put_on {a = a} {b = b} {entry = entry} g h = record {
    n = h.n;
    item = h.item;
    is = subst (λ v. entry ≡ (path_key (number_at v.items h.n), h.item)) (sym g.numbers) h.is;
    declared = h.declared;
    fronted = subst (λ v. IsFrontedBy given.text.text.now (get nat_eq side.fronts h.n) (number_at v.items h.n) h.item) (sym g.numbers) h.fronted;
    alone = h.alone;
  }

  pub paths_none : {a : Interfaces} (es : List WorldEntry) → AddsPaths given a side es es
  paths_none es = record { more = []; is = sym (append-nil es); put = λ entry h. contains_nil entry h }

  pub paths_join : {a : Interfaces} {es fs gs : List WorldEntry} → AddsPaths given a side es fs → AddsPaths given a side fs gs → AddsPaths given a side es gs
  paths_join {a = a} {es = es} h k = record {
    more = h.more ++ k.more;
    is = k.is ∙ ap (λ l. l ++ k.more) h.is ∙ append_assoc es h.more k.more;
    put = λ entry c. by entry (Contains-append_cases h.more k.more entry c);
  }
    where
      by : (entry : WorldEntry) → Contains h.more entry ⊎ Contains k.more entry → IsPut given a side entry
      by entry (inl c) = h.put entry c
      by entry (inr c) = k.put entry c

-- ---- what holds

stands_on : (P : Stated → WorldEntry → Type 0) (es more : List WorldEntry) (one : Stated) → StandsIn P es one → StandsIn P (es ++ more) one
stands_on P es more one k = record { entry = k.entry; there = Contains-append_left es more k.entry k.there; is = k.is }

module _ {given : Given} {side : Side} where
  pub holds_none : {a : Interfaces} {defs : List TypeDef} {es : List WorldEntry} → es ≡ [] → Holds given a defs side [] es
  holds_none {a = a} {defs = defs} e =
      subst (λ l. Holds given a defs side [] l) (sym e) (record { stated = λ one h. contains_nil one h; only = λ entry h. contains_nil entry h })

  known_on : {a b : Interfaces} {defs after : List TypeDef} → GrowsInline a b → Begins defs after → {entry : WorldEntry} → IsKnown given a defs side entry
      → IsKnown given b after side entry
  known_on g h (a_path k) = a_path (put_on g k)
  known_on g h {entry = entry} (a_label l k) = a_label l (record { one = k.one; stated = k.stated; is = stated_carried _ (grows_interfaces g) _ h k.one entry k.is })

  pub holds_on : {a b : Interfaces} {defs after : List TypeDef} {seen : List Stated} {es : List WorldEntry} → GrowsInline a b → Begins defs after
      → Holds given a defs side seen es → Holds given b after side seen es
  holds_on g h k = record {
    stated = λ one c. let s = k.stated one c in record { entry = s.entry; there = s.there; is = stated_carried _ (grows_interfaces g) _ h one s.entry s.is };
    only = λ entry c. known_on g h (k.only entry c);
  }

  -- entries come that are known, and what is seen with them stands there
  pub holds_more : {a : Interfaces} {defs : List TypeDef} {seen : List Stated} {es : List WorldEntry} (added : List Stated) (more : List WorldEntry)
      → Holds given a defs side seen es → ((entry : WorldEntry) → Contains more entry → IsKnown given a defs side entry)
      → ((one : Stated) → Contains added one → StandsIn (Is given a defs) (es ++ more) one) → Holds given a defs side (seen ++ added) (es ++ more)
  holds_more {a = a} {defs = defs} {seen = seen} {es = es} added more k known new = record {
    stated = λ one c. seen_or one (Contains-append_cases seen added one c);
    only = λ entry c. old_or entry (Contains-append_cases es more entry c);
  }
    where
      seen_or : (one : Stated) → Contains seen one ⊎ Contains added one → StandsIn (Is given a defs) (es ++ more) one
      seen_or one (inl c) = stands_on (Is given a defs) es more one (k.stated one c)
      seen_or one (inr c) = new one c

      old_or : (entry : WorldEntry) → Contains es entry ⊎ Contains more entry → IsKnown given a defs side entry
      old_or entry (inl c) = k.only entry c
      old_or entry (inr c) = known entry c

  pub holds_paths : {a : Interfaces} {defs : List TypeDef} {seen : List Stated} {es fs : List WorldEntry} → AddsPaths given a side es fs
      → Holds given a defs side seen es → Holds given a defs side seen fs
  holds_paths {a = a} {defs = defs} {seen = seen} {es = es} p k =
      subst (λ l. Holds given a defs side seen l) (sym p.is)
      (subst (λ l. Holds given a defs side l (es ++ p.more)) (append-nil seen)
      (holds_more [] p.more k (λ entry c. a_path (p.put entry c)) (λ one c. contains_nil one c)))

-- ---- how it goes on

module _ {given : Given} {side : Side} where
  pub continues_none : {a : Interfaces} {defs : List TypeDef} {es : List WorldEntry} → Continues given side a a defs defs es es []
  continues_none {a = a} {defs = defs} {es = es} = record { on = λ seen k. subst (λ l. Holds given a defs side l es) (sym (append-nil seen)) k }

  pub continues_join : {a b c : Interfaces} {d e f : List TypeDef} {x y z : List WorldEntry} {p q : List Stated} → Continues given side a b d e x y p
      → Continues given side b c e f y z q → Continues given side a c d f x z (p ++ q)
  continues_join {c = c} {f = f} {z = z} {p = p} {q = q} h k = record {
    on = λ seen s. subst (λ l. Holds given c f side l z) (append_assoc seen p q) (k.on (seen ++ p) (h.on seen s));
  }

  pub continues_paths : {a b : Interfaces} {d e : List TypeDef} {x y z : List WorldEntry} {p : List Stated} → Continues given side a b d e x y p
      → AddsPaths given b side y z → Continues given side a b d e x z p
  continues_paths h k = record { on = λ seen s. holds_paths k (h.on seen s) }

pub ruleset sides = (inline_none, inline_join, in_text, given_on, paths_none, paths_join, continues_none, continues_join, continues_paths)
