-- Where nothing clashes, what is matched has one path and one sense.
use Rattle.std.proofs.Common.{rules as std_rules, ◌≡◌, refl, sym, ap, ◌∙◌, ℕ, length, Bool, true, false, List, map, unwrap_or, Option, Some, None, is_none, option_and_then, option_map, slice_get, String}
use mathlib.Core.Bool.{true≢false}
use Rattle.std.specs.{Prelude.is_some, Option.option_map_or, FinMap.get, HashMap.get_by_text}
use Rattle.std.specs.declared.alloc.Global.{Global}
use Rattle.std.proofs.lemmas.{List.length-map, Option.same_Some as same-some}
use Rattle.wit_model.specs.declared.model.{Interface.Interface, InterfaceId.InterfaceId, Package.Package, PackageId.PackageId, World.World, WorldKey.WorldKey}
use Rattle.wit_model.specs.declared.model.Resolve.{Resolve}
use Rattle.wit_model.specs.{Text.Text, Text.optional_text, Text.text_of, Meant.interface_meaning, Meant.interface_meaning_at, Meant.no_interface, Meaning.interface_sense, Rules.same_package_name}
use Rattle.wit_model.specs.Lookup.{identity_of, interface_at, interface_path, package_at, path_of_interface}
use Rattle.wit_model.proofs.NameLaws.{one_path}
use Rattle.wit_model.proofs.{OnePath.has-path, OnePath.named-path, OnePath.package-name, OnePath.package-once, OnePath.path-label, VersionLaws.same_name}
use Rattle.bind_match.specs.declared.matches.Matches.{Matches}
use Rattle.bind_match.specs.Matching.{given, home_in, interface_in, own_interface_of, own_package_of}
use Rattle.bind_meaning.specs.Clash.{Agree, CanUnite}
use Rattle.bind_meaning.proofs.{Listed.given as unpacked, WorldBindings.interface-found}
use Rattle.bind_clash.specs.Faults.{IsMatched}
use Rattle.bind_clash.proofs.PathsMatched.{own-interface-has, own-interface-there}
use Rattle.bind_copy.specs.Copies.{number_under}
use Rattle.bind_carry.specs.{First.flag_under, Listed.given_interface, MatchedSame.AreMatchedAt, MatchedSame.NoneOfPath, Which.AreMatchedAll, Which.IsNumbered, Numbers.package_number, Renumbered.is_matched, TooLong.CarriedThings, Union.IsUnionOf}
use Rattle.bind_add.specs.declared.added.Added.{Added}
use Rattle.bind_carry.proofs.{FirstNumbers.uncopied_under, FirstOfUnion.found_number, FirstOfUnion.found_own}
use Rattle.wit_bind.specs.declared.bindgen.Bindgen.{Bindgen}
use Rattle.wit_bind.specs.{Bindings.binding_of, Bindings.IsBindgen, MergedLaws.MatchesHavePaths}
use Rattle.base_lemmas.proofs.{Lists.get_back as unmapped, Lists.mapped_get as mapped_at, Options.there as some-of}
use Rattle.wit_model.specs.Rules as rules

-- where both are known, they agree
pub agreed : {X S : Type 0} (sense : X → S) (o p : Option X) (x y : X) → Agree sense o p → o ≡ Some x → p ≡ Some y → sense x ≡ sense y
agreed sense z p x y h e f = search std_rules

-- what a map gives under a number comes of what stood there

given-there : {X : Type 0} (o : Option (Option X)) (x : X) (g : Option (Option X) → Option X) → ((z : Option X) → g (Some z) ≡ z) → g None ≡ None → g o ≡ Some x → o ≡ Some (Some x)
given-there y x g at none e = search std_rules

numbered-flag : (flags : List Bool) (ms : List (Option PackageId)) (n : ℕ) (id : PackageId) → flags ≡ map is_none ms → slice_get ms n ≡ Some (Some id) → flag_under flags n ≡ false
numbered-flag flags ms n id is at = ap (λ l. flag_under l n) is ∙ ap (λ (o : Option Bool). unwrap_or o false) (mapped_at is_none ms n (Some id) at)

-- the table has a place for each
pub all-matched : (own other : Resolve) (m : Matches) → IsMatched own other m → AreMatchedAll other m
all-matched own other m h = search (std_rules, length-map)

module _ (own other : Bindgen) (o : IsBindgen own) (t : IsBindgen other) (can : CanUnite (binding_of own) (binding_of other)) (m : Matches) (matched : IsMatched own.resolve other.resolve m) where
  abbrev r : Resolve
  r = own.resolve

  abbrev s : Resolve
  s = other.resolve

  -- an interface of the other that is matched, with its path
  record IsMet (n : ℕ) : Type 0 where
    id : InterfaceId
    at_id : slice_get m.interfaces.items n ≡ Some (Some id)
    old : Interface
    found : interface_at s n ≡ Some old
    name : String Global
    named_ : old.name ≡ Some name
    own_of : own_interface_of r m.packages.items old ≡ Some id
    path : Text
    path_is : interface_path s n ≡ Some path

  met : (n : ℕ) → is_matched m.interfaces.items n ≡ true → IsMet n
  met n h =
      let id = some-of (given_interface (slice_get m.interfaces.items n)) h in
      let at = given-there (slice_get m.interfaces.items n) id.0 given_interface (λ z. refl) refl id.1 in
      let i = unmapped (own_interface_of r m.packages.items) s.interfaces.items n (Some id.0) (ap (λ l. slice_get l n) (sym matched.interfaces) ∙ at) in
      let name = unpacked (λ (x : String Global). interface_in r m.packages.items i.0.«package» (text_of x)) i.0.name id.0 i.2 in
      let path = some-of (interface_path s n) (named-path s t.valid n (ap (λ (x : Option Interface). option_map_or (λ other. is_some other.name) x false) i.1 ∙ ap is_some name.1)) in
      record { id = id.0; at_id = at; old = i.0; found = i.1; name = name.0; named_ = name.1; own_of = i.2; path = path.0; path_is = path.1 }

  own-there : (n : ℕ) (x : IsMet n) → interface_path r x.id.0 ≡ Some x.path
  own-there n x = own-interface-has r s o.valid t.valid m.packages.items matched.packages n x.old x.found x.path (sym (ap (option_and_then (path_of_interface s)) x.found) ∙ x.path_is) x.id x.own_of

  pub matched-with : (c : CarriedThings) → IsNumbered r s m c → AreMatchedAt r s m.interfaces.items c.packages.items
  matched-with c u n h =
      let x = met n h in
      let here = has-path r x.id.0 x.path (own-there n x) in
      let there = has-path s n x.path x.path_is in
      let old : there.def ≡ x.old = same-some there.def x.old (sym there.there ∙ x.found) in
      let parts = one_path (identity_of here.package_.name) (identity_of there.package_.name) (text_of here.name) (text_of there.name)
      (package-name r o.valid here.home.0 here.package_ here.stands).identity (path-label r o.valid x.id.0 x.path here)
      (package-name s t.valid there.home.0 there.package_ there.stands).identity (path-label s t.valid n x.path there) (sym here.spelled ∙ there.spelled) in
      -- the own package in which it was looked for
      let name = unpacked (λ (y : String Global). interface_in r m.packages.items x.old.«package» (text_of y)) x.old.name x.id x.own_of in
      let g = unpacked (λ (y : PackageId). option_and_then (λ (p : Package). get_by_text p.interfaces (text_of name.0)) (package_at r y.0)) (home_in m.packages.items x.old.«package») x.id name.2 in
      let home : x.old.«package» ≡ Some there.home = ap (λ (y : Interface). y.«package») (sym old) ∙ there.in_package in
      let at = given-there (slice_get m.packages.items there.home.0) g.0 given (λ z. refl) refl (sym (ap (option_and_then (λ (y : PackageId). given (slice_get m.packages.items y.0))) home) ∙ g.1) in
      let p = unmapped (own_package_of r.packages.items) s.packages.items there.home.0 (Some g.0) (ap (λ l. slice_get l there.home.0) (sym matched.packages) ∙ at) in
      let one : p.0 ≡ there.package_ = same-some p.0 there.package_ (sym p.1 ∙ there.stands) in
      let found = found_own r.packages.items p.0 g.0 p.2 in
      let ours = package-name r o.valid here.home.0 here.package_ here.stands in
      let theirs = package-name s t.valid there.home.0 there.package_ there.stands in
      let again = package-name r o.valid g.0.0 found.there found.at_there in
      let named : same_package_name there.package_.name found.there.name ≡ true = ap (λ (y : Package). same_package_name y.name found.there.name) (sym one) ∙ found.same in
      let identities : identity_of there.package_.name ≡ identity_of found.there.name = (same_name there.package_.name found.there.name theirs.version again.version).0 named in
      let number : g.0.0 ≡ here.home.0
      = package-once r o.valid here.home.0 g.0.0 here.package_ found.there here.stands found.at_there
      ((same_name here.package_.name found.there.name ours.version again.version).1 (parts.0 ∙ identities)) in
      let under : number_under c.packages.items there.home.0 ≡ g.0.0 = ap (λ l. number_under l there.home.0) u.packages
      ∙ (uncopied_under (length r.packages.items) c.new_packages.items (map package_number m.packages.items) there.home.0
      (ap length u.new_packages ∙ (length-map m.packages.items is_none ∙ sym (length-map m.packages.items package_number)))
      (numbered-flag c.new_packages.items m.packages.items there.home.0 g.0 u.new_packages at) ∙ found_number m.packages.items there.home.0 g.0 at)
      in
      let meant : interface_meaning_at r x.id.0 ≡ interface_meaning r here.def = ap (λ (y : Option Interface). option_map_or (interface_meaning r) y no_interface) here.there in
      let other_meant : interface_meaning_at s n ≡ interface_meaning s x.old = ap (λ (y : Option Interface). option_map_or (interface_meaning s) y no_interface) x.found in
      record {
        id = x.id;
        given = ap given_interface x.at_id;
        old = x.old;
        found = x.found;
        image = here.def;
        at_image = here.there;
        has_path = ap is_some x.path_is;
        path = own-there n x ∙ sym x.path_is;
        name = ap optional_text here.named_ ∙ (ap Some parts.1 ∙ sym (ap optional_text (ap (λ (y : Interface). y.name) (sym old) ∙ there.named_)));
        in_package = ap rules.package_number here.in_package ∙ (ap Some (sym (under ∙ number)) ∙ sym
            (ap (λ (y : Option PackageId). option_map (number_under c.packages.items) (rules.package_number y)) home));
        sense = ap interface_sense (sym meant) ∙ (agreed interface_sense (get (binding_of own).interfaces x.path) (get (binding_of other).interfaces x.path) (interface_meaning_at r x.id.0)
            (interface_meaning_at s n) (can.interfaces x.path) (interface-found r o.valid x.id.0 x.path (own-there n x)) (interface-found s t.valid n x.path x.path_is)
            ∙ ap interface_sense other_meant);
      }

  pub matched-at : (world k : ℕ) (w v : World) (added : Added) (keys : List WorldKey) (u : IsUnionOf r s world k m w v added keys) → AreMatchedAt r s m.interfaces.items u.carried.packages.items
  matched-at world k w v added keys whole = matched-with whole.carried whole.numbered

  pub none-of-path : NoneOfPath r s m.interfaces.items
  none-of-path n k not has same =
      let path = some-of (interface_path s n) has in
      let i = unpacked (path_of_interface s) (interface_at s n) path.0 path.1 in
      let own_one = own-interface-there r s o.valid t.valid m.packages.items matched.packages n i.0 i.1 path.0 i.2 k (same ∙ path.1) in
      let at : slice_get m.interfaces.items n ≡ Some (Some own_one.0) =
      ap (λ l. slice_get l n) matched.interfaces ∙ (mapped_at (own_interface_of r m.packages.items) s.interfaces.items n i.0 i.1 ∙ ap Some own_one.1.0) in
      true≢false (sym (ap (λ (y : Option (Option InterfaceId)). is_some (given_interface y)) at) ∙ not)

pub matches_have_paths : MatchesHavePaths
matches_have_paths own other o t can m matched world k w v added keys u = search (std_rules, all-matched, matched-at, none-of-path)
