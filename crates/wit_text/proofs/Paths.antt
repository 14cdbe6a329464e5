-- What paths, names and members mean in a `Resolve` that has what texts declare. Serves read.
use Rattle.std.proofs.Common.{◌≡◌, ◌∙◌, refl, sym, ap, subst, ℕ, Bool, true, false, true≢false, cond, nat_eq, List, [], ◌∷◌, Option, Some, option_and_then, unwrap_or, Contains, slice_get, length, filter, ◌⊎◌, inl, inr, String, Global, le_refl, ◌<◌, arith}
use Rattle.std.specs.List.{AllZip}
use Rattle.std.specs.Map.{lookup}
use Rattle.std.proofs.lemmas.Bool.{eq-eqb, eqb-true}
use Rattle.std.proofs.lemmas.List.{take_all}
use Rattle.std.proofs.lemmas.List.Elements.{Contains-append_cases}
use Rattle.base_lemmas.proofs.Lists.{get_back}
use Rattle.base_lemmas.proofs.Elements.{filter_keeps, get-contains, last_of, none_in, zip_at_right}
use Rattle.wit_model.specs.{Parts.same_owner, Text.Text, Text.text_eq, Text.text_of}
use Rattle.wit_model.specs.declared.model.TypeOwner.TheVariants as owner
use Rattle.wit_model.proofs.TextLemmas.{text_alike, text_same}
use Rattle.wit_model.specs.declared.model.{InterfaceId.InterfaceId, Package.Package, Resolve.Resolve, TypeId.TypeId}
use Rattle.print_grammar.specs.Tree.{MemberTree, PackageHead, PathTree}
use Rattle.print_items.specs.Shown.{shown_head}
use Rattle.text_names.specs.declared.sources.{InterfaceSource.InterfaceSource, Sources.Sources}
use Rattle.text_names.specs.Contents.{Item}
use Rattle.text_names.specs.Tables.{interface_key, IsIndex, IsInterface, IsNumberOf}
use Rattle.text_types.specs.Each.{EachIs}
use Rattle.text_types.specs.Targets.{IsKeyed, MeansInterface, TargetIn}
use Rattle.text_types.proofs.{Growth.begins_none, MadeLaws.members_carried}
use Rattle.text_shown.specs.{Means.HasInterface, Means.IsUsed, Means.PathIs, Means.TargetIs, ShowsWorlds.IsInline, ShowsWorlds.Stated, ShowsWorlds.StatedIs}
use Rattle.wit_text.specs.{Items.WorldEntry, Listed.is_of, Listed.IsListed, MadeInterfaces.InlineIn, MadeInterfaces.UsedIn, MadeWorlds.PathIn, MadeWorlds.StatedIn}
use Rattle.wit_text.specs.Puts.{number_at}
use Rattle.wit_text.specs.SoFar.{IsResolveOf}
use Rattle.wit_text.proofs.{ExternLaws.extern_carried, Listing.same_interface}

-- the number that an interface has
pub number_made : (numbers : List (Option ℕ)) (n made : ℕ) → slice_get numbers n ≡ Some (Some made) → number_at numbers n ≡ made
number_made numbers n made e = ap (λ o. unwrap_or (option_and_then (λ x. x) o) 0) e

-- an interface isn't one that was made before
apart_below : {number made : ℕ} → made < number → same_owner (owner.Interface (record { 0 = number })) (owner.Interface (record { 0 = made })) ≡ false
apart_below {number = number} {made = made} low = go (nat_eq number made) refl
  where
    go : (b : Bool) → nat_eq number made ≡ b → b ≡ false
    go false h = refl
    go true h = let same : number ≡ made = eqb-true number made h in absurd (omega arith)

-- ---- names in a package

module _ (s : Sources) (index : IsIndex s) (numbers : List (Option ℕ)) (home count : ℕ) (name : Text) (n : ℕ) (source : InterfaceSource)
    (there : slice_get s.interfaces.items n ≡ Some source) (key : interface_key s.texts.now source ≡ (home, name)) (made : ℕ)
    (number : slice_get numbers n ≡ Some (Some made)) where
  its_id : (e : String Global × InterfaceId) (x : InterfaceSource) → IsListed s numbers home count x e → text_eq name (text_of e.0) ≡ true
      → e.1 ≡ record { 0 = made }
  its_id e x k passes =
      let same_name : name ≡ text_of e.0 = text_same name (text_of e.0) passes in
      let home_is = k.home_is in
      let its_name = k.name in
      let keys : interface_key s.texts.now x ≡ interface_key s.texts.now source = cc in
      let own : k.own ≡ n = same_interface s index k.own n x source k.there there keys in
      let is : e.1.0 ≡ made = k.number ∙ (ap (number_at numbers) own ∙ number_made numbers n made number) in
      let f : ℕ → InterfaceId = λ m. record { 0 = m } in
      ap f is

  its_name : (e : String Global × InterfaceId) → IsListed s numbers home count source e → text_eq name (text_of e.0) ≡ true
  its_name e k =
      let same : name ≡ text_of e.0 = sym (ap (λ (q : ℕ × Text). q.1) key) ∙ sym k.name in
      subst (λ t. text_eq name t ≡ true) same (text_alike name)

  pub found_name : {zs : List InterfaceSource} {es : List (String Global × InterfaceId)} → EachIs (IsListed s numbers home count) zs es → Contains zs source
      → lookup (λ (k : String Global). text_eq name (text_of k)) es ≡ Some (record { 0 = made })
  found_name EachIs.no_more has = absurd (none_in source has)
  found_name (EachIs.one_more {x = x} {y = e} {xs = zs} {ys = es} k ks) has = by (text_eq name (text_of e.0)) refl (λ h. found_name ks h)
    where
      by : (b : Bool) → text_eq name (text_of e.0) ≡ b
          → (Contains zs source → lookup (λ (k : String Global). text_eq name (text_of k)) es ≡ Some (record { 0 = made }))
          → cond b (Some e.1) (lookup (λ (k : String Global). text_eq name (text_of k)) es) ≡ Some (record { 0 = made })
      by true h rest = ap Some (its_id e x k h)
      by false h rest = go (Contains-append_cases (x ∷ []) zs source has)
        where
          go : Contains (x ∷ []) source ⊎ Contains zs source → lookup (λ (k : String Global). text_eq name (text_of k)) es ≡ Some (record { 0 = made })
          go (inl c) =
              let its : text_eq name (text_of e.0) ≡ true = its_name e (subst (λ y. IsListed s numbers home count y e) (last_of x source c) k) in
              absurd (true≢false (sym its ∙ h))
          go (inr c) = rest c

-- ---- a `Resolve` that has what texts declare

module _ (s : Sources) (index : IsIndex s) (items : List Item) (declared : AllZip (IsInterface s) items s.interfaces.items) (r : Resolve)
    (k : IsResolveOf s r) where
  pub package_at : (n : ℕ) (head : PackageHead) → IsNumberOf s head n → (p : Package) × (slice_get r.packages.items n ≡ Some p) × (shown_head p ≡ head)
  package_at n head is = get_back shown_head r.packages.items n head (ap (λ hs. slice_get hs n) k.packages.heads ∙ is)

  has_interface : (home : ℕ) (name : Text) (n made : ℕ) (p : Package) → slice_get r.packages.items home ≡ Some p → IsKeyed s home name n
      → slice_get k.interfaces.numbers.items n ≡ Some (Some made) → HasInterface r home name (record { 0 = made })
  has_interface home name n made p there keyed number =
      let source = keyed.interface in
      let named = keyed.named in
      let home_is : source.«package» ≡ home = ap (λ (q : ℕ × Text). q.0) named in
      let is_its : is_of home source ≡ true = subst (λ h. nat_eq source.«package» h ≡ true) home_is (eq-eqb source.«package» source.«package» refl) in
      let listed : EachIs (IsListed s k.interfaces.numbers.items home (length s.interfaces.items)) (filter (is_of home) s.interfaces.items)
      p.interfaces.entries =
      subst (λ xs. EachIs (IsListed s k.interfaces.numbers.items home (length s.interfaces.items)) (filter (is_of home) xs) p.interfaces.entries)
      (take_all (length s.interfaces.items) s.interfaces.items (le_refl (length s.interfaces.items))) (k.packages.interfaces home p there) in
      record {
        home = p;
        there = there;
        has =
            found_name s index k.interfaces.numbers.items home (length s.interfaces.items) name n source keyed.stands named made number listed
            (filter_keeps (is_of home) s.interfaces.items source (get-contains s.interfaces.items n source keyed.stands) is_its);
      }

  -- the package of an interface is there
  its_package : (home : ℕ) (name : Text) (n : ℕ) → IsKeyed s home name n → (p : Package) × (slice_get r.packages.items home ≡ Some p)
  its_package home name n keyed =
      let home_is : keyed.interface.«package» ≡ home = ap (λ (q : ℕ × Text). q.0) keyed.named in
      let item = zip_at_right (IsInterface s) items s.interfaces.items declared n keyed.interface keyed.stands in
      let p = package_at keyed.interface.«package» item.0.home item.2.home in
      (p.0, ap (slice_get r.packages.items) (sym home_is) ∙ p.1)

  path_shown : (home : ℕ) {path : PathTree} {n : ℕ} (made : ℕ) → MeansInterface s home path n → slice_get k.interfaces.numbers.items n ≡ Some (Some made)
      → PathIs r home path (record { 0 = made })
  path_shown home made (MeansInterface.own_package {name = name} {n = n} keyed) number =
      let p = its_package home name n keyed in
      PathIs.own_package (has_interface home name n made p.0 p.1 keyed number)
  path_shown home made (MeansInterface.other_package {home = other} {interface = name} {n = n} is keyed) number =
      let p = package_at other _ is in
      PathIs.other_package p.1 p.2 (has_interface other name n made p.0 p.1 keyed number)

  pub target_shown : (home : ℕ) (path : PathTree) (name : Text) (id : TypeId) → TargetIn s k.interfaces home path name id → TargetIs r home path name id
  target_shown home path name id t = record {
    number = record { 0 = t.has.made };
    means = path_shown home t.has.made t.means t.has.is.number;
    interface = t.has.interface;
    there = ap (λ xs. slice_get xs t.has.made) (sym k.list) ∙ t.has.is.stands;
    has = t.has.has;
  }

  -- the interface of a use isn't the one that uses
  pub used_shown : (home number : ℕ) (path : PathTree) (name : Text) (id : TypeId) → UsedIn s k.interfaces home number path name id
      → IsUsed r home (owner.Interface (record { 0 = number })) path name id
  unfolding target_shown
  used_shown home number path name id u = record { is = target_shown home path name id u.is; apart = apart_below u.before }

  path_in_shown : (home : ℕ) (path : PathTree) (id : InterfaceId) → PathIn s k.interfaces home path id → PathIs r home path id
  path_in_shown home path id p = path_shown home id.0 p.means p.made

  inline_shown : (home : ℕ) (members : List MemberTree) (id : InterfaceId) → InlineIn s k.interfaces r.types.items home members id
      → IsInline r home members id
  inline_shown home members id i = record {
    interface = i.made;
    there = ap (λ xs. slice_get xs id.0) (sym k.list) ∙ i.there;
    unnamed = i.is.unnamed;
    home = i.is.home_is;
    gates = i.is.gates;
    docs = i.is.docs;
    has = members_carried (begins_none r.types.items) (target_shown home) i.is.has;
  }

  pub stated_shown : (home : ℕ) (one : Stated) (entry : WorldEntry) → StatedIn s k.interfaces r.types.items home one entry → StatedIs r home one entry
  stated_shown home one entry h = extern_carried (begins_none r.types.items) (path_in_shown home) (inline_shown home) h
