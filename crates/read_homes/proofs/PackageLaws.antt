-- Packages that each stand once, and what stands of places where there are more of them.
use Rattle.std.proofs.Common.{rules as std_rules, ◌≡◌, refl, sym, ap, ◌∙◌, subst, ℕ, zero, suc, Bool, true, false, ◌&&◌, ◌||◌, cond, List, [], ◌∷◌, ◌++◌, map, append_assoc, Option, Some, option_map, slice_get, OnOk, OnErr, Result}
use Rattle.std.proofs.lemmas.{List.map-append, Bool.or_right as either_true, Option.slice_get_within as found_below}
use Rattle.std.specs.{Borrow.Bor, List.AllZip, List.list_any, Option.option_eq}
use Rattle.std.specs.declared.alloc.AllocError.{AllocError}
use Rattle.wit_model.specs.{Text.Text, Text.text_eq, Names.PackageIdentity}
use Rattle.comp_bytes.specs.RawOf.{text_of}
use Rattle.read_homes.specs.declared.packages.PackageTexts.{PackageTexts}
use Rattle.read_homes.specs.Homes.{identity_of, AreApart, ArePackages, Grows, IsHomeOf, IsRead, Joins, stays, comes, KeepsHomes}
use Rattle.base_lemmas.proofs.{Lists.last_or, Lists.none_there as nothing_at, Lists.slice_front}
use Rattle.read_homes.specs.contracts.packages.PackageTextsPartialEq.TheImpl as texts_eq

-- ---- equal texts

abbrev pub same_texts : PackageTexts → PackageTexts → Bool
same_texts = texts_eq.ghosts.eq

same_by : (a b : PackageTexts) → same_texts a b ≡ (text_eq a.namespace.now b.namespace.now && (text_eq a.name.now b.name.now && option_eq (λ x y. text_eq x.now y.now) a.version b.version))
same_by a b = refl

versions_same : (a b : Option (Bor (List ℕ))) → option_eq (λ x y. text_eq x.now y.now) a b ≡ true → option_map text_of a ≡ option_map text_of b
versions_same z u e = search std_rules

pub texts_same : (a b : PackageTexts) → same_texts a b ≡ true → identity_of a ≡ identity_of b
texts_same a b e = search std_rules

pub texts_again : (a b : PackageTexts) → identity_of a ≡ identity_of b → same_texts a b ≡ true
texts_again a b e = search std_rules

-- ---- one package more

seen : (ks : List PackageTexts) (k : PackageTexts) (n : ℕ) → slice_get (map identity_of ks) n ≡ Some (identity_of k) → list_any (same_texts k) ks ≡ true
seen [] k n e = absurd cc
seen (x ∷ ks) k zero e = let same : identity_of k ≡ identity_of x = cc in ap (λ b. b || list_any (same_texts k) ks) (texts_again k x same)
seen (x ∷ ks) k (suc n) e = either_true (same_texts k x) (list_any (same_texts k) ks) (seen ks k n e)

-- what is put where it isn't equal to any
pub joins : (ks new : List PackageTexts) (k : PackageTexts) (b : Bool) → list_any (same_texts k) ks ≡ b → new ≡ cond b ks (ks ++ k ∷ [])
    → Joins (map identity_of ks) (identity_of k) (map identity_of new)
joins ks new k true is e = subst (λ xs. Joins (map identity_of ks) (identity_of k) xs) (sym (ap (map identity_of) e)) stays
joins ks new k false is e = subst (λ xs. Joins (map identity_of ks) (identity_of k) xs) (sym (ap (map identity_of) e ∙ map-append identity_of ks (k ∷ [])))
    (comes (λ n found. absurd (differs n found)))
  where
    differs : (n : ℕ) → slice_get (map identity_of ks) n ≡ Some (identity_of k) → ⊥
    differs n found = let is_there = seen ks k n found in cc

module _ (old : List PackageIdentity) (x : PackageIdentity) (packages : ArePackages old) where
  apart_more : ((n : ℕ) → slice_get old n ≡ Some x → ⊥) → AreApart (old ++ x ∷ [])
  apart_more fresh n m y en em = search (std_rules, last_or)

  pub joined_packages : IsRead x → (new : List PackageIdentity) → Joins old x new → ArePackages new
  joined_packages read new stays = packages
  joined_packages read new (comes fresh) = search (std_rules, apart_more, last_or)

pub no_packages : ArePackages []
no_packages = record { apart = λ m n x em en. absurd (nothing_at m x em); read = λ n x e. absurd (nothing_at n x e) }

-- ---- what stands where there are more

pub grows_on : (a b c : List PackageIdentity) → Grows a b → Grows b c → Grows a c
grows_on a b c x y = record { more = x.more ++ y.more; is = y.is ∙ (ap (λ l. l ++ y.more) x.is ∙ append_assoc a x.more y.more) }

module _ (old new : List PackageIdentity) (grows : Grows old new) where
  pub stands_on : (n : ℕ) (x : PackageIdentity) → slice_get old n ≡ Some x → slice_get new n ≡ Some x
  stands_on n x e = ap (λ ps. slice_get ps n) grows.is ∙ (slice_front old grows.more n (found_below old n x e) ∙ e)

  pub home_on : (path : Option Text) (home : Option (ℕ × Text)) → IsHomeOf old path home → IsHomeOf new path home
  home_on x home h = search (std_rules, stands_on)

  pub homes_on : (paths : List (Option Text)) (homes : List (Option (ℕ × Text))) → AllZip (IsHomeOf old) paths homes → AllZip (IsHomeOf new) paths homes
  homes_on [] [] h = h
  homes_on [] (x ∷ homes) h = h
  homes_on (p ∷ paths) [] h = h
  homes_on (p ∷ paths) (x ∷ homes) h = (home_on p x h.0, homes_on paths homes h.1)

  pub keeps_homes : ArePackages new → KeepsHomes old new
  keeps_homes packages t homes stand = record {
    homes = λ p path e. let at = stand.homes p path e in record {
      package_ = at.package_;
      name = at.name;
      identity = at.identity;
      home = at.home;
      stands = stands_on at.package_ at.identity at.stands;
      reads = at.reads;
    };
    apart = packages.apart;
  }

-- what was put among the packages, or left them as they were
pub put_grows : (r : Result ℕ AllocError) (old new : List PackageTexts) (x : PackageIdentity) → OnOk r (Joins (map identity_of old) x (map identity_of new)) → OnErr r (new ≡ old)
    → Grows (map identity_of old) (map identity_of new)
put_grows y old new x joined kept = search std_rules
