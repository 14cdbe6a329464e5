-- Bytes that mean a package show an interface or a world.
use Rattle.std.proofs.Common.{rules as std_rules, ◌≡◌, ◌<◌, ◌^◌, ◌||◌, refl, sym, ap, subst, ◌∙◌, ℕ, true, List, [], ◌∷◌, length, Some, option_map, arith}
use Rattle.std.specs.List.{flat_map}
use Rattle.wit_model.specs.{Lookup.package_at, Meaning.PackageMeaning, Meant.package_meaning as meaning_of, Meant.Meant}
use Rattle.comp_bytes.specs.{Spelling.IsComponent, Spelling.preamble}
use Rattle.comp_bytes.proofs.{ComponentLaws.one_component}
use Rattle.comp_meaning.specs.{Follow.is_filled, Reads.interfaces_of, Reads.package_of_sections, Reads.worlds_of_member, Reads.Member, Reads.Reads}
use Rattle.wit_component.specs.ReadBack.{DecodedHaveMembers}
use Rattle.base_lemmas.proofs.{Options.some_is}
use Rattle.wit_model.proofs.RulesLemmas.{items_of_map as mapped}

-- ---- the preamble alone

no_sections : IsComponent [] preamble
no_sections = let short : length preamble < 2 ^ 32 = omega arith in ((preamble, [], refl, refl, refl), short)

pub preamble_means_nothing : (m : PackageMeaning) → Reads preamble m → ⊥
preamble_means_nothing m read =
    let means : package_of_sections [] ≡ Some m = ap package_of_sections (one_component preamble [] read.sections no_sections read.spelled) ∙ read.means in
    absurd (let z : ⊥ = cc in z)

-- ---- what is shown

-- a part is an interface or a world
shown : (m : Member) (ms : List Member) → (is_filled (flat_map interfaces_of (m ∷ ms)) || is_filled (flat_map worlds_of_member (m ∷ ms))) ≡ true
shown m ms = search std_rules

read_show : (bytes : List ℕ) (m : PackageMeaning) → Reads bytes m → (is_filled m.interfaces || is_filled m.worlds) ≡ true
read_show bytes m read = search std_rules

-- ---- the package that means it

pub have_members : DecodedHaveMembers
unfolding Meant
have_members bytes s k p decoded is =
    let meant : option_map (meaning_of s k) (package_at s k) ≡ Some decoded.meaning = (decoded.meant decoded.meaning).1 decoded.read in
    let same : meaning_of s k p ≡ decoded.meaning = some_is _ _ (sym (ap (option_map (meaning_of s k)) is) ∙ meant) in
    let shows : (is_filled (meaning_of s k p).interfaces || is_filled (meaning_of s k p).worlds) ≡ true
    = subst (λ (m : PackageMeaning). (is_filled m.interfaces || is_filled m.worlds) ≡ true) (sym same) (read_show bytes decoded.meaning decoded.read) in
    ap (λ b. b || is_filled p.worlds.entries) (sym (mapped _ p.interfaces.entries)) ∙ ap (λ b. is_filled (meaning_of s k p).interfaces || b) (sym (mapped _ p.worlds.entries)) ∙ shows
