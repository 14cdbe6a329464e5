-- Why the data of a section is refused.
use Rattle.std.proofs.Common.{rules as std_rules, ◌≡◌, ◌∙◌, refl, sym, ap, ℕ, List, [], ◌∷◌, length, arith}
use Rattle.wit_model.specs.declared.error.Error.{Error}
use Rattle.wit_model.specs.declared.error.Error.TheVariants as errors
use Rattle.comp_read.specs.DecodedWorlds.{RefusesWorldBytes}
use Rattle.bind_sections.specs.SectionBindings.{RefusesSection}

-- what has no length is nothing, and what has a first byte is something

pub is-something : (bytes : List ℕ) (first : ℕ) (behind : List ℕ) → bytes ≡ first ∷ behind → bytes ≡ [] → ⊥
is-something bytes first behind begins none = let wrong = ap length (sym begins ∙ none) in omega (arith, wrong)

-- what begins with another byte than 3
pub other-begins : (bytes : List ℕ) (first : ℕ) (behind : List ℕ) → bytes ≡ first ∷ behind → (first ≡ 3 → ⊥) → (rest : List ℕ) → bytes ≡ 3 ∷ rest → ⊥
other-begins bytes first behind begins other rest is = search std_rules

-- what refuses bytes as one world refuses them as a section
pub unread-section : (bytes : List ℕ) (e : Error) → (bytes ≡ [] → ⊥) → ((rest : List ℕ) → bytes ≡ 3 ∷ rest → ⊥) → RefusesWorldBytes bytes e → RefusesSection bytes e
unread-section bytes (errors.NoReading cause offset) some other r = RefusesSection.unread some other cause offset refl r.0 r.1
unread-section bytes errors.Memory some other r = RefusesSection.memory refl
unread-section bytes _ some other r = absurd r
