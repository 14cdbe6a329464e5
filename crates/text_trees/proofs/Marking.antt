-- Loops over attributes.
use Rattle.std.proofs.Common.{◌≡◌, refl, ap, sym, ◌∙◌, subst, ℕ, ◌+◌, ◌≤◌, ◌<◌, length, zero, suc, Bool, true, false, if◌then◌else◌, arith}
use Rattle.print_grammar.specs.Token.{Mark.At}
use Rattle.text_trees.specs.Grammar.{Marks, no_marks}
use Rattle.text_trees.specs.declared.front.Tokens.{Tokens}
use Rattle.text_trees.specs.declared.refusal.Refusal.{Refusal}
use Rattle.text_trees.specs.Reading.{Reading.Found, then_read, begins, behind}
use Rattle.text_trees.specs.ReadDeclared.{mark_behind, marks_from, marks_in_front}
use Rattle.text_trees.specs.Seen.{RefusesAs, ahead, count_of}
use Rattle.text_trees.proofs.Ahead.{behind_ahead, length_ahead}
use Rattle.text_trees.proofs.Going.{then-refuses}

-- What a loop over attributes keeps: what is read in all is what is read from here on, with what those so far say.
pub record Marking (them : Tokens) (ids : Bool) (from at : ℕ) (marks : Marks) : Type 0 where
  pub fuel : ℕ
  pub same : marks_in_front ids (ahead them from) ≡ marks_from ids (suc fuel) marks (ahead them at)
  pub enough : count_of them ≤ at + fuel
  pub within : at ≤ count_of them
  pub passed : from ≤ at

pub marking_begins : (them : Tokens) (ids : Bool) (from : ℕ) → from ≤ count_of them → Marking them ids from from no_marks
unfolding marks_in_front
marking_begins them ids from h = record {
  fuel = length (ahead them from);
  same = refl;
  enough = let e = length_ahead them from in omega (arith, e, h);
  within = h;
  passed = omega arith;
}

-- what is read where an attribute begins
goes_on : (them : Tokens) (ids : Bool) (fuel at : ℕ) (marks : Marks) → begins At (ahead them at) ≡ true
    → marks_from ids (suc fuel) marks (ahead them at) ≡ then_read (mark_behind ids marks (ahead them (at + 1))) (marks_from ids fuel)
unfolding marks_from
goes_on them ids fuel at marks b =
    ap (λ b. if b then then_read (mark_behind ids marks (behind (ahead them at))) (marks_from ids fuel) else Found marks (ahead them at)) b
    ∙ ap (λ ts. then_read (mark_behind ids marks ts) (marks_from ids fuel)) (behind_ahead them at)

pub marking_goes_on : (them : Tokens) (ids : Bool) (from at end : ℕ) (marks more : Marks) → Marking them ids from at marks → begins At (ahead them at) ≡ true
    → mark_behind ids marks (ahead them (at + 1)) ≡ Found more (ahead them end) → at + 1 < end → end ≤ count_of them → Marking them ids from end more
unfolding then_read
marking_goes_on them ids from at end marks more l b e p r = go l.fuel refl
  where
    go : (n : ℕ) → l.fuel ≡ n → Marking them ids from end more
    go zero h = let k = l.enough in absurd (omega (arith, h, k, p, r))
    go (suc n) h = record {
      fuel = n;
      same =
          l.same ∙ (ap (λ k. marks_from ids (suc k) marks (ahead them at)) h
          ∙ (goes_on them ids (suc n) at marks b ∙ ap (λ x. then_read x (marks_from ids (suc n))) e));
      enough = let k = l.enough in omega (arith, h, k, p, r);
      within = r;
      passed = let k = l.passed in omega (arith, k, p);
    }

pub marking_ends : (them : Tokens) (ids : Bool) (from at : ℕ) (marks : Marks) → Marking them ids from at marks → begins At (ahead them at) ≡ false
    → marks_in_front ids (ahead them from) ≡ Found marks (ahead them at)
unfolding marks_from
marking_ends them ids from at marks l b =
    l.same ∙ ap (λ b. if b then then_read (mark_behind ids marks (behind (ahead them at))) (marks_from ids l.fuel) else Found marks (ahead them at)) b

pub marking_refuses : (them : Tokens) (ids : Bool) (from at : ℕ) (marks : Marks) → Marking them ids from at marks → begins At (ahead them at) ≡ true → (e : Refusal)
    → RefusesAs them e (mark_behind ids marks (ahead them (at + 1))) → RefusesAs them e (marks_in_front ids (ahead them from))
marking_refuses them ids from at marks l b e h =
    subst (RefusesAs them e) (sym (l.same ∙ goes_on them ids l.fuel at marks b))
    (then-refuses them (mark_behind ids marks (ahead them (at + 1))) (marks_from ids l.fuel) e h)
