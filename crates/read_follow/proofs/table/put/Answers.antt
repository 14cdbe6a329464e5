use Rattle.std.proofs.Common.{◌≡◌, ◌∙◌, ap, sym, subst, refl, false, List, [], ◌∷◌, ◌++◌, map, Some}
use Rattle.std.proofs.lemmas.Bool.{not-true}
use Rattle.std.specs.List.{list_any}
use Rattle.read_follow.specs.declared.facts.Fact.{Fact}
use Rattle.read_follow.specs.{Facts.IsKept, KeyShapes.shape_of}
use Rattle.plan_meaning.specs.Shapes.{Shape}
use Rattle.read_follow.proofs.{AddLaws.adds, AddLaws.fresh_key, AddLaws.grown, KeyLaws.same_key, KeyLaws.key_same, KeyLaws.key_again, TableGrowth.kept_more}
use Rattle.base_lemmas.proofs.Lists.{mapped_get}
use Rattle.read_follow.proofs.table.put.Goals as goal

pub returns-then-not-is_new-clause-found : goal.returns-then-not-is_new-clause-found
returns-then-not-is_new-clause-found c =
    let s = c.in_ok-number.ensures.stored in
    mapped_get shape_of c.insert_full.new.self.keys c.in_ok-number.number s.0 s.1 ∙ ap Some (sym (key_same c.args.key s.0 s.2))

pub returns-then-not-is_new-clause-adds : goal.returns-then-not-is_new-clause-adds
returns-then-not-is_new-clause-adds c = adds same_key key_again c.args.keys.now.keys c.insert_full.new.self.keys c.args.key _ refl c.in_ok-number.ensures.keys

pub returns-clause-found : goal.returns-clause-found
returns-clause-found c =
    let s = c.in_ok-number.ensures.stored in
    mapped_get shape_of c.insert_full.new.self.keys c.in_ok-number.number s.0 s.1 ∙ ap Some (sym (key_same c.args.key s.0 s.2))

pub returns-clause-adds : goal.returns-clause-adds
returns-clause-adds c = adds same_key key_again c.args.keys.now.keys c.insert_full.new.self.keys c.args.key _ refl c.in_ok-number.ensures.keys

pub returns-clause-kept : goal.returns-clause-kept
returns-clause-kept c =
    let ks = c.args.keys.now.keys in
    let absent : list_any (same_key c.args.key) ks ≡ false = not-true (list_any (same_key c.args.key) ks) (sym c.in_ok-number.ensures.added ∙ c.if-not-is_new.false) in
    subst (λ (ss : List Shape). IsKept ss c.push_reserved.new.self.items) (sym (grown same_key key_again ks c.insert_full.new.self.keys c.args.key absent c.in_ok-number.ensures.keys))
    (subst (λ (fs : List Fact). IsKept (map shape_of ks ++ shape_of c.args.key ∷ []) fs) (sym (c.push_reserved.ensures.items ∙ ap (λ (fs : List Fact). fs ++ c.args.fact ∷ []) c.reserve.ensures.items))
    (kept_more (map shape_of ks) c.args.facts.now.items (shape_of c.args.key) c.args.fact c.requires.kept c.requires.shape (fresh_key same_key key_again ks c.args.key absent) c.requires.tells))
