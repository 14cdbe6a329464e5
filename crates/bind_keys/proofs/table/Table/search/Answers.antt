use Rattle.std.proofs.Common.{rules, ◌≡◌, true, false, sym, ap, subst, ◌∙◌, cond, map, Some}
use Rattle.std.proofs.lemmas.Map.Iter.{rest_more}
use Rattle.std.specs.Map.Iter.{deref_pair}
use Rattle.wit_model.specs.Text.{text_of}
use Rattle.bind_keys.specs.{Cuts.has_slash, Keys.function_key, KeyTests.is_key_of, Encodings.encoding_under}
use Rattle.bind_keys.specs.Tables.{IsTable, KeyEntries, TableValue, whole, whole_entries}
use Rattle.bind_keys.proofs.{Kept.among, Kept.kept_among}
use Rattle.bind_keys.proofs.table.Table.search.Goals as goal

pub loop-own-init : goal.loop-own-init
loop-own-init c =
    let r = c.args.resolve.now in
    let es = c.self.inside.encodings.entries in
    let key = function_key r c.args.key.now c.args.func.now in
    let all : c.into_iter-own-iterator.result ≡ es = search rules in
    subst (λ (xs : KeyEntries). IsTable c.args.self.now.fronts xs × (encoding_under c.args.self.now.encodings key ≡ among r c.args.key.now c.args.func.now (whole_entries c.args.self.now.fronts xs)))
    (sym all) (subst (λ (t : TableValue). IsTable t.fronts es × (encoding_under t.encodings key ≡ among r c.args.key.now c.args.func.now (whole_entries t.fronts es))) c.self.view_is
    (c.self.invariant, kept_among r c.args.key.now c.args.func.now (whole_entries (map text_of c.self.inside.fronts.keys) es)))

pub is_function_key-requires : goal.is_function_key-requires
is_function_key-requires c =
    let next = rest_more deref_pair c.loop-own.own-iterator c.next.new.self c.next.result (c.in-Some.own, c.in-Some.encoding) c.in-Some.is c.next.ensures.steps in
    let all = subst (λ (xs : KeyEntries). IsTable c.args.self.now.fronts xs) next c.loop-own.invariant.0 in
    record { bare = ap has_slash c.parts.ensures.name ∙ all.0.0 }

pub returns-then-is_function_key : goal.returns-then-is_function_key
returns-then-is_function_key c =
    let r = c.args.resolve.now in
    let fs = c.args.self.now.fronts in
    let look = among r c.args.key.now c.args.func.now in
    let next = rest_more deref_pair c.loop-own.own-iterator c.next.new.self c.next.result (c.in-Some.own, c.in-Some.encoding) c.in-Some.is c.next.ensures.steps in
    let test : is_key_of r c.args.key.now c.args.func.now (whole fs c.in-Some.own.now) ≡ true =
    ap (is_key_of r c.args.key.now c.args.func.now) (sym c.parts.ensures.whole) ∙ (sym c.is_function_key.ensures ∙ c.if-is_function_key.true) in
    sym (c.loop-own.invariant.1 ∙ (ap (λ xs. look (whole_entries fs xs)) next ∙ ap (λ b. cond b (Some c.in-Some.encoding.now) (look (whole_entries fs c.next.new.self))) test))

pub loop-own-preserved : goal.loop-own-preserved
loop-own-preserved c =
    let r = c.args.resolve.now in
    let fs = c.args.self.now.fronts in
    let look = among r c.args.key.now c.args.func.now in
    let next = rest_more deref_pair c.loop-own.own-iterator c.next.new.self c.next.result (c.in-Some.own, c.in-Some.encoding) c.in-Some.is c.next.ensures.steps in
    let all = subst (λ (xs : KeyEntries). IsTable fs xs) next c.loop-own.invariant.0 in
    let test : is_key_of r c.args.key.now c.args.func.now (whole fs c.in-Some.own.now) ≡ false =
    ap (is_key_of r c.args.key.now c.args.func.now) (sym c.parts.ensures.whole) ∙ (sym c.is_function_key.ensures ∙ c.if-is_function_key.false) in (
      all.1,
      c.loop-own.invariant.1 ∙ (ap (λ xs. look (whole_entries fs xs)) next ∙ ap (λ b. cond b (Some c.in-Some.encoding.now) (look (whole_entries fs c.next.new.self))) test),
    )
