use Rattle.std.proofs.Common.{◌≡◌, ◌∙◌, sym}
use Rattle.read_follow.specs.declared.scopes.Seen.{Seen}
use Rattle.comp_meaning.specs.Follow.{see_function}
use Rattle.read_follow.specs.{ExternNames.raw_name, Scopes.direction, Scopes.world_of, Scopes.Goes}
use Rattle.read_follow.proofs.SeeLaws.{added_exports, added_imports, function_goes, function_stops, on_both}
use Rattle.read_follow.proofs.ScopeLaws.{world_with}
use Rattle.read_follow.specs.declared.scopes.Shown.TheVariants as shown
use Rattle.read_follow.proofs.seeing.see_function.Goals as goal

pub returns-then-is_simple-clause-seen : goal.returns-then-is_simple-clause-seen
returns-then-is_simple-clause-seen c = λ shapes fs paths st.
    let e = c.deref.ensures.value in
    let old = world_of shapes fs paths c.args.scope.now in
    let new = world_of shapes fs paths c.push_seen.new.scope in
    let s : Seen = record { shown = shown.Function c.args.name.text c.in-Ok.function; external_id = c.args.name.external_id } in
    let p = c.push_seen.ensures in
    on_both (c.push_seen.new.scope.imports.items ≡ added_imports c.args.is_import old.imports s) (c.push_seen.new.scope.exports.items ≡ added_exports c.args.is_import old.exports s)
    (Goes 1 (see_function (direction c.args.is_import) (raw_name c.args.name) c.args.n) old new) c.push_seen.result p.imports p.exports
    (λ im ex. function_goes old st c.args.is_import c.args.name c.args.n c.in-Ok.function (rw e at c.in-Ok.ensures.at) (rw e at c.in-Ok.ensures.found) (sym c.is_simple.ensures ∙ c.if-is_simple.true)
    new (λ i. world_with (p.home i) shapes fs paths ((p.slots i).items) ((p.instances i).items) (im i) (ex i) ((p.used i).keys)))

pub returns-in-Err-clause-absent : goal.returns-in-Err-clause-absent
returns-in-Err-clause-absent c = λ shapes fs paths st.
    let e = c.deref.ensures.value in
    function_stops (world_of shapes fs paths c.args.scope.now) st c.args.is_import c.args.name c.args.n paths c.in-Err.refusal (rw e at c.in-Err.ensures.found)
