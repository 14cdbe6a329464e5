use Rattle.std.proofs.{Common.length, Common.[], Common.◌∷◌, Common.sym, lemmas.List.map-append}
use Rattle.std.proofs.lemmas.Iterator.{Splits.YieldsList-from_lines, Consumers.YieldsList-turn, Consumers.YieldsList-end, Consumers.YieldsList-so_far}
use Rattle.print_items.proofs.{DocLines.line_one_line, DocLines.lines_driven, Driven.driven_on, Driven.map_cut}
use Rattle.print_output.specs.OutputCall.OutputCall.{Doc}
use Rattle.std.specs.Str.Lines.{lines}
use Rattle.print_items.proofs.prefix.write_lines.Goals as goal

pub doc-requires : goal.doc-requires
doc-requires g c =
    let t = YieldsList-turn (YieldsList-from_lines c.args.contents.now cc) c.loop-line.yielded _ c.loop-line.yielded_by _ _ c.in-Some.line c.in-Some.is c.next.ensures.steps in
    line_one_line c.args.contents.now (length c.loop-line.yielded) c.in-Some.line.now t.0 t.1

pub loop-line-preserved : goal.loop-line-preserved
loop-line-preserved g c = record { calls = driven_on c.loop-line.invariant.calls c.doc.ensures.calls (sym (map-append (λ line. Doc line.now) c.loop-line.yielded (c.in-Some.line ∷ []))) }

pub returns : goal.returns
returns g c =
    let t = YieldsList-end (YieldsList-from_lines c.args.contents.now cc) c.loop-line.yielded _ c.loop-line.yielded_by _ _ c.in-None.is c.next.ensures.steps in
    record { calls = lines_driven _ _ c.loop-line.invariant.calls t.0 }

pub returns-then-driver : goal.returns-then-driver
returns-then-driver g c =
    let so_far = YieldsList-so_far (YieldsList-from_lines c.args.contents.now cc) c.loop-line.yielded _ c.loop-line.yielded_by in
    record { calls = map_cut Doc (lines c.args.contents.now) (length c.loop-line.yielded) (lines_driven _ _ c.loop-line.invariant.calls so_far) c.if-driver.true }
