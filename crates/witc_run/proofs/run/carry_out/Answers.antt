use Rattle.std.proofs.Common.{ap, refl, subst, sym, Some}
use Rattle.std.specs.Prelude.{ℕ, Vec}
use Rattle.std.specs.declared.alloc.Global.{Global}
use Rattle.witc_run.specs.{Asks.asked_by, DemoShown.IsDemoDigits, DemoShown.IsDemoText, Runs.Ends, Runs.IsDone}
use Rattle.witc_run.specs.Words.{Asked, demo_text, demo_hex, print, module_text, strip}
use Rattle.witc_run.proofs.RunLaws.{names-end, text-ends}
use Rattle.base_lemmas.proofs.Options.{if_ok as if-ok}
use Rattle.witc_run.proofs.run.carry_out.Goals as goal

pub returns-in-DemoText : goal.returns-in-DemoText
returns-in-DemoText g c =
    let left = g.R.Read.remaining c.args.reader.now in
    let old = g.W.Write.contents c.args.writer.now in
    let new = g.W.Write.contents c.answer_text.new.writer in
    subst (λ (what : Asked). Ends (Some what) left left old new c.answer_text.result) (sym (ap asked_by c.in-DemoText.is))
    (text-ends left left old new demo_text c.demo_text.result c.answer_text.result
    (if-ok (λ (t : Vec ℕ Global). IsDemoText t.items) (λ (t : Vec ℕ Global). IsDone left left demo_text t.items) (λ t is. (refl, is)) c.demo_text.result c.demo_text.ensures) c.answer_text.ensures)

pub returns-in-DemoHex : goal.returns-in-DemoHex
returns-in-DemoHex g c =
    let left = g.R.Read.remaining c.args.reader.now in
    let old = g.W.Write.contents c.args.writer.now in
    let new = g.W.Write.contents c.answer_text-in-DemoHex.new.writer in
    subst (λ (what : Asked). Ends (Some what) left left old new c.answer_text-in-DemoHex.result) (sym (ap asked_by c.in-DemoHex.is))
    (text-ends left left old new demo_hex c.demo_hex.result c.answer_text-in-DemoHex.result
    (if-ok (λ (t : Vec ℕ Global). IsDemoDigits t.items) (λ (t : Vec ℕ Global). IsDone left left demo_hex t.items) (λ t is. (refl, is)) c.demo_hex.result c.demo_hex.ensures)
    c.answer_text-in-DemoHex.ensures)

pub returns-in-Print : goal.returns-in-Print
returns-in-Print g c =
    let left = g.R.Read.remaining c.args.reader.now in
    let rest = g.R.Read.remaining c.print_input.new.reader in
    let old = g.W.Write.contents c.args.writer.now in
    let new = g.W.Write.contents c.answer_text-in-Print.new.writer in
    subst (λ (what : Asked). Ends (Some what) left rest old new c.answer_text-in-Print.result) (sym (ap asked_by c.in-Print.is))
    (text-ends left rest old new print c.print_input.result c.answer_text-in-Print.result c.print_input.ensures.printed c.answer_text-in-Print.ensures)

pub returns-in-Module : goal.returns-in-Module
returns-in-Module g c =
    let left = g.R.Read.remaining c.args.reader.now in
    let rest = g.R.Read.remaining c.module_input.new.reader in
    let old = g.W.Write.contents c.args.writer.now in
    let new = g.W.Write.contents c.answer_text-in-Module.new.writer in
    subst (λ (what : Asked). Ends (Some what) left rest old new c.answer_text-in-Module.result) (sym (ap asked_by c.in-Module.is))
    (text-ends left rest old new module_text c.module_input.result c.answer_text-in-Module.result c.module_input.ensures.printed c.answer_text-in-Module.ensures)

pub returns-in-Strip : goal.returns-in-Strip
returns-in-Strip g c =
    let left = g.R.Read.remaining c.args.reader.now in
    let rest = g.R.Read.remaining c.strip_input.new.reader in
    let old = g.W.Write.contents c.args.writer.now in
    let new = g.W.Write.contents c.answer_text-in-Strip.new.writer in
    subst (λ (what : Asked). Ends (Some what) left rest old new c.answer_text-in-Strip.result) (sym (ap asked_by c.in-Strip.is))
    (text-ends left rest old new strip c.strip_input.result c.answer_text-in-Strip.result c.strip_input.ensures.stripped c.answer_text-in-Strip.ensures)

pub returns-in-Compat : goal.returns-in-Compat
returns-in-Compat g c =
    let left = g.R.Read.remaining c.args.reader.now in
    let rest = g.R.Read.remaining c.compare_input-compared.new.reader in
    let old = g.W.Write.contents c.args.writer.now in
    let new = g.W.Write.contents c.answer_compared.new.writer in
    subst (λ (what : Asked). Ends (Some what) left rest old new c.answer_compared.result) (sym (ap asked_by c.in-Compat.is))
    (names-end left rest old new c.in-Compat.prev.now c.in-Compat.new.now c.compare_input-compared.result c.answer_compared.result c.compare_input-compared.ensures.compared c.answer_compared.ensures)
