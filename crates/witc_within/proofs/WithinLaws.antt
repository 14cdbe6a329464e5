-- What has been printed when printing ended, against the bound.
use Rattle.std.proofs.Common.{◌≡◌, ◌≤◌, ◌<◌, ◌∙◌, refl, sym, ap, subst, arith, ℕ, true, List, length, Result, Ok, Err}
use Rattle.std.specs.Prelude.{OnErr, OnOk, Vec}
use Rattle.std.specs.declared.alloc.Global.{Global}
use Rattle.wit_model.specs.declared.error.Error.{Error}
use Rattle.wit_model.specs.declared.model.{PackageId.PackageId, Resolve.Resolve}
use Rattle.print_output.specs.OutputCall.{Begins, Moves, OutputView}
use Rattle.print_output.specs.Render.{Written, blank, render, writes}
use Rattle.print_output.proofs.RenderLaws.{Moves-writes}
use Rattle.print_grammar.specs.{AsRead.file_as_read, Calls.file_calls, Reading.IsOnlyReading}
use Rattle.wit_print.specs.{Files.FileReads, Shown.shown_file}
use Rattle.witc_texts.specs.Printed.{IsTextOf}
use Rattle.witc_within.specs.Within.{TextWithin}
use Rattle.witc_within.specs.declared.texts.Within.{Within}
use Rattle.witc_within.specs.declared.texts.Within.TheVariants as within
use Rattle.witc_within.proofs.GrowthLaws.{begun-shorter}

-- what is true of each text of the one kind is true of what comes of it
pub lifted : (P Q : List ℕ → Type 0) → ((text : List ℕ) → P text → Q text) → (most : ℕ) (w : Within) → TextWithin P most w → TextWithin Q most w
lifted P Q all most (within.Text text) h = (all text.items h.0, h.1)
lifted P Q all most within.Beyond h = (h.0, all h.0 h.1, h.2)

module _ (r : Resolve) (id : PackageId) (nested : List PackageId) (old new : OutputView Written) (fresh : old ≡ blank) (most : ℕ) (reads : FileReads true (shown_file r id nested)) where
  rendered : Moves writes old (file_calls true (shown_file r id nested)) new → new.kept.text ≡ render (file_calls true (shown_file r id nested))
  rendered moved = ap (λ (v : OutputView Written). v.kept.text) (Moves-writes (subst (λ (v : OutputView Written). Moves writes v (file_calls true (shown_file r id nested)) new) fresh moved))

  -- all of it, within the bound
  pub all-within : (text : Vec ℕ Global) → text.items ≡ new.kept.text → Moves writes old (file_calls true (shown_file r id nested)) new → length new.kept.text ≤ most
      → TextWithin (IsTextOf r id nested) most (within.Text text)
  all-within text is moved short =
      let whole : text.items ≡ render (file_calls true (shown_file r id nested)) = is ∙ rendered moved in
      (record { rendered = whole; reads = subst (λ (t : List ℕ). IsOnlyReading t (file_as_read (shown_file r id nested))) (sym whole) reads }, subst (λ (t : List ℕ). length t ≤ most) (sym is) short)

  -- all or a beginning of it, beyond the bound
  pub some-beyond : (printed : Result Unit Error) → OnOk printed (Moves writes old (file_calls true (shown_file r id nested)) new)
      → OnErr printed (Begins writes old (file_calls true (shown_file r id nested)) new) → most < length new.kept.text → TextWithin (IsTextOf r id nested) most within.Beyond
  some-beyond (Ok x) moved begun long = (render (file_calls true (shown_file r id nested)), record { rendered = refl; reads = reads }, subst (λ (t : List ℕ). most < length t) (rendered moved) long)
  some-beyond (Err e) moved begun long =
      let less = begun-shorter (subst (λ (v : OutputView Written). Begins writes v (file_calls true (shown_file r id nested)) new) fresh begun) in
      (render (file_calls true (shown_file r id nested)), record { rendered = refl; reads = reads }, omega (arith, long, less))
