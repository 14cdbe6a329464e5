-- What comes of all that a reader gives is what comes of these bytes.
use Rattle.std.proofs.Common.{◌≡◌, ℕ, List, subst, Option, Some, None, Vec}
use Rattle.std.specs.declared.alloc.Global.{Global}
use Rattle.witc_run.specs.{Bindings.PrintsBindings, Input.ReadsWhole, Printed.PrintsInput, Stripped.StripsInput, Worlds.ComparesInput}
use Rattle.witc_texts.specs.{Bindings.PrintsModule, Printed.PrintsBytes, Stripped.StripsBytes, Stripped.StripsTo, Worlds.ComparesBytes}
use Rattle.witc_texts.specs.declared.comparison.Compared.{Compared}
use Rattle.witc_texts.proofs.StrippedLaws.{part-left, whole-left}

pub prints : (left rest : Option (List ℕ)) (input : List ℕ) → ReadsWhole left rest input → (given : List ℕ) → given ≡ input → (text : List ℕ) → PrintsBytes given text → PrintsInput left rest text
prints left rest input read given same text is = record { input = input; read = read; printed = subst (λ (xs : List ℕ). PrintsBytes xs text) same is }

pub compares : (left rest : Option (List ℕ)) (prev new input : List ℕ) → ReadsWhole left rest input → (given : List ℕ) → given ≡ input → (c : Compared) → ComparesBytes given prev new c
    → ComparesInput left rest prev new c
compares left rest prev new input read given same c is = record { input = input; read = read; compares = subst (λ (xs : List ℕ). ComparesBytes xs prev new c) same is }

pub binds : (left rest : Option (List ℕ)) (input : List ℕ) → ReadsWhole left rest input → (given : List ℕ) → given ≡ input → (text : List ℕ) → PrintsModule given text → PrintsBindings left rest text
binds left rest input read given same text is = record { input = input; read = read; printed = subst (λ (xs : List ℕ). PrintsModule xs text) same is }

-- the sections that carry worlds are left out
pub strips-part : (left rest : Option (List ℕ)) (input : List ℕ) → ReadsWhole left rest input → (given : List ℕ) → given ≡ input
    → (o : Option (Vec ℕ Global)) (kept : Vec ℕ Global) → o ≡ Some kept → StripsTo given o → StripsInput left rest kept.items
strips-part left rest input read given same o kept some is =
    record { input = input; read = read; strips = subst (λ (xs : List ℕ). StripsBytes xs kept.items) same (part-left given o kept some is) }

-- there is none
pub strips-nothing : (left rest : Option (List ℕ)) (input : List ℕ) → ReadsWhole left rest input → (given : List ℕ) → given ≡ input
    → (o : Option (Vec ℕ Global)) → o ≡ None → StripsTo given o → StripsInput left rest input
strips-nothing left rest input read given same o none is =
    record { input = input; read = read; strips = subst (λ (xs : List ℕ). StripsBytes xs xs) same (whole-left given o none is) }
