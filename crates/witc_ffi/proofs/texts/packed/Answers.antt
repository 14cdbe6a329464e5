use Rattle.std.proofs.Common.{MatchResult, Result, Vec, subst, ℕ}
use Rattle.std.specs.declared.alloc.Global.{Global}
use Rattle.witc_read.specs.{Packages.IsNoText, Packages.bytes_of, Places.names_of}
use Rattle.witc_read.specs.declared.packages.NamedText.{NamedText}
use Rattle.witc_ffi.specs.Texts.{AreNamed, bytes_in, names_in, no_name, no_name_of, text_why}
use Rattle.witc_ffi.proofs.TextLaws.{tells-bad}
use Rattle.witc_ffi.proofs.texts.packed.Goals as goal

pub returns-in-Err : goal.returns-in-Err
returns-in-Err c =
    let names = names_in c.args.texts.now in
    let texts = bytes_in c.args.texts.now in
    let n = c.in-Err.number in
    let is : IsNoText names n = subst (λ (r : Result (Vec NamedText Global) ℕ). MatchResult r
    (λ found. AreNamed names texts (names_of found.items) (bytes_of found.items)) (IsNoText names)) c.in-Err.is c.in_ok-found.ensures in
    tells-bad names texts c.args.own (no_name_of n) (text_why 18 n) c.no_name.result (no_name n is) c.no_name.ensures
