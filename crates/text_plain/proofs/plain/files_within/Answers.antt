use Rattle.std.proofs.Common.{◌∙◌, ap, map, subst, sym, List}
use Rattle.base_lemmas.proofs.Options.{if_ok}
use Rattle.text_plain.specs.FilesSeen.{file_of}
use Rattle.text_plain.specs.declared.{scopes.TextScopes.TextScopes, whole.PlacedText.PlacedText}
use Rattle.text_plain.specs.Places.{ArePlaced, placed_of}
use Rattle.text_plain.specs.Plain.{FilesAre, FolderText}
use Rattle.text_plain.specs.Scopes.{AreTextScopes}
use Rattle.text_plain.specs.Worlds.{ArePlacedTexts}
use Rattle.text_plain.proofs.FileLaws.{scopes_placed}
use Rattle.text_plain.proofs.plain.files_within.Goals as goal

pub scopes_of-requires : goal.scopes_of-requires
scopes_of-requires c = subst (λ (l : List PlacedText). ArePlaced c.args.whole.now l) (sym c.deref.ensures.value) c.in_ok-placed.ensures.placed

pub files_in-requires : goal.files_in-requires
files_in-requires c = subst (λ (l : List TextScopes). ArePlacedTexts c.args.whole.now l) (sym c.deref-2.ensures.value)
    (scopes_placed c.args.whole.now (map placed_of c.deref.result.now) c.in_ok-scopes.scopes.items c.in_ok-scopes.ensures)

pub returns : goal.returns
returns c =
    let are : AreTextScopes c.args.whole.now (map placed_of c.deref.result.now) c.deref-2.result.now =
    subst (λ (l : List TextScopes). AreTextScopes c.args.whole.now (map placed_of c.deref.result.now) l) (sym c.deref-2.ensures.value) c.in_ok-scopes.ensures in
    if_ok _ _ (λ files given. subst (λ (ts : List FolderText). FilesAre ts (map (file_of c.args.whole.now) files.items))
    (ap (map placed_of) c.deref.ensures.value ∙ c.in_ok-placed.ensures.same) given)
    c.files_in.result (c.files_in.ensures (map placed_of c.deref.result.now) are)
