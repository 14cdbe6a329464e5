-- The status of what a run comes to, and why it stops.
use Rattle.std.proofs.lemmas.{Bool.leb-true, Slice.Zip.AllZip-long}
use Rattle.std.proofs.Common.{◌≡◌, ◌≤◌, ◌&&◌, ◌||◌, ◌∙◌, IfErr, IfOk, OnErr, arith, true, false, refl, ℕ, Bool, List, [], ◌∷◌, length, nat_le, Option, Result, Ok, Err, if◌then◌else◌}
use Rattle.teasel_answers.specs.Refusals.{HasItsFiles, takes}
use Rattle.teasel_files.specs.Contents.{files_of, has_files, or_input}
use Rattle.teasel_files.specs.Folders.{IsRead}
use Rattle.teasel_files.specs.declared.setting.Setting.{Setting}
use Rattle.teasel_texts.specs.declared.input.Input.{Input}
use Rattle.teasel_messages.specs.{Reasons.RefusedFor, declared.faults.ReadFault.ReadFault, declared.refusal.Refusal.Refusal}
use Rattle.teasel_words.specs.{Given.Given, Spelling.Spells, Spelling.fits, Table.Text, Table.least_of, Table.most_of}
use Rattle.teasel_words.specs.declared.table.Word.{Word}
use Rattle.teasel_words.specs.declared.table.Word.TheVariants as words
use Rattle.teasel_messages.proofs.ReasonLaws.{refused-by}
use Rattle.teasel_texts.specs.Made.{IsTaken}
use Rattle.teasel_run.specs.Runs.{AreInputs, Carries, Runs, Stops, stopped}

module _ {State : Type 0} (holds : State → Text → List ℕ → Type 0) (fails : State → Text → ReadFault → Type 0)
    (lists : State → Text → List Text → List Text → Type 0) (unlisted : State → Text → ReadFault → Type 0) (puts : State → Text → List ℕ → State → Type 0)
    (s : Setting) (words_ : List Text) (old new : State) (before after : Option (List ℕ)) where
  -- what comes of what the words spell
  pub runs-so : (g : Given) → Spells words_ g → (done : Result Bool Refusal) → IfOk done (Carries holds lists puts s g old new before after)
      → OnErr done (new ≡ old) → IfErr done (RefusedFor (Stops holds fails lists unlisted s g old))
      → Runs holds fails lists unlisted puts s words_ old new before after done
  runs-so g spells (Ok fits) carries kept stops = (g, spells, carries)
  runs-so g spells (Err refusal) carries kept stops = (kept, refused-by _ _ refusal (λ why. stopped g spells why) stops)

-- ---- as many files as the word takes

parts : (a b : Bool) (A B : Type 0) → (a ≡ true → A) → (b ≡ true → B) → (a && b) ≡ true → A × B
parts true b A B f g h = (f refl, g h)
parts false b A B f g h = let wrong : ⊥ = cc in absurd wrong

within : (files : List Text) (least most : ℕ) → (nat_le least (length files) && nat_le (length files) most) ≡ true → (least ≤ length files) × (length files ≤ most)
within files least most h = parts (nat_le least (length files)) (nat_le (length files) most) _ _ (leb-true least (length files)) (leb-true (length files) most) h

up-to-one : (files : List Text) → (nat_le 0 (length files) && nat_le (length files) 1) ≡ true → length (or_input files) ≡ 1
up-to-one [] h = refl
up-to-one (a ∷ []) h = refl
up-to-one (a ∷ (b ∷ files)) h = absurd (omega (arith, (within (a ∷ (b ∷ files)) 0 1 h).1))

just-one : (files : List Text) → (nat_le 1 (length files) && nat_le (length files) 1) ≡ true → length (or_input files) ≡ 1
just-one [] h = absurd (omega (arith, (within [] 1 1 h).0))
just-one (a ∷ []) h = refl
just-one (a ∷ (b ∷ files)) h = absurd (omega (arith, (within (a ∷ (b ∷ files)) 1 1 h).1))

just-two : (files : List Text) → (nat_le 2 (length files) && nat_le (length files) 2) ≡ true → length (or_input files) ≡ 2
just-two [] h = absurd (omega (arith, (within [] 2 2 h).0))
just-two (a ∷ []) h = absurd (omega (arith, (within (a ∷ []) 2 2 h).0))
just-two (a ∷ (b ∷ [])) h = refl
just-two (a ∷ (b ∷ (d ∷ files))) h = absurd (omega (arith, (within (a ∷ (b ∷ (d ∷ files))) 2 2 h).1))

so-many : (w : Word) (files : List Text) → (nat_le (least_of w) (length files) && nat_le (length files) (most_of w)) ≡ true
    → takes w (length (if has_files w then or_input files else [])) ≡ true
so-many words.Text files h = rw (up-to-one files h) refl
so-many words.Json files h = rw (up-to-one files h) refl
so-many words.Wasm files h = rw (up-to-one files h) refl
so-many words.Kind files h = refl
so-many words.Check files h = refl
so-many words.Compat files h = rw (just-one files h) refl
so-many words.Diff files h = rw (just-two files h) refl
so-many words.Embed files h = rw (just-two files h) refl
so-many words.Strip files h = rw (up-to-one files h) refl
so-many words.Sections files h = rw (up-to-one files h) refl
so-many words.Completion files h = refl
so-many words.Man files h = refl
so-many words.Help files h = refl
so-many words.Version files h = refl

has-files-so : (help : Bool) (w : Word) (files : List Text) → (help || (nat_le (least_of w) (length files) && nat_le (length files) (most_of w))) ≡ true → help ≡ false
    → takes w (length (if help then [] else (if has_files w then or_input files else []))) ≡ true
has-files-so true w files is asked = let wrong : ⊥ = cc in absurd wrong
has-files-so false w files is asked = so-many w files is

-- what the words spell has as many inputs as its word takes
pub has-its-files : (holds : Text → List ℕ → Type 0) (lists : Text → List Text → List Text → Type 0) (g : Given) (is : List Input) → fits g ≡ true
    → AreInputs holds lists (files_of g) is → HasItsFiles g is
unfolding fits
has-its-files holds lists g is fit inputs asked =
    rw (AllZip-long IsTaken inputs.found is inputs.taken ∙ AllZip-long (IsRead holds lists) (files_of g) inputs.found inputs.read)
    (has-files-so g.help g.word_ g.files fit asked)
