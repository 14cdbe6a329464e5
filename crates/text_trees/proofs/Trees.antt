-- A tree that is found is what the text's tokens are by the grammar.
use Rattle.std.proofs.Common.{◌≡◌, sym, ap, ◌∙◌, subst, true, ℕ, List, length, map, drop}
use Rattle.print_grammar.specs.Token.{Token}
use Rattle.text_trees.specs.{Grammar.ReadsText, TextTree.TextTree}
use Rattle.text_tokens.specs.Places.{HasTokensAt, Placed, gaps_from}
use Rattle.text_trees.specs.declared.front.Tokens.{Tokens}
use Rattle.text_trees.specs.Reading.{Reading.Found, Reading.Refused}
use Rattle.text_trees.specs.Levels.{fits_text}
use Rattle.text_trees.specs.ReadFiles.{text_in_front}
use Rattle.text_trees.specs.declared.refusal.Refusal.{Refusal}
use Rattle.text_trees.specs.declared.refusal.Refusal.TheVariants.{Wanted as Wants}
use Rattle.text_trees.specs.declared.refusal.Wanted.{Wanted as CodeWanted}
use Rattle.text_trees.specs.Seen.{RefusesAs, ahead, docs_ahead, docs_by, said, text_of, wanted_there}
use Rattle.text_tokens.specs.declared.token.Token.{Token as PlacedToken}
use Rattle.text_trees.specs.declared.refusal.TreeError.{TreeError}
use Rattle.text_trees.specs.declared.refusal.TreeError.TheVariants.{Memory, Size, NoToken, Wanted as NotThere}
use Rattle.text_trees.specs.Reads.{IsReadAs, RefusesPlaces, RefusesText, StopsAt, first_byte}
use Rattle.text_trees.proofs.Exact.{files_are_read, shallow_files_are_found}
use Rattle.text_trees.specs.Laws.{docs_here, tokens_here}
use Rattle.text_trees.proofs.{Saying.placed_said, Texts.read_tokens}

pub tree_found : (them : Tokens) (file : TextTree) (rest : List Token) → text_in_front (docs_ahead them) 100 (ahead them 0) ≡ Found file rest
    → (tokens : List Token) → Placed (text_of them) 0 (length (text_of them)) them.places.now tokens → ReadsText (docs_ahead them) tokens file
unfolding ahead
tree_found them file rest e tokens p =
    let same : tokens ≡ map (said (text_of them)) them.places.now = placed_said (text_of them) 0 (length (text_of them)) them.places.now tokens p in
    ((files_are_read (docs_ahead them) 100 tokens rest file).0 (ap (text_in_front (docs_ahead them) 100) same ∙ e)).0

pub tree_shallow : (them : Tokens) (file : TextTree) (rest : List Token) → text_in_front (docs_ahead them) 100 (ahead them 0) ≡ Found file rest
    → (tokens : List Token) → Placed (text_of them) 0 (length (text_of them)) them.places.now tokens → fits_text 100 file ≡ true
unfolding ahead
tree_shallow them file rest e tokens p =
    let same : tokens ≡ map (said (text_of them)) them.places.now = placed_said (text_of them) 0 (length (text_of them)) them.places.now tokens p in
    ((files_are_read (docs_ahead them) 100 tokens rest file).0 (ap (text_in_front (docs_ahead them) 100) same ∙ e)).1

pub tree_refused : (them : Tokens) (w : CodeWanted) (n at : ℕ) → text_in_front (docs_ahead them) 100 (ahead them 0) ≡ Refused (wanted_there w) (ahead them n)
    → at ≡ first_byte (text_of them) (drop n them.places.now)
    → (tokens : List Token) → Placed (text_of them) 0 (length (text_of them)) them.places.now tokens → StopsAt (text_of them) them.places.now tokens w at
unfolding ahead
tree_refused them w n at e b tokens p =
    let same : tokens ≡ map (said (text_of them)) them.places.now = placed_said (text_of them) 0 (length (text_of them)) them.places.now tokens p in
    record {
      before = n;
      refused = ap (text_in_front (docs_ahead them) 100) same ∙ e ∙ ap (λ ts. Refused (wanted_there w) (drop n ts)) (sym same);
      byte = b;
    }

pub tree_refused_as : (them : Tokens) (e : Refusal) (w : CodeWanted) (n at : ℕ) → RefusesAs them e (text_in_front (docs_ahead them) 100 (ahead them 0)) → e ≡ Wants w n
    → at ≡ first_byte (text_of them) (drop n them.places.now)
    → (tokens : List Token) → Placed (text_of them) 0 (length (text_of them)) them.places.now tokens → StopsAt (text_of them) them.places.now tokens w at
tree_refused_as them e w n at h f b =
    tree_refused them w n at (subst (λ x. RefusesAs them x (text_in_front (docs_ahead them) 100 (ahead them 0))) f h) b

pub ruleset trees = (tree_found, tree_shallow, tree_refused)

pub text_found : (text : List ℕ) (places : List PlacedToken) (file : TextTree) → HasTokensAt text places
    → ((tokens : List Token) → Placed text 0 (length text) places tokens → ReadsText (docs_by (gaps_from text 0 places)) tokens file) → IsReadAs text file
text_found text places file has f = record {
  found = has.found;
  spelled = has.spelled;
  parsed = subst (λ gaps. ReadsText (docs_by gaps) (tokens_here has.found) file) (sym has.gaps) (f (tokens_here has.found) has.placed);
}

pub text_shallow : (text : List ℕ) (places : List PlacedToken) (file : TextTree) → HasTokensAt text places
    → ((tokens : List Token) → Placed text 0 (length text) places tokens → fits_text 100 file ≡ true) → fits_text 100 file ≡ true
text_shallow text places file has f = f (tokens_here has.found) has.placed

-- what is refused with the documentation in front of places is no file
refused_is_no_file : (text : List ℕ) (places : List PlacedToken) (w : CodeWanted) (at : ℕ) (has : HasTokensAt text places)
    → StopsAt text places (tokens_here has.found) w at → (file : TextTree) → IsReadAs text file → fits_text 100 file ≡ true → ⊥
refused_is_no_file text places w at has stops file r k =
    let gaps : docs_by (gaps_from text 0 places) ≡ docs_here has.found = ap docs_by (sym has.gaps) in
    shallow_files_are_found (docs_here has.found) 100 (tokens_here has.found) (drop stops.before (tokens_here has.found)) (wanted_there w) file
    (subst (λ docs. text_in_front docs 100 (tokens_here has.found) ≡ Refused (wanted_there w) (drop stops.before (tokens_here has.found))) gaps stops.refused)
    (read_tokens has.spelled r) k

pub text_refused : (text : List ℕ) (places : List PlacedToken) (e : TreeError) → HasTokensAt text places → RefusesPlaces text places e → RefusesText text e
text_refused text places Memory has h = tt
text_refused text places Size has h = absurd h
text_refused text places (NoToken at) has h = absurd h
text_refused text places (NotThere w at) has h =
    let stops = h (tokens_here has.found) has.placed in
    record { places = places; has = has; stops = stops; none = refused_is_no_file text places w at has stops }

pub ruleset texts = (text_found, text_shallow, text_refused)
