-- Readings that go on, or are refused, as their first steps are.
use Rattle.std.proofs.Common.{◌≡◌, refl, ap, sym, ◌∙◌, ℕ, ◌+◌, List, [], ◌∷◌, zero, suc, ◌<◌, ◌-◌, arith, sub-one, subst, true, false, if◌then◌else◌}
use Rattle.text_trees.specs.ReadTypes.{form_in_front, level_in_front, type_in_front}
use Rattle.wit_model.specs.Text.{Text}
use Rattle.print_grammar.specs.Tree.{Declared, Declared.ResourceOf}
use Rattle.text_trees.specs.Grammar.{Documentation}
use Rattle.text_trees.specs.ReadDeclared.{resource_behind, resource_member_in_front}
use Rattle.print_grammar.specs.Token.{Token, Mark, Mark.OpenBrace, Mark.CloseBrace, Mark.Semi}
use Rattle.text_trees.specs.TreesSeen.{braced}
use Rattle.print_grammar.specs.Keyword.{Keyword}
use Rattle.text_trees.specs.declared.front.Tokens.{Tokens}
use Rattle.text_trees.specs.declared.refusal.Refusal.{Refusal}
use Rattle.text_trees.specs.declared.refusal.Refusal.TheVariants.{Memory, Wanted as NotThere}
use Rattle.print_grammar.specs.Token.Token.{Word, Escaped, Key, VersionText, Digits, Quoted, Punctuation}
use Rattle.text_trees.specs.Reading.{if_id, Wanted.AnId, Reading, id_in_front, listed, repeated, Reading.Found, Reading.Refused, Wanted.Shallower, Wanted.AMark, then_read, made, behind, begins, begins_key, behind_mark, if_mark, if_key}
use Rattle.text_trees.specs.declared.refusal.Wanted.{Wanted as CodeWanted}
use Rattle.text_trees.specs.Seen.{RefusesAs, ahead, wanted_there}
use Rattle.text_trees.proofs.Ahead.{behind_ahead}
use Rattle.text_trees.proofs.Complete.{made_gives}

pub made-refuses : {X Y : Type 0} (them : Tokens) (f : X → Y) (r : Reading X) (e : Refusal) → RefusesAs them e r → RefusesAs them e (made f r)
unfolding made
made-refuses them f r Memory h = tt
made-refuses them f r (NotThere w n) h = ap (made f) h

pub then-refuses : {X Y : Type 0} (them : Tokens) (r : Reading X) (next : X → List Token → Reading Y) (e : Refusal) → RefusesAs them e r → RefusesAs them e (then_read r next)
unfolding then_read
then-refuses them r next Memory h = tt
then-refuses them r next (NotThere w n) h = ap (λ x. then_read x next) h

-- ---- steps that are taken

pub mark_goes : {X : Type 0} (them : Tokens) (mark : Mark) (next : List Token → Reading X) (at from : ℕ) → begins mark (ahead them at) ≡ true → from ≡ at + 1
    → behind_mark mark next (ahead them at) ≡ next (ahead them from)
unfolding behind_mark
mark_goes them mark next at from h e =
    ap (λ b. if b then next (behind (ahead them at)) else Refused (AMark mark) (ahead them at)) h ∙ ap next (behind_ahead them at ∙ ap (ahead them) (sym e))

pub if_mark_goes : {X : Type 0} (them : Tokens) (mark : Mark) (next other : List Token → Reading X) (at from : ℕ) → begins mark (ahead them at) ≡ true → from ≡ at + 1
    → if_mark mark next other (ahead them at) ≡ next (ahead them from)
unfolding if_mark
if_mark_goes them mark next other at from h e =
    ap (λ b. if b then next (behind (ahead them at)) else other (ahead them at)) h ∙ ap next (behind_ahead them at ∙ ap (ahead them) (sym e))

pub if_key_goes : {X : Type 0} (them : Tokens) (keyword : Keyword) (next other : List Token → Reading X) (at from : ℕ) → begins_key keyword (ahead them at) ≡ true
    → from ≡ at + 1 → if_key keyword next other (ahead them at) ≡ next (ahead them from)
unfolding if_key
if_key_goes them keyword next other at from h e =
    ap (λ b. if b then next (behind (ahead them at)) else other (ahead them at)) h ∙ ap next (behind_ahead them at ∙ ap (ahead them) (sym e))

-- a keyword that isn't there
pub if_key_not : {X : Type 0} (keyword : Keyword) (next other : List Token → Reading X) (ts : List Token) → begins_key keyword ts ≡ false
    → if_key keyword next other ts ≡ other ts
unfolding if_key
if_key_not keyword next other ts h = ap (λ b. if b then next (behind ts) else other ts) h

-- a mark that isn't there
pub mark_refused : {X : Type 0} (them : Tokens) (mark : Mark) (next : List Token → Reading X) (at : ℕ) (w : CodeWanted) (e : Refusal) → begins mark (ahead them at) ≡ false
    → wanted_there w ≡ AMark mark → e ≡ NotThere w at → RefusesAs them e (behind_mark mark next (ahead them at))
unfolding behind_mark
mark_refused them mark next at w e h k f =
    subst (λ r. RefusesAs them r (if begins mark (ahead them at) then next (behind (ahead them at)) else Refused (AMark mark) (ahead them at))) (sym f)
    (ap (λ b. if b then next (behind (ahead them at)) else Refused (AMark mark) (ahead them at)) h ∙ ap (λ v. Refused v (ahead them at)) (sym k))

pub if_id_found : {X : Type 0} (next : Text → List Token → Reading X) (other : List Token → Reading X) (ts rest : List Token) (name : Text)
    → id_in_front ts ≡ Found name rest → if_id next other ts ≡ next name rest
unfolding id_in_front if_id
if_id_found next other [] rest name e = absurd (cc e)
if_id_found next other (Word label ∷ ts) rest name e = cc e
if_id_found next other (Escaped label ∷ ts) rest name e = cc e
if_id_found next other (Key keyword ∷ ts) rest name e = absurd (cc e)
if_id_found next other (VersionText version ∷ ts) rest name e = absurd (cc e)
if_id_found next other (Digits n ∷ ts) rest name e = absurd (cc e)
if_id_found next other (Quoted cs ∷ ts) rest name e = absurd (cc e)
if_id_found next other (Punctuation mark ∷ ts) rest name e = absurd (cc e)

pub if_id_not : {X : Type 0} (next : Text → List Token → Reading X) (other : List Token → Reading X) (ts rest : List Token)
    → id_in_front ts ≡ Refused AnId rest → if_id next other ts ≡ other ts
unfolding id_in_front if_id
if_id_not next other [] rest e = refl
if_id_not next other (Word label ∷ ts) rest e = absurd (cc e)
if_id_not next other (Escaped label ∷ ts) rest e = absurd (cc e)
if_id_not next other (Key keyword ∷ ts) rest e = refl
if_id_not next other (VersionText version ∷ ts) rest e = refl
if_id_not next other (Digits n ∷ ts) rest e = refl
if_id_not next other (Quoted cs ∷ ts) rest e = refl
if_id_not next other (Punctuation mark ∷ ts) rest e = refl

-- a form, where there is room for it
pub level_room : (room : ℕ) (ts : List Token) → 0 < room → level_in_front room ts ≡ form_in_front (type_in_front (room - 1)) ts
unfolding level_in_front
level_room zero ts h = absurd (omega (arith, h))
level_room (suc room) ts h = rw sub-one refl

pub level_none : (ts : List Token) → level_in_front 0 ts ≡ Refused Shallower ts
unfolding level_in_front
level_none ts = refl

pub ruleset levels = (level_room, level_none)

pub ruleset going = (made-refuses, made_gives, then-refuses, behind_ahead)

pub ruleset ids = (if_id_found, if_id_not)

-- a name and a brace, and a list that is refused
pub braced_refuses : {X : Type 0} (them : Tokens) (of : Text → List X → Declared) (read : List Token → Reading X) (at end from : ℕ) (name : Text)
    → id_in_front (ahead them at) ≡ Found name (ahead them end) → begins OpenBrace (ahead them end) ≡ true → from ≡ end + 1 → (e : Refusal)
    → RefusesAs them e (listed read CloseBrace (ahead them from)) → RefusesAs them e (braced of read (ahead them at))
unfolding then_read
braced_refuses them of read at end from name f h g e r =
    let step : braced of read (ahead them at) ≡ made (of name) (listed read CloseBrace (ahead them from)) =
    ap (λ x. then_read x (λ name. behind_mark OpenBrace (λ rest. made (of name) (listed read CloseBrace rest)))) f
    ∙ mark_goes them OpenBrace (λ rest. made (of name) (listed read CloseBrace rest)) end from h g in
    subst (RefusesAs them e) (sym step) (made-refuses them (of name) (listed read CloseBrace (ahead them from)) e r)

-- a resource's brace, and functions that are refused
pub resource_refuses : (them : Tokens) (docs : Documentation) (name : Text) (at from : ℕ) → begins Semi (ahead them at) ≡ false → begins OpenBrace (ahead them at) ≡ true
    → from ≡ at + 1 → (e : Refusal) → RefusesAs them e (repeated (resource_member_in_front docs 100) CloseBrace (ahead them from))
    → RefusesAs them e (resource_behind docs 100 name (ahead them at))
unfolding if_mark
resource_refuses them docs name at from n h g e r =
    let next : List Token → Reading Declared = behind_mark OpenBrace (λ rest. made (ResourceOf name) (repeated (resource_member_in_front docs 100) CloseBrace rest)) in
    let step : resource_behind docs 100 name (ahead them at) ≡ made (ResourceOf name) (repeated (resource_member_in_front docs 100) CloseBrace (ahead them from)) =
    ap (λ b. if b then Found (ResourceOf name []) (behind (ahead them at)) else next (ahead them at)) n
    ∙ mark_goes them OpenBrace (λ rest. made (ResourceOf name) (repeated (resource_member_in_front docs 100) CloseBrace rest)) at from h g in
    subst (RefusesAs them e) (sym step) (made-refuses them (ResourceOf name) (repeated (resource_member_in_front docs 100) CloseBrace (ahead them from)) e r)
