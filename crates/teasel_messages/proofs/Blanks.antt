-- What stands behind blanks. Serves looks::leading_space.
use Rattle.std.proofs.Common.{◌≡◌, refl, ℕ, ◌<◌, ◌≤◌, ◌+◌, true, false, List, length, drop, get_or, add-one, drop-cons}
use Rattle.std.proofs.lemmas.List.{drop_all}
use Rattle.teasel_messages.specs.Looks.{behind_blanks, is_blank_byte}

pub blank-goes : (bytes : List ℕ) (n : ℕ) → n < length bytes → is_blank_byte (get_or bytes n 0) ≡ true → behind_blanks (drop (n + 1) bytes) ≡ behind_blanks (drop n bytes)
unfolding behind_blanks
blank-goes bytes n below h = rw (add-one, drop-cons bytes n 0 below, h) refl

pub letter-stays : (bytes : List ℕ) (n : ℕ) → n < length bytes → is_blank_byte (get_or bytes n 0) ≡ false → drop n bytes ≡ behind_blanks (drop n bytes)
unfolding behind_blanks
letter-stays bytes n below h = rw (drop-cons bytes n 0 below, h) refl

pub all-gone : (bytes : List ℕ) (n : ℕ) → length bytes ≤ n → drop n bytes ≡ behind_blanks (drop n bytes)
unfolding behind_blanks
all-gone bytes n h = rw (drop_all n bytes h) refl
