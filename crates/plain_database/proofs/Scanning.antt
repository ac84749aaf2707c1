-- What the store finds is what the definitions say.
use Rattle.std.proofs.Common.{◌≡◌, ℕ, ◌<◌, List, [], ◌∷◌, None, length, take, refl, ap, ◌∙◌}
use Rattle.std.specs.Prelude.{filter}
use Rattle.spans.specs.Versions.{newest}
use Rattle.plain_database.proofs.Common.{Effect, Span, in_span, newest_same, pairs_of, version_of, visible, written_keys}
use Rattle.plain_database.specs.Replies.{keys_past, rows_seen}
use Rattle.plain_database.specs.VersionsTied.{Held, VersionsTied, version_in}
use Rattle.plain_database.proofs.Taken.{all_taken}

-- the version that is seen is the visible one
pub seen_is : (h : Held) (p : List Effect) → VersionsTied h p → (x : List ℕ) (t : ℕ) → newest (version_in h x) t ≡ visible p x t
seen_is h p tied x t = newest_same (version_in h x) (version_of p x) t (λ i low. rw (tied.aborted i, tied.writes i x) refl)

-- ---- the rows of a span are all of them, where fewer were taken than were asked for

all_keys : (xs : List (List ℕ)) → keys_past None xs ≡ xs
all_keys [] = refl
all_keys (x ∷ xs) = ap (λ l. x ∷ l) (all_keys xs)

pub all_rows : (p : List Effect) (span : Span) (t n : ℕ) (rows : List (List ℕ × List ℕ)) → rows ≡ take n (pairs_of (λ x. (visible p x t).after) (keys_past None (filter (in_span span) (written_keys p)))) → length rows < n → rows ≡ rows_seen p span t
all_rows p span t n rows is few = all_taken n rows (rows_seen p span t) (is ∙ ap (λ xs. take n (pairs_of (λ x. (visible p x t).after) xs)) (all_keys (filter (in_span span) (written_keys p)))) few
