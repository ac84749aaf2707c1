-- The maps and the streams of a database that was rebuilt.
use Rattle.restarts.proofs.Common.{After, AllAllowed, Begins, Commits, Effect, IsKeptOf, IsStreamed, LiveFeed, Row, Span, Version, by_test, committed_version_of, common_steps, feeds_count, high_live, horizon_of, in_stream, is_committed, kept_version, left_version_of, live_feeds, map_at_is, nat_tests, newest_same, not_both, owner_of, stream_of, stream_rises}
use Rattle.std.proofs.Common.{◌≡◌, ℕ, ◌<◌, ◌≤◌, true, false, List, [], ◌∷◌, length, Option, Some, None, refl, sym, ◌∙◌, ap, arith}
use Rattle.std.specs.Prelude.{is_some, nat_le}
use Rattle.spans.specs.Serial.{map_at}
use Rattle.spans.proofs.Dead.{left_newest}
use Rattle.kept.proofs.Untold.{only_rows}
use Rattle.restarts.proofs.Rebuilding.{left_kept, none_left}

-- who has committed has begun
pub committed_begun : (p : List Effect) → AllAllowed p → (t : ℕ) → is_committed p t ≡ true → is_some (owner_of p t) ≡ true
committed_begun [] all t is = cc
committed_begun (Begins k seat ∷ p) all t is = grind (arith, common_steps, committed_begun p all.1 t is)
committed_begun (Commits k ∷ p) all t is = grind (arith, common_steps, committed_begun p all.1 t)
committed_begun (_ ∷ p) all t is = committed_begun p all.1 t is

-- of a committed transaction what is left is what is kept
left_is_kept : (q : List Effect) → AllAllowed q → (x : List ℕ) (t : ℕ) → is_committed q t ≡ true → left_version_of q x t ≡ kept_version q x t
left_is_kept q all x t done = grind (arith, common_steps, not_both)

-- the versions that are left are the same
pub left_same : (p q : List Effect) (m : ℕ) → AllAllowed q → IsKeptOf (left_kept p m) q → (x : List ℕ) (t : ℕ) → left_version_of q x t ≡ left_version_of p x t
left_same p q m all fits x t = grind (arith, common_steps, left_is_kept q all x t, fits.versions x t, fits.committed x t, none_left q x t)

-- so are the maps from the horizon on
pub map_same : (p q : List Effect) (m : ℕ) → AllAllowed q → IsKeptOf (left_kept p m) q → (t : ℕ) (x : List ℕ) → horizon_of p ≤ t → map_at q t x ≡ map_at p t x
map_same p q m all fits t x high =
    let high' : horizon_of q ≤ t = omega (arith, fits.horizon_at, high) in
    map_at_is q t x ∙ sym (left_newest q x t high')
    ∙ ap (λ (n : Version). n.after) (newest_same (left_version_of q x) (left_version_of p x) t (λ i low. left_same p q m all fits x i))
    ∙ left_newest p x t high ∙ sym (map_at_is p t x)

-- above the horizon all that is committed is left
all_left : (p : List Effect) (x : List ℕ) (t : ℕ) → horizon_of p < t → left_version_of p x t ≡ committed_version_of p x t
all_left p x t above = let high : nat_le t (horizon_of p) ≡ false = grind (arith, nat_tests) in rw (high_live p x t high) refl

-- so are the committed versions above it
committed_same : (p q : List Effect) (m : ℕ) → AllAllowed q → IsKeptOf (left_kept p m) q → (x : List ℕ) (t : ℕ) → horizon_of p < t → committed_version_of q x t ≡ committed_version_of p x t
committed_same p q m all fits x t above = sym (all_left q x t (omega (arith, fits.horizon_at, above))) ∙ left_same p q m all fits x t ∙ all_left p x t above

-- a streamed row is one in another history with the same committed versions
moved_row : (p q : List Effect) (span : Span) (c n : ℕ) (r : Row) → ((x : List ℕ) (t : ℕ) → c < t → committed_version_of p x t ≡ committed_version_of q x t) → IsStreamed p span c n r → IsStreamed q span c n r
moved_row p q span c n r same s = grind (arith, common_steps)

-- and so are the streams from the horizon on
pub stream_same : (p q : List Effect) (m : ℕ) → AllAllowed q → IsKeptOf (left_kept p m) q → (span : Span) (c t : ℕ) → horizon_of p ≤ c → stream_of q span c t ≡ stream_of p span c t
stream_same p q m all fits span c t high = only_rows (stream_of q span c t) (stream_of p span c t) (stream_rises q span c t) (stream_rises p span c t) (λ r. (
  λ i. (in_stream p span c t r).1 (moved_row q p span c t r (λ x i above. committed_same p q m all fits x i (omega (arith, above, high))) ((in_stream q span c t r).0 i)),
  λ i. (in_stream q span c t r).1 (moved_row p q span c t r (λ x i above. sym (committed_same p q m all fits x i (omega (arith, above, high)))) ((in_stream p span c t r).0 i)),
))

-- no feed lives where none is kept
pub none_lives : (p q : List Effect) (m : ℕ) → AllAllowed q → IsKeptOf (left_kept p m) q → live_feeds q ≡ []
none_lives p q m all fits = by_length (live_feeds q) (feeds_count (left_kept p m) q all fits [] (record { distinct = tt; each = λ f. (λ i. absurd i, λ (is : false ≡ true). cc) }))
  where
    by_length : (ws : List LiveFeed) → 0 ≡ length ws → ws ≡ []
    by_length [] e = refl
    by_length (w ∷ ws) e = absurd (omega (arith, e))
