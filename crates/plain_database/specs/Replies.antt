-- Parts of the answers: what comes behind a place, what a scan tests and finds, and the answer to a write.
use Rattle.std.specs.Prelude.{ℕ, List, [], Bool, true, filter, ◌&&◌, if◌then◌else◌, Option, Some, None, nat_le, ◌∷◌, ◌≡◌, ◌≤◌, length, ◌++◌, ◌-◌, map, take}
use Rattle.timestamps.specs.declared.key.TheConstants.{MAX_KEY_BYTES}
use Rattle.plain_database.specs.Prelude.{rows_of, RisingKeys, from_low, Cmd, first_refusal_or, transaction_tests, committed_value, is_blocked, Refusal, Blocked, TooLate, Reply, Written, Effect, Row, Span, is_committed, key_lt, After, in_span, Del, Put, pairs_of, too_late, visible, written_keys}

-- the key is above that one, if there is one
abbrev pub is_past : Option (List ℕ) → List ℕ → Bool
is_past None x = true
is_past (Some key) x = key_lt key x

-- the keys above that one, if there is one
abbrev pub keys_past : Option (List ℕ) → List (List ℕ) → List (List ℕ)
keys_past after keys = filter (is_past after) keys

-- the committed rows of ts in the span above the key, where ts isn't above `through`; without a key all of ts was told
abbrev pub beside : List Effect → Span → ℕ → Option (List ℕ) → ℕ → List Row
beside p span ts None through = []
beside p span ts (Some key) through = if nat_le ts through && is_committed p ts then filter (λ (r : Row). key_lt key r.key) (rows_of p span ts) else []

-- no key lies before the bound, of those that are no longer than a key may be
abbrev pub AreFromLow : Option (List ℕ) → List (List ℕ) → Type 0
AreFromLow low [] = Unit {0}
AreFromLow low (x ∷ xs) = (length x ≤ MAX_KEY_BYTES → from_low low x ≡ true) × AreFromLow low xs

-- rising keys, none of which lies before the bound
pub record AreAhead (low : Option (List ℕ)) (xs : List (List ℕ)) : Type 0 where
  pub rising : RisingKeys xs
  pub from : AreFromLow low xs

-- the writes of t whose key the span holds, as rows
abbrev pub write_rows : Span → ℕ → List (List ℕ × After) → List Row
write_rows span t ws = map (λ (w : List ℕ × After). record { ts = t; key = w.0; after = w.1 }) (filter (λ (w : List ℕ × After). in_span span w.0) ws)

-- the rows, and of `more` as many as leave at most `most`
abbrev pub filled : ℕ → List Row → List Row → List Row
filled most rows more = rows ++ take (most - length rows) more

-- the tests of a scan, key by key
abbrev pub block_tests : List Effect → Span → ℕ → List (Bool × Refusal)
block_tests p span t = map (λ x. (is_blocked p x t, Blocked (visible p x t).ts)) (filter (in_span span) (written_keys p))

-- the rows that a transaction sees
abbrev pub rows_seen : List Effect → Span → ℕ → List (List ℕ × List ℕ)
rows_seen p span t = pairs_of (λ x. (visible p x t).after) (filter (in_span span) (written_keys p))

-- those of them at keys above that one, if there is one
abbrev pub rows_past : List Effect → Span → Option (List ℕ) → ℕ → List (List ℕ × List ℕ)
rows_past p span after t = pairs_of (λ x. (visible p x t).after) (keys_past after (filter (in_span span) (written_keys p)))

-- the answer to a write, whatever it writes
abbrev pub write_answer : List Effect → ℕ → ℕ → List ℕ → Reply
write_answer p seat t x = first_refusal_or (transaction_tests p seat t ++ (too_late p x t, TooLate) ∷ []) Written

-- the command that writes this
abbrev pub write_cmd : ℕ → List ℕ → After → Cmd
write_cmd t x None = Del t x
write_cmd t x (Some v) = Put t x v
