-- The ordered list of committed versions that a feed tells: CockroachDB's rows after a cursor, made one total
-- order by timestamp and then by key. (An initial feed tells
-- the span's part of the map at its cursor first.)
use Rattle.std.specs.Prelude.{ℕ, zero, suc, List, [], ◌++◌, map, filter, Bool, ◌&&◌, ◌||◌, ◌==◌, nat_lt, if◌then◌else◌, Option, Some, None}
use Rattle.timestamps.specs.declared.row.Row.{Row}
use Rattle.spans.specs.declared.span.Span.{Span}
use Rattle.spans.specs.Keys.{in_span, pairs_of}
use Rattle.spans.specs.KeyOrder.{key_lt}
use Rattle.spans.specs.Effects.{After, Effect}
use Rattle.spans.specs.Transactions.{is_committed}
use Rattle.spans.specs.Versions.{write_of, write_set, written_keys}
use Rattle.spans.specs.Serial.{map_at, span_part}

-- the order of rows: by timestamp and then by key
abbrev pub row_lt : Row → Row → Bool
row_lt r s = nat_lt r.ts s.ts || ((r.ts == s.ts) && key_lt r.key s.key)

-- what a write left (a key of a write set always has one)
abbrev pub written_value : Option After → After
written_value None = None
written_value (Some a) = a

-- the rows of t in the span, a delete of an absent key among them: each key with what t last wrote there, keys rising
abbrev pub rows_of : List Effect → Span → ℕ → List Row
rows_of p span t = map (λ x. record { ts = t; key = x; after = written_value (write_of p t x) }) (filter (in_span span) (write_set p t))

-- the rows of the span committed above the cursor and at or below t, by timestamp and then by key, as a write set rises
abbrev pub stream_of : List Effect → Span → ℕ → ℕ → List Row
stream_of p span cursor zero = []
stream_of p span cursor (suc t) = stream_of p span cursor t ++ (if nat_lt cursor (suc t) && is_committed p (suc t) then rows_of p span (suc t) else [])

-- a key and its value, as a row of t
abbrev pub pair_row : ℕ → List ℕ × List ℕ → Row
pair_row t pair = record { ts = t; key = pair.0; after = Some pair.1 }

-- the span's part of the map at t, as rows of t: each key that has a value there, keys rising
abbrev pub snapshot_rows : List Effect → Span → ℕ → List Row
snapshot_rows p span t = map (pair_row t) (pairs_of (span_part span (map_at p t)) (written_keys p))
