-- What may be asked beside the commands: versions, places, rows that a dump has still to write (this project's own).
use Rattle.std.specs.Prelude.{ℕ, List, true, false, ◌≡◌, ◌≤◌, ◌⊎◌, if◌then◌else◌, Option, Some, None, is_some, nat_lt, option_map, MatchOption, [], filter, ◌∷◌}
use Rattle.timestamps.specs.declared.row.Row.{Row}
use Rattle.spans.specs.Streams.{row_lt}
use Rattle.restarts.specs.Dump.{all_keys, left_rows}
use Rattle.version_chain.specs.Walking.{is_after_place}
use Rattle.version_chain.specs.Stores.{Stored}
use Rattle.catch_up.specs.Rows.{IsLeftIn}
use Rattle.engine.specs.Prelude.{newest, Effect, Feed, closed_of, committed_version_of, feed_of, floor_of, horizon_of, is_cancelled, is_undecided, limit_of, live_feed, owner_of, Places}

-- ---- versions

-- the timestamp of the newest committed version of x at or below t; none of a delete, because a collection forgets it
abbrev pub value_version : List Effect → List ℕ → ℕ → Option ℕ
value_version p x t = let n = newest (committed_version_of p x) t in if is_some n.after then Some n.ts else None

-- the same from the horizon on. Below it versions may be gone, so none is told
abbrev pub known_version : List Effect → List ℕ → ℕ → Option ℕ
known_version p x t = if nat_lt t (horizon_of p) then None else value_version p x t

-- ---- places

-- the least timestamp that is undecided, where one is
abbrev pub IsOldest : List Effect → Option ℕ → Type 0
IsOldest p None = (t : ℕ) → is_undecided p t ≡ false
IsOldest p (Some o) = (is_undecided p o ≡ true) × ((t : ℕ) → is_undecided p t ≡ true → o ≤ t)

-- the greatest timestamp that began or was closed: each that is above it is free
pub record IsReached (p : List Effect) (n : ℕ) : Type 0 where
  pub closed : closed_of p ≤ n
  pub begun : (t : ℕ) → is_some (owner_of p t) ≡ true → t ≤ n
  pub least : (n ≡ closed_of p) ⊎ (is_some (owner_of p n) ≡ true)

-- how far the history has come
pub record ArePlaces (p : List Effect) (places : Places) : Type 0 where
  pub closed : places.closed ≡ closed_of p
  pub horizon : places.horizon ≡ horizon_of p
  pub limit : places.limit ≡ (limit_of p).at
  pub oldest : IsOldest p places.oldest
  pub reached : IsReached p places.reached

-- the floor of a feed that lives
abbrev pub feed_floor : List Effect → ℕ → Option ℕ
feed_floor p f = if is_cancelled p f then None else option_map (λ (feed : Feed). floor_of p (live_feed f feed.cursor)) (feed_of p f)

-- the rows that a dump has still to write behind a key's place at ts, or without a key behind all of ts, up to `through`
abbrev pub left_after : List Effect → (ts : ℕ) (key : Option (List ℕ)) → (through : ℕ) → List Row
left_after p ts key through = filter (λ (r : Row). is_after_place ts key r.key r.ts) (left_rows p through)

-- the first of rows, where there is one
abbrev pub first_row : List Row → Option Row
first_row [] = None
first_row (r ∷ rows) = Some r

-- the first of those that a dump has still to write
abbrev pub next_left : List Effect → (ts : ℕ) (key : Option (List ℕ)) → (through : ℕ) → Option Row
next_left p ts key through = first_row (left_after p ts key through)

-- ---- by the store

-- a committed version behind the place, of any key
abbrev pub IsLeftBehind : Stored → (ts : ℕ) (key : Option (List ℕ)) → (through : ℕ) → Row → Type 0
IsLeftBehind s ts key through r = IsLeftIn s all_keys ts key through r

-- the row is the first of those behind the place; or there is none
abbrev pub IsNextRow : Stored → (ts : ℕ) (key : Option (List ℕ)) → (through : ℕ) → Option Row → Type 0
IsNextRow s ts key through row = MatchOption row ((r : Row) → IsLeftBehind s ts key through r → ⊥)
    (λ r. IsLeftBehind s ts key through r × ((q : Row) → IsLeftBehind s ts key through q → row_lt q r ≡ false))
