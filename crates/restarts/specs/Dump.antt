-- The dump of a database: the commands that rebuild it, with the answers that are foreseen, and the same row by row, as
-- a program writes it (this project).
use Rattle.std.specs.Prelude.{ℕ, zero, suc, List, [], ◌∷◌, ◌++◌, map, filter, length, max, Some, None, is_some, Bool, false, not, ◌==◌, Option, if◌then◌else◌}
use Rattle.spans.specs.Versions.{write_of, write_set}
use Rattle.spans.specs.Promises.{left_version_of}
use Rattle.timestamps.specs.declared.row.Row.{Row}
use Rattle.restarts.specs.Prelude.{After, Begin, Close, Closed, Collect, Collected, Commit, Committed, Del, Effect, Event, Put, Started, Written, begun_of, closed_of, effects_of, horizon_of, written_value, Cmd, Span, is_dead, stream_of, version_name}
use Rattle.restarts.specs.Running.{Step, with_steps}

-- the keys of which the version of t is committed and not dead, rising
abbrev pub left_keys : List Effect → ℕ → List (List ℕ)
left_keys p t = filter (λ x. is_some (left_version_of p x t)) (write_set p t)

-- t writes at x what is to be left there
abbrev pub write_step : ℕ → List ℕ → After → Step
write_step t x None = (Del t x, Written)
write_step t x (Some v) = (Put t x v, Written)

-- the writes of t at the keys, once more
abbrev pub write_steps : List Effect → ℕ → List (List ℕ) → List Step
write_steps p t keys = map (λ x. write_step t x (written_value (write_of p t x))) keys

-- the transaction of t at the keys, once more; and no transaction where there is no key
abbrev pub transaction_steps : List Effect → ℕ → List (List ℕ) → List Step
transaction_steps p t [] = []
transaction_steps p t (x ∷ keys) = (Begin t, Started) ∷ write_steps p t (x ∷ keys) ++ (Commit t, Committed (length (x ∷ keys))) ∷ []

-- the transactions at or below a timestamp of which a version is left, by rising timestamp, each with what is left of it
abbrev pub versions_through : List Effect → ℕ → List Step
versions_through p zero = []
versions_through p (suc t) = versions_through p t ++ transaction_steps p (suc t) (left_keys p (suc t))

-- what ends a dump: closed is m from then on, and the horizon is what it was. Nothing dies by it
abbrev pub end_steps : List Effect → ℕ → List Step
end_steps p m = (Close m, Closed m 0) ∷ (Collect (horizon_of p), Collected (horizon_of p) 0) ∷ []

-- the dump, which closes at m: all versions at or below m that are left, each at its own timestamp, and the end
abbrev pub dump : List Effect → ℕ → List Step
dump p m = versions_through p m ++ end_steps p m

-- the history of the dump, run on a database that is empty
abbrev pub rebuilt : List Event → ℕ → List Event
rebuilt h m = with_steps [] (dump (effects_of h) m)

-- the greatest of n and the numbers
abbrev pub greatest_of : ℕ → List ℕ → ℕ
greatest_of n [] = n
greatest_of n (m ∷ ms) = max m (greatest_of n ms)

-- where a dump may close that is to close at n or above: at the greatest of n, closed and all that began
abbrev pub mark_of : List Effect → ℕ → ℕ
mark_of p n = greatest_of (max n (closed_of p)) (begun_of p)

-- all keys
abbrev pub all_keys : Span
all_keys = record { lo = None; hi = None }

-- the row's version isn't dead
abbrev pub is_left : List Effect → Row → Bool
is_left p r = not (is_dead p (version_name r.key r.ts))

-- the rows of the versions at or below m that are left, by timestamp and then by key
abbrev pub left_rows : List Effect → ℕ → List Row
left_rows p m = filter (is_left p) (stream_of p all_keys 0 m)

-- t is the transaction that is open
abbrev pub is_open : Option ℕ → ℕ → Bool
is_open None t = false
is_open (Some k) t = k == t

-- what ends the transaction that is open, where one is
abbrev pub ended : Option ℕ → List Cmd
ended None = []
ended (Some k) = Commit k ∷ []

-- what comes before a row of t
abbrev pub started : Option ℕ → ℕ → List Cmd
started o t = if is_open o t then [] else ended o ++ Begin t ∷ []

-- the commands that write the rows, and end the last transaction
abbrev pub row_commands : Option ℕ → List Row → List Cmd
row_commands o [] = ended o
row_commands o (r ∷ rows) = started o r.ts ++ (write_step r.ts r.key r.after).0 ∷ row_commands (Some r.ts) rows

-- the commands of the dump
abbrev pub dump_commands : List Effect → ℕ → List Cmd
dump_commands p m = map (λ (s : Step). s.0) (dump p m)

-- the same by rows
abbrev pub commands_by_row : List Effect → ℕ → List Cmd
commands_by_row p m = row_commands None (left_rows p m) ++ Close m ∷ Collect (horizon_of p) ∷ []
