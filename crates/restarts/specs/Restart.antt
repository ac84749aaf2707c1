-- What the law of restarts is said with. Feeds and protections are numbered from 1 on: after a crash the numbers go on,
-- and after a dump they begin anew (this project).
use Rattle.std.specs.Prelude.{ℕ, zero, suc, List, ◌+◌, ◌-◌, length, [], ◌++◌, map, true, ◌≡◌, ◌≤◌, ◌↔◌, is_some}
use Rattle.spans.specs.Feeds.{feeds_opened}
use Rattle.timestamps.specs.declared.ts.TheConstants.{MAX}
use Rattle.spans.specs.Serial.{map_at}
use Rattle.restarts.specs.Prelude.{Cancel, Cmd, Event, Opened, Poll, Protected, Release, Reply, effects_of, event, protections_made, Effect, IsLegal, Span, closed_of, horizon_of, owner_of, stream_of}
use Rattle.restarts.specs.Dump.{rebuilt, dump, mark_of}
use Rattle.restarts.specs.Running.{crash, Step, run}

-- a number where there have been n before. 0 is nobody's
abbrev pub number_from : ℕ → ℕ → ℕ
number_from n zero = zero
number_from n (suc f) = suc (n + f)

-- the command with its feed numbered after n feeds, and its protection after m protections
abbrev pub renumbered_cmd : (n m : ℕ) → Cmd → Cmd
renumbered_cmd n m (Release id) = Release (number_from m id)
renumbered_cmd n m (Poll f max) = Poll (number_from n f) max
renumbered_cmd n m (Cancel f) = Cancel (number_from n f)
renumbered_cmd n m cmd = cmd

-- the reply likewise
abbrev pub renumbered_reply : (n m : ℕ) → Reply → Reply
renumbered_reply n m (Protected id) = Protected (number_from m id)
renumbered_reply n m (Opened f) = Opened (number_from n f)
renumbered_reply n m reply = reply

-- an event after the dump's run, as it is after the crash: its position as much later as the history is longer, its feed
-- after those that the history opened, its protection after those that it made
abbrev pub renumbered : List Event → ℕ → Event → Event
renumbered h m e =
    event ((e.position + length (crash h m)) - length (rebuilt h m)) e.seat
    (renumbered_cmd (feeds_opened (effects_of h)) (protections_made (effects_of h)) e.cmd)
    (renumbered_reply (feeds_opened (effects_of h)) (protections_made (effects_of h)) e.reply)

-- h is a legal history, and m is a timestamp at or above closed and each timestamp that began. (Below one that began and is
-- forgotten, a transaction might begin twice.)
pub record CanRestart (h : List Event) (m : ℕ) : Type 0 where
  pub legal : IsLegal h
  pub in_range : m ≤ MAX
  pub closed : closed_of (effects_of h) ≤ m
  pub begun : (t : ℕ) → is_some (owner_of (effects_of h) t) ≡ true → t ≤ m

-- it holds of each such history and timestamp
abbrev pub EachRestart : (List Event → ℕ → Type 0) → Type 0
EachRestart P = (h : List Event) (m : ℕ) → CanRestart h m → P h m

-- the effects of the dump's run
abbrev pub rebuilt_effects : List Event → ℕ → List Effect
rebuilt_effects h m = effects_of (rebuilt h m)

-- the commands of the dump, run on a database that is empty, are given the answers that are foreseen
abbrev pub AreForeseen : List Event → ℕ → Type 0
AreForeseen h m = run [] (map (λ (s : Step). s.0) (dump (effects_of h) m)) ≡ rebuilt h m

-- from the horizon on, also above closed, the maps are those of h
abbrev pub MapsAreSame : List Event → ℕ → Type 0
MapsAreSame h m = (t : ℕ) (x : List ℕ) → horizon_of (effects_of h) ≤ t → map_at (rebuilt_effects h m) t x ≡ map_at (effects_of h) t x

-- and so are the streams of each span from a cursor on
abbrev pub StreamsAreSame : List Event → ℕ → Type 0
StreamsAreSame h m = (span : Span) (cursor t : ℕ) → horizon_of (effects_of h) ≤ cursor → stream_of (rebuilt_effects h m) span cursor t ≡ stream_of (effects_of h) span cursor t

-- events, the newest first, are legal after the dump's run exactly where they are, renumbered, after the crash
abbrev pub GoesOnAlike : List Event → ℕ → Type 0
GoesOnAlike h m = (es : List Event) → IsLegal (es ++ rebuilt h m) ↔ IsLegal (map (renumbered h m) es ++ crash h m)

-- there is such a timestamp at or above each that is in range: a dump may close there
abbrev pub HasMark : List Event → ℕ → Type 0
HasMark h n = IsLegal h → n ≤ MAX → CanRestart h (mark_of (effects_of h) n) × (n ≤ mark_of (effects_of h) n)
