-- The example that the crate's page draws, worked.
use Rattle.std.specs.Prelude.{ℕ, List, [], ◌∷◌, ◌≡◌, map, take, None, refl}
use Rattle.restarts.specs.Prelude.{Begin, Cancelled, Close, Closed, Collect, Collected, Commit, Committed, Del, Event, Open, Opened, Poll, Put, Span, Started, Written, effects_of, event}
use Rattle.restarts.specs.Running.{run, crash}
use Rattle.restarts.specs.Dump.{dump, rebuilt}
use Rattle.restarts.specs.Restart.{renumbered}

abbrev a : List ℕ
a = 97 ∷ []

abbrev b : List ℕ
b = 98 ∷ []

abbrev one : List ℕ
one = 49 ∷ []

abbrev two : List ℕ
two = 50 ∷ []

abbrev all_keys : Span
all_keys = record { lo = None; hi = None }

-- 10 wrote a, 20 wrote a and b, 25 deleted b, 30 has begun and written; 20 is closed and collected; a feed is open
abbrev history : List Event
history = run [] (
    Begin 10 ∷ Put 10 a one ∷ Commit 10 ∷ Begin 20 ∷ Put 20 b one ∷ Put 20 a two ∷ Commit 20 ∷ Begin 25 ∷ Del 25 b ∷ Commit 25
    ∷ Begin 30 ∷ Put 30 a one ∷ Close 20 ∷ Collect 20 ∷ Open all_keys 20 ∷ [])

-- the version of 10 is dead and that of 30 undecided. The others are written again, keys rising, the delete too
pub dumped : dump (effects_of history) 30 ≡
    (Begin 20, Started) ∷ (Put 20 a two, Written) ∷ (Put 20 b one, Written) ∷ (Commit 20, Committed 2)
    ∷ (Begin 25, Started) ∷ (Del 25 b, Written) ∷ (Commit 25, Committed 1)
    ∷ (Close 30, Closed 30 0) ∷ (Collect 20, Collected 20 0) ∷ []
dumped = refl

-- and each is given the answer that is foreseen
pub answered : run [] (Begin 20 ∷ Put 20 a two ∷ Put 20 b one ∷ Commit 20 ∷ Begin 25 ∷ Del 25 b ∷ Commit 25 ∷ Close 30 ∷ Collect 20 ∷ []) ≡ rebuilt history 30
answered = refl

-- the crash, its last event first
pub crashed : map (λ (e : Event). e.reply) (take 2 (crash history 30)) ≡ Cancelled ∷ Closed 30 1 ∷ []
crashed = refl

-- the first feed of the rebuilt database is the second one after the crash
pub numbered : renumbered history 30 (event 9 0 (Poll 1 5) (Opened 1)) ≡ event 17 0 (Poll 2 5) (Opened 2)
numbered = refl
