-- A history that goes on: with steps whose answers are foreseen, with commands that are answered, and with a crash, by
-- commands that leave of a database what a restart does (this project).
use Rattle.std.specs.Prelude.{List, [], ◌∷◌, length, ℕ, ◌++◌, map}
use Rattle.spans.specs.Answer.{answer_of}
use Rattle.restarts.specs.Prelude.{Cmd, Event, Reply, effects_of, event, Cancel, CloseHard, Effect, LiveFeed, Protection, Release, live_feeds, protections_of}

-- a command with the answer that is foreseen
abbrev pub Step : Type 0
Step = Cmd × Reply

-- the history with the steps after it, all of seat 0, the first of them first
abbrev pub with_steps : List Event → List Step → List Event
with_steps h [] = h
with_steps h (s ∷ steps) = with_steps (event (length h) 0 s.0 s.1 ∷ h) steps

-- the history with the commands after it, all of seat 0, each with its answer
abbrev pub run : List Event → List Cmd → List Event
run h [] = h
run h (cmd ∷ cmds) = run (event (length h) 0 cmd (answer_of (effects_of h) 0 cmd) ∷ h) cmds

-- nothing is undecided any more, no feed lives, and no protection stands. Any seat may give each of these commands
abbrev pub crash_commands : List Effect → ℕ → List Cmd
crash_commands p m = CloseHard m ∷ map (λ (n : LiveFeed). Cancel n.number) (live_feeds p) ++ map (λ (n : Protection). Release n.id) (protections_of p)

-- the history with the crash, which closes at m
abbrev pub crash : List Event → ℕ → List Event
crash h m = run h (crash_commands (effects_of h) m)
