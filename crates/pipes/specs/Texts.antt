-- Which histories have a text that is read again (this project's own).
use Rattle.std.specs.Prelude.{ℕ, List, ◌<◌, ◌≡◌, codes, true}
use Rattle.pipes.specs.Prelude.{All, Event, Format, IsCommand, ServeEnd, transcript_text}
use Rattle.sessions.specs.Runs.{IsHistory}
use Rattle.sessions.specs.declared.ending.ServeEnd.TheVariants as run
use Rattle.jobs.specs.Verdicts.{IsVerdict, is_right}
use Rattle.jobs.specs.declared.ending.End.{End}

-- the session and the command of an event keep the limits of a format
abbrev pub KeepsFormat : Format → Event → Type 0
KeepsFormat format e = (e.seat < 64) × IsCommand format e.cmd

-- One history from a position on, the oldest event first, whose commands keep the limits. Its answers are right, and no
-- more is asked of them: one with a key that no command wrote, or with a count above 64 bits, would contradict the law
pub record IsWritable (format : Format) (first : ℕ) (events : List Event) : Type 0 where
  pub history : IsHistory first events
  pub commands : All (KeepsFormat format) events

-- `check` says `yes` of the text, and nothing else: each line of a text is without fault, and each event is right
abbrev pub SaysYes : List ℕ → Type 0
SaysYes text = (end : End) (out : List ℕ) → IsVerdict text end out → (is_right end ≡ true) × (out ≡ codes "yes\n")

-- at these ends the output of a run is the text of whole events, and of nothing else. At the others a line stands behind
-- them, or one of them is cut, or nothing was begun
abbrev pub IsWholeAt : ServeEnd → Type 0
IsWholeAt run.Done = Unit {0}
IsWholeAt run.Input = Unit {0}
IsWholeAt run.Memory = Unit {0}
IsWholeAt _ = ⊥

-- the text is that of a history that has one
pub record IsTranscript (text : List ℕ) : Type 0 where
  pub format : Format
  pub first : ℕ
  pub events : List Event
  pub writable : IsWritable format first events
  pub is : text ≡ transcript_text format events
