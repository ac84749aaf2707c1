-- What a database holds of a history, and what the contracts are said with.
use Rattle.std.specs.Prelude.{List, ◌≡◌, ◌-◌, ◌^◌, min, ℕ, ◌∷◌, ◌<◌, length, true}
use Rattle.plain_database.specs.Prelude.{Cmd, Effect, Event, IsLegal, effects_of, horizon_of, IsRightEvent, Reply, answer_of, event, is_accepted, may_lack_memory}
use Rattle.plain_database.specs.FeedTie.{FeedsTied}
use Rattle.plain_database.specs.ProtectionTie.{ProtectionsTied}
use Rattle.plain_database.specs.VersionsTied.{dead_then, passed_then, VersionsTied}
use Rattle.plain_database.specs.declared.database.PlainDatabase.{PlainDatabase}

-- each part says what the definitions say of p
abbrev pub IsTied : PlainDatabase → List Effect → Type 0
IsTied db p = record {
  versions : VersionsTied db.versions p;
  passed : db.passed ≡ min (passed_then p) (2 ^ 64 - 1);
  horizon_at : db.horizon ≡ horizon_of p;
  dead_count : db.dead ≡ min (dead_then p) (2 ^ 64 - 1);
  feeds : FeedsTied db.feeds p;
  protections : ProtectionsTied db.protections p;
}

-- the database is what a legal history led to, whose newest event stands first
pub record StandsFor (db : PlainDatabase) (h : List Event) : Type 0 where
  pub legal : IsLegal h
  pub tied : IsTied db (effects_of h)

-- this holds of the effects of each history that the database stands for
abbrev pub AfterEach : PlainDatabase → (List Effect → Type 0) → Type 0
AfterEach db P = (h : List Event) → StandsFor db h → P (effects_of h)

-- the same, of each history whose events a `u64` can count
abbrev pub AfterCounted : PlainDatabase → (List Effect → Type 0) → Type 0
AfterCounted db P = (h : List Event) → StandsFor db h → length h < 18446744073709551615 → P (effects_of h)

-- a seat in the place of all, for a command that is answered alike whoever gives it
abbrev pub any_seat : ℕ
any_seat = 0

-- after each history that the database stands for, this is the answer to the seat's command
abbrev pub Answers : PlainDatabase → ℕ → Cmd → Reply → Type 0
Answers db seat cmd reply = (h : List Event) → StandsFor db h → reply ≡ answer_of (effects_of h) seat cmd

-- the same, after each history whose events a `u64` can count
abbrev pub AnswersCounted : PlainDatabase → ℕ → Cmd → Reply → Type 0
AnswersCounted db seat cmd reply =
    (h : List Event) → StandsFor db h → length h < 18446744073709551615 → reply ≡ answer_of (effects_of h) seat cmd

-- the answer is no refusal
abbrev pub Accepts : PlainDatabase → ℕ → Cmd → Type 0
Accepts db seat cmd = (h : List Event) → StandsFor db h → is_accepted (answer_of (effects_of h) seat cmd) ≡ true

-- the answer is no refusal, and the command may lack memory
abbrev pub MayLackMemory : PlainDatabase → ℕ → Cmd → Type 0
MayLackMemory db seat cmd =
    (h : List Event) → StandsFor db h → (is_accepted (answer_of (effects_of h) seat cmd) ≡ true) × (may_lack_memory cmd ≡ true)

-- where the database stands for a history after which the seat's reply is right, the other stands for both together
abbrev pub Records : PlainDatabase → ℕ → Cmd → Reply → PlainDatabase → Type 0
Records db seat cmd reply db' =
    (h : List Event) (n : ℕ) → StandsFor db h → IsRightEvent (effects_of h) (event n seat cmd reply)
    → StandsFor db' (event n seat cmd reply ∷ h)
