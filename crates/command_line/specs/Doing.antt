-- What the program does: which job runs on which devices, and the exit status that it leaves (this project).
use Rattle.std.specs.Prelude.{ℕ, ◌≡◌, ◌≢◌, ◌⊎◌, ◌==◌, if◌then◌else◌, Option, Some, List, unwrap_or}
use Rattle.jobs.specs.declared.ending.End.{End}
use Rattle.follow.specs.declared.ending.FollowEnd.{FollowEnd}
use Rattle.follow.specs.Seeds.{IsSeedOf, IsUnseeded}
use Rattle.sessions.specs.Devices.{Reads, Writes}
use Rattle.clap.specs.declared.error.kind.ErrorKind.{ErrorKind}
use Rattle.jobs.specs.Ends.{IsAnswered, IsSilentAt, IsRun}
use Rattle.jobs.specs.Verdicts.{IsDumped, IsState, IsVerdict}
use Rattle.jobs.specs.Races.{IsRace}
use Rattle.follow.specs.declared.options.FollowOptions.{FollowOptions}
use Rattle.follow.specs.declared.seed.Seed.{Seed}
use Rattle.follow.specs.declared.seed.SeedError.{SeedError}
use Rattle.follow.specs.Ends.{CouldBegin, IsFollowed}
use Rattle.clap.specs.declared.error.kind.ErrorKind.TheVariants as kinds
use Rattle.jobs.specs.declared.ending.End.TheVariants as ends
use Rattle.follow.specs.declared.ending.FollowEnd.TheVariants as follow_ends
use Rattle.follow.specs.declared.options.Start.TheVariants as starts
use Rattle.command_line.specs.declared.arguments.Job.{Job}
use Rattle.command_line.specs.declared.following.Seeded.{Seeded}
use Rattle.command_line.specs.declared.arguments.Job.TheVariants as jobs

-- 0 where all was done, 2 for a faulty line, 3 for what is not right, and 1 where the program failed
abbrev pub status_of : End → ℕ
status_of ends.Done = 0
status_of (ends.Right events) = 0
status_of (ends.Faulty line fault) = 2
status_of (ends.No position) = 3
status_of _ = 1

-- 3 also where a transcript is right, and has another number of events than it is to have
abbrev pub status_of_check : Option ℕ → End → ℕ
status_of_check (Some wanted) (ends.Right events) = if events == wanted then 0 else 3
status_of_check _ end = status_of end

-- the same of a follower, to which an input without a message is no failure
abbrev pub status_of_follower : FollowEnd → ℕ
status_of_follower follow_ends.Done = 0
status_of_follower follow_ends.NoMessages = 0
status_of_follower (follow_ends.Fault line fault) = 2
status_of_follower _ = 1

-- words were refused: clap answered them neither with help nor with the version
abbrev pub IsRefusal : ErrorKind → Type 0
IsRefusal kind = (kind ≢ kinds.DisplayHelp) × (kind ≢ kinds.DisplayVersion)

-- words were answered with help or with the version
abbrev pub IsShown : ErrorKind → Type 0
IsShown kind = (kind ≡ kinds.DisplayHelp) ⊎ (kind ≡ kinds.DisplayVersion)

-- what is followed from a seed on: the seed's span, timestamp and rows, and all else as it was asked for
abbrev pub options_from : Seeded → Seed → FollowOptions
options_from asked seed = record {
  span = seed.span;
  start = starts.Seed seed.cursor seed.rows;
  feed = asked.feed;
  shown = asked.shown;
  complete = asked.complete;
  format = asked.format;
}

-- a job ended, by one of these ends, and left the end's status
abbrev pub HasEnded : (End → Type 0) → (status : ℕ) → Type 0
HasEnded ended status = (end : End) × ended end × (status ≡ status_of end)

-- the answer to the whole input was written, unless a device or memory failed; where memory ran out, nothing was
abbrev pub HasAnswered : (List ℕ → End → List ℕ → Type 0) → Reads → Reads → Writes → Writes → (status : ℕ) → Type 0
HasAnswered answers r r' w w' status = HasEnded (λ end. IsAnswered answers r r' w w' end × IsSilentAt end w w') status

-- a feed was followed
abbrev pub HasFollowed : FollowOptions → Reads → Reads → Writes → Writes → (status : ℕ) → Type 0
HasFollowed options r r' w w' status =
    (end : FollowEnd) × IsFollowed options r r' w w' end × CouldBegin options r r' end × (status ≡ status_of_follower end)

-- a feed was followed from the seed of a text on; or the text has none, and then nothing was read or written
abbrev pub HasFollowedSeed : Seeded → (seed : List ℕ) → Reads → Reads → Writes → Writes → (status : ℕ) → Type 0
HasFollowedSeed asked seed r r' w w' status =
    ((found : Seed) × IsSeedOf seed found × HasFollowed (options_from asked found) r r' w w' status)
    ⊎ ((error : SeedError) × IsUnseeded seed error × (r' ≡ r) × (w' ≡ w) × (status ≡ 1))

-- what a job did on its devices, where the file that it names, if any, has this text, and the status that it left
abbrev pub Did : Job → (seed : List ℕ) → Reads → Reads → Writes → Writes → (status : ℕ) → Type 0
Did (jobs.Run config format) seed r r' w w' status = HasEnded (λ end. IsRun format config r r' w w' end) status
Did (jobs.Race options) seed r r' w w' status = HasEnded (λ end. IsAnswered (IsRace options) r r' w w' end) status
Did (jobs.Check wanted) seed r r' w w' status = (end : End) × IsAnswered IsVerdict r r' w w' end × IsSilentAt end w w' × (status ≡ status_of_check wanted end)
Did (jobs.State detail) seed r r' w w' status = HasAnswered (IsState detail) r r' w w' status
Did (jobs.Dump at) seed r r' w w' status = HasAnswered (IsDumped (unwrap_or at 0)) r r' w w' status
Did (jobs.Follow options) seed r r' w w' status = HasFollowed options r r' w w' status
Did (jobs.FollowSeed asked) seed r r' w w' status = HasFollowedSeed asked seed r r' w w' status
