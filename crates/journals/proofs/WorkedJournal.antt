-- The example that the crate's page draws, worked.
use Rattle.std.specs.Prelude.{ℕ, List, [], ◌∷◌, ◌++◌, ◌≡◌, ◌≤◌, ◌==◌, if◌then◌else◌, is_some, true, Some, None, drop, map, refl, take}
use Rattle.spans.specs.declared.calls.commands.Cmd.TheVariants.{Get}
use Rattle.spans.specs.declared.calls.replies.Reply.TheVariants.{Found}
use Rattle.journals.specs.Prelude.{Abort, Aborted, Begin, Close, CloseHard, Cmd, Collect, Commit, Committed, Event, Put, closed_of, effects_of, event, map_at, run}
use Rattle.journals.specs.Batches.{Noted, kept_part, lines_beyond, rests_on}
use Rattle.std.proofs.Common.{arith}
use Rattle.restarts.proofs.Common.{by_test, common_steps, nat_tests}
use Rattle.journals.proofs.Running.{run_legal}
use Rattle.journals.specs.Lives.{AreLives, Life, disk, there}
use Rattle.journals.specs.OneHistory.{survivors, whole}

abbrev a : List ℕ
a = 97 ∷ []

abbrev b : List ℕ
b = 98 ∷ []

abbrev one : List ℕ
one = 49 ∷ []

abbrev two : List ℕ
two = 50 ∷ []

-- the events with the numbers of their batches, the newest first
abbrev numbered : List Event → List ℕ → List Noted
numbered (e ∷ es) (n ∷ ns) = record { event = e; batch = n } ∷ numbered es ns
numbered es ns = []

abbrev commands : List Cmd
commands = Begin 10 ∷ Put 10 a one ∷ Commit 10 ∷ Begin 20 ∷ Get 20 a ∷ Put 20 b two ∷ []

abbrev all_but_the_last : List Noted
all_but_the_last = numbered (run [] commands) (2 ∷ 1 ∷ 1 ∷ 1 ∷ 1 ∷ 1 ∷ [])

abbrev all : List Noted
all = numbered (run [] (commands ++ Commit 20 ∷ [])) (2 ∷ 2 ∷ 1 ∷ 1 ∷ 1 ∷ 1 ∷ 1 ∷ [])

pub written : lines_beyond 2 all [] ≡ Begin 10 ∷ Put 10 a one ∷ Commit 10 ∷ Begin 20 ∷ Put 20 b two ∷ Commit 20 ∷ []
written = refl

-- the read rests on the first batch, and the commit on the second
pub read_rests : rests_on (record { event = event 4 0 (Get 20 a) (Found (Some one)); batch = 1 }) (numbered (run [] (Begin 10 ∷ Put 10 a one ∷ Commit 10 ∷ Begin 20 ∷ [])) (1 ∷ 1 ∷ 1 ∷ 1 ∷ [])) ≡ 1
read_rests = refl

pub commit_rests : rests_on (record { event = event 6 0 (Commit 20) (Committed 1); batch = 2 }) all_but_the_last ≡ 2
commit_rests = refl

-- the second batch is lost
abbrev first : Life
first = record { later = all; kept = 1; mark = 25; copy = None }

pub left : disk (first ∷ []) ≡ Begin 10 ∷ Put 10 a one ∷ Commit 10 ∷ []
left = refl

pub kept : kept_part 1 all ≡ all_but_the_last
kept = refl

pub closed_there : closed_of (effects_of (there first [])) ≡ 25
closed_there = refl

pub a_there : map_at (effects_of (there first [])) 20 a ≡ Some one
a_there = refl

pub b_gone : map_at (effects_of (there first [])) 20 b ≡ None
b_gone = refl

-- of all that was told this is one history
pub aborted : survivors 1 all ≡ event 6 0 (Abort 20) Aborted ∷ run [] commands
aborted = refl

-- the next life writes b once more, and loses nothing
abbrev more : List Noted
more = numbered (take 3 (run (there first []) (Begin 30 ∷ Put 30 b two ∷ Commit 30 ∷ []))) (2 ∷ 2 ∷ 2 ∷ [])

abbrev second : Life
second = record { later = more; kept = 2; mark = 40; copy = None }

pub both : disk (second ∷ first ∷ []) ≡ Begin 10 ∷ Put 10 a one ∷ Commit 10 ∷ Begin 30 ∷ Put 30 b two ∷ Commit 30 ∷ []
both = refl

pub b_there : map_at (effects_of (there second (first ∷ []))) 30 b ≡ Some two
b_there = refl

-- and of both lives, each with its crash, this is
abbrev called : List Event → List (ℕ × Cmd)
called h = map (λ (e : Event). (e.position, e.cmd)) h

pub one_history : called (whole (second ∷ first ∷ []) []) ≡ (11, CloseHard 40)
    ∷ (10, Commit 30) ∷ (9, Put 30 b two) ∷ (8, Begin 30) ∷ (7, CloseHard 25) ∷ (6, Abort 20) ∷ (5, Put 20 b two) ∷ (4, Get 20 a) ∷ (3, Begin 20) ∷ (2, Commit 10) ∷ (1, Put 10 a one) ∷ (0, Begin 10) ∷ []
one_history = refl

-- a life in which 20 commits, closed comes to 25 and 30 commits. The copy was begun behind the first batch and ended when
-- closed had come to 25, so the second batch has lines that it has too
abbrev longer : List Noted
longer = numbered (run [] (commands ++ Commit 20 ∷ Close 25 ∷ Begin 30 ∷ Put 30 b two ∷ Commit 30 ∷ [])) (3 ∷ 3 ∷ 3 ∷ 2 ∷ 2 ∷ 2 ∷ 1 ∷ 1 ∷ 1 ∷ 1 ∷ 1 ∷ [])

abbrev copied : Life
copied = record { later = longer; kept = 3; mark = 40; copy = Some (record { first = drop 6 longer; later = take 6 longer; taken = λ t. drop 3 longer; to = 25; horizon = 0 }) }

pub copy_there : disk (copied ∷ []) ≡ Begin 10 ∷ Put 10 a one ∷ Commit 10 ∷ Begin 20 ∷ Put 20 b two ∷ Commit 20 ∷ Close 25 ∷ Collect 0
    ∷ Begin 20 ∷ Put 20 b two ∷ Commit 20 ∷ Begin 30 ∷ Put 30 b two ∷ Commit 30 ∷ []
copy_there = refl

begun_low : (t : ℕ) → is_some {T = ℕ} (if 30 == t then Some 0 else (if 20 == t then Some 0 else (if 10 == t then Some 0 else None))) ≡ true → t ≤ 40
begun_low t is = grind (arith, nat_tests, common_steps, by_test, is)

-- it is a life as the law has it
pub can_be : AreLives (copied ∷ [])
can_be = (
  record {
    legal = run_legal [] (commands ++ Commit 20 ∷ Close 25 ∷ Begin 30 ∷ Put 30 b two ∷ Commit 30 ∷ []) tt;
    ordered = (omega arith, (omega arith, (omega arith, (omega arith, (omega arith, (omega arith, (omega arith, (omega arith, (omega arith, (omega arith, (omega arith, tt)))))))))));
    in_range = omega arith;
    closed = omega arith;
    begun = λ t is. begun_low t is;
  },
  omega arith,
  record {
    parts = refl;
    taken = λ t. (take 3 longer, refl);
    behind = λ t. (drop 3 (take 6 longer), refl);
    begun = λ t is. grind (arith, nat_tests, common_steps, is);
    closed = λ t low. low;
    horizon = λ t. refl;
    low = omega arith;
    rests = λ t. omega arith;
  },
  tt,
)

-- a collection is recorded with where closed stood, and one that doesn't move isn't
pub collected : lines_beyond 1 (numbered (run [] (Begin 10 ∷ Put 10 a one ∷ Commit 10 ∷ Close 15 ∷ Collect 12 ∷ Collect 9 ∷ [])) (1 ∷ 1 ∷ 1 ∷ 1 ∷ 1 ∷ 1 ∷ [])) []
    ≡ Begin 10 ∷ Put 10 a one ∷ Commit 10 ∷ Close 15 ∷ Collect 12 ∷ []
collected = refl
