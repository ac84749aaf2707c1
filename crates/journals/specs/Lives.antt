-- Lives: a database is recovered from what the disk has, goes on, and crashes again (this project).
use Rattle.std.specs.Prelude.{ℕ, suc, List, [], ◌∷◌, ◌++◌, map, Option, Some, None, true, ◌≡◌, ◌≤◌, is_some}
use Rattle.timestamps.specs.declared.ts.TheConstants.{MAX}
use Rattle.journals.specs.Prelude.{Cmd, Event, IsLegal, closed_of, owner_of}
use Rattle.journals.specs.Recorded.{recovered}
use Rattle.journals.specs.Batches.{AreInOrder, Noted, did, events_of, lines_beyond}
use Rattle.journals.specs.Copies.{Copy, IsCopied, copy_lines}

-- what was noted in a life; how many batches the disk kept when it ended, and the mark of the last one; and the copy
-- that stands there for all before it, where one was finished
pub record Life : Type 0 where
  pub later : List Noted
  pub kept : ℕ
  pub mark : ℕ
  pub copy : Option Copy

-- what a recovery has is on the disk
abbrev pub all_synced : List Event → ℕ → List Noted
all_synced h k = map (λ e. record { event = e; batch = k }) h

-- what the next life begins with, by the lines on the disk
abbrev pub base_of : List Cmd → List Life → List Noted
base_of lines [] = []
base_of lines (l ∷ ls) = all_synced (recovered lines l.mark) l.kept

-- the disk after a life that began with these lines on it
abbrev pub disk_of : Life → Option Copy → List Cmd → List Noted → List Cmd
disk_of l None lines base = lines ++ lines_beyond l.kept l.later base
disk_of l (Some c) lines base = copy_lines c ++ lines_beyond l.kept c.later c.first

-- the lines on the disk after lives, the latest first
abbrev pub disk : List Life → List Cmd
disk [] = []
disk (l ∷ ls) = disk_of l l.copy (disk ls) (base_of (disk ls) ls)

-- all below the first number is in the copy that is on the disk, and its horizon is the second one
abbrev pub copied_of : Option Copy → ℕ × ℕ → ℕ × ℕ
copied_of None before = before
copied_of (Some c) before = (suc c.to, c.horizon)

abbrev pub copied : List Life → ℕ × ℕ
copied [] = (0, 0)
copied (l ∷ ls) = copied_of l.copy (copied ls)

-- what is there then
abbrev pub there : Life → List Life → List Event
there l ls = recovered (disk (l ∷ ls)) l.mark

-- all that the life l has, after the others
abbrev pub noted : Life → List Life → List Noted
noted l ls = l.later ++ base_of (disk ls) ls

-- a process has answered these events, and m, the mark of the last batch that the disk kept, is at or above closed and all
-- that began: a call above the mark that is synced isn't made
pub record CanCrash (ns : List Noted) (m : ℕ) : Type 0 where
  pub legal : IsLegal (events_of ns)
  pub ordered : AreInOrder ns
  pub in_range : m ≤ MAX
  pub closed : closed_of (did ns) ≤ m
  pub begun : (t : ℕ) → is_some (owner_of (did ns) t) ≡ true → t ≤ m

-- the batches that the disk kept
abbrev pub kept_of : List Life → ℕ
kept_of [] = 0
kept_of (l ∷ ls) = l.kept

abbrev pub IsStood : (ns : List Noted) → Option Copy → ℕ → Type 0
IsStood ns None k = Unit {0}
IsStood ns (Some c) k = IsCopied ns c k

-- each could crash where it did, lost no batch that was there when it began, and its copy is right
abbrev pub AreLives : List Life → Type 0
AreLives [] = Unit {0}
AreLives (l ∷ ls) = CanCrash (noted l ls) l.mark × (kept_of ls ≤ l.kept) × IsStood (noted l ls) l.copy l.kept × AreLives ls

-- it holds of each life's end, whatever lives came before it
abbrev pub EachLife : (Life → List Life → Type 0) → Type 0
EachLife P = (l : Life) (ls : List Life) → AreLives (l ∷ ls) → P l ls
