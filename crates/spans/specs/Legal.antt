-- Which histories are legal, and which lists of events have no gap. Mind the order: IsLegal takes the newest event first,
-- IsGapless the oldest.
use Rattle.std.specs.Prelude.{ℕ, suc, List, [], ◌∷◌, Bool, true, false, ◌≡◌, ◌⊎◌}
use Rattle.spans.specs.declared.calls.commands.Cmd.{Cmd}
use Rattle.spans.specs.declared.calls.commands.Cmd.TheVariants.{Commit, Abort, Close, CloseHard, Release, Cancel, Stats}
use Rattle.spans.specs.declared.calls.replies.Reply.{Reply}
use Rattle.spans.specs.declared.calls.replies.Reply.TheVariants.{Refused}
use Rattle.spans.specs.declared.calls.replies.Refusal.TheVariants.{NoMemory}
use Rattle.spans.specs.declared.calls.events.Event.{Event}
use Rattle.spans.specs.Effects.{Effect, effects_of}
use Rattle.spans.specs.Answer.{answer_of}

-- the reply is no refusal
abbrev pub is_accepted : Reply → Bool
is_accepted (Refused r) = false
is_accepted reply = true

-- the command may want memory, and find none
abbrev pub may_lack_memory : Cmd → Bool
may_lack_memory (Commit t) = false
may_lack_memory (Abort t) = false
may_lack_memory (Close to) = false
may_lack_memory (CloseHard to) = false
may_lack_memory (Release id) = false
may_lack_memory (Cancel f) = false
may_lack_memory Stats = false
may_lack_memory cmd = true

-- the reply is the answer after p, or out of memory in the place of one that is no refusal
abbrev pub IsRightEvent : List Effect → Event → Type 0
IsRightEvent p e =
    (e.reply ≡ answer_of p e.seat e.cmd)
    ⊎ ((e.reply ≡ Refused NoMemory) × (is_accepted (answer_of p e.seat e.cmd) ≡ true) × (may_lack_memory e.cmd ≡ true))

-- every reply of the history, the newest first, is right after the events before it
abbrev pub IsLegal : List Event → Type 0
IsLegal [] = Unit {0}
IsLegal (e ∷ h) = IsRightEvent (effects_of h) e × IsLegal h

-- the positions of a list of events, the oldest first, run from n on without a gap
abbrev pub IsGapless : ℕ → List Event → Type 0
IsGapless n [] = Unit {0}
IsGapless n (e ∷ es) = (e.position ≡ n) × IsGapless (suc n) es
