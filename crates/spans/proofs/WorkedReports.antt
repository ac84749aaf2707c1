-- Worked reports, each computed from the definitions: what holds a collection, and through where a feed's consumer knows that
-- all was told.
use Rattle.std.specs.Prelude.{◌≡◌, ℕ, List, [], ◌∷◌, Some, None, refl}
use Rattle.spans.specs.declared.calls.commands.Cmd.{Cmd}
use Rattle.spans.specs.declared.calls.commands.Cmd.TheVariants.{Begin, Put, Del, Commit, Close, CloseHard, Protect, Release, Collect, Open, OpenInitial, OpenEvery, Poll, Cancel}
use Rattle.spans.specs.declared.report.Holder.TheVariants.{Closed, Protection, Feed}
use Rattle.spans.specs.Effects.{Effect, effect}
use Rattle.spans.specs.Answer.{answer_of}
use Rattle.spans.specs.Feeds.{told_to}
use Rattle.spans.specs.Completeness.{complete_after}
use Rattle.spans.specs.Report.{limit, limit_of, removable_of}
use Rattle.spans.proofs.WorkedHistories.{a, b, c, one, whole}

-- what calls of seats did, after the effects p
abbrev pub after : List Effect → List (ℕ × Cmd) → List Effect
after p [] = p
after p (call ∷ calls) = after (effect call.0 call.1 (answer_of p call.0 call.1) ∷ p) calls

-- a feed that lags: a row of 10 was told, so it is complete through 9, and holds there
abbrev lagging : List Effect
lagging = after [] ((0, Begin 5) ∷ (0, Put 5 a one) ∷ (0, Commit 5) ∷ (0, Begin 10) ∷ (0, Put 10 a one) ∷ (0, Commit 10) ∷ (0, Begin 20) ∷ (0, Put 20 a one) ∷ (0, Commit 20)
    ∷ (0, Open whole 5) ∷ (0, Close 30) ∷ (0, Poll 1 1) ∷ (0, Collect 30) ∷ [])

pub lagging_feed : (limit_of lagging ≡ limit 9 (Feed 1)) × (complete_after 5 5 (told_to lagging 1) ≡ Some 9)
lagging_feed = (refl, refl)

-- a feed that has caught up and closed hold at one timestamp: closed is named. A protection above closed holds nothing
abbrev caught_up : List Effect
caught_up = after lagging ((0, Poll 1 9) ∷ (2, Protect 40) ∷ [])

pub held_by_closed : limit_of caught_up ≡ limit 30 Closed
held_by_closed = refl

-- a protection holds where it protects
abbrev protected : List Effect
protected = after [] ((1, Begin 50) ∷ (1, Put 50 b one) ∷ (2, CloseHard 20) ∷ (1, Commit 50) ∷ (2, Close 50) ∷ (2, Protect 20) ∷ (2, Collect 50) ∷ [])

pub held_by_protection : limit_of protected ≡ limit 20 (Protection 1)
held_by_protection = refl

-- two protections and two feeds hold at one timestamp: the protection of the least number is named. What was released or
-- cancelled holds nothing. A collection would drop the versions of 3, and the delete of 5
abbrev tied : List Effect
tied = after [] ((0, Begin 3) ∷ (0, Put 3 a one) ∷ (0, Put 3 b one) ∷ (0, Commit 3) ∷ (0, Begin 5) ∷ (0, Put 5 a one) ∷ (0, Del 5 b) ∷ (0, Commit 5) ∷ (0, Begin 9) ∷ (0, Put 9 a one) ∷ (0, Commit 9) ∷ (0, Close 10)
    ∷ (1, Open (record { lo = Some b; hi = None }) 2) ∷ (1, Open whole 6) ∷ (2, Protect 4) ∷ (2, Protect 6) ∷ (2, Protect 6) ∷ (2, Release 1) ∷ (1, Cancel 1) ∷ (1, OpenEvery (record { lo = None; hi = Some c }) 6 4) ∷ [])

pub ties : (limit_of tied ≡ limit 6 (Protection 2)) × (removable_of tied ≡ 3)
ties = (refl, refl)

-- without the protections the feed of the least number is named
abbrev feeds_tied : List Effect
feeds_tied = after tied ((2, Release 2) ∷ (2, Release 3) ∷ [])

pub least_feed_named : limit_of feeds_tied ≡ limit 6 (Feed 2)
least_feed_named = refl

-- in the middle of its snapshot an initial feed has told no map, and holds at its cursor
abbrev in_snapshot : List Effect
in_snapshot = after [] ((0, Begin 5) ∷ (0, Put 5 a one) ∷ (0, Put 5 b one) ∷ (0, Put 5 c one) ∷ (0, Commit 5) ∷ (0, Close 9) ∷ (1, OpenInitial whole 7) ∷ (1, Poll 1 2) ∷ [])

pub no_map_yet : (limit_of in_snapshot ≡ limit 7 (Feed 1)) × (complete_after 6 7 (told_to in_snapshot 1) ≡ None)
no_map_yet = (refl, refl)
