-- The limit of a report is the limit of its history.
use Rattle.spans.proofs.FeedFloors.{live_is}
use Rattle.spans.proofs.Members.{all_of}
use Rattle.spans.proofs.Common.{All-append, All-cons, All-head, All-nil, All-tail, common_steps, reverse-append}
use Rattle.std.proofs.Common.{◌≡◌, Bool, List, [], ◌∷◌, ◌++◌, map, reverse, Some, refl, sym, ◌∙◌, ap, subst, arith}
use Rattle.std.specs.Prelude.{All, nat_lt, if◌then◌else◌}
use Rattle.spans.specs.declared.calls.events.Event.{Event}
use Rattle.spans.specs.declared.report.Limit.{Limit}
use Rattle.spans.specs.declared.report.Report.{Report}
use Rattle.spans.specs.declared.report.FeedReport.{FeedReport}
use Rattle.spans.specs.Effects.{Effect, effects_of}
use Rattle.spans.specs.Feeds.{Feed, feed_of}
use Rattle.spans.specs.Collection.{Protection, LiveFeed, live_feeds, protections_of}
use Rattle.spans.specs.Legal.{IsLegal}
use Rattle.spans.specs.Report.{first_least, protection_limit, feed_limit, limit_of, protection_report, IsFeedReport, IsReport, told_protection, told_feed, limit_in}
use Rattle.spans.proofs.Copies.{AllAllowed}
use Rattle.spans.proofs.Legal.{legal_allowed}

-- a list was gone through after another
pub first_least-append : (l : Limit) (ms ns : List Limit) → first_least l (ms ++ ns) ≡ first_least (first_least l ms) ns
first_least-append l [] ns = refl
first_least-append l (m ∷ ms) ns = first_least-append (if nat_lt m.at l.at then m else l) ms ns

-- what holds of all, in the other order
pub All-reverse : {X : Type 0} (P : X → Type 0) (xs : List X) → All P xs → All P (reverse xs)
All-reverse P [] all = all
All-reverse P (x ∷ xs) all = subst (All P) (sym (reverse-append (x ∷ []) xs)) (All-append P (reverse xs) (x ∷ []) (All-reverse P xs (All-tail P x xs all)) (All-cons P x [] (All-head P x xs all) (All-nil P)))

-- a live feed was opened at its cursor
abbrev pub WasOpened : List Effect → LiveFeed → Type 0
WasOpened p w = (feed : Feed) × (feed_of p w.number ≡ Some feed) × (feed.cursor ≡ w.cursor)

pub lives_opened : (p : List Effect) → AllAllowed p → All (WasOpened p) (live_feeds p)
lives_opened p all = all_of (WasOpened p) (live_feeds p) (λ w i. let l = live_is p all w.number w.cursor i in (l.0, l.1, l.3))

-- the protections of a report hold as those of its history
pub protection_limits : (ps : List Protection) → map told_protection (map protection_report ps) ≡ map protection_limit ps
protection_limits [] = refl
protection_limits (n ∷ ps) = ap (λ l. protection_limit n ∷ l) (protection_limits ps)

-- a feed of a report holds as that of its history
feed_holds : (whole : Bool) (p : List Effect) (n : FeedReport) (w : LiveFeed) → n.number ≡ w.number → IsFeedReport whole p n → WasOpened p w → told_feed n ≡ feed_limit p w
feed_holds whole p n w same r o = grind (arith, common_steps)

pub feed_limits : (whole : Bool) (p : List Effect) (ns : List FeedReport) (ws : List LiveFeed) → map (λ (n : FeedReport). n.number) ns ≡ map (λ (n : LiveFeed). n.number) ws
    → All (IsFeedReport whole p) ns → All (WasOpened p) ws → map told_feed ns ≡ map (feed_limit p) ws
feed_limits whole p [] [] e rs os = refl
feed_limits whole p [] (w ∷ ws) e rs os = absurd cc
feed_limits whole p (n ∷ ns) [] e rs os = absurd cc
feed_limits whole p (n ∷ ns) (w ∷ ws) e rs os =
    let here = feed_holds whole p n w (cc) (All-head (IsFeedReport whole p) n ns rs) (All-head (WasOpened p) w ws os) in
    let more = feed_limits whole p ns ws (cc) (All-tail (IsFeedReport whole p) n ns rs) (All-tail (WasOpened p) w ws os) in
    rw (here, more) refl

-- the limit that is found in a report of a legal history
pub report_limit : (h : List Event) → IsLegal h → (whole : Bool) (r : Report) → IsReport whole (effects_of h) r → limit_in r ≡ limit_of (effects_of h)
report_limit h legal whole r is =
    let p = effects_of h in
    let ps = map protection_limit (reverse (protections_of p)) in
    let fs = map (feed_limit p) (reverse (live_feeds p)) in
    let protections : map told_protection r.protections.items ≡ ps = ap (map told_protection) is.protections ∙ protection_limits (reverse (protections_of p)) in
    let feeds : map told_feed r.feeds.items ≡ fs = feed_limits whole p r.feeds.items (reverse (live_feeds p)) is.feeds.numbers is.feeds.right (All-reverse (WasOpened p) (live_feeds p) (lives_opened p (legal_allowed h legal))) in
    grind (arith, common_steps)
