-- What an operator may ask of a history: how far it is closed and collected, what holds both back, and how far each feed has
-- come (this project). A whole report has two counts that an engine which forgets can't tell: the versions that a collection
-- would drop, and the rows that a feed has still to tell. A live report is one without them.
use Rattle.std.specs.Prelude.{ℕ, List, [], ◌∷◌, ◌++◌, ◌-◌, map, reverse, length, All, Contains, Bool, true, nat_lt, if◌then◌else◌, Option, Some, None, ◌≡◌, ◌↔◌}
use Rattle.std.specs.List.Sorted.{IsStrictlyIncreasing}
use Rattle.spans.specs.declared.calls.messages.Message.{Message}
use Rattle.spans.specs.declared.calls.messages.Message.TheVariants as messages
use Rattle.spans.specs.declared.report.TransactionReport.{TransactionReport}
use Rattle.spans.specs.declared.report.ProtectionReport.{ProtectionReport}
use Rattle.spans.specs.declared.report.FeedReport.{FeedReport}
use Rattle.spans.specs.declared.report.Report.{Report}
use Rattle.spans.specs.declared.report.Limit.{Limit}
use Rattle.spans.specs.declared.report.Holder.{Holder}
use Rattle.spans.specs.declared.report.Holder.TheVariants as holders
use Rattle.spans.specs.Effects.{Effect, Collects}
use Rattle.spans.specs.Transactions.{closed_of, owner_of, is_undecided}
use Rattle.spans.specs.Versions.{write_count}
use Rattle.spans.specs.Feeds.{Feed, feed_of, told_to, start_of, untold_rows}
use Rattle.spans.specs.Collection.{Protection, LiveFeed, horizon_of, protections_of, live_feeds, floor_of, collection_horizon, versions_of, dead_of}
use Rattle.spans.specs.Completeness.{complete_after}
use Rattle.spans.specs.Kept.{last_name}

-- what stops a collection, and where
abbrev pub limit : ℕ → Holder → Limit
limit t by = record { at = t; by = by }

-- the first of those that are least
abbrev pub first_least : Limit → List Limit → Limit
first_least l [] = l
first_least l (m ∷ ms) = first_least (if nat_lt m.at l.at then m else l) ms

abbrev pub protection_limit : Protection → Limit
protection_limit n = limit n.at (holders.Protection n.id)

abbrev pub feed_limit : List Effect → LiveFeed → Limit
feed_limit p n = limit (floor_of p n) (holders.Feed n.number)

-- how far a collection can go now, and what keeps it there: of equal ones closed, else the protection of the least number, else
-- the feed of the least number
abbrev pub limit_of : List Effect → Limit
limit_of p = first_least (limit (closed_of p) holders.Closed) (map protection_limit (reverse (protections_of p)) ++ map (feed_limit p) (reverse (live_feeds p)))

-- what stops a collection, as a report has it
abbrev pub told_protection : ProtectionReport → Limit
told_protection n = limit n.timestamp (holders.Protection n.number)

abbrev pub told_feed : FeedReport → Limit
told_feed n = limit n.floor (holders.Feed n.number)

abbrev pub limit_in : Report → Limit
limit_in r = first_least (limit r.closed holders.Closed) (map told_protection r.protections.items ++ map told_feed r.feeds.items)

-- the timestamp that was resolved last
abbrev pub last_told : Option ℕ → List Message → Option ℕ
last_told o [] = o
last_told o (messages.Row r ∷ ms) = last_told o ms
last_told o (messages.Resolved t ∷ ms) = last_told (Some t) ms

-- a number that only a whole report has
abbrev pub in_whole : Bool → ℕ → Option ℕ
in_whole whole n = if whole then Some n else None

-- the undecided transactions, timestamps rising
pub record AreUndecided (p : List Effect) (ns : List TransactionReport) : Type 0 where
  pub rising : IsStrictlyIncreasing (map (λ (n : TransactionReport). n.timestamp) ns)
  pub each : (t : ℕ) → Contains (map (λ (n : TransactionReport). n.timestamp) ns) t ↔ (is_undecided p t ≡ true)
  pub right : All (λ (n : TransactionReport). (owner_of p n.timestamp ≡ Some n.seat) × (n.keys ≡ write_count p n.timestamp)) ns

-- the protections that stand, numbers rising
abbrev pub protection_report : Protection → ProtectionReport
protection_report n = record { number = n.id; timestamp = n.at }

-- the feed, and how far it has come
pub record IsFeedReport (whole : Bool) (p : List Effect) (n : FeedReport) : Type 0 where
  pub feed : Feed
  pub is : feed_of p n.number ≡ Some feed
  pub seat : n.seat ≡ feed.seat
  pub kind : n.kind ≡ feed.kind
  pub span : n.span ≡ feed.span
  pub cursor : n.cursor ≡ feed.cursor
  pub row : n.row ≡ last_name None (told_to p n.number)
  pub resolved : n.resolved ≡ last_told None (told_to p n.number)
  pub complete : n.complete ≡ complete_after (start_of feed) feed.cursor (told_to p n.number)
  pub floor : n.floor ≡ floor_of p (record { number = n.number; cursor = feed.cursor })
  pub untold : n.untold ≡ in_whole whole (length (untold_rows p n.number feed))

-- the feeds that live, numbers rising
pub record AreFeeds (whole : Bool) (p : List Effect) (ns : List FeedReport) : Type 0 where
  pub numbers : map (λ (n : FeedReport). n.number) ns ≡ map (λ (n : LiveFeed). n.number) (reverse (live_feeds p))
  pub right : All (IsFeedReport whole p) ns

-- what a collection up to closed would drop now
abbrev pub removable_of : List Effect → ℕ
removable_of p = length (dead_of (Collects (collection_horizon p (closed_of p)) ∷ p)) - length (dead_of p)

pub record IsReport (whole : Bool) (p : List Effect) (r : Report) : Type 0 where
  pub closed : r.closed ≡ closed_of p
  pub horizon : r.horizon ≡ horizon_of p
  pub versions : r.versions ≡ length (versions_of p) - length (dead_of p)
  pub removable : r.removable ≡ in_whole whole (removable_of p)
  pub transactions : AreUndecided p r.transactions.items
  pub protections : r.protections.items ≡ map protection_report (reverse (protections_of p))
  pub feeds : AreFeeds whole p r.feeds.items
