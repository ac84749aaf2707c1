-- What a live report says of what is kept.
use Rattle.std.specs.Prelude.{All, Contains, List, None, Option, Some, if◌then◌else◌, is_some, map, max, nat_lt, option_map, reverse, true, ℕ, ◌↔◌, ◌≡◌}
use Rattle.std.specs.List.Sorted.{IsStrictlyIncreasing}
use Rattle.kept.specs.Prelude.{Kept, Place, Report, Transaction, VersionName, protection_report, start_at}
use Rattle.spans.specs.declared.report.FeedReport.{FeedReport}
use Rattle.spans.specs.declared.report.TransactionReport.{TransactionReport}
use Rattle.kept.specs.Finding.{IsNumberOf, is_open}
use Rattle.kept.specs.Places.{place_floor, row_floor}

-- a transaction: its seat, and how many keys have a version at its timestamp
pub record IsToldOf (k : Kept) (n : TransactionReport) : Type 0 where
  pub seat : option_map (λ (w : Transaction). w.seat) (k.transaction n.timestamp) ≡ Some n.seat
  pub keys : IsNumberOf (λ x. is_some (k.version x n.timestamp)) n.keys

-- the undecided transactions, timestamps rising
pub record AreOpen (k : Kept) (ns : List TransactionReport) : Type 0 where
  pub rising : IsStrictlyIncreasing (map (λ (n : TransactionReport). n.timestamp) ns)
  pub each : (t : ℕ) → Contains (map (λ (n : TransactionReport). n.timestamp) ns) t ↔ (is_open (k.transaction t) ≡ true)
  pub right : All (IsToldOf k) ns

-- a number that is above a bound
abbrev pub if_above : ℕ → ℕ → Option ℕ
if_above bound n = if nat_lt bound n then Some n else None

-- what was resolved last: a place that resolved nothing is at the feed's start
abbrev pub resolved_at : Place → Option ℕ
resolved_at place = if_above (start_at place.kind place.cursor) place.after

-- up to where all is told, which is below the cursor while an initial feed tells what is there
abbrev pub told_through : Place → ℕ
told_through place = max place.after (row_floor place.row)

-- where it isn't below the cursor
abbrev pub complete_at : Place → Option ℕ
complete_at place = if nat_lt (told_through place) place.cursor then None else Some (told_through place)

-- a feed at a place
abbrev pub feed_report : ℕ → Place → FeedReport
feed_report f place = record {
  number = f;
  seat = place.seat;
  kind = place.kind;
  span = place.span;
  cursor = place.cursor;
  row = place.row;
  resolved = resolved_at place;
  complete = complete_at place;
  floor = place_floor place;
  untold = None;
}

-- the feeds that live, numbers rising
pub record AreLive (feed : ℕ → Option Place) (ns : List FeedReport) : Type 0 where
  pub rising : IsStrictlyIncreasing (map (λ (n : FeedReport). n.number) ns)
  pub each : (f : ℕ) → Contains (map (λ (n : FeedReport). n.number) ns) f ↔ (is_some (feed f) ≡ true)
  pub right : All (λ (n : FeedReport). option_map (feed_report n.number) (feed n.number) ≡ Some n) ns

-- the report of what is kept
pub record IsKeptReport (k : Kept) (r : Report) : Type 0 where
  pub closed : r.closed ≡ k.closed
  pub horizon : r.horizon ≡ k.horizon
  pub versions : IsNumberOf (λ (v : VersionName). is_some (k.version v.key v.ts)) r.versions
  pub removable : r.removable ≡ None
  pub transactions : AreOpen k r.transactions.items
  pub protections : r.protections.items ≡ map protection_report (reverse k.protections)
  pub feeds : AreLive k.feed r.feeds.items
