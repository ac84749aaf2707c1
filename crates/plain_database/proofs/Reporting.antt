-- The reports of the feeds that live.
use Rattle.std.proofs.Common.{◌≡◌, ℕ, ◌<◌, ◌+◌, Bool, List, ◌∷◌, ◌++◌, length, map, drop, get_or, reverse, Option, sym, ◌∙◌, ap, subst, append_assoc, arith}
use Rattle.std.specs.Prelude.{All}
use Rattle.std.specs.List.{AllByRecursion}
use Rattle.spans.specs.declared.report.FeedReport.{FeedReport}
use Rattle.plain_database.proofs.FeedReporting.{record_reported}
use Rattle.plain_database.specs.declared.feeds.record.FeedRecord.{FeedRecord}
use Rattle.plain_database.specs.FeedTie.{IsRecordOf, live_part, feed_part, record_report}
use Rattle.spans.specs.Report.{in_whole}
use Rattle.plain_database.proofs.Common.{All-cons, Effect, IsFeedReport, LiveFeed, common_steps, drop_more, live_feeds, map-append, reverse-append, untold_rows}

-- the reports of all but the newest feeds.. those of xs are left
abbrev pub AreSoFar : Bool → List Effect → List FeedRecord → List FeedReport → Type 0
AreSoFar whole p xs ns = record {
  numbers : map (λ (w : LiveFeed). w.number) (reverse (live_feeds p)) ≡ map (λ (w : LiveFeed). w.number) (reverse (map live_part xs)) ++ map (λ (n : FeedReport). n.number) ns;
  right : All (IsFeedReport whole p) ns;
  left : AllByRecursion (λ (x : FeedRecord). IsRecordOf p x.number x) xs;
}

-- one more
pub one_more : (whole : Bool) (p : List Effect) (xs : List FeedRecord) (i : ℕ) (x : FeedRecord) (ns : List FeedReport) (untold : Option ℕ) → i < length xs → x ≡ get_or xs i x
    → (IsRecordOf p x.number x → untold ≡ in_whole whole (length (untold_rows p x.number (feed_part x)))) → AreSoFar whole p (drop i xs) ns → AreSoFar whole p (drop (i + 1) xs) (record_report untold x ∷ ns)
one_more whole p xs i x ns untold low here counted before =
    let far : AreSoFar whole p (x ∷ drop (i + 1) xs) ns = subst (λ ys. AreSoFar whole p ys ns) (drop_more xs i x low ∙ ap (λ y. y ∷ drop (i + 1) xs) (sym here)) before in
    record {
      numbers = far.numbers ∙ grind (arith, common_steps, reverse-append, map-append, append_assoc {A = ℕ});
      right = All-cons (IsFeedReport whole p) (record_report untold x) ns (record_reported whole p x untold far.left.0 (counted far.left.0)) far.right;
      left = far.left.1;
    }
