-- A report of what is kept is the live report of the history.
use Rattle.kept.proofs.Common.{All-contains, All-weaker, AllAllowed, Effect, Event, Feed, Has, IsKeptOf, Kept, LiveFeed, Message, ResolvedRise, Transaction, all_of, and_parts, common_steps, effects_of, feed_of, feed_rises, feeding, is_undecided, last_resolved, legal_allowed, live_feeds, map-append, not-true, owner_of, place_with, reverse-append, told_to, write_count}
use Rattle.std.proofs.Common.{List, None, Some, [], ap, arith, false, map, refl, reverse, subst, sym, true, ℕ, ◌++◌, ◌∙◌, ◌∷◌, ◌≡◌, ◌≤◌}
use Rattle.std.specs.Prelude.{Contains, option_map, ◌↔◌}
use Rattle.spans.specs.Report.{AreFeeds, AreUndecided, IsFeedReport, IsReport, last_told, protection_report}
use Rattle.spans.specs.declared.calls.messages.Message.TheVariants as messages
use Rattle.spans.specs.declared.report.FeedReport.{FeedReport}
use Rattle.spans.specs.declared.report.Report.{Report}
use Rattle.spans.specs.declared.report.TransactionReport.{TransactionReport}
use Rattle.kept.specs.Reports.{AreLive, AreOpen, IsKeptReport, IsToldOf, feed_report, if_above, resolved_at}
use Rattle.kept.specs.StandsFor.{StandsFor}
use Rattle.kept.proofs.AfterCloses.{open_is}
use Rattle.kept.proofs.Contained.{contains_has}
use Rattle.kept.proofs.Counts.{numbers, has_live, has_mapped, versions_count, written_count, live_falls}
use Rattle.kept.proofs.Floors.{place_floor_is, placed_by, told_through_is}
use Rattle.kept.proofs.Rising.{Falls, Rises, has_last, increasing_rises, rises_last, same_rising}

-- ---- transactions

-- a transaction in the table has its owner
owner_right : (k : Kept) (p : List Effect) → IsKeptOf k p → (t seat : ℕ) → option_map (λ (w : Transaction). w.seat) (k.transaction t) ≡ Some seat → owner_of p t ≡ Some seat
owner_right k p fits t seat is = grind (arith, common_steps)

transactions_are : (k : Kept) (p : List Effect) → AllAllowed p → IsKeptOf k p → (ns : List TransactionReport) → AreOpen k ns → AreUndecided p ns
transactions_are k p all fits ns open' = record {
  rising = open'.rising;
  each = each;
  right = all_of (λ (n : TransactionReport). (owner_of p n.timestamp ≡ Some n.seat) × (n.keys ≡ write_count p n.timestamp)) ns (λ n i.
      let told : IsToldOf k n = All-contains (IsToldOf k) ns n open'.right ((contains_has n ns).1 i) in
      let among = (contains_has n.timestamp (map (λ (m : TransactionReport). m.timestamp) ns)).1 (has_mapped (λ (m : TransactionReport). m.timestamp) n ns i) in
      let u = and_parts _ _ (and_parts _ _ ((each n.timestamp).0 among)).1 in
      (owner_right k p fits n.timestamp n.seat told.seat, written_count k p fits n.timestamp (not-true _ u.0) (not-true _ u.1) n.keys told.keys));
}
  where
    each : (t : ℕ) → Contains (map (λ (n : TransactionReport). n.timestamp) ns) t ↔ (is_undecided p t ≡ true)
    each t = (λ i. sym (open_is k p all fits t) ∙ (open'.each t).0 i, λ is. (open'.each t).1 (open_is k p all fits t ∙ is))

-- ---- numbers of feeds

back : (w : LiveFeed) (ws : List LiveFeed) → numbers (reverse (w ∷ ws)) ≡ numbers (reverse ws) ++ w.number ∷ []
back w ws = ap numbers (reverse-append (w ∷ []) ws) ∙ map-append (λ (n : LiveFeed). n.number) (reverse ws) (w ∷ [])

has_back : (f : ℕ) (ws : List LiveFeed) → Has f (numbers (reverse ws)) ↔ Has f (numbers ws)
has_back f [] = (λ i. i, λ i. i)
has_back f (w ∷ ws) = grind (arith, common_steps, has_last, back, has_back f ws)

rises_back : (ws : List LiveFeed) → Falls (numbers ws) → Rises (numbers (reverse ws))
rises_back [] falls = tt
rises_back (w ∷ ws) falls = subst Rises (sym (back w ws)) (rises_last w.number (numbers (reverse ws)) (rises_back ws falls.1) (λ y i. falls.0 y ((has_back y ws).0 i)))

-- ---- feeds

-- where resolved timestamps rise, the last is the greatest
last_is : (s a : ℕ) (ms : List Message) → s ≤ a → ResolvedRise a ms → if_above s (last_resolved a ms) ≡ last_told (if_above s a) ms
last_is s a [] low rise = refl
last_is s a (messages.Row r ∷ ms) low rise = last_is s a ms low rise
last_is s a (messages.Resolved t ∷ ms) low rise = grind (arith, common_steps, last_is s t ms)

-- a place resolved what its feed resolved
resolved_is : (p : List Effect) → AllAllowed p → (f : ℕ) (feed : Feed) → feed_of p f ≡ Some feed → resolved_at (place_with p f feed) ≡ last_told None (told_to p f)
resolved_is p all f feed is = grind (arith, common_steps, last_is, feed_rises, feeding)

report_right : (p : List Effect) → AllAllowed p → (f : ℕ) (feed : Feed) → feed_of p f ≡ Some feed → IsFeedReport false p (feed_report f (place_with p f feed))
report_right p all f feed is = grind (arith, common_steps, resolved_is, told_through_is, place_floor_is)

feed_right : (k : Kept) (p : List Effect) → AllAllowed p → IsKeptOf k p → (n : FeedReport) → option_map (feed_report n.number) (k.feed n.number) ≡ Some n → IsFeedReport false p n
feed_right k p all fits n is = grind (arith, common_steps, placed_by, report_right)

feeds_are : (k : Kept) (p : List Effect) → AllAllowed p → IsKeptOf k p → (ns : List FeedReport) → AreLive k.feed ns → AreFeeds false p ns
feeds_are k p all fits ns live = record {
  numbers = same_rising (map (λ (n : FeedReport). n.number) ns) (numbers (reverse (live_feeds p))) (increasing_rises (map (λ (n : FeedReport). n.number) ns) live.rising) (rises_back (live_feeds p) (live_falls p all)) (λ f.
      let c = contains_has f (map (λ (n : FeedReport). n.number) ns) in let h = has_live k p all fits f in let b = has_back f (live_feeds p) in (
        λ i. b.1 (h.1 ((live.each f).0 (c.1 i))),
        λ i. c.0 ((live.each f).1 (h.0 (b.0 i))),
      ));
  right = All-weaker (λ (n : FeedReport). option_map (feed_report n.number) (k.feed n.number) ≡ Some n) (IsFeedReport false p) (λ n is. feed_right k p all fits n is) ns live.right;
}

-- ---- the whole of it

pub report_is : (k : Kept) (h : List Event) (r : Report) → StandsFor k h → IsKeptReport k r → IsReport false (effects_of h) r
report_is k h r stands is =
    let all = legal_allowed h stands.legal in
    let fits = stands.fits in record {
      closed = is.closed ∙ fits.closed_at;
      horizon = is.horizon ∙ fits.horizon_at;
      versions = is.versions.2 ∙ versions_count k (effects_of h) all fits is.versions.0 is.versions.1;
      removable = is.removable;
      transactions = transactions_are k (effects_of h) all fits r.transactions.items is.transactions;
      protections = is.protections ∙ ap (λ ps. map protection_report (reverse ps)) fits.protected;
      feeds = feeds_are k (effects_of h) all fits r.feeds.items is.feeds;
    }
