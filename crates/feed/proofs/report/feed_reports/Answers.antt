use Rattle.std.proofs.Common.{◌≡◌, subst}
use Rattle.std.specs.Prelude.{filter_map}
use Rattle.feed.proofs.Common.{AreLive, IfOk-weaker, IsPermutation, keys_of}
use Rattle.feed.specs.Standing.{place_at, report_at}
use Rattle.feed.proofs.Reports.{live_reports, numbers_those, sorted_rise}
use Rattle.feed.proofs.report.feed_reports.Goals as goal

pub returns : goal.returns
returns c =
    let live = c.args.live.now.entries in
    let numbers = c.sort_unstable.new.self.items in
    let moved : IsPermutation (keys_of live) numbers = subst (λ ks. IsPermutation ks numbers) c.in_ok-numbers.ensures.keys c.sort_unstable.ensures.permutation in
    IfOk-weaker c.reports_of.result (λ ns. ns.items ≡ filter_map (report_at live) c.as_slice.result.now) (λ ns. AreLive (place_at live) ns.items)
    (λ ns is. live_reports (place_at live) numbers ns.items (sorted_rise (keys_of live) numbers c.numbers_of.ensures.distinct moved c.sort_unstable.ensures.sorted) (numbers_those live numbers c.numbers_of.ensures.distinct moved)
    (subst (λ fs. ns.items ≡ filter_map (report_at live) fs) c.as_slice.ensures.value is)) c.reports_of.ensures
