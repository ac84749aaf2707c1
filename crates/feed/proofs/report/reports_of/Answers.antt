use Rattle.std.proofs.Common.{Option, Some, ap, get_or, refl, sym, ◌∙◌}
use Rattle.std.specs.Prelude.{option_map}
use Rattle.feed.proofs.Common.{Place, feed_report}
use Rattle.feed.specs.Standing.{report_at}
use Rattle.feed.proofs.Reports.{told_none, told_one}
use Rattle.feed.proofs.report.reports_of.Goals as goal
use Rattle.feed.proofs.report.reports_of.Goals.{in-Some+in_ok-report+in_ok-push, in_default}

pub loop-number-preserved : goal.loop-number-preserved
loop-number-preserved c =
    let f = get_or c.args.numbers.now c.loop-number.number-index 0 in
    let told = λ (o : Option Place). option_map (feed_report f) o in
    elim c.match-get.branch [
      | in-Some+in_ok-report+in_ok-push w ↦ rw w.reports-is (told_one (report_at c.args.live.now.entries) c.args.numbers.now c.loop-number.number-index c.loop-number.reports.items w.push.new.self.items w.in_ok-report.field-0 c.loop-number-test.true c.loop-number.invariant
          (ap told (sym w.in-Some.ensures.value) ∙ ap Some (sym w.in_ok-report.ensures)) w.in_ok-push.ensures.items)
      | in_default w ↦ rw w.reports-is (told_none (report_at c.args.live.now.entries) c.args.numbers.now c.loop-number.number-index c.loop-number.reports.items c.loop-number.reports.items c.loop-number-test.true c.loop-number.invariant (ap told (sym w.in_default.ensures.value)) refl)
    ]
