-- How a state is told: by the report of what a checker has taken, or as a check says that there is none.
use Rattle.std.proofs.Common.{◌≡◌, ℕ, List, false, arith}
use Rattle.spans.specs.declared.report.Report.{Report}
use Rattle.jobs.proofs.Common.{Checker, Reports}
use Rattle.report_lines.specs.Lines.{report_text}
use Rattle.jobs.specs.declared.ending.End.{End}
use Rattle.jobs.specs.declared.ending.End.TheVariants as ends
use Rattle.jobs.specs.declared.state.Detail.{Detail}
use Rattle.jobs.specs.Verdicts.{HasTakenText, IsVerdict, is_right, is_whole, IsState}

-- what is said of a text that isn't a trace's is said in the place of its state
pub refused_state : (detail : Detail) (text : List ℕ) (end : End) (out : List ℕ) → IsVerdict text end out → is_right end ≡ false → IsState detail text end out
refused_state detail text ends.Done out said wrong = absurd said
refused_state detail text (ends.Right count) out said wrong = cc
refused_state detail text _ out said wrong = said

-- the report of a checker that has taken all events of a text is the text's state
pub reported_state : (detail : Detail) (text : List ℕ) (checker : Checker) (r : Report) (out : List ℕ) → HasTakenText text checker → Reports checker (is_whole detail) r
    → out ≡ report_text r → IsState detail text ends.Done out
reported_state detail text checker r out taken reports told =
    let right = reports taken.events taken.stands (omega (arith, taken.few)) in
    (taken.events, taken.is, taken.stands.trace, (r, right.0, right.1, told))
