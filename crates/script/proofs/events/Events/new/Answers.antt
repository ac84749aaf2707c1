use Rattle.std.proofs.Common.{◌≡◌, ℕ, ◌+◌, ◌≤◌, length, arith, ap, ◌∙◌}
use Rattle.script.proofs.Common.{header_lines, length-drop}
use Rattle.script.specs.EventLines.{Place, lines_of}
use Rattle.script.proofs.Headers.{front_found, front_left, front_missing, no_front}
use Rattle.script.proofs.TakeLines.{few_left, whole_left}
use Rattle.script.proofs.events.Events.new.Goals as goal

pub returns-in-Some-clause-few : goal.returns-in-Some-clause-few
returns-in-Some-clause-few c =
    let shorter : length c.in-Some.body.now ≤ length c.args.text.now = rw c.in-Some.ensures.cases.1 (omega (arith, length-drop (length c.header.result.now) c.args.text.now)) in
    few_left c.args.format c.args.text.now c.in-Some.body.now c.below.result (ap (λ (p : Place). p.lines) c.below.ensures) shorter

pub returns-in-Some-clause-exact : goal.returns-in-Some-clause-exact
returns-in-Some-clause-exact c =
    let front = front_found c.args.format c.header.result.now c.args.text.now c.in-Some.body.now c.header.ensures c.in-Some.ensures.cases.0 c.in-Some.ensures.cases.1 in
    front.1 ∙ whole_left c.args.format c.in-Some.body.now c.below.result (c.below.ensures ∙ ap (λ (n : ℕ). record { number = 1 + n; lines = lines_of c.in-Some.body.now }) c.header_lines.ensures.lines)

pub returns-in-None-clause-exact : goal.returns-in-None-clause-exact
returns-in-None-clause-exact c = front_missing c.args.format c.header.result.now c.args.text.now c.header.ensures c.in-None.ensures.cases

pub returns-in-Some-clause-left : goal.returns-in-Some-clause-left
returns-in-Some-clause-left c =
    let begins : c.below.result ≡ record { number = 1 + header_lines c.args.format; lines = lines_of c.in-Some.body.now } = c.below.ensures ∙ ap (λ (n : ℕ). record { number = 1 + n; lines = lines_of c.in-Some.body.now }) c.header_lines.ensures.lines in
    front_left c.args.format c.header.result.now c.args.text.now c.in-Some.body.now c.below.result c.header.ensures c.in-Some.ensures.cases.0 c.in-Some.ensures.cases.1 begins

pub returns-in-None-clause-left : goal.returns-in-None-clause-left
returns-in-None-clause-left c = (λ is. absurd cc, no_front c.args.format c.header.result.now c.args.text.now c.header.ensures c.in-None.ensures.cases)
