use Rattle.std.proofs.Common.{◌≤◌, Option, Some, length, arith, sym, subst, ◌∙◌}
use Rattle.spans.specs.Effects.{effects_of}
use Rattle.embedded.specs.declared.dumping.DumpPlace.{DumpPlace}
use Rattle.embedded.specs.Dumping.{IsNextText}
use Rattle.embedded.proofs.DumpTexts.{goes_on}
use Rattle.embedded.proofs.database.Database.put_more.Goals as goal

pub loop-end-preserved : goal.loop-end-preserved
loop-end-preserved c = λ h held at.
    let p = effects_of h in
    let l = c.loop-end in
    let text = c.put_next.new.text in
    let low : length text.items ≤ c.args.room = omega (arith, c.if-len-room.false, c.len-in-loop-end.ensures, text.ok.0) in
    let step : IsNextText p c.args.end l.place l.text.items text.items (Some c.in-Some.behind) =
    subst (λ (n : Option DumpPlace). IsNextText p c.args.end l.place l.text.items text.items n) c.in-Some.is (c.in_ok-next.ensures.next h held at) in
    sym (goes_on p c.args.end c.args.room l.text.items text.items l.place c.in-Some.behind step low) ∙ l.invariant h held at
