use Rattle.std.proofs.Common.{arith}
use Rattle.std.proofs.lemmas.List.{take_rest}
use Rattle.embedded.proofs.TakingLines.{bytes_within, room_left, goes_on, ends_missing, ends_refused, ends_all, ends_full}
use Rattle.embedded.proofs.database.Database.call_lines.Goals as goal

pub returns-in-Err : goal.returns-in-Err
returns-in-Err c h held =
    let l = c.loop-taken in
    let now = l.invariant.going h held in
    ends_refused c.args.most h c.args.lines.now c.args.self.now c.args.out.now c.args.notes.now now.0 l.taken l.out l.notes l.self c.take_line.new.self c.first_line-line.result.now c.take_line.new.out _ _ c.in-Err.error now.1 now.2
    (take_rest c.args.lines.now l.taken.bytes) c.first_line-line.ensures.line (take_rest l.out l.taken.length) l.invariant.bytes (omega (arith, c.loop-taken-test.true, l.auto.notes)) (c.in-Err.ensures.taken now.1.after now.1.stands)

pub returns-then-done-eq-UNSHOWN : goal.returns-then-done-eq-UNSHOWN
returns-then-done-eq-UNSHOWN c h held =
    let l = c.loop-taken in
    let now = l.invariant.going h held in
    let rest = take_rest c.args.lines.now l.taken.bytes in
    ends_missing c.args.most h c.args.lines.now c.args.self.now c.args.out.now c.args.notes.now now.0 l.taken l.out l.notes l.self c.take_line.new.self c.first_line-line.result.now c.take_line.new.out _ _ c.in-Ok.done now.1 now.2
    rest c.first_line-line.ensures.line (take_rest l.out l.taken.length) c.if-taken-lines.true (omega (arith, c.loop-taken-test.true, l.auto.notes)) (c.in-Ok.ensures.taken now.1.after now.1.stands) c.if-done-eq-UNSHOWN.true
    (bytes_within c.args.lines.now _ c.first_line-line.result.now l.taken.bytes rest c.first_line-line.ensures.within l.invariant.bytes)

pub loop-taken-preserved : goal.loop-taken-preserved
loop-taken-preserved c =
    let l = c.loop-taken in
    let rest = take_rest c.args.lines.now l.taken.bytes in
    record {
      bytes = bytes_within c.args.lines.now _ c.first_line-line.result.now l.taken.bytes rest c.first_line-line.ensures.within l.invariant.bytes;
      room = room_left l.taken.length l.out c.take_line.new.out _ c.in-Ok.done c.take_line.auto.out l.invariant.room c.if-done-eq-UNSHOWN.false c.in-Ok.ensures.room;
      going = λ h held.
          let now = l.invariant.going h held in
          goes_on c.args.most h c.args.lines.now c.args.self.now c.args.out.now c.args.notes.now now.0 l.taken l.out l.notes l.self c.take_line.new.self c.first_line-line.result.now c.take_line.new.out _ _ c.in-Ok.done now.1 now.2
          rest c.first_line-line.ensures.line (take_rest l.out l.taken.length) c.if-taken-lines.true (omega (arith, c.loop-taken-test.true, l.auto.notes)) (c.in-Ok.ensures.taken now.1.after now.1.stands) c.if-done-eq-UNSHOWN.false;
    }

pub returns-else-taken-lines : goal.returns-else-taken-lines
returns-else-taken-lines c h held =
    let l = c.loop-taken in
    let now = l.invariant.going h held in
    ends_all c.args.most h c.args.lines.now c.args.self.now c.args.out.now c.args.notes.now now.0 l.taken l.out l.notes l.self now.1 now.2 l.invariant.bytes c.if-taken-lines.false

pub returns-after-loop-taken : goal.returns-after-loop-taken
returns-after-loop-taken c h held =
    let l = c.loop-taken in
    let now = l.invariant.going h held in
    ends_full c.args.most h c.args.lines.now c.args.self.now c.args.out.now c.args.notes.now now.0 l.taken l.out l.notes l.self now.1 now.2 l.invariant.bytes l.auto.notes (omega (arith, c.loop-taken-test.false, l.auto.notes))
