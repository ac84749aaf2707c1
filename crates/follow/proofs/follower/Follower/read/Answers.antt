use Rattle.std.proofs.Common.{◌≡◌, ◌∙◌, List, ℕ, ap, sym, subst, true, refl, Ok, Err}
use Rattle.std.specs.Prelude.{◌≢◌}
use Rattle.follow.proofs.Common.{IsMessage, MessageFault, message_at, message_line, text_at}
use Rattle.json_lines.specs.declared.fault.MessageFault.TheVariants as message
use Rattle.follow.specs.declared.fault.FollowError.{FollowError}
use Rattle.follow.specs.declared.fault.FollowError.TheVariants as errors
use Rattle.follow.specs.declared.follower.Follower.{Follower}
use Rattle.follow.specs.Following.{is_chosen, error_of_message, line_at, chosen_at}
use Rattle.follow.specs.Steps.{front_of, IsMisreadAt}
use Rattle.follow.proofs.Lines.{line_misread, line_chosen, line_message}
use Rattle.follow.proofs.follower.Follower.read.Goals as goal

module _ (f : Follower) (count : ℕ) where
  -- its length or its end is wrong
  misread_line : (e : FollowError) → e ≢ errors.NoMemory → line_at f.format f.choice.taking (front_of f count) ≡ Err e → IsMisreadAt f count e
  misread_line errors.NoMemory faulty is = absurd (faulty refl)
  misread_line (errors.Fault fault) faulty is = is

  -- it is one to take, and no message of it was read
  misread_message : (text : List ℕ) (fault : MessageFault) (e : FollowError) → text_at f.format (front_of f count) ≡ Ok text → is_chosen f.choice.taking text ≡ true
      → (fault ≢ message.NoMemory → message_at f.format (front_of f count) ≡ Err fault) → e ≡ error_of_message fault → IsMisreadAt f count e
  misread_message text fault errors.NoMemory whole on first is = (text, whole, on)
  misread_message text fault (errors.Fault told) whole on first is =
      line_chosen f.format f.choice.taking (front_of f count) text whole on
      ∙ (ap chosen_at (first (λ none. let clash : errors.Fault told ≡ errors.NoMemory = is ∙ ap error_of_message none in cc)) ∙ ap (λ (x : FollowError). Err x) (sym is))

pub returns-in-Err-clause-refused : goal.returns-in-Err-clause-refused
returns-in-Err-clause-refused c = let f = c.args.self.now in let line = front_of f c.args.count in
    misread_line f c.args.count c.of_line.result c.of_line.ensures.faulty
    (line_misread f.format f.choice.taking line c.in-Err.fault (ap (text_at f.format) (sym c.line-line.ensures) ∙ c.in-Err.ensures) ∙ ap (λ (x : FollowError). Err x) (sym c.of_line.ensures.same))

pub returns-in-Err-read_message-clause-refused : goal.returns-in-Err-read_message-clause-refused
returns-in-Err-read_message-clause-refused c = let f = c.args.self.now in
    misread_message f c.args.count c.in-Ok.text.now c.in-Err-read_message.fault c.of_message.result (ap (text_at f.format) (sym c.line-line.ensures) ∙ c.in-Ok.ensures) (sym c.if-not-takes.ensures.taken)
    (λ faulty. ap (message_at f.format) (sym c.line-line.ensures) ∙ c.in-Err-read_message.ensures.first faulty) c.of_message.ensures

pub returns-in-Ok-read_message-clause-ok : goal.returns-in-Ok-read_message-clause-ok
returns-in-Ok-read_message-clause-ok c = let f = c.args.self.now in let line = front_of f c.args.count in
    let whole : text_at f.format line ≡ Ok c.in-Ok.text.now = ap (text_at f.format) (sym c.line-line.ensures) ∙ c.in-Ok.ensures in
    let is = subst (λ (xs : List ℕ). (xs ≡ message_line c.in-Ok-read_message.message) × IsMessage f.format c.in-Ok-read_message.message) c.line-line.ensures c.in-Ok-read_message.ensures.found in
    record {
      text = c.in-Ok.text.now;
      whole = whole;
      message = line_message f.format f.choice.taking line c.in-Ok.text.now c.in-Ok-read_message.message whole (sym c.if-not-takes.ensures.taken) is;
      feed = c.takes.ensures.feed;
      taking = c.takes.ensures.taking;
      left = c.advance-in-Ok-read_message.ensures.bytes;
      ended = c.advance-in-Ok-read_message.ensures.ended;
      formed = c.advance-in-Ok-read_message.ensures.format;
    }
