-- What is followed of an input, line by line.
use Rattle.std.proofs.Common.{◌≡◌, ℕ, ◌+◌, ◌-◌, ◌<◌, ◌≤◌, ◌⊎◌, ⊎_elim, Bool, true, false, cond, List, [], ◌∷◌, ◌++◌, length, take, drop, Option, Some, None, Result, Ok, Err, refl, sym, ap, subst, ◌∙◌, arith, append-nil, append_assoc, length-append, inl, inr}
use Rattle.std.specs.Prelude.{◌≢◌, is_some, not}
use Rattle.follow.proofs.Common.{ApplyFault, Format, IsLine, IsMessage, Lines, Message, MessageFault, apply_fault, has_newline, length-take-le, lines_of, message_at, message_line, text_at, waiting, without_newline}
use Rattle.std.proofs.Math.Seq.{take-length, take-append_seam, drop-append_seam}
use Rattle.spelled_words.specs.declared.fault.LineFault.{LineFault}
use Rattle.spelled_words.specs.declared.fault.LineFault.TheVariants as faults
use Rattle.script.proofs.CutLines.{lines_first}
use Rattle.sessions.proofs.Finding.{newline_front, newline_stays, no_last}
use Rattle.sessions.proofs.FirstLines as first
use Rattle.follow.specs.declared.options.FollowOptions.{FollowOptions}
use Rattle.follow.specs.Ends.{TakesNext}
use Rattle.follow.specs.declared.fault.FollowError.{FollowError}
use Rattle.follow.specs.Following.{is_taking_after, start_of, is_chosen, error_of_line, Followed, chosen_at, said_by, line_at, taking_behind, error_of_test, stopped_at, followed_through, onto_followed, followed_step, followed_lines}
use Rattle.follow.specs.Steps.{onto_taken}
use Rattle.follow.proofs.MessagesRead.{line_is_message}

-- ---- what a line says

module _ (format : Format) where
  -- it is too long, or has no newline
  pub line_misread : (taking : Bool) (line : List ℕ) (f : LineFault) → text_at format line ≡ Err f → line_at format taking line ≡ Err (error_of_line f)
  line_misread taking line f e = ap (said_by format taking line) e

  -- it is one to take
  pub line_chosen : (taking : Bool) (line text : List ℕ) → text_at format line ≡ Ok text → is_chosen taking text ≡ true → line_at format taking line ≡ chosen_at (message_at format line)
  line_chosen taking line text e on = ap (said_by format taking line) e ∙ ap (λ (b : Bool). cond b (chosen_at (message_at format line)) (Ok None)) on

  -- it is a message's
  pub line_message : (taking : Bool) (line text : List ℕ) (m : Message) → text_at format line ≡ Ok text → is_chosen taking text ≡ true → (line ≡ message_line m) × IsMessage format m → line_at format taking line ≡ Ok (Some m)
  line_message taking line text m e on is = line_chosen taking line text e on ∙ ap chosen_at (ap (message_at format) is.0 ∙ line_is_message format m is.1)

  -- one to take isn't passed over
  pub chosen_stays : (taking : Bool) (line text : List ℕ) → text_at format line ≡ Ok text → is_chosen taking text ≡ true → line_at format taking line ≢ Ok None
  chosen_stays taking line text e on passed = by_message (message_at format line) (sym (line_chosen taking line text e on) ∙ passed)
    where
      by_message : (r : Result Message MessageFault) → chosen_at r ≢ Ok None
      by_message (Ok m) same = cc
      by_message (Err fault) same = cc

-- ---- the first line of what waits

ended_step : (b s : Bool) (l text : List ℕ) → cond b (Err faults.LineTooLong) (cond (not s) (Err faults.NoNewline) (Ok l)) ≡ Ok text → s ≡ true
ended_step true s l text e = absurd cc
ended_step false true l text e = refl
ended_step false false l text e = absurd cc

module _ (format : Format) where
  -- a text has a newline behind it
  has_end : (line text : List ℕ) → text_at format line ≡ Ok text → has_newline line ≡ true
  unfolding text_at
  has_end line text e = ended_step _ (has_newline line) (without_newline line) text e

  -- whatever comes behind what waits, its first line says the same
  pub line_comes : (taking : Bool) (n : ℕ) (l : Lines) (more : List ℕ) → l.format ≡ format → n ≤ length (waiting l) → IsLine l n → (l.ended ≡ true → more ≡ [])
      → (line : List ℕ) × (others : List (List ℕ)) × (lines_of (waiting l ++ more) ≡ line ∷ others) × (line_at format taking line ≡ line_at format taking (take n (waiting l)))
  line_comes taking n l more same within line stops =
      let c = first.line_comes format n l more same within line stops in (
        c.0,
        c.1,
        c.2,
        ⊎_elim
            (λ (is : c.0 ≡ take n (waiting l)). ap (line_at format taking) is)
            (λ (long : (text_at format c.0 ≡ Err faults.LineTooLong) × (text_at format (take n (waiting l)) ≡ Err faults.LineTooLong)). line_misread format taking c.0 faults.LineTooLong long.0 ∙ sym (line_misread format taking (take n (waiting l)) faults.LineTooLong long.1))
            c.3,
      )

  -- a line that has its newline ends there, whatever comes behind it
  pub line_ahead : (n : ℕ) (l : Lines) (text : List ℕ) → n ≤ length (waiting l) → IsLine l n → text_at format (take n (waiting l)) ≡ Ok text
      → (0 < n) × ((more : List ℕ) → lines_of (take n (waiting l) ++ more) ≡ take n (waiting l) ∷ lines_of more)
  line_ahead n l text within (inl h) e =
      let ws = waiting l in
      let size : length (take n ws) ≡ n = length-take-le n ws within in
      let next : h.0 + 1 ≡ length (take n ws) = sym h.2 ∙ sym size in (
        (let q = h.2 in omega arith),
        λ more.
            let cut = lines_first (take n ws ++ more) h.0 (newline_stays (take n ws) more h.0 (newline_front ws h.0 n h.1 h.2 within)) in
            let front : take (h.0 + 1) (take n ws ++ more) ≡ take n ws = ap (λ (k : ℕ). take k (take n ws ++ more)) next ∙ take-append_seam (take n ws) more in
            let back : drop (h.0 + 1) (take n ws ++ more) ≡ more = ap (λ (k : ℕ). drop k (take n ws ++ more)) next ∙ drop-append_seam (take n ws) more in
            cut ∙ λ i. front i ∷ lines_of (back i),
      )
  line_ahead n l text within (inr h) e =
      let ws = waiting l in
      let some : 0 < length ws = let q = h.1 in let r = h.2 in omega arith in
      let all : take n ws ≡ ws = ap (λ (k : ℕ). take k ws) h.1 ∙ take-length ws in
      let ended : has_newline ws ≡ true = subst (λ (xs : List ℕ). has_newline xs ≡ true) all (has_end (take n ws) text e) in
      let lacks = no_last ws h.0 some in
      absurd (let clash : true ≡ false = sym ended ∙ lacks in cc)

  no_lines : lines_of [] ≡ []
  unfolding lines_of
  no_lines = refl

  -- it is one whole line
  pub line_whole : (n : ℕ) (l : Lines) (text : List ℕ) → n ≤ length (waiting l) → IsLine l n → text_at format (take n (waiting l)) ≡ Ok text → (lines_of (take n (waiting l)) ≡ take n (waiting l) ∷ []) × (has_newline (take n (waiting l)) ≡ true)
  line_whole n l text within is e =
      let line = take n (waiting l) in
      (ap lines_of (sym (append-nil line)) ∙ ((line_ahead n l text within is e).1 [] ∙ ap (λ (ls : List (List ℕ)). line ∷ ls) no_lines), has_end line text e)

-- ---- what is followed from a line on

module _ (o : FollowOptions) where
  -- nothing is left
  pub followed_none : (taking : Bool) (ms : List Message) (number : ℕ) → followed_lines o taking ms number (lines_of []) ≡ followed_through []
  unfolding followed_lines lines_of
  followed_none taking ms number = refl

  followed_cons : (taking : Bool) (ms : List Message) (number : ℕ) (line : List ℕ) (lines : List (List ℕ)) (r : Result (Option Message) FollowError) → line_at o.format taking line ≡ r
      → followed_lines o taking ms number (line ∷ lines) ≡ followed_step o r ms number (λ taken. followed_lines o (taking_behind o.feed taking (text_at o.format line)) taken (number + 1) lines)
  unfolding followed_lines
  followed_cons taking ms number line lines r e = ap (λ (x : Result (Option Message) FollowError). followed_step o x ms number (λ taken. followed_lines o (taking_behind o.feed taking (text_at o.format line)) taken (number + 1) lines)) e

  -- the line can't be read
  pub followed_misread : (taking : Bool) (ms : List Message) (number : ℕ) (text line : List ℕ) (others : List (List ℕ)) (e : FollowError) → lines_of text ≡ line ∷ others → line_at o.format taking line ≡ Err e
      → followed_lines o taking ms number (lines_of text) ≡ stopped_at number e
  followed_misread taking ms number text line others e cut is = ap (followed_lines o taking ms number) cut ∙ followed_cons taking ms number line others (Err e) is

  -- the line is passed over
  pub followed_passed : (taking taking' : Bool) (ms : List Message) (number : ℕ) (text more line words : List ℕ) → lines_of text ≡ line ∷ lines_of more → line_at o.format taking line ≡ Ok None → text_at o.format line ≡ Ok words → taking' ≡ is_taking_after o.feed taking words
      → followed_lines o taking ms number (lines_of text) ≡ followed_lines o taking' ms (number + 1) (lines_of more)
  followed_passed taking taking' ms number text more line words cut is whole turns =
      ap (followed_lines o taking ms number) cut ∙ (followed_cons taking ms number line (lines_of more) (Ok None) is
      ∙ ap (λ (b : Bool). followed_lines o b ms (number + 1) (lines_of more)) (ap (taking_behind o.feed taking) whole ∙ sym turns))

  -- the line has a message
  pub followed_message : (taking taking' : Bool) (ms : List Message) (number : ℕ) (m : Message) (text more line words : List ℕ) → lines_of text ≡ line ∷ lines_of more → line_at o.format taking line ≡ Ok (Some m) → text_at o.format line ≡ Ok words → taking' ≡ is_taking_after o.feed taking words
      → followed_lines o taking ms number (lines_of text) ≡ onto_followed number (apply_fault o.span (start_of o.span o.start).start ms m) m (followed_lines o taking' (ms ++ m ∷ []) (number + 1) (lines_of more))
  followed_message taking taking' ms number m text more line words cut is whole turns =
      ap (followed_lines o taking ms number) cut ∙ (followed_cons taking ms number line (lines_of more) (Ok (Some m)) is
      ∙ ap (λ (b : Bool). onto_followed number (apply_fault o.span (start_of o.span o.start).start ms m) m (followed_lines o b (ms ++ m ∷ []) (number + 1) (lines_of more))) (ap (taking_behind o.feed taking) whole ∙ sym turns))

-- ---- what a line adds that isn't passed over

-- the end
stop_adds : (ms : List Message) (number : ℕ) (e : FollowError) → onto_taken ms (stopped_at number e) ≢ followed_through ms
stop_adds ms number e same = let clash : true ≡ false = ap (λ (x : Followed). is_some x.stop) same in cc

-- its message, or the end
pub message_adds : (ms : List Message) (number : ℕ) (refused : Option ApplyFault) (m : Message) (below : Followed) → onto_taken ms (onto_followed number refused m below) ≢ followed_through ms
message_adds ms number None m below same =
    let all : length (ms ++ m ∷ below.messages) ≡ length ms = ap (λ (x : Followed). length x.messages) same in
    let sum = length-append ms (m ∷ below.messages) in
    omega arith
message_adds ms number (Some test) m below same = stop_adds ms number (error_of_test test) same

module _ (o : FollowOptions) where
  step_adds : (ms : List Message) (number : ℕ) (r : Result (Option Message) FollowError) (below : List Message → Followed) → r ≢ Ok None → onto_taken ms (followed_step o r ms number below) ≢ followed_through ms
  step_adds ms number (Err e) below stays same = stop_adds ms number e same
  step_adds ms number (Ok None) below stays same = stays refl
  step_adds ms number (Ok (Some m)) below stays same = message_adds ms number (apply_fault o.span (start_of o.span o.start).start ms m) m (below (ms ++ m ∷ [])) same

  pub line_adds : (taking : Bool) (ms : List Message) (number : ℕ) (line : List ℕ) → lines_of line ≡ line ∷ [] → line_at o.format taking line ≢ Ok None → onto_taken ms (followed_lines o taking ms number (lines_of line)) ≢ followed_through ms
  line_adds taking ms number line one stays same =
      step_adds ms number (line_at o.format taking line) _ stays (sym (ap (onto_taken ms) (ap (followed_lines o taking ms number) one ∙ followed_cons o taking ms number line [] (line_at o.format taking line) refl)) ∙ same)

-- the line stands there too where more comes behind it
pub takes_more : (o : FollowOptions) (input : List ℕ) (ms : List Message) (after : Followed) (more : List ℕ) → TakesNext o input ms after → TakesNext o (input ++ more) ms after
takes_more o input ms after more t = record {
  lines = t.lines;
  line = t.line;
  rest = t.rest ++ more;
  parts = ap (λ (xs : List ℕ). xs ++ more) t.parts ∙ (append_assoc t.lines (t.line ++ t.rest) more ∙ ap (λ (xs : List ℕ). t.lines ++ xs) (append_assoc t.line t.rest more));
  one = t.one;
  whole = t.whole;
  before = t.before;
  behind = t.behind;
}
