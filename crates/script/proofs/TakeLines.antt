-- Lines read one after the other, as a loop does.
use Rattle.script.proofs.Common.{Event, Format, LineFault, Reply, append-nil, bind_ok, common_steps, eq-eqb, eqb-false, header_lines, lt-ltb, ok_is, onto_first, or_right}
use Rattle.std.proofs.Common.{◌≡◌, ℕ, zero, suc, ◌-◌, ◌+◌, ◌<◌, ◌≤◌, List, [], ◌∷◌, ◌++◌, Result, Ok, Err, length, Bool, true, false, cond, Option, Some, None, refl, sym, ap, subst, ◌∙◌, append_assoc, arith, Vec, Global}
use Rattle.std.specs.Prelude.{◌≢◌, ◌⊎◌, ◌==◌, ◌&&◌, nat_lt, IfErr}
use Rattle.spans.specs.declared.calls.replies.Reply.TheVariants as reply
use Rattle.script.specs.declared.headings.Heading.{Heading}
use Rattle.script.specs.declared.reply_reading.Shape.{Shape}
use Rattle.script.specs.declared.reply_reading.Shape.TheVariants as shape
use Rattle.script.specs.EventLines.{heading_at, row_line_at, message_line_at, words_want, ok_has, has_lines, counts_lines, lines_want, wants_at, Place, is_newline, lines_of}
use Rattle.script.specs.declared.fault.TranscriptError.{TranscriptError}
use Rattle.script.specs.declared.fault.TranscriptError.TheVariants as errors
use Rattle.word_lines.specs.Reading.{◌>>=◌}
use Rattle.script.specs.Transcripts.{Fault, Fails, TakesLines, first_of, next_at, many_at, following_at, event_at, events_at, body_at, Transcript, nothing_left, onto_left, left_within, left_at, outcome_of, outcome, HasHeader, left_of, TranscriptWants, WantsNext, TakesEvent}

-- what was read before, and what is still read
abbrev pub with_front : {A : Type 0} → List A → Result (List A × Place) Fault → Result (List A × Place) Fault
with_front front read = read >>= λ x. Ok (front ++ x.0, x.1)

-- one line more is read
pub goes_on : {A : Type 0} (read : List ℕ → Result A LineFault) (front : List A) (count i : ℕ) (p : Place) (x : A) (after : Place) (total : Result (List A × Place) Fault) → i < count → next_at read p ≡ Ok (x, after)
    → with_front front (many_at read (count - i) p) ≡ total → with_front (front ++ x ∷ []) (many_at read (count - (i + 1)) after) ≡ total
unfolding many_at
goes_on read front count i p x after total lt h so_far =
    let k : count - i ≡ suc (count - (i + 1)) = omega arith in
    grind (arith, common_steps)

-- a line is faulty
pub ends : {A : Type 0} (read : List ℕ → Result A LineFault) (e : TranscriptError) (front : List A) (count i : ℕ) (p : Place) (total : Result (List A × Place) Fault) → i < count → Fails e (next_at read p)
    → with_front front (many_at read (count - i) p) ≡ total → Fails e total
unfolding many_at
ends read errors.NoMemory front count i p total lt h so_far = tt
ends read (errors.Fault line fault) front count i p total lt h so_far =
    let k : count - i ≡ suc (count - (i + 1)) = omega arith in
    grind (arith, common_steps)

-- all lines were read
pub is_done : {A : Type 0} (read : List ℕ → Result A LineFault) (front : List A) (count i : ℕ) (p : Place) (total : Result (List A × Place) Fault) → count ≤ i → with_front front (many_at read (count - i) p) ≡ total → total ≡ Ok (front, p)
unfolding many_at
is_done read front count i p total le so_far = grind (arith, common_steps)

-- the first of the lines was taken
next_by : {A : Type 0} (read : List ℕ → Result A LineFault) (number : ℕ) (lines : List (List ℕ)) (x : A × Place) → first_of read number lines ≡ Ok x → (line : List ℕ) × (lines ≡ line ∷ x.1.lines) × (read line ≡ Ok x.0)
next_by read number [] x e = absurd cc
next_by read number (line ∷ lines) x e = grind (arith, common_steps)

-- a line that was taken
pub next_found : {A : Type 0} (read : List ℕ → Result A LineFault) (p : Place) (x : A × Place) → next_at read p ≡ Ok x → (line : List ℕ) × (p.lines ≡ line ∷ x.1.lines) × (read line ≡ Ok x.0)
next_found read p x e = next_by read p.number p.lines x e

-- then a line was left
pub next_some : {A : Type 0} (read : List ℕ → Result A LineFault) (p : Place) (x : A × Place) → next_at read p ≡ Ok x → length x.1.lines < length p.lines
next_some read p x e = let line = next_found read p x e in omega (arith, ap length line.1)

-- no line is put back
many_fewer : {A : Type 0} (read : List ℕ → Result A LineFault) (n : ℕ) (p : Place) (x : List A × Place) → many_at read n p ≡ Ok x → length x.1.lines ≤ length p.lines
unfolding many_at
many_fewer read zero p x e = subst (λ y. length y.1.lines ≤ length p.lines) (ok_is ([], p) x e) (omega arith)
many_fewer read (suc n) p x e =
    let first = bind_ok (next_at read p) (λ first. many_at read n first.1 >>= λ others. Ok (first.0 ∷ others.0, others.1)) x e in
    grind (arith, common_steps, bind_ok, next_found, ok_is, many_fewer read n)

module _ (format : Format) where
  -- nor by a reply
  following_fewer : (s : Shape) (p : Place) (x : Reply × Place) → following_at format s p ≡ Ok x → length x.1.lines ≤ length p.lines
  unfolding following_at
  following_fewer (shape.Alone r) p x e = subst (λ (y : Reply × Place). length y.1.lines ≤ length p.lines) (ok_is (r, p) x e) (omega arith)
  following_fewer (shape.Rows n) p x e =
      let rows = bind_ok (many_at (row_line_at format) n p) (λ rows. Ok (reply.Rows rows.0, rows.1)) x e in
      subst (λ (y : Reply × Place). length y.1.lines ≤ length p.lines) (ok_is (reply.Rows rows.0.0, rows.0.1) x rows.2) (many_fewer (row_line_at format) n p rows.0 rows.1)
  following_fewer (shape.Messages n) p x e =
      let messages = bind_ok (many_at (message_line_at format) n p) (λ messages. Ok (reply.Messages messages.0, messages.1)) x e in
      subst (λ (y : Reply × Place). length y.1.lines ≤ length p.lines) (ok_is (reply.Messages messages.0.0, messages.0.1) x messages.2) (many_fewer (message_line_at format) n p messages.0 messages.1)

-- ---- events

module _ (format : Format) where
  -- an event takes a line at least
  pub event_fewer : (p : Place) (x : Event × Place) → event_at format p ≡ Ok x → length x.1.lines < length p.lines
  unfolding event_at
  event_fewer p x e =
      let made : Heading → Reply → Event = λ h r. record { position = h.position; seat = h.seat; cmd = h.cmd; reply = r } in
      let h = bind_ok (next_at (heading_at format) p) (λ h. following_at format h.0.shape h.1 >>= λ r. Ok (made h.0 r.0, r.1)) x e in
      let r = bind_ok (following_at format h.0.0.shape h.0.1) (λ r. Ok (made h.0.0 r.0, r.1)) x h.2 in
      let line = next_found (heading_at format) p h.0 h.1 in
      subst (λ (y : Event × Place). length y.1.lines < length p.lines) (ok_is (made h.0.0 r.0.0, r.0.1) x r.2) (omega (arith, ap length line.1, following_fewer format h.0.0.shape h.0.1 r.0 r.1))

module _ (format : Format) where
  -- an event whose first line counts lines may want memory where one of them is there
  pub following_wants : (p : Place) (h : Heading × Place) → next_at (heading_at format) p ≡ Ok h → (has_lines h.0.shape ≡ true) × (0 < length h.1.lines) → wants_at format p ≡ true
  following_wants p h e some =
      let line = next_found (heading_at format) p h e in
      let counts : counts_lines format line.0 ≡ true = ap (ok_has (λ (x : Heading). has_lines x.shape)) line.2 ∙ some.0 in
      ap (lines_want format) line.1 ∙ or_right (words_want format line.0) (counts_lines format line.0 && nat_lt 0 (length h.1.lines)) (rw (counts, lt-ltb 0 (length h.1.lines) some.1) refl)

-- ---- what is left

-- what is read, and what is left, where the first event is known
ahead_same : (wants : Bool) (read : Result (Event × Place) Fault) (f g : Place → Transcript) → ((x : Event × Place) → read ≡ Ok x → f x.1 ≡ g x.1) → onto_left wants read f ≡ onto_left wants read g
ahead_same wants (Ok x) f g same = ap (λ (left : Transcript). record { events = x.0 ∷ left.events; fault = left.fault; wants = wants ∷ left.wants }) (same x refl)
ahead_same wants (Err fault) f g same = refl

none_ahead : (b : Bool) (left : Transcript) → b ≡ true → nothing_left ≡ cond b nothing_left left
none_ahead b left none = rw none refl

module _ (format : Format) where
  -- no line is left
  pub none_left : (n : ℕ) (p : Place) → length p.lines ≡ 0 → left_within format n p ≡ nothing_left
  unfolding left_within
  none_left zero p none = refl
  none_left (suc n) p none = sym (none_ahead (length p.lines == 0) (onto_left (wants_at format p) (event_at format p) (λ after. left_within format n after)) (eq-eqb (length p.lines) 0 none))

  -- as many events as there are lines are enough
  same_within : (n m : ℕ) (p : Place) → length p.lines ≤ n → length p.lines ≤ m → left_within format n p ≡ left_within format m p
  unfolding left_within
  same_within zero m p n-enough m-enough = sym (none_left m p (omega arith))
  same_within (suc n) zero p n-enough m-enough = none_left (suc n) p (omega arith)
  same_within (suc n) (suc m) p n-enough m-enough =
      ap (λ (left : Transcript). cond (length p.lines == 0) nothing_left left)
      (ahead_same (wants_at format p) (event_at format p) (λ after. left_within format n after) (λ after. left_within format m after) (λ x e. same_within n m x.1 (omega (arith, event_fewer format p x e)) (omega (arith, event_fewer format p x e))))

  some_within : (n : ℕ) (p : Place) → length p.lines ≤ n → (length p.lines == 0) ≡ false → left_within format n p ≡ onto_left (wants_at format p) (event_at format p) (left_at format)
  unfolding left_within
  some_within zero p enough some = absurd (eqb-false (length p.lines) 0 some (omega arith))
  some_within (suc n) p enough some = rw some (ahead_same (wants_at format p) (event_at format p) (λ after. left_within format n after) (left_at format) (λ x e. same_within n (length x.1.lines) x.1 (omega (arith, event_fewer format p x e)) (omega arith)))

-- what the first event wants, what is left wants next
first_wants : (wants : Bool) (read : Result (Event × Place) Fault) (below : Place → Transcript) → wants ≡ true → WantsNext (onto_left wants read below)
first_wants wants (Ok x) below is = ((below x.1).wants, ap (λ (w : Bool). w ∷ (below x.1).wants) is)
first_wants wants (Err f) below is = ([], ap (λ (w : Bool). w ∷ []) is)

-- the first event of what is left
event_first : (wants : Bool) (read : Result (Event × Place) Fault) (below : Place → Transcript) (r : Result Event TranscriptError) (after : Place) → TakesLines (λ x. x) r after read → IfErr r (λ e. e ≡ errors.NoMemory → wants ≡ true)
    → TakesEvent (Some r) (onto_left wants read below) (below after)
event_first wants read below (Ok e) after takes memory = (wants, rw takes refl)
event_first wants read below (Err errors.NoMemory) after takes memory = (tt, λ is. first_wants wants read below (memory is))
event_first wants read below (Err (errors.Fault line fault)) after takes memory = (rw takes refl, λ is. absurd cc)

module _ (format : Format) where
  -- what is taken where a line is left
  pub event_taken : (p after : Place) (r : Result Event TranscriptError) → (length p.lines == 0) ≡ false → TakesLines (λ x. x) r after (event_at format p) → IfErr r (λ e. e ≡ errors.NoMemory → wants_at format p ≡ true)
      → TakesEvent (Some r) (left_at format p) (left_at format after)
  event_taken p after r some takes memory = rw (some_within format (length p.lines) p (omega arith) some) (event_first (wants_at format p) (event_at format p) (left_at format) r after takes memory)

-- ---- the whole of it

onto_outcome : (e : Event) (es : List Event) (fault : Option Fault) → (outcome_of es fault >>= λ others. Ok (e ∷ others)) ≡ outcome_of (e ∷ es) fault
onto_outcome e es None = refl
onto_outcome e es (Some f) = refl

whole_by : (wants : Bool) (read : Result (Event × Place) Fault) (read_on : Place → Result (List Event) Fault) (below : Place → Transcript) → ((p : Place) → read_on p ≡ outcome (below p))
    → (read >>= λ first. read_on first.1 >>= λ others. Ok (first.0 ∷ others)) ≡ outcome (onto_left wants read below)
whole_by wants (Ok x) read_on below same = ap (λ (others : Result (List Event) Fault). others >>= λ es. Ok (x.0 ∷ es)) (same x.1) ∙ onto_outcome x.0 (below x.1).events (below x.1).fault
whole_by wants (Err f) read_on below same = refl

whole_step : (b : Bool) (read : Result (List Event) Fault) (left : Transcript) → read ≡ outcome left → cond b (Ok []) read ≡ outcome (cond b nothing_left left)
whole_step true read left same = refl
whole_step false read left same = same

module _ (format : Format) where
  whole_within : (n : ℕ) (p : Place) → events_at format n p ≡ outcome (left_within format n p)
  unfolding events_at left_within
  whole_within zero p = refl
  whole_within (suc n) p =
      whole_step (length p.lines == 0) (event_at format p >>= λ first. events_at format n first.1 >>= λ others. Ok (first.0 ∷ others)) (onto_left (wants_at format p) (event_at format p) (λ after. left_within format n after))
      (whole_by (wants_at format p) (event_at format p) (events_at format n) (λ after. left_within format n after) (whole_within n))

  -- what is read of a text is what is left at its beginning
  pub whole_left : (text : List ℕ) (p : Place) → p ≡ record { number = 1 + header_lines format; lines = lines_of text } → body_at format text ≡ outcome (left_at format p)
  unfolding body_at
  whole_left text p is = whole_within (length (lines_of text)) (record { number = 1 + header_lines format; lines = lines_of text }) ∙ ap (λ (q : Place). outcome (left_at format q)) (sym is)

-- ---- how much is left

few_ahead : (n : ℕ) (wants : Bool) (read : Result (Event × Place) Fault) (below : Place → Transcript) → ((p : Place) → length (below p).events ≤ n) → length (onto_left wants read below).events ≤ suc n
few_ahead n wants (Ok x) below few = omega (arith, few x.1)
few_ahead n wants (Err f) below few = omega arith

few_step : (b : Bool) (n : ℕ) (left : Transcript) → length left.events ≤ n → length (cond b nothing_left left).events ≤ n
few_step true n left few = omega arith
few_step false n left few = few

lines_onto : (b : ℕ) (lines : List (List ℕ)) → length (onto_first b lines) ≤ suc (length lines)
lines_onto b [] = omega arith
lines_onto b (line ∷ lines) = omega arith

lines_step : (s : Bool) (b : ℕ) (lines : List (List ℕ)) → length (cond s ((b ∷ []) ∷ lines) (onto_first b lines)) ≤ suc (length lines)
lines_step true b lines = omega arith
lines_step false b lines = lines_onto b lines

-- a line has a byte at least
few_lines : (text : List ℕ) → length (lines_of text) ≤ length text
unfolding lines_of
few_lines [] = omega arith
few_lines (b ∷ text) = omega (arith, lines_step (is_newline b) b (lines_of text), few_lines text)

module _ (format : Format) where
  few_within : (n : ℕ) (p : Place) → length (left_within format n p).events ≤ n
  unfolding left_within
  few_within zero p = omega arith
  few_within (suc n) p = few_step (length p.lines == 0) (suc n) (onto_left (wants_at format p) (event_at format p) (λ after. left_within format n after)) (few_ahead n (wants_at format p) (event_at format p) (λ after. left_within format n after) (few_within n))

  -- there are no more events than bytes
  pub few_left : (text body : List ℕ) (p : Place) → p.lines ≡ lines_of body → length body ≤ length text → length (left_at format p).events ≤ length text
  few_left text body p is within = omega (arith, few_within (length p.lines) p, ap length is, few_lines body)

-- ---- all that is left, read event by event

-- what was read of it, and what is still left of it
abbrev pub behind : List Event → Transcript → Result (List Event) Fault
behind front left = outcome_of (front ++ left.events) left.fault

-- one event more was read
pub reads_more : (front : List Event) (e : Event) (left left' : Transcript) → (w : Bool) × (left ≡ record { events = e ∷ left'.events; fault = left'.fault; wants = w ∷ left'.wants }) → behind front left ≡ behind (front ++ e ∷ []) left'
reads_more front e left left' is = ap (behind front) is.1 ∙ ap (λ (es : List Event). outcome_of es left'.fault) (sym (append_assoc front (e ∷ []) left'.events))

-- nothing is left
pub reads_end : (front : List Event) (left : Transcript) (total : Result (List Event) Fault) → left ≡ nothing_left → total ≡ behind front left → total ≡ Ok front
reads_end front left total none so_far = so_far ∙ ap (behind front) none ∙ ap (λ (es : List Event). Ok es) (append-nil front)

-- ---- a whole text

module _ (format : Format) where
  -- what the events of a text want, the text wants
  pub text_wants : (text : List ℕ) (left : Transcript) (r : Result (Vec Event Global) TranscriptError) → HasHeader format text × (left ≡ left_of format text) → IfErr r (λ e. e ≡ errors.NoMemory → (left.events ≢ []) ⊎ WantsNext left)
      → IfErr r (λ e. e ≡ errors.NoMemory → TranscriptWants format text)
  text_wants text left (Ok events) begins wants = tt
  text_wants text left (Err error) begins wants = λ is. (begins.0, subst (λ (l : Transcript). (l.events ≢ []) ⊎ WantsNext l) begins.1 (wants is))
