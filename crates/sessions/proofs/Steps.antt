-- The steps of a run.
use Rattle.std.proofs.Common.{◌≡◌, ℕ, ◌+◌, ◌^◌, ◌<◌, ◌≤◌, true, List, [], ◌∷◌, ◌++◌, length, take, drop, Err, Ok, refl, sym, ap, ◌∙◌, subst, arith, append-nil, append_assoc, inl, inr, ⊎_elim}
use Rattle.std.specs.Prelude.{vec_len}
use Rattle.sessions.proofs.Common.{All, Cmd, Config, Event, Format, IsCall, LineFault, SeatsInRange, WantsMemory, byte_words_at, command_at, command_line, event_text, fault_line, most, script_again, script_text, spent_line, table, take-append-drop, transcript_text}
use Rattle.std.proofs.lemmas.List.Elements.{All-append, All-cons, All-nil}
use Rattle.word_lines.specs.Limits.{IsCommand}
use Rattle.sessions.specs.declared.callers.Callers.{Callers}
use Rattle.sessions.specs.declared.lines.Lines.{Lines}
use Rattle.sessions.specs.declared.output.Output.{Output}
use Rattle.sessions.specs.declared.ending.ServeEnd.{ServeEnd}
use Rattle.sessions.specs.declared.ending.ServeEnd.TheVariants as end
use Rattle.sessions.specs.Devices.{Reads, Writes, pending_of, HasTaken, HasWritten}
use Rattle.sessions.specs.declared.serving.Run.{Run}
use Rattle.sessions.specs.declared.serving.Terms.{Terms}
use Rattle.sessions.specs.Waiting.{waiting, IsLine, HasReadOn, IsSought}
use Rattle.sessions.specs.Runs.{HasMade, HasSpent, calls_of, EndsBy, FailsBy}
use Rattle.sessions.specs.Going.{HasCalled, IsGoing, IsStopped, kept_at}
use Rattle.sessions.proofs.Goings.{behind, calls_more, text_more as events_more, part_of_text}
use Rattle.sessions.proofs.Scripts as scripts
use Rattle.sessions.proofs.Transcripts.{begun_on, taken_before, taken_on}

pub few_seats : (config : Config) → SeatsInRange config → config.seats < 2 ^ 8
few_seats config range = let low = range.1 in omega arith

-- ---- bytes that were read and written since

read_on : (r r' r'' : Reads) (terms : Terms) (callers : Callers) (events : List Event) (l l' : Lines) → HasReadOn l l' r' r'' → HasCalled r r' terms callers events (waiting l) → HasCalled r r'' terms callers events (waiting l')
read_on r r' r'' terms callers events l l' x h = record {
  made = h.made;
  first = h.first;
  in_range = h.in_range;
  read = x.gave ∙ (ap (λ (xs : List ℕ). xs ++ x.got) h.read ∙ (behind r.given (script_text (calls_of events)) (waiting l) x.got ∙ ap (λ (xs : List ℕ). r.given ++ (script_text (calls_of events) ++ xs)) (sym x.waits)));
  calls = h.calls;
}

pub go_on : (r r' r'' : Reads) (w w' w'' : Writes) (run : Run) (l : Lines) (o : Output) (events : List Event) → HasReadOn run.lines l r' r'' → r''.failures ≡ r'.failures → HasWritten w' w'' (pending_of run.output) (pending_of o) (Ok tt)
    → IsGoing r r' w w' run events → IsGoing r r'' w w'' (record run { lines = l; output = o }) events
go_on r r' r'' w w' w'' run l o events x reads t g = record {
  called = read_on r r' r'' run.terms run.callers events run.lines l x g.called;
  seats = g.seats;
  formatted = x.format ∙ g.formatted;
  found = λ e. ⊎_elim (λ same. same.1 ∙ g.found (sym same.0 ∙ e)) (λ is. sym is ∙ e) x.found;
  wrote = taken_on w.taken w'.taken w''.taken (transcript_text run.terms.format events) (pending_of run.output) (pending_of o) g.wrote t.0;
  worked = (reads ∙ g.worked.0, t.1 ∙ g.worked.1);
}

-- nothing was read
pub unread : (l : Lines) (r : Reads) → HasReadOn l l r r
unread l r = record { got = []; gave = sym (append-nil r.given); waits = sym (append-nil (waiting l)); format = refl; found = inl (refl, refl) }

-- ---- where it stops as it is

-- the line of an end stands behind the text
told_with : (text out pending last : List ℕ) → text ≡ out ++ pending → out ++ (pending ++ last) ≡ text ++ last
told_with text out pending last told = sym (append_assoc out pending last) ∙ ap (λ (xs : List ℕ). xs ++ last) (sym told)

told_all : (text out pending : List ℕ) → text ≡ out ++ pending → out ++ (pending ++ []) ≡ text
told_all text out pending told = told_with text out pending [] told ∙ append-nil text

calls_length : (events : List Event) → length (calls_of events) ≡ length events
calls_length [] = refl
calls_length (e ∷ events) = let q = calls_length events in omega arith

stop : (r r' : Reads) (w w' : Writes) (run : Run) (events : List Event) (e : ServeEnd) → HasCalled r r' run.terms run.callers events (waiting run.lines) → (t : HasTaken w.taken w'.taken (transcript_text run.terms.format events) (pending_of run.output)) → FailsBy e r w r' w'
    → EndsBy run.terms.format (run.terms.config.first + length events ≡ most) run.terms.config (script_text (calls_of events) ++ waiting run.lines) r'.ended events (kept_at e t.part (pending_of run.output)) e → IsStopped r r' w w' run e
stop r r' w w' run events e called t failed ends = record { events = events; rest = waiting run.lines; called = called; out = t.part; wrote = t.took; ends = λ known. ends; failed = failed }

-- out of memory for the line that waits
pub stop_memory : (r r' : Reads) (w w' : Writes) (run : Run) (events : List Event) (n : ℕ) → WantsMemory (byte_words_at run.terms.format table (vec_len run.callers.seats) (take n (waiting run.lines))) → IsGoing r r' w w' run events → IsStopped r r' w w' run end.Memory
stop_memory r r' w w' run events n wants g = stop r r' w w' run events end.Memory g.called g.wrote g.worked (inr (inl (
  record {
    line = take n (waiting run.lines);
    rest = drop n (waiting run.lines);
    parts = ap (λ (xs : List ℕ). script_text (calls_of events) ++ xs) (sym (take-append-drop n (waiting run.lines)));
    wants = subst (λ (k : ℕ). WantsMemory (byte_words_at run.terms.format table k (take n (waiting run.lines)))) g.seats wants;
  },
  told_all (transcript_text run.terms.format events) g.wrote.part (pending_of run.output) g.wrote.left,
)))

-- all of the input was taken
pub stop_done : (r r' : Reads) (w w' : Writes) (run : Run) (events : List Event) → waiting run.lines ≡ [] → run.lines.ended ≡ true → IsGoing r r' w w' run events → IsStopped r r' w w' run end.Done
stop_done r r' w w' run events none found g = stop r r' w w' run events end.Done g.called g.wrote g.worked (
  g.found found,
  scripts.read_whole run.terms.format run.terms.config.seats (script_text (calls_of events) ++ waiting run.lines) (calls_of events) (few_seats run.terms.config g.called.in_range.0) g.called.calls (ap (λ (xs : List ℕ). script_text (calls_of events) ++ xs) none),
  told_all (transcript_text run.terms.format events) g.wrote.part (pending_of run.output) g.wrote.left,
)

-- a line is faulty
pub stop_fault : (r r' : Reads) (w w' : Writes) (run : Run) (events : List Event) (n line : ℕ) (f : LineFault) → n ≤ length (waiting run.lines) → IsLine run.lines n → command_at run.terms.format table (vec_len run.callers.seats) (take n (waiting run.lines)) ≡ Err f → line ≡ length events + 1
    → IsGoing r r' w w' run events → IsStopped r r' w w' run (end.Fault line f)
stop_fault r r' w w' run events n line f within at e numbered g =
    let e' : command_at run.terms.format table run.terms.config.seats (take n (waiting run.lines)) ≡ Err f = ap (λ (k : ℕ). command_at run.terms.format table k (take n (waiting run.lines))) (sym g.seats) ∙ e in
    stop r r' w w' run events (end.Fault line f) g.called g.wrote g.worked (
      scripts.end_with run.terms.format run.terms.config.seats n line (script_text (calls_of events) ++ waiting run.lines) run.lines r'.ended (calls_of events) f g.formatted (few_seats run.terms.config g.called.in_range.0) g.called.calls refl g.found within at e' (let q = calls_length events in omega arith),
      told_with (transcript_text run.terms.format events) g.wrote.part (pending_of run.output) (fault_line line f) g.wrote.left,
    )

-- the next line was sought in vain
pub stop_sought : (r r' r'' : Reads) (w w' w'' : Writes) (run : Run) (l : Lines) (o : Output) (events : List Event) (e : ServeEnd) → HasReadOn run.lines l r' r'' → IsSought l r' r'' w' w'' run.output o (Err e)
    → IsGoing r r' w w' run events → IsStopped r r'' w w'' (record run { lines = l; output = o }) e
stop_sought r r' r'' w w' w'' run l o events end.Input x s g =
    let text = transcript_text run.terms.format events in let t = taken_on w.taken w'.taken w''.taken text (pending_of run.output) (pending_of o) g.wrote s.1 in
    stop r r'' w w'' (record run { lines = l; output = o }) events end.Input (read_on r r' r'' run.terms run.callers events run.lines l x g.called) t (s.2 ∙ ap (λ (n : ℕ). n + 1) g.worked.0, s.3 ∙ g.worked.1) (
      record {
        lines = script_text (calls_of events);
        rest = waiting l;
        parts = refl;
        read = script_again run.terms.format run.terms.config.seats (calls_of events) (few_seats run.terms.config g.called.in_range.0) g.called.calls;
        unended = s.0;
      },
      told_all text t.part (pending_of o) t.left,
    )
stop_sought r r' r'' w w' w'' run l o events end.Output x s g =
    let b = begun_on w.taken w'.taken w''.taken (transcript_text run.terms.format events) (pending_of run.output) g.wrote s.0 in
    let reads : r''.failures ≡ r.failures = s.1 ∙ g.worked.0 in
    record {
      events = events;
      rest = waiting l;
      called = read_on r r' r'' run.terms run.callers events run.lines l x g.called;
      out = b.1.part;
      wrote = b.1.took;
      ends = λ known. part_of_text run.terms.format run.terms.config.seats (script_text (calls_of events) ++ waiting l) r''.ended events b.1.part (b.0, b.1.left);
      failed = (omega (arith, reads), omega (arith, reads), s.2 ∙ ap (λ (n : ℕ). n + 1) g.worked.1);
    }
stop_sought r r' r'' w w' w'' run l o events _ x s g = absurd s

-- ---- the call of the line at the front

-- its line is one call more
one_call : (format : Format) (seats : ℕ) (calls : List (ℕ × Cmd)) (n seat : ℕ) (cmd : Cmd) (waits : List ℕ) → seat < seats → IsCommand format cmd → take n waits ≡ command_line seat cmd → All (IsCall format seats) calls
    → All (IsCall format seats) (calls ++ (seat, cmd) ∷ []) × (script_text calls ++ waits ≡ script_text (calls ++ (seat, cmd) ∷ []) ++ drop n waits)
one_call format seats calls n seat cmd waits there lawful spelled are =
    let call : ℕ × Cmd = (seat, cmd) in let behind = drop n waits in (
      All-append (IsCall format seats) calls (call ∷ []) are (All-cons (IsCall format seats) call [] (there, lawful) (All-nil (IsCall format seats))),
      ap (λ (xs : List ℕ). script_text calls ++ xs) (sym (take-append-drop n waits) ∙ ap (λ (xs : List ℕ). xs ++ behind) spelled)
          ∙ (sym (append_assoc (script_text calls) (command_line seat cmd) behind) ∙ ap (λ (xs : List ℕ). xs ++ behind) (sym (scripts.text_more calls call))),
    )

module _ (r r' : Reads) (w w' : Writes) (run : Run) (callers : Callers) (events : List Event) (n seat : ℕ) (cmd : Cmd) (there : seat < vec_len run.callers.seats) (lawful : IsCommand run.terms.format cmd)
    (spelled : take n (waiting run.lines) ≡ command_line seat cmd) (db : callers.db ≡ run.callers.db) (g : IsGoing r r' w w' run events) where
  abbrev text : List ℕ
  text = transcript_text run.terms.format events

  called : All (IsCall run.terms.format run.terms.config.seats) (calls_of events ++ (seat, cmd) ∷ []) × (script_text (calls_of events) ++ waiting run.lines ≡ script_text (calls_of events ++ (seat, cmd) ∷ []) ++ drop n (waiting run.lines))
  called = one_call run.terms.format run.terms.config.seats (calls_of events) n seat cmd (waiting run.lines) (let q = g.seats in omega arith) lawful spelled g.called.calls

  call_made : (event : Event) → (event.seat ≡ seat) × (event.cmd ≡ cmd) → HasMade callers.latest callers.seats.items (events ++ event ∷ []) → HasCalled r r' run.terms callers (events ++ event ∷ []) (drop n (waiting run.lines))
  call_made event by made =
      let more : calls_of events ++ (seat, cmd) ∷ [] ≡ calls_of (events ++ event ∷ []) = (λ i. calls_of events ++ (sym by.0 i, sym by.1 i) ∷ []) ∙ sym (calls_more events event) in record {
        made = made;
        first = ap (λ d. d.lock.first) db ∙ g.called.first;
        in_range = g.called.in_range;
        read = g.called.read ∙ ap (λ (xs : List ℕ). r.given ++ xs) (called.1 ∙ ap (λ (calls : List (ℕ × Cmd)). script_text calls ++ drop n (waiting run.lines)) more);
        calls = subst (All (IsCall run.terms.format run.terms.config.seats)) more called.0;
      }

  -- it was made, its text is kept, and its line is taken off the front
  pub go_call : (l : Lines) (o : Output) (event : Event) → (event.seat ≡ seat) × (event.cmd ≡ cmd) → HasMade callers.latest callers.seats.items (events ++ event ∷ []) → vec_len callers.seats ≡ vec_len run.callers.seats
      → waiting l ≡ drop n (waiting run.lines) → l.ended ≡ run.lines.ended → l.format ≡ run.lines.format → pending_of o ≡ pending_of run.output ++ event_text event → IsGoing r r' w w' (record run { callers = callers; lines = l; output = o }) (events ++ event ∷ [])
  go_call l o event by made count left found formed kept = record {
    called = subst (HasCalled r r' run.terms callers (events ++ event ∷ [])) (sym left) (call_made event by made);
    seats = count ∙ g.seats;
    formatted = formed ∙ g.formatted;
    found = λ e. g.found (sym found ∙ e);
    wrote = subst (λ (x : List ℕ × List ℕ). HasTaken w.taken w'.taken x.0 x.1) (λ i. (sym (events_more run.terms.format events event) i, sym kept i)) (taken_before w.taken w'.taken text (pending_of run.output) (event_text event) g.wrote);
    worked = g.worked;
  }

  -- it was made, and its text can't be kept out of memory
  pub stop_untold : (o : Output) (event : Event) → (event.seat ≡ seat) × (event.cmd ≡ cmd) → HasMade callers.latest callers.seats.items (events ++ event ∷ []) → pending_of o ≡ pending_of run.output → IsStopped r r' w w' (record run { callers = callers; output = o }) end.Memory
  stop_untold o event by made kept = record {
    events = events ++ event ∷ [];
    rest = drop n (waiting run.lines);
    called = call_made event by made;
    out = g.wrote.part;
    wrote = g.wrote.took;
    ends = λ known. inr (inr (events, event, refl, told_all text g.wrote.part (pending_of o) (g.wrote.left ∙ ap (λ (xs : List ℕ). g.wrote.part ++ xs) (sym kept))));
    failed = g.worked;
  }

  -- no position is left for it
  pub stop_spent : (line : ℕ) → HasMade callers.latest callers.seats.items events → HasSpent callers.seats.items → line ≡ length events + 1 → IsStopped r r' w w' (record run { callers = callers }) (end.Spent line)
  stop_spent line made spent numbered = record {
    events = events;
    rest = waiting run.lines;
    called = record { made = made; first = ap (λ d. d.lock.first) db ∙ g.called.first; in_range = g.called.in_range; read = g.called.read; calls = g.called.calls };
    out = g.wrote.part;
    wrote = g.wrote.took;
    ends = λ known. (
      record {
        all = known spent;
        numbered = (let q = calls_length events in omega arith);
        call = (seat, cmd);
        next = scripts.begin_with run.terms.format run.terms.config.seats (script_text (calls_of events) ++ waiting run.lines) (drop n (waiting run.lines)) r'.ended (calls_of events ++ (seat, cmd) ∷ []) (few_seats run.terms.config g.called.in_range.0) called.0 called.1;
      },
      told_with text g.wrote.part (pending_of run.output) (spent_line line) g.wrote.left,
    );
    failed = g.worked;
  }
