-- The steps of a follower.
use Rattle.std.proofs.Common.{◌≡◌, ℕ, ◌+◌, ◌<◌, ◌≤◌, ⊎_elim, Bool, true, cond, List, [], ◌∷◌, ◌++◌, length, take, drop, Option, Some, None, Ok, Err, refl, sym, ap, ◌∙◌, subst, arith, append-nil, append_assoc, length-append, inr}
use Rattle.std.specs.Prelude.{codes}
use Rattle.follow.proofs.Common.{ApplyFault, Follows, Format, HasBegun, HasReadOn, HasTaken, IsFaultAt, IsLine, IsSought, Lines, Map, Message, Reads, Takes, Writes, apply_fault, format_of, has_ended, length-take-le, lines_of, pending_of, resolved_at, take-append-drop, test_of, text_at, view_in, view_of, waiting}
use Rattle.spans.specs.declared.span.Span.{Span}
use Rattle.spans.specs.Completeness.{ready_after}
use Rattle.spans.specs.Consumer as consumer
use Rattle.replica.specs.declared.fault.Fault.{Fault}
use Rattle.replica.specs.declared.fault.Fault.TheVariants as replica_faults
use Rattle.replica.specs.declared.replica.Replica.{Replica}
use Rattle.replica.specs.Starts.{Start as ReplicaStart}
use Rattle.sessions.specs.Runs.{MayHold}
use Rattle.sessions.specs.declared.ending.ServeEnd.{ServeEnd}
use Rattle.sessions.specs.declared.ending.ServeEnd.TheVariants as serve_ends
use Rattle.sessions.specs.declared.output.Output.{Output}
use Rattle.sessions.proofs.Goings.{behind}
use Rattle.sessions.proofs.Transcripts.{taken_before, taken_on}
use Rattle.follow.specs.declared.ending.FollowEnd.{FollowEnd}
use Rattle.follow.specs.declared.ending.FollowEnd.TheVariants as ends
use Rattle.follow.specs.declared.options.FollowOptions.{FollowOptions}
use Rattle.follow.specs.declared.options.Start.{Start}
use Rattle.follow.specs.declared.options.Start.TheVariants as starts
use Rattle.follow.specs.declared.options.Shown.TheVariants as shown
use Rattle.follow.specs.declared.choice.Choice.{Choice}
use Rattle.follow.specs.declared.fault.FollowFault.{FollowFault}
use Rattle.follow.specs.declared.fault.FollowError.{FollowError}
use Rattle.follow.specs.declared.fault.FollowError.TheVariants as errors
use Rattle.follow.specs.declared.follower.Follower.{Follower}
use Rattle.follow.specs.declared.telling.Telling.{Telling}
use Rattle.follow.specs.Following.{is_taking_after, start_of, error_of_replica, Followed, error_of_test, line_at, followed_at, followed_lines, followed_through, onto_followed, stopped_at}
use Rattle.follow.specs.Reports.{IsFollowReport, IsToldAt, shown_before, resolved_by, named_with, unless_told, named_in, NamesKey, TellsAt}
use Rattle.follow.specs.Ends.{StopAt, TakesNext, ComesBy, FailsAt}
use Rattle.follow.specs.Steps.{HasRead, IsMisreadAt, onto_taken, named_through, ready_told, are_some, GoesBy, IsFollowing, HasReported, lines_ahead, message_ahead, IsAhead, IsHolding, IsGoing, IsOver, IsStopped, IsFresh, GoesOn, TakesMore, StopsWithLine, end_at, end_by, end_unfound}
use Rattle.follow.proofs.Reports.{told_more, named_more, told_by, resolved_last}
use Rattle.follow.proofs.Lines.{chosen_stays, line_whole, line_comes, line_ahead, followed_none, followed_misread, followed_passed, followed_message, message_adds, line_adds, takes_more}

-- a replica is of the span that its follower was given
span_kept : (span : Span) (start : Start) → (start_of span start).span ≡ span
span_kept span (starts.Cursor cursor) = refl
span_kept span _ = refl

-- ---- where it begins

pub started : (o : FollowOptions) (r : Reads) (f : Follower) → IsFresh o f → IsAhead o r r f 0 []
unfolding followed_at
started o r f fresh = record {
  by = fresh.by;
  follows = fresh.follows;
  started = fresh.started;
  named = λ changes. fresh.named;
  front = [];
  read = sym (ap (λ (xs : List ℕ). r.given ++ xs) fresh.nothing ∙ append-nil r.given);
  found = λ e. absurd (let q = fresh.open_ended in cc);
  followed = λ more. ap (λ (b : Bool). followed_lines o b [] 1 (lines_of more)) (sym fresh.taking);
  counted = omega arith;
}

-- ---- what is kept and written

-- some of what was kept was written
reported_on : (o : FollowOptions) (ms : List Message) (w w' w'' : Writes) (kept kept' : List ℕ) → HasTaken w'.taken w''.taken kept kept' → HasReported o ms w w' kept → HasReported o ms w w'' kept'
reported_on o ms w w' w'' kept kept' t h = (h.0, h.1, taken_on w.taken w'.taken w''.taken h.0 kept kept' h.2 t)

-- or a write failed
pub stop_unwritten : (o : FollowOptions) (ms : List Message) (w w' w'' : Writes) (kept : List ℕ) (r r' : Reads) (kept' : List ℕ) → HasBegun w'.taken w''.taken kept → w''.failures ≡ w.failures + 1 → HasReported o ms w w' kept → r'.failures ≡ r.failures → IsOver o r r' ms ends.Output → IsStopped o r r' w w'' kept' ends.Output
stop_unwritten o ms w w' w'' kept r r' kept' b failed h reads over = record { messages = ms; over = over; rest = b.0; told = reported_on o ms w w' w'' kept b.0 b.1 h; keeps = λ ne. absurd (ne refl); failed = (omega arith, omega arith, failed) }

-- the report goes on
reported_more : (o : FollowOptions) (ms ms' : List Message) (w w' : Writes) (kept kept' : List ℕ) → GoesOn o ms ms' kept kept' → HasReported o ms w w' kept → HasReported o ms' w w' kept'
reported_more o ms ms' w w' kept kept' g h =
    (h.0 ++ g.text, g.report h.0 h.1, subst (HasTaken w.taken w'.taken (h.0 ++ g.text)) (sym g.keeps) (taken_before w.taken w'.taken h.0 kept g.text h.2))

-- nothing is told
pub goes_on_still : (o : FollowOptions) (ms : List Message) (kept : List ℕ) → GoesOn o ms ms kept kept
goes_on_still o ms kept = record { text = []; keeps = sym (append-nil kept); report = λ told report. subst (IsFollowReport o ms) (sym (append-nil told)) report }

-- it ends, and no write has failed
pub stop_reported : (o : FollowOptions) (ms : List Message) (r r' : Reads) (w w' : Writes) (kept : List ℕ) (e : FollowEnd) → IsOver o r r' ms e → HasReported o ms w w' kept → FailsAt e r w r' w' → IsStopped o r r' w w' kept e
stop_reported o ms r r' w w' kept e over told failed = record { messages = ms; over = over; rest = kept; told = told; keeps = λ ne. refl; failed = failed }

-- ---- what is known while it goes

module _ (o : FollowOptions) (next : List ℕ → Followed) (r r' : Reads) (f : Follower) (lines : ℕ) (ms : List Message) (u : IsFollowing o next r r' f lines ms) where
  -- whatever comes behind what waits
  followed_whole : (whole : List ℕ) (e : Bool) (may : MayHold (u.front ++ waiting f.lines) e whole) → followed_at o whole ≡ onto_taken ms (next (waiting f.lines ++ may.rest))
  followed_whole whole e may = ap (followed_at o) (may.goes_on ∙ append_assoc u.front (waiting f.lines) may.rest) ∙ u.followed (waiting f.lines ++ may.rest)

  -- it ends, with the messages that were taken
  over_so : (e : FollowEnd) → ComesBy o (u.front ++ waiting f.lines) r'.ended ms e → IsOver o r r' ms e
  over_so e comes = record {
    input = u.front ++ waiting f.lines;
    read = u.read;
    begins = λ whole may. ((next (waiting f.lines ++ may.rest)).messages, ap (λ (x : Followed). x.messages) (followed_whole whole r'.ended may));
    comes = comes;
  }

  -- the next line can't be followed
  stops_so : (number : ℕ) (fault : FollowFault) → ((rest : List ℕ) → (r'.ended ≡ true → rest ≡ []) → next (waiting f.lines ++ rest) ≡ stopped_at number (errors.Fault fault)) → IsOver o r r' ms (ends.Fault number fault)
  stops_so number fault stop =
      let stops : StopAt o (u.front ++ waiting f.lines) r'.ended ms number fault = λ whole may.
      followed_whole whole r'.ended may ∙ (ap (onto_taken ms) (stop may.rest may.stops) ∙ λ i. record { messages = append-nil ms i; stop = Some (record { line = number; error = errors.Fault fault }) }) in
      over_so (ends.Fault number fault) (inr stops)

-- ---- the next line is looked for, or there is none

module _ (o : FollowOptions) (r r' : Reads) (f : Follower) (lines : ℕ) (ms : List Message) (u : IsAhead o r r' f lines ms) where
  all_followed : followed_at o u.front ≡ followed_through ms
  all_followed =
      ap (followed_at o) (sym (append-nil u.front)) ∙ (u.followed [] ∙ (ap (onto_taken ms) (followed_none o f.choice.taking ms (lines + 1)) ∙ λ i. followed_through (append-nil ms i)))

  -- no further line can be counted
  pub over_spent : 18446744073709551615 ≤ lines → IsOver o r r' ms ends.Spent
  over_spent many = over_so o (lines_ahead o f ms lines) r r' f lines ms u ends.Spent (let size = length-append u.front (waiting f.lines) in let few = u.counted in omega arith)

  -- all of the input was taken
  pub over_done : waiting f.lines ≡ [] → has_ended f.lines ≡ true → IsOver o r r' ms (end_at (are_some ms))
  over_done none found =
      let whole : u.front ++ waiting f.lines ≡ u.front = ap (λ (xs : List ℕ). u.front ++ xs) none ∙ append-nil u.front in
      over_so o (lines_ahead o f ms lines) r r' f lines ms u (end_at (are_some ms)) (comes ms (u.found found) (ap (followed_at o) whole ∙ all_followed))
    where
      comes : (taken : List Message) → r'.ended ≡ true → followed_at o (u.front ++ waiting f.lines) ≡ followed_through taken → ComesBy o (u.front ++ waiting f.lines) r'.ended taken (end_at (are_some taken))
      comes [] ended all = (ended, all, refl)
      comes (m ∷ taken) ended all = (ended, all, λ none. absurd cc)

pub done_fails : (ms : List Message) (r r' : Reads) (w w' : Writes) → r'.failures ≡ r.failures → w'.failures ≡ w.failures → FailsAt (end_at (are_some ms)) r w r' w'
done_fails [] r r' w w' reads writes = (reads, writes)
done_fails (m ∷ ms) r r' w w' reads writes = (reads, writes)

module _ (o : FollowOptions) (r r' r'' : Reads) (f : Follower) (l : Lines) (lines : ℕ) (ms : List Message) (x : HasReadOn f.lines l r' r'') (same : format_of l ≡ f.format) where
  -- what was read since waits
  ahead_on : IsAhead o r r' f lines ms → IsAhead o r r'' (record f { lines = l; formatted = same }) lines ms
  ahead_on u = record {
    by = u.by;
    follows = u.follows;
    started = u.started;
    named = u.named;
    front = u.front;
    read = x.gave ∙ (ap (λ (xs : List ℕ). xs ++ x.got) u.read ∙ (behind r.given u.front (waiting f.lines) x.got ∙ ap (λ (xs : List ℕ). r.given ++ (u.front ++ xs)) (sym x.waits)));
    found = λ e. ⊎_elim (λ same. same.1 ∙ u.found (sym same.0 ∙ e)) (λ told. sym told ∙ e) x.found;
    followed = u.followed;
    counted = u.counted;
  }

  module _ (w w' w'' : Writes) (kept kept' : Output) (g : IsGoing o r r' w w' f (pending_of kept) lines ms) where
    -- the next line was found, or there is none
    pub go_on : (next : Option ℕ) → IsSought l r' r'' w' w'' kept kept' (Ok next) → IsGoing o r r'' w w'' (record f { lines = l; formatted = same }) (pending_of kept') lines ms
    go_on next s = (ahead_on g.0, reported_on o ms w w' w'' (pending_of kept) (pending_of kept') s.1 g.1, s.2 ∙ g.2, s.3 ∙ g.3)

    -- a read or a write failed
    pub stop_unfound : (e : ServeEnd) → IsSought l r' r'' w' w'' kept kept' (Err e) → IsStopped o r r'' w w'' (pending_of kept') (end_unfound e)
    stop_unfound serve_ends.Input s =
        let u = ahead_on g.0 in let f' = record f { lines = l; formatted = same } in
        let over = over_so o (lines_ahead o f' ms lines) r r'' f' lines ms u ends.Input (record { lines = u.front; rest = waiting l; parts = refl; read = all_followed o r r'' f' lines ms u; unended = s.0 }) in
        stop_reported o ms r r'' w w'' (pending_of kept') ends.Input over (reported_on o ms w w' w'' (pending_of kept) (pending_of kept') s.1 g.1) (s.2 ∙ ap (λ (n : ℕ). n + 1) g.2, s.3 ∙ g.3)
    stop_unfound serve_ends.Output s =
        let f' = record f { lines = l; formatted = same } in
        stop_unwritten o ms w w' w'' (pending_of kept) r r'' (pending_of kept') s.0 (s.2 ∙ ap (λ (n : ℕ). n + 1) g.3) g.1 (s.1 ∙ g.2) (over_so o (lines_ahead o f' ms lines) r r'' f' lines ms (ahead_on g.0) ends.Output tt)
    stop_unfound _ s = absurd s

-- ---- lines

module _ (o : FollowOptions) (r r' : Reads) (f f' : Follower) (lines n : ℕ) (ms : List Message) (m : Option Message) where
  -- a line was taken off the front
  go_line : (next : List ℕ → Followed) → n ≤ length (waiting f.lines) → 0 < n → f'.format ≡ f.format → f'.complete ≡ f.complete → f'.replica ≡ f.replica → f'.telling ≡ f.telling → f'.started ≡ f.started → HasRead f f' n m
      → ((more : List ℕ) → lines_ahead o f ms lines (take n (waiting f.lines) ++ more) ≡ next more) → (u : IsAhead o r r' f lines ms) → (v : IsFollowing o next r r' f' (lines + 1) ms) × (v.front ≡ u.front ++ take n (waiting f.lines))
  go_line next within some format complete replica telling started h step u =
      let line = take n (waiting f.lines) in
      let whole : waiting f.lines ≡ line ++ waiting f'.lines = sym (take-append-drop n (waiting f.lines)) ∙ ap (λ (xs : List ℕ). line ++ xs) (sym h.left) in
      let size : length line ≡ n = length-take-le n (waiting f.lines) within in (
        record {
          by = (format ∙ u.by.0, h.feed ∙ u.by.1, ap (λ (t : Telling). t.shown) telling ∙ u.by.2, complete ∙ u.by.3);
          follows = subst (λ (p : Replica). Follows p (start_of o.span o.start) ms) (sym replica) u.follows;
          started = started ∙ u.started;
          named = λ changes. ap named_in telling ∙ u.named changes;
          front = u.front ++ line;
          read = u.read ∙ ap (λ (xs : List ℕ). r.given ++ xs) (ap (λ (xs : List ℕ). u.front ++ xs) whole ∙ sym (append_assoc u.front line (waiting f'.lines)));
          found = λ e. u.found (sym h.ended ∙ e);
          followed = λ more. ap (followed_at o) (append_assoc u.front line more) ∙ (u.followed (line ++ more) ∙ ap (onto_taken ms) (step more));
          counted = let longer = length-append u.front line in let few = u.counted in omega arith;
        },
        refl,
      )

-- what a line says by the options, it says to the follower
says : (o : FollowOptions) (f f' : Follower) (n : ℕ) (m : Option Message) → GoesBy o f → (h : HasRead f f' n m)
    → (line_at o.format f.choice.taking (take n (waiting f.lines)) ≡ Ok m) × (text_at o.format (take n (waiting f.lines)) ≡ Ok h.text) × (f'.choice.taking ≡ is_taking_after o.feed f.choice.taking h.text)
says o f f' n m by h = let line = take n (waiting f.lines) in (
  ap (λ (x : Format). line_at x f.choice.taking line) (sym by.0) ∙ h.message,
  ap (λ (x : Format). text_at x line) (sym by.0) ∙ h.whole,
  h.taking ∙ ap (λ (x : Option ℕ). is_taking_after x f.choice.taking h.text) by.1,
)

module _ (o : FollowOptions) (r r' : Reads) (f f' : Follower) (lines n : ℕ) (ms : List Message) (within : n ≤ length (waiting f.lines)) (is : IsLine f.lines n) (u : IsAhead o r r' f lines ms) where
  -- the line stands behind the messages
  next_line : (text rest input : List ℕ) → text_at o.format (take n (waiting f.lines)) ≡ Ok text → input ≡ u.front ++ (take n (waiting f.lines) ++ rest) → TakesNext o input ms (followed_at o (u.front ++ take n (waiting f.lines)))
  next_line text rest input e parts =
      let one = line_whole o.format n f.lines text within is e in
      record { lines = u.front; line = take n (waiting f.lines); rest = rest; parts = parts; one = one.0; whole = one.1; before = all_followed o r r' f lines ms u; behind = refl }

  -- a line was passed over
  pub go_passed : f'.format ≡ f.format → f'.complete ≡ f.complete → f'.replica ≡ f.replica → f'.telling ≡ f.telling → f'.started ≡ f.started → HasRead f f' n None → IsAhead o r r' f' (lines + 1) ms
  go_passed format complete replica telling started h =
      let line = take n (waiting f.lines) in let y = says o f f' n None u.by h in
      let cut = line_ahead o.format n f.lines h.text within is y.1 in
      (go_line o r r' f f' lines n ms None (lines_ahead o f' ms (lines + 1)) within cut.0 format complete replica telling started h
      (λ more. followed_passed o f.choice.taking f'.choice.taking ms (lines + 1) (line ++ more) more line h.text (cut.1 more) y.0 y.1 y.2) u).0

  -- a line's message is in hand
  pub go_holding : (m : Message) → f'.format ≡ f.format → f'.complete ≡ f.complete → f'.replica ≡ f.replica → f'.telling ≡ f.telling → f'.started ≡ f.started → HasRead f f' n (Some m) → IsHolding o r r' f' (lines + 1) ms m
  go_holding m format complete replica telling started h =
      let line = take n (waiting f.lines) in let y = says o f f' n (Some m) u.by h in
      let cut = line_ahead o.format n f.lines h.text within is y.1 in
      let v = go_line o r r' f f' lines n ms (Some m) (message_ahead o f' ms (lines + 1) m) within cut.0 format complete replica telling started h
      (λ more. followed_message o f.choice.taking f'.choice.taking ms (lines + 1) m (line ++ more) more line h.text (cut.1 more) y.0 y.1 y.2) u in
      (v.0, subst (λ (xs : List ℕ). TakesNext o xs ms (followed_at o xs)) (sym v.1) (next_line h.text [] (u.front ++ line) y.1 (ap (λ (xs : List ℕ). u.front ++ xs) (sym (append-nil line)))))

  -- a line can't be read, or memory is wanted for it, which is one to take
  pub over_misread : (e : FollowError) → f.lines.format ≡ f.format → IsMisreadAt f n e → IsOver o r r' ms (end_by (lines + 1) e)
  over_misread errors.NoMemory same misread =
      let line = take n (waiting f.lines) in
      let whole : text_at o.format line ≡ Ok misread.0 = ap (λ (x : Format). text_at x line) (sym u.by.0) ∙ misread.1 in
      over_so o (lines_ahead o f ms lines) r r' f lines ms u ends.Memory (inr (inr (inr (
        followed_at o (u.front ++ line),
        next_line misread.0 (drop n (waiting f.lines)) (u.front ++ waiting f.lines) whole (ap (λ (xs : List ℕ). u.front ++ xs) (sym (take-append-drop n (waiting f.lines)))),
        λ none. line_adds o f.choice.taking ms (lines + 1) line (line_whole o.format n f.lines misread.0 within is whole).0 (chosen_stays o.format f.choice.taking line misread.0 whole misread.2) (sym (u.followed line) ∙ none),
      ))))
  over_misread (errors.Fault fault) same misread =
      stops_so o (lines_ahead o f ms lines) r r' f lines ms u (lines + 1) fault (λ rest over.
      let first = line_comes o.format f.choice.taking n f.lines rest (same ∙ u.by.0) within is (λ found. over (u.found found)) in
      followed_misread o f.choice.taking ms (lines + 1) (waiting f.lines ++ rest) first.0 first.1 (errors.Fault fault) first.2
      (first.3 ∙ (ap (λ (x : Format). line_at x f.choice.taking (take n (waiting f.lines))) (sym u.by.0) ∙ misread)))

error_fails : (line : ℕ) (e : FollowError) (r r' : Reads) (w w' : Writes) → r'.failures ≡ r.failures → w'.failures ≡ w.failures → FailsAt (end_by line e) r w r' w'
error_fails line (errors.Fault fault) r r' w w' reads writes = (reads, writes)
error_fails line errors.NoMemory r r' w w' reads writes = (reads, writes)

module _ (o : FollowOptions) (r r' : Reads) (w w' : Writes) (f : Follower) (kept kept' : List ℕ) (number lines : ℕ) (ms : List Message) (numbered : number ≡ lines + 1) (u : IsGoing o r r' w w' f kept lines ms) where
  -- it stops at a line
  pub stop_line : (error : FollowError) (e : FollowEnd) → StopsWithLine f error → kept' ≡ kept → e ≡ end_by number error → IsStopped o r r' w w' kept' e
  stop_line error e stops same is =
      subst (λ (x : List ℕ × FollowEnd). IsStopped o r r' w w' x.0 x.1) (λ i. (sym same i, (ap (λ (k : ℕ). end_by k error) (sym numbered) ∙ sym is) i))
      (stop_reported o ms r r' w w' kept (end_by (lines + 1) error) (stops o r r' lines ms u.0) u.1 (error_fails (lines + 1) error r r' w w' u.2 u.3))

  module _ (f' : Follower) (w'' : Writes) (kept'' : List ℕ) (takes : TakesMore f f' kept kept') where
    -- a line is taken
    pub go_written : HasTaken w'.taken w''.taken kept' kept'' → w''.failures ≡ w'.failures → (ms' : List Message) × IsGoing o r r' w w'' f' kept'' number ms'
    go_written written same =
        let t = takes o r r' lines ms u.0 in
        (t.0, (subst (λ (k : ℕ). IsAhead o r r' f' k t.0) (sym numbered) t.1, reported_on o t.0 w w' w'' kept' kept'' written (reported_more o ms t.0 w w' kept kept' t.2 u.1), u.2, same ∙ u.3))

    -- and a write failed
    pub stop_written : HasBegun w'.taken w''.taken kept' → w''.failures ≡ w'.failures + 1 → IsStopped o r r' w w'' kept'' ends.Output
    stop_written begun failed =
        let t = takes o r r' lines ms u.0 in
        stop_unwritten o t.0 w w' w'' kept' r r' kept'' begun (failed ∙ ap (λ (n : ℕ). n + 1) u.3) (reported_more o ms t.0 w w' kept kept' t.2 u.1) u.2 (over_so o (lines_ahead o f' t.0 (lines + 1)) r r' f' (lines + 1) t.0 t.1 ends.Output tt)

-- ---- a message in hand

some_of : (ms : List Message) (m : Message) → true ≡ are_some (ms ++ m ∷ [])
some_of [] m = refl
some_of (x ∷ ms) m = refl

module _ (o : FollowOptions) (r r' : Reads) (f : Follower) (number : ℕ) (ms : List Message) (m : Message) (h : IsHolding o r r' f number ms m) where
  abbrev begins : ReplicaStart
  begins = start_of o.span o.start

  -- the test of the message, in the words of the definitions
  tested : (test : Option ApplyFault) → IsFaultAt f.replica m test → apply_fault o.span begins.start ms m ≡ test
  tested test fault = ap (λ (s : Span). apply_fault s begins.start ms m) (sym (span_kept o.span o.start)) ∙ fault begins ms h.0.follows

  -- memory is wanted for it
  pub over_wanting : IsOver o r r' ms ends.Memory
  over_wanting =
      let u = h.0 in
      over_so o (message_ahead o f ms number m) r r' f number ms u ends.Memory (inr (inr (inr (
        followed_at o u.front,
        takes_more o u.front ms (followed_at o u.front) (waiting f.lines) h.1,
        λ same. message_adds ms number (apply_fault o.span begins.start ms m) m (followed_lines o f.choice.taking (ms ++ m ∷ []) (number + 1) (lines_of []))
            (sym (u.followed []) ∙ (ap (followed_at o) (append-nil u.front) ∙ same)),
      ))))

  -- the replica refuses it
  over_tested : (test : ApplyFault) (fault : FollowFault) → error_of_test test ≡ errors.Fault fault → IsFaultAt f.replica m (Some test) → IsOver o r r' ms (ends.Fault number fault)
  over_tested test fault is refuses =
      stops_so o (message_ahead o f ms number m) r r' f number ms h.0 number fault (λ rest over.
      ap (λ (t : Option ApplyFault). onto_followed number t m (followed_lines o f.choice.taking (ms ++ m ∷ []) (number + 1) (lines_of (waiting f.lines ++ rest)))) (tested (Some test) refuses) ∙ ap (stopped_at number) is)

  pub over_refused : (fault : Fault) → IsFaultAt f.replica m (test_of fault) → IsOver o r r' ms (end_by number (error_of_replica fault))
  over_refused replica_faults.NotAfter refuses = over_tested consumer.NotAfter _ refl refuses
  over_refused replica_faults.OutsideSpan refuses = over_tested consumer.OutsideSpan _ refl refuses
  over_refused replica_faults.ResolvedBack refuses = over_tested consumer.ResolvedBack _ refl refuses
  over_refused replica_faults.NoMemory refuses = over_wanting

  -- ---- it is taken

  module _ (f' : Follower) (t t' : Telling) (ready resolved : Option ℕ) (none front back : List ℕ)
      (shows : (s : ReplicaStart) (before : List Message) → Follows f.replica s before → ready ≡ ready_told f.complete s before m) (tells : TellsAt f.telling t (codes "complete") ready (view_in f.replica) none front)
      (names : NamesKey t t' m) (same : t'.shown ≡ t.shown) (passes : IsFaultAt f.replica m None) (takes : Takes f.replica f'.replica m)
      (resolves : (s : ReplicaStart) (taken : List Message) → Follows f'.replica s taken → resolved ≡ resolved_at s.first taken) (tells' : TellsAt t' f'.telling (codes "resolved") resolved (view_in f'.replica) front back) where
    follows : Follows f'.replica begins (ms ++ m ∷ [])
    follows = takes begins ms h.0.follows

    -- what it shows before it is taken, and what it resolves, in the words of the definitions
    ready_is : ready ≡ shown_before o ms m
    ready_is = shows begins ms h.0.follows ∙ λ i. cond (h.0.by.3 i) (ready_after (span_kept o.span o.start i) begins.start begins.cursor ms m) None

    resolved_is : resolved ≡ resolved_by m
    resolved_is = resolves begins (ms ++ m ∷ []) follows ∙ resolved_last begins.first ms m

    abbrev named_before : List (List ℕ)
    named_before = named_with (unless_told (shown_before o ms m) (named_through o [] [] ms)) m

    -- which keys are named before what it resolves is told
    named_so : o.shown ≡ shown.Changes → named_in t' ≡ named_before
    named_so changes = names (tells.same ∙ (h.0.by.2 ∙ changes)) ∙ ap (λ (xs : List (List ℕ)). named_with xs m) (tells.named ∙ (λ i. unless_told (ready_is i) (h.0.named changes i)))

    first_told : IsToldAt o.shown (codes "complete") (shown_before o ms m) (view_of begins.rows ms) (named_through o [] [] ms) tells.text
    first_told =
        told_by f.telling.shown o.shown (codes "complete") (shown_before o ms m) (view_of begins.rows ms) (named_in f.telling) (named_through o [] [] ms) tells.text h.0.by.2 h.0.named
        (subst (λ (p : Option ℕ × Map). IsToldAt f.telling.shown (codes "complete") p.0 p.1 (named_in f.telling) tells.text) (λ i. (ready_is i, λ x. h.0.follows.rows x i)) tells.is)

    last_told : IsToldAt o.shown (codes "resolved") (resolved_by m) (view_of begins.rows (ms ++ m ∷ [])) named_before tells'.text
    last_told =
        told_by t'.shown o.shown (codes "resolved") (resolved_by m) (view_of begins.rows (ms ++ m ∷ [])) (named_in t') named_before tells'.text (same ∙ (tells.same ∙ h.0.by.2)) named_so
        (subst (λ (p : Option ℕ × Map). IsToldAt t'.shown (codes "resolved") p.0 p.1 (named_in t') tells'.text) (λ i. (resolved_is i, λ x. follows.rows x i)) tells'.is)

    -- what is told of it is kept
    pub go_told : (kept kept' : List ℕ) → none ≡ [] → kept' ≡ kept ++ back → GoesOn o ms (ms ++ m ∷ []) kept kept'
    go_told kept kept' empty keeps = record {
      text = tells.text ++ tells'.text;
      keeps = keeps ∙ ap (λ (xs : List ℕ). kept ++ xs) (tells'.added ∙ ap (λ (xs : List ℕ). xs ++ tells'.text) (tells.added ∙ ap (λ (xs : List ℕ). xs ++ tells.text) empty));
      report = λ told report. told_more o [] [] ms m told (tells.text ++ tells'.text) report (record { first = tells.text; second = tells'.text; ready = first_told; resolved = last_told; text_is = refl });
    }

    pub go_taken : f'.format ≡ f.format → f'.complete ≡ f.complete → f'.choice ≡ f.choice → f'.lines ≡ f.lines → f'.started ≡ true → IsAhead o r r' f' number (ms ++ m ∷ [])
    go_taken format complete choice lines begun =
        let u = h.0 in
        record {
          by = (format ∙ u.by.0, ap (λ (c : Choice). c.feed) choice ∙ u.by.1, tells'.same ∙ (same ∙ (tells.same ∙ u.by.2)), complete ∙ u.by.3);
          follows = follows;
          started = begun ∙ some_of ms m;
          named = λ changes. tells'.named ∙ ((λ i. unless_told (resolved_is i) (named_so changes i)) ∙ sym (named_more o [] [] ms m));
          front = u.front;
          read = u.read ∙ ap (λ (l : Lines). r.given ++ (u.front ++ waiting l)) (sym lines);
          found = λ e. u.found (sym (ap has_ended lines) ∙ e);
          followed = λ more.
              let below = followed_lines o f.choice.taking (ms ++ m ∷ []) (number + 1) (lines_of more) in
              u.followed more ∙ (ap (λ (t : Option ApplyFault). onto_taken ms (onto_followed number t m below)) (tested None passes)
              ∙ (ap (λ (xs : List Message). record { messages = xs; stop = below.stop }) (sym (append_assoc ms (m ∷ []) below.messages))
              ∙ ap (λ (c : Choice). onto_taken (ms ++ m ∷ []) (followed_lines o c.taking (ms ++ m ∷ []) (number + 1) (lines_of more))) (sym choice)));
          counted = u.counted;
        }
