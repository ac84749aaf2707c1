-- What is read of an input whose first lines are calls.
use Rattle.std.proofs.Common.{◌≡◌, ℕ, ◌+◌, ◌^◌, ◌<◌, ◌≤◌, ⊎_elim, Bool, true, List, [], ◌∷◌, ◌++◌, length, take, Some, None, Err, refl, sym, ap, ◌∙◌, arith, append-nil, append_assoc}
use Rattle.sessions.proofs.Common.{All, Cmd, Format, IsCall, LineFault, Script, above, call_line, command_at, lines_of, script_again, script_at, script_behind, script_of_lines, script_text, table, text_at}
use Rattle.spelled_words.specs.declared.fault.LineFault.TheVariants as faults
use Rattle.sessions.specs.declared.lines.Lines.{Lines}
use Rattle.sessions.specs.Waiting.{waiting, IsLine}
use Rattle.sessions.specs.Runs.{MayHold, BeginWith, EndWithFault}
use Rattle.sessions.proofs.FirstLines.{line_comes}

-- ---- the first line of what waits is faulty

module _ (format : Format) where
  stops_at : (seats at : ℕ) (line : List ℕ) (others : List (List ℕ)) (f : LineFault) → command_at format table seats line ≡ Err f → script_of_lines format seats at (line ∷ others) ≡ record { calls = []; fault = Some (record { line = at; fault = f }) }
  unfolding script_of_lines
  stops_at seats at line others f e = rw e refl

  lines_stop : (seats at : ℕ) (text line : List ℕ) (others : List (List ℕ)) (f : LineFault) → lines_of text ≡ line ∷ others → command_at format table seats line ≡ Err f → script_of_lines format seats at (lines_of text) ≡ record { calls = []; fault = Some (record { line = at; fault = f }) }
  lines_stop seats at text line others f cut e = ap (script_of_lines format seats at) cut ∙ stops_at seats at line others f e

module _ (format : Format) where
  misread : (seats : ℕ) (line : List ℕ) (f : LineFault) → text_at format line ≡ Err f → command_at format table seats line ≡ Err f
  unfolding command_at
  misread seats line f e = rw e refl

  pub first_faulty : (seats at n : ℕ) (l : Lines) (more : List ℕ) (f : LineFault) → l.format ≡ format → n ≤ length (waiting l) → IsLine l n → (l.ended ≡ true → more ≡ []) → command_at format table seats (take n (waiting l)) ≡ Err f → script_of_lines format seats at (lines_of (waiting l ++ more)) ≡ record { calls = []; fault = Some (record { line = at; fault = f }) }
  first_faulty seats at n l more f same within line stops e =
      let c = line_comes format n l more same within line stops in
      lines_stop format seats at (waiting l ++ more) c.0 c.1 f c.2
      (⊎_elim
      (λ (is : c.0 ≡ take n (waiting l)). ap (command_at format table seats) is ∙ e)
      (λ (long : (text_at format c.0 ≡ Err faults.LineTooLong) × (text_at format (take n (waiting l)) ≡ Err faults.LineTooLong)). misread seats c.0 faults.LineTooLong long.0 ∙ (sym (misread seats (take n (waiting l)) faults.LineTooLong long.1) ∙ e))
      c.3)

-- ---- calls at the front

pub text_more : (calls : List (ℕ × Cmd)) (call : ℕ × Cmd) → script_text (calls ++ call ∷ []) ≡ script_text calls ++ call_line call
text_more [] call = append-nil (call_line call)
text_more (c ∷ calls) call = ap (λ (xs : List ℕ). call_line c ++ xs) (text_more calls call) ∙ sym (append_assoc (call_line c) (script_text calls) (call_line call))

module _ (format : Format) where
  front_of : (seats : ℕ) (input rest : List ℕ) (ended : Bool) (calls : List (ℕ × Cmd)) (whole : List ℕ) → seats < 2 ^ 8 → All (IsCall format seats) calls → input ≡ script_text calls ++ rest → (may : MayHold input ended whole)
      → script_at format seats whole ≡ above calls (script_of_lines format seats (1 + length calls) (lines_of (rest ++ may.rest)))
  front_of seats input rest ended calls whole few are is may =
      ap (script_at format seats) (may.goes_on ∙ (ap (λ (xs : List ℕ). xs ++ may.rest) is ∙ append_assoc (script_text calls) rest may.rest)) ∙ script_behind format seats calls (rest ++ may.rest) few are

  -- whatever comes, the calls that were made begin those of the input
  pub begin_with : (seats : ℕ) (input rest : List ℕ) (ended : Bool) (calls : List (ℕ × Cmd)) → seats < 2 ^ 8 → All (IsCall format seats) calls → input ≡ script_text calls ++ rest → BeginWith format seats input ended calls
  begin_with seats input rest ended calls few are is = λ whole may. ((script_of_lines format seats (1 + length calls) (lines_of (rest ++ may.rest))).calls, ap (λ (s : Script). s.calls) (front_of seats input rest ended calls whole few are is may))

  -- whatever comes, the line that waits is the first faulty one
  pub end_with : (seats n line : ℕ) (input : List ℕ) (l : Lines) (ended : Bool) (calls : List (ℕ × Cmd)) (f : LineFault) → l.format ≡ format → seats < 2 ^ 8 → All (IsCall format seats) calls → input ≡ script_text calls ++ waiting l → (l.ended ≡ true → ended ≡ true)
      → n ≤ length (waiting l) → IsLine l n → command_at format table seats (take n (waiting l)) ≡ Err f → line ≡ length calls + 1 → EndWithFault format seats input ended calls line f
  end_with seats n line input l ended calls f same few are is end within at e numbered = λ whole may.
      let stop = first_faulty format seats (1 + length calls) n l may.rest f same within at (λ t. may.stops (end t)) e in
      let number : 1 + length calls ≡ line = omega arith in
      front_of seats input (waiting l) ended calls whole few are is may ∙ (ap (above calls) stop ∙ λ i. record { calls = append-nil calls i; fault = Some (record { line = number i; fault = f }) })

  -- nothing is left
  pub read_whole : (seats : ℕ) (input : List ℕ) (calls : List (ℕ × Cmd)) → seats < 2 ^ 8 → All (IsCall format seats) calls → input ≡ script_text calls ++ [] → script_at format seats input ≡ record { calls = calls; fault = None }
  read_whole seats input calls few are is = ap (script_at format seats) (is ∙ append-nil (script_text calls)) ∙ script_again format seats calls few are
