-- The calls of a script, line by line.
use Rattle.std.proofs.Common.{◌≡◌, ℕ, ◌+◌, ◌^◌, ◌<◌, List, [], ◌∷◌, ◌++◌, length, Some, None, Result, Ok, Err, refl, sym, ap, subst, ◌∙◌, inl, inr, append_assoc, arith, Vec, Global}
use Rattle.std.specs.Prelude.{◌≢◌, decimal, IfOk, IfErr}
use Rattle.script.proofs.Common.{All, All-from_recursion, AllByRecursion, Cmd, Format, IsNumber, IsWord, LineFault, append-nil, command_again, command_at, command_found, command_words, concat, joined, number_word, recursion_from_All, table, words_of}
use Rattle.script.specs.declared.fault.TranscriptError.{TranscriptError}
use Rattle.script.specs.declared.fault.TranscriptError.TheVariants as errors
use Rattle.script.specs.EventLines.{Place, lines_of}
use Rattle.word_lines.specs.Reading.{WantsMemory, byte_words_at}
use Rattle.script.specs.Transcripts.{Fails, at_line}
use Rattle.script.specs.Scripts.{Script, onto_script, script_of_lines, script_at, above, IsCall, call_line, script_text, TellsScript, ScriptWants}
use Rattle.script.proofs.CutLines.{lines_whole, words_line_again}

-- ---- a loop over lines

-- what a list of calls holds
abbrev items_of : Vec (ℕ × Cmd) Global → List (ℕ × Cmd)
items_of calls = calls.items

module _ (format : Format) where
  -- the script of the lines that are left
  abbrev pub script_from : ℕ → Place → Script
  script_from seats p = script_of_lines format seats p.number p.lines

  -- nothing was read yet
  pub begins : (seats : ℕ) (text : List ℕ) (p : Place) → p ≡ record { number = 1; lines = lines_of text } → above [] (script_from seats p) ≡ script_at format seats text
  unfolding script_at
  begins seats text p e = ap (script_from seats) e

-- what a line says at its number, it says
line_read : (number : ℕ) (r : Result (ℕ × Cmd) LineFault) (call : ℕ × Cmd) → at_line number r ≡ Ok call → r ≡ Ok call
line_read number (Ok x) call e = cc
line_read number (Err f) call e = absurd cc

module _ (format : Format) where
  -- one call more was read
  pub goes_on : (seats : ℕ) (front : List (ℕ × Cmd)) (p after : Place) (number : ℕ) (line : List ℕ) (call : ℕ × Cmd) (total : Script) → p.lines ≡ line ∷ after.lines → after.number ≡ p.number + 1
      → at_line number (command_at format table seats line) ≡ Ok call → above front (script_from format seats p) ≡ total → above (front ++ call ∷ []) (script_from format seats after) ≡ total
  unfolding script_of_lines
  goes_on seats front p after number line call total cut next read so_far =
      let below = script_from format seats after in
      let one : above front (script_from format seats p) ≡ above (front ++ call ∷ []) below = rw (cut, sym next, line_read number (command_at format table seats line) call read) (ap (λ (cs : List (ℕ × Cmd)). record { calls = cs; fault = below.fault }) (sym (append_assoc front (call ∷ []) below.calls))) in
      sym one ∙ so_far

fault_read : (number line : ℕ) (fault : LineFault) (r : Result (ℕ × Cmd) LineFault) (below : Script) → at_line number r ≡ Err (record { line = line; fault = fault }) → (onto_script number r below).fault ≡ Some (record { line = line; fault = fault })
fault_read number line fault (Ok x) below e = absurd cc
fault_read number line fault (Err f) below e = cc

module _ (format : Format) where
  -- a line is faulty
  pub stops : (error : TranscriptError) (seats : ℕ) (front : List (ℕ × Cmd)) (p after : Place) (number : ℕ) (line : List ℕ) (total : Script) → p.lines ≡ line ∷ after.lines → number ≡ p.number
      → Fails error (at_line number (command_at format table seats line)) → above front (script_from format seats p) ≡ total → TellsScript items_of (Err error) total
  unfolding script_of_lines
  stops errors.NoMemory seats front p after number line total cut same fails so_far = tt
  stops (errors.Fault at fault) seats front p after number line total cut same fails so_far =
      ap (λ (s : Script). s.fault) (sym so_far) ∙ rw (cut, sym same) (fault_read number at fault (command_at format table seats line) (script_of_lines format seats (number + 1) after.lines) fails)

  -- no line is left
  pub is_done : (seats : ℕ) (front : List (ℕ × Cmd)) (p : Place) (total : Script) → p.lines ≡ [] → above front (script_from format seats p) ≡ total → total ≡ record { calls = front; fault = None }
  unfolding script_of_lines
  is_done seats front p total none so_far =
      let one : above front (script_from format seats p) ≡ record { calls = front; fault = None } = rw none (ap (λ (cs : List (ℕ × Cmd)). record { calls = cs; fault = None }) (append-nil front)) in
      sym so_far ∙ one

-- ---- running out of memory

-- a call that was read is kept
pub wants_call : (front : List (ℕ × Cmd)) (call : ℕ × Cmd) (below total : Script) → above (front ++ call ∷ []) below ≡ total → total.calls ≢ []
wants_call [] call below total so_far none = let no : call ∷ below.calls ≡ [] = ap (λ (s : Script). s.calls) so_far ∙ none in cc
wants_call (first ∷ front) call below total so_far none = let no : first ∷ ((front ++ call ∷ []) ++ below.calls) ≡ [] = ap (λ (s : Script). s.calls) so_far ∙ none in cc

module _ (format : Format) where
  -- a line that wants memory is the first, or stands below a call
  pub wants_line : (seats : ℕ) (text : List ℕ) (front : List (ℕ × Cmd)) (p : Place) (line : List ℕ) (others : List (List ℕ)) → above front (script_from format seats p) ≡ script_at format seats text → (front ≡ [] → p.lines ≡ lines_of text)
      → p.lines ≡ line ∷ others → WantsMemory (byte_words_at format table seats line) → ScriptWants format seats text
  wants_line seats text [] p line others so_far whole cut wants = inr (line, others, sym (whole refl) ∙ cut, wants)
  wants_line seats text (first ∷ front) p line others so_far whole cut wants =
      inl (λ none. let no : first ∷ (front ++ (script_from format seats p).calls) ≡ [] = ap (λ (s : Script). s.calls) so_far ∙ none in cc)

-- what holds whatever was told
pub whatever_told : {X : Type 0} (r : Result X TranscriptError) (P : Type 0) → P → IfErr r (λ e. e ≡ errors.NoMemory → P)
whatever_told (Ok x) P holds = tt
whatever_told (Err e) P holds = λ _. holds

-- behind a call there is no longer nothing
pub never_none : {A : Type 0} (front : List A) (x : A) → front ++ x ∷ [] ≢ []
never_none [] x none = cc
never_none (first ∷ front) x none = cc

-- ---- what was read is written so

module _ (format : Format) where
  -- lines without a fault are the text of their calls
  abbrev AreCalls : ℕ → List (List ℕ) → Script → Type 0
  AreCalls seats lines script = script.fault ≡ None → (concat lines ≡ script_text script.calls) × AllByRecursion (IsCall format seats) script.calls

  line_found : (seats number : ℕ) (line : List ℕ) (lines : List (List ℕ)) (r : Result (ℕ × Cmd) LineFault) (below : Script) → command_at format table seats line ≡ r → AreCalls seats lines below → AreCalls seats (line ∷ lines) (onto_script number r below)
  line_found seats number line lines (Ok call) below read are none =
      let one = command_found format seats line call read in
      let rest = are none in
      (ap (λ (z : List ℕ). z ++ concat lines) one.0 ∙ ap (λ (z : List ℕ). call_line call ++ z) rest.0, ((one.1, one.2), rest.1))
  line_found seats number line lines (Err f) below read are none = absurd cc

  lines_found : (seats number : ℕ) (lines : List (List ℕ)) → AreCalls seats lines (script_of_lines format seats number lines)
  unfolding script_of_lines
  lines_found seats number [] none = (refl, tt)
  lines_found seats number (line ∷ lines) none = line_found seats number line lines (command_at format table seats line) (script_of_lines format seats (number + 1) lines) refl (lines_found seats (number + 1) lines) none

  script_found : (seats : ℕ) (text : List ℕ) (calls : List (ℕ × Cmd)) → script_at format seats text ≡ record { calls = calls; fault = None } → (text ≡ script_text calls) × All (IsCall format seats) calls
  unfolding script_at
  script_found seats text calls e =
      let found = lines_found seats 1 (lines_of text) (ap (λ (s : Script). s.fault) e) in
      let same : (script_at format seats text).calls ≡ calls = ap (λ (s : Script). s.calls) e in
      subst (λ (cs : List (ℕ × Cmd)). (text ≡ script_text cs) × All (IsCall format seats) cs) same (sym (lines_whole text) ∙ found.0, All-from_recursion (IsCall format seats) (script_at format seats text).calls found.1)

  -- what is read of a text is its calls, where nothing is said of being out of memory
  pub told_found : (seats : ℕ) (text : List ℕ) (r : Result (Vec (ℕ × Cmd) Global) TranscriptError) → TellsScript items_of r (script_at format seats text) → IfOk r (λ calls. (text ≡ script_text calls.items) × All (IsCall format seats) calls.items)
  told_found seats text (Ok calls) tells = script_found seats text calls.items tells
  told_found seats text (Err e) tells = tt

-- ---- what is written is read so

module _ (format : Format) where
  call_cut : (seats : ℕ) (call : ℕ × Cmd) (rest : List ℕ) → seats < 2 ^ 8 → IsCall format seats call → lines_of (call_line call ++ rest) ≡ call_line call ∷ lines_of rest
  call_cut seats call rest few is =
      let ws = decimal call.0 ∷ words_of call.1 in
      let small : IsNumber call.0 = omega (arith, is.0) in
      let are : AllByRecursion IsWord ws = (number_word call.0 small, command_words format call.1 is.1) in
      ap lines_of (append_assoc (joined ws) (10 ∷ []) rest) ∙ words_line_again ws rest are

  calls_again : (seats number : ℕ) (calls : List (ℕ × Cmd)) (rest : List ℕ) → seats < 2 ^ 8 → AllByRecursion (IsCall format seats) calls → script_of_lines format seats number (lines_of (script_text calls ++ rest)) ≡ above calls (script_of_lines format seats (number + length calls) (lines_of rest))
  unfolding script_of_lines
  calls_again seats number [] rest few are = ap (λ (n : ℕ). script_of_lines format seats n (lines_of rest)) (omega arith)
  calls_again seats number (call ∷ calls) rest few are =
      let cut : lines_of (script_text (call ∷ calls) ++ rest) ≡ call_line call ∷ lines_of (script_text calls ++ rest) = ap lines_of (append_assoc (call_line call) (script_text calls) rest) ∙ call_cut seats call (script_text calls ++ rest) few are.0 in
      let next : number + 1 + length calls ≡ number + length (call ∷ calls) = omega arith in
      rw (cut, command_again format seats call.0 call.1 few are.0.0 are.0.1, calls_again seats (number + 1) calls rest few are.1, next) refl

  -- calls, and what stands below them
  pub script_behind : (seats : ℕ) (calls : List (ℕ × Cmd)) (rest : List ℕ) → seats < 2 ^ 8 → All (IsCall format seats) calls → script_at format seats (script_text calls ++ rest) ≡ above calls (script_of_lines format seats (1 + length calls) (lines_of rest))
  unfolding script_at
  script_behind seats calls rest few are = calls_again seats 1 calls rest few (recursion_from_All (IsCall format seats) calls are)

  -- calls alone
  pub script_again : (seats : ℕ) (calls : List (ℕ × Cmd)) → seats < 2 ^ 8 → All (IsCall format seats) calls → script_at format seats (script_text calls) ≡ record { calls = calls; fault = None }
  unfolding script_of_lines lines_of
  script_again seats calls few are =
      ap (script_at format seats) (sym (append-nil (script_text calls))) ∙ script_behind seats calls [] few are ∙ ap (λ (cs : List (ℕ × Cmd)). record { calls = cs; fault = None }) (append-nil calls)
