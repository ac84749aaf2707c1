-- The text of a history whose commands keep the limits is read again, and `check` says `yes` of it.
use Rattle.std.proofs.Common.{◌≡◌, ℕ, suc, ◌+◌, ◌<◌, ◌≤◌, List, [], ◌∷◌, length, reverse, Result, Ok, Err, refl, sym, subst, arith}
use Rattle.pipes.proofs.Common.{All, All-from_recursion, All-reverse, All-weaker, AllByRecursion, Event, Format, IsEvent, IsGapless, KeepsLimit, format_of, gapless_from_first, length-reverse, recursion_from_All, reverse-reverse, transcript_again, transcript_at, transcript_text, wrong_is_no_trace}
use Rattle.script.proofs.Headers.{format_again}
use Rattle.trace_check.specs.Traces.{IsFirstWrong, IsTrace}
use Rattle.jobs.specs.declared.ending.End.TheVariants as ends
use Rattle.pipes.specs.Texts.{IsWritable, KeepsFormat, SaysYes}
use Rattle.pipes.proofs.Answers.{HasReply, replies_suit}
use Rattle.pipes.proofs.Lengths.{heading_few}

-- what holds of all, by recursion, in the other order
turned : {X : Type 0} (P : X → Type 0) (xs : List X) → AllByRecursion P xs → AllByRecursion P (reverse xs)
turned P xs all = recursion_from_All P (reverse xs) (All-reverse P xs (All-from_recursion P xs all))

-- each position is below the first one that isn't used
positions_low : (n top : ℕ) (es : List Event) → IsGapless n es → n + length es ≤ top → AllByRecursion (λ e. e.position < top) es
positions_low n top [] gapless low = tt
positions_low n top (e ∷ es) gapless low = (omega (arith, gapless.0), positions_low (suc n) top es gapless.1 (omega arith))

module _ (format : Format) where
  -- the event has a text, whose first line isn't too long
  abbrev Fits : Event → Type 0
  Fits e = IsEvent format e × KeepsLimit format e

  event_fits : (e : Event) → e.position < 18446744073709551615 → KeepsFormat format e → HasReply format e → Fits e
  event_fits e low keeps suits = ((omega arith, keeps.0, keeps.1, suits.0), heading_few format e (omega arith) keeps suits.1)

  events_fit : (es : List Event) → AllByRecursion (λ e. e.position < 18446744073709551615) es → AllByRecursion (KeepsFormat format) es → AllByRecursion (HasReply format) es → AllByRecursion Fits es
  events_fit [] low keeps suits = tt
  events_fit (e ∷ es) low keeps suits = (event_fits e low.0 keeps.0 suits.0, events_fit es low.1 keeps.1 suits.1)

  all_fit : (first : ℕ) (es : List Event) → IsWritable format first es → All Fits es
  all_fit first es w =
      let keeps = recursion_from_All (KeepsFormat format) es w.commands in
      let suits = replies_suit format (reverse es) w.history.legal (turned (KeepsFormat format) es keeps) (omega (arith, w.history.bounded, length-reverse es)) in
      All-from_recursion Fits es (events_fit es (positions_low first 18446744073709551615 es w.history.gapless w.history.bounded) keeps (subst (AllByRecursion (HasReply format)) (reverse-reverse es) (turned (HasReply format) (reverse es) suits)))

  pub events_are : (first : ℕ) (es : List Event) → IsWritable format first es → All (IsEvent format) es
  events_are first es w = All-weaker Fits (IsEvent format) (λ e fits. fits.0) es (all_fit first es w)

  pub lines_keep : (first : ℕ) (es : List Event) → IsWritable format first es → All (KeepsLimit format) es
  lines_keep first es w = All-weaker Fits (KeepsLimit format) (λ e fits. fits.1) es (all_fit first es w)

  -- the text is read as the history, in the format that it is found to be in
  pub read_again : (first : ℕ) (es : List Event) → IsWritable format first es → transcript_at (format_of (transcript_text format es)) (transcript_text format es) ≡ Ok es
  read_again first es w =
      let are : All (IsEvent format) es = events_are first es w in
      subst (λ (f : Format). transcript_at f (transcript_text format es) ≡ Ok es) (sym (format_again format es are)) (transcript_again format es are (lines_keep first es w))

-- ---- the verdict

-- what is read once is read so again
one_result : {A E : Type 0} (r : Result A E) (x y : A) → r ≡ Ok x → r ≡ Ok y → x ≡ y
one_result r x y e h = cc

pub no_fault : {A E : Type 0} (r : Result A E) (x : A) (f : E) → r ≡ Ok x → r ≡ Err f → ⊥
no_fault r x f e h = cc

-- of a text that is read as a trace the verdict is `yes`
trace_says : (text : List ℕ) (es : List Event) → transcript_at (format_of text) text ≡ Ok es → IsTrace es → SaysYes text
trace_says text es read trace (ends.Right count) out verdict = (refl, verdict.4)
trace_says text es read trace (ends.No position) out verdict =
    let same : verdict.0 ≡ es = one_result (transcript_at (format_of text) text) verdict.0 es verdict.1 read in
    absurd (wrong_is_no_trace es position (subst (λ (xs : List Event). IsFirstWrong xs position) same verdict.2) trace)
trace_says text es read trace (ends.Faulty line fault) out verdict = absurd (no_fault (transcript_at (format_of text) text) es (record { line = line; fault = fault }) read verdict.0)
trace_says text es read trace _ out verdict = absurd verdict

pub writable_says : (format : Format) (first : ℕ) (es : List Event) → IsWritable format first es → SaysYes (transcript_text format es)
writable_says format first es w = trace_says (transcript_text format es) es (read_again format first es w) (record { legal = w.history.legal; gapless = gapless_from_first first es w.history.gapless })
