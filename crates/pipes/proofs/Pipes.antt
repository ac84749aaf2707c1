-- What a run, a race and an embedded database leave is the text of one history whose commands keep the limits.
use Rattle.std.proofs.Common.{◌≡◌, ℕ, suc, ◌+◌, ◌<◌, ◌≤◌, ◌==◌, Bool, List, [], ◌∷◌, ◌++◌, length, reverse, Result, Ok, Err, refl, sym, ap, ◌∙◌, subst, inl, inr, arith}
use Rattle.std.specs.Prelude.{filter}
use Rattle.pipes.proofs.Common.{All, All-filter, All-from_recursion, All-map, All-reverse, All-weaker, AllByRecursion, BeginWith, Cmd, Event, Format, Has, IsCommand, IsLegal, IsOpenAt, IsServed, One, Two, append-nil, both_ways, by_test, calls_of, eq-eqb, event_text, events_text, following_lines, gapless_begins, header, heading_text, length-append, length-reverse, lines_of, of_seat, recursion_from_All, reverse-reverse, transcript_text, turned_more}
use mathlib.Core.Option.{some}
use lib.ListN.{get_elem?}
use Rattle.spelled_words.specs.declared.fault.LineFault.{LineFault}
use Rattle.word_lines.specs.Reading.{command_at}
use Rattle.word_lines.specs.Table.{table}
use Rattle.word_lines.proofs.ReadCommands.{command_found}
use Rattle.script.specs.Scripts.{IsCall, Script, onto_script, script_at, script_of_lines}
use Rattle.shared_db.specs.declared.config.Config.{Config}
use Rattle.sessions.specs.Devices.{Reads, Writes}
use Rattle.sessions.specs.Runs.{EndsBy}
use Rattle.sessions.specs.declared.ending.ServeEnd.{ServeEnd}
use Rattle.sessions.specs.declared.ending.ServeEnd.TheVariants as run
use Rattle.races.specs.Racing.{IsRaceOf, commands_by, commands_of}
use Rattle.jobs.specs.Races.{IsRaced}
use Rattle.embedded.specs.Embedded.{StandsFor}
use Rattle.embedded.specs.declared.database.Database.{Database}
use Rattle.pipes.specs.Texts.{IsTranscript, IsWholeAt, IsWritable, KeepsFormat, SaysYes}
use Rattle.pipes.proofs.Texts.{writable_says}

-- what holds of two lists, one behind the other, holds of the first
of_front : {A : Type 0} (P : A → Type 0) (xs ys : List A) → AllByRecursion P (xs ++ ys) → AllByRecursion P xs
of_front P [] ys all = tt
of_front P (x ∷ xs) ys all = (all.0, of_front P xs ys all.1)

-- ---- the calls of a script

module _ (format : Format) (seats : ℕ) where
  line_calls : (number : ℕ) (line : List ℕ) (r : Result (ℕ × Cmd) LineFault) (below : Script) → command_at format table seats line ≡ r → AllByRecursion (IsCall format seats) below.calls → AllByRecursion (IsCall format seats) (onto_script number r below).calls
  line_calls number line (Ok call) below read are = let one = command_found format seats line call read in ((one.1, one.2), are)
  line_calls number line (Err f) below read are = tt

  lines_calls : (number : ℕ) (lines : List (List ℕ)) → AllByRecursion (IsCall format seats) (script_of_lines format seats number lines).calls
  unfolding script_of_lines
  lines_calls number [] = tt
  lines_calls number (line ∷ lines) = line_calls number line (command_at format table seats line) (script_of_lines format seats (number + 1) lines) refl (lines_calls (number + 1) lines)

  -- they keep the limits
  script_calls : (text : List ℕ) → AllByRecursion (IsCall format seats) (script_at format seats text).calls
  unfolding script_at
  script_calls text = lines_calls 1 (lines_of text)

  -- and so do those that its first lines are
  begun_calls : (input : List ℕ) (ended : Bool) (calls : List (ℕ × Cmd)) → BeginWith format seats input ended calls → AllByRecursion (IsCall format seats) calls
  begun_calls input ended calls begins =
      let front = begins input (record { rest = []; goes_on = sym (append-nil input); stops = λ _. refl }) in
      of_front (IsCall format seats) calls front.0 (subst (AllByRecursion (IsCall format seats)) front.1 (script_calls input))

  -- events of these calls keep them too
  calls_keep : (es : List Event) → seats ≤ 64 → AllByRecursion (IsCall format seats) (calls_of es) → AllByRecursion (KeepsFormat format) es
  calls_keep [] few are = tt
  calls_keep (e ∷ es) few are = ((omega (arith, are.0.0), are.0.1), calls_keep es few are.1)

-- ---- runs

-- a history without its last event
without_last : (format : Format) (first : ℕ) (before : List Event) (e : Event) → IsWritable format first (before ++ e ∷ []) → IsWritable format first before
without_last format first before e w =
    let legal : IsLegal (e ∷ reverse before) = subst IsLegal (turned_more before e) w.history.legal in
    record {
      history = record { legal = legal.1; gapless = gapless_begins first before (e ∷ []) w.history.gapless; bounded = omega (arith, w.history.bounded, length-append before (e ∷ [])) };
      commands = All-from_recursion (KeepsFormat format) before (of_front (KeepsFormat format) before (e ∷ []) (recursion_from_All (KeepsFormat format) (before ++ e ∷ []) w.commands));
    }

-- nothing is a history
nothing_writable : IsWritable One 0 []
nothing_writable = record { history = record { legal = tt; gapless = tt; bounded = omega arith }; commands = All-from_recursion (KeepsFormat One) [] tt }

seats_few : (config : Config) (e : ServeEnd) → IsWholeAt e → IsOpenAt config e → config.seats ≤ 64
seats_few config run.Done whole opened = opened.0.1
seats_few config run.Input whole opened = opened.0.1
seats_few config run.Memory whole opened = opened.0.1
seats_few config _ whole opened = absurd whole

-- the output at a whole end
whole_text : (format : Format) (used : Type 0) (config : Config) (input : List ℕ) (ended : Bool) (events : List Event) (output : List ℕ) (e : ServeEnd)
    → IsWritable format config.first events → IsWholeAt e → EndsBy format used config input ended events output e → IsTranscript output
whole_text format used config input ended events output run.Done w whole ends = record { format = format; first = config.first; events = events; writable = w; is = ends.2 }
whole_text format used config input ended events output run.Input w whole ends = record { format = format; first = config.first; events = events; writable = w; is = ends.1 }
whole_text format used config input ended events output run.Memory w whole wants = elim wants [
  | inl start ↦ record { format = One; first = 0; events = []; writable = nothing_writable; is = start.2 }
  | inr later ↦ (elim later [
    | inl line ↦ record { format = format; first = config.first; events = events; writable = w; is = line.1 }
    | inr text ↦ record {
      format = format;
      first = config.first;
      events = text.0;
      writable = without_last format config.first text.0 text.1 (subst (IsWritable format config.first) text.2 w);
      is = text.3;
    }
  ])
]
whole_text format used config input ended events output _ w whole ends = absurd whole

pub run_text : (format : Format) (config : Config) (r r' : Reads) (w w' : Writes) (e : ServeEnd) (s : IsServed format config r r' w w' e)
    → IsWholeAt e → IsTranscript s.output
run_text format config r r' w w' e s whole =
    let calls = begun_calls format config.seats s.input r'.ended (calls_of s.events) s.begins in
    let keeps = calls_keep format config.seats s.events (seats_few config e whole s.opened) calls in
    whole_text format (config.first + length s.events ≡ 18446744073709551615) config s.input r'.ended s.events s.output e
    (record { history = s.history; commands = All-from_recursion (KeepsFormat format) s.events keeps }) whole s.ends

-- ---- races

from_places : {A : Type 0} (P : A → Type 0) (xs : List A) → ((x : A) → Has x xs → (k : ℕ) → get_elem? xs k ≡ some x → P x) → AllByRecursion P xs
from_places P [] each = tt
from_places P (x ∷ xs) each = (each x (inl refl) 0 refl, from_places P xs (λ y i k at. each y (inr i) (suc k) at))

module _ (format : Format) where
  -- the commands of a session keep the limits, where those of all calls do
  commands_keep : (sessions k : ℕ) (calls : List (ℕ × Cmd)) → AllByRecursion (IsCall format sessions) calls → AllByRecursion (IsCommand format) (commands_by k calls)
  commands_keep sessions k calls are =
      let own : ℕ × Cmd → Bool = λ c. c.0 == k in
      let all : All (IsCall format sessions) calls = All-from_recursion (IsCall format sessions) calls are in
      let right : All (λ (c : ℕ × Cmd). IsCommand format c.1) calls = All-weaker (IsCall format sessions) (λ (c : ℕ × Cmd). IsCommand format c.1) (λ c is. is.1) calls all in
      recursion_from_All (IsCommand format) (commands_by k calls) (All-map (IsCommand format) (λ (c : ℕ × Cmd). c.1) (filter own calls) (All-filter own (λ (c : ℕ × Cmd). IsCommand format c.1) calls right))

  -- and so does that of each of its events
  own_keeps : (k : ℕ) (es : List Event) → AllByRecursion (IsCommand format) (commands_of (of_seat (λ (x : Event). x.seat) k es)) → (e : Event) → Has e es → e.seat ≡ k → IsCommand format e.cmd
  own_keeps k [] are e i same = absurd i
  own_keeps k (x ∷ xs) are e i same = by_test (x.seat == k)
      (λ own. let here = rw own at are in elim i [
        | inl is ↦ subst (λ (y : Event). IsCommand format y.cmd) is here.0
        | inr there ↦ own_keeps k xs here.1 e there same
      ])
      (λ other. let rest = rw other at are in elim i [
        | inl is ↦ absurd (both_ways _ other (eq-eqb x.seat k (ap (λ (y : Event). y.seat) is ∙ same)))
        | inr there ↦ own_keeps k xs rest e there same
      ])

  raced_keeps : (sessions : ℕ) (calls : List (ℕ × Cmd)) (es : List Event) → sessions ≤ 64 → AllByRecursion (IsCall format sessions) calls → IsRaceOf sessions calls es → AllByRecursion (KeepsFormat format) es
  raced_keeps sessions calls es few are raced = from_places (KeepsFormat format) es (λ e i k at.
      let seat : e.seat < sessions = raced.named k e at in
      let own = subst (AllByRecursion (IsCommand format)) (sym (raced.each e.seat seat)) (commands_keep sessions e.seat calls are) in
      (omega arith, own_keeps e.seat es own e i refl))

pub race_text : (format : Format) (sessions : ℕ) (text out : List ℕ) → IsRaced format sessions text out → IsTranscript out
race_text format sessions text out r =
    let calls : AllByRecursion (IsCall format sessions) r.calls = subst (AllByRecursion (IsCall format sessions)) (ap (λ (s : Script). s.calls) r.script) (script_calls format sessions text) in
    record {
      format = format;
      first = 0;
      events = r.events;
      writable = record {
        history = record { legal = r.raced.trace.legal; gapless = r.raced.gapless; bounded = omega (arith, r.raced.bounded) };
        commands = All-from_recursion (KeepsFormat format) r.events (raced_keeps format sessions r.calls r.events r.raced.few calls r.raced);
      };
      is = r.told;
    }

-- ---- embedded databases

pub kept_text : (d : Database) (h : List Event) → StandsFor d h → All (KeepsFormat Two) h → IsTranscript (transcript_text Two (reverse h))
kept_text d h stands keeps = record {
  format = Two;
  first = 0;
  events = reverse h;
  writable = record {
    history = record { legal = subst IsLegal (sym (reverse-reverse h)) stands.legal; gapless = stands.gapless; bounded = omega (arith, stands.bounded, length-reverse h) };
    commands = All-reverse (KeepsFormat Two) h keeps;
  };
  is = refl;
}

-- ---- what `check` says of them

pub transcript_says : (text : List ℕ) → IsTranscript text → SaysYes text
transcript_says text t = subst SaysYes (sym t.is) (writable_says t.format t.first t.events t.writable)
