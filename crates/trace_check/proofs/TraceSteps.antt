-- A trace grows by right events alone, and what begins it is a trace.
use Rattle.std.proofs.Common.{◌≡◌, ℕ, suc, ◌+◌, ◌<◌, ◌≤◌, List, [], ◌∷◌, ◌++◌, reverse, length, take, drop, get_or, Some, refl, sym, ap, ◌∙◌, subst, arith, add-one, append_assoc}
use Rattle.std.proofs.Math.Seq.{drop-cons}
use Rattle.std.proofs.lemmas.List.{length-reverse, reverse-append, take-append-drop, take_more, length-take-le}
use Rattle.trace_check.proofs.Common.{Event, IsGapless, IsLegal, IsRightEvent, effects_of, gapless_more, turned_more}
use Rattle.trace_check.specs.Traces.{position_of_first, last_from, last_position, IsInPlace, IsTrace, IsFirstWrong}

-- ---- positions

-- the last of a list without a gap stands as far from the first as the list is long
pub last_stands : (n : ℕ) (es : List Event) (e : Event) → IsGapless n (es ++ e ∷ []) → e.position ≡ n + length es
last_stands n [] e gapless = omega (arith, gapless.0)
last_stands n (x ∷ xs) e gapless = let rest = last_stands (suc n) xs e gapless.1 in omega arith

-- what begins a list without a gap has none
pub gapless_begins : (n : ℕ) (es more : List Event) → IsGapless n (es ++ more) → IsGapless n es
gapless_begins n [] more gapless = tt
gapless_begins n (x ∷ xs) more gapless = (gapless.0, gapless_begins (suc n) xs more gapless.1)

-- a list without a gap has it from its first position on
pub gapless_from_first : (n : ℕ) (es : List Event) → IsGapless n es → IsGapless (position_of_first es) es
gapless_from_first n [] gapless = tt
gapless_from_first n (e ∷ es) gapless = subst (λ k. IsGapless k (e ∷ es)) (sym gapless.0) gapless

-- one more event stands last
last_behind : (position : ℕ) (es : List Event) (e : Event) → last_from position (es ++ e ∷ []) ≡ e.position
last_behind position [] e = refl
last_behind position (x ∷ xs) e = last_behind x.position xs e

pub last_more : (es : List Event) (e : Event) → last_position (es ++ e ∷ []) ≡ Some e.position
last_more [] e = refl
last_more (x ∷ xs) e = ap Some (last_behind x.position xs e)

-- behind a position the last of a list without a gap stands as far on as the list is long
last_from_is : (position : ℕ) (es : List Event) → IsGapless (suc position) es → last_from position es ≡ position + length es
last_from_is position [] gapless = omega arith
last_from_is position (x ∷ xs) gapless = omega (arith, gapless.0, last_from_is x.position xs (subst (λ n. IsGapless (suc n) xs) (sym gapless.0) gapless.1))

-- an event in its place leaves no gap
gapless_grows : (es : List Event) (e : Event) → IsGapless (position_of_first es) es → IsInPlace (last_position es) e.position → IsGapless (position_of_first (es ++ e ∷ [])) (es ++ e ∷ [])
gapless_grows [] e gapless in_place = (refl, tt)
gapless_grows (x ∷ xs) e gapless in_place = gapless_more x.position (x ∷ xs) e gapless (omega (arith, in_place, last_from_is x.position xs gapless.1))

-- and only there
place_is : (es : List Event) (e : Event) → IsGapless (position_of_first (es ++ e ∷ [])) (es ++ e ∷ []) → IsInPlace (last_position es) e.position
place_is [] e gapless = tt
place_is (x ∷ xs) e gapless =
    omega (arith, last_stands x.position (x ∷ xs) e gapless, last_from_is x.position xs (gapless_begins x.position (x ∷ xs) (e ∷ []) gapless).1)

-- ---- legal lists

-- what a legal history grew from is legal
legal_ends : (more h : List Event) → IsLegal (more ++ h) → IsLegal h
legal_ends [] h legal = legal
legal_ends (e ∷ more) h legal = legal_ends more h legal.1

-- ---- traces

-- what begins a trace is a trace
trace_begins : (es more : List Event) → IsTrace (es ++ more) → IsTrace es
trace_begins es more trace = record {
  legal = legal_ends (reverse more) (reverse es) (subst IsLegal (reverse-append es more) trace.legal);
  gapless = gapless_from_first (position_of_first (es ++ more)) es (gapless_begins (position_of_first (es ++ more)) es more trace.gapless);
}

-- a list that goes wrong somewhere is no trace
pub wrong_is_no_trace : (events : List Event) (position : ℕ) → IsFirstWrong events position → ¬ IsTrace events
wrong_is_no_trace events position wrong trace = wrong.stops (trace_begins (wrong.before ++ wrong.event ∷ []) wrong.after (subst IsTrace parts trace))
  where
    parts : events ≡ (wrong.before ++ wrong.event ∷ []) ++ wrong.after
    parts = wrong.parts ∙ sym (append_assoc wrong.before (wrong.event ∷ []) wrong.after)

-- a right event in its place makes a longer trace
pub trace_more : (events : List Event) (e : Event) → IsTrace events → IsInPlace (last_position events) e.position → IsRightEvent (effects_of (reverse events)) e → IsTrace (events ++ e ∷ [])
trace_more events e trace in_place right = record {
  legal = subst IsLegal (sym (turned_more events e)) (right, trace.legal);
  gapless = gapless_grows events e trace.gapless in_place;
}

-- and no other does
pub trace_place : (events : List Event) (e : Event) → IsTrace (events ++ e ∷ []) → IsInPlace (last_position events) e.position
trace_place events e trace = place_is events e trace.gapless

pub trace_right : (events : List Event) (e : Event) → IsTrace (events ++ e ∷ []) → IsRightEvent (effects_of (reverse events)) e
trace_right events e trace = (subst IsLegal (turned_more events e) trace.legal).0

-- turned, they are as few
pub turned_few : (events : List Event) → length events < 18446744073709551615 → length (reverse events) < 18446744073709551615
turned_few events few = omega (arith, length-reverse events)

-- ---- the event at an index

-- the events up to an index and with the one there
pub next_is : (events : List Event) (i : ℕ) (e : Event) → i < length events → e ≡ get_or events i e → take (i + 1) events ≡ take i events ++ e ∷ []
next_is events i e within is = take_more events i e within ∙ ap (λ (x : Event). take i events ++ x ∷ []) (sym is)

-- a list is what comes before an index, the event there, and what comes after it
pub parts_at : (events : List Event) (i : ℕ) (e : Event) → i < length events → e ≡ get_or events i e → events ≡ take i events ++ e ∷ drop (i + 1) events
parts_at events i e within is = sym (take-append-drop i events) ∙ ap (λ (l : List Event). take i events ++ l) (rw add-one (drop-cons events i e within ∙ ap (λ (x : Event). x ∷ drop (suc i) events) (sym is)))

-- where the list is no trace with the event at an index, it goes wrong there
pub wrong_at : (events : List Event) (i : ℕ) (e : Event) → i < length events → e ≡ get_or events i e → IsTrace (take i events) → ¬ IsTrace (take i events ++ e ∷ []) → IsFirstWrong events e.position
wrong_at events i e within is right stops = record {
  before = take i events;
  event = e;
  after = drop (i + 1) events;
  parts = parts_at events i e within is;
  right = right;
  stops = stops;
  stands = refl;
}

-- so few events come before an index that a number counts them
pub few_before : (events : List Event) (i : ℕ) → i < length events → length events ≤ 18446744073709551615 → length (take i events) < 18446744073709551615
few_before events i within all = omega (arith, length-take-le i events (omega arith))
