-- A run that stopped, once its database is finished.
use Rattle.std.proofs.Common.{◌≡◌, ◌≢◌, ℕ, ◌+◌, ◌≤◌, List, [], ◌++◌, length, refl, sym, ap, ◌∙◌, subst, append-nil, append_assoc, inl, arith}
use Rattle.sessions.proofs.Common.{Config, Event, Format, RingInRange, SeatsInRange, first_of, most, script_at, script_text}
use Rattle.sessions.specs.declared.ending.ServeEnd.{ServeEnd}
use Rattle.sessions.specs.declared.ending.ServeEnd.TheVariants as end
use Rattle.sessions.specs.Devices.{Reads, Writes, HasTaken, HasBegun}
use Rattle.sessions.specs.declared.serving.Run.{Run}
use Rattle.sessions.specs.Runs.{HasMade, HasSpent, IsHistory, calls_of, EndsBy, FailsBy, IsOpenAt, IsServed, last_line}
use Rattle.sessions.specs.Going.{IsStopped, IsRefused, kept_at}
use Rattle.sessions.proofs.Goings.{cut_off}
use Rattle.sessions.proofs.Scripts.{begin_with}
use Rattle.sessions.proofs.Steps.{few_seats}

open_at : (config : Config) (e : ServeEnd) → SeatsInRange config × RingInRange config → IsOpenAt config e
open_at config (end.Open reason) r = tt
open_at config _ r = r

kept_else : (e : ServeEnd) (out pending : List ℕ) → e ≢ end.Output → kept_at e out pending ≡ out ++ (pending ++ last_line e)
kept_else end.Output out pending ne = absurd (ne refl)
kept_else _ out pending ne = refl

-- how often writes failed, where the rest is written or can't be
fails_whole : (e : ServeEnd) (r r' : Reads) (w w' w'' : Writes) → e ≢ end.Output → w''.failures ≡ w'.failures → FailsBy e r w r' w' → FailsBy e r w r' w''
fails_whole end.Output r r' w w' w'' ne same h = absurd (ne refl)
fails_whole _ r r' w w' w'' ne same h = (h.0, same ∙ h.1)

fails_part : (e : ServeEnd) (r r' : Reads) (w w' w'' : Writes) → e ≢ end.Output → w''.failures ≡ w'.failures + 1 → FailsBy e r w r' w' → FailsBy end.Output r w r' w''
fails_part end.Output r r' w w' w'' ne failed h = absurd (ne refl)
fails_part _ r r' w w' w'' ne failed h = let reads = h.0 in (omega (arith, reads), omega (arith, reads), failed ∙ ap (λ (n : ℕ). n + 1) h.1)

module _ (r r' : Reads) (w w' : Writes) (run : Run) (e : ServeEnd) (s : IsStopped r r' w w' run e) (legal : (events : List Event) → HasMade run.callers.latest run.callers.seats.items events → IsHistory (first_of run.callers.db) events)
    (spent : (events : List Event) → HasMade run.callers.latest run.callers.seats.items events → HasSpent run.callers.seats.items → first_of run.callers.db + length events ≡ most) where
  abbrev input : List ℕ
  input = script_text (calls_of s.events) ++ s.rest

  abbrev Ends : List ℕ → ServeEnd → Type 0
  Ends output e' = EndsBy run.terms.format (run.terms.config.first + length s.events ≡ most) run.terms.config input r'.ended s.events output e'

  ended : Ends (kept_at e s.out run.output.pending.items) e
  ended = s.ends (λ h. subst (λ (n : ℕ). n + length s.events ≡ most) s.called.first (spent s.events s.called.made h))

  served : (w'' : Writes) (output : List ℕ) (e' : ServeEnd) → w''.taken ≡ w.taken ++ output → FailsBy e' r w r' w'' → Ends output e' → IsServed run.terms.format run.terms.config r r' w w'' e'
  served w'' output e' wrote failed ends = record {
    events = s.events;
    history = subst (λ (n : ℕ). IsHistory n s.events) s.called.first (legal s.events s.called.made);
    input = input;
    read = s.called.read;
    output = output;
    wrote = wrote;
    begins = begin_with run.terms.format run.terms.config.seats input s.rest r'.ended (calls_of s.events) (few_seats run.terms.config s.called.in_range.0) s.called.calls refl;
    ends = ends;
    opened = open_at run.terms.config e' s.called.in_range;
    failed = failed;
  }

  -- a write has failed before
  pub served_cut : e ≡ end.Output → IsServed run.terms.format run.terms.config r r' w w' end.Output
  served_cut is = served w' s.out end.Output s.wrote (subst (λ (x : ServeEnd). FailsBy x r w r' w') is s.failed) (subst (λ (x : ServeEnd). Ends (kept_at x s.out run.output.pending.items) x) is ended)

  module _ (last : List ℕ) (w'' : Writes) (ne : e ≢ end.Output) (is : last ≡ last_line e) where
    abbrev left : List ℕ
    left = run.output.pending.items ++ last

    owed : Ends (s.out ++ left) e
    owed = subst (λ (xs : List ℕ). Ends xs e) (kept_else e s.out run.output.pending.items ne ∙ ap (λ (xs : List ℕ). s.out ++ (run.output.pending.items ++ xs)) (sym is)) ended

    -- what was left is written, with the line of the end
    pub served_whole : HasTaken w'.taken w''.taken left [] → w''.failures ≡ w'.failures → IsServed run.terms.format run.terms.config r r' w w'' e
    served_whole t same = served w'' (s.out ++ left) e
        (t.took ∙ (ap (λ (xs : List ℕ). xs ++ t.part) s.wrote ∙ (append_assoc w.taken s.out t.part ∙ ap (λ (xs : List ℕ). w.taken ++ (s.out ++ xs)) (sym (t.left ∙ append-nil t.part)))))
        (fails_whole e r r' w w' w'' ne same s.failed) owed

    -- what was left can't be written
    pub served_part : HasBegun w'.taken w''.taken left → w''.failures ≡ w'.failures + 1 → IsServed run.terms.format run.terms.config r r' w w'' end.Output
    served_part begun failed =
        let rest = begun.0 in let t = begun.1 in
        served w'' (s.out ++ t.part) end.Output (t.took ∙ (ap (λ (xs : List ℕ). xs ++ t.part) s.wrote ∙ append_assoc w.taken s.out t.part)) (fails_part e r r' w w' w'' ne failed s.failed)
        (cut_off run.terms.format (run.terms.config.first + length s.events ≡ most) run.terms.config input r'.ended s.events e (s.out ++ left) (s.out ++ t.part) owed (rest, ap (λ (xs : List ℕ). s.out ++ xs) t.left ∙ sym (append_assoc s.out t.part rest)))

-- nothing was begun
unbegun : (format : Format) (config : Config) (r : Reads) (w : Writes) (e : ServeEnd) → config.first ≤ most → EndsBy format (config.first + 0 ≡ most) config [] r.ended [] [] e → IsOpenAt config e → FailsBy e r w r w → IsServed format config r r w w e
unbegun format config r w e low ends opened failed = record {
  events = [];
  history = record { legal = tt; gapless = tt; bounded = omega (arith, low) };
  input = [];
  read = sym (append-nil r.given);
  output = [];
  wrote = sym (append-nil w.taken);
  begins = λ whole may. ((script_at format config.seats whole).calls, refl);
  ends = ends;
  opened = opened;
  failed = failed;
}

pub served_refused : (format : Format) (config : Config) (r : Reads) (w : Writes) (e : ServeEnd) → config.first ≤ most → IsRefused config e → IsServed format config r r w w e
served_refused format config r w (end.Open reason) low why = unbegun format config r w (end.Open reason) low (why, refl, refl, refl) tt (refl, refl)
served_refused format config r w end.Memory low why = unbegun format config r w end.Memory low (inl (refl, refl, refl)) why (refl, refl)
served_refused format config r w _ low why = absurd why
