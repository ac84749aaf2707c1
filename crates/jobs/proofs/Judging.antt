-- A transcript whose events are judged one after the other.
use Rattle.std.proofs.Common.{◌≡◌, ◌+◌, ◌<◌, ℕ, Bool, true, List, [], ◌∷◌, ◌++◌, length, Result, refl, ap, ◌∙◌, arith}
use Rattle.std.proofs.lemmas.List.{length-append}
use Rattle.spans.specs.declared.calls.events.Event.{Event}
use Rattle.jobs.proofs.Common.{Checker, Fault, StandsFor, TakesNext, Transcript, nothing_left}
use Rattle.script.proofs.TakeLines.{behind, reads_more, reads_end}
use Rattle.jobs.specs.declared.verdicts.Judged.TheVariants.{Right}
use Rattle.jobs.specs.Verdicts.{IsJudged}

-- the event stands in front of what is left behind it
abbrev pub IsAhead : Event → Transcript → Transcript → Type 0
IsAhead e left left' = (w : Bool) × (left ≡ record { events = e ∷ left'.events; fault = left'.fault; wants = w ∷ left'.wants })

-- the events that were read so far are a trace, which a checker has taken: so many; so few are there in all that a number counts them
pub record IsJudging (total : Result (List Event) Fault) (left : Transcript) (checker : Checker) (count : ℕ) : Type 0 where
  pub taken : List Event
  pub counted : count ≡ length taken
  pub so_far : total ≡ behind taken left
  pub trace : StandsFor checker taken
  pub few : length taken + length left.events < 18446744073709551615

-- no event is left
pub judging_ends : (total : Result (List Event) Fault) (left : Transcript) (checker : Checker) (count : ℕ) → left ≡ nothing_left → IsJudging total left checker count → IsJudged total checker (Right count)
judging_ends total left checker count none judging = (
  record {
    events = judging.taken;
    is = reads_end judging.taken left total none judging.so_far;
    stands = judging.trace;
    few = omega (arith, judging.few);
  },
  judging.counted,
)

-- what is left in front is counted
few_front : (taken : List Event) (e : Event) (left left' : Transcript) → IsAhead e left left' → length taken + length left.events < 18446744073709551615
    → (length taken < 18446744073709551615) × (length (taken ++ e ∷ []) + length left'.events < 18446744073709551615)
few_front taken e left left' is few =
    let all : length left.events ≡ length (e ∷ left'.events) = ap (λ (t : Transcript). length t.events) is.1 in
    (omega (arith, all), omega (arith, all, length-append taken (e ∷ [])))

-- the next event was right
pub judging_goes_on : (total : Result (List Event) Fault) (left left' : Transcript) (checker checker' : Checker) (count : ℕ) (e : Event) → IsAhead e left left' → TakesNext checker checker' e true
    → IsJudging total left checker count → IsJudging total left' checker' (count + 1)
judging_goes_on total left left' checker checker' count e is takes judging =
    let few = few_front judging.taken e left left' is judging.few in
    record {
      taken = judging.taken ++ e ∷ [];
      counted = omega (arith, judging.counted, length-append judging.taken (e ∷ []));
      so_far = judging.so_far ∙ reads_more judging.taken e left left' is;
      trace = takes refl judging.taken judging.trace few.0;
      few = few.1;
    }
