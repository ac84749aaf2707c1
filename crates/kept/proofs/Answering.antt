-- What answers by what is kept stands for the history with the command.
use Rattle.std.proofs.Common.{arith, subst}
use Rattle.std.proofs.lemmas.Grind.{common_steps}
use Rattle.std.proofs.Common.{List, Some, ap, inl, inr, refl, sym, true, ℕ, ◌∷◌, ◌≡◌, ◌∙◌}
use Rattle.spans.specs.Legal.{may_lack_memory}
use Rattle.kept.proofs.Common.{Effect, Event, IsKeptOf, IsRightEvent, Kept, NoEffect, Place, Poll, Reply, answer_of, effect, effect_of, effects_of, event, is_accepted, legal_allowed, right_allowed, Allowed}
use Rattle.spans.specs.declared.calls.commands.Cmd.{Cmd}
use Rattle.spans.proofs.Histories.{wanting_does_nothing}
use Rattle.kept.specs.StandsFor.{StandsFor}
use Rattle.kept.proofs.Replying.{reply_right}
use Rattle.kept.proofs.Standing.{changed_kept}
use Rattle.kept.specs.Answered.{IsAccepting, IsChangedBy, IsReplyOf, IsStep, takes_memory}
use Rattle.spans.specs.declared.calls.commands.Cmd.TheVariants.{Collect}

-- a reply by what is kept is the answer of the definitions
pub reply_is_answer : (k : Kept) (h : List Event) (seat : ℕ) (cmd : Cmd) (r : Reply) → StandsFor k h → IsReplyOf k seat cmd r → r ≡ answer_of (effects_of h) seat cmd
reply_is_answer k h seat cmd r s is = reply_right k (effects_of h) (legal_allowed h s.legal) s.fits seat cmd r is

-- what changed as the effect of a right event wants stands for the history with it
pub changed_stands : (k k' : Kept) (h : List Event) (e : Event) (d : Effect) → StandsFor k h → IsRightEvent (effects_of h) e → effect_of e ≡ d → IsChangedBy k k' d → StandsFor k' (e ∷ h)
changed_stands k k' h e d s right is c = let here = changed_kept k k' (effects_of h) d (legal_allowed h s.legal) s.fits (subst (Allowed (effects_of h)) is (right_allowed (effects_of h) e right)) c in
    record { legal = (right, s.legal); fits = subst (λ f. IsKeptOf k' (f ∷ effects_of h)) (sym is) here }

-- a poll of a feed that lives is accepted from its seat
pub poll_accepted : (k : Kept) (p : List Effect) → IsKeptOf k p → (seat f max : ℕ) (place : Place) → k.feed f ≡ Some place → place.seat ≡ seat → is_accepted (answer_of p seat (Poll f max)) ≡ true
poll_accepted k p fits seat f max place lives owner = grind (arith, common_steps)

-- a command that wouldn't be refused has an answer that is no refusal
pub accepting_is : (k : Kept) (h : List Event) (seat : ℕ) (cmd : Cmd) → StandsFor k h → IsAccepting k seat cmd → is_accepted (answer_of (effects_of h) seat cmd) ≡ true
accepting_is k h seat (Poll f max) s is = poll_accepted k (effects_of h) s.fits seat f max is.0 is.1 is.2
accepting_is k h seat (cmd) s is = ap is_accepted (sym (reply_is_answer k h seat cmd is.0 s is.1)) ∙ is.2

-- a command for which the engine takes memory may want it
may_lack : (cmd : Cmd) → takes_memory cmd ≡ true → may_lack_memory cmd ≡ true
may_lack (Collect to) takes = refl
may_lack cmd takes = takes

-- a step of what is kept is one of the history
pub step_stands : (k k' : Kept) (h : List Event) (n seat : ℕ) (cmd : Cmd) (r : Reply) → StandsFor k h → IsStep k k' seat cmd r → StandsFor k' (event n seat cmd r ∷ h)
step_stands k k' h n seat cmd r s step = elim step [
  | inl answered ↦ changed_stands k k' h (event n seat cmd r) (effect seat cmd r) s (inl (reply_is_answer k h seat cmd r s answered.right)) refl answered.change
  | inr wanting ↦ (let right : IsRightEvent (effects_of h) (event n seat cmd r) = inr (wanting.0, accepting_is k h seat cmd s wanting.1.accepting, may_lack cmd wanting.1.may) in
      changed_stands k k' h (event n seat cmd r) NoEffect s right (ap (effect seat cmd) wanting.0 ∙ wanting_does_nothing seat cmd) wanting.1.alike)
]
