-- Lists of events grow at their end, and histories at their front. Running out of memory does nothing.
use Rattle.spans.proofs.Common.{common_steps}
use Rattle.std.proofs.Common.{◌≡◌, ℕ, suc, ◌+◌, List, [], ◌∷◌, ◌++◌, length, reverse, arith, ◌≤◌}
use Rattle.std.proofs.lemmas.List.{reverse-append, length-map}
use Rattle.spans.specs.declared.calls.commands.Cmd.{Cmd}
use Rattle.spans.specs.declared.calls.replies.Reply.TheVariants.{Refused}
use Rattle.spans.specs.declared.calls.replies.Refusal.TheVariants.{NoMemory}
use Rattle.spans.specs.declared.calls.events.Event.{Event}
use Rattle.spans.specs.Effects.{NoEffect, effect, Effect, effects_of, effect_of}
use Rattle.spans.specs.Legal.{IsGapless}
use Rattle.spans.specs.Collection.{protections_made}
use Rattle.spans.specs.Feeds.{feeds_opened}

-- an event in its place leaves no gap
pub gapless_more : (n : ℕ) (es : List Event) (e : Event) → IsGapless n es → e.position ≡ n + length es → IsGapless n (es ++ e ∷ [])
gapless_more n [] e gapless at = (omega arith, tt)
gapless_more n (x ∷ xs) e gapless at = (gapless.0, gapless_more (suc n) xs e gapless.1 (omega arith))

-- turned round, the last event comes first
pub turned_more : (es : List Event) (e : Event) → reverse (es ++ e ∷ []) ≡ e ∷ reverse es
turned_more es e = reverse-append es (e ∷ [])

-- running out of memory does nothing
pub wanting_does_nothing : (seat : ℕ) (cmd : Cmd) → effect seat cmd (Refused NoMemory) ≡ NoEffect
wanting_does_nothing seat (_) = grind (arith, common_steps)

-- each event has its effect
pub effect_count : (h : List Event) → length (effects_of h) ≡ length h
effect_count h = length-map h effect_of

-- each protection, and each feed, was made by an effect of its own
pub made_at_most : (p : List Effect) → protections_made p ≤ length p
made_at_most [] = omega arith
made_at_most (_ ∷ p) = grind (arith, common_steps, made_at_most p)

pub opened_at_most : (p : List Effect) → feeds_opened p ≤ length p
opened_at_most [] = omega arith
opened_at_most (_ ∷ p) = grind (arith, common_steps, opened_at_most p)
