-- Histories of which the same is kept, but for numbers, go on alike.
use Rattle.std.proofs.Common.{◌≡◌, ℕ, Bool, true, false, cond, Option, List, [], ◌∷◌, ◌++◌, map, None, refl, sym, ◌∙◌, ap, inl, inr, arith}
use Rattle.std.specs.Prelude.{nat_le, ◌↔◌}
use Rattle.restarts.proofs.Common.{Event, IsLegal, IsRightEvent, NoMemory, Place, Refused, StandsFor, alike_stands, answer_of, common_steps, effect_of, effects_of, feeds_opened, is_accepted, may_lack_memory, protections_made}
use Rattle.restarts.specs.Running.{crash}
use Rattle.restarts.specs.Dump.{rebuilt}
use Rattle.restarts.specs.Restart.{renumbered, renumbered_cmd, renumbered_reply}
use Rattle.restarts.proofs.Crashing.{crashed}
use Rattle.restarts.proofs.Rebuilding.{left_kept}
use Rattle.restarts.proofs.Shifting.{reply_back, shifted, still_accepted, still_may_lack}
use Rattle.restarts.proofs.TwinReplies.{twin_answer}
use Rattle.restarts.proofs.TwinSteps.{AreTwins, effect_same, twin_step}

-- e' is e with its feed numbered after n feeds, and its protection after m protections, at whatever position
pub record IsRenumbered (n m : ℕ) (e e' : Event) : Type 0 where
  pub seat : e'.seat ≡ e.seat
  pub cmd : e'.cmd ≡ renumbered_cmd n m e.cmd
  pub reply : e'.reply ≡ renumbered_reply n m e.reply

same_answer : (n m : ℕ) (h h' : List Event) (e e' : Event) → AreTwins n m h h' → IsRenumbered n m e e' → answer_of (effects_of h') e'.seat e'.cmd ≡ renumbered_reply n m (answer_of (effects_of h) e.seat e.cmd)
same_answer n m h h' e e' twins is = rw (is.seat, is.cmd) (twin_answer n m twins.kept h h' twins.one twins.other e.seat e.cmd)

right_alike : (n m : ℕ) (h h' : List Event) (e e' : Event) → AreTwins n m h h' → IsRenumbered n m e e' → IsRightEvent (effects_of h) e ↔ IsRightEvent (effects_of h') e'
right_alike n m h h' e e' twins is =
    let same = same_answer n m h h' e e' twins is in
    let accepted = still_accepted n m (answer_of (effects_of h) e.seat e.cmd) in
    let may = still_may_lack n m e.cmd in (
      λ right. grind (arith, common_steps, right, is, same, accepted, may),
      λ right. grind (arith, common_steps, right, is, same, accepted, may, reply_back n m e.reply (answer_of (effects_of h) e.seat e.cmd), reply_back n m e.reply (Refused NoMemory)),
    )

still_twins : (n m : ℕ) (h h' : List Event) (e e' : Event) → AreTwins n m h h' → IsRenumbered n m e e' → IsRightEvent (effects_of h) e → IsRightEvent (effects_of h') e' → AreTwins n m (e ∷ h) (e' ∷ h')
still_twins n m h h' e e' twins is right right' =
    twin_step n m h h' e e' twins right right' (effect_of e) refl (rw (is.seat, is.cmd, is.reply) (effect_same n m e.seat e.cmd e.reply))

-- events in the one history, and renumbered in the other
pub record AreAlikeAfter (n m : ℕ) (h h' : List Event) : Type 0 where
  pub on : IsLegal h → AreTwins n m h h'
  pub back : IsLegal h' → AreTwins n m h h'

pub all_alike : (n m : ℕ) (h h' : List Event) (change : Event → Event) → ((e : Event) → IsRenumbered n m e (change e)) → AreTwins n m h h' → (es : List Event) → AreAlikeAfter n m (es ++ h) (map change es ++ h')
all_alike n m h h' change is twins [] = record { on = λ legal. twins; back = λ legal. twins }
all_alike n m h h' change is twins (e ∷ es) =
    let more = all_alike n m h h' change is twins es in record {
      on = λ legal. let t = more.on legal.1 in
          still_twins n m (es ++ h) (map change es ++ h') e (change e) t (is e) legal.0 ((right_alike n m (es ++ h) (map change es ++ h') e (change e) t (is e)).0 legal.0);
      back = λ legal. let t = more.back legal.1 in
          still_twins n m (es ++ h) (map change es ++ h') e (change e) t (is e) ((right_alike n m (es ++ h) (map change es ++ h') e (change e) t (is e)).1 legal.0) legal.0;
    }

-- a restart, by what is kept of it, and the crash
pub restart_twins : (h r : List Event) (m : ℕ) → StandsFor (left_kept (effects_of h) m) r → StandsFor (crashed (effects_of h) m) (crash h m)
    → AreTwins (feeds_opened (effects_of h)) (protections_made (effects_of h)) r (crash h m)
restart_twins h r m one other =
    let n : ℕ = feeds_opened (effects_of h) in
    let made : ℕ = protections_made (effects_of h) in record {
      kept = left_kept (effects_of h) m;
      one = one;
      other = alike_stands (crashed (effects_of h) m) (shifted n made (left_kept (effects_of h) m)) (crash h m) other (record {
        closed = refl;
        horizon = refl;
        version = λ y i. refl;
        committed = λ y i b e. refl;
        marked = λ y i. refl;
        transaction = λ i. refl;
        protections = refl;
        protections_made = omega arith;
        feed = λ f. grind (arith, common_steps);
        feeds_opened = omega arith;
      });
    }

pub go_on_alike : (h : List Event) (m : ℕ) → StandsFor (left_kept (effects_of h) m) (rebuilt h m) → StandsFor (crashed (effects_of h) m) (crash h m)
    → (es : List Event) → IsLegal (es ++ rebuilt h m) ↔ IsLegal (map (renumbered h m) es ++ crash h m)
go_on_alike h m one other es =
    let alike = all_alike (feeds_opened (effects_of h)) (protections_made (effects_of h)) (rebuilt h m) (crash h m) (renumbered h m) (λ e. record { seat = refl; cmd = refl; reply = refl }) (restart_twins h (rebuilt h m) m one other) es in
    (λ legal. (alike.on legal).other.legal, λ legal. (alike.back legal).one.legal)
