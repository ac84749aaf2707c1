-- What a database holds after a step of its engine.
use Rattle.std.proofs.Common.{◌≡◌, ◌<◌, ℕ, false, true, List, [], ◌∷◌, reverse, length, Some, Ok, inl, inr, refl, sym, ap, ◌∙◌, subst, arith}
use Rattle.embedded.proofs.Common.{Cmd, Event, IsGapless, Message, Messages, Reply, Scan, ScanAt, Two, command_at, command_line, effects_of, event, length-reverse, reverse-append, table}
use Rattle.std.proofs.Math.Logic.{∥∥₁_elim}
use Rattle.std.proofs.Props.{props}
use Rattle.std.specs.Prelude.{is_some}
use Rattle.spans.proofs.Histories.{gapless_more}
use Rattle.engine.specs.declared.Engine.{Engine}
use Rattle.engine.specs.Engine as engines
use Rattle.embedded.specs.declared.database.Database.{Database}
use Rattle.embedded.specs.Embedded.{StandsFor, HasStepped, Made, IsUnwritten, last_of}
use Rattle.embedded.specs.Typed.{IsBulk, is_read, scan_of}
use Rattle.embedded.proofs.ReadReplies.{is_no_read}

-- an event whose position is the count of those before it leaves no gap
next_gapless : (h : List Event) (e : Event) → IsGapless 0 (reverse h) → e.position ≡ length h → IsGapless 0 (reverse (e ∷ h))
next_gapless h e gapless at =
    subst (IsGapless 0) (sym (reverse-append (e ∷ []) h)) (gapless_more 0 (reverse h) e gapless (omega (arith, at, length-reverse h)))

-- the event that was kept after the engine's step is the newest of what the database holds
pub stands_next : (h : List Event) (e : Event) (engine : Engine) (old new : Database) → StandsFor old h → engines.StandsFor engine (e ∷ h) → new.engine ≡ engine → e.position ≡ length h → e.position < 18446744073709551615 → last_of new ≡ Some e → IsUnwritten new → StandsFor new (e ∷ h)
stands_next h e engine old new held stands same at low last text = record {
  stands = subst (λ (kept : Engine). engines.StandsFor kept (e ∷ h)) (sym same) stands;
  legal = stands.kept.legal;
  gapless = next_gapless h e held.gapless at;
  bounded = omega (arith, at, low);
  last = last;
  text = inr text;
}

-- a step by the seat and the command that were read from a line is the line's call
pub made : (h : List Event) (line : List ℕ) (read : ℕ × Cmd) (stepped new : Database) → HasStepped h read.0 read.1 stepped → ((g : List Event) → StandsFor stepped g → StandsFor new g) → line ≡ command_line read.0 read.1 → command_at Two table 64 line ≡ Ok read → (e : Event) × Made h line new e
made h line read stepped new step same spelled found = (
  step.event,
  record {
    holds = same (step.event ∷ h) step.holds;
    position = step.position;
    read = found ∙ ap Ok (sym ((λ i. (step.seat i, step.command i))));
    spelled = spelled ∙ sym (λ i. command_line (step.seat i) (step.command i));
  },
)

-- a read is answered with no messages, whatever the engine's history
pub no_read : (old new : Engine) (seat : ℕ) (cmd : Cmd) (r : Reply) (ms : List Message) → ((h : List Event) (n : ℕ) → engines.StandsFor old h → engines.StandsFor new (event n seat cmd r ∷ h)) → r ≡ Messages ms → is_read cmd ≡ false
no_read old new seat cmd r ms history is = ∥∥₁_elim old.stands (hlevel props) (λ h. is_no_read (effects_of h.0) (event 0 seat cmd r) ms (history h.0 0 h.1).kept.legal.0 is)

-- a scan reads no one key
scan_no_read : (cmd : Cmd) → is_some (scan_of cmd) ≡ true → is_read cmd ≡ false
scan_no_read (Scan ts span) is = refl
scan_no_read (ScanAt t span) is = refl
scan_no_read (_) is = cc

-- a read's answer takes no memory to be shown
pub bulk_no_read : (old new : Engine) (seat : ℕ) (cmd : Cmd) (r : Reply) → ((h : List Event) (n : ℕ) → engines.StandsFor old h → engines.StandsFor new (event n seat cmd r ∷ h)) → IsBulk cmd r → is_read cmd ≡ false
bulk_no_read old new seat cmd r history (inl (m, ms, is)) = no_read old new seat cmd r (m ∷ ms) history is
bulk_no_read old new seat cmd r history (inr (rows, is, scans)) = scan_no_read cmd scans
