-- What a database stands for after one more event.
use Rattle.std.proofs.Common.{◌≡◌, ℕ, List, ◌∷◌, refl, subst, arith}
use Rattle.plain_database.proofs.Common.{AllAllowed, Allowed, Cmd, Effect, Event, Found, IsRightEvent, Kind, NoEffect, Opened, ReadAt, Reply, Rows, ScanAt, Span, common_steps, effect, effects_of, event, legal_allowed, open_cmd, right_allowed}
use Rattle.plain_database.specs.declared.database.PlainDatabase.{PlainDatabase}
use Rattle.plain_database.specs.Tied.{IsTied, StandsFor}

-- one more event of this effect, where the tie follows
pub takes : (db db' : PlainDatabase) (h : List Event) (n seat : ℕ) (cmd : Cmd) (reply : Reply) (e : Effect) → effect seat cmd reply ≡ e → (IsTied db (effects_of h) → AllAllowed (effects_of h) → Allowed (effects_of h) e → IsTied db' (e ∷ effects_of h))
    → StandsFor db h → IsRightEvent (effects_of h) (event n seat cmd reply) → StandsFor db' (event n seat cmd reply ∷ h)
takes db db' h n seat cmd reply e is tie stands right = record {
  legal = (right, stands.legal);
  tied = rw is (tie stands.tied (legal_allowed h stands.legal) (subst (Allowed (effects_of h)) is (right_allowed (effects_of h) (event n seat cmd reply) right)));
}

-- an event that did nothing
pub stands_still : (db : PlainDatabase) (h : List Event) (n seat : ℕ) (cmd : Cmd) (reply : Reply) → effect seat cmd reply ≡ NoEffect → StandsFor db h → IsRightEvent (effects_of h) (event n seat cmd reply)
    → StandsFor db (event n seat cmd reply ∷ h)
stands_still db h n seat cmd reply none = takes db db h n seat cmd reply NoEffect none (λ tied all allowed. tied)

-- a reply that opened no feed did nothing
pub open_does_nothing : (kind : Kind) (seat : ℕ) (span : Span) (cursor : ℕ) (reply : Reply) → ((f : ℕ) → reply ≡ Opened f → ⊥) → effect seat (open_cmd kind span cursor) reply ≡ NoEffect
open_does_nothing kind seat span cursor reply other = grind (arith, common_steps)

-- a snapshot was read, or not
pub stands_read_at : (db : PlainDatabase) (h : List Event) (n seat t : ℕ) (x : List ℕ) (reply : Reply) → StandsFor db h → IsRightEvent (effects_of h) (event n seat (ReadAt t x) reply) → StandsFor db (event n seat (ReadAt t x) reply ∷ h)
stands_read_at db h n seat t x (Found v) = takes db db h n seat (ReadAt t x) (Found v) _ refl (λ tied all allowed. tied)
stands_read_at db h n seat t x reply = stands_still db h n seat (ReadAt t x) reply refl

-- a snapshot was scanned, or not
pub stands_scan_at : (db : PlainDatabase) (h : List Event) (n seat t : ℕ) (span : Span) (reply : Reply) → StandsFor db h → IsRightEvent (effects_of h) (event n seat (ScanAt t span) reply) → StandsFor db (event n seat (ScanAt t span) reply ∷ h)
stands_scan_at db h n seat t span (Rows rows) = takes db db h n seat (ScanAt t span) (Rows rows) _ refl (λ tied all allowed. tied)
stands_scan_at db h n seat t span reply = stands_still db h n seat (ScanAt t span) reply refl
