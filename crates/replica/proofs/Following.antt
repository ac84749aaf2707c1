-- A replica after one message more.
use Rattle.replica.proofs.Common.{ApplyFault, Map, Message, Row, common_steps, complete_after, floor_join, is_after, is_new, is_row_of, last_row, put, reaches, ready_after, resolved_join, view_of}
use Rattle.std.proofs.Common.{◌≡◌, ℕ, ◌-◌, ◌<◌, true, List, [], ◌∷◌, ◌++◌, Option, Some, None, refl, ◌∙◌, ap, arith}
use Rattle.std.specs.Prelude.{option_map}
use Rattle.std.proofs.lemmas.Bool.Decides.{nat_tests}
use Rattle.spans.specs.declared.calls.messages.Message.TheVariants as messages
use Rattle.spans.specs.Consumer as consumer
use Rattle.replica.specs.declared.replica.Replica.{Replica}
use Rattle.replica.specs.declared.fault.Fault.{Fault}
use Rattle.replica.specs.declared.fault.Fault.TheVariants as faults
use Rattle.replica.specs.Rows.{place_of, is_past, is_over, is_place_of}
use Rattle.replica.specs.Starts.{Start, resolved_at}
use Rattle.replica.specs.Replicas.{view_in, Follows, through_in, Takes, IsFaultAt, test_of, fault_in, ready_in}

pub view_join : (m : Map) (ms ns : List Message) → view_of m (ms ++ ns) ≡ view_of (view_of m ms) ns
view_join m [] ns = refl
view_join m (messages.Row r ∷ ms) ns = view_join (put m r.key r.after) ms ns
view_join m (messages.Resolved t ∷ ms) ns = view_join m ms ns

pub last_join : (o : Option Row) (ms ns : List Message) → last_row o (ms ++ ns) ≡ last_row (last_row o ms) ns
last_join o [] ns = refl
last_join o (messages.Row r ∷ ms) ns = last_join (Some r) ms ns
last_join o (messages.Resolved t ∷ ms) ns = last_join o ms ns

pub at_join : (o : Option ℕ) (ms ns : List Message) → resolved_at o (ms ++ ns) ≡ resolved_at (resolved_at o ms) ns
at_join o [] ns = refl
at_join o (messages.Row r ∷ ms) ns = at_join None ms ns
at_join o (messages.Resolved t ∷ ms) ns = at_join (Some t) ms ns

put_like : (m n : Map) (k : List ℕ) (a : Option (List ℕ)) (x : List ℕ) → m x ≡ n x → put m k a x ≡ put n k a x
put_like m n k a x same = rw same refl

-- a row was taken
pub takes_row : (old new : Replica) (r : Row) → new.span ≡ old.span → new.resolved ≡ old.resolved → ((x : List ℕ) → view_in new x ≡ put (view_in old) r.key r.after x)
    → new.last ≡ Some (place_of r) → new.complete ≡ None → new.cursor ≡ old.cursor → new.floor ≡ r.ts - 1 → Takes old new (messages.Row r)
takes_row old new r span resolved rows last complete cursor floor s ms before = grind (arith, common_steps, floor_join, put_like, view_join, resolved_join, last_join, at_join)

-- a resolved message was taken
pub takes_resolved : (old new : Replica) (t : ℕ) → new.span ≡ old.span → new.table ≡ old.table → old.resolved < t → new.resolved ≡ t
    → new.last ≡ old.last → new.complete ≡ Some t → new.cursor ≡ old.cursor → new.floor ≡ t → Takes old new (messages.Resolved t)
takes_resolved old new t span rows above resolved last complete cursor floor s ms before = grind (arith, common_steps, floor_join, view_join, resolved_join, last_join, at_join)

past_after : (o : Option Row) (r : Row) → (is_past (option_map place_of o) r ≡ is_after o r) × (is_place_of (option_map place_of o) r.ts ≡ is_row_of o r.ts)
past_after None r = (refl, refl)
past_after (Some q) r = (refl, refl)

over_reaches : (o : Option Row) (t : ℕ) → is_over (option_map place_of o) t ≡ reaches o t
over_reaches None t = refl
over_reaches (Some q) t = refl

abbrev tests_of : Option Fault → Option ApplyFault
tests_of None = None
tests_of (Some f) = test_of f

-- the tests by what the replica holds are those of the messages that it has taken
pub faults_agree : (r : Replica) (m : Message) → IsFaultAt r m (tests_of (fault_in r m))
faults_agree r (messages.Row row) s ms before = grind (arith, common_steps, nat_tests, past_after (last_row None ms) row)
faults_agree r (messages.Resolved t) s ms before = grind (arith, common_steps, nat_tests, over_reaches)

-- a fault that was found is one of the message
pub fault_is : (r : Replica) (m : Message) (f : Fault) → fault_in r m ≡ Some f → IsFaultAt r m (test_of f)
fault_is r m f e s ms before = faults_agree r m s ms before ∙ ap tests_of e

-- a resolved message without a fault is above what was resolved
pub resolved_above : (r : Replica) (t : ℕ) → fault_in r (messages.Resolved t) ≡ None → r.resolved < t
resolved_above r t none = grind (arith, common_steps, nat_tests)

-- through where all was told, by what the replica holds and by the messages that it has taken
pub through_is : (r : Replica) (s : Start) (ms : List Message) → Follows r s ms → through_in r ≡ complete_after s.start s.cursor ms
through_is r s ms follows = rw (follows.floor, follows.cursor) refl

-- where it is ready
pub ready_is : (r : Replica) (m : Message) (s : Start) (ms : List Message) → Follows r s ms → ready_in r m ≡ ready_after s.span s.start s.cursor ms m
ready_is r (messages.Resolved t) s ms follows = refl
ready_is r (messages.Row row) s ms follows = grind (arith, common_steps, nat_tests, faults_agree r (messages.Row row) s ms follows, past_after (last_row None ms) row)

-- a message that shows that it is ready is a row, the first of its timestamp
pub ready_row : (r : Replica) (m : Message) (n : ℕ) (s : Start) (ms : List Message) → Follows r s ms → ready_in r m ≡ Some n
    → (row : Row) × (m ≡ messages.Row row) × (is_new s.cursor ms row.ts ≡ true) × (row.ts - 1 ≡ n)
ready_row r (messages.Resolved t) n s ms follows is = cc
ready_row r (messages.Row row) n s ms follows is = let shown = ready_is r (messages.Row row) s ms follows in (row, refl, grind (arith, common_steps, nat_tests), grind (arith, common_steps, nat_tests))
