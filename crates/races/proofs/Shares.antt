-- From what `finish` tells to what is said of a race that is over.
use Rattle.std.proofs.Common.{◌≡◌, ℕ, ◌+◌, ◌<◌, ◌≤◌, List, length, map, reverse, get_or, Global, sym, ap, ◌∙◌, subst, All}
use Rattle.std.specs.Prelude.{◌≢◌, flat_map, Vec, IsPermutation}
use Rattle.std.proofs.lemmas.List.Elements.{All-map}
use Rattle.std.proofs.lemmas.List.Folds.{flat_map-map}
use mathlib.Core.Option.{some}
use lib.ListN.{get_elem?}
use Rattle.races.proofs.Common.{AllNew, AllOf, Db, Engine, Event, IsGapless, IsLegal, IsOf, each_read, first_of, gapless_from_first, get_or_default, most, number, of_seat}
use Rattle.engine.specs.Engine.{StandsFor}
use Rattle.ticket_lock.specs.declared.chronicle.Chronicle.{Ghosts}
use Rattle.ticket_lock.specs.declared.lock.Seat.{Seat}
use Rattle.shared_db.specs.declared.served.Served.{Served}
use Rattle.shared_db.specs.Seats.{IsWhole}
use Rattle.races.specs.declared.ended.Ended.{Ended}
use Rattle.races.specs.declared.merging.MergeError.{MergeError}
use Rattle.races.specs.declared.merging.MergeError.TheVariants as errors
use Rattle.races.specs.Racing.{IsIdle, IsSettled}
use Rattle.races.specs.Merging.{events_of, IsMerged, IsReason}
use Rattle.races.proofs.Weighing.{same_parts, parts_of}
use Rattle.races.proofs.Ordered.{merged_is, never_refused}
use Rattle.races.proofs.Promised.{all_at, of_map}

pub elem_at : {A : Type 0} (xs : List A) (k : ℕ) (d : A) → k < length xs → get_elem? xs k ≡ some (get_or xs k d)
elem_at xs k d lt = each_read (λ j a. get_elem? xs j ≡ some a) xs k (get_or xs k d) (λ j a e. e) lt (get_or_default xs k d (get_or xs k d) lt)

-- the seats of the sessions are the database's
pub all_own : (db : Db) (all : List Ended) (seats : List _) → All (λ (e : Ended). IsOf db e.seat) all → seats ≡ map (λ (e : Ended). e.seat) all → AllOf db seats
all_own db all seats own is = λ k s at. all_at (IsOf db) seats k s (subst (All (IsOf db)) (sym is) (All-map (IsOf db) (λ (e : Ended). e.seat) all own)) at

module _ {C : Ghosts Served Event} where
  -- new seats are the database's, and idle
  pub new_own : (db : Db) (seats : List (Seat Served Event C)) → AllNew db seats → All (IsOf db) seats
  new_own db seats new k d lt = (new k (get_or seats k d) (elem_at seats k d lt)).own

  pub new_idle : (db : Db) (seats : List (Seat Served Event C)) → AllNew db seats → All IsIdle seats
  new_idle db seats new k d lt = let s = new k (get_or seats k d) (elem_at seats k d lt) in record { unseen = s.unseen; none = s.idle }

module _ (db : Db) (all : List Ended) (seats : List _) (lists : List (Vec Event Global)) (engine : Engine)
    (is_seats : seats ≡ map (λ (e : Ended). e.seat) all) (is_lists : lists ≡ map (λ (e : Ended). e.events) all) (w : IsWhole db seats engine) where
  part : (k : ℕ) (e : Ended) → get_elem? all k ≡ some e → get_elem? seats k ≡ some e.seat
  part k e at = ap (λ xs. get_elem? xs k) is_seats ∙ of_map (λ (e : Ended). e.seat) all k e at

  owns : (k : ℕ) (e : Ended) → get_elem? all k ≡ some e → e.events.items ≡ of_seat (λ (x : Event). x.seat) (number e.seat) w.history
  owns k e at = e.whole ∙ (w.each k e.seat (part k e at)).owns

  events_is : events_of lists ≡ flat_map (λ (e : Ended). e.events.items) all
  events_is = ap (λ (xs : List (Vec Event Global)). events_of xs) is_lists ∙ flat_map-map (λ (list : Vec Event Global). list.items) (λ (e : Ended). e.events) all

  whole : IsPermutation (events_of lists) w.history
  whole =
      let parts = λ (s : _). of_seat (λ (x : Event). x.seat) (number s) w.history in
      subst (λ xs. IsPermutation xs w.history)
      (sym (events_is ∙ (same_parts (λ (e : Ended). e.events.items) (λ (e : Ended). parts e.seat) all owns ∙ (sym (flat_map-map parts (λ (e : Ended). e.seat) all) ∙ ap (flat_map parts) (sym is_seats)))))
      (parts_of number seats w.history (λ k e at. w.once e.seat (w.named k e at)))

  -- a merge of what the sessions have is refused for want of memory alone
  pub never : (e : MergeError) → e ≢ errors.NoMemory → IsReason (events_of lists) e → ⊥
  never = never_refused (first_of db) w.history (events_of lists) w.gapless whole

  pub settled : (events : List Event) → IsMerged (events_of lists) events → IsSettled db all engine events
  settled events m = let is : w.history ≡ events = sym (merged_is (first_of db) w.history (events_of lists) w.gapless whole events m) in record {
    same = subst (λ xs. IsPermutation xs events) events_is m.same;
    gapless = subst (IsGapless (first_of db)) is w.gapless;
    bounded = subst (λ (xs : List Event). first_of db + length xs ≤ most) is w.bounded;
    stood = subst (λ xs. StandsFor engine (reverse xs)) is w.stood;
    steps = w.steps ∙ ap length is;
    trace = record { legal = subst (λ xs. IsLegal (reverse xs)) is w.legal; gapless = gapless_from_first (first_of db) events (subst (IsGapless (first_of db)) is w.gapless) };
    named = λ k e at. w.named k e (ap (λ xs. get_elem? xs k) is ∙ at);
    each = λ k e at. record {
      own = owns k e at ∙ ap (λ xs. of_seat (λ (x : Event). x.seat) (number e.seat) xs) is;
      spent = λ s. subst (λ (xs : List Event). first_of db + length xs ≡ most) is ((w.each k e.seat (part k e at)).spent (e.met s));
    };
  }
