-- When replicas of a feed are right.
use Rattle.std.specs.Prelude.{ℕ, ◌<◌, List, [], ◌∷◌, ◌++◌, ◌≡◌, Some}
use Rattle.spans.specs.declared.calls.messages.Message.TheVariants as messages
use Rattle.replica.specs.Prelude.{AllTaken, Effect, Feed, Message, feed_of, map_at, span_part, told_to, AllAbove, GoesOn}
use Rattle.replica.specs.declared.replica.Replica.{Replica}
use Rattle.replica.specs.Starts.{Start, IsStartOf}
use Rattle.replica.specs.Replicas.{Follows, view_in, span_in, complete_in, through_in, ready_in}

-- the replica is complete at t: its rows are the span's part of the map at t
pub record IsCompleteAt (p : List Effect) (feed : Feed) (r : Replica) (t : ℕ) : Type 0 where
  pub complete : complete_in r ≡ Some t
  pub rows : (x : List ℕ) → view_in r x ≡ span_part feed.span (map_at p t) x

-- the replica that begins so refuses none of the messages that the feed g told, and is complete at each of its resolved timestamps.
-- Nothing at or below where it was told all is told later. Where it is ready, above where it begins, its rows are the map
pub record GoesOnRight (p : List Effect) (g : ℕ) (feed : Feed) (s : Start) : Type 0 where
  pub takes : AllTaken s.span s.start [] (told_to p g)
  pub complete : (r : Replica) (before rest : List Message) (t : ℕ) → told_to p g ≡ before ++ messages.Resolved t ∷ rest
      → Follows r s (before ++ messages.Resolved t ∷ []) → IsCompleteAt p feed r t
  pub through : (r : Replica) (before rest : List Message) (n : ℕ) → told_to p g ≡ before ++ rest → Follows r s before → through_in r ≡ Some n → AllAbove n rest
  pub ready : (r : Replica) (before rest : List Message) (m : Message) (n : ℕ) → told_to p g ≡ before ++ m ∷ rest → Follows r s before → ready_in r m ≡ Some n
      → s.start < n → (x : List ℕ) → view_in r x ≡ span_part feed.span (map_at p n) x

-- the start goes on with the replica's rows, from where it was told all
pub record StartsFrom (s : Start) (r : Replica) (n : ℕ) : Type 0 where
  pub span : s.span ≡ span_in r
  pub start : s.start ≡ n
  pub rows : (x : List ℕ) → s.rows x ≡ view_in r x

-- a replica of the feed refuses none of the messages that the feed told, and is complete at each resolved timestamp once it
-- has taken the messages up to it and with it. Where it is complete before the first message its rows are the map. Nothing at or below where it was told all is told later. Where it is ready its
-- rows are the map. A replica that goes on with its rows, of a feed that was opened where it was told all, refuses none of that
-- feed's messages, and is complete at each of its resolved timestamps
pub record ReplicaIsRight (p : List Effect) (f : ℕ) (feed : Feed) (s : Start) : Type 0 where
  pub takes : AllTaken s.span s.start [] (told_to p f)
  pub complete : (r : Replica) (before rest : List Message) (t : ℕ) → told_to p f ≡ before ++ messages.Resolved t ∷ rest
      → Follows r s (before ++ messages.Resolved t ∷ []) → IsCompleteAt p feed r t
  pub whole : (r : Replica) (t : ℕ) → Follows r s [] → complete_in r ≡ Some t → (x : List ℕ) → view_in r x ≡ span_part feed.span (map_at p t) x
  pub through : (r : Replica) (before rest : List Message) (n : ℕ) → told_to p f ≡ before ++ rest → Follows r s before → through_in r ≡ Some n → AllAbove n rest
  pub ready : (r : Replica) (before rest : List Message) (m : Message) (n : ℕ) → told_to p f ≡ before ++ m ∷ rest → Follows r s before → ready_in r m ≡ Some n
      → (x : List ℕ) → view_in r x ≡ span_part feed.span (map_at p n) x
  pub goes_on : (r : Replica) (before rest : List Message) (n : ℕ) → told_to p f ≡ before ++ rest → Follows r s before → through_in r ≡ Some n
      → (g : ℕ) (next : Feed) → feed_of p g ≡ Some next → GoesOn feed next n → (s' : Start) → StartsFrom s' r n → GoesOnRight p g feed s'

-- of a feed that was opened, each replica that began as its consumer is to begin is right
abbrev pub ReplicasAreRight : List Effect → ℕ → Type 0
ReplicasAreRight p f = (feed : Feed) → feed_of p f ≡ Some feed → (s : Start) → IsStartOf p feed s → ReplicaIsRight p f feed s
