-- The database with one copy: one map, empty at first, on which the committed transactions run one after the other by
-- rising timestamp (one-copy serializability of Bernstein, Hadzilacos and Goodman, section 5.2, in timestamp order). The
-- book compares which write each read was given, and here the values are compared; the law says both.
use Rattle.std.specs.Prelude.{ℕ, zero, suc, List, [], ◌∷◌, true, ◌==◌, ◌≡◌, if◌then◌else◌, None, bytes_eq}
use Rattle.spans.specs.declared.span.Span.{Span}
use Rattle.spans.specs.Effects.{After, Effect, Reads, Scans, SnapshotReads, SnapshotScans, Writes}
use Rattle.spans.specs.Keys.{in_span, AreRows}
use Rattle.spans.specs.Transactions.{is_committed}

-- a map from keys to values
abbrev pub Map : Type 0
Map = List ℕ → After

-- the map with a at x
abbrev pub put : Map → List ℕ → After → Map
put m x a = λ y. if bytes_eq x y then a else m y

-- the map after t ran on m: its writes, in their order
abbrev pub serial_run : List Effect → ℕ → Map → Map
serial_run [] t m = m
serial_run (Writes k x a ∷ p) t m = if k == t then put (serial_run p t m) x a else serial_run p t m
serial_run (_ ∷ p) t m = serial_run p t m

-- the map after the committed transactions at or below t, run one after the other by rising timestamp
abbrev pub map_at : List Effect → ℕ → Map
map_at p zero = λ x. None
map_at p (suc t) = if is_committed p (suc t) then serial_run p (suc t) (map_at p t) else map_at p t

-- the part of a map in a span
abbrev pub span_part : Span → Map → Map
span_part span m = λ x. if in_span span x then m x else None

-- each read of t found what the map has at that point of its run on m
abbrev pub ReadsAgree : List Effect → ℕ → Map → Type 0
ReadsAgree [] t m = Unit {0}
ReadsAgree (Reads k x v ∷ p) t m = (k ≡ t → v ≡ serial_run p t m x) × ReadsAgree p t m
ReadsAgree (Scans k span rows ∷ p) t m = (k ≡ t → AreRows span (serial_run p t m) rows) × ReadsAgree p t m
ReadsAgree (_ ∷ p) t m = ReadsAgree p t m

-- each snapshot read in q, a past of p, found what the map of p has at its timestamp
abbrev pub SnapshotsAgree : List Effect → List Effect → Type 0
SnapshotsAgree p [] = Unit {0}
SnapshotsAgree p (SnapshotReads t x v ∷ q) = (v ≡ map_at p t x) × SnapshotsAgree p q
SnapshotsAgree p (SnapshotScans t span rows ∷ q) = AreRows span (map_at p t) rows × SnapshotsAgree p q
SnapshotsAgree p (_ ∷ q) = SnapshotsAgree p q

-- (timestamps begin at 1: suc t is a transaction's, and the map at t is what it runs on)
-- committed transactions and snapshot reads are those of the database with one copy, run in timestamp order
pub record IsOneCopy (p : List Effect) : Type 0 where
  pub reads : (t : ℕ) → is_committed p (suc t) ≡ true → ReadsAgree p (suc t) (map_at p t)
  pub snapshots : SnapshotsAgree p p
