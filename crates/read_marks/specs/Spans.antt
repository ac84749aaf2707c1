-- The latest reader of each key, as a step function of the keys (this project).
use Rattle.std.specs.Prelude.{ℕ, List, ◌≡◌, Bool, not, cond, map, max, ◌&&◌, Option, Some, None, IsSome}
use Rattle.std.specs.Borrow.{Bor}
use Rattle.std.specs.Option.{option_map}
use Rattle.std.specs.Ordering.{is_le}
use Rattle.std.specs.declared.ops.Bound.{Bound}
use Rattle.std.specs.declared.cmp.Ordering.TheVariants.{Less}
use Rattle.std.specs.declared.ops.Bound.TheVariants.{Excluded, Included, Unbounded}
use Rattle.std.specs.BTreeMap.Range.{entries_between}
use Rattle.std.specs.BTreeMap.{get}
use Rattle.spans.specs.KeyOrder.{below_high}
use Rattle.timestamps.specs.Bytes.{key_cmp}
pub use Rattle.read_marks.specs.Starts.{reaches, step_at}
use Rattle.read_marks.specs.declared.span_marks.SpanMarks.{SpanMarks}

-- the latest reader of a key: that of the greatest start not above it
abbrev pub latest_in : SpanMarks → List ℕ → ℕ
latest_in m x = step_at (reaches x) 0 m.starts.entries

-- that of the keys just below a start
abbrev pub latest_below : SpanMarks → List ℕ → ℕ
latest_below m start = step_at (λ k. not (is_le (key_cmp start k))) 0 m.starts.entries

-- each key has the latest reader that it had
abbrev pub KeepsLatest : (old new : SpanMarks) → Type 0
KeepsLatest old new = (x : List ℕ) → latest_in new x ≡ latest_in old x

-- a start is at the place
abbrev pub IsStart : SpanMarks → List ℕ → Type 0
IsStart m place = IsSome (get key_cmp m.starts place)

-- a place that is lent, where it is
abbrev pub lent : Option (Bor (List ℕ)) → Option (List ℕ)
lent hi = option_map (λ (place : Bor (List ℕ)). place.now) hi

-- up to a place, that excluded, or without an end
abbrev pub end_at : Option (List ℕ) → Bound (List ℕ)
end_at None = Unbounded
end_at (Some hi) = Excluded hi

-- a start is at the end of a span, where it has one
abbrev pub IsEnd : SpanMarks → Option (List ℕ) → Type 0
IsEnd m None = Unit {0}
IsEnd m (Some hi) = IsStart m hi

-- the key is at or above a place, and below another where that is given
abbrev pub is_between : List ℕ → Option (List ℕ) → List ℕ → Bool
is_between lo hi x = reaches x lo && below_high hi x

-- there may be a place between the two
abbrev pub RunsForward : List ℕ → Option (List ℕ) → Type 0
RunsForward lo None = Unit {0}
RunsForward lo (Some hi) = key_cmp lo hi ≡ Less

-- the starts between the two, each with its latest reader
abbrev pub starts_in : List ℕ → Option (List ℕ) → List (List ℕ × ℕ) → List (List ℕ × ℕ)
starts_in lo hi es = entries_between key_cmp (Included lo) (end_at hi) es

-- of those that pass the test the latest reader has risen to ts
abbrev pub raised : (List ℕ → Bool) → ℕ → List (List ℕ × ℕ) → List (List ℕ × ℕ)
raised p ts es = map (λ e. (e.0, cond (p e.0) (max e.1 ts) e.1)) es
