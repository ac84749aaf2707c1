-- Records in a list, by the numbers of their keys.
use Rattle.std.specs.Prelude.{ℕ, List, [], ◌∷◌, map, ◌≡◌, ◌<◌, ◌≤◌, ◌==◌, length, slice_index_or, if◌then◌else◌, Option, Some, None}
use Rattle.version_chain.specs.Prelude.{Numbered, number_in, readers_of}
use Rattle.read_marks.specs.declared.span_marks.SpanMarks.{SpanMarks}
use Rattle.version_chain.specs.declared.chain.Version.{Version}
use Rattle.version_chain.specs.declared.record.Record.{Record}
use Rattle.version_chain.specs.Stores.{Stored}

-- by number, the versions and the readers of the records
abbrev pub chains_in : List Record → List (List Version)
chains_in rs = map (λ (r : Record). r.chain) rs

abbrev pub readers_in : List Record → List (List ℕ)
readers_in rs = map (λ (r : Record). readers_of r.readers) rs

-- each key with what the list has at its number
abbrev pub entries_of : {A : Type 0} → Numbered → List (List A) → List (List ℕ × List A)
entries_of [] xs = []
entries_of (e ∷ ns) xs = (e.0, slice_index_or xs e.1 []) ∷ entries_of ns xs

-- what the list has at the number, if there is one, or else `none`
abbrev pub at_number : {A : Type 0} → List (List A) → List A → Option ℕ → List A
at_number xs none None = none
at_number xs none (Some n) = slice_index_or xs n []

-- what records, spans and the bound of what is forgotten are seen as
abbrev pub stored : Numbered → List Record → SpanMarks → (forgotten : ℕ) → Stored
stored ns rs spans forgotten = record { entries = entries_of ns (chains_in rs); readers = entries_of ns (readers_in rs); starts = spans.starts.entries; forgotten = forgotten }

-- each key's number is that of a record
abbrev pub AreLow : Numbered → ℕ → Type 0
AreLow ns most = (x : List ℕ) (n : ℕ) → number_in ns x ≡ Some n → n < most

-- number n has v, and any other has what it had
abbrev pub IsPutAt : {A : Type 0} → List (List A) → List (List A) → ℕ → List A → Type 0
IsPutAt cs ds n vs = (m : ℕ) → slice_index_or ds m [] ≡ (if n == m then vs else slice_index_or cs m [])

-- number n has the record r, and any other has what it had
pub record IsPlaced (rs ss : List Record) (n : ℕ) (r : Record) : Type 0 where
  pub chains : IsPutAt (chains_in rs) (chains_in ss) n r.chain
  pub readers : IsPutAt (readers_in rs) (readers_in ss) n (readers_of r.readers)
  pub low : n < length ss
  pub more : length rs ≤ length ss
