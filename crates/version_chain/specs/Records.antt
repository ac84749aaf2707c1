-- What the records of all keys are seen as, and what their own calls say of them.
use Rattle.std.specs.Prelude.{ℕ, List, [], ◌∷◌, true, false, length, ◌≡◌, ◌<◌, ◌≤◌, ◌⊎◌, bytes_eq, slice_index_or, if◌then◌else◌, is_none, Some}
use Rattle.version_chain.specs.Prelude.{IsOwn, Numbered, Span, has_room, in_span, is_kept, is_reader, latest_in, number_in, readers_of}
use Rattle.version_chain.specs.declared.chain.Version.{Version}
use Rattle.version_chain.specs.declared.record.Record.{Record}
use Rattle.version_chain.specs.declared.chains.Chains.{Chains}
use Rattle.version_chain.specs.declared.chains.Placed.{Placed}
use Rattle.version_chain.specs.declared.chains.Placed.TheVariants.{Crossed, New, Over}
use Rattle.version_chain.specs.Versions.{afters_of}
use Rattle.version_chain.specs.Stores.{Stored, chain_of, found_in, marked_in, HaveSameChains, IsChangedAt, IsCrossedIn, IsNotedOn}
use Rattle.version_chain.specs.ByNumber.{chains_in, readers_in, stored}

abbrev pub stored_of : Chains → Stored
stored_of c = stored c.keys c.records.items c.spans c.forgotten

-- r is the record of x
pub record IsRecordOf (c : Chains) (x : List ℕ) (r : Record) : Type 0 where
  pub chain : chain_of (stored_of c) x ≡ r.chain
  pub readers : (j : ℕ) → marked_in (stored_of c) x j ≡ is_kept c.forgotten (readers_of r.readers) j

-- x has none, and so no version, and no reader but the latest of the spans
pub record HasNoRecord (c : Chains) (x : List ℕ) : Type 0 where
  pub chain : chain_of (stored_of c) x ≡ []
  pub readers : (j : ℕ) → marked_in (stored_of c) x j ≡ is_kept c.forgotten (latest_in c.spans x ∷ []) j

-- n is the number of x, and of no other key
pub record IsNumberOf (ns : Numbered) (x : List ℕ) (n : ℕ) : Type 0 where
  pub number : number_in ns x ≡ Some n
  pub own : IsOwn ns x n

-- the versions of x became vs, and any other key has those that it had
abbrev pub IsPut : Stored → Stored → List ℕ → List Version → Type 0
IsPut s s' x vs = (y : List ℕ) → chain_of s' y ≡ (if bytes_eq x y then vs else chain_of s y)

-- a write of v was crossed by a reader and left all chains, or its version came, or took the place of one
abbrev pub IsPlacedIn : Stored → Stored → List ℕ → Version → Placed → Type 0
IsPlacedIn s s' x v Crossed = IsCrossedIn s x v.ts × HaveSameChains s s'
IsPlacedIn s s' x v New = (IsCrossedIn s x v.ts → ⊥) × (is_none (found_in s x v.ts) ≡ true) × IsChangedAt s s' x v.ts (λ _. Some v)
IsPlacedIn s s' x v Over = (IsCrossedIn s x v.ts → ⊥) × (is_none (found_in s x v.ts) ≡ false) × IsChangedAt s s' x v.ts (λ _. Some v)

-- ---- records that go

-- number n is that of a key without a version, of which each reader is forgotten
pub record MayGo (c : Chains) (n : ℕ) : Type 0 where
  pub key : List ℕ
  pub number : number_in c.keys key ≡ Some n
  pub own : IsOwn c.keys key n
  pub latest : latest_in c.spans key ≤ c.forgotten
  pub chain : slice_index_or (chains_in c.records.items) n [] ≡ []
  pub readers : (j : ℕ) → is_kept c.forgotten (slice_index_or (readers_in c.records.items) n []) j ≡ false

-- no record has another reader, and the spans and what is forgotten are as they were
pub record IsSweptFrom (c c' : Chains) : Type 0 where
  pub readers : (m j : ℕ) → is_reader (slice_index_or (readers_in c'.records.items) m []) j ≡ true → is_reader (slice_index_or (readers_in c.records.items) m []) j ≡ true
  pub count : length c'.records.items ≡ length c.records.items
  pub spans : (x : List ℕ) → latest_in c'.spans x ≡ latest_in c.spans x
  pub forgotten : c'.forgotten ≡ c.forgotten

-- none is left that is forgotten
pub record AreSwept (c : Chains) : Type 0 where
  pub records : (m j : ℕ) → is_reader (slice_index_or (readers_in c.records.items) m []) j ≡ true → c.forgotten < j
  pub spans : (x : List ℕ) → (latest_in c.spans x ≡ 0) ⊎ (c.forgotten < latest_in c.spans x)

-- ---- reads of a span

-- each record of the span has room for one more reader
abbrev pub HaveRoom : Numbered → List Record → Span → Type 0
HaveRoom ns rs span = (x : List ℕ) (n : ℕ) (d : Record) → number_in ns x ≡ Some n → in_span span x ≡ true → has_room (slice_index_or rs n d).readers

-- the read by t is noted in each record of the span, and in no other
pub record AreNoted (ns : Numbered) (rs rs' : List Record) (span : Span) (t forgotten : ℕ) : Type 0 where
  pub chains : chains_in rs' ≡ chains_in rs
  pub noted : (x : List ℕ) (n : ℕ) → number_in ns x ≡ Some n → in_span span x ≡ true
      → IsNotedOn (afters_of (slice_index_or (chains_in rs) n [])) (is_kept forgotten (slice_index_or (readers_in rs) n [])) (is_kept forgotten (slice_index_or (readers_in rs') n [])) t
  pub others : (x : List ℕ) (n : ℕ) → number_in ns x ≡ Some n → in_span span x ≡ false → slice_index_or (readers_in rs') n [] ≡ slice_index_or (readers_in rs) n []
