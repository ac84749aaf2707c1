-- What a store is seen as after one record changed, one came, and one went.
use Rattle.version_chain.proofs.Common.{IsCrossed, IsNumberedAt, IsOwn, IsPiece, Numbered, SpanMarks, both_ways, by_test, common_steps, is_kept, is_reader, key_itself, latest_in, length-set, nat_tests, number_in, readers_of, same_key}
use Rattle.std.proofs.Common.{rules, ◌≡◌, ℕ, ◌<◌, ◌≤◌, ◌==◌, Bool, true, false, cond, ◌&&◌, List, [], ◌∷◌, length, Option, Some, None, refl, sym, ◌∙◌, ap, subst, arith, nat_lt, max}
use Rattle.std.specs.Prelude.{◌↔◌, IsTrue, bytes_eq, is_none, slice_index_or, slice_set}
use Rattle.version_chain.specs.declared.record.Record.{Record}
use Rattle.version_chain.specs.declared.chain.Version.{Version}
use Rattle.version_chain.specs.Versions.{afters_of, version_of}
use Rattle.version_chain.specs.Stores.{Stored, chain_of, found_in, marked_in, HaveSameChains, HaveSameMarks, IsChangedAt, IsCrossedIn, IsMarkedAt}
use Rattle.version_chain.proofs.Changes.{IsEdited, changed}
use Rattle.version_chain.proofs.Gaps.{crossed_like, lone_crosses, none_crosses, piece_alike}
use Rattle.version_chain.specs.ByNumber.{AreLow, IsPlaced, at_number, chains_in, readers_in, stored}
use Rattle.version_chain.specs.Records.{IsPut}
use Rattle.version_chain.proofs.ByNumber.{chain_at, chain_is, gone_by_key, marked_is, numbered_still, placed, put_by_key, readers_at}

-- ---- a key's record

-- x has the number n, and r stands there
pub record IsHere (ns : Numbered) (rs : List Record) (x : List ℕ) (n : ℕ) (r : Record) : Type 0 where
  pub number : number_in ns x ≡ Some n
  pub own : IsOwn ns x n
  pub low : n < length rs
  pub value : r ≡ slice_index_or rs n r

module _ (ns : Numbered) (rs : List Record) (spans : SpanMarks) (f : ℕ) (x : List ℕ) where
  abbrev s : Stored
  s = stored ns rs spans f

  pub chain_here : (n : ℕ) (r : Record) → IsHere ns rs x n r → chain_of s x ≡ r.chain
  chain_here n r h = chain_is ns rs spans f x ∙ ap (at_number (chains_in rs) []) h.number ∙ chain_at rs n r h.low h.value

  pub marks_here : (n : ℕ) (r : Record) → IsHere ns rs x n r → (j : ℕ) → marked_in s x j ≡ is_kept f (readers_of r.readers) j
  marks_here n r h j = marked_is ns rs spans f x j ∙ ap (λ o. is_kept f (at_number (readers_in rs) (latest_in spans x ∷ []) o) j) h.number ∙ ap (λ qs. is_kept f qs j) (readers_at rs n r h.low h.value)

  pub chain_nowhere : number_in ns x ≡ None → chain_of s x ≡ []
  chain_nowhere none = chain_is ns rs spans f x ∙ ap (at_number (chains_in rs) []) none

  pub marks_nowhere : number_in ns x ≡ None → (j : ℕ) → marked_in s x j ≡ is_kept f (latest_in spans x ∷ []) j
  marks_nowhere none j = marked_is ns rs spans f x j ∙ ap (λ o. is_kept f (at_number (readers_in rs) (latest_in spans x ∷ []) o) j) none

  -- what its record tells of a write of x
  pub crossed_here : (n : ℕ) (r : Record) (t : ℕ) (told : Bool) → IsHere ns rs x n r → IsTrue told ↔ IsCrossed (is_kept f (readers_of r.readers)) (afters_of r.chain) t → IsTrue told ↔ IsCrossedIn s x t
  crossed_here n r t told h is = grind (arith, common_steps, crossed_like, chain_here, marks_here)

  crossed_nowhere : (t latest : ℕ) → number_in ns x ≡ None → latest ≡ latest_in spans x → max t f < latest → IsCrossedIn s x t
  crossed_nowhere t latest none is over = (crossed_like s x t f [] (latest_in spans x ∷ []) (chain_nowhere none) (marks_nowhere none)).0 (lone_crosses (latest_in spans x) t f (subst (λ l. max t f < l) is over))

  free_nowhere : (t latest : ℕ) → number_in ns x ≡ None → latest ≡ latest_in spans x → latest ≤ max t f → IsCrossedIn s x t → ⊥
  free_nowhere t latest none is low c = none_crosses (latest_in spans x) t f (subst (λ l. l ≤ max t f) is low) ((crossed_like s x t f [] (latest_in spans x ∷ []) (chain_nowhere none) (marks_nowhere none)).1 c)

  -- and what the spans tell, where it has none
  pub told_nowhere : (t latest most : ℕ) → number_in ns x ≡ None → latest ≡ latest_in spans x → most ≡ max t f → IsTrue (nat_lt most latest) ↔ IsCrossedIn s x t
  told_nowhere t latest most none is at = by_test (nat_lt most latest)
      (λ on. (λ _. crossed_nowhere t latest none is (let over : most < latest = grind (arith, nat_tests) in omega arith), λ _. on))
      (λ off. (λ on. absurd (both_ways _ off on), λ crossed. absurd (free_nowhere t latest none is (let low : latest ≤ most = grind (arith, nat_tests) in omega arith) crossed)))

-- ---- a record takes its place

module _ (ns ms : Numbered) (rs ss : List Record) (spans : SpanMarks) (f : ℕ) (x : List ℕ) (n : ℕ) (r : Record) where
  abbrev old : Stored
  old = stored ns rs spans f

  abbrev new : Stored
  new = stored ms ss spans f

  pub put_chain : IsNumberedAt ns ms x (Some n) → IsOwn ms x n → IsPlaced rs ss n r → IsPut old new x r.chain
  put_chain numbered own put y =
      chain_is ms ss spans f y ∙ put_by_key ns ms (chains_in rs) (chains_in ss) x n r.chain numbered own put.chains y [] ∙ ap (cond (bytes_eq x y) r.chain) (sym (chain_is ns rs spans f y))

  kept-cond : (b : Bool) (us vs : List ℕ) (j : ℕ) → is_kept f (cond b us vs) j ≡ cond b (is_kept f us j) (is_kept f vs j)
  kept-cond b us vs j = grind (arith, common_steps)

  pub put_marks : IsNumberedAt ns ms x (Some n) → IsOwn ms x n → IsPlaced rs ss n r → (y : List ℕ) (j : ℕ) → marked_in new y j ≡ cond (bytes_eq x y) (is_kept f (readers_of r.readers) j) (marked_in old y j)
  put_marks numbered own put y j =
      marked_is ms ss spans f y j ∙ ap (λ qs. is_kept f qs j) (put_by_key ns ms (readers_in rs) (readers_in ss) x n (readers_of r.readers) numbered own put.readers y (latest_in spans y ∷ []))
      ∙ kept-cond (bytes_eq x y) (readers_of r.readers) (at_number (readers_in rs) (latest_in spans y ∷ []) (number_in ns y)) j
      ∙ ap (cond (bytes_eq x y) (is_kept f (readers_of r.readers) j)) (sym (marked_is ns rs spans f y j))

-- where x has the readers that it had
pub marks_alike : (s s' : Stored) (x : List ℕ) (m : ℕ → Bool) → ((y : List ℕ) (j : ℕ) → marked_in s' y j ≡ cond (bytes_eq x y) (m j) (marked_in s y j)) → ((j : ℕ) → m j ≡ marked_in s x j) → HaveSameMarks s s'
marks_alike s s' x m put same y j = search (by_test, same_key, rules, arith)

-- a record stays where it is
module _ (ns : Numbered) (rs : List Record) (spans : SpanMarks) (f : ℕ) (x : List ℕ) (n : ℕ) (r q : Record) (h : IsHere ns rs x n r) where
  pub changed_chain : IsPut (stored ns rs spans f) (stored ns (slice_set rs n q) spans f) x q.chain
  changed_chain = put_chain ns ns rs (slice_set rs n q) spans f x n q (numbered_still ns x n h.number) h.own (placed rs n q h.low)

  pub changed_marks : (y : List ℕ) (j : ℕ) → marked_in (stored ns (slice_set rs n q) spans f) y j ≡ cond (bytes_eq x y) (is_kept f (readers_of q.readers) j) (marked_in (stored ns rs spans f) y j)
  changed_marks = put_marks ns ns rs (slice_set rs n q) spans f x n q (numbered_still ns x n h.number) h.own (placed rs n q h.low)

  pub kept_marks : readers_of q.readers ≡ readers_of r.readers → HaveSameMarks (stored ns rs spans f) (stored ns (slice_set rs n q) spans f)
  kept_marks same = marks_alike (stored ns rs spans f) (stored ns (slice_set rs n q) spans f) x (is_kept f (readers_of q.readers)) changed_marks
      (λ j. ap (λ qs. is_kept f qs j) same ∙ sym (marks_here ns rs spans f x n r h j))

  pub kept_chains : q.chain ≡ r.chain → HaveSameChains (stored ns rs spans f) (stored ns (slice_set rs n q) spans f)
  kept_chains same y = changed_chain y ∙ by_test (bytes_eq x y)
      (λ here. rw here (same ∙ sym (chain_here ns rs spans f x n r h) ∙ ap (chain_of (stored ns rs spans f)) (same_key x y here)))
      (λ there. rw there refl)

  -- what became of x's versions became of the store
  pub edited_here : (t : ℕ) (g : Option Version → Option Version) → IsEdited r.chain q.chain t g → IsChangedAt (stored ns rs spans f) (stored ns (slice_set rs n q) spans f) x t g
  edited_here t g edit = changed (stored ns rs spans f) (stored ns (slice_set rs n q) spans f) x q.chain t g changed_chain (subst (λ us. IsEdited us q.chain t g) (sym (chain_here ns rs spans f x n r h)) edit)

  -- a version was written, where none stood or over one
  pub written_here : (v w : Version) (told b : Bool) → v ≡ w → told ≡ is_none (version_of r.chain v.ts) → told ≡ b → IsEdited r.chain q.chain v.ts (λ _. Some v)
      → (is_none (found_in (stored ns rs spans f) x w.ts) ≡ b) × IsChangedAt (stored ns rs spans f) (stored ns (slice_set rs n q) spans f) x w.ts (λ _. Some w)
  written_here v w told b same found is edit = (
    ap (λ vs. is_none (version_of vs w.ts)) (chain_here ns rs spans f x n r h) ∙ ap (λ (u : Version). is_none (version_of r.chain u.ts)) (sym same) ∙ sym found ∙ is,
    subst (λ (u : Version). IsChangedAt (stored ns rs spans f) (stored ns (slice_set rs n q) spans f) x u.ts (λ _. Some u)) same (edited_here v.ts (λ _. Some v) edit),
  )

-- what was told of a write
pub not_crossed : (s : Stored) (x : List ℕ) (t u : ℕ) (told : Bool) → u ≡ t → IsTrue told ↔ IsCrossedIn s x u → told ≡ false → IsCrossedIn s x t → ⊥
not_crossed s x t u told at is off crossed = both_ways _ off (is.1 (subst (IsCrossedIn s x) (sym at) crossed))

pub low_set : (ns : Numbered) (rs : List Record) (n : ℕ) (q : Record) → AreLow ns (length rs) → AreLow ns (length (slice_set rs n q))
low_set ns rs n q low x m is = (let l : m < length rs = low x m is in omega (arith, length-set rs n q))

-- ---- the latest of the spans

-- a lone reader that is forgotten is none
pub none_kept : (f latest j : ℕ) → latest ≤ f → is_kept f (latest ∷ []) j ≡ false
none_kept f latest j low = grind (arith, nat_tests)

-- ---- a record goes

module _ (ns ms : Numbered) (rs : List Record) (spans : SpanMarks) (f : ℕ) (x : List ℕ) (n : ℕ) (q : Record) where
  abbrev left : Stored
  left = stored ms (slice_set rs n q) spans f

  pub gone_chains : IsNumberedAt ns ms x None → number_in ns x ≡ Some n → IsOwn ns x n → n < length rs → slice_index_or (chains_in rs) n [] ≡ [] → HaveSameChains (stored ns rs spans f) left
  gone_chains numbered is own low empty y =
      chain_is ms (slice_set rs n q) spans f y ∙ gone_by_key ns ms (chains_in rs) (chains_in (slice_set rs n q)) x n q.chain numbered own (placed rs n q low).chains y []
      ∙ by_test (bytes_eq x y)
      (λ here. rw here (sym (ap (at_number (chains_in rs) []) (ap (number_in ns) (sym (same_key x y here)) ∙ is) ∙ empty)))
      (λ there. rw there refl)
      ∙ sym (chain_is ns rs spans f y)

  pub gone_marks : IsNumberedAt ns ms x None → number_in ns x ≡ Some n → IsOwn ns x n → n < length rs → latest_in spans x ≤ f → ((j : ℕ) → is_kept f (slice_index_or (readers_in rs) n []) j ≡ false) → HaveSameMarks (stored ns rs spans f) left
  gone_marks numbered is own low latest none y j =
      marked_is ms (slice_set rs n q) spans f y j ∙ ap (λ qs. is_kept f qs j) (gone_by_key ns ms (readers_in rs) (readers_in (slice_set rs n q)) x n (readers_of q.readers) numbered own (placed rs n q low).readers y (latest_in spans y ∷ []))
      ∙ by_test (bytes_eq x y)
      (λ here. rw here (none_kept f (latest_in spans y) j (subst (λ z. latest_in spans z ≤ f) (same_key x y here) latest)
      ∙ sym (ap (λ o. is_kept f (at_number (readers_in rs) (latest_in spans y ∷ []) o) j) (ap (number_in ns) (sym (same_key x y here)) ∙ is) ∙ none j)))
      (λ there. rw there refl)
      ∙ sym (marked_is ns rs spans f y j)

-- where a record takes another's place that has no reader, no record has another reader
pub fewer_readers : (rs : List Record) (n : ℕ) (q : Record) → n < length rs → readers_of q.readers ≡ [] → (m j : ℕ) → is_reader (slice_index_or (readers_in (slice_set rs n q)) m []) j ≡ true → is_reader (slice_index_or (readers_in rs) m []) j ≡ true
fewer_readers rs n q low empty m j is = grind (arith, common_steps, by_test, placed)

-- ---- the first reader of a record is the latest of the spans

pub first_reader : (f latest : ℕ) (qs : List ℕ) → ((j : ℕ) → is_reader qs j ≡ (nat_lt 0 j && (j == latest))) → (j : ℕ) → is_kept f qs j ≡ is_kept f (latest ∷ []) j
first_reader f latest qs is j = let at = is j in grind (arith, nat_tests)

-- ---- marks

-- a piece of x's readers is one of x's marks
pub marked_at : (s : Stored) (ns : Numbered) (rs : List Record) (spans : SpanMarks) (f : ℕ) (x : List ℕ) (n : ℕ) (r q : Record) (t above high : ℕ) → IsHere ns rs x n r → HaveSameMarks s (stored ns rs spans f)
    → IsPiece (is_kept f (readers_of r.readers)) (is_kept f (readers_of q.readers)) t above high → IsMarkedAt s (stored ns (slice_set rs n q) spans f) x t above high
marked_at s ns rs spans f x n r q t above high h same piece = let after = changed_marks ns rs spans f x n r q h in let before = marks_here ns rs spans f x n r h in record { piece = grind (arith, common_steps, piece_alike, key_itself); others = λ y off j. grind (arith, common_steps) }
