-- What a sweep leaves: readers that are forgotten go, and no key's marks change.
use Rattle.version_chain.proofs.Common.{Numbered, SpanMarks, by_test, common_steps, filter, is_kept, is_reader, latest_in, map-set_same, nat_tests, number_in, readers_of}
use Rattle.std.proofs.Common.{◌≡◌, ℕ, ◌<◌, ◌≤◌, ◌+◌, ◌==◌, Bool, true, cond, ◌&&◌, ◌⊎◌, List, [], ◌∷◌, length, Option, refl, sym, ◌∙◌, ap, arith, nat_le, nat_lt}
use Rattle.std.specs.Prelude.{slice_index_or, slice_set}
use Rattle.read_marks.proofs.Keeping.{kept_filter}
use Rattle.read_marks.proofs.Splitting.{filtered_reader}
use Rattle.version_chain.specs.declared.record.Record.{Record}
use Rattle.version_chain.specs.declared.chains.Chains.{Chains}
use Rattle.version_chain.specs.Stores.{HaveSameChains, HaveSameMarks}
use Rattle.version_chain.specs.ByNumber.{at_number, chains_in, readers_in, stored}
use Rattle.version_chain.specs.Records.{AreSwept, stored_of}
use Rattle.version_chain.proofs.ByNumber.{chain_is, marked_is, placed, readers_at}

-- ---- what leaves the marks of all keys alone

module _ (ns : Numbered) (rs ss : List Record) (spans spans' : SpanMarks) (f f' : ℕ) where
  -- readers at each number, and the latest of the spans, that count as before
  pub marks_stay : ((n j : ℕ) → is_kept f' (slice_index_or (readers_in ss) n []) j ≡ is_kept f (slice_index_or (readers_in rs) n []) j) → ((x : List ℕ) (j : ℕ) → is_kept f' (latest_in spans' x ∷ []) j ≡ is_kept f (latest_in spans x ∷ []) j)
      → HaveSameMarks (stored ns rs spans f) (stored ns ss spans' f')
  marks_stay records latest y j = rw (marked_is ns ss spans' f' y j, marked_is ns rs spans f y j) (by_number (number_in ns y))
    where
      by_number : (o : Option ℕ) → is_kept f' (at_number (readers_in ss) (latest_in spans' y ∷ []) o) j ≡ is_kept f (at_number (readers_in rs) (latest_in spans y ∷ []) o) j
      by_number o = grind (arith, common_steps, records, latest)

  pub chains_stay : chains_in ss ≡ chains_in rs → HaveSameChains (stored ns rs spans f) (stored ns ss spans' f')
  chains_stay same y = chain_is ns ss spans' f' y ∙ ap (λ cs. at_number cs [] (number_in ns y)) same ∙ sym (chain_is ns rs spans f y)

-- ---- of the spans

forgotten-latest : (f l l' : ℕ) → l' ≡ cond (nat_le l f) 0 l → (j : ℕ) → is_kept f (l' ∷ []) j ≡ is_kept f (l ∷ []) j
forgotten-latest f l l' is j = grind (arith, common_steps)

pub spans_forgotten : (ns : Numbered) (rs : List Record) (spans spans' : SpanMarks) (f : ℕ) → ((x : List ℕ) → latest_in spans' x ≡ cond (nat_le (latest_in spans x) f) 0 (latest_in spans x)) → HaveSameMarks (stored ns rs spans f) (stored ns rs spans' f)
spans_forgotten ns rs spans spans' f is = marks_stay ns rs rs spans spans' f f (λ n j. refl) (λ x. forgotten-latest f (latest_in spans x) (latest_in spans' x) (is x))

pub latest_left : (f l l' : ℕ) → l' ≡ cond (nat_le l f) 0 l → (l' ≡ 0) ⊎ (f < l')
latest_left f l l' is = grind (arith, common_steps)

-- ---- of one record

module _ (ns : Numbered) (rs : List Record) (spans : SpanMarks) (f n : ℕ) (r q : Record) (low : n < length rs) (at : r ≡ slice_index_or rs n r) (chain : q.chain ≡ r.chain) (readers : readers_of q.readers ≡ filter (nat_lt f) (readers_of r.readers)) where
  pub forgot_chains : HaveSameChains (stored ns rs spans f) (stored ns (slice_set rs n q) spans f)
  forgot_chains = chains_stay ns rs (slice_set rs n q) spans spans f f (map-set_same (λ (k : Record). k.chain) rs n q r (chain ∙ ap (λ (k : Record). k.chain) at))

  pub forgot_marks : HaveSameMarks (stored ns rs spans f) (stored ns (slice_set rs n q) spans f)
  forgot_marks = marks_stay ns rs (slice_set rs n q) spans spans f f (λ m j. ap (λ qs. is_kept f qs j) ((placed rs n q low).readers m) ∙ by_test (n == m)
      (λ same.
      let is : n ≡ m = grind (arith, nat_tests) in
      rw same (ap (λ qs. is_kept f qs j) readers ∙ kept_filter f (readers_of r.readers) j ∙ ap (λ qs. is_kept f qs j) (sym (readers_at rs n r low at)) ∙ ap (λ k. is_kept f (slice_index_or (readers_in rs) k []) j) is))
      (λ other. rw other refl)) (λ x j. refl)

  -- and so far none has a reader that is forgotten
  pub forgot_one : ((m j : ℕ) → m < n → is_reader (slice_index_or (readers_in rs) m []) j ≡ true → f < j) → (m j : ℕ) → m < n + 1 → is_reader (slice_index_or (readers_in (slice_set rs n q)) m []) j ≡ true → f < j
  forgot_one before m j under is = let there = (placed rs n q low).readers m in let less = filtered_reader f (readers_of r.readers) j in let was = before m j in grind (arith, common_steps, nat_tests)

-- ---- of all records

pub all_swept : (rs : List Record) (n f : ℕ) → length rs ≤ n → ((m j : ℕ) → m < n → is_reader (slice_index_or (readers_in rs) m []) j ≡ true → f < j) → (m j : ℕ) → is_reader (slice_index_or (readers_in rs) m []) j ≡ true → f < j
all_swept rs n f all swept m j is = grind (arith, common_steps)

-- then more may count
lowered-test : (f f' j : ℕ) (b : Bool) → f' ≤ f → (b ≡ true → f < j) → (nat_lt f' j && b) ≡ (nat_lt f j && b)
lowered-test f f' j b low above = grind (arith, common_steps)

pub lowered : (c : Chains) (f' : ℕ) → AreSwept c → f' ≤ c.forgotten → HaveSameMarks (stored_of c) (stored c.keys c.records.items c.spans f')
lowered c f' swept low = marks_stay c.keys c.records.items c.records.items c.spans c.spans c.forgotten f' (λ n j. let all = swept.records n j in grind (arith, common_steps, lowered-test)) (λ x j. grind (arith, common_steps))
