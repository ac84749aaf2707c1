-- The rows that a walk over the transactions adds up are those of the definitions.
use Rattle.plain_database.proofs.Common.{AllAllowed, AllByRecursion, Effect, Equal, Excluded, Included, Less, MAX, RisingKeys, Row, Span, Unbounded, all_within, append-nil, by_test, common_steps, entries_between, filter, in_span, is_at, is_committed, is_eq, is_eq-slice_cmp, key_cmp, key_itself, key_lt, keys_of, length-append, length-take, lookup, nat_cmp, nat_tests, range_contains, stream_of, take_all, write_of, write_set, Commits, After, and-true}
use Rattle.std.proofs.Common.{◌≡◌, ℕ, zero, suc, ◌<◌, ◌≤◌, ◌-◌, Bool, true, false, cond, ◌&&◌, List, [], ◌∷◌, ◌++◌, map, length, Option, Some, None, refl, sym, ◌∙◌, ap, subst, inl, inr, append_assoc, arith}
use Rattle.std.proofs.lemmas.List.Elements.{filter_agree}
use Rattle.std.specs.List.{flat_map}
use Rattle.std.specs.List.Sorted.{IsStrictlySortedBy}
use Rattle.std.specs.Prelude.{nat_le, nat_lt}
use Rattle.spans.proofs.Keyed.{IsIn}
use Rattle.spans.proofs.KeyOrder.{turned}
use Rattle.spans.proofs.Lists.{take_both}
use Rattle.spans.proofs.Sets.{is_found}
use Rattle.spans.proofs.Streaming.{stream_none}
use Rattle.spans.proofs.WriteSets.{write_set_rises}
use Rattle.spans.specs.Answer.{is_timestamp}
use Rattle.spans.specs.Streams.{rows_of, written_value}
use Rattle.spans.specs.declared.state.State.TheVariants.{Committed}
use Rattle.plain_database.specs.declared.versions.begun.Begun.{Begun}
use Rattle.plain_database.specs.Replies.{beside, filled, write_rows}
use Rattle.plain_database.specs.Table.{AllBegun, begun_at, committed_at, in_begun, is_committed_state, keys_in, write_in}
use Rattle.plain_database.specs.VersionsTied.{Held, VersionsTied}

-- ---- rows that fill up

-- what is added twice
pub filled_both : (m : ℕ) (rs xs ys : List Row) → filled m (filled m rs xs) ys ≡ filled m rs (xs ++ ys)
filled_both m rs xs ys = grind (arith, append_assoc {A = Row}, length-append {A = Row}, length-take {A = Row}, take_both (m - length rs) xs ys)

-- one more row, where there is room
pub filled_one : (m : ℕ) (rs xs : List Row) (r : Row) → length rs < m → filled m (rs ++ r ∷ []) xs ≡ filled m rs (r ∷ xs)
filled_one m rs xs r room = ap (λ l. filled m (rs ++ l) xs) (sym (take_all (m - length rs) (r ∷ []) (omega arith))) ∙ filled_both m rs (r ∷ []) xs

-- ---- the rows of one transaction

-- rising writes, as rows of their keys
writes_are : (q : List ℕ → Bool) (span : Span) (t : ℕ) (f : List ℕ → Option After) (ws : List (List ℕ × After)) → RisingKeys (keys_of ws) → ((x : List ℕ) → IsIn x (keys_of ws) → f x ≡ lookup (is_at (key_cmp x)) ws)
    → write_rows span t (filter (λ (w : List ℕ × After). q w.0) ws) ≡ filter (λ (r : Row). q r.key) (map (λ x. record { ts = t; key = x; after = written_value (f x) }) (filter (in_span span) (keys_of ws)))
writes_are q span t f [] rising is = refl
writes_are q span t f (w ∷ ws) rising is =
    let found : f w.0 ≡ Some w.1 = is w.0 (inl refl) ∙ ap (λ b. cond b (Some w.1) (lookup (is_at (key_cmp w.0)) ws)) (is_eq-slice_cmp w.0 w.0 ∙ key_itself w.0) in
    let more = writes_are q span t f ws rising.1 (λ x i. is x (inr i) ∙ ap (λ o. cond (is_eq o) (Some w.1) (lookup (is_at (key_cmp x)) ws)) (turned x w.0 Less (rising.0 x i))) in
    grind (arith, common_steps)

-- the writes above the key; none where there is no key
abbrev writes_past : Option (List ℕ) → List (List ℕ × After) → List (List ℕ × After)
writes_past None ws = []
writes_past (Some key) ws = entries_between key_cmp (Excluded key) Unbounded ws

-- the writes of t behind a place, where that is at or below it
abbrev pub writes_behind : ℕ → Option (List ℕ) → ℕ → List (List ℕ × After) → List (List ℕ × After)
writes_behind ts key t ws = cond (nat_lt ts t) (entries_between key_cmp Unbounded Unbounded ws) (writes_past key ws)

-- the rows of those of a transaction, where it is committed
abbrev pub rows_behind : Span → ℕ → Option (List ℕ) → ℕ × Begun → List Row
rows_behind span ts key e = cond (is_timestamp e.0 && is_committed_state e.1.state) (write_rows span e.0 (writes_behind ts key e.0 e.1.writes)) []

-- the same of rows
abbrev pub past_of : Option (List ℕ) → List Row → List Row
past_of None rows = []
past_of (Some key) rows = filter (λ (r : Row). key_lt key r.key) rows

-- the rows of t behind a place, where that is at or below it, by the definitions
abbrev pub behind_of : List Effect → Span → ℕ → Option (List ℕ) → ℕ → List Row
behind_of p span ts key t = cond (is_committed p t) (cond (nat_lt ts t) (rows_of p span t) (past_of key (rows_of p span t))) []

-- the table says the same of t
one_is : (h : Held) (p : List Effect) → VersionsTied h p → (span : Span) (ts : ℕ) (key : Option (List ℕ)) (t : ℕ) → is_timestamp t ≡ true → in_begun [] (λ b. rows_behind span ts key (t, b)) (begun_at h.table t) ≡ behind_of p span ts key t
one_is h p tied span ts key t fits = by_begun (begun_at h.table t) (tied.committed t) (tied.keys t) (tied.writes t)
  where
    by_begun : (o : Option Begun) → committed_at o ≡ is_committed p t → keys_in o ≡ write_set p t → ((x : List ℕ) → write_in o x ≡ write_of p t x) → in_begun [] (λ b. rows_behind span ts key (t, b)) o ≡ behind_of p span ts key t
    by_begun None committed keys writes = rw (← committed) refl
    by_begun (Some b) committed keys writes =
        let all = those (range_contains key_cmp Unbounded Unbounded) ∙ all_within (λ _ _. Equal) (rows_of p span t) in
        let some = by_key key in
        grind (arith, common_steps)
      where
        those : (q : List ℕ → Bool) → write_rows span t (filter (λ (w : List ℕ × After). q w.0) b.writes) ≡ filter (λ (r : Row). q r.key) (rows_of p span t)
        those q = writes_are q span t (write_of p t) b.writes (subst RisingKeys (sym keys) (write_set_rises p t)) (λ x i. sym (writes x))
            ∙ ap (λ ks. filter (λ (r : Row). q r.key) (map (λ x. record { ts = t; key = x; after = written_value (write_of p t x) }) (filter (in_span span) ks))) keys

        by_key : (k : Option (List ℕ)) → write_rows span t (writes_past k b.writes) ≡ past_of k (rows_of p span t)
        by_key None = refl
        by_key (Some x) = those (range_contains key_cmp (Excluded x) Unbounded) ∙ filter_agree _ (λ (r : Row). key_lt x r.key) (λ r. and-true (key_lt x r.key)) (rows_of p span t)

-- ---- one transaction after the other

-- none is at or below n where all are above t
none_between : (ts n t : ℕ) (es : AllBegun) → AllByRecursion (λ k. nat_cmp t k ≡ Less) (keys_of es) → n ≤ t → entries_between nat_cmp (Included ts) (Included n) es ≡ []
none_between ts n t [] all low = refl
none_between ts n t (e ∷ es) all low = grind (arith, common_steps, nat_tests, none_between ts n t es)

-- through one timestamp more, the one of it comes last
between_more : (g : ℕ × Begun → List Row) (ts n : ℕ) (es : AllBegun) → IsStrictlySortedBy nat_cmp (keys_of es)
    → flat_map g (entries_between nat_cmp (Included ts) (Included (suc n)) es) ≡ flat_map g (entries_between nat_cmp (Included ts) (Included n) es) ++ cond (nat_le ts (suc n)) (in_begun [] (λ b. g (suc n, b)) (begun_at es (suc n))) []
unfolding IsStrictlySortedBy
between_more g ts n [] sorted = grind (arith, common_steps)
between_more g ts n (e ∷ es) sorted = by_test (is_at (nat_cmp (suc n)) e.0)
    (λ here.
    let at : e.0 ≡ suc n = is_found (suc n) e.0 here in
    rw (here, none_between ts n e.0 es sorted.0 (omega arith), none_between ts (suc n) e.0 es sorted.0 (omega arith))
    (grind (arith, common_steps, nat_tests, append-nil {A = Row})))
    (λ there. grind (arith, common_steps, nat_tests, append_assoc {A = Row}, between_more g ts n es sorted.1))

-- a walk that took in one more
pub walks_on : (m : ℕ) (span : Span) (ts : ℕ) (key : Option (List ℕ)) (t : ℕ) (b : Begun) (es fs : AllBegun) (rs rs' : List Row) (ws : List (List ℕ × After)) → es ≡ (t, b) ∷ fs → is_timestamp t ≡ true → b.state ≡ Committed
    → ws ≡ writes_behind ts key t b.writes → rs' ≡ filled m rs (write_rows span t ws) → filled m rs' (flat_map (rows_behind span ts key) fs) ≡ filled m rs (flat_map (rows_behind span ts key) es)
walks_on m span ts key t b es fs rs rs' ws is fits done those added = grind (arith, common_steps, filled_both)

-- nothing is behind a place that is above n
pub nothing_behind : (p : List Effect) (span : Span) (ts : ℕ) (key : Option (List ℕ)) (n : ℕ) → n < ts → beside p span ts key n ++ stream_of p span ts n ≡ []
nothing_behind p span ts None n low = stream_none p span ts n (omega arith)
nothing_behind p span ts (Some key) n low = let off : nat_le ts n ≡ false = grind (arith, nat_tests) in rw off (stream_none p span ts n (omega arith))

-- what is behind a place through one timestamp more
pub grows : (p : List Effect) (span : Span) (ts : ℕ) (key : Option (List ℕ)) (n : ℕ)
    → (beside p span ts key n ++ stream_of p span ts n) ++ cond (nat_le ts (suc n)) (behind_of p span ts key (suc n)) [] ≡ beside p span ts key (suc n) ++ stream_of p span ts (suc n)
grows p span ts None n = ap (λ l. stream_of p span ts n ++ l) (grind (arith, common_steps, nat_tests))
grows p span ts (Some key) n = grind (arith, common_steps, nat_tests, append_assoc {A = Row}, append-nil {A = Row}, nothing_behind, stream_none)

-- no transaction is at 0
none_at_zero : (p : List Effect) → AllAllowed p → is_committed p 0 ≡ false
none_at_zero [] all = refl
none_at_zero (Commits k ∷ p) all = grind (arith, common_steps, nat_tests, none_at_zero p all.1)
none_at_zero (_ ∷ p) all = none_at_zero p all.1

-- all that the table has from a place through n is what is behind the place by the definitions
pub walk_is : (h : Held) (p : List Effect) → AllAllowed p → VersionsTied h p → (span : Span) (ts : ℕ) (key : Option (List ℕ)) → IsStrictlySortedBy nat_cmp (keys_of h.table) → (n : ℕ) → n ≤ MAX
    → flat_map (rows_behind span ts key) (entries_between nat_cmp (Included ts) (Included n) h.table) ≡ beside p span ts key n ++ stream_of p span ts n
walk_is h p all tied span ts key sorted zero low = first h.table ∙ sym (by_key key)
  where
    first : (es : AllBegun) → flat_map (rows_behind span ts key) (entries_between nat_cmp (Included ts) (Included 0) es) ≡ []
    first [] = refl
    first (e ∷ es) = grind (arith, common_steps, nat_tests, first es)

    by_key : (k : Option (List ℕ)) → beside p span ts k 0 ++ [] ≡ []
    by_key None = refl
    by_key (Some x) = grind (arith, common_steps, nat_tests, none_at_zero p all)
walk_is h p all tied span ts key sorted (suc n) low =
    let fits : is_timestamp (suc n) ≡ true = grind (arith, nat_tests) in
    between_more (rows_behind span ts key) ts n h.table sorted ∙ rw (walk_is h p all tied span ts key sorted n (omega arith), one_is h p tied span ts key (suc n) fits) (grows p span ts key n)
