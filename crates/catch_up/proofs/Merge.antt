-- The heads of a span's keys: one is added, and the first is taken.
use Rattle.catch_up.proofs.Common.{Entry, IsIn, IsLeft, RisingKeys, Row, Span, Stored, Version, before_itself, before_trans, chain_of, common_steps, false_from_ne_true, has_versions, in_span, is_before, is_committed, is_eq-slice_cmp, keys_of, lt-ltb, ltb-true, same_key, version_of}
use Rattle.std.proofs.Common.{List, None, Option, Some, [], add-one, ap, arith, false, inl, inr, length, length-append, refl, subst, suc, sym, true, zero, ◌&&◌, ℕ, ◌+◌, ◌-◌, ◌<◌, ◌≤◌, ◌⊎◌, ◌≡◌, ◌++◌, ◌∷◌, ◌∙◌}
use Rattle.std.specs.Prelude.{IfSome, is_some, nat_lt, ◌&&◌}
use Rattle.std.specs.BTreeMap.{BTreeMap, IsOrdered, insert_entry}
use Rattle.std.specs.List.{AllByRecursion, filter}
use Rattle.std.specs.List.Sorted.{IsStrictlySortedBy}
use Rattle.std.specs.Ordering.{is_eq, match_ordering, nat_cmp, ordering_then}
use Rattle.std.specs.declared.cmp.Ordering.{Ordering}
use Rattle.std.specs.declared.cmp.Ordering.TheVariants.{Less, Equal, Greater}
use Rattle.std.proofs.lemmas.Bool.Decides.{nat_tests}
use Rattle.std.proofs.lemmas.Map.Keys.{sorted_head, sorted_tail}
use Rattle.timestamps.specs.Bytes.{key_cmp}
use Rattle.spans.specs.KeyOrder.{key_lt}
use Rattle.catch_up.specs.Rows.{AllHeads, AreBefore, AreHeads, Found, HasHead, IsDue, IsFirstDue, IsHead, IsNoneDue, Spot, spot_cmp, AreNextIn, IsLeftIn}
use Rattle.catch_up.proofs.Firsts.{key_found, AreChained, chained, passed_in}
use Rattle.catch_up.proofs.Walk.{IsNext, IsWalked, row_of, walk_begins, walk_ends, walk_full, walk_takes}

-- ---- which timestamps of a key come after a place

pub passed_beside : (ts n : ℕ) (place key : List ℕ) → key_lt place key ≡ true → 1 ≤ n → n ≡ ts → (i : ℕ) → nat_lt (n - 1) i ≡ is_before ts place i key
passed_beside ts n place key lower some same i = grind (arith, nat_tests)

pub passed_at : (ts n : ℕ) (place key : List ℕ) → key_lt place key ≡ false → n ≡ ts → (i : ℕ) → nat_lt n i ≡ is_before ts place i key
passed_at ts n place key lower same i = grind (arith, nat_tests)

-- ---- a head is added

equal_parts : (a b : ℕ) (o : Ordering) → ordering_then (nat_cmp a b) o ≡ Equal → (a ≡ b) × (o ≡ Equal)
equal_parts a b o e = grind (arith, nat_tests)

spot_before : (p q : Spot) → spot_cmp p q ≡ Less → is_before p.0 p.1.now q.0 q.1.now ≡ true
spot_before p q less = grind (arith, nat_tests)

spot_key : (p q : Spot) → spot_cmp p q ≡ Equal → p.1.now ≡ q.1.now
spot_key p q e = same_key p.1.now q.1.now (sym (is_eq-slice_cmp p.1.now q.1.now) ∙ ap is_eq (equal_parts p.0 q.0 (key_cmp p.1.now q.1.now) e).1)

by_order : {A : Type 0} (P : A → Type 0) (o : Ordering) (a b c : A) → (o ≡ Less → P a) → (o ≡ Equal → P b) → (o ≡ Greater → P c) → P (match_ordering o a b c)
by_order P Less a b c less equal greater = less refl
by_order P Equal a b c less equal greater = equal refl
by_order P Greater a b c less equal greater = greater refl

put_here : (k : Spot) (w : Found) (es : List (Spot × Found)) → HasHead k.1.now (insert_entry spot_cmp es k w)
put_here k w [] = inl refl
put_here k w (e ∷ es) = by_order (HasHead k.1.now) (spot_cmp k e.0) ((k, w) ∷ e ∷ es) ((e.0, w) ∷ es) (e ∷ insert_entry spot_cmp es k w) (λ is. inl refl) (λ is. inl (sym (spot_key k e.0 is))) (λ is. inr (put_here k w es))

put_stays : (k : Spot) (w : Found) (es : List (Spot × Found)) (y : List ℕ) → HasHead y es → HasHead y (insert_entry spot_cmp es k w)
put_stays k w [] y i = absurd i
put_stays k w (e ∷ es) y i = by_order (HasHead y) (spot_cmp k e.0) ((k, w) ∷ e ∷ es) ((e.0, w) ∷ es) (e ∷ insert_entry spot_cmp es k w) (λ is. inr i) (λ is. i)
    (λ is. elim i [ inl here ↦ inl here | inr there ↦ inr (put_stays k w es y there) ])

before_fewer : (n : ℕ) (es : List (Spot × Found)) (i : ℕ) (y : List ℕ) → AreBefore (suc n) es i y → AreBefore n es i y
before_fewer zero es i y before = tt
before_fewer (suc n) [] i y before = absurd before
before_fewer (suc n) (e ∷ es) i y before = (before.0, before_fewer n es i y before.1)

-- with one more among them the first n are still before it
put_before : (n : ℕ) (k : Spot) (w : Found) (es : List (Spot × Found)) (i : ℕ) (y : List ℕ) → AreBefore n es i y → AreBefore n (insert_entry spot_cmp es k w) i y
put_before zero k w es i y before = tt
put_before (suc n) k w [] i y before = absurd before
put_before (suc n) k w (e ∷ es) i y before = by_order (λ ds. AreBefore (suc n) ds i y) (spot_cmp k e.0) ((k, w) ∷ e ∷ es) ((e.0, w) ∷ es) (e ∷ insert_entry spot_cmp es k w)
    (λ is. (before_trans k.0 e.0.0 i k.1.now e.0.1.now y (spot_before k e.0 is) before.0, before_fewer n (e ∷ es) i y before)) (λ is. before) (λ is. (before.0, put_before n k w es i y before.1))

module _ (s : Stored) (span : Span) (t : ℕ) (x : List ℕ) (through : ℕ) where
  abbrev IsHeadOf : Spot → Found → Type 0
  IsHeadOf k w = IsHead s span t x through k.0 k.1.now w.0.now w.1.now

  same_head : (k l : Spot) (w : Found) → spot_cmp k l ≡ Equal → IsHeadOf k w → IsHeadOf l w
  same_head k l w e h = subst (λ n. IsHead s span t x through n l.1.now w.0.now w.1.now) (equal_parts k.0 l.0 (key_cmp k.1.now l.1.now) e).0
      (subst (λ y. IsHead s span t x through k.0 y w.0.now w.1.now) (spot_key k l e) h)

  put_each : (k : Spot) (w : Found) (es : List (Spot × Found)) → IsHeadOf k w → AllHeads s span t x through es → AllHeads s span t x through (insert_entry spot_cmp es k w)
  put_each k w [] h all = (h, tt)
  put_each k w (e ∷ es) h all = by_order (AllHeads s span t x through) (spot_cmp k e.0) ((k, w) ∷ e ∷ es) ((e.0, w) ∷ es) (e ∷ insert_entry spot_cmp es k w) (λ is. (h, all)) (λ is. (same_head k e.0 w is h, all.1)) (λ is. (all.0, put_each k w es h all.1))

  -- what of y comes after the place is above that
  abbrev pub IsStart : List ℕ → ℕ → Type 0
  IsStart y after = (i : ℕ) → nat_lt after i ≡ is_before t x i y

  left_due : (y : List ℕ) (vs : List Version) (i after : ℕ) → chain_of s y ≡ vs → IsStart y after → IsLeft s t (Some x) through y i → IsDue vs after through i
  left_due y vs i after chain from left = record {
    done = ap (λ us. is_committed (version_of us i)) (sym chain) ∙ left.committed;
    above = ltb-true after i (from i ∙ left.later);
    low = left.low;
  }

  due_left : (y : List ℕ) (vs : List Version) (i after : ℕ) → chain_of s y ≡ vs → IsStart y after → IsDue vs after through i → IsLeft s t (Some x) through y i
  due_left y vs i after chain from due = record {
    committed = ap (λ us. is_committed (version_of us i)) chain ∙ due.done;
    later = sym (from i) ∙ lt-ltb after i due.above;
    low = due.low;
  }

  -- the first of a chain is put among the others
  pub head_added : (n : ℕ) (ahead : List (List ℕ)) (heads heads' : BTreeMap Spot Found) (k : Spot) (w : Found) (after : ℕ) → IsStart k.1.now after → chain_of s k.1.now ≡ w.1.now → in_span span k.1.now ≡ true
      → IsFirstDue w.1.now after through w.0.now → k.0 ≡ w.0.now.ts → heads'.entries ≡ insert_entry spot_cmp heads.entries k w → IsOrdered spot_cmp heads' → AreHeads s span t x through n (k.1.now ∷ ahead) heads → AreHeads s span t x through n ahead heads'
  head_added n ahead heads heads' k w after from chain inside first at put rising are =
      let head : IsHead s span t x through w.0.now.ts k.1.now w.0.now w.1.now = record {
        inside = inside;
        chain = chain;
        at = refl;
        one = first.one;
        left = due_left k.1.now w.1.now w.0.now.ts after chain from first.due;
        first = λ i left. first.first i (left_due k.1.now w.1.now i after chain from left);
      } in
      record {
        rising = rising;
        each = subst (AllHeads s span t x through) (sym put) (put_each k w heads.entries (subst (λ n. IsHead s span t x through n k.1.now w.0.now w.1.now) (sym at) head) are.each);
        all = λ y i inside left. elim (are.all y i inside left) [
          | inl looked ↦ elim looked [
            | inl here ↦ inr (inl (subst (HasHead y) (sym put) (subst (λ z. HasHead z (insert_entry spot_cmp heads.entries k w)) here (put_here k w heads.entries))))
            | inr there ↦ inl there
          ]
          | inr kept ↦ inr (elim kept [
            | inl head ↦ inl (subst (HasHead y) (sym put) (put_stays k w heads.entries y head))
            | inr before ↦ inr (subst (λ es. AreBefore n es i y) (sym put) (put_before n k w heads.entries i y before))
          ])
        ];
      }

  -- a chain of which nothing is left
  pub head_missing : (n : ℕ) (ahead : List (List ℕ)) (heads : BTreeMap Spot Found) (y : List ℕ) (vs : List Version) (after : ℕ) → IsStart y after → chain_of s y ≡ vs
      → IsNoneDue vs after through → AreHeads s span t x through n (y ∷ ahead) heads → AreHeads s span t x through n ahead heads
  head_missing n ahead heads y vs after from chain none are = record {
    rising = are.rising;
    each = are.each;
    all = λ z i inside left. elim (are.all z i inside left) [
      | inl looked ↦ elim looked [
        | inl here ↦ absurd (none i (left_due y vs i after chain from (subst (λ q. IsLeft s t (Some x) through q i) (sym here) left)))
        | inr there ↦ inl there
      ]
      | inr kept ↦ inr kept
    ];
  }

  -- ---- the keys of the span are looked at

  -- heads of the keys before these entries, which are of the store
  pub record IsHeading (n : ℕ) (entries : List Entry) (heads : BTreeMap Spot Found) : Type 0 where
    pub chains : AreChained s entries
    pub inside : (y : List ℕ) → IsIn y (keys_of entries) → in_span span y ≡ true
    pub are : AreHeads s span t x through n (keys_of entries) heads

  pub heads_begin : (n : ℕ) (found : List Entry) (heads : BTreeMap Spot Found) → found ≡ filter (λ (e : Entry). in_span span e.0 && has_versions e.1) s.entries → RisingKeys (keys_of s.entries) → heads.entries ≡ [] → IsOrdered spot_cmp heads → IsHeading n found heads
  heads_begin n found heads those rising empty ordered = record {
    chains = chained s span found [] found those rising refl;
    inside = λ y i. passed_in (in_span span) y s.entries (subst (λ es. IsIn y (keys_of es)) those i);
    are = record {
      rising = ordered;
      each = subst (AllHeads s span t x through) (sym empty) tt;
      all = λ y i inside left. inl (key_found span s.entries found y those inside (λ none. let no' : false ≡ true = sym (ap (λ vs. is_committed (version_of vs i)) none) ∙ left.committed in cc));
    };
  }

  -- the first key is looked at
  pub heads_go_on : (n : ℕ) (e : Entry) (rest : List Entry) (heads heads' : BTreeMap Spot Found) → IsHeading n (e ∷ rest) heads
      → (chain_of s e.0 ≡ e.1 → in_span span e.0 ≡ true → AreHeads s span t x through n (e.0 ∷ keys_of rest) heads → AreHeads s span t x through n (keys_of rest) heads') → IsHeading n rest heads'
  heads_go_on n e rest heads heads' so added = record {
    chains = so.chains.1;
    inside = λ y i. so.inside y (inr i);
    are = added so.chains.0 (so.inside e.0 (inl refl)) so.are;
  }

-- ---- heads, and what is left

-- a head is left
head_left : (s : Stored) (span : Span) (t : ℕ) (x : List ℕ) (through : ℕ) (n : ℕ) (y : List ℕ) (v : Version) (vs : List Version) → IsHead s span t x through n y v vs → IsLeftIn s span t (Some x) through (row_of y v)
head_left s span t x through n y v vs head = grind (arith, common_steps)

-- what is left after a later place was left before
left_back : (s : Stored) (t n i : ℕ) (x y z : List ℕ) (through : ℕ) → is_before t x n y ≡ true → IsLeft s n (Some y) through z i → IsLeft s t (Some x) through z i
left_back s t n i x y z through later left = record { committed = left.committed; later = before_trans t n i x y z later left.later; low = left.low }

before_later : (t i j : ℕ) (x y : List ℕ) → is_before t x i y ≡ true → i ≤ j → is_before t x j y ≡ true
before_later t i j x y before low = grind (arith, nat_tests)

-- of heads that are all behind a spot, none is of a row before it
none_before : (s : Stored) (span : Span) (t : ℕ) (x : List ℕ) (through : ℕ) (k : Spot) (es : List (Spot × Found)) → AllByRecursion (λ q. spot_cmp k q ≡ Less) (keys_of es) → AllHeads s span t x through es → (q : Row) → HasHead q.key es → IsLeft s t (Some x) through q.key q.ts
    → is_before k.0 k.1.now q.ts q.key ≡ true
none_before s span t x through k [] above all q i left = absurd i
none_before s span t x through k (e ∷ es) above all q i left = grind (arith, common_steps, none_before s span t x through k es above.1 all.1 q)

moved_heads : (s : Stored) (span : Span) (t : ℕ) (x : List ℕ) (through : ℕ) (k : Spot) (es : List (Spot × Found)) → is_before t x k.0 k.1.now ≡ true → AllByRecursion (λ q. spot_cmp k q ≡ Less) (keys_of es) → AllHeads s span t x through es → AllHeads s span k.0 k.1.now through es
moved_heads s span t x through k [] later above all = tt
moved_heads s span t x through k (e ∷ es) later above all = (
  record {
    inside = all.0.inside;
    chain = all.0.chain;
    at = all.0.at;
    one = all.0.one;
    left = record { committed = all.0.left.committed; later = spot_before k e.0 above.0; low = all.0.left.low };
    first = λ i left. all.0.first i (left_back s t k.0 i x k.1.now e.0.1.now through later left);
  },
  moved_heads s span t x through k es later above.1 all.1,
)

-- ---- the last head goes

at_last : (P : Spot → Type 0) (es : List (Spot × Found)) (k : Spot) (w : Found) → AllByRecursion P (keys_of (es ++ (k, w) ∷ [])) → P k
at_last P [] k w all = all.0
at_last P (e ∷ es) k w all = at_last P es k w all.1

below_last : (es : List (Spot × Found)) (k : Spot) (w : Found) → IsStrictlySortedBy spot_cmp (keys_of (es ++ (k, w) ∷ [])) → AllByRecursion (λ q. spot_cmp q k ≡ Less) (keys_of es)
below_last [] k w sorted = tt
below_last (e ∷ es) k w sorted =
    let rest : List Spot = keys_of (es ++ (k, w) ∷ []) in
    (at_last (λ q. spot_cmp e.0 q ≡ Less) es k w (sorted_head spot_cmp e.0 rest sorted), below_last es k w (sorted_tail spot_cmp e.0 rest sorted))

-- what comes from a spot on has the heads below that before it
before_last : (n i : ℕ) (k : Spot) (es : List (Spot × Found)) → n ≤ length es → k.0 ≤ i → AllByRecursion (λ q. spot_cmp q k ≡ Less) (keys_of es) → AreBefore n es i k.1.now
before_last zero i k es few low below = tt
before_last (suc n) i k [] few low below = absurd (omega arith)
before_last (suc n) i k (e ∷ es) few low below = (before_later e.0.0 k.0 i e.0.1.now k.1.now (spot_before e.0 k below.0) low, before_last n i k es (omega arith) low below.1)

before_first : (n i : ℕ) (y : List ℕ) (e : Spot × Found) (es : List (Spot × Found)) → n ≤ length es → AreBefore n (es ++ e ∷ []) i y → AreBefore n es i y
before_first zero i y e es few before = tt
before_first (suc n) i y e [] few before = absurd (omega arith)
before_first (suc n) i y e (d ∷ es) few before = (before.0, before_first n i y e es (omega arith) before.1)

has_first : (y : List ℕ) (e : Spot × Found) (es : List (Spot × Found)) → HasHead y (es ++ e ∷ []) → HasHead y es ⊎ (e.0.1.now ≡ y)
has_first y e [] i = elim i [ inl here ↦ inr here | inr there ↦ absurd there ]
has_first y e (d ∷ es) i = grind (arith, common_steps, has_first y e es)

module _ (s : Stored) (span : Span) (t : ℕ) (x : List ℕ) (through n : ℕ) (ahead : List (List ℕ)) (heads heads' : BTreeMap Spot Found) where
  first_heads : (e : Spot × Found) (es : List (Spot × Found)) → AllHeads s span t x through (es ++ e ∷ []) → AllHeads s span t x through es × AllHeads s span t x through (e ∷ [])
  first_heads e [] all = (tt, all)
  first_heads e (d ∷ es) all = let more = first_heads e es all.1 in ((all.0, more.0), more.1)

  head_cut : (k : Spot) (w : Found) → heads.entries ≡ heads'.entries ++ (k, w) ∷ [] → IsOrdered spot_cmp heads' → n ≤ length heads'.entries → AreHeads s span t x through n ahead heads → AreHeads s span t x through n ahead heads'
  head_cut k w split rising few are = record {
    rising = rising;
    each = parts.0;
    all = λ y i inside left. elim (are.all y i inside left) [
      | inl looked ↦ inl looked
      | inr kept ↦ inr (elim kept [
        | inl head ↦ elim (has_first y (k, w) heads'.entries (subst (HasHead y) split head)) [
          | inl there ↦ inl there
          | inr last ↦ inr (subst (λ z. AreBefore n heads'.entries i z) last
              (before_last n i k heads'.entries few (parts.1.0.first i (subst (λ z. IsLeft s t (Some x) through z i) (sym last) left)) below))
        ]
        | inr before ↦ inr (before_first n i y (k, w) heads'.entries few (subst (λ es. AreBefore n es i y) split before))
      ])
    ];
  }
    where
      parts : AllHeads s span t x through heads'.entries × AllHeads s span t x through ((k, w) ∷ [])
      parts = first_heads (k, w) heads'.entries (subst (AllHeads s span t x through) split are.each)

      below : AllByRecursion (λ q. spot_cmp q k ≡ Less) (keys_of heads'.entries)
      below = below_last heads'.entries k w (subst (λ es. IsStrictlySortedBy spot_cmp (keys_of es)) split are.rising)

  -- where there are more than n heads, the first n are among the others
  pub heads_cut : (o : Option (Spot × Found)) → n < length heads.entries → (0 < length heads.entries → is_some o ≡ true) → IfSome o (λ p. heads.entries ≡ heads'.entries ++ p ∷ []) → IsOrdered spot_cmp heads' → AreHeads s span t x through n ahead heads → AreHeads s span t x through n ahead heads'
  heads_cut None many some split rising are = let no' : false ≡ true = some (omega arith) in cc
  heads_cut (Some p) many some split rising are =
      let long : length heads.entries ≡ length heads'.entries + 1 = ap length split ∙ length-append heads'.entries (p ∷ []) in
      head_cut p.0 p.1 split rising (omega arith) are

-- ---- the first head is taken

pub record IsTaken (s : Stored) (span : Span) (t : ℕ) (x : List ℕ) (through n : ℕ) (k : Spot) (w : Found) (heads : BTreeMap Spot Found) : Type 0 where
  pub next : IsNext s span t (Some x) through (row_of k.1.now w.0.now)
  pub chain : chain_of s k.1.now ≡ w.1.now
  pub inside : in_span span k.1.now ≡ true
  pub are : AreHeads s span w.0.now.ts k.1.now through n (k.1.now ∷ []) heads

pub head_taken : (s : Stored) (span : Span) (t : ℕ) (x : List ℕ) (through n : ℕ) (heads heads' : BTreeMap Spot Found) (k : Spot) (w : Found) → AreHeads s span t x through (suc n) [] heads → heads.entries ≡ (k, w) ∷ heads'.entries → IsOrdered spot_cmp heads' → IsTaken s span t x through n k w heads'
head_taken s span t x through n heads heads' k w are split rising = record {
  next = record {
    left = head_left s span t x through k.0 k.1.now w.0.now w.1.now all.0;
    least = λ q h. false_from_ne_true _ (λ before.
        let left : IsLeft s t (Some x) through q.key q.ts = record { committed = h.done; later = h.later; low = h.low } in
        let before' : is_before q.ts q.key k.0 k.1.now ≡ true = subst (λ n. is_before q.ts q.key n k.1.now ≡ true) all.0.at before in
        elim (kept q.key q.ts h.inside left) [
          | inl head ↦ elim head [
            | inl here ↦ before_itself q.ts q.key (before_later q.ts k.0 q.ts q.key q.key (subst (λ y. is_before q.ts q.key k.0 y ≡ true) here before')
                (all.0.first q.ts (subst (λ y. IsLeft s t (Some x) through y q.ts) (sym here) left)))
            | inr there ↦ before_itself q.ts q.key (before_trans q.ts k.0 q.ts q.key k.1.now q.key before' (none_before s span t x through k heads'.entries above all.1 q there left))
          ]
          | inr behind ↦ before_itself q.ts q.key (before_trans q.ts k.0 q.ts q.key k.1.now q.key before' behind.0)
        ]);
  };
  chain = all.0.chain;
  inside = all.0.inside;
  are = subst (λ m. AreHeads s span m k.1.now through n (k.1.now ∷ []) heads') (sym all.0.at) (record {
    rising = rising;
    each = moved_heads s span t x through k heads'.entries all.0.left.later above all.1;
    all = λ y i inside left. elim (kept y i inside (left_back s t k.0 i x k.1.now y through all.0.left.later left)) [
      | inl head ↦ elim head [ inl here ↦ inl (inl here) | inr there ↦ inr (inl there) ]
      | inr behind ↦ inr (inr behind.1)
    ];
  });
}
  where
    all : AllHeads s span t x through ((k, w) ∷ heads'.entries)
    all = subst (AllHeads s span t x through) split are.each

    above : AllByRecursion (λ q. spot_cmp k q ≡ Less) (keys_of heads'.entries)
    above = sorted_head spot_cmp k (keys_of heads'.entries) (subst (λ es. IsStrictlySortedBy spot_cmp (keys_of es)) split are.rising)

    kept : (y : List ℕ) (i : ℕ) → in_span span y ≡ true → IsLeft s t (Some x) through y i → HasHead y ((k, w) ∷ heads'.entries) ⊎ AreBefore (suc n) ((k, w) ∷ heads'.entries) i y
    kept y i inside left = elim (are.all y i inside left) [
      | inl none ↦ absurd none
      | inr is ↦ subst (λ es. HasHead y es ⊎ AreBefore (suc n) es i y) split is
    ]

-- ---- the walk over the heads

-- rows are those before the heads, and some are missing
pub record IsMerged (s : Stored) (span : Span) (ts : ℕ) (key : List ℕ) (through n missing : ℕ) (rows : List Row) (heads : BTreeMap Spot Found) : Type 0 where
  pub t : ℕ
  pub x : List ℕ
  pub walked : IsWalked s span ts (Some key) through n t (Some x) missing rows
  pub are : AreHeads s span t x through missing [] heads

pub merge_begins : (s : Stored) (span : Span) (ts : ℕ) (key : List ℕ) (through n missing : ℕ) (rows : List Row) (heads : BTreeMap Spot Found) → AreHeads s span ts key through n [] heads → rows ≡ [] → n ≡ missing → IsMerged s span ts key through n missing rows heads
merge_begins s span ts key through n missing rows heads are none all = grind (arith, common_steps, walk_begins)

pub merge_goes_on : (s : Stored) (span : Span) (ts : ℕ) (key : List ℕ) (through n missing missing' : ℕ) (rows rows' : List Row) (heads taken heads' : BTreeMap Spot Found) (k : Spot) (w : Found) → IsMerged s span ts key through n missing rows heads
    → heads.entries ≡ (k, w) ∷ taken.entries → IsOrdered spot_cmp taken → missing ≡ missing' + 1 → rows' ≡ rows ++ row_of k.1.now w.0.now ∷ []
    → (chain_of s k.1.now ≡ w.1.now → in_span span k.1.now ≡ true → AreHeads s span w.0.now.ts k.1.now through missing' (k.1.now ∷ []) taken → AreHeads s span w.0.now.ts k.1.now through missing' [] heads')
    → IsMerged s span ts key through n missing' rows' heads'
merge_goes_on s span ts key through n missing missing' rows rows' heads taken heads' k w merged split rising less more added =
    let asked : AreHeads s span merged.t merged.x through (suc missing') [] heads = subst (λ m. AreHeads s span merged.t merged.x through m [] heads) (less ∙ add-one missing') merged.are in
    let first = head_taken s span merged.t merged.x through missing' heads taken k w asked split rising in record {
      t = w.0.now.ts;
      x = k.1.now;
      walked = walk_takes s span ts (Some key) through n merged.t (Some merged.x) missing missing' rows rows' (row_of k.1.now w.0.now) merged.walked first.next less more;
      are = added first.chain first.inside first.are;
    }

pub merge_full : (s : Stored) (span : Span) (ts : ℕ) (key : List ℕ) (through n missing : ℕ) (rows : List Row) (heads : BTreeMap Spot Found) → IsMerged s span ts key through n missing rows heads → missing ≤ 0 → AreNextIn s span ts (Some key) through n rows
merge_full s span ts key through n missing rows heads merged none = walk_full s span ts (Some key) through n merged.t (Some merged.x) missing rows merged.walked none

no_entry : (es : List (Spot × Found)) → (0 < length es → ⊥) → es ≡ []
no_entry [] none = refl
no_entry (e ∷ es) none = absurd (none (omega arith))

some_before : (n i : ℕ) (y : List ℕ) → 0 < n → AreBefore n [] i y → ⊥
some_before zero i y some before = omega arith
some_before (suc n) i y some before = before

pub merge_ends : (s : Stored) (span : Span) (ts : ℕ) (key : List ℕ) (through n missing : ℕ) (rows : List Row) (heads : BTreeMap Spot Found) → IsMerged s span ts key through n missing rows heads → 0 < missing → (0 < length heads.entries → ⊥) → AreNextIn s span ts (Some key) through n rows
merge_ends s span ts key through n missing rows heads merged some empty = walk_ends s span ts (Some key) through n merged.t (Some merged.x) missing rows merged.walked
    (λ r h. grind (arith, common_steps, no_entry, some_before))
