-- A feed that is served from the store.
use Rattle.std.proofs.Common.{List, None, Option, Some, [], ap, arith, false, length, max, min, refl, subst, sym, take, true, zero, suc, ℕ, ◌-◌, ◌<◌, ◌&&◌, ◌==◌, ◌≡◌, ◌++◌, ◌∷◌, ◌∙◌}
use Rattle.std.specs.Prelude.{nat_lt}
use Rattle.feed.proofs.Common.{AreNextFirsts, AreNextIn, Kept, Place, Row, Stored, VersionName, and_from, and_parts, by_test, is_after_name, is_committed_in, is_past, length-take, lt-ltb, ltb-true, name_lt, nat_tests, or_left, take_both, version_in}
use Rattle.spans.specs.KeyOrder.{key_lt}
use Rattle.kept.proofs.LeftRows.{parts_left}
use Rattle.version_chain.specs.Walking.{is_after_place}
use Rattle.feed.specs.Left.{AreNextFirstsAt, AreNextStoredAt, IsLeftAt, IsNoneLeft, is_row_above, key_at}
use Rattle.feed.specs.Standing.{AreNextAt}

-- the stored rows after a place's last row, from the cursor on, are those that are left for the feed
pub stored_next : (s : Stored) (place : Place) (through n ts : ℕ) (key : Option (List ℕ)) (rows : List Row) → ((r : Row) → (nat_lt (max place.after place.cursor) r.ts && is_after_name place.row r) ≡ is_after_place ts key r.key r.ts)
    → AreNextIn s place.span ts key through n rows → AreNextStoredAt s place through n rows
stored_next s place through n ts key rows same next = record {
  all = next.all;
  stored = record {
    rising = next.left.rising;
    each = λ r. (
      λ i.
          let h = (next.left.each r).0 i in
          let both = and_parts _ _ (same r ∙ h.later) in
          let high : max place.after place.cursor < r.ts = ltb-true _ _ both.0 in
          record { there = h.there; done = h.done; inside = h.inside; above = omega arith; later = and_from _ _ (lt-ltb place.after r.ts (omega arith)) both.1; low = h.low },
      λ h.
          let both = and_parts _ _ h.later in
          let high : place.after < r.ts = ltb-true _ _ both.0 in
          let above : place.cursor < r.ts = h.above in
          (next.left.each r).1 (record { there = h.there; done = h.done; inside = h.inside; later = sym (same r) ∙ and_from _ _ (lt-ltb (max place.after place.cursor) r.ts (omega arith)) both.1; low = h.low }),
    );
  };
  first = next.first;
}

-- a row at the cursor comes after the last one where its key does
past_is : (o : Option VersionName) (c : ℕ) (r : Row) → is_row_above o c ≡ false → r.ts ≡ c → is_after_name o r ≡ is_past (key_at c o) r.key
past_is None c r low at = refl
past_is (Some q) c r low at = by_test (q.ts == c)
    (λ here.
    let l : nat_lt q.ts r.ts ≡ false = grind (arith, nat_tests) in
    let e : (q.ts == r.ts) ≡ true = grind (arith, nat_tests) in
    let is : name_lt q r ≡ key_lt q.key r.key = rw (l, e) refl in
    rw here is)
    (λ there.
    let less : nat_lt q.ts r.ts ≡ true = grind (arith, nat_tests) in
    let is : name_lt q r ≡ true = or_left (nat_lt q.ts r.ts) ((q.ts == r.ts) && key_lt q.key r.key) less in
    rw there is)

firsts_at_cursor : (s : Stored) (place : Place) (n : ℕ) (rows : List Row) → place.kind.initial ≡ true → place.after < place.cursor → is_row_above place.row place.cursor ≡ false → AreNextFirsts s place.span (key_at place.cursor place.row) place.cursor n rows → AreNextFirstsAt s place n rows
firsts_at_cursor s place n rows initial untold low next = record {
  all = next.all;
  firsts = record {
    rising = next.firsts.rising;
    each = λ r. (
      λ i. let h = (next.firsts.each r).0 i in let at : r.ts ≡ place.cursor = h.at in record {
        initial = initial;
        at = at;
        found = h.found;
        value = h.value;
        inside = h.inside;
        later = and_from _ _ (lt-ltb place.after r.ts (omega arith)) (past_is place.row place.cursor r low at ∙ h.later);
      },
      λ h. (next.firsts.each r).1 (record { at = h.at; found = h.found; value = h.value; inside = h.inside; later = sym (past_is place.row place.cursor r low h.at) ∙ (and_parts _ _ h.later).1 }),
    );
  };
  first = next.first;
}

-- what is left of a snapshot is what is left of its keys
pub firsts_next : (s : Stored) (place : Place) (t n : ℕ) (key : Option (List ℕ)) (rows : List Row) → IsLeftAt place t → key ≡ key_at t place.row → AreNextFirsts s place.span key t n rows → AreNextFirstsAt s place n rows
firsts_next s place t n key rows left is next = firsts_at_cursor s place n rows left.initial left.untold left.last
    (subst (λ u. AreNextFirsts s place.span (key_at u place.row) u n rows) left.at (subst (λ o. AreNextFirsts s place.span o t n rows) is next))

no_rows : (n : ℕ) (rows : List Row) → rows ≡ [] → rows ≡ take n rows
no_rows zero rows empty = empty
no_rows (suc n) [] empty = refl
no_rows (suc n) (r ∷ rows) empty = cc

-- none is left
pub firsts_none : (s : Stored) (place : Place) (n : ℕ) (rows : List Row) → IsNoneLeft place → rows ≡ [] → AreNextFirstsAt s place n rows
firsts_none s place n rows none empty = record {
  all = [];
  firsts = record { rising = tt; each = λ r. (λ i. absurd i, λ i. absurd (none (version_in s) r i)) };
  first = empty ∙ no_rows n [] refl;
}

-- what is kept of a store alone
abbrev stored_as : Stored → ℕ → Kept
stored_as s through = record { closed = through; horizon = 0; version = version_in s; committed = is_committed_in s; marked = λ x t. false; transaction = λ t. None; protections = []; protections_made = 0; feed = λ f. None; feeds_opened = 0 }

-- the next of both parts are the next that are left
pub both_next : (s : Stored) (place : Place) (through n room : ℕ) (firsts stored rows : List Row) → AreNextFirstsAt s place n firsts → room ≡ n - length firsts → AreNextStoredAt s place through room stored → rows ≡ firsts ++ stored → AreNextAt s place through n rows
both_next s place through n room firsts stored rows f is st both = record {
  all = f.all ++ st.all;
  left = parts_left (stored_as s through) place f.all st.all f.firsts st.stored;
  first =
      let long : length firsts ≡ min n (length f.all) = ap length f.first ∙ length-take n f.all in
      let rest : room ≡ n - length f.all = omega arith in
      both ∙ ap (λ l. l ++ stored) f.first ∙ ap (λ l. take n f.all ++ l) (st.first ∙ ap (λ m. take m st.all) rest) ∙ take_both n f.all st.all;
}
