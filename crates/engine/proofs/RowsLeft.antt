-- The first row that a dump has still to write is that of the store's next committed version.
use Rattle.std.proofs.lemmas.Grind.{common_steps}
use Rattle.std.proofs.Common.{arith, Bool, List, None, Option, Some, [], ap, false, inl, inr, length, refl, subst, sym, true, ℕ, ◌&&◌, ◌++◌, ◌<◌, ◌∙◌, ◌∷◌, ◌≡◌, ◌≤◌}
use Rattle.engine.proofs.Common.{AllAllowed, Begins, Effect, Event, Row, Stored, and_from, and_parts, committed_is, committed_version_of, effects_of, false_from_ne_true, is_committed_in, kept_committed, left_version_of, legal_allowed, option_to_list, owner_of, version_in, nat_tests, versions_of}
use Rattle.std.specs.Prelude.{filter, is_some, take, ◌↔◌}
use Rattle.spans.specs.Streams.{row_lt, stream_of}
use Rattle.spans.proofs.StreamOrder.{IsRowIn, RisingRows, rows_clash, in_stream, stream_rises}
use Rattle.kept.specs.StandsFor as keeping
use Rattle.restarts.specs.Dump.{all_keys, is_left}
use Rattle.restarts.proofs.Alike.{committed_begun}
use Rattle.version_chain.specs.Walking.{is_after_place}
use Rattle.catch_up.specs.Rows.{AreLeftIn, AreNextIn}
use Rattle.engine.specs.Looking.{IsLeftBehind, IsNextRow, first_row, next_left}
use Rattle.engine.specs.Layers.{kept_of}
use Rattle.engine.specs.declared.layers.Layers.{Layers}
use Rattle.engine.proofs.Versions.{left_is}

-- ---- the first that a filter leaves

filter_twice : (q q' : Row → Bool) (rows : List Row) → filter q' (filter q rows) ≡ filter (λ r. q r && q' r) rows
filter_twice q q' [] = refl
filter_twice q q' (r ∷ rows) = grind (arith, common_steps, filter_twice q q' rows)

filter_none : (q : Row → Bool) (rows : List Row) → ((r : Row) → IsRowIn r rows → q r ≡ false) → filter q rows ≡ []
filter_none q [] none = refl
filter_none q (r ∷ rows) none = rw (none r (inl refl)) (filter_none q rows (λ s i. none s (inr i)))

-- of rising rows it is the one that has none before it
filter_first : (q : Row → Bool) (rows : List Row) (r : Row) → RisingRows rows → IsRowIn r rows → q r ≡ true
    → ((s : Row) → IsRowIn s rows → q s ≡ true → row_lt s r ≡ false) → first_row (filter q rows) ≡ Some r
filter_first q [] r rising i on least = absurd i
filter_first q (s ∷ rows) r rising i on least = grind (arith, common_steps, filter_first q rows r rising.1, least s, rising.0 r)

-- ---- one row

-- what began is above 0
begun_above : (p : List Effect) → AllAllowed p → (t : ℕ) → is_some (owner_of p t) ≡ true → 0 < t
begun_above [] all t is = cc
begun_above (Begins k seat ∷ p) all t is = grind (arith, nat_tests, common_steps, begun_above p all.1 t)
begun_above (_ ∷ p) all t is = begun_above p all.1 t is

-- a row is left where it is a version that is committed and not dead
abbrev IsLeftRow : List Effect → ℕ → Row → Type 0
IsLeftRow p through r = (left_version_of p r.key r.ts ≡ Some r.after) × (r.ts ≤ through)

row_left : (p : List Effect) → AllAllowed p → (through : ℕ) (r : Row) → (IsRowIn r (stream_of p all_keys 0 through) × (is_left p r ≡ true)) ↔ IsLeftRow p through r
row_left p all through r = (
  λ i. let s = (in_stream p all_keys 0 through r).0 i.0 in (grind (arith, common_steps, s.done, s.wrote), s.low),
  λ i. let live : (is_left p r ≡ true) × (committed_version_of p r.key r.ts ≡ Some r.after) = grind (arith, common_steps) in
      let is = committed_is p r.key r.ts r.after live.1 in
      ((in_stream p all_keys 0 through r).1 (record { above = begun_above p all r.ts (committed_begun p all r.ts is.0); low = i.1; done = is.0; inside = refl; wrote = is.1 }), live.0),
)

-- ---- all of them

module _ (e : Layers) (h : List Event) (stands : keeping.StandsFor (kept_of e) h) (ts : ℕ) (key : Option (List ℕ)) (through : ℕ) where
  abbrev s : Stored
  s = versions_of e.rules

  abbrev p : List Effect
  p = effects_of h

  all : AllAllowed p
  all = legal_allowed h stands.legal

  abbrev rows : List Row
  rows = stream_of p all_keys 0 through

  abbrev is_due : Row → Bool
  is_due r = is_left p r && is_after_place ts key r.key r.ts

  -- the store has the versions of the rows that are left
  due_is : (r : Row) → (IsRowIn r rows × (is_due r ≡ true)) ↔ IsLeftBehind s ts key through r
  due_is r = (
    λ i. let both = and_parts (is_left p r) _ i.1 in
        let left = (row_left p all through r).0 (i.0, both.0) in
        let here : kept_committed (kept_of e) r.key r.ts ≡ Some r.after = left_is (kept_of e) p all stands.fits r.key r.ts ∙ left.0 in
        let kept : (is_committed_in s r.key r.ts ≡ true) × (version_in s r.key r.ts ≡ Some r.after) = grind (arith, common_steps) in
        record { there = kept.1; done = kept.0; inside = refl; later = both.1; low = left.1 },
    λ h. let here : kept_committed (kept_of e) r.key r.ts ≡ Some r.after = grind (arith, common_steps) in
        let left : left_version_of p r.key r.ts ≡ Some r.after = sym (left_is (kept_of e) p all stands.fits r.key r.ts) ∙ here in
        let row = (row_left p all through r).1 (left, h.low) in
        (row.0, and_from _ _ row.1 h.later),
  )

  pub next_is : (row : Option Row) → IsNextRow s ts key through row → row ≡ next_left p ts key through
  next_is None none = sym (ap first_row (
      filter_twice (is_left p) (λ r. is_after_place ts key r.key r.ts) rows
      ∙ filter_none is_due rows (λ r i. false_from_ne_true _ (λ is. none r ((due_is r).0 (i, is))))))
  next_is (Some r) first =
      let here = (due_is r).1 first.0 in
      sym (ap first_row (filter_twice (is_left p) (λ q. is_after_place ts key q.key q.ts) rows)
      ∙ filter_first is_due rows r (stream_rises p all_keys 0 through) here.0 here.1 (λ q i is. first.1 q ((due_is q).0 (i, is))))

-- ---- of the rows that are left, the first alone

pub first_left : (s : Stored) (ts : ℕ) (key : Option (List ℕ)) (through : ℕ) (rows : List Row) → AreNextIn s all_keys ts key through 1 rows → IsNextRow s ts key through (first_row rows)
first_left s ts key through rows next = go next.all next.left next.first
  where
    go : (left : List Row) → AreLeftIn s all_keys ts key through left → rows ≡ take 1 left → IsNextRow s ts key through (first_row rows)
    go [] are is = subst (λ l. IsNextRow s ts key through (first_row l)) (sym is) (λ r h. (are.each r).1 h)
    go (r ∷ left) are is = subst (λ l. IsNextRow s ts key through (first_row l)) (sym is) (
      (are.each r).0 (inl refl),
      λ q h. false_from_ne_true _ (λ before. elim ((are.each q).1 h) [
        | inl same ↦ rows_clash q r before (subst (λ o. row_lt o q ≡ true) (sym same) (subst (λ o. row_lt q o ≡ true) same before))
        | inr there ↦ rows_clash q r before (are.rising.0 q there)
      ]),
    )

pub first_taken : (rows rest : List Row) (row : Option Row) → rows ≡ option_to_list row ++ rest → (is_some row ≡ false → length rows ≡ 0) → first_row rows ≡ row
first_taken rows rest (Some r) is none = ap first_row is
first_taken [] rest None is none = refl
first_taken (r ∷ rows) rest None is none = (let no : length (r ∷ rows) ≡ 0 = none refl in cc)
