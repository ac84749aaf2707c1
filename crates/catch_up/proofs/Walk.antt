-- A walk from version to version, which gathers rows.
use Rattle.catch_up.proofs.Common.{After, Entry, IsNewestIn, IsRowIn, IsStep, IsToCome, RisingRows, Row, Span, Stored, Version, Walk, after_of, after_trans, before_itself, before_neither, both_ways, by_test, common_steps, found_in, in_append, in_span, is_after_place, is_before, is_committed, is_committed_in, length_push, rises_append, rises_parts, row_lt, version_in}
use Rattle.std.proofs.Common.{append_assoc, Bor, List, None, Option, Some, [], ap, arith, false, inl, inr, length, refl, subst, sym, take, true, ℕ, ◌+◌, ◌<◌, ◌≤◌, ◌⊎◌, ◌≡◌, ◌++◌, ◌∷◌, ◌∙◌}
use Rattle.std.specs.Prelude.{is_some}
use Rattle.std.specs.Map.Iter.{TakesFirst, deref_pair}
use Rattle.std.proofs.Math.Seq.{take-append-add}
use Rattle.catch_up.specs.Rows.{AreLeftIn, AreNextIn, IsAdded, IsLeftIn, IsNoneAfter, IsRowAt, IsTold, IsToldOf}
use Rattle.catch_up.proofs.Gathered.{are_left}

-- rows are those before a place, and some are missing
pub record IsWalked (s : Stored) (span : Span) (ts : ℕ) (key : Option (List ℕ)) (through n : ℕ) (t : ℕ) (x : Option (List ℕ)) (missing : ℕ) (rows : List Row) : Type 0 where
  pub rest : List Row
  pub left : AreLeftIn s span t x through rest
  pub told : AreLeftIn s span ts key through (rows ++ rest)
  pub count : length rows + missing ≡ n

pub walk_begins : (s : Stored) (span : Span) (ts : ℕ) (key : Option (List ℕ)) (through n : ℕ) → IsWalked s span ts key through n ts key n []
walk_begins s span ts key through n = let all = are_left s span ts key through in record { rest = all.0; left = all.1; told = all.1; count = omega arith }

abbrev pub row_of : List ℕ → Version → Row
row_of x v = record { ts = v.ts; key = x; after = v.after }

-- what is left has a version, so a walk comes to it
to_come : (s : Stored) (span : Span) (t : ℕ) (x : Option (List ℕ)) (through : ℕ) (r : Row) → IsLeftIn s span t x through r → IsToCome (record { store = s; ts = t; key = x; through = through }) r.key r.ts
to_come s span t x through r h = record { there = has (found_in s r.key r.ts) h.done; later = h.later; low = h.low }
  where
    has : (o : Option Version) → is_committed o ≡ true → is_some o ≡ true
    has None e = e
    has (Some v) done = refl

-- what is left after a later place was left before
moved_back : (s : Stored) (span : Span) (t i : ℕ) (x : Option (List ℕ)) (y : List ℕ) (through : ℕ) → is_after_place t x y i ≡ true → (r : Row) → IsLeftIn s span i (Some y) through r → IsLeftIn s span t x through r
moved_back s span t i x y through later r h = record { there = h.there; done = h.done; inside = h.inside; later = after_trans t x i r.ts y r.key later h.later; low = h.low }

-- and what is left but for the least is left after it
moved_on : (s : Stored) (span : Span) (t i : ℕ) (x : Option (List ℕ)) (y : List ℕ) (through : ℕ) (r : Row) → IsLeftIn s span t x through r → is_before r.ts r.key i y ≡ false → ((i ≡ r.ts) × (y ≡ r.key)) ⊎ IsLeftIn s span i (Some y) through r
moved_on s span t i x y through r h least = grind (arith, common_steps, by_test, before_neither)

-- a row that is left, and none before it
pub record IsNext (s : Stored) (span : Span) (t : ℕ) (x : Option (List ℕ)) (through : ℕ) (r : Row) : Type 0 where
  pub left : IsLeftIn s span t x through r
  pub least : (q : Row) → IsLeftIn s span t x through q → row_lt q r ≡ false

-- the step of a walk from a place to y at i
abbrev pub IsStepTo : Stored → ℕ → Option (List ℕ) → ℕ → List ℕ → ℕ → Type 0
IsStepTo s t x through y i = IsStep (record { store = s; ts = t; key = x; through = through }) i y

-- a version outside the span, or one that isn't committed, is passed over
walk_passes : (s : Stored) (span : Span) (ts : ℕ) (key : Option (List ℕ)) (through n t : ℕ) (x : Option (List ℕ)) (missing : ℕ) (rows : List Row) (y : List ℕ) (i : ℕ) → IsWalked s span ts key through n t x missing rows
    → IsStepTo s t x through y i → (in_span span y ≡ true → is_committed_in s y i ≡ false) → IsWalked s span ts key through n i (Some y) missing rows
walk_passes s span ts key through n t x missing rows y i walked step none = record {
  rest = walked.rest;
  left = record {
    rising = walked.left.rising;
    each = λ r. (
      λ j. let h = (walked.left.each r).0 j in elim (moved_on s span t i x y through r h (step.first r.key r.ts (to_come s span t x through r h))) [
        | inl same ↦ absurd (both_ways _ (none (ap (in_span span) same.1 ∙ h.inside)) (ap (λ k. is_committed_in s k i) same.1 ∙ ap (is_committed_in s r.key) same.0 ∙ h.done))
        | inr on ↦ on
      ],
      λ h. (walked.left.each r).1 (moved_back s span t i x y through step.one.later r h),
    );
  };
  told = walked.told;
  count = walked.count;
}

-- the least of rising rows comes first
pub least_first : (r : Row) (rows : List Row) → RisingRows rows → IsRowIn r rows → ((q : Row) → IsRowIn q rows → row_lt q r ≡ false) → (rest : List Row) × (rows ≡ r ∷ rest)
least_first r [] rising i least = absurd i
least_first r (s ∷ rows) rising i least = elim i [
  | inl here ↦ (rows, ap (λ q. q ∷ rows) here)
  | inr there ↦ absurd (both_ways _ (least s (inl refl)) (rising.0 r there))
]

-- the next row is taken
pub walk_takes : (s : Stored) (span : Span) (ts : ℕ) (key : Option (List ℕ)) (through n t : ℕ) (x : Option (List ℕ)) (missing missing' : ℕ) (rows rows' : List Row) (r : Row) → IsWalked s span ts key through n t x missing rows
    → IsNext s span t x through r → missing ≡ missing' + 1 → rows' ≡ rows ++ r ∷ [] → IsWalked s span ts key through n r.ts (Some r.key) missing' rows'
walk_takes s span ts key through n t x missing missing' rows rows' r walked next less more = record {
  rest = parts.0;
  left = record {
    rising = (subst RisingRows parts.1 walked.left.rising).1;
    each = λ q. (
      λ i. let h = (walked.left.each q).0 (subst (IsRowIn q) (sym parts.1) (inr i)) in
          record { there = h.there; done = h.done; inside = h.inside; later = (subst RisingRows parts.1 walked.left.rising).0 q i; low = h.low },
      λ h. elim (subst (IsRowIn q) parts.1 ((walked.left.each q).1 (moved_back s span t r.ts x r.key through next.left.later q h))) [
        | inl here ↦ absurd (before_itself r.ts r.key (subst (λ (w : Row). is_before r.ts r.key w.ts w.key ≡ true) (sym here) h.later))
        | inr there ↦ there
      ],
    );
  };
  told = subst (AreLeftIn s span ts key through) (ap (λ l. rows ++ l) parts.1 ∙ sym (append_assoc rows (r ∷ []) parts.0) ∙ ap (λ l. l ++ parts.0) (sym more)) walked.told;
  count = let c : length rows + missing ≡ n = walked.count in let l : length rows' ≡ length rows + 1 = ap length more ∙ length_push rows r in omega arith;
}
  where
    parts : (rest : List Row) × (walked.rest ≡ r ∷ rest)
    parts = least_first r walked.rest walked.left.rising ((walked.left.each r).1 next.left) (λ q i. next.least q ((walked.left.each q).0 i))

-- a row that is told of a step is the next one
next_is : (s : Stored) (span : Span) (t : ℕ) (x : Option (List ℕ)) (through : ℕ) (y : List ℕ) (i : ℕ) (a : After) → IsStepTo s t x through y i → IsToldOf s span i y (record { ts = i; key = y; after = a }) → IsNext s span t x through (record { ts = i; key = y; after = a })
next_is s span t x through y i a step told = grind (arith, common_steps)

walk_steps : (s : Stored) (span : Span) (ts : ℕ) (key : Option (List ℕ)) (through n t : ℕ) (x : Option (List ℕ)) (missing missing' : ℕ) (rows rows' : List Row) (y : List ℕ) (i : ℕ) (row : Option Row) → IsWalked s span ts key through n t x missing rows
    → IsStepTo s t x through y i → IsRowAt s span i y row → IsAdded row missing missing' rows rows' → IsWalked s span ts key through n i (Some y) missing' rows'
walk_steps s span ts key through n t x missing missing' rows rows' y i None walked step none same = grind (arith, common_steps, walk_passes)
walk_steps s span ts key through n t x missing missing' rows rows' y i (Some r) walked step told more = grind (arith, common_steps, walk_takes, next_is)

-- enough rows
pub walk_full : (s : Stored) (span : Span) (ts : ℕ) (key : Option (List ℕ)) (through n t : ℕ) (x : Option (List ℕ)) (missing : ℕ) (rows : List Row) → IsWalked s span ts key through n t x missing rows → missing ≤ 0 → AreNextIn s span ts key through n rows
walk_full s span ts key through n t x missing rows walked none = grind (arith, common_steps)

pub no_rows : (rows : List Row) → ((r : Row) → IsRowIn r rows → ⊥) → rows ≡ []
no_rows [] none = refl
no_rows (r ∷ rows) none = absurd (none r (inl refl))

-- no row is left
pub walk_ends : (s : Stored) (span : Span) (ts : ℕ) (key : Option (List ℕ)) (through n t : ℕ) (x : Option (List ℕ)) (missing : ℕ) (rows : List Row) → IsWalked s span ts key through n t x missing rows → ((r : Row) → IsLeftIn s span t x through r → ⊥) → AreNextIn s span ts key through n rows
walk_ends s span ts key through n t x missing rows walked none =
    let empty : walked.rest ≡ [] = no_rows walked.rest (λ r i. none r ((walked.left.each r).0 i)) in
    grind (arith, common_steps)

-- what is missing is gathered in another way
pub walk_joins : (s : Stored) (span : Span) (ts : ℕ) (key : Option (List ℕ)) (through n t : ℕ) (x : Option (List ℕ)) (missing : ℕ) (rows rows' more : List Row) → IsWalked s span ts key through n t x missing rows → AreNextIn s span t x through missing more → rows' ≡ rows ++ more → AreNextIn s span ts key through n rows'
walk_joins s span ts key through n t x missing rows rows' more walked next joined = record {
  all = rows ++ next.all;
  left = record {
    rising = rises_append rows next.all parts.0 next.left.rising (λ r q i j. parts.2 r q i (moved q j));
    each = λ r. (
      λ i. elim ((in_append r rows next.all).0 i) [
        | inl told ↦ (walked.told.each r).0 ((in_append r rows walked.rest).1 (inl told))
        | inr later ↦ (walked.told.each r).0 ((in_append r rows walked.rest).1 (inr (moved r later)))
      ],
      λ h. elim ((in_append r rows walked.rest).0 ((walked.told.each r).1 h)) [
        | inl told ↦ (in_append r rows next.all).1 (inl told)
        | inr later ↦ (in_append r rows next.all).1 (inr ((next.left.each r).1 ((walked.left.each r).0 later)))
      ],
    );
  };
  first = joined ∙ ap (λ l. rows ++ l) next.first ∙ sym (take-append-add rows next.all missing) ∙ ap (λ m. take m (rows ++ next.all)) walked.count;
}
  where
    parts : RisingRows rows × RisingRows walked.rest × ((r q : Row) → IsRowIn r rows → IsRowIn q walked.rest → row_lt r q ≡ true)
    parts = rises_parts rows walked.rest walked.told.rising

    moved : (r : Row) → IsRowIn r next.all → IsRowIn r walked.rest
    moved r i = (walked.left.each r).1 ((next.left.each r).0 i)

-- ---- where nothing can be left

-- no version is both later and low
pub none_past : (s : Stored) (span : Span) (ts : ℕ) (key : Option (List ℕ)) (through n : ℕ) (rows : List Row) → IsNoneAfter ts key through → rows ≡ [] → AreNextIn s span ts key through n rows
none_past s span ts key through n rows past empty = grind (arith, common_steps)

-- ---- along the store's versions

-- rows are those before the place of a walk over them
pub record IsWalking (s : Stored) (span : Span) (ts : ℕ) (key : Option (List ℕ)) (through n : ℕ) (w : Walk) (missing : ℕ) (rows : List Row) : Type 0 where
  pub store : w.store ≡ s
  pub far : w.through ≡ through
  pub walked : IsWalked s span ts key through n w.ts w.key missing rows

pub begins_walking : (s : Stored) (span : Span) (ts : ℕ) (key : Option (List ℕ)) (through n : ℕ) → IsWalking s span ts key through n (record { store = s; ts = ts; key = key; through = through }) n []
begins_walking s span ts key through n = record { store = refl; far = refl; walked = walk_begins s span ts key through n }

-- a walk that goes on
pub begins_at : (s : Stored) (span : Span) (w : Walk) (through n : ℕ) → w.store ≡ s → w.through ≡ through → IsWalking s span w.ts w.key through n w n []
begins_at s span w through n store far = record { store = store; far = far; walked = walk_begins s span w.ts w.key through n }

pub goes_on_walking : (s : Stored) (span : Span) (ts : ℕ) (key : Option (List ℕ)) (through n : ℕ) (w w' : Walk) (missing missing' : ℕ) (rows rows' : List Row) (y : List ℕ) (i : ℕ) → IsWalking s span ts key through n w missing rows
    → IsStep w i y → w' ≡ record w { ts = i; key = Some y } → IsTold s span i y missing missing' rows rows' → IsWalking s span ts key through n w' missing' rows'
goes_on_walking s span ts key through n w w' missing missing' rows rows' y i walking step moved told = record {
  store = ap (λ (u : Walk). u.store) moved ∙ walking.store;
  far = ap (λ (u : Walk). u.through) moved ∙ walking.far;
  walked = subst (λ (u : Walk). IsWalked s span ts key through n u.ts u.key missing' rows') (sym moved) (walk_steps s span ts key through n w.ts w.key missing missing' rows rows' y i told.0 walking.walked here told.1 told.2);
}
  where
    here : IsStepTo s w.ts w.key through y i
    here = subst (λ u. IsStepTo u w.ts w.key through y i) walking.store (subst (λ m. IsStepTo w.store w.ts w.key m y i) walking.far step)

pub ends_walking : (s : Stored) (span : Span) (ts : ℕ) (key : Option (List ℕ)) (through n : ℕ) (w : Walk) (missing : ℕ) (rows : List Row) → IsWalking s span ts key through n w missing rows → ((y : List ℕ) (i : ℕ) → IsToCome w y i → ⊥) → AreNextIn s span ts key through n rows
ends_walking s span ts key through n w missing rows walking none = walk_ends s span ts key through n w.ts w.key missing rows walking.walked
    (λ r h. grind (arith, common_steps))

has_none : (o : Option Version) → is_some o ≡ true → after_of o ≡ None → ⊥
has_none None e none = cc
has_none (Some v) e none = cc

-- the newest version at or below the place of a step is that of the place
pub step_is : (s : Stored) (w : Walk) (x : List ℕ) (t : ℕ) (v : Version) → w.store ≡ s → IsStep w t x → IsNewestIn s x t v → v.ts ≡ t
step_is s w x t v store step newest = grind (arith, common_steps)

pub step_has : (s : Stored) (w : Walk) (x : List ℕ) (t : ℕ) → w.store ≡ s → IsStep w t x → ((i : ℕ) → i ≤ t → version_in s x i ≡ None) → ⊥
step_has s w x t store step none = has_none (found_in s x t) (subst (λ u. is_some (found_in u x t) ≡ true) store step.one.there) (none t (omega arith))

-- each step passes a key
pub keys_shorten : (es rest : List Entry) (o : Option (Bor (List ℕ) × Bor (List Version))) → TakesFirst deref_pair es o rest → is_some o ≡ true → length rest < length es
keys_shorten es rest None taken some = cc
keys_shorten es rest (Some p) taken some = let l : length es ≡ length (deref_pair p ∷ rest) = ap length taken in omega arith
