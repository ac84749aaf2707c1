-- What a dump writes is what the definitions say.
use Rattle.std.proofs.Common.{◌≡◌, ℕ, ◌∷◌, ◌∙◌, List, [], refl, ap, inl, inr, Some, arith}
use Rattle.std.specs.Prelude.{filter, max}
use Rattle.spans.proofs.Dead.{committed_is}
use Rattle.plain_database.proofs.Common.{Event, IsRowIn, Row, all_keys, closed_version, committed_version_of, common_steps, effects_of, greatest_of, horizon_low, horizon_of, in_stream, is_left, left_rows, legal_allowed, nat_tests, newest, newest_same, stream_of}
use Rattle.plain_database.specs.declared.database.PlainDatabase.{PlainDatabase}
use Rattle.plain_database.specs.Streams.{is_kept}
use Rattle.plain_database.specs.Tied.{StandsFor}
use Rattle.plain_database.specs.VersionsTied.{version_in}

-- ---- where a dump closes

pub greatest_more : (n : ℕ) (ms : List ℕ) → greatest_of n ms ≡ max n (greatest_of 0 ms)
greatest_more n [] = omega arith
greatest_more n (m ∷ ms) = omega (arith, greatest_more n ms)

-- ---- which rows are left

module _ (db : PlainDatabase) (h : List Event) (stands : StandsFor db h) where
  same_newest : (x : List ℕ) → newest (version_in db.versions x) db.horizon ≡ newest (committed_version_of (effects_of h) x) (horizon_of (effects_of h))
  same_newest x =
      let p = effects_of h in
      let all = legal_allowed h stands.legal in
      ap (newest (version_in db.versions x)) stands.tied.horizon_at
      ∙ newest_same (version_in db.versions x) (committed_version_of p x) (horizon_of p) (λ i low. grind (arith, common_steps, closed_version p all x i, horizon_low p all))

  -- a committed version
  same_left : (r : Row) → committed_version_of (effects_of h) r.key r.ts ≡ Some r.after → is_kept db r ≡ is_left (effects_of h) r
  same_left r there = grind (arith, common_steps, nat_tests, committed_is (effects_of h) r.key r.ts r.after there, same_newest r.key)

  alike : (rows : List Row) → ((r : Row) → IsRowIn r rows → committed_version_of (effects_of h) r.key r.ts ≡ Some r.after) → filter (is_kept db) rows ≡ filter (is_left (effects_of h)) rows
  alike [] each = refl
  alike (r ∷ rows) each = grind (arith, common_steps, same_left r (each r (inl refl)), alike rows (λ q i. each q (inr i)))

  pub left_are : (through : ℕ) → filter (is_kept db) (stream_of (effects_of h) all_keys 0 through) ≡ left_rows (effects_of h) through
  left_are through = alike (stream_of (effects_of h) all_keys 0 through) (λ r i. grind (arith, common_steps, (in_stream (effects_of h) all_keys 0 through r).0 i))
