-- What the store of versions says after one more effect of a history.
use Rattle.std.proofs.Common.{◌≡◌, ℕ, true, cond, List, [], ◌∷◌, Option, Some, None, refl, arith, rules}
use Rattle.std.specs.Prelude.{bytes_eq, is_some, max, option_map}
use Rattle.spans.specs.Effects.{Closes}
use Rattle.spans.specs.Keys.{insert_key}
use Rattle.spans.specs.Reads.{too_late}
use Rattle.spans.specs.declared.state.State.TheVariants as states
use Rattle.plain_database.proofs.Common.{Aborts, After, AllAllowed, Allowed, Begins, Commits, Effect, HardCloses, IsActive, Reads, Scans, Span, Writes, by_test, closed_of, common_steps, eqb-true, false_from_ne_true, in_span, insert_entry, is_at, is_eq-slice_cmp, key_cmp, key_itself, keys_of, lookup, nat_tests, open_above, same_key, visible}
use Rattle.plain_database.specs.declared.versions.begun.Begun.{Begun}
use Rattle.plain_database.specs.declared.versions.reads.Read.TheVariants as reads
use Rattle.plain_database.specs.Table.{source_found, changed, ended, is_crossed, keys_in, reading, seat_in, with_begun, write_in, writing}
use Rattle.plain_database.specs.VersionsTied.{Held, VersionsTied}
use Rattle.plain_database.proofs.TableSteps.{crossed_begun, crossed_more, crossed_same, lookup_begun, lookup_changed}

-- ---- what a transaction wrote, after one more write

other_way : (x y : List ℕ) → is_at (key_cmp y) x ≡ bytes_eq x y
other_way x y = search (is_eq-slice_cmp, by_test, same_key, key_itself, false_from_ne_true, rules, arith)

-- what it wrote at y
pub lookup_inserted : (ws : List (List ℕ × After)) (x : List ℕ) (a : After) (y : List ℕ) → lookup (is_at (key_cmp y)) (insert_entry key_cmp ws x a) ≡ cond (bytes_eq x y) (Some a) (lookup (is_at (key_cmp y)) ws)
lookup_inserted [] x a y = rw (other_way x y) refl
lookup_inserted (w ∷ ws) x a y = grind (arith, common_steps, other_way, same_key x w.0, same_key x y, is_eq-slice_cmp x w.0, lookup_inserted ws x a y)

-- and the keys that it wrote
pub keys_inserted : (ws : List (List ℕ × After)) (x : List ℕ) (a : After) → keys_of (insert_entry key_cmp ws x a) ≡ insert_key x (keys_of ws)
keys_inserted [] x a = refl
keys_inserted (w ∷ ws) x a = grind (arith, common_steps, keys_inserted ws x a)

-- ---- the effects

-- a transaction that wasn't there begins
pub tied_begins : (h : Held) (p : List Effect) (t seat : ℕ) → VersionsTied h p → Allowed p (Begins t seat) → VersionsTied (record h { table = with_begun t seat h.table }) (Begins t seat ∷ p)
tied_begins h p t seat tied allowed = grind (arith, common_steps, eqb-true, nat_tests, lookup_begun, crossed_begun, tied.owners t)

-- a key is read
pub tied_reads : (h : Held) (p : List Effect) (t : ℕ) (x : List ℕ) (v : After) (k : ℕ) → VersionsTied h p → IsActive p t → k ≡ (visible p x t).ts
    → VersionsTied (record h { table = changed (reading (reads.Key x k)) h.table t }) (Reads t x v ∷ p)
tied_reads h p t x v k tied active is = grind (arith, common_steps, lookup_changed, crossed_more, tied.owners t)

-- a span is scanned: of each of its keys the sources have the version that its reader sees
pub tied_scans : (h : Held) (p : List Effect) (t : ℕ) (span : Span) (sources : List (List ℕ × ℕ)) (rows : List (List ℕ × List ℕ)) → VersionsTied h p → IsActive p t
    → ((y : List ℕ) → in_span span y ≡ true → source_found sources y ≡ (visible p y t).ts) → VersionsTied (record h { table = changed (reading (reads.Span span sources)) h.table t }) (Scans t span rows ∷ p)
tied_scans h p t span sources rows tied active given = grind (arith, common_steps, lookup_changed, crossed)
  where
    crossed : (y : List ℕ) (i : ℕ) → is_crossed (changed (reading (reads.Span span sources)) h.table t) y i ≡ too_late (Scans t span rows ∷ p) y i
    crossed y i = by_test (in_span span y) (λ on. grind (arith, common_steps, crossed_more, tied.owners t, tied.reads y i, given y on)) (λ off. grind (arith, common_steps, crossed_more, tied.owners t, tied.reads y i))

-- a key is written
pub tied_writes : (h : Held) (p : List Effect) (t : ℕ) (x : List ℕ) (a : After) → VersionsTied h p → IsActive p t → VersionsTied (record h { table = changed (writing x a) h.table t }) (Writes t x a ∷ p)
tied_writes h p t x a tied active = grind (arith, common_steps, eqb-true, lookup_changed, crossed_same, wrote, keys, tied.owners t)
  where
    wrote : (o : Option Begun) (y : List ℕ) → is_some (seat_in o) ≡ true → write_in (option_map (writing x a) o) y ≡ cond (bytes_eq x y) (Some a) (write_in o y)
    wrote None y is = cc
    wrote (Some b) y is = lookup_inserted b.writes x a y

    keys : (o : Option Begun) → is_some (seat_in o) ≡ true → keys_in (option_map (writing x a) o) ≡ insert_key x (keys_in o)
    keys None is = cc
    keys (Some b) is = keys_inserted b.writes x a

-- a transaction commits
pub tied_commits : (h : Held) (p : List Effect) (t : ℕ) → VersionsTied h p → IsActive p t → VersionsTied (record h { table = changed (ended states.Committed) h.table t }) (Commits t ∷ p)
tied_commits h p t tied active = grind (arith, common_steps, eqb-true, lookup_changed, crossed_same, tied.owners t)

-- a transaction aborts
pub tied_aborts : (h : Held) (p : List Effect) (t : ℕ) → VersionsTied h p → IsActive p t → VersionsTied (record h { table = changed (ended states.Aborted) h.table t }) (Aborts t ∷ p)
tied_aborts h p t tied active = grind (arith, common_steps, eqb-true, lookup_changed, crossed_same, tied.owners t)

-- closed moves
pub tied_closes : (h : Held) (p : List Effect) (at : ℕ) → VersionsTied h p → AllAllowed (Closes at ∷ p) → VersionsTied (record h { closed = at }) (Closes at ∷ p)
tied_closes h p at tied all = grind (arith, common_steps, nat_tests, open_above (Closes at ∷ p) all)

-- closed moves hard
pub tied_hard_closes : (h : Held) (p : List Effect) (to at : ℕ) → VersionsTied h p → AllAllowed p → at ≡ max (closed_of p) to → VersionsTied (record h { closed = at }) (HardCloses to at ∷ p)
tied_hard_closes h p to at tied all is = grind (arith, common_steps, nat_tests)
