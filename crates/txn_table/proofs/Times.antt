-- The undecided timestamps as a list.
use Rattle.std.proofs.lemmas.Grind.{common_steps}
use Rattle.std.proofs.Common.{Bool, List, Option, arith, refl, ℕ, ◌&&◌, ◌∷◌, ◌≡◌, []}
use Rattle.std.specs.Prelude.{filter, is_some, nat_le}
use Rattle.std.specs.List.Sorted.{IsStrictlyIncreasing, IsStrictlySortedBy}
use Rattle.std.specs.Map.{keys_of}
use Rattle.std.specs.Ordering.{nat_cmp}
use Rattle.std.specs.BTreeMap.Range.{entries_between, range_contains}
use Rattle.std.specs.declared.ops.Bound.TheVariants.{Included, Unbounded}
use Rattle.std.proofs.lemmas.Bool.{and_from, and_parts}
use Rattle.std.specs.BTreeMap.{is_at}
use Rattle.std.proofs.lemmas.List.Kept.{IsStrictlyIncreasing-filter}
use Rattle.std.proofs.lemmas.Map.Keys.{IsStrictlyIncreasing-from_sorted}
use Rattle.std.proofs.lemmas.Map.Made.{is_some-lookup}
use Rattle.spans.proofs.Members.{distinct_filter, has_filter}
use Rattle.spans.proofs.Sets.{has_any, distinct_times, in_range}
use Rattle.kept.specs.Finding.{AreThose, is_open}
use Rattle.txn_table.specs.States.{standing, Table, found, transaction_in}
use Rattle.txn_table.specs.declared.ending.Ending.{Ending}

-- it is undecided where a seat is found
open_is : (o : Option ℕ) (e : Option Ending) → is_open (standing o e) ≡ is_some o
open_is o e = grind (arith, common_steps)

-- they are those that are undecided
pub those : (table : Table) → IsStrictlySortedBy nat_cmp (keys_of table.undecided) → AreThose (λ t. is_open (transaction_in table t)) (keys_of table.undecided)
those table ordered = record {
  distinct = distinct_times (keys_of table.undecided) ordered;
  each = λ t. let any = has_any t (keys_of table.undecided) in let is = open_is (found table.undecided t) (found table.endings t) in let some = is_some-lookup (is_at (nat_cmp t)) table.undecided in grind (arith, common_steps);
}

-- the keys of a part
kept_keys : (p : ℕ → Bool) (es : List (ℕ × ℕ)) → keys_of (filter (λ (e : ℕ × ℕ). p e.0) es) ≡ filter p (keys_of es)
kept_keys p [] = refl
kept_keys p (e ∷ es) = grind (arith, common_steps, kept_keys p es)

abbrev within : ℕ → ℕ → Bool
within to = range_contains nat_cmp Unbounded (Included to)

-- the part at or below a timestamp is those that are undecided there
pub those_through : (table : Table) (to : ℕ) → IsStrictlySortedBy nat_cmp (keys_of table.undecided)
    → AreThose (λ t. nat_le t to && is_open (transaction_in table t)) (keys_of (entries_between nat_cmp Unbounded (Included to) table.undecided))
those_through table to ordered = let all = those table ordered in rw (kept_keys (within to) table.undecided) (record {
  distinct = distinct_filter (within to) (keys_of table.undecided) all.distinct;
  each = λ t. let some = has_filter (within to) t (keys_of table.undecided) in let low = in_range to t in let there = all.each t in grind (arith, common_steps, and_from, and_parts);
})

-- and rises
pub rising_through : (es : List (ℕ × ℕ)) (to : ℕ) → IsStrictlySortedBy nat_cmp (keys_of es) → IsStrictlyIncreasing (keys_of (entries_between nat_cmp Unbounded (Included to) es))
rising_through es to ordered = rw (kept_keys (within to) es) (IsStrictlyIncreasing-filter (within to) (keys_of es) (IsStrictlyIncreasing-from_sorted (keys_of es) ordered))
