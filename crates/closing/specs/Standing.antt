-- The closed timestamp, the protections that stand and how many were made; how their two orders are tied.
use Rattle.std.specs.Prelude.{List, [], ℕ, ◌++◌, ◌∷◌, Bool, None, Option, Some, false, ◌==◌, ◌≡◌, ◌≤◌}
use Rattle.std.specs.BTreeMap.{BTreeMap, IsOrdered, get}
use Rattle.std.specs.BTreeSet.{BTreeSet, contains}
use Rattle.std.specs.Ordering.{nat_cmp, ordering_then}
use Rattle.std.specs.declared.cmp.Ordering.{Ordering}
use Rattle.spans.specs.Collection.{Protection}
use Rattle.spans.specs.declared.report.ProtectionReport.{ProtectionReport}

-- what stands; the newest protection first
pub record Standing : Type 0 where
  pub closed : ℕ
  pub made : ℕ
  pub protections : List Protection

abbrev pub closed_in : Standing → ℕ
closed_in s = s.closed

abbrev pub protections_in : Standing → List Protection
protections_in s = s.protections

abbrev pub made_in : Standing → ℕ
made_in s = s.made

abbrev pub protection : ℕ → ℕ → Protection
protection id t = record { id = id; at = t }

-- the protections of rising numbers with their timestamps, the newest first
abbrev pub newest_first : List (ℕ × ℕ) → List Protection
newest_first [] = []
newest_first (e ∷ es) = newest_first es ++ protection e.0 e.1 ∷ []

-- what is told of a protection, by its number with its timestamp
abbrev pub entry_report : ℕ × ℕ → ProtectionReport
entry_report e = record { number = e.0; timestamp = e.1 }

-- by timestamp, and then by number
abbrev pub pair_cmp : ℕ × ℕ → ℕ × ℕ → Ordering
pair_cmp p q = ordering_then (nat_cmp p.0 q.0) (nat_cmp p.1 q.1)

abbrev pub is_just : Option ℕ → ℕ → Bool
is_just None t = false
is_just (Some s) t = s == t

-- each number is at most n
abbrev pub AreNumbered : ℕ → List (ℕ × ℕ) → Type 0
AreNumbered n [] = Unit {0}
AreNumbered n (e ∷ es) = (e.0 ≤ n) × AreNumbered n es

-- the set has a protection's timestamp with its number, and nothing else
pub record AreTied (made : ℕ) (by_number : BTreeMap ℕ ℕ) (by_timestamp : BTreeSet (ℕ × ℕ)) : Type 0 where
  pub rising : IsOrdered nat_cmp by_number
  pub numbered : AreNumbered made by_number.entries
  pub each : (t id : ℕ) → contains pair_cmp by_timestamp (t, id) ≡ is_just (get nat_cmp by_number id) t
