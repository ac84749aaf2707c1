-- How a transaction begins and how it ends, what a table of transactions says, and how the undecided are tied to the
-- endings.
use Rattle.std.specs.Prelude.{None, Option, Some, option_map, unwrap_or, ℕ, List, false, if◌then◌else◌, is_some, true, ◌==◌, ◌≡◌, ◌≤◌}
use Rattle.std.specs.BTreeMap.{is_at}
use Rattle.std.specs.Map.{lookup}
use Rattle.std.specs.Ordering.{nat_cmp}
use Rattle.spans.specs.Kept.{Transaction}
use Rattle.kept.specs.Finding.{new_transaction}
use Rattle.spans.specs.declared.state.State.{State}
use Rattle.spans.specs.declared.state.State.TheVariants as states
use Rattle.txn_table.specs.declared.ending.Outcome.{Outcome}
use Rattle.txn_table.specs.declared.ending.Ending.{Ending}
use Rattle.txn_table.specs.declared.ending.Outcome.TheVariants as outcomes

-- the transaction that there is, or else a new one of the seat
abbrev pub begun : ℕ → Option Transaction → Option Transaction
begun seat o = Some (unwrap_or o (new_transaction seat))

-- how a transaction stands that has ended so
abbrev pub state_after : Outcome → State
state_after outcomes.Committed = states.Committed
state_after outcomes.Aborted = states.Aborted

-- the transaction, ended so
abbrev pub decided : Outcome → Transaction → Transaction
decided outcome n = record n { state = state_after outcome }

-- the ending of an undecided transaction of the seat
abbrev pub first_ending : ℕ → Ending
first_ending seat = record { seat = seat; outcome = outcomes.Committed }

-- the transaction that ended so
abbrev pub ended : Ending → Transaction
ended e = record { seat = e.seat; state = state_after e.outcome }

-- the transaction of a seat that is among the undecided, whatever its ending says, or else the one that has ended
abbrev pub standing : Option ℕ → Option Ending → Option Transaction
standing None e = option_map ended e
standing (Some seat) e = Some (new_transaction seat)

-- the seats of the undecided transactions, and an ending of each transaction, with their timestamps
pub record Table : Type 0 where
  pub undecided : List (ℕ × ℕ)
  pub endings : List (ℕ × Ending)

-- what stands at t
abbrev pub found : {A : Type 0} → List (ℕ × A) → ℕ → Option A
found es t = lookup (is_at (nat_cmp t)) es

-- the transaction of t
abbrev pub transaction_in : Table → ℕ → Option Transaction
transaction_in table t = standing (found table.undecided t) (found table.endings t)

-- the transaction of t became f of what it was, and the others are as they were
abbrev pub IsSetAt : Table → Table → ℕ → (Option Transaction → Option Transaction) → Type 0
IsSetAt table table' t f = (i : ℕ) → transaction_in table' i ≡ (if t == i then f (transaction_in table i) else transaction_in table i)

-- the greatest timestamp that has a transaction
abbrev pub IsGreatest : Table → Option ℕ → Type 0
IsGreatest table None = (t : ℕ) → is_some (transaction_in table t) ≡ false
IsGreatest table (Some g) = (is_some (transaction_in table g) ≡ true) × ((t : ℕ) → is_some (transaction_in table t) ≡ true → t ≤ g)

-- where a seat's transaction is undecided, its ending is that seat's, and says that it has committed
abbrev pub IsTied : Option ℕ → Option Ending → Type 0
IsTied o e = (seat : ℕ) → o ≡ Some seat → e ≡ Some (first_ending seat)

-- so of each timestamp
abbrev pub AreUndecided : List (ℕ × ℕ) → List (ℕ × Ending) → Type 0
AreUndecided undecided endings = (t : ℕ) → IsTied (found undecided t) (found endings t)
