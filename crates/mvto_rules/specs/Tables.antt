-- What the rules ask of the table of transactions.
use Rattle.std.specs.Prelude.{is_some, true, ℕ, ◌≡◌, ◌≤◌}
use Rattle.mvto_rules.specs.Prelude.{MAX, Table, transaction_in}

-- only a number that is a timestamp has a transaction
abbrev pub AreInRange : Table → Type 0
AreInRange table = (t : ℕ) → is_some (transaction_in table t) ≡ true → (1 ≤ t) × (t ≤ MAX)
