-- Two rows, or two messages, are the same where their parts are.
use Rattle.std.proofs.Common.{◌≡◌, ℕ, ◌==◌, ◌&&◌, List, Option, Some, None, refl, ap}
use Rattle.std.specs.Bool.{Decides}
use Rattle.std.specs.Str.{bytes_eq}
use Rattle.std.specs.Option.{option_eq}
use Rattle.std.proofs.lemmas.Bool.Decides.{Decides-and, Decides-like, Decides-eqb}
use Rattle.std.proofs.lemmas.Slice.Eq.{bytes_eq-Decides}
use Rattle.timestamps.specs.declared.row.Row.{Row as CommittedRow}
use Rattle.spans.specs.declared.calls.messages.Message.{Message}
use Rattle.spans.specs.declared.calls.messages.Message.TheVariants.{Row, Resolved}
use Rattle.spans.specs.contracts.calls.messages.MessagePartialEq.TheImpl.{eq-value}

-- pairs are the same where their parts are
pair_is : (x y v w : List ℕ) → x ≡ y → v ≡ w → let one : List ℕ × List ℕ = (x, v) in one ≡ (y, w)
pair_is x y v w key value = cc

-- rows are the same where their parts are
row_is : (i j : ℕ) (x y : List ℕ) (v w : Option (List ℕ)) → i ≡ j → x ≡ y → v ≡ w → let one : CommittedRow = record { ts = i; key = x; after = v } in one ≡ record { ts = j; key = y; after = w }
row_is i j x y v w ts key after = cc

-- a key and its value are compared byte by byte
pub pairs_decide : (a b : List ℕ × List ℕ) → Decides (bytes_eq a.0 b.0 && bytes_eq a.1 b.1) (a ≡ b)
pairs_decide a b = Decides-like _ (λ same. pair_is a.0 b.0 a.1 b.1 same.0 same.1) (λ same. (ap (λ p. p.0) same, ap (λ p. p.1) same)) (Decides-and _ _ (bytes_eq-Decides a.0 b.0) (bytes_eq-Decides a.1 b.1))

-- values are compared where there are any
afters_decide : (a b : Option (List ℕ)) → Decides (option_eq bytes_eq a b) (a ≡ b)
afters_decide (Some v) (Some w) = Decides-like _ (ap Some) (λ same. cc) (bytes_eq-Decides v w)
afters_decide None None = (λ _. refl, λ _. refl)
afters_decide _ _ = (λ no. cc, λ no. cc)

-- a row is compared by its timestamp, its key and its value
rows_decide : (a b : CommittedRow) → Decides (a.ts == b.ts && (bytes_eq a.key b.key && option_eq bytes_eq a.after b.after)) (a ≡ b)
rows_decide a b = Decides-like _ (λ same. row_is a.ts b.ts a.key b.key a.after b.after same.0 same.1.0 same.1.1) (λ same. (ap (λ (r : CommittedRow). r.ts) same, (ap (λ (r : CommittedRow). r.key) same, ap (λ (r : CommittedRow). r.after) same)))
    (Decides-and _ _ (Decides-eqb a.ts b.ts) (Decides-and _ _ (bytes_eq-Decides a.key b.key) (afters_decide a.after b.after)))

-- a message is compared as a row, or by its timestamp
pub messages_decide : (a b : Message) → Decides (eq-value.it a b) (a ≡ b)
messages_decide (Row a) (Row b) = Decides-like _ (ap Row) (λ same. cc) (rows_decide a b)
messages_decide (Resolved a) (Resolved b) = Decides-like _ (ap Resolved) (λ same. cc) (Decides-eqb a b)
messages_decide _ _ = (λ no. cc, λ no. cc)
