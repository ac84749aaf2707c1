-- What is told of the undecided transactions, one after another.
use Rattle.mvto_rules.proofs.Common.{AreThose, Has, IsNumberOf, IsStrictlyIncreasing, Kept, MAX, Transaction, and_from, and_parts, append-nil, common_steps, is_open, map-append, nat_tests, transaction_in}
use Rattle.std.proofs.Common.{List, Option, None, Some, [], ap, append_assoc, arith, inl, inr, map, refl, subst, sym, true, ℕ, ◌++◌, ◌∷◌, ◌≡◌, ◌∙◌, ◌≤◌}
use Rattle.std.specs.Prelude.{All, Contains, is_some, nat_le, option_map, ◌&&◌, ◌↔◌}
use Rattle.std.proofs.lemmas.List.Elements.{All-push}
use Rattle.spans.specs.declared.report.TransactionReport.{TransactionReport}
use Rattle.spans.specs.declared.state.State.{State}
use Rattle.kept.specs.Reports.{AreOpen, IsToldOf}
use Rattle.kept.proofs.Contained.{contains_has}
use Rattle.mvto_rules.specs.Holding.{holding}
use Rattle.mvto_rules.specs.Tables.{AreInRange}
use Rattle.mvto_rules.specs.declared.rules.Rules.{Rules}
use Rattle.mvto_rules.proofs.Closing.{some_open}

-- the timestamps that are undecided, of all that there are
abbrev pub AreAllOpen : Rules → List ℕ → Type 0
AreAllOpen r all = AreThose (λ t. nat_le t 18446744073709551615 && is_open (transaction_in r.txns t)) all

abbrev times : List TransactionReport → List ℕ
times ns = map (λ (n : TransactionReport). n.timestamp) ns

-- these are told, and the rest of the timestamps is still to be
pub record IsTelling (r : Rules) (all rest : List ℕ) (ns : List TransactionReport) : Type 0 where
  pub times : times ns ++ rest ≡ all
  pub stand : (t : ℕ) → Has t rest → is_some (transaction_in r.txns t) ≡ true
  pub right : (k : Kept) → All (IsToldOf (holding k r)) ns

pub telling_begins : (r : Rules) (all : List ℕ) → AreAllOpen r all → IsTelling r all all []
telling_begins r all those = grind (arith, common_steps)

-- the seat of a transaction, and how it stands
abbrev standing : Option Transaction → Option (ℕ × State)
standing o = option_map (λ (n : Transaction). (n.seat, n.state)) o

seat_of : (o : Option Transaction) (p : ℕ × State) → Some p ≡ standing o → option_map (λ (n : Transaction). n.seat) o ≡ Some p.0
seat_of None p e = cc
seat_of (Some n) p e = cc

-- the next of them stands
pub next_stands : (r : Rules) (all rest : List ℕ) (t : ℕ) (ns : List TransactionReport) (o : Option (ℕ × State)) → IsTelling r all (t ∷ rest) ns → o ≡ standing (transaction_in r.txns t) → is_some o ≡ true
next_stands r all rest t ns o so is = ap is_some is ∙ by_transaction (transaction_in r.txns t) (so.stand t (inl refl))
  where
    by_transaction : (m : Option Transaction) → is_some m ≡ true → is_some (standing m) ≡ true
    by_transaction None e = e
    by_transaction (Some n) e = refl

pub telling_goes_on : (r : Rules) (all rest : List ℕ) (t keys : ℕ) (p : ℕ × State) (ns : List TransactionReport) → IsTelling r all (t ∷ rest) ns → Some p ≡ standing (transaction_in r.txns t)
    → ((k : Kept) → IsNumberOf (λ x. is_some ((holding k r).version x t)) keys)
    → IsTelling r all rest (ns ++ record { timestamp = t; seat = p.0; keys = keys } ∷ [])
telling_goes_on r all rest t keys p ns so stands counted =
    let told : TransactionReport = record { timestamp = t; seat = p.0; keys = keys } in
    record {
      times = ap (λ l. l ++ rest) (map-append (λ (n : TransactionReport). n.timestamp) ns (told ∷ [])) ∙ simp append_assoc so.times;
      stand = λ u i. so.stand u (inr i);
      right = λ k. All-push (IsToldOf (holding k r)) ns told (so.right k) (record { seat = seat_of (transaction_in r.txns t) p stands; keys = counted k });
    }

pub telling_ends : (k : Kept) (r : Rules) (all : List ℕ) (ns : List TransactionReport) → AreInRange r.txns → AreAllOpen r all → IsStrictlyIncreasing all → IsTelling r all [] ns → AreOpen (holding k r) ns
telling_ends k r all ns range those rising so =
    let named : times ns ≡ all = sym (append-nil (times ns)) ∙ so.times in
    record {
      rising = subst IsStrictlyIncreasing (sym named) rising;
      each = λ t. subst (λ l. Contains l t ↔ (is_open (transaction_in r.txns t) ≡ true)) (sym named) (let c = contains_has t all in (λ i. (and_parts _ _ ((those.each t).0 (c.0 i))).1, λ e. c.1 ((those.each t).1 (and_from _ _ (below t e) e))));
      right = so.right k;
    }
  where
    below : (t : ℕ) → is_open (transaction_in r.txns t) ≡ true → nat_le t 18446744073709551615 ≡ true
    below t e = let low : t ≤ MAX = (range t (some_open (transaction_in r.txns t) e)).1 in grind (arith, nat_tests)
