-- The reply to a collection, and what it changes.
use Rattle.std.proofs.lemmas.Grind.{common_steps}
use Rattle.std.proofs.Common.{List, None, Option, ap, arith, length, subst, sym, ℕ, ◌<◌, ◌≤◌, ◌≡◌, ◌∙◌}
use Rattle.std.specs.Prelude.{Some, map, min}
use Rattle.mvto_rules.proofs.Common.{AreThose, Collect, Collected, IsAnswered, IsCollectedTo, Kept, MAX, Protection, Refused, TsRange, VersionName, is_dropped, nat_tests, reached, within}
use Rattle.spans.specs.Transactions.{least_of}
use Rattle.kept.specs.Places.{IsLeastFloor, or_min}

pub collect_outside : (k : Kept) (seat to : ℕ) → MAX < to → IsAnswered k k seat (Collect to) (Refused TsRange)
collect_outside k seat to high = grind (arith, nat_tests, common_steps)

-- to reach to, but no further than the limit, is to be held back by each alone
pub held_back : (protection floor : Option ℕ) (to closed : ℕ) → min to (or_min protection (or_min floor closed)) ≡ or_min protection (or_min floor (min to closed))
held_back None floor to closed = grind (arith, common_steps)
held_back (Some p) floor to closed = grind (arith, common_steps)

pub collect_done : (k k' : Kept) (seat to horizon count : ℕ) (protection floor : Option ℕ) (dropped : List VersionName) → to ≤ MAX → horizon ≡ reached k to protection floor
    → ((n : ℕ) → or_min protection n ≡ least_of n (map (λ (n : Protection). n.at) k.protections)) → IsLeastFloor k.feed floor → AreThose (is_dropped k horizon) dropped → length dropped ≡ count → IsCollectedTo k k' horizon → IsAnswered k k' seat (Collect to) (Collected horizon count)
collect_done k k' seat to horizon count protection floor dropped low is least lowest those counted change = record {
  right = (
    protection,
    floor,
    dropped,
    (λ l. record { least_protection = least; lowest_floor = lowest; drops = subst (λ n. AreThose (is_dropped k n) dropped) is those }),
    ap (λ n. Collected n count) is ∙ ap (Collected (reached k to protection floor)) (sym counted) ∙ sym (within to _ low),
  );
  change = change;
}
