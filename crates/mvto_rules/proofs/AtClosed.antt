-- The replies to reads at a closed timestamp, and to commands of protections.
use Rattle.mvto_rules.proofs.Common.{After, AreKeysOf, Found, IsAnswered, IsStep, IsWanting, Kept, MAX, NoProtection, Protect, Protected, Protection, ReadAt, Refusal, Refused, Release, Released, Rows, ScanAt, Span, Standing, TsRange, alike_self, closed_in, common_steps, list_any, made_in, nat_tests, pairs_of, protection, protections_in, seen}
use Rattle.std.proofs.Common.{List, None, Option, Some, arith, false, refl, suc, true, ℕ, ◌<◌, ◌≤◌, ◌==◌, ◌∷◌, ◌≡◌, []}
use Rattle.std.specs.Prelude.{filter, not}
use Rattle.mvto_rules.specs.Scans.{horizon_refusal, snapshot_refusal}

-- ---- tests

pub none_unless : (o : Option Refusal) → ((q : Refusal) → o ≡ Some q → ⊥) → o ≡ None
none_unless None never' = refl
none_unless (Some q) never' = absurd (never' q refl)

-- at or below closed the horizon decides
pub snapshot_below : (k : Kept) (t : ℕ) (o : Option Refusal) → t ≤ k.closed → o ≡ horizon_refusal k t → o ≡ snapshot_refusal k t
snapshot_below k t o low is = grind (arith, nat_tests, common_steps)

-- ---- reads at a closed timestamp

pub read_refused : (k : Kept) (seat t : ℕ) (x : List ℕ) (q : Refusal) → Some q ≡ snapshot_refusal k t → IsAnswered k k seat (ReadAt t x) (Refused q)
read_refused k seat t x q is = grind (arith, common_steps)

pub read_done : (k : Kept) (seat t : ℕ) (x : List ℕ) (a : After) → snapshot_refusal k t ≡ None → a ≡ (seen k x t).after → IsAnswered k k seat (ReadAt t x) (Found a)
read_done k seat t x a none is = grind (arith, common_steps)

pub read_wanting : (k : Kept) (seat t : ℕ) (x : List ℕ) → snapshot_refusal k t ≡ None → IsWanting k k seat (ReadAt t x)
read_wanting k seat t x none = grind (arith, common_steps)

pub scan_refused : (k : Kept) (seat t : ℕ) (span : Span) (q : Refusal) → Some q ≡ snapshot_refusal k t → IsAnswered k k seat (ScanAt t span) (Refused q)
scan_refused k seat t span q is = grind (arith, common_steps)

pub scan_done : (k : Kept) (seat t : ℕ) (span : Span) (keys : List (List ℕ)) (rows : List (List ℕ × List ℕ)) → snapshot_refusal k t ≡ None → AreKeysOf k span keys → rows ≡ pairs_of (λ x. (seen k x t).after) keys → IsAnswered k k seat (ScanAt t span) (Rows rows)
scan_done k seat t span keys rows none are is = record { right = (keys, (λ low high. are), grind (arith, common_steps)); change = alike_self k }

pub scan_wanting : (k : Kept) (seat t : ℕ) (span : Span) (keys : List (List ℕ)) → snapshot_refusal k t ≡ None → AreKeysOf k span keys → IsWanting k k seat (ScanAt t span)
scan_wanting k seat t span keys none are = record { may = refl; accepting = (Rows (pairs_of (λ x. (seen k x t).after) keys), (keys, (λ low high. are), grind (arith, common_steps)), refl); alike = alike_self k }

-- ---- protections

-- what is kept, with this closed timestamp and these protections
abbrev pub with_standing : Kept → Standing → Kept
with_standing k c = record k { closed = closed_in c; protections = protections_in c; protections_made = made_in c }

pub protect_outside : (k : Kept) (seat t : ℕ) → MAX < t → IsAnswered k k seat (Protect t) (Refused TsRange)
protect_outside k seat t high = grind (arith, nat_tests, common_steps)

pub protect_refused : (k : Kept) (seat t : ℕ) (q : Refusal) → t ≤ MAX → Some q ≡ horizon_refusal k t → IsAnswered k k seat (Protect t) (Refused q)
protect_refused k seat t q low is = grind (arith, nat_tests, common_steps)

pub protect_done : (k : Kept) (seat t id : ℕ) (c : Standing) → t ≤ MAX → horizon_refusal k t ≡ None → id ≡ suc k.protections_made
    → closed_in c ≡ k.closed → protections_in c ≡ protection id t ∷ k.protections → made_in c ≡ suc k.protections_made → IsAnswered k (with_standing k c) seat (Protect t) (Protected id)
protect_done k seat t id c low none number closed protected made = grind (arith, common_steps)

pub protect_wanting : (k : Kept) (seat t : ℕ) (c : Standing) → t ≤ MAX → horizon_refusal k t ≡ None → closed_in c ≡ k.closed → protections_in c ≡ k.protections → made_in c ≡ k.protections_made → IsWanting k (with_standing k c) seat (Protect t)
protect_wanting k seat t c low none closed protections made = grind (arith, common_steps)

pub release_done : (k : Kept) (seat id : ℕ) (c : Standing) → list_any (λ (n : Protection). n.id == id) k.protections ≡ true
    → closed_in c ≡ k.closed → protections_in c ≡ filter (λ (n : Protection). not (n.id == id)) k.protections → made_in c ≡ k.protections_made → IsStep k (with_standing k c) seat (Release id) Released
release_done k seat id c stood closed released made = grind (arith, common_steps)

-- where none is of the number, all stay
all_stay : (id : ℕ) (ps : List Protection) → list_any (λ (n : Protection). n.id == id) ps ≡ false → filter (λ (n : Protection). not (n.id == id)) ps ≡ ps
all_stay id [] none = refl
all_stay id (p ∷ ps) none = grind (arith, common_steps, all_stay id ps)

pub release_none : (k : Kept) (seat id : ℕ) (c : Standing) → list_any (λ (n : Protection). n.id == id) k.protections ≡ false
    → closed_in c ≡ k.closed → protections_in c ≡ filter (λ (n : Protection). not (n.id == id)) k.protections → made_in c ≡ k.protections_made → IsStep k (with_standing k c) seat (Release id) (Refused NoProtection)
release_none k seat id c none closed released made = grind (arith, common_steps, all_stay)
