-- Closings. A hard one takes back what undecided transactions wrote, one after another.
use Rattle.mvto_rules.proofs.Common.{After, AreDistinct, AreDroppedAt, AreThose, Close, CloseHard, Closed, Has, IsClosedAt, IsHardClosedAt, IsOldest, IsStep, Kept, MAX, Protection, Refused, Stored, Table, Transaction, TsRange, and_parts, both_ways, by_test, common_steps, is_committed_in, is_open, nat_tests, reach, transaction_in, version_in}
use Rattle.std.proofs.Common.{Bool, List, None, Option, Some, arith, cond, eqb-true, eq-eqb, inl, inr, length, refl, subst, sym, true, ℕ, ◌<◌, ◌==◌, ◌&&◌, ◌∷◌, ◌≡◌, ◌∙◌, []}
use Rattle.std.specs.Prelude.{is_some, max, nat_le, ◌≤◌}
use Rattle.mvto_rules.specs.Holding.{AreTakenBack, is_taken_back}
use Rattle.mvto_rules.specs.Tables.{AreInRange}

-- the transactions that are left are still to be taken back
pub record IsTakingBack (s s' : Stored) (table : Table) (to : ℕ) (rest : List ℕ) : Type 0 where
  pub stays : (y : List ℕ) (i : ℕ) → Has i rest → version_in s' y i ≡ version_in s y i
  pub gone : (y : List ℕ) (i : ℕ) → (Has i rest → ⊥) → version_in s' y i ≡ cond (is_taken_back table to i) None (version_in s y i)
  pub committed : (y : List ℕ) (i : ℕ) (b : After) → version_in s' y i ≡ Some b → is_committed_in s' y i ≡ is_committed_in s y i
  pub part : (t : ℕ) → Has t rest → is_taken_back table to t ≡ true
  pub distinct : AreDistinct rest

pub taking_begins : (s : Stored) (table : Table) (to : ℕ) (all : List ℕ) → AreThose (is_taken_back table to) all → IsTakingBack s s table to all
taking_begins s table to all those = record {
  stays = λ y i h. refl;
  gone = λ y i none. by_test (is_taken_back table to i) (λ on. absurd (none ((those.each i).1 on))) (λ off. rw off refl);
  committed = λ y i b e. refl;
  part = λ t i. (those.each t).0 i;
  distinct = those.distinct;
}

pub some_open : (o : Option Transaction) → is_open o ≡ true → is_some o ≡ true
some_open None e = cc
some_open (Some n) e = refl

-- it is the transaction of a timestamp
pub taken_in_range : (table : Table) (to t : ℕ) → AreInRange table → is_taken_back table to t ≡ true → (1 ≤ t) × (t ≤ MAX)
taken_in_range table to t range is = range t (some_open (transaction_in table t) (and_parts (nat_le t to) (is_open (transaction_in table t)) is).1)

pub taking_goes_on : (s s1 s2 : Stored) (table : Table) (to x : ℕ) (rest : List ℕ) → IsTakingBack s s1 table to (x ∷ rest) → AreDroppedAt s1 s2 x → IsTakingBack s s2 table to rest
taking_goes_on s s1 s2 table to x rest taking aborted = record {
  stays = λ y i h. by_test (x == i)
      (λ same. absurd (taking.distinct.0 (subst (λ j. Has j rest) (sym (eqb-true x i same)) h)))
      (λ other. aborted.version y i ∙ rw other (taking.stays y i (inr h)));
  gone = λ y i none. by_test (x == i)
      (λ same. aborted.version y i ∙ rw (same, subst (λ j. is_taken_back table to j ≡ true) (eqb-true x i same) (taking.part x (inl refl))) refl)
      (λ other. aborted.version y i ∙ rw other (taking.gone y i (λ h. elim h [ inl here ↦ both_ways _ other (eq-eqb x i here) | inr there ↦ none there ])));
  committed = λ y i b e. aborted.committed y i b e ∙ taking.committed y i b (grind (arith, common_steps, aborted.version y i, e));
  part = λ t i. taking.part t (inr i);
  distinct = taking.distinct.1;
}

pub taking_ends : (s s' : Stored) (table : Table) (to : ℕ) → IsTakingBack s s' table to [] → AreTakenBack s s' (is_taken_back table to)
taking_ends s s' table to taking = record { version = λ y i. taking.gone y i (λ h. h); committed = taking.committed }

-- what was taken back and then closed was closed hard
pub hard_closed : (k k' : Kept) (v : List ℕ → ℕ → Option After) (d : List ℕ → ℕ → Bool) (to n : ℕ)
    → ((y : List ℕ) (i : ℕ) → v y i ≡ cond (nat_le i to && is_open (k.transaction i)) None (k.version y i)) → ((y : List ℕ) (i : ℕ) (b : After) → v y i ≡ Some b → d y i ≡ k.committed y i)
    → IsClosedAt (record k { version = v; committed = d }) k' n → IsHardClosedAt k k' to n
hard_closed k k' v d to n version committed closed = record { version = λ y i. grind (arith, common_steps, version y i); committed = λ y i b e. grind (arith, common_steps, committed y i b); marked = closed.marked; transaction = closed.transaction; rest = grind (arith, common_steps) }

-- what the closing tells is as it says
pub closed_so : (k k' : Kept) (was n m : ℕ) (ps qs : List Protection) (i j : ℕ) → n ≡ m → ps ≡ qs → i ≡ j → IsClosedAt (record k { closed = was; protections = ps; protections_made = i }) k' n → IsClosedAt (record k { closed = was; protections = qs; protections_made = j }) k' m
closed_so k k' was n m ps qs i j e f g closed = grind (arith, common_steps)

pub close_outside : (k : Kept) (seat to : ℕ) → MAX < to → IsStep k k seat (Close to) (Refused TsRange)
close_outside k seat to high = grind (arith, nat_tests, common_steps)

pub close_done : (k k' : Kept) (seat to at : ℕ) (oldest : Option ℕ) → to ≤ MAX → IsOldest k.transaction oldest → at ≡ max k.closed (reach to oldest) → IsClosedAt k k' at → IsStep k k' seat (Close to) (Closed at 0)
close_done k k' seat to at oldest low is at_is closed = grind (arith, nat_tests, common_steps)

pub hard_outside : (k : Kept) (seat to : ℕ) → MAX < to → IsStep k k seat (CloseHard to) (Refused TsRange)
hard_outside k seat to high = grind (arith, nat_tests, common_steps)

pub hard_done : (k k' : Kept) (seat to at count : ℕ) (cut : List ℕ) → to ≤ MAX → AreThose (λ t. nat_le t to && is_open (k.transaction t)) cut → length cut ≡ count → at ≡ max k.closed to → IsHardClosedAt k k' to at → IsStep k k' seat (CloseHard to) (Closed at count)
hard_done k k' seat to at count cut low those counted at_is closed = grind (arith, common_steps)
