-- The beginning that is kept: its lines, and what it has.
use Rattle.std.proofs.Common.{◌≡◌, ℕ, ◌<◌, ◌≤◌, ◌==◌, true, false, List, [], ◌∷◌, ◌++◌, refl, sym, ◌∙◌, ap, subst, arith}
use Rattle.std.specs.Prelude.{is_some, nat_le}
use Rattle.restarts.proofs.Common.{AllAllowed, Begins, Cmd, Effect, IsLegal, by_test, closed_of, effect_of, legal_allowed, nat_tests, owner_of}
use Rattle.restarts.specs.Restart.{CanRestart}
use Rattle.spans.proofs.Copies.{closed_grows}
use Rattle.journals.specs.Batches.{AreInOrder, BeginsWith, Noted, did, events_of, is_empty, kept_lines, kept_part, last_record, latest, lines_of}
use Rattle.journals.specs.Law.{KeepsWhatWasTold, beginning}
use Rattle.journals.specs.Lives.{CanCrash}

-- ---- lists

pub empty_end : (xs : List Cmd) → xs ++ [] ≡ xs
empty_end [] = refl
empty_end (x ∷ xs) = ap (λ ys. x ∷ ys) (empty_end xs)

append_append : (xs ys zs : List Noted) → xs ++ (ys ++ zs) ≡ (xs ++ ys) ++ zs
append_append [] ys zs = refl
append_append (x ∷ xs) ys zs = ap (λ ws. x ∷ ws) (append_append xs ys zs)

pub begins_itself : (ns : List Noted) → BeginsWith ns ns
begins_itself ns = ([], refl)

pub begins_further : (ns one two : List Noted) → BeginsWith ns one → BeginsWith one two → BeginsWith ns two
begins_further ns one two a b = (a.0 ++ b.0, a.1 ∙ ap (λ ws. a.0 ++ ws) b.1 ∙ append_append a.0 b.0 two)

pub begins_more : (n : Noted) (ns old : List Noted) → BeginsWith ns old → BeginsWith (n ∷ ns) old
begins_more n ns old a = (n ∷ a.0, ap (λ ws. n ∷ ws) a.1)

-- ---- the beginning that is kept

pub kept_begins : (k : ℕ) (ns : List Noted) → BeginsWith ns (kept_part k ns)
kept_begins k [] = ([], refl)
kept_begins k (n ∷ ns) = by_test (nat_le (last_record (n ∷ ns)) k)
    (λ is. rw is (begins_itself (n ∷ ns)))
    (λ isnt. rw isnt (begins_more n ns (kept_part k ns) (kept_begins k ns)))

-- where nothing is lost it is all
pub kept_whole : (k : ℕ) (ns : List Noted) → last_record ns ≤ k → kept_part k ns ≡ ns
kept_whole k [] low = refl
kept_whole k (n ∷ ns) low = let is : nat_le (last_record (n ∷ ns)) k ≡ true = grind (arith, nat_tests, low) in rw is refl

-- of a longer one more is kept
pub kept_later : (k : ℕ) (later old : List Noted) → BeginsWith (kept_part k (later ++ old)) (kept_part k old)
kept_later k [] old = begins_itself (kept_part k old)
kept_later k (n ∷ later) old = by_test (nat_le (last_record (n ∷ later ++ old)) k)
    (λ is. rw is (begins_further (n ∷ later ++ old) old (kept_part k old) (n ∷ later, refl) (kept_begins k old)))
    (λ isnt. rw isnt (kept_later k later old))

-- a beginning of which no record is lost is in it
pub kept_all : (ns old : List Noted) (k : ℕ) → BeginsWith ns old → last_record old ≤ k → BeginsWith (kept_part k ns) old
kept_all ns old k begins low =
    subst (λ ws. BeginsWith (kept_part k ws) old) (sym begins.1) (subst (BeginsWith (kept_part k (begins.0 ++ old))) (kept_whole k old low) (kept_later k begins.0 old))

pub kept_told : (ns : List Noted) (k : ℕ) → KeepsWhatWasTold ns k
kept_told ns k n old begins all told = kept_all ns (n ∷ old) k begins (omega (arith, all, told))

-- ---- its lines

pub record_low : (ns : List Noted) → AreInOrder ns → last_record ns ≤ latest ns
record_low [] ordered = omega arith
record_low (n ∷ ns) ordered = by_test (is_empty (lines_of n ns))
    (λ is. rw is (omega (arith, record_low ns ordered.1, ordered.0)))
    (λ isnt. rw isnt (omega arith))

none_empty : (cs : List Cmd) → is_empty cs ≡ true → cs ≡ []
none_empty [] is = refl
none_empty (c ∷ cs) is = cc

-- an event that leaves no line leaves none on the disk
none_kept : (n : Noted) (ns : List Noted) (k : ℕ) → is_empty (lines_of n ns) ≡ true → kept_lines k n ns ≡ []
none_kept n ns k is = by_test (nat_le n.batch k) (λ here. rw here (none_empty (lines_of n ns) is)) (λ gone. rw gone refl)

-- where no record is lost none was before, and the event's lines are there
pub record_before : (n : Noted) (ns : List Noted) (k : ℕ) → AreInOrder (n ∷ ns) → last_record (n ∷ ns) ≤ k → last_record ns ≤ k
record_before n ns k ordered low = by_test (is_empty (lines_of n ns)) (λ is. rw is at low) (λ isnt. let here : n.batch ≤ k = rw isnt at low in omega (arith, record_low ns ordered.1, ordered.0, here))

pub kept_now : (n : Noted) (ns : List Noted) (k : ℕ) → last_record (n ∷ ns) ≤ k → kept_lines k n ns ≡ lines_of n ns
kept_now n ns k low = by_test (is_empty (lines_of n ns))
    (λ is. none_kept n ns k is ∙ sym (none_empty (lines_of n ns) is))
    (λ isnt. let low' : n.batch ≤ k = rw isnt at low in let here : nat_le n.batch k ≡ true = grind (arith, nat_tests, low') in rw here refl)

-- where one is lost they aren't
pub lost_now : (n : Noted) (ns : List Noted) (k : ℕ) → k < last_record (n ∷ ns) → kept_lines k n ns ≡ []
lost_now n ns k over = by_test (is_empty (lines_of n ns))
    (λ is. none_kept n ns k is)
    (λ isnt. let over' : k < n.batch = rw isnt at over in let gone : nat_le n.batch k ≡ false = grind (arith, nat_tests, over') in rw gone refl)

pub records_before : (later old : List Noted) (k : ℕ) → AreInOrder (later ++ old) → last_record (later ++ old) ≤ k → last_record old ≤ k
records_before [] old k ordered low = low
records_before (n ∷ later) old k ordered low = records_before later old k ordered.1 (record_before n (later ++ old) k ordered low)

pub ordered_before : (later old : List Noted) → AreInOrder (later ++ old) → AreInOrder old
ordered_before [] old ordered = ordered
ordered_before (n ∷ later) old ordered = ordered_before later old ordered.1

-- ---- a beginning of what can crash

pub legal_begins : (later old : List Noted) → IsLegal (events_of (later ++ old)) → IsLegal (events_of old)
legal_begins [] old legal = legal
legal_begins (n ∷ later) old legal = legal_begins later old legal.1

pub closed_begins : (later old : List Noted) → AllAllowed (did (later ++ old)) → closed_of (did old) ≤ closed_of (did (later ++ old))
closed_begins [] old all = omega arith
closed_begins (n ∷ later) old all = omega (arith, closed_grows (did (later ++ old)) (effect_of n.event) all.0, closed_begins later old all.1)

owner_stays : (p : List Effect) (d : Effect) (t : ℕ) → is_some (owner_of p t) ≡ true → is_some (owner_of (d ∷ p) t) ≡ true
owner_stays p (Begins k seat) t is = by_test (k == t) (λ same. rw same refl) (λ other. rw other is)
owner_stays p (_) t is = is

begun_begins : (later old : List Noted) (t : ℕ) → is_some (owner_of (did old) t) ≡ true → is_some (owner_of (did (later ++ old)) t) ≡ true
begun_begins [] old t is = is
begun_begins (n ∷ later) old t is = owner_stays (did (later ++ old)) (effect_of n.event) t (begun_begins later old t is)

pub can_restart : (ns : List Noted) (k m : ℕ) → CanCrash ns m → CanRestart (beginning ns k) m
can_restart ns k m can =
    let b = kept_begins k ns in
    let old : List Noted = kept_part k ns in
    let legal : IsLegal (events_of (b.0 ++ old)) = subst (λ ws. IsLegal (events_of ws)) b.1 can.legal in record {
      legal = legal_begins b.0 old legal;
      in_range = can.in_range;
      closed = let grown = closed_begins b.0 old (legal_allowed (events_of (b.0 ++ old)) legal) in let same : closed_of (did ns) ≡ closed_of (did (b.0 ++ old)) = ap (λ ws. closed_of (did ws)) b.1 in omega (arith, grown, same, can.closed);
      begun = λ t is. can.begun t (subst (λ ws. is_some (owner_of (did ws) t) ≡ true) (sym b.1) (begun_begins b.0 old t is));
    }
