-- A scan's reply, and what it marks.
use Rattle.mvto_rules.proofs.Common.{AllByRecursion, AreFilled, AreKeysOf, AreMarkedAt, Blocked, Entry, IsAsBefore, IsIn, IsScanReply, IsScannedBy, Kept, MAX, Refused, Reply, RisingKeys, Rows, Span, Stored, Version, after_of, both_ways, by_test, chain_nowhere, chain_of, common_steps, first_refusal_or, in_span, keys_of, marked_in, nat_tests, newest_in, newest_is, refusal, rises_filtered, scan_reply, unless_refused, until, version_in, version_of}
use Rattle.std.proofs.Common.{List, None, Option, Some, ap, arith, false, inl, inr, refl, subst, sym, true, ℕ, ◌<◌, ◌≤◌, ◌==◌, ◌∷◌, ◌≡◌, ◌∙◌, []}
use Rattle.std.specs.Prelude.{is_some, map}
use Rattle.spans.proofs.WriteSets.{has, has_in}
use Rattle.kept.proofs.Marking.{merged}
use Rattle.mvto_rules.specs.Holding.{holding, marked_of}
use Rattle.mvto_rules.specs.Scans.{entries_of, first_blocker, keys_in, rows_in, stops_in}
use Rattle.mvto_rules.specs.declared.rules.Rules.{Rules}
use Rattle.mvto_rules.proofs.Noting.{only_marks, past_until}
use Rattle.mvto_rules.proofs.Walking.{each_found, in_each}

-- ---- its reply

abbrev pub by_blocker : Option ℕ → Reply → Reply
by_blocker None reply = reply
by_blocker (Some n) reply = Refused (Blocked n)

first_stop : (s : Stored) (t : ℕ) (keys : List (List ℕ)) (reply : Reply) → first_refusal_or (map (λ x. (stops_in s t x, Blocked (newest_in s t x).ts)) keys) reply ≡ by_blocker (first_blocker s t keys) reply
first_stop s t [] reply = refl
first_stop s t (x ∷ xs) reply = grind (arith, common_steps, first_stop s t xs reply)

-- ---- the keys of the span

some_version : (s : Stored) (x : List ℕ) (vs : List Version) → chain_of s x ≡ vs → (vs ≡ [] → ⊥) → (t : ℕ) × (is_some (version_in s x t) ≡ true)
some_version s x [] is filled = absurd (filled refl)
some_version s x (v ∷ vs) is filled =
    let e : (v.ts == v.ts) ≡ true = grind (arith, nat_tests) in
    let here : version_of (v ∷ vs) v.ts ≡ Some v = rw e refl in
    (v.ts, ap (λ us. is_some (after_of (version_of us v.ts))) is ∙ ap (λ o. is_some (after_of o)) here)

each_filled : (s : Stored) (span : Span) (es : List Entry) (x : List ℕ) → AllByRecursion (λ (e : Entry). (in_span span e.0 ≡ true) × (chain_of s e.0 ≡ e.1)) es → AreFilled es → IsIn x (keys_of es) → (t : ℕ) × (is_some (version_in s x t) ≡ true)
each_filled s span [] x each filled i = absurd i
each_filled s span (e ∷ es) x each filled i = elim i [
  | inl here ↦ subst (λ y. (t : ℕ) × (is_some (version_in s y t) ≡ true)) here (some_version s e.0 e.1 each.0.1 filled.0)
  | inr there ↦ each_filled s span es x each.1 filled.1 there
]

pub keys_are : (k : Kept) (r : Rules) (span : Span) → RisingKeys (keys_of r.store.entries) → AreFilled (entries_of r.store span) → AreKeysOf (holding k r) span (keys_in r.store span)
keys_are k r span rising filled =
    let each = each_found r.store span (entries_of r.store span) [] (entries_of r.store span) refl rising refl in
    record {
      rising = rises_filtered _ r.store.entries rising;
      each = λ x. (
        λ i. (let some = each_filled r.store span (entries_of r.store span) x each filled i in (in_each r.store span (entries_of r.store span) x each i, some.0, some.1)),
        λ is. by_test (has x (keys_in r.store span))
            (λ on. (has_in x (keys_in r.store span)).1 on)
            (λ off.
            let none : chain_of r.store x ≡ [] = chain_nowhere span r.store.entries (entries_of r.store span) x refl is.0 (λ i. both_ways _ off ((has_in x (keys_in r.store span)).0 i)) in
            let no : false ≡ true = sym (ap (λ vs. is_some (after_of (version_of vs is.1))) none) ∙ is.2 in cc),
      );
    }

-- what stops the reader is answered, or the rows
pub scan_found : (k : Kept) (r : Rules) (seat t u : ℕ) (span : Span) (o : Option ℕ) → u ≡ t → refusal (holding k r) seat t ≡ None → RisingKeys (keys_of r.store.entries) → AreFilled (entries_of r.store span) → first_blocker r.store u (keys_in r.store span) ≡ o
    → IsScanReply (holding k r) seat t span (by_blocker o (Rows (rows_in r.store u (keys_in r.store span))))
scan_found k r seat t u span o same free rising filled stop =
    let keys = keys_in r.store span in let all = Rows (rows_in r.store t keys) in
    let stop' : first_blocker r.store t keys ≡ o = subst (λ n. first_blocker r.store n keys ≡ o) same stop in
    let right : by_blocker o all ≡ scan_reply (holding k r) seat t keys = sym (ap (λ p. by_blocker p all) stop') ∙ sym (first_stop r.store t keys all) ∙ sym (ap (λ p. unless_refused p (first_refusal_or (map (λ x. (stops_in r.store t x, Blocked (newest_in r.store t x).ts)) keys) all)) free) in
    (keys, (λ _. keys_are k r span rising filled), subst (λ n. by_blocker o (Rows (rows_in r.store n keys)) ≡ scan_reply (holding k r) seat t keys) (sym same) right)

-- ---- what it marks

pub scanned : (k : Kept) (r : Rules) (s' : Stored) (t : ℕ) (span : Span) → t ≤ MAX → AreMarkedAt r.store s' span t → IsAsBefore r.store s' → IsScannedBy (holding k r) (holding k (record r { store = s' })) t span
scanned k r s' t span high marked before = record {
  noted = λ x inside. let n = marked.noted x inside in record {
    next = n.next;
    is_next = n.is_next;
    own = n.own;
    other = λ differs. merged (marked_of r x) (marked_in s' x) t (newest_in r.store t x).ts (until n.next) (below x differs) (past_until (version_in r.store x) t n.next high n.is_next) (n.other differs);
  };
  others = marked.others;
  rest = only_marks k r s' before;
}
  where
    below : (x : List ℕ) → ((newest_in r.store t x).ts == t) ≡ false → (newest_in r.store t x).ts < t
    below x differs = (let low : (newest_in r.store t x).ts ≤ t = (newest_is (version_in r.store x) t).at_most in grind (arith, nat_tests, differs, low))
