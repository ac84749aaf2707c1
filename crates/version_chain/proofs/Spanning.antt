-- A read of a span, at the keys with a record and at those without one.
use Rattle.std.proofs.Common.{◌≡◌, ℕ, ◌<◌, ◌≤◌, true, false, cond, List, [], ◌∷◌, Option, Some, None, refl, sym, ◌∙◌, ap, arith, max}
use Rattle.std.specs.Prelude.{slice_index_or}
use Rattle.version_chain.proofs.Common.{Numbered, Span, SpanMarks, in_span, is_kept, latest_in, nat_tests, newest, number_in}
use Rattle.version_chain.specs.declared.record.Record.{Record}
use Rattle.version_chain.specs.Stores.{Stored, chain_of, marked_in, HaveSameChains, HaveSameMarks, AreMarkedAt, IsNotedIn, IsNotedOn}
use Rattle.version_chain.specs.Versions.{afters_of}
use Rattle.version_chain.specs.ByNumber.{at_number, chains_in, readers_in, stored}
use Rattle.version_chain.specs.Records.{AreNoted}
use Rattle.version_chain.proofs.ByNumber.{chain_is, marked_is}
use Rattle.version_chain.proofs.Gaps.{newest_of, noted_alike}

-- the latest of the spans rose to t, which is not forgotten
pub noted_latest : (f t l l' : ℕ) → f < t → t ≤ 18446744073709551615 → l ≤ 18446744073709551615 → l' ≡ max l t → IsNotedOn (afters_of []) (is_kept f (l ∷ [])) (is_kept f (l' ∷ [])) t
noted_latest f t l l' late low low-latest is = record {
  next = None;
  is_next = λ n over. refl;
  own = λ same. absurd (let z : (newest (afters_of []) t).ts ≡ 0 = none in omega arith);
  other = λ differs. rw none (record {
    top = l';
    marked = grind (arith, nat_tests);
    is = grind (arith, nat_tests);
    least = omega arith;
    most = omega arith;
    greatest = λ n over under m. grind (arith, nat_tests);
    outside = λ n out. grind (arith, nat_tests);
    inside = λ n over under m. grind (arith, nat_tests);
  });
}
  where
    none : (newest (afters_of []) t).ts ≡ 0
    none = newest_of [] t None tt (λ i low. refl)

-- s, whose chains and marks are those of the records and spans, becomes what is left once the records are noted and the spans raised
pub all_marked : (s : Stored) (ns : Numbered) (os rs ss : List Record) (spans spans' : SpanMarks) (f t : ℕ) (span : Span) → HaveSameChains s (stored ns os spans f) → HaveSameMarks s (stored ns os spans f) → chains_in rs ≡ chains_in os → readers_in rs ≡ readers_in os
    → f < t → t ≤ 18446744073709551615 → ((x : List ℕ) → latest_in spans' x ≡ cond (in_span span x) (max (latest_in spans x) t) (latest_in spans x)) → AreNoted ns rs ss span t f → AreMarkedAt s (stored ns ss spans' f) span t
all_marked s ns os rs ss spans spans' f t span chains marks cs qs late low raised noted = record {
  noted = λ x inside. by_number x inside (number_in ns x) refl;
  others = λ x off j. marked_is ns ss spans' f x j ∙ other x off j (number_in ns x) refl ∙ sym (marked_is ns os spans f x j) ∙ marks x j;
}
  where
    by_number : (x : List ℕ) → in_span span x ≡ true → (o : Option ℕ) → number_in ns x ≡ o → IsNotedIn s x t (marked_in (stored ns ss spans' f) x)
    by_number x inside None is = noted_alike (afters_of []) (afters_of (chain_of s x)) (is_kept f (latest_in spans x ∷ [])) (marked_in s x) (is_kept f (latest_in spans' x ∷ [])) (marked_in (stored ns ss spans' f) x) t
        (ap afters_of (sym (sym (chains x) ∙ chain_is ns os spans f x ∙ ap (at_number (chains_in os) []) is)))
        (λ j. sym (sym (marks x j) ∙ marked_is ns os spans f x j ∙ ap (λ o. is_kept f (at_number (readers_in os) (latest_in spans x ∷ []) o) j) is))
        (λ j. sym (marked_is ns ss spans' f x j ∙ ap (λ o. is_kept f (at_number (readers_in ss) (latest_in spans' x ∷ []) o) j) is))
        (noted_latest f t (latest_in spans x) (latest_in spans' x) late low (spans.low x) (raised x ∙ rw inside refl))
    by_number x inside (Some n) is = noted_alike (afters_of (slice_index_or (chains_in rs) n [])) (afters_of (chain_of s x)) (is_kept f (slice_index_or (readers_in rs) n [])) (marked_in s x) (is_kept f (slice_index_or (readers_in ss) n [])) (marked_in (stored ns ss spans' f) x) t
        (ap afters_of (ap (λ ks. slice_index_or ks n []) cs ∙ sym (sym (chains x) ∙ chain_is ns os spans f x ∙ ap (at_number (chains_in os) []) is)))
        (λ j. ap (λ ks. is_kept f (slice_index_or ks n []) j) qs ∙ sym (sym (marks x j) ∙ marked_is ns os spans f x j ∙ ap (λ o. is_kept f (at_number (readers_in os) (latest_in spans x ∷ []) o) j) is))
        (λ j. sym (marked_is ns ss spans' f x j ∙ ap (λ o. is_kept f (at_number (readers_in ss) (latest_in spans' x ∷ []) o) j) is))
        (noted.noted x n is inside)

    other : (x : List ℕ) → in_span span x ≡ false → (j : ℕ) → (o : Option ℕ) → number_in ns x ≡ o → is_kept f (at_number (readers_in ss) (latest_in spans' x ∷ []) (number_in ns x)) j ≡ is_kept f (at_number (readers_in os) (latest_in spans x ∷ []) (number_in ns x)) j
    other x off j None is = rw is (ap (λ l. is_kept f (l ∷ []) j) (raised x ∙ rw off refl))
    other x off j (Some n) is = rw is (ap (λ ks. is_kept f ks j) (noted.others x n is off ∙ ap (λ ks. slice_index_or ks n []) qs))
