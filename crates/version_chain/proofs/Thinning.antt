-- What a store has after the dead versions of a key went, and after those of some keys.
use Rattle.version_chain.proofs.Common.{both_ways, by_test, common_steps, false_from_ne_true, filter, key_itself, same_key}
use Rattle.std.proofs.Common.{arith, rules, ◌≡◌, ℕ, ◌-◌, ◌≤◌, Bool, true, false, cond, ◌&&◌, List, [], length, Option, None, refl, sym, ◌∙◌, ap, subst}
use Rattle.std.specs.Prelude.{bytes_eq, is_some, not}
use Rattle.version_chain.specs.declared.chain.Version.{Version}
use Rattle.version_chain.specs.declared.index.Index.{Index}
use Rattle.version_chain.specs.Versions.{DoRise, version_of}
use Rattle.version_chain.specs.Stores.{chain_of, found_in, HaveSameMarks, Stored, after_of, is_committed, IsCountOf}
use Rattle.version_chain.specs.Dead.{is_dead_version, is_dead_at, is_dead_in, newest_of, ArePartlyThinned, IsThinnedAt}
use Rattle.version_chain.specs.Indexes.{is_listed, IsUnlisted}
use Rattle.version_chain.specs.Records.{IsPut}
use Rattle.version_chain.proofs.Counts.{counted_thinned}
use Rattle.version_chain.proofs.Dead.{is_dead_of, holds, dead_here, left_filtered, at_found, same_dead, live_left, live_fewer}

-- ---- one key

-- what is dead in the chain of x is dead in the store
dead_of_chain : (es : Stored) (x y : List ℕ) (vs : List Version) (n i : ℕ) → chain_of es x ≡ vs → bytes_eq x y ≡ true → is_dead_of (version_of vs) n i ≡ is_dead_in es n y i
dead_of_chain es x y vs n i chain here = ap (λ us. is_dead_of (version_of us) n i) (sym chain ∙ ap (chain_of es) (same_key x y here))

pub thinned_put : (es fs : Stored) (x : List ℕ) (ws : List Version) (n : ℕ) → IsPut es fs x ws → (vs : List Version) → chain_of es x ≡ vs → ws ≡ filter (λ (v : Version). not (is_dead_version n (newest_of vs n) v)) vs → DoRise vs → IsThinnedAt es fs x n
thinned_put es fs x ws n put vs chain left rises y i = ap (λ us. version_of us i) (put y) ∙ by_test (bytes_eq x y)
    (λ here.
    let old : version_of vs i ≡ found_in es y i = ap (λ us. version_of us i) (sym chain ∙ ap (chain_of es) (same_key x y here)) in
    rw here (ap (λ us. version_of us i) left ∙ left_filtered n (newest_of vs n) vs i rises
    ∙ ap (λ b. cond b None (version_of vs i)) (sym (dead_here vs n i) ∙ dead_of_chain es x y vs n i chain here) ∙ ap (cond (is_dead_in es n y i) None) old))
    (λ there. rw there refl)

-- where there is none, none is dead
dead_nowhere : (es : Stored) (x y : List ℕ) (n i : ℕ) → chain_of es x ≡ [] → (bytes_eq x y && is_dead_in es n y i) ≡ false
dead_nowhere es x y n i none = search (by_test, dead_of_chain, rules, arith)

pub thinned_none : (es : Stored) (x : List ℕ) (n : ℕ) → chain_of es x ≡ [] → IsThinnedAt es es x n
thinned_none es x n none y i = ap (λ b. cond b None (found_in es y i)) (sym (dead_nowhere es x y n i none))

pub unlisted_none : (es : Stored) (index : Index) (x : List ℕ) (n : ℕ) → chain_of es x ≡ [] → (y : List ℕ) (i : ℕ) → is_listed index y i ≡ cond (bytes_eq x y && is_dead_in es n y i) false (is_listed index y i)
unlisted_none es index x n none y i = ap (λ b. cond b false (is_listed index y i)) (sym (dead_nowhere es x y n i none))

-- where it is no longer listed
pub unlisted_in : (es : Stored) (index index' : Index) (x : List ℕ) (vs : List Version) (n : ℕ) → chain_of es x ≡ vs → DoRise vs → IsUnlisted index index' x (is_dead_at n (newest_of vs n) vs)
    → (y : List ℕ) (i : ℕ) → is_listed index' y i ≡ cond (bytes_eq x y && is_dead_in es n y i) false (is_listed index y i)
unlisted_in es index index' x vs n chain rises less y i = let now = less y i in let found = at_found n (newest_of vs n) vs i rises in let dead = dead_here vs n i in let one = dead_of_chain es x y vs n i chain in grind (arith, common_steps)

-- how many versions are left
pub counted_left : (es fs : Stored) (x : List ℕ) (vs : List Version) (r n : ℕ) → chain_of es x ≡ vs → DoRise vs → IsThinnedAt es fs x n → r ≡ length (filter (is_dead_version n (newest_of vs n)) vs) → (m : ℕ) → IsCountOf es m → (r ≤ m) × IsCountOf fs (m - r)
counted_left es fs x vs r n chain rises thin is m c = counted_thinned es fs x (is_dead_version n (newest_of vs n)) r m there (subst DoRise (sym chain) rises) (is ∙ ap (λ us. length (filter (is_dead_version n (newest_of vs n)) us)) (sym chain)) c
  where
    some_left : (b : Bool) (o : Option Version) → is_some (after_of (cond b None o)) ≡ (not b && is_some (after_of o))
    some_left true o = refl
    some_left false o = refl

    there : (y : List ℕ) (i : ℕ) → is_some (after_of (found_in fs y i)) ≡ (not (bytes_eq x y && holds n (newest_of vs n) (found_in es y i)) && is_some (after_of (found_in es y i)))
    there y i = ap (λ o. is_some (after_of o)) (thin y i) ∙ by_test (bytes_eq x y)
        (λ here.
        let same : is_dead_in es n y i ≡ holds n (newest_of vs n) (found_in es y i) = dead_here (chain_of es y) n i ∙ ap (λ us. holds n (newest_of us n) (found_in es y i)) (sym (ap (chain_of es) (same_key x y here)) ∙ chain) in
        rw here (some_left (is_dead_in es n y i) (found_in es y i) ∙ ap (λ b. not b && is_some (after_of (found_in es y i))) same))
        (λ there. rw there refl)

-- ---- some keys

-- nothing is dead of a key that lost what was
pub settled_here : (es fs : Stored) (x : List ℕ) (n : ℕ) → IsThinnedAt es fs x n → (i : ℕ) → is_dead_in fs n x i ≡ false
settled_here es fs x n thin i = live_left (found_in es x) (found_in fs x) n (λ j. thin x j ∙ ap (λ b. cond (b && is_dead_in es n x j) None (found_in es x j)) (key_itself x)) i

pub partly_one : (es fs : Stored) (x : List ℕ) (n : ℕ) → IsThinnedAt es fs x n → HaveSameMarks es fs → ArePartlyThinned es fs n
partly_one es fs x n thin marks = record {
  marks = marks;
  found = λ y i. let now = thin y i in let none = settled y i in let same = alike y i in grind (arith, common_steps);
  fewer = λ y i dead. let none = settled y i in let same = alike y i in grind (arith, common_steps);
}
  where
    settled : (y : List ℕ) (i : ℕ) → bytes_eq x y ≡ true → is_dead_in fs n y i ≡ false
    settled y i here = ap (λ z. is_dead_in fs n z i) (sym (same_key x y here)) ∙ settled_here es fs x n thin i

    alike : (y : List ℕ) (i : ℕ) → bytes_eq x y ≡ false → is_dead_in fs n y i ≡ is_dead_in es n y i
    alike y i there = same_dead (found_in es y) (found_in fs y) n i (λ j. rw (thin y j, there) refl)

-- then some more
pub partly_more : (es fs gs : Stored) (n : ℕ) → ArePartlyThinned es fs n → ArePartlyThinned fs gs n → ArePartlyThinned es gs n
partly_more es fs gs n one more = record {
  marks = λ y j. more.marks y j ∙ one.marks y j;
  found = λ y i. more.found y i ∙ ap (cond (is_dead_in fs n y i && not (is_dead_in gs n y i)) None) (one.found y i) ∙ both (is_dead_in es n y i) (is_dead_in fs n y i) (is_dead_in gs n y i) (found_in es y i) (one.fewer y i) (more.fewer y i);
  fewer = λ y i dead. one.fewer y i (more.fewer y i dead);
}
  where
    both : (a b c : Bool) (o : Option Version) → (b ≡ true → a ≡ true) → (c ≡ true → b ≡ true) → cond (b && not c) None (cond (a && not b) None o) ≡ cond (a && not c) None o
    both true true c o f g = refl
    both true false true o f g = (let no : false ≡ true = g refl in cc)
    both true false false o f g = refl
    both false true c o f g = (let no : false ≡ true = f refl in cc)
    both false false c o f g = refl

pub partly_next : (es fs gs : Stored) (x : List ℕ) (n : ℕ) → ArePartlyThinned es fs n → IsThinnedAt fs gs x n → HaveSameMarks fs gs → ArePartlyThinned es gs n
partly_next es fs gs x n one thin marks = partly_more es fs gs n one (partly_one fs gs x n thin marks)

-- what was not dead stays so
pub settled_still : (es fs : Stored) (n : ℕ) → ArePartlyThinned es fs n → (y : List ℕ) (i : ℕ) → is_dead_in es n y i ≡ false → is_dead_in fs n y i ≡ false
settled_still es fs n thin y i none = false_from_ne_true _ (λ dead. both_ways _ none (thin.fewer y i dead))

-- what is there was there
pub found_before : (es fs : Stored) (n : ℕ) → ArePartlyThinned es fs n → (y : List ℕ) (i : ℕ) → is_some (found_in fs y i) ≡ true → found_in fs y i ≡ found_in es y i
found_before es fs n thin y i some = grind (arith, common_steps)

-- fewer versions: nothing more is dead
pub settled_fewer : (es fs : Stored) (n : ℕ) → ((y : List ℕ) (i : ℕ) → i ≤ n → is_committed (found_in fs y i) ≡ true → found_in fs y i ≡ found_in es y i) → ((y : List ℕ) (i : ℕ) → is_dead_in es n y i ≡ false) → (y : List ℕ) (i : ℕ) → is_dead_in fs n y i ≡ false
settled_fewer es fs n fewer none y i = live_fewer (found_in es y) (found_in fs y) n (fewer y) (none y) i

pub done_some : (o : Option Version) → is_committed o ≡ true → is_some o ≡ true
done_some o e = grind (arith, common_steps)

pub settled_partly : (es fs : Stored) (m n : ℕ) → ArePartlyThinned es fs n → ((y : List ℕ) (i : ℕ) → is_dead_in es m y i ≡ false) → (y : List ℕ) (i : ℕ) → is_dead_in fs m y i ≡ false
settled_partly es fs m n thin none = settled_fewer es fs m (λ y i low done. found_before es fs n thin y i (done_some (found_in fs y i) done)) none
