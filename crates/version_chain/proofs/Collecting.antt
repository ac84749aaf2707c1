-- A collection: from key to key, and from timestamp to timestamp.
use Rattle.version_chain.proofs.Common.{common_steps, distinct_filter, false_from_ne_true, filter, has, has_filter, has_filtered}
use Rattle.std.proofs.Common.{◌≡◌, ℕ, ◌<◌, ◌-◌, ◌≤◌, ◌⊎◌, ◌==◌, Bool, true, false, cond, ◌&&◌, List, [], ◌∷◌, length, Option, None, refl, ◌∙◌, ap, inl, inr, arith}
use Rattle.std.specs.Prelude.{bytes_eq, is_some}
use Rattle.version_chain.specs.declared.chain.Version.{Version}
use Rattle.version_chain.specs.declared.index.Index.{Index}
use Rattle.version_chain.specs.Stores.{chain_of, found_in, HaveSameMarks, Stored, IsCountOf}
use Rattle.version_chain.specs.Dead.{is_dead_in, is_dropped_in, newest_of, ArePartlyThinned, IsThinnedAt, IsCollectedIn}
use Rattle.version_chain.specs.Indexes.{is_listed, AreTakenAlike, IsFilled, IsFirstBetween, IsIndexOf, IsNoneBetween, IsSound, IsTakenAlone}
use Rattle.version_chain.specs.Prelude.{AreThose}
use Rattle.version_chain.proofs.Counts.{counted_less, counted_once}
use Rattle.version_chain.proofs.Dead.{top_above}
use Rattle.version_chain.proofs.Indexes.{next_or_rest}
use Rattle.version_chain.proofs.Thinning.{done_some, found_before, partly_more, partly_next, partly_one, settled_here, settled_partly, settled_still}

-- ---- the keys of one timestamp

-- es became fs, while the keys of t are taken out of the index: nothing is dead by n any more of those that aren't among the rest
pub record IsThinning (es fs : Stored) (index : Index) (t n count from : ℕ) (rest : List (List ℕ)) : Type 0 where
  pub partly : ArePartlyThinned es fs n
  pub settled : (y : List ℕ) → is_some (found_in es y t) ≡ true → ((i : ℕ) → is_dead_in fs n y i ≡ false) ⊎ (has y rest ≡ true)
  pub before : (y : List ℕ) (i : ℕ) → is_dead_in es from y i ≡ false
  pub counted : IsCountOf fs count
  pub listed : (y : List ℕ) (i : ℕ) → is_listed index y i ≡ cond (t == i) false (is_some (found_in fs y i))
  pub taken : IsTakenAlone index t

pub thinning_first : (es : Stored) (index index' : Index) (t n count from : ℕ) (keys : List (List ℕ)) → IsSound es index count from → ((y : List ℕ) → has y keys ≡ is_listed index y t)
    → ((y : List ℕ) (i : ℕ) → is_listed index' y i ≡ cond (t == i) false (is_listed index y i)) → IsTakenAlone index' t → IsThinning es es index' t n count from keys
thinning_first es index index' t n count from keys sound among others taken = grind (arith, common_steps)

-- where a version goes, what the index lists goes too
still_listed : (gone taken listed listed' : Bool) (o o' : Option Version) → listed' ≡ cond gone false listed → listed ≡ cond taken false (is_some o) → o' ≡ cond gone None o → listed' ≡ cond taken false (is_some o')
still_listed gone taken listed listed' o o' less was left = grind (arith, common_steps)

pub thinning_next : (es fs gs : Stored) (index index' : Index) (t n count from r : ℕ) (x : List ℕ) (rest more : List (List ℕ)) → rest ≡ x ∷ more → IsThinnedAt fs gs x n → HaveSameMarks fs gs → ((m : ℕ) → IsCountOf fs m → (r ≤ m) × IsCountOf gs (m - r))
    → ((y : List ℕ) (i : ℕ) → is_listed index' y i ≡ cond (bytes_eq x y && is_dead_in fs n y i) false (is_listed index y i)) → AreTakenAlike index index'
    → IsThinning es fs index t n count from rest → IsThinning es gs index' t n (count - r) from more
thinning_next es fs gs index index' t n count from r x rest more is thin marks fewer less still s = record {
  partly = partly_next es fs gs x n s.partly thin marks;
  settled = λ y some. elim (s.settled y some) [
    | inl none ↦ inl (λ i. settled_still fs gs n (partly_one fs gs x n thin marks) y i (none i))
    | inr any ↦ (elim (next_or_rest x y rest more is any) [
      | inl here ↦ inl (λ i. ap (λ z. is_dead_in gs n z i) here ∙ settled_here fs gs x n thin i)
      | inr later ↦ inr later
    ])
  ];
  before = s.before;
  counted = (fewer count s.counted).1;
  listed = λ y i. still_listed _ _ _ _ _ _ (less y i) (s.listed y i) (thin y i);
  taken = λ i. grind (arith, common_steps, still i, s.taken i);
}

-- where none is left, nothing is dead of the keys with a version at t
pub thinning_ends : (es fs : Stored) (index : Index) (t n count from : ℕ) (rest : List (List ℕ)) → [] ≡ rest → IsThinning es fs index t n count from rest → (y : List ℕ) (i : ℕ) → is_some (found_in fs y t) ≡ true → is_dead_in fs n y i ≡ false
thinning_ends es fs index t n count from rest none s y i some = grind (arith, common_steps)

-- those of the keys that still have a version at t were put back
pub thinning_sound : (es fs : Stored) (index index' index'' : Index) (t n count from : ℕ) (keys kept : List (List ℕ)) (rest : List (List ℕ)) → IsIndexOf es index → ((y : List ℕ) → has y keys ≡ is_listed index y t)
    → kept ≡ filter (λ x. is_some (found_in fs x t)) keys → ((y : List ℕ) (i : ℕ) → is_listed index'' y i ≡ cond (t == i) (has y kept) (is_listed index' y i)) → IsFilled index'' → IsThinning es fs index' t n count from rest → IsSound fs index'' count from
thinning_sound es fs index index' index'' t n count from keys kept rest indexed among filtered back filled s = record {
  counted = s.counted;
  indexed = λ y i.
      let stays = has_filtered (λ x. is_some (found_in fs x t)) y keys in
      grind (arith, common_steps, back y i, stays, among y, indexed y t, found_before es fs n s.partly y t, s.listed y i);
  filled = filled;
  settled = settled_partly es fs from n s.partly s.before;
}

-- ---- from one timestamp to the next

-- es became fs: nothing is dead by n any more of the keys with a version above m and at or below a
pub record AreThinnedTo (es fs : Stored) (m a n : ℕ) : Type 0 where
  pub partly : ArePartlyThinned es fs n
  pub settled : (y : List ℕ) (t i : ℕ) → m < t → t ≤ a → is_some (found_in fs y t) ≡ true → is_dead_in fs n y i ≡ false

pub thinned_next : (es fs gs : Stored) (index : Index) (m a b n : ℕ) → IsIndexOf fs index → IsFirstBetween index a n b → ArePartlyThinned fs gs n → ((y : List ℕ) (i : ℕ) → is_some (found_in gs y b) ≡ true → is_dead_in gs n y i ≡ false)
    → AreThinnedTo es fs m a n → AreThinnedTo es gs m b n
thinned_next es fs gs index m a b n indexed first more here done = record {
  partly = partly_more es fs gs n done.partly more;
  settled = λ y t i above low some.
      let was = found_before fs gs n more y t some in
      grind (arith, common_steps, settled_still fs gs n more y i, done.settled y t i above, indexed y t, first.first y t, here y i);
}

-- where no timestamp is left nothing is dead
pub thinned_all : (es fs : Stored) (index : Index) (m a n : ℕ) → IsIndexOf fs index → IsNoneBetween index a n → ((y : List ℕ) (i : ℕ) → is_dead_in es m y i ≡ false) → AreThinnedTo es fs m a n → (y : List ℕ) (i : ℕ) → is_dead_in fs n y i ≡ false
thinned_all es fs index m a n indexed none before done y i = false_from_ne_true _ (λ dead.
    let top = top_above (found_in fs y) m n i (settled_partly es fs m n done.partly before y) dead in
    let at = newest_of (chain_of fs y) n in
    grind (arith, common_steps, done_some (found_in fs y at), indexed y at, none y at, done.settled y at i))

-- then all that was dead is gone
pub all_gone : (es fs : Stored) (n : ℕ) → ArePartlyThinned es fs n → ((y : List ℕ) (i : ℕ) → is_dead_in fs n y i ≡ false) → (y : List ℕ) (i : ℕ) → found_in fs y i ≡ cond (is_dead_in es n y i) None (found_in es y i)
all_gone es fs n thin none y i = grind (arith, common_steps, thin.found y i, none y i)

pub collected : (es fs : Stored) (n before after : ℕ) → ((y : List ℕ) (i : ℕ) → found_in fs y i ≡ cond (is_dead_in es n y i) None (found_in es y i)) → IsCountOf es before → IsCountOf fs after → (after ≤ before) × IsCollectedIn es fs n (before - after)
collected es fs n before after left c d =
    let gone = filter (is_dropped_in es n) c.versions in
    let those : AreThose (is_dropped_in es n) gone = record {
      distinct = distinct_filter (is_dropped_in es n) c.versions c.all.distinct;
      each = λ v. grind (arith, common_steps, has_filter (is_dropped_in es n) v c.versions, c.all.each v);
    } in
    let less = counted_less es fs _ _ (λ v. is_dead_in es n v.key v.ts) gone those refl (λ v. grind (arith, common_steps, left v.key v.ts)) c in
    let same : before - length gone ≡ after = counted_once fs _ _ less.1 d in (
      omega arith,
      record {
        version = λ y i. grind (arith, common_steps, left y i);
        committed = λ y i b is. grind (arith, common_steps, left y i);
        dropped = gone;
        those = those;
        counted = omega arith;
      },
    )
