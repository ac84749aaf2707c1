-- How many versions there are after some came or went.
use Rattle.version_chain.proofs.Common.{AreDistinct, Has, RisingKeys, VersionName, and_parts, by_test, common_steps, distinct_filter, eqb-true, filter, has, has_filter, has_in, has_is, in_has, key_itself, length-filter_both, length-map, rising_distinct, same_key, same_length, version_name}
use Rattle.std.proofs.Common.{rules, ◌≡◌, ℕ, ◌<◌, ◌≤◌, ◌-◌, ◌+◌, ◌==◌, Bool, true, false, ◌&&◌, List, [], ◌∷◌, length, map, cond, Option, Some, None, refl, sym, ◌∙◌, arith}
use Rattle.std.specs.Prelude.{bytes_eq, is_some, is_none, not, ◌↔◌}
use Rattle.version_chain.specs.declared.chain.Version.{Version}
use Rattle.version_chain.specs.Versions.{AreAbove, DoRise, version_of}
use Rattle.version_chain.specs.Stores.{chain_of, found_in, IsChangedAt, Stored, after_of, version_in, IsCountAt, IsCountOf}
use Rattle.version_chain.specs.Prelude.{AreThose}
use Rattle.version_chain.proofs.Chained.{rises_kept}
use Rattle.version_chain.proofs.Dead.{none_above}

abbrev is_there : Stored → VersionName → Bool
is_there s v = is_some (version_in s v.key v.ts)

-- v is the version of x at t
abbrev is_named : List ℕ → ℕ → VersionName → Bool
is_named x t v = (t == v.ts) && bytes_eq x v.key

named : (x : List ℕ) (t : ℕ) (v : VersionName) → is_named x t v ≡ true → version_name x t ≡ v
named x t v e = search (and_parts, eqb-true, same_key, rules, arith)

name_itself : (x : List ℕ) (t : ℕ) → is_named x t (version_name x t) ≡ true
name_itself x t = grind (arith, common_steps, key_itself)

pub counted_more : (es fs : Stored) (x : List ℕ) (t n : ℕ) (a : Version) → IsChangedAt es fs x t (λ _. Some a) → is_none (found_in es x t) ≡ true → IsCountOf es n → IsCountOf fs (n + 1)
counted_more es fs x t n a h none c = record {
  versions = version_name x t ∷ c.versions;
  all = record {
    distinct = (λ i. grind (arith, common_steps, c.all.each (version_name x t)), c.all.distinct);
    each = λ v. grind (arith, common_steps, by_test, name_itself, named, c.all.each v, h v.key v.ts);
  };
  count = (let before : length c.versions ≡ n = c.count in omega arith);
}

-- what is there is as it was
pub counted_alike : (es fs : Stored) (n : ℕ) → ((v : VersionName) → is_some (after_of (found_in fs v.key v.ts)) ≡ is_some (after_of (found_in es v.key v.ts))) → IsCountOf es n → IsCountOf fs n
counted_alike es fs n same c = record {
  versions = c.versions;
  all = record { distinct = c.all.distinct; each = λ v. grind (arith, common_steps, same v, c.all.each v) };
  count = c.count;
}

pub counted_replaced : (es fs : Stored) (x : List ℕ) (t n : ℕ) (a : Version) → IsChangedAt es fs x t (λ _. Some a) → is_none (found_in es x t) ≡ false → IsCountOf es n → IsCountOf fs n
counted_replaced es fs x t n a h some c = counted_alike es fs n (λ v. grind (arith, common_steps, by_test, h v.key v.ts, named x t v)) c

-- some of what is there is gone, r of it
pub counted_less : (es fs : Stored) (n r : ℕ) (g : VersionName → Bool) (gone : List VersionName) → AreThose (λ v. is_there es v && g v) gone → r ≡ length gone → ((v : VersionName) → is_there fs v ≡ (not (g v) && is_there es v)) → IsCountOf es n → (r ≤ n) × IsCountOf fs (n - r)
counted_less es fs n r g gone those is left c =
    let both = length-filter_both g (λ v. not (g v)) (λ v. refl) c.versions in
    let same : length (filter g c.versions) ≡ length gone = same_length _ _ (distinct_filter g c.versions c.all.distinct) those.distinct
    (λ v. grind (arith, common_steps, has_filter g v c.versions, those.each v, c.all.each v)) in
    let before : length c.versions ≡ n = c.count in (
      omega arith,
      record {
        versions = filter (λ v. not (g v)) c.versions;
        all = record {
          distinct = distinct_filter _ c.versions c.all.distinct;
          each = λ v. grind (arith, common_steps, has_filter (λ w. not (g w)) v c.versions, left v, c.all.each v);
        };
        count = omega arith;
      },
    )

-- there is one count
pub counted_once : (es : Stored) (m n : ℕ) → IsCountOf es m → IsCountOf es n → m ≡ n
counted_once es m n c d =
    sym c.count ∙ same_length _ _ c.all.distinct d.all.distinct (λ v. grind (arith, common_steps, c.all.each v, d.all.each v)) ∙ d.count

-- ---- all versions of one timestamp

-- a key is one of these exactly where it has a version at t
abbrev pub AreWrittenAt : Stored → ℕ → List (List ℕ) → Type 0
AreWrittenAt es t keys = (y : List ℕ) → has y keys ≡ is_some (found_in es y t)

pub after_there : (o : Option Version) → is_some (after_of o) ≡ is_some o
after_there None = refl
after_there (Some v) = refl

written_those : (es : Stored) (t : ℕ) (keys : List (List ℕ)) → RisingKeys keys → AreWrittenAt es t keys → AreThose (λ x. is_some (version_in es x t)) keys
written_those es t keys rising written = record {
  distinct = rising_distinct keys rising;
  each = λ x. grind (arith, common_steps, has, after_there, has_in, has_is, in_has, written x);
}

-- they are counted
pub count_at : (es : Stored) (t n : ℕ) (keys : List (List ℕ)) → RisingKeys keys → AreWrittenAt es t keys → n ≡ length keys → IsCountAt es t n
count_at es t n keys rising written is = (keys, written_those es t keys rising written, is)

-- the versions of t at these keys, by name
abbrev names_at : ℕ → List (List ℕ) → List VersionName
names_at t keys = map (λ x. version_name x t) keys

has_name : (t : ℕ) (v : VersionName) (keys : List (List ℕ)) → Has v (names_at t keys) ↔ ((t ≡ v.ts) × Has v.key keys)
has_name t v [] = (λ i. absurd i, λ e. e.1)
has_name t v (x ∷ keys) = grind (arith, common_steps, has_name t v keys)

distinct_at : (t : ℕ) (keys : List (List ℕ)) → AreDistinct keys → AreDistinct (names_at t keys)
distinct_at t [] d = tt
distinct_at t (x ∷ keys) d = (λ i. d.0 ((has_name t (version_name x t) keys).0 i).1, distinct_at t keys d.1)

-- the versions of t are gone, and any other is found as it was
abbrev pub AreGoneAt : Stored → Stored → ℕ → Type 0
AreGoneAt es fs t = (y : List ℕ) (i : ℕ) → found_in fs y i ≡ cond (t == i) None (found_in es y i)

pub counted_gone : (es fs : Stored) (t n : ℕ) (keys : List (List ℕ)) → AreGoneAt es fs t → RisingKeys keys → AreWrittenAt es t keys → IsCountOf es n → (length keys ≤ n) × IsCountOf fs (n - length keys)
counted_gone es fs t n keys gone rising written c =
    let those = written_those es t keys rising written in
    counted_less es fs n (length keys) (λ v. t == v.ts) (names_at t keys) (record {
      distinct = distinct_at t keys those.distinct;
      each = λ v. grind (arith, common_steps, has_name t v keys, those.each v.key);
    }) (sym (length-map _ _)) (λ v. grind (arith, common_steps, gone v.key v.ts)) c

-- ---- many versions of one key go

-- the versions of x, by name
abbrev names_of : List ℕ → List Version → List VersionName
names_of x vs = map (λ (v : Version). version_name x v.ts) vs

named_high : (x : List ℕ) (t : ℕ) (vs : List Version) (v : VersionName) → AreAbove t vs → Has v (names_of x vs) → t < v.ts
named_high x t [] v a i = absurd i
named_high x t (w ∷ vs) v a i = grind (arith, common_steps, named_high x t vs v a.1)

distinct_names : (x : List ℕ) (vs : List Version) → DoRise vs → AreDistinct (names_of x vs)
distinct_names x [] r = tt
distinct_names x (w ∷ vs) r = grind (arith, common_steps, named_high x w.ts vs (version_name x w.ts) r.0, distinct_names x vs r.1)

has_names : (x : List ℕ) (vs : List Version) (v : VersionName) → Has v (names_of x vs) ↔ ((bytes_eq x v.key && is_some (version_of vs v.ts)) ≡ true)
has_names x [] v = grind (arith, common_steps)
has_names x (w ∷ vs) v = grind (arith, common_steps, named x w.ts v, name_itself x w.ts, has_names x vs v)

-- whether there is one that passes
abbrev passes : (Version → Bool) → Option Version → Bool
passes q None = false
passes q (Some v) = q v

passes_filtered : (q : Version → Bool) (vs : List Version) (t : ℕ) → DoRise vs → is_some (version_of (filter q vs) t) ≡ passes q (version_of vs t)
passes_filtered q [] t r = refl
passes_filtered q (w ∷ vs) t r = by_test (q w)
    (λ on. rw on (grind (arith, common_steps, passes_filtered q vs t r.1)))
    (λ off. rw off (grind (arith, common_steps, eqb-true w.ts t, (none_above 0 0 w.ts vs r.0).1, passes_filtered q vs t r.1)))

-- r versions of x that pass are gone
pub counted_thinned : (es fs : Stored) (x : List ℕ) (q : Version → Bool) (r n : ℕ) → ((y : List ℕ) (i : ℕ) → is_some (after_of (found_in fs y i)) ≡ (not (bytes_eq x y && passes q (found_in es y i)) && is_some (after_of (found_in es y i))))
    → DoRise (chain_of es x) → r ≡ length (filter q (chain_of es x)) → IsCountOf es n → (r ≤ n) × IsCountOf fs (n - r)
counted_thinned es fs x q r n less rises is c =
    let vs = filter q (chain_of es x) in
    counted_less es fs n r (λ v. bytes_eq x v.key && passes q (found_in es v.key v.ts)) (names_of x vs) (record {
      distinct = distinct_names x vs (rises_kept q _ rises);
      each = λ v. grind (arith, common_steps, has_names x vs v, passes_filtered q (chain_of es x) v.ts rises, same_key x v.key);
    }) (is ∙ sym (length-map _ _)) (λ v. less v.key v.ts) c
