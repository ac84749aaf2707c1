-- A walk over the records of a span: room is made in each, or a read is noted in each.
use Rattle.version_chain.proofs.Common.{AreApart, Less, Numbered, RisingKeys, Span, by_test, common_steps, get_or-map, get_or-set_other, get_or-set_same, has_room, in_span, is_at, is_eq-slice_cmp, is_kept, key_cmp, key_itself, keys_of, length-map, map-set_same, number_in, readers_of, same_key}
use Rattle.std.proofs.Common.{◌≡◌, ℕ, ◌<◌, true, false, cond, ◌⊎◌, inl, inr, List, [], ◌∷◌, length, None, Some, refl, sym, ◌∙◌, ap, subst, arith}
use Rattle.std.specs.Prelude.{◌≢◌, map, slice_index_or, slice_set}
use Rattle.std.proofs.lemmas.Map.Entries.{lookup-filter-keys}
use Rattle.spans.proofs.Keyed.{IsIn}
use Rattle.version_chain.specs.declared.record.Record.{Record}
use Rattle.version_chain.specs.Versions.{afters_of}
use Rattle.version_chain.specs.ByNumber.{AreLow, chains_in, readers_in}
use Rattle.version_chain.specs.Stores.{numbered_in, IsNotedOn}
use Rattle.version_chain.specs.Records.{AreNoted, HaveRoom}
use Rattle.version_chain.proofs.ByNumber.{chain_at, readers_at}
use Rattle.version_chain.proofs.InSpans.{rises_filtered}

same_count : (rs ss : List Record) → chains_in ss ≡ chains_in rs → length ss ≡ length rs
same_count rs ss same = sym (length-map ss _) ∙ ap length same ∙ length-map rs _

-- a record that keeps what f tells of it takes another's place
pub kept_by : {A : Type 0} (f : Record → A) (rs : List Record) (n : ℕ) (r q : Record) → r ≡ slice_index_or rs n r → f q ≡ f r → map f (slice_set rs n q) ≡ map f rs
kept_by f rs n r q at same = map-set_same f rs n q r (same ∙ ap f at)

-- ---- the numbers that are left

-- those of the span have the numbers that they have among all
number_inside : (span : Span) (ns : Numbered) (x : List ℕ) → number_in (numbered_in span ns) x ≡ cond (in_span span x) (number_in ns x) None
number_inside span ns x = lookup-filter-keys (is_at (key_cmp x)) (in_span span) (in_span span x) (λ y here. ap (in_span span) (sym (same_key x y (sym (is_eq-slice_cmp x y) ∙ here)))) ns

none_later : (x : List ℕ) (ms : Numbered) → ((y : List ℕ) → IsIn y (keys_of ms) → key_cmp x y ≡ Less) → number_in ms x ≡ None
none_later x [] later = refl
none_later x (e ∷ ms) later = let here : key_cmp x e.0 ≡ Less = later e.0 (inl refl) in let rest = none_later x ms (λ y i. later y (inr i)) in grind (arith, common_steps)

-- where those of the span are left that `rest` has, what P says is so of the records of the others, and any other record is as it was
pub record IsWalked (P : ℕ → Record → Type 0) (ns : Numbered) (os rs : List Record) (span : Span) (rest : Numbered) : Type 0 where
  pub chains : chains_in rs ≡ chains_in os
  pub rising : RisingKeys (keys_of rest)
  pub those : (x : List ℕ) (n : ℕ) → number_in rest x ≡ Some n → (number_in ns x ≡ Some n) × (in_span span x ≡ true)
  pub done : (x : List ℕ) (n : ℕ) (d : Record) → number_in ns x ≡ Some n → in_span span x ≡ true → number_in rest x ≡ None → P n (slice_index_or rs n d)
  pub same : (x : List ℕ) (n : ℕ) (d : Record) → number_in ns x ≡ Some n → (in_span span x ≡ false) ⊎ (number_in rest x ≡ Some n) → slice_index_or rs n d ≡ slice_index_or os n d

pub walk_first : (P : ℕ → Record → Type 0) (ns : Numbered) (os : List Record) (span : Span) (rest : Numbered) → RisingKeys (keys_of ns) → rest ≡ numbered_in span ns → IsWalked P ns os os span rest
walk_first P ns os span rest r is = record {
  chains = refl;
  rising = subst (λ ms. RisingKeys (keys_of ms)) (sym is) (rises_filtered (λ (e : List ℕ × ℕ). in_span span e.0) ns r);
  those = λ x n left. let all = number_inside span ns x in grind (arith, common_steps);
  done = λ x n d at inside gone. absurd (let all = number_inside span ns x in grind (arith, common_steps));
  same = λ x n d at any. refl;
}

-- what holds at a number of a record that came there, and of another that was there, holds of what is there
set-cases : (P : ℕ → Record → Type 0) (rs : List Record) (m n : ℕ) (q d : Record) → m < length rs → P m q → P n (slice_index_or rs n d) → P n (slice_index_or (slice_set rs m q) n d)
set-cases P rs m n q d low here there = grind (arith, common_steps)

module _ (P : ℕ → Record → Type 0) (ns : Numbered) (os rs : List Record) (span : Span) (e : List ℕ × ℕ) (left rest : Numbered) (low : AreLow ns (length os)) (is : left ≡ e ∷ rest) (s : IsWalked P ns os rs span left) where
  first : number_in left e.0 ≡ Some e.1
  first = let itself : is_at (key_cmp e.0) e.0 ≡ true = is_eq-slice_cmp e.0 e.0 ∙ key_itself e.0 in ap (λ ms. number_in ms e.0) is ∙ rw itself refl

  number : (number_in ns e.0 ≡ Some e.1) × (in_span span e.0 ≡ true)
  number = s.those e.0 e.1 first

  pub next_low : e.1 < length rs
  next_low = let at : e.1 < length os = low e.0 e.1 number.0 in let count = same_count os rs s.chains in omega arith

  -- its record is as it was
  was : (r : Record) → r ≡ slice_index_or rs e.1 r → r ≡ slice_index_or os e.1 r
  was r at = at ∙ s.same e.0 e.1 r number.0 (inr first)

  pub walk_next : (r q : Record) → r ≡ slice_index_or rs e.1 r → q.chain ≡ r.chain → P e.1 q → AreApart ns → IsWalked P ns os (slice_set rs e.1 q) span rest
  walk_next r q at chain p apart = record {
    chains = kept_by (λ (k : Record). k.chain) rs e.1 r q at chain ∙ s.chains;
    rising = rises.1;
    those = λ x n more. s.those x n (further x n more);
    done = λ x n d has on gone. by_test (is_at (key_cmp x) e.0)
        (λ here. let same : e.1 ≡ n = itself x n here has in subst (λ m. P m (slice_index_or (slice_set rs e.1 q) m d)) same (rw (get_or-set_same rs e.1 q d next_low) p))
        (λ there. set-cases P rs e.1 n q d next_low p (s.done x n d has on (behind x there ∙ gone)));
    same = λ x n d has out. get_or-set_other rs e.1 n q d (differs x n has out) ∙ s.same x n d has (elim out [ inl off ↦ inl off | inr more ↦ inr (further x n more) ]);
  }
    where
      rises : RisingKeys (keys_of (e ∷ rest))
      rises = subst (λ ms. RisingKeys (keys_of ms)) is s.rising

      behind : (x : List ℕ) → is_at (key_cmp x) e.0 ≡ false → number_in left x ≡ number_in rest x
      behind x there = ap (λ ms. number_in ms x) is ∙ rw there refl

      itself : (x : List ℕ) (n : ℕ) → is_at (key_cmp x) e.0 ≡ true → number_in ns x ≡ Some n → e.1 ≡ n
      itself x n here has = let key : x ≡ e.0 = same_key x e.0 (sym (is_eq-slice_cmp x e.0) ∙ here) in let at = number.0 in cc

      further : (x : List ℕ) (n : ℕ) → number_in rest x ≡ Some n → number_in left x ≡ Some n
      further x n more = by_test (is_at (key_cmp x) e.0)
          (λ here. let key : x ≡ e.0 = same_key x e.0 (sym (is_eq-slice_cmp x e.0) ∙ here) in let no : None ≡ Some n = sym (none_later e.0 rest rises.0) ∙ ap (number_in rest) (sym key) ∙ more in cc)
          (λ there. behind x there ∙ more)

      differs : (x : List ℕ) (n : ℕ) → number_in ns x ≡ Some n → (in_span span x ≡ false) ⊎ (number_in rest x ≡ Some n) → n ≢ e.1
      differs x n has out same = (let key : x ≡ e.0 = apart x e.0 n has (number.0 ∙ ap Some (sym same)) in let gone = none_later e.0 rest rises.0 in let on = number.1 in grind (arith, common_steps))

-- ---- at the end of the walk

pub rooming_ends : (ns : Numbered) (os rs : List Record) (span : Span) (rest : Numbered) → [] ≡ rest → IsWalked (λ n q. has_room q.readers) ns os rs span rest → HaveRoom ns rs span
rooming_ends ns os rs span rest end s x n d has inside = s.done x n d has inside (ap (λ ms. number_in ms x) (sym end))

-- the read by t is noted in the record that came to n
abbrev pub IsNotedAt : List Record → ℕ → ℕ → ℕ → Record → Type 0
IsNotedAt os t f n q = IsNotedOn (afters_of (slice_index_or (chains_in os) n [])) (is_kept f (slice_index_or (readers_in os) n [])) (is_kept f (readers_of q.readers)) t

module _ (ns : Numbered) (os rs : List Record) (span : Span) (t f : ℕ) (e : List ℕ × ℕ) (left rest : Numbered) (low : AreLow ns (length os)) (is : left ≡ e ∷ rest) (s : IsWalked (IsNotedAt os t f) ns os rs span left) (r : Record) (at : r ≡ slice_index_or rs e.1 r) where
  -- there is room for the next one
  pub room_next : HaveRoom ns os span → has_room r.readers
  room_next room = let here = number (IsNotedAt os t f) ns os rs span e left rest low is s in
      subst (λ (k : Record). has_room k.readers) (sym (was (IsNotedAt os t f) ns os rs span e left rest low is s r at)) (room e.0 e.1 r here.0 here.1)

  pub noted_next : (q : Record) → IsNotedOn (afters_of r.chain) (is_kept f (readers_of r.readers)) (is_kept f (readers_of q.readers)) t → IsNotedAt os t f e.1 q
  noted_next q noted =
      let inside : e.1 < length os = low e.0 e.1 (number (IsNotedAt os t f) ns os rs span e left rest low is s).0 in
      let old = was (IsNotedAt os t f) ns os rs span e left rest low is s r at in
      rw (chain_at os e.1 r inside old, readers_at os e.1 r inside old) noted

-- what is so of the readers of each record is so of the list's
at_readers : (Q : List ℕ → Type 0) (rs : List Record) (n : ℕ) → n < length rs → ((d : Record) → Q (readers_of (slice_index_or rs n d).readers)) → Q (slice_index_or (readers_in rs) n [])
at_readers Q [] n lt each = absurd (omega arith)
at_readers Q (r ∷ rs) n lt each = subst Q (sym (get_or-map (λ (k : Record). readers_of k.readers) (r ∷ rs) n r [] lt)) (each r)

pub noting_ends : (ns : Numbered) (os rs : List Record) (span : Span) (t f : ℕ) (rest : Numbered) → AreLow ns (length os) → [] ≡ rest → IsWalked (IsNotedAt os t f) ns os rs span rest → AreNoted ns os rs span t f
noting_ends ns os rs span t f rest low end s = record {
  chains = s.chains;
  noted = λ x n has on. at_readers (λ qs. IsNotedOn (afters_of (slice_index_or (chains_in os) n [])) (is_kept f (slice_index_or (readers_in os) n [])) (is_kept f qs) t) rs n (inside x n has) (λ d. s.done x n d has on (ap (λ ms. number_in ms x) (sym end)));
  others = λ x n has off. at_readers (λ qs. qs ≡ slice_index_or (readers_in os) n []) rs n (inside x n has)
      (λ d. ap (λ (k : Record). readers_of k.readers) (s.same x n d has (inl off)) ∙ sym (get_or-map (λ (k : Record). readers_of k.readers) os n d [] (low x n has)));
}
  where
    inside : (x : List ℕ) (n : ℕ) → number_in ns x ≡ Some n → n < length rs
    inside x n has = let l : n < length os = low x n has in let count = same_count os rs s.chains in omega arith
