-- The values of a span at a timestamp, gathered key by key.
use Rattle.catch_up.proofs.Common.{After, Entry, IsIn, IsNewestOf, IsNoneUpTo, IsRowIn, RisingKeys, RisingRows, Row, Span, Stored, Version, both_ways, by_test, chain_among, chain_in, chain_nowhere, chain_of, common_steps, has, has_in, has_versions, in_span, keys_of, length-append, newest_only, option_copied, rises_append, rises_filtered, version_in}
use Rattle.std.proofs.Common.{append_assoc, Bool, Bor, List, None, Option, Some, [], ap, arith, false, length, refl, subst, sym, true, ◌&&◌, ℕ, ◌<◌, ◌≤◌, ◌≡◌, ◌++◌, ◌∷◌, ◌∙◌}
use Rattle.std.specs.Prelude.{MatchOption, IfSome, filter, is_some}
use Rattle.spans.specs.Versions.{newest}
use Rattle.catch_up.specs.Rows.{AreFirstsIn, IsFirstIn, is_past, one_in, value_in}

-- what the store has of a key
abbrev pub found_at : Stored → ℕ → List ℕ → After
found_at s t x = (newest (version_in s x) t).after

-- the rows that keys give
abbrev pub firsts_at : Stored → Span → ℕ → List (List ℕ) → List Row
firsts_at s span t [] = []
firsts_at s span t (x ∷ xs) = one_in span t x (found_at s t x) ++ firsts_at s span t xs

-- a row that a key gives
record IsGiven (s : Stored) (span : Span) (t : ℕ) (r : Row) : Type 0 where
  at : r.ts ≡ t
  found : found_at s t r.key ≡ r.after
  value : is_some r.after ≡ true
  inside : in_span span r.key ≡ true

record IsOne (t : ℕ) (x : List ℕ) (a : After) (r : Row) : Type 0 where
  at : r.ts ≡ t
  key : x ≡ r.key
  found : a ≡ r.after
  value : is_some r.after ≡ true

first_only : (span : Span) (t : ℕ) (x : List ℕ) (a : After) (r : Row) → IsRowIn r (one_in span t x a) → IsOne t x a r × (in_span span x ≡ true)
first_only span t x a r i = grind (arith, common_steps)

firsts_only : (s : Stored) (span : Span) (t : ℕ) (xs : List (List ℕ)) (r : Row) → IsRowIn r (firsts_at s span t xs) → IsIn r.key xs × IsGiven s span t r
firsts_only s span t [] r i = absurd i
firsts_only s span t (x ∷ xs) r i = grind (arith, common_steps, firsts_only s span t xs r)

abbrev row_at : ℕ → List ℕ → List ℕ → Row
row_at t x v = record { ts = t; key = x; after = Some v }

firsts_has : (s : Stored) (span : Span) (t : ℕ) (xs : List (List ℕ)) (x v : List ℕ) → IsIn x xs → in_span span x ≡ true → found_at s t x ≡ Some v → IsRowIn (row_at t x v) (firsts_at s span t xs)
firsts_has s span t [] x v i inside found = absurd i
firsts_has s span t (y ∷ ys) x v i inside found = grind (arith, common_steps, firsts_has s span t ys x v)

one_rises : (span : Span) (t : ℕ) (x : List ℕ) (a : After) → RisingRows (one_in span t x a)
one_rises span t x None = grind (arith, common_steps)
one_rises span t x (Some v) = grind (arith, common_steps)

firsts_rise : (s : Stored) (span : Span) (t : ℕ) (xs : List (List ℕ)) → RisingKeys xs → RisingRows (firsts_at s span t xs)
firsts_rise s span t [] rising = tt
firsts_rise s span t (x ∷ xs) rising = rises_append (one_in span t x (found_at s t x)) (firsts_at s span t xs) (one_rises span t x (found_at s t x)) (firsts_rise s span t xs rising.1)
    (λ r q i j.
    let a = (first_only span t x (found_at s t x) r i).0 in
    let b = firsts_only s span t xs q j in
    grind (arith, common_steps))

-- of entries that pass, each passes
pub passed_in : (p : List ℕ → Bool) (x : List ℕ) (es : List Entry) → IsIn x (keys_of (filter (λ (e : Entry). p e.0 && has_versions e.1) es)) → p x ≡ true
passed_in p x [] i = absurd i
passed_in p x (e ∷ es) i = grind (arith, common_steps, passed_in p x es)

-- a key without versions has no value
nothing_at : (s : Stored) (t : ℕ) (x : List ℕ) → chain_of s x ≡ [] → found_at s t x ≡ None
nothing_at s t x none = ap (λ v. v.after) (newest_only (version_in s x) t 0 None (grind (arith, common_steps)))

-- a key of the span that has a version is among the entries
pub key_found : (span : Span) (es found : List Entry) (x : List ℕ) → found ≡ filter (λ (e : Entry). in_span span e.0 && has_versions e.1) es → in_span span x ≡ true → (chain_in es x ≡ [] → ⊥) → IsIn x (keys_of found)
key_found span es found x those inside some = by_test (has x (keys_of found))
    (λ on. (has_in x (keys_of found)).1 on)
    (λ off. absurd (some (chain_nowhere span es found x those inside (λ j. both_ways _ off ((has_in x (keys_of found)).0 j)))))

-- what the entries of the narrowed span give is what is asked for
pub are_firsts : (s : Stored) (span rest : Span) (key : Option (List ℕ)) (t : ℕ) (found : List Entry) → ((x : List ℕ) → in_span span x ≡ true → in_span rest x ≡ is_past key x) → found ≡ filter (λ (e : Entry). in_span rest e.0 && has_versions e.1) s.entries → RisingKeys (keys_of s.entries)
    → AreFirstsIn s span key t (firsts_at s span t (keys_of found))
are_firsts s span rest key t found narrow those rising = record {
  rising = firsts_rise s span t (keys_of found) (subst (λ es. RisingKeys (keys_of es)) (sym those) (rises_filtered _ s.entries rising));
  each = λ r. (
    λ i. let o = firsts_only s span t (keys_of found) r i in record {
      at = o.1.at;
      found = o.1.found;
      value = o.1.value;
      inside = o.1.inside;
      later = sym (narrow r.key o.1.inside) ∙ passed_in (in_span rest) r.key s.entries (subst (λ es. IsIn r.key (keys_of es)) those o.0);
    },
    λ h. has_it r r.after refl h,
  );
}
  where
    has_it : (r : Row) (a : After) → r.after ≡ a → IsFirstIn s span key t r → IsRowIn r (firsts_at s span t (keys_of found))
    has_it r None is h = let no' : false ≡ true = sym (ap is_some is) ∙ h.value in cc
    has_it r (Some v) is h =
        let at_it : found_at s t r.key ≡ Some v = h.found ∙ is in
        let same : row_at t r.key v ≡ r = ap (λ n. record { ts = n; key = r.key; after = Some v }) (sym h.at) ∙ ap (λ a. record { ts = r.ts; key = r.key; after = a }) (sym is) in
        let i = key_found rest s.entries found r.key those (narrow r.key h.inside ∙ h.later) (λ none. let no' : None ≡ Some v = sym (nothing_at s t r.key none) ∙ at_it in cc) in
        subst (λ q. IsRowIn q (firsts_at s span t (keys_of found))) same (firsts_has s span t (keys_of found) r.key v i h.inside at_it)

-- ---- the walk

abbrev pub AreChained : Stored → List Entry → Type 0
AreChained s [] = Unit {0}
AreChained s (e ∷ es) = (chain_of s e.0 ≡ e.1) × AreChained s es

pub chained : (s : Stored) (rest : Span) (found done es : List Entry) → found ≡ filter (λ (e : Entry). in_span rest e.0 && has_versions e.1) s.entries → RisingKeys (keys_of s.entries) → found ≡ done ++ es → AreChained s es
chained s rest found done [] those rising is = tt
chained s rest found done (e ∷ es) those rising is =
    (chain_among rest s.entries found done es e rising those is, chained s rest found (done ++ e ∷ []) es those rising (is ∙ sym (append_assoc done (e ∷ []) es)))

-- the rows of the entries before these
pub record IsSnapping (s : Stored) (span : Span) (key : Option (List ℕ)) (t n : ℕ) (entries : List Entry) (rows : List Row) : Type 0 where
  pub all : List Row
  pub firsts : AreFirstsIn s span key t all
  pub told : rows ++ firsts_at s span t (keys_of entries) ≡ all
  pub chains : AreChained s entries
  pub few : length rows ≤ n

pub snap_begins : (s : Stored) (span rest : Span) (key : Option (List ℕ)) (t n : ℕ) (found : List Entry) (rows : List Row) → ((x : List ℕ) → in_span span x ≡ true → in_span rest x ≡ is_past key x) → found ≡ filter (λ (e : Entry). in_span rest e.0 && has_versions e.1) s.entries → RisingKeys (keys_of s.entries)
    → rows ≡ [] → IsSnapping s span key t n found rows
snap_begins s span rest key t n found rows narrow those rising empty = record {
  all = firsts_at s span t (keys_of found);
  firsts = are_firsts s span rest key t found narrow those rising;
  told = ap (λ l. l ++ firsts_at s span t (keys_of found)) empty;
  chains = chained s rest found [] found those rising refl;
  few = let none : length rows ≡ 0 = ap length empty in omega arith;
}

-- the newest version of a chain is what the store has of its key
chain_has : (s : Stored) (t m : ℕ) (x : List ℕ) (vs : List Version) (o : Option (Bor Version)) → chain_of s x ≡ vs → m ≡ t → MatchOption o (IsNoneUpTo vs m) (λ v. IsNewestOf vs m v.now) → IfSome (option_copied o) (λ v. 1 ≤ v.ts) → value_in (option_copied o) ≡ found_at s t x
chain_has s t m x vs None is same none named = sym (ap (λ v. v.after) (newest_only (version_in s x) t 0 None (grind (arith, common_steps))))
chain_has s t m x vs (Some b) is same new named = sym (ap (λ v. v.after) (newest_only (version_in s x) t b.now.ts b.now.after (grind (arith, common_steps))))

one_length : (span : Span) (t : ℕ) (x : List ℕ) (a : After) → length (one_in span t x a) ≤ 1
one_length span t x None = grind (arith, common_steps)
one_length span t x (Some v) = grind (arith, common_steps)

pub snap_goes_on : (s : Stored) (span : Span) (key : Option (List ℕ)) (t m n : ℕ) (x : List ℕ) (vs : List Version) (rest : List Entry) (rows rows' : List Row) (o : Option (Bor Version)) → IsSnapping s span key t n ((x, vs) ∷ rest) rows → length rows < n → m ≡ t
    → MatchOption o (IsNoneUpTo vs m) (λ v. IsNewestOf vs m v.now) → IfSome (option_copied o) (λ v. 1 ≤ v.ts) → rows' ≡ rows ++ one_in span t x (value_in (option_copied o)) → IsSnapping s span key t n rest rows'
snap_goes_on s span key t m n x vs rest rows rows' o snap low same newest named more = grind (arith, common_steps, chain_has, length-append, one_length)
