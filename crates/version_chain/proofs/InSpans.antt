-- The keys of a span are those of a range, up to the first one that is not below its end.
use Rattle.version_chain.proofs.Common.{Has, IsIn, Less, Numbered, RisingKeys, Span, Unbounded, and-false, and-true, and_parts, below_high, by_test, common_steps, false_from_ne_true, filter, from_low, has_filter, in_span, is_at, is_eq, is_eq-slice_cmp, key_cmp, key_itself, keys_of, lookup, range_contains, same_key, start_of, starts_at, starts_before, stays_above}
use Rattle.std.proofs.Common.{arith, ◌≡◌, ℕ, ◌≤◌, Bool, true, false, ◌&&◌, List, [], ◌∷◌, ◌++◌, length, Option, Some, refl, sym, ◌∙◌, ap, subst, inl, inr}
use Rattle.spans.proofs.Members.{has_append}
use Rattle.timestamps.specs.declared.key.TheConstants.{MAX_KEY_BYTES}
use Rattle.std.specs.Prelude.{unwrap_or}
use Rattle.std.specs.declared.ops.Bound.{Bound}
use Rattle.version_chain.specs.declared.chain.Version.{Version}
use Rattle.version_chain.specs.Stores.{Entry, AreFilled, chain_in, has_versions, starting_at, AreBehind, AreAhead, AreFrom, AreFound, filled, numbered_in}
use Rattle.version_chain.specs.ByNumber.{entries_of}

-- ---- keys

same_at : (x y : List ℕ) → is_at (key_cmp x) y ≡ true → x ≡ y
same_at x y e = same_key x y (sym (is_eq-slice_cmp x y) ∙ e)

at_itself : (x : List ℕ) → is_at (key_cmp x) x ≡ true
at_itself x = is_eq-slice_cmp x x ∙ key_itself x

not_itself : (x : List ℕ) → key_cmp x x ≡ Less → ⊥
not_itself x less = let no : is_eq Less ≡ true = ap is_eq (sym less) ∙ at_itself x in (let n : false ≡ true = no in cc)

-- ---- filtered entries

module _ {A : Type 0} where
  in_rest : (p : List ℕ × A → Bool) (x : List ℕ) (es : List (List ℕ × A)) → IsIn x (keys_of (filter p es)) → IsIn x (keys_of es)
  in_rest p x [] i = i
  in_rest p x (e ∷ es) i = grind (arith, common_steps, in_rest p x es)

  pub rises_filtered : (p : List ℕ × A → Bool) (es : List (List ℕ × A)) → RisingKeys (keys_of es) → RisingKeys (keys_of (filter p es))
  rises_filtered p [] r = tt
  rises_filtered p (e ∷ es) r = by_test (p e)
      (λ on. rw on (λ x i. r.0 x (in_rest p x es i), rises_filtered p es r.1))
      (λ off. rw off (rises_filtered p es r.1))

  -- a filter after one that lets all of its own through
  filtered_twice : (p q : List ℕ → Bool) (es : List (List ℕ × A)) → ((x : List ℕ) → p x ≡ true → q x ≡ true) → filter (λ (e : List ℕ × A). p e.0) (filter (λ (e : List ℕ × A). q e.0) es) ≡ filter (λ (e : List ℕ × A). p e.0) es
  filtered_twice p q [] more = refl
  filtered_twice p q (e ∷ es) more = grind (arith, common_steps, more e.0, filtered_twice p q es more)

  -- one that comes after an entry is looked up behind it
  pub looked_behind : (d : List ℕ × A) (es : List (List ℕ × A)) (x : List ℕ) (o : Option A) → ((y : List ℕ) → IsIn y (keys_of es) → key_cmp d.0 y ≡ Less) → IsIn x (keys_of es) → lookup (is_at (key_cmp x)) es ≡ o → lookup (is_at (key_cmp x)) (d ∷ es) ≡ o
  looked_behind d es x o later among is = grind (arith, common_steps, not_itself, same_at x d.0, later x)

  has_key : (e : List ℕ × A) (es : List (List ℕ × A)) → Has e es → IsIn e.0 (keys_of es)
  has_key e [] i = i
  has_key e (d ∷ es) i = grind (arith, common_steps, has_key e es)

  looked_up : (e : List ℕ × A) (es : List (List ℕ × A)) → RisingKeys (keys_of es) → Has e es → lookup (is_at (key_cmp e.0)) es ≡ Some e.1
  looked_up e [] r i = absurd i
  looked_up e (d ∷ es) r i = elim i [
    | inl here ↦ subst (λ f. lookup (is_at (key_cmp f.0)) (d ∷ es) ≡ Some f.1) here (rw (at_itself d.0) refl)
    | inr there ↦ looked_behind d es e.0 (Some e.1) r.0 (has_key e es there) (looked_up e es r.1 there)
  ]

  -- each entry that is left passes, and is what is found at its key
  found_among : (p : List ℕ × A → Bool) (es done rest : List (List ℕ × A)) (e : List ℕ × A) → RisingKeys (keys_of es) → filter p es ≡ done ++ e ∷ rest → (p e ≡ true) × (lookup (is_at (key_cmp e.0)) es ≡ Some e.1)
  found_among p es done rest e r is =
      let i = (has_filter p e es).0 (subst (Has e) (sym is) ((has_append e done (e ∷ rest)).1 (inr (inl refl)))) in
      (i.0, looked_up e es r i.1)

-- ---- the range that begins there

-- the test of a range without an end
abbrev is_ahead : Bound (List ℕ) → List ℕ → Bool
is_ahead start x = range_contains key_cmp start Unbounded x

behind_start : (low : Option (List ℕ)) (ns : Numbered) → AreBehind low (starting_at (start_of low) ns)
behind_start low [] = tt
behind_start low (e ∷ ns) = by_test (is_ahead (start_of low) e.0)
    (λ on. rw on (λ short. starts_at low e.0 short (sym (and-true _) ∙ on), behind_start low ns))
    (λ off. rw off (behind_start low ns))

pub from_start : (low : Option (List ℕ)) (ns : Numbered) → RisingKeys (keys_of ns) → AreFrom low ns (starting_at (start_of low) ns)
from_start low ns r = record {
  ahead = record { rising = rises_filtered (λ (e : List ℕ × ℕ). is_ahead (start_of low) e.0) ns r; behind = behind_start low ns };
  all = filtered_twice (from_low low) (is_ahead (start_of low)) ns (λ x from. and-true _ ∙ starts_before low x from);
}

pub numbers_found : (span : Span) (ns rest : Numbered) → AreFrom span.lo ns rest → numbered_in span rest ≡ numbered_in span ns
numbers_found span ns rest are =
    let inner = λ (ds : Numbered). filtered_twice (in_span span) (from_low span.lo) ds (λ x inside. (and_parts _ _ inside).0) in
    sym (inner rest) ∙ ap (filter (λ (e : List ℕ × ℕ). in_span span e.0)) are.all ∙ inner ns

-- ---- one step

pub step_inside : (span : Span) (e : List ℕ × ℕ) (ns : Numbered) → AreAhead span.lo (e ∷ ns) → length e.0 ≤ MAX_KEY_BYTES → below_high span.hi e.0 ≡ true → numbered_in span (e ∷ ns) ≡ e ∷ numbered_in span ns
step_inside span e ns a short below = grind (arith, common_steps)

none_inside : (span : Span) (x : List ℕ) (ns : Numbered) → below_high span.hi x ≡ false → ((y : List ℕ) → IsIn y (keys_of ns) → key_cmp x y ≡ Less) → numbered_in span ns ≡ []
none_inside span x [] past above = refl
none_inside span x (e ∷ ns) past above = grind (arith, common_steps, stays_above, and-false, none_inside span x ns past)

pub step_past : (span : Span) (e : List ℕ × ℕ) (ns : Numbered) → AreAhead span.lo (e ∷ ns) → below_high span.hi e.0 ≡ false → (numbered_in span (e ∷ ns) ≡ []) × (numbered_in span ns ≡ [])
step_past span e ns a past = grind (arith, common_steps, and-false, none_inside)

-- ---- the same by number

pub keys_numbered : {A : Type 0} (ns : Numbered) (xs : List (List A)) → keys_of (entries_of ns xs) ≡ keys_of ns
keys_numbered [] xs = refl
keys_numbered (e ∷ ns) xs = ap (λ ks. e.0 ∷ ks) (keys_numbered ns xs)

filled_are : (p : List ℕ → Bool) (es : List Entry) → AreFilled (filter (λ (e : Entry). p e.0 && has_versions e.1) es)
filled_are p [] = tt
filled_are p (e ∷ es) = grind (arith, common_steps, filled_are p es)

-- those of the span that have a version, by the numbers of the span
filled_in : (span : Span) (ns : Numbered) (cs : List (List Version)) → filled (entries_of (numbered_in span ns) cs) ≡ filter (λ (e : Entry). in_span span e.0 && has_versions e.1) (entries_of ns cs)
filled_in span [] cs = refl
filled_in span (e ∷ ns) cs = grind (arith, common_steps, filled_in span ns cs)

pub are_found : (span : Span) (ns ms : Numbered) (cs : List (List Version)) (found : List Entry) → RisingKeys (keys_of ns) → ms ≡ numbered_in span ns → found ≡ filled (entries_of ms cs) → AreFound span (entries_of ns cs) found
are_found span ns ms cs found r those is =
    let all : found ≡ filter (λ (e : Entry). in_span span e.0 && has_versions e.1) (entries_of ns cs) = is ∙ ap (λ ls. filled (entries_of ls cs)) those ∙ filled_in span ns cs in
    let rises : RisingKeys (keys_of (entries_of ns cs)) = subst RisingKeys (sym (keys_numbered ns cs)) r in
    record {
      those = all;
      ordered = rises;
      rising = subst (λ es. RisingKeys (keys_of es)) (sym all) (rises_filtered _ (entries_of ns cs) rises);
      filled = subst AreFilled (sym all) (filled_are (in_span span) (entries_of ns cs));
    }

-- ---- what the entries of a span say of the store

abbrev is_listed : Span → Entry → Bool
is_listed span e = in_span span e.0 && has_versions e.1

-- each entry is of a key of the span, and has its chain
pub key_among : (span : Span) (es found done rest : List Entry) (e : Entry) → RisingKeys (keys_of es) → found ≡ filter (λ (d : Entry). in_span span d.0 && has_versions d.1) es → found ≡ done ++ e ∷ rest → in_span span e.0 ≡ true
key_among span es found done rest e r those is = (and_parts _ _ (found_among (is_listed span) es done rest e r (sym those ∙ is)).0).0

pub chain_among : (span : Span) (es found done rest : List Entry) (e : Entry) → RisingKeys (keys_of es) → found ≡ filter (λ (d : Entry). in_span span d.0 && has_versions d.1) es → found ≡ done ++ e ∷ rest → chain_in es e.0 ≡ e.1
chain_among span es found done rest e r those is = ap (λ o. unwrap_or o []) (found_among (is_listed span) es done rest e r (sym those ∙ is)).1

-- a key of the span that is not among the entries has no version
pub chain_nowhere : (span : Span) (es found : List Entry) (x : List ℕ) → found ≡ filter (λ (d : Entry). in_span span d.0 && has_versions d.1) es → in_span span x ≡ true → (IsIn x (keys_of found) → ⊥) → chain_in es x ≡ []
chain_nowhere span es found x those inside none =
    no-versions (chain_in es x) (false_from_ne_true _ (λ some. none (subst (λ ds. IsIn x (keys_of ds)) (sym those) (listed es some))))
  where
    no-versions : (vs : List Version) → has_versions vs ≡ false → vs ≡ []
    no-versions [] off = refl
    no-versions (v ∷ vs) off = cc

    listed : (es : List Entry) → has_versions (chain_in es x) ≡ true → IsIn x (keys_of (filter (λ (d : Entry). in_span span d.0 && has_versions d.1) es))
    listed [] some = cc
    listed (e ∷ es) some = grind (arith, common_steps, inside, same_at x e.0, listed es)
