-- The readers between two starts have risen, and those that are forgotten have gone.
use Rattle.std.proofs.Common.{ℕ, List, [], ◌∷◌, Bool, true, false, cond, not, ◌&&◌, ◌≡◌, refl, ap, ◌∙◌, map, Option, Some, None, IsSome, nat_le, unwrap_or, arith}
use Rattle.read_marks.proofs.Common.{AllByRecursion, Equal, Greater, IsOrdered, IsStrictlySortedBy, Less, Ordering, alike_right, in_span, is_at, is_eq, is_le, is_lt, key_cmp, keys_of, lookup, nat_list_cmp_total, not-not, ordering_reverse, common_steps}
use Rattle.std.specs.BTreeMap.Range.{range_contains}
use Rattle.std.specs.declared.ops.Bound.TheVariants.{Included}
use Rattle.spans.specs.KeyOrder.{below_high, from_low}
use Rattle.spans.specs.declared.span.Span.{Span}
use Rattle.read_marks.specs.Spans.{IsEnd, IsStart, end_at, is_between, latest_in, reaches, step_at}
use Rattle.read_marks.specs.declared.span_marks.SpanMarks.{SpanMarks}
use Rattle.read_marks.proofs.Steps.{less-from, none-found}

-- starts, each with its latest reader
abbrev pub Entries : Type 0
Entries = List (List ℕ × ℕ)

abbrev pub IsStartIn : Entries → List ℕ → Type 0
IsStartIn es place = IsSome (lookup (is_at (key_cmp place)) es)

-- the start lies between
abbrev pub picks : List ℕ → Option (List ℕ) → List ℕ → Bool
picks lo hi start = range_contains key_cmp (Included lo) (end_at hi) start

-- of the starts that are picked, each has its new reader
abbrev pub written : (List ℕ → Bool) → (ℕ → ℕ) → Entries → Entries
written p g es = map (λ e. (e.0, cond (p e.0) (g e.1) e.1)) es

-- whether the last start that is reached is picked, else b
abbrev pub picked_at : (List ℕ → Bool) → (List ℕ → Bool) → Bool → Entries → Bool
picked_at p reached b [] = b
picked_at p reached b (e ∷ es) = cond (reached e.0) (picked_at p reached (p e.0) es) b

-- a key has its new reader where its start is picked
pub step-written : (p r : List ℕ → Bool) (g : ℕ → ℕ) (b : Bool) (d : ℕ) (es : Entries) → step_at r (cond b (g d) d) (written p g es) ≡ cond (picked_at p r b es) (g (step_at r d es)) (step_at r d es)
step-written p r g b d [] = refl
step-written p r g b d (e ∷ es) = grind (arith, common_steps, step-written p r g (p e.0) e.1 es)

-- ---- a key's start is picked where the key is, as long as a start is at both ends

all-true : (p r : List ℕ → Bool) (es : Entries) → AllByRecursion (λ e. p e.0 ≡ true) es → picked_at p r true es ≡ true
all-true p r [] h = refl
all-true p r (e ∷ es) h = grind (arith, common_steps, all-true p r es)

later-above : (lo k : List ℕ) (es : Entries) → key_cmp lo k ≡ Equal → AllByRecursion (λ q. key_cmp k q ≡ Less) (keys_of es) → AllByRecursion (λ f. is_le (key_cmp lo f.0) ≡ true) es
later-above lo k [] same h = tt
later-above lo k (e ∷ es) same h = (ap is_le (nat_list_cmp_total.congr lo k e.0 same ∙ h.0), later-above lo k es same h.1)

no-some : {X : Type 0} (o : Option X) → o ≡ None → IsSome o → ⊥
no-some o h g = grind (arith, common_steps)

lo-turn : (lo x : List ℕ) (e : List ℕ × ℕ) (es : Entries) (r : Ordering) (t : Bool) → key_cmp lo e.0 ≡ r → reaches x e.0 ≡ t → AllByRecursion (λ q. key_cmp e.0 q ≡ Less) (keys_of es)
    → IsSome (cond (is_eq r) (Some e.1) (lookup (is_at (key_cmp lo)) es)) → (IsStartIn es lo → picked_at (λ k. is_le (key_cmp lo k)) (reaches x) false es ≡ reaches x lo)
    → cond t (picked_at (λ k. is_le (key_cmp lo k)) (reaches x) (is_le r) es) false ≡ reaches x lo
lo-turn lo x e es Less t is at later found ih = absurd (no-some _ (none-found nat_list_cmp_total lo e.0 es is later) found)
lo-turn lo x e es Equal t is at later found ih = let alike = alike_right nat_list_cmp_total lo e.0 x is in let all = all-true (λ k. is_le (key_cmp lo k)) (reaches x) es (later-above lo e.0 es is later) in grind (arith, common_steps)
lo-turn lo x e es Greater t is at later found ih =
    let back : key_cmp e.0 lo ≡ Less = nat_list_cmp_total.antisymm e.0 lo ∙ ap ordering_reverse is in
    let less = nat_list_cmp_total.trans x e.0 lo in let from = less-from (key_cmp x e.0) in grind (arith, common_steps)

-- the last start that x reaches is from lo on exactly where x is
picked-from : (lo x : List ℕ) (es : Entries) → IsStrictlySortedBy key_cmp (keys_of es) → IsStartIn es lo → picked_at (λ k. is_le (key_cmp lo k)) (reaches x) false es ≡ reaches x lo
unfolding IsStrictlySortedBy
picked-from lo x [] s found = cc
picked-from lo x (e ∷ es) s found = lo-turn lo x e es (key_cmp lo e.0) (reaches x e.0) refl refl s.0 found (λ h. picked-from lo x es s.1 h)

picked-both : (p q r : List ℕ → Bool) (b c : Bool) (es : Entries) → picked_at (λ k. p k && not (q k)) r (b && not c) es ≡ (picked_at p r b es && not (picked_at q r c es))
picked-both p q r b c [] = refl
picked-both p q r b c (e ∷ es) = grind (arith, common_steps, picked-both p q r (p e.0) (q e.0) es)

picked-none : (r : List ℕ → Bool) (es : Entries) → picked_at (λ _. false) r false es ≡ false
picked-none r [] = refl
picked-none r (e ∷ es) = grind (arith, common_steps, picked-none r es)

picked-between : (lo : List ℕ) (hi : Option (List ℕ)) (x : List ℕ) (m : SpanMarks) → IsOrdered key_cmp m.starts → IsStart m lo → IsEnd m hi → picked_at (picks lo hi) (reaches x) false m.starts.entries ≡ is_between lo hi x
picked-between lo None x m s low high =
    picked-both (λ k. is_le (key_cmp lo k)) (λ _. false) (reaches x) false false m.starts.entries ∙ (rw (picked-from lo x m.starts.entries s low, picked-none (reaches x) m.starts.entries) refl)
picked-between lo (Some hi) x m s low high =
    picked-both (λ k. is_le (key_cmp lo k)) (λ k. is_le (key_cmp hi k)) (reaches x) false false m.starts.entries
    ∙ (rw (picked-from lo x m.starts.entries s low, picked-from hi x m.starts.entries s high, not-not) refl)

-- where a start is at both ends, the keys between them have their new readers once the starts between them have
pub written_between : (lo : List ℕ) (hi : Option (List ℕ)) (g : ℕ → ℕ) (x : List ℕ) (m : SpanMarks) → IsOrdered key_cmp m.starts → IsStart m lo → IsEnd m hi
    → step_at (reaches x) 0 (written (picks lo hi) g m.starts.entries) ≡ cond (is_between lo hi x) (g (latest_in m x)) (latest_in m x)
written_between lo hi g x m s low high =
    step-written (picks lo hi) (reaches x) g false 0 m.starts.entries ∙ ap (λ b. cond b (g (latest_in m x)) (latest_in m x)) (picked-between lo hi x m s low high)

-- ---- a span's bounds

reaches-least : (x : List ℕ) → reaches x [] ≡ true
reaches-least [] = refl
reaches-least (b ∷ x) = refl

from_least : (lo : Option (List ℕ)) (x : List ℕ) → reaches x (unwrap_or lo []) ≡ from_low lo x
from_least lo x = grind (arith, common_steps, reaches-least)

-- a span has the keys between its bounds
pub spanned : (lo : List ℕ) (hi : Option (List ℕ)) (span : Span) → lo ≡ unwrap_or span.lo [] → hi ≡ span.hi → (x : List ℕ) → is_between lo hi x ≡ in_span span x
spanned lo hi span low high x = rw (low, high) (ap (λ b. b && below_high span.hi x) (from_least span.lo x))

-- where the end is not above the beginning no key lies between
pub backward : (lo hi x : List ℕ) → is_lt (key_cmp lo hi) ≡ false → is_between lo (Some hi) x ≡ false
backward lo hi x off = grind (arith, common_steps, alike_right nat_list_cmp_total lo hi x, nat_list_cmp_total.trans x hi lo, nat_list_cmp_total.antisymm hi lo)

-- ---- forgotten readers

-- what becomes of each start's reader becomes of each key's
step_mapped : (reached : List ℕ → Bool) (g : ℕ → ℕ) (d : ℕ) (es : Entries) → step_at reached (g d) (map (λ e. (e.0, g e.1)) es) ≡ g (step_at reached d es)
step_mapped reached g d [] = refl
step_mapped reached g d (e ∷ es) = grind (arith, common_steps, step_mapped reached g e.1 es)

-- of each key the reader goes where it is forgotten
pub forgotten_gone : (reached : List ℕ → Bool) (through : ℕ) (es : Entries) → step_at reached 0 (map (λ e. (e.0, cond (nat_le e.1 through) 0 e.1)) es) ≡ cond (nat_le (step_at reached 0 es) through) 0 (step_at reached 0 es)
forgotten_gone reached through es =
    ap (λ (z : ℕ). step_at reached z (map (λ e. (e.0, cond (nat_le e.1 through) 0 e.1)) es)) (grind (arith, common_steps)) ∙ step_mapped reached (λ v. cond (nat_le v through) 0 v) 0 es
