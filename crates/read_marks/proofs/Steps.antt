-- Step functions over entries that are sorted by an order.
use Rattle.std.proofs.Common.{List, [], ◌∷◌, ◌++◌, Bool, false, cond, not, ◌≡◌, refl, sym, ap, ◌∙◌, Option, Some, None, arith}
use Rattle.read_marks.proofs.Common.{AllByRecursion, Equal, Greater, IsStrictlySortedBy, IsTotalOrder, Less, Ordering, filter, insert_entry, is_at, is_eq, is_le, is_lt, keys_of, lookup, match_ordering, remove_entry, common_steps}
use Rattle.read_marks.specs.Spans.{step_at}

-- the value of the last entry
abbrev last_or : {K V : Type 0} → V → List (K × V) → V
last_or d [] = d
last_or d (e ∷ es) = last_or e.1 es

last_or-end : {K V : Type 0} (d : V) (t : List (K × V)) (e : K × V) → last_or d (t ++ e ∷ []) ≡ e.1
last_or-end d [] e = refl
last_or-end d (x ∷ t) e = last_or-end x.1 t e

-- the entries that are reached come first
abbrev pub ComeFirst : {K V : Type 0} → (K → Bool) → List (K × V) → Type 0
ComeFirst p [] = Unit {0}
ComeFirst p (e ∷ es) = (p e.0 ≡ false → AllByRecursion (λ f. p f.0 ≡ false) es) × ComeFirst p es

none-filter : {K V : Type 0} (p : K → Bool) (es : List (K × V)) → AllByRecursion (λ f. p f.0 ≡ false) es → filter (λ f. p f.0) es ≡ []
none-filter p [] h = refl
none-filter p (e ∷ es) h = rw (h.0) (none-filter p es h.1)

step_at-filter : {K V : Type 0} (p : K → Bool) (d : V) (es : List (K × V)) → ComeFirst p es → step_at p d es ≡ last_or d (filter (λ f. p f.0) es)
step_at-filter p d [] h = refl
step_at-filter p d (e ∷ es) h = let none = none-filter p es in grind (arith, common_steps, step_at-filter p e.1 es)

pub step_at-last : {K V : Type 0} (p : K → Bool) (d : V) (es r t : List (K × V)) (e : K × V) → ComeFirst p es → r ≡ filter (λ f. p f.0) es → r ≡ t ++ e ∷ [] → step_at p d es ≡ e.1
step_at-last p d es r t e first is last = step_at-filter p d es first ∙ ap (last_or d) (sym is ∙ last) ∙ last_or-end d t e

pub step_at-none : {K V : Type 0} (p : K → Bool) (d : V) (es r : List (K × V)) → ComeFirst p es → r ≡ filter (λ f. p f.0) es → r ≡ [] → step_at p d es ≡ d
step_at-none p d es r first is last = step_at-filter p d es first ∙ ap (last_or d) (sym is ∙ last)

pub less-from : (r : Ordering) → not (is_lt r) ≡ false → r ≡ Less
less-from r h = grind (arith, common_steps)

module _ {K V : Type 0} {R : K → K → Ordering} (o : IsTotalOrder R) where
  above-all : (x k : K) (es : List (K × V)) → R x k ≡ Less → AllByRecursion (λ y. R k y ≡ Less) (keys_of es) → AllByRecursion (λ f. R x f.0 ≡ Less) es
  above-all x k [] h all = tt
  above-all x k (e ∷ es) h all = (o.trans x k e.0 h all.0, above-all x k es h all.1)

  none-reached : (x : K) (es : List (K × V)) → AllByRecursion (λ f. R x f.0 ≡ Less) es → AllByRecursion (λ f. not (is_lt (R x f.0)) ≡ false) es
  none-reached x [] h = tt
  none-reached x (e ∷ es) h = (rw h.0 refl, none-reached x es h.1)

  none-before : (x : K) (es : List (K × V)) → AllByRecursion (λ f. R x f.0 ≡ Less) es → AllByRecursion (λ f. not (is_le (R x f.0)) ≡ false) es
  none-before x [] h = tt
  none-before x (e ∷ es) h = (rw h.0 refl, none-before x es h.1)

  -- those not above a key come first
  pub ComeFirst-reached : (x : K) (es : List (K × V)) → IsStrictlySortedBy R (keys_of es) → ComeFirst (λ k. not (is_lt (R x k))) es
  unfolding IsStrictlySortedBy
  ComeFirst-reached x [] s = tt
  ComeFirst-reached x (e ∷ es) s = (λ f. none-reached x es (above-all x e.0 es (less-from (R x e.0) f) s.0), ComeFirst-reached x es s.1)

  -- those below a key come first
  before-turn : (x : K) (e : K × V) (es : List (K × V)) (r : Ordering) → R x e.0 ≡ r → not (is_le r) ≡ false → AllByRecursion (λ y. R e.0 y ≡ Less) (keys_of es) → AllByRecursion (λ f. R x f.0 ≡ Less) es
  before-turn x e [] r is past later = tt
  before-turn x e (f ∷ es) r is past later = (grind (arith, common_steps, o.trans x e.0 f.0, o.congr x e.0 f.0), before-turn x e es r is past later.1)

  pub ComeFirst-before : (x : K) (es : List (K × V)) → IsStrictlySortedBy R (keys_of es) → ComeFirst (λ k. not (is_le (R x k))) es
  unfolding IsStrictlySortedBy
  ComeFirst-before x [] s = tt
  ComeFirst-before x (e ∷ es) s = (λ f. none-before x es (before-turn x e es (R x e.0) refl f s.0), ComeFirst-before x es s.1)

  -- a key that is below all of them has none
  pub none-found : (b k : K) (es : List (K × V)) → R b k ≡ Less → AllByRecursion (λ q. R k q ≡ Less) (keys_of es) → lookup (is_at (R b)) es ≡ None
  none-found b k [] less h = refl
  none-found b k (e ∷ es) less h = rw (o.trans b k e.0 less h.0) (none-found b k es less h.1)

  abbrev step : K → V → List (K × V) → V
  step x d es = step_at (λ k. not (is_lt (R x k))) d es

  -- a new start that has the value which its place had
  before-first : (b x : K) (v d : V) (e : K × V) (es : List (K × V)) (t : Bool) → not (is_lt (R x b)) ≡ t → R b e.0 ≡ Less → v ≡ d → cond t (step x v (e ∷ es)) d ≡ step x d (e ∷ es)
  before-first b x v d e es t is lt same = grind (arith, common_steps, o.trans x b e.0, less-from (R x b))

  insert-cases : (b : K) (v d : V) (x : K) (e : K × V) (es more : List (K × V)) (r : Ordering) → R b e.0 ≡ r → is_eq r ≡ false → v ≡ cond (not (is_lt r)) (step b e.1 es) d
      → (v ≡ step b e.1 es → step x e.1 more ≡ step x e.1 es) → step x d (match_ordering r ((b, v) ∷ e ∷ es) ((e.0, v) ∷ es) (e ∷ more)) ≡ step x d (e ∷ es)
  insert-cases b v d x e es more Less is apart val ih = before-first b x v d e es (not (is_lt (R x b))) refl is val
  insert-cases b v d x e es more Equal is apart val ih = cc
  insert-cases b v d x e es more Greater is apart val ih = ap (λ w. cond (not (is_lt (R x e.0))) w d) (ih val)

  pub step-insert : (b : K) (v d : V) (x : K) (es : List (K × V)) → AllByRecursion (λ e. is_eq (R b e.0) ≡ false) es → v ≡ step b d es → step x d (insert_entry R es b v) ≡ step x d es
  step-insert b v d x [] apart val = grind (arith, common_steps)
  step-insert b v d x (e ∷ es) apart val =
      insert-cases b v d x e es (insert_entry R es b v) (R b e.0) refl apart.0 val (λ same. step-insert b v e.1 x es apart.1 same)

  -- a start that goes, where it has the value of the one before it
  step-unreached : (x : K) (d : V) (es : List (K × V)) → AllByRecursion (λ f. R x f.0 ≡ Less) es → step x d es ≡ d
  step-unreached x d [] h = refl
  step-unreached x d (e ∷ es) h = rw h.0 refl

  same-value : (x : K) (d : V) (e : K × V) (es : List (K × V)) (t : Bool) → not (is_lt (R x e.0)) ≡ t → e.1 ≡ d → AllByRecursion (λ y. R e.0 y ≡ Less) (keys_of es) → step x d es ≡ cond t (step x e.1 es) d
  same-value x d e es t is same later = let none = step-unreached x d es in let above = above-all x e.0 es in grind (arith, common_steps, less-from (R x e.0))

  none-some : (o : Option V) (v : V) → o ≡ None → o ≡ Some v → ⊥
  none-some o v h g = cc

  remove-cases : (b : K) (v d : V) (x : K) (e : K × V) (es : List (K × V)) (r : Ordering) → R b e.0 ≡ r → AllByRecursion (λ y. R e.0 y ≡ Less) (keys_of es)
      → cond (is_eq r) (Some e.1) (lookup (is_at (R b)) es) ≡ Some v → v ≡ cond (not (is_le r)) (step_at (λ k. not (is_le (R b k))) e.1 es) d
      → (lookup (is_at (R b)) es ≡ Some v → v ≡ step_at (λ k. not (is_le (R b k))) e.1 es → step x e.1 (remove_entry (is_at (R b)) es) ≡ step x e.1 es)
      → step x d (cond (is_eq r) es (e ∷ remove_entry (is_at (R b)) es)) ≡ step x d (e ∷ es)
  remove-cases b v d x e es Less is later found val ih = absurd (none-some _ v (none-found b e.0 es is later) found)
  remove-cases b v d x e es Equal is later found val ih = let same : e.1 ≡ d = cc in same-value x d e es (not (is_lt (R x e.0))) refl same later
  remove-cases b v d x e es Greater is later found val ih = ap (λ w. cond (not (is_lt (R x e.0))) w d) (ih found val)

  pub step-remove : (b : K) (v d : V) (x : K) (es : List (K × V)) → IsStrictlySortedBy R (keys_of es) → lookup (is_at (R b)) es ≡ Some v → v ≡ step_at (λ k. not (is_le (R b k))) d es
      → step x d (remove_entry (is_at (R b)) es) ≡ step x d es
  unfolding IsStrictlySortedBy
  step-remove b v d x [] s found val = refl
  step-remove b v d x (e ∷ es) s found val = remove-cases b v d x e es (R b e.0) refl s.0 found val (λ f w. step-remove b v e.1 x es s.1 f w)
