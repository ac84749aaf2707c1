-- The readers of one segment, where those of a gap become one.
use Rattle.read_marks.proofs.Common.{Contains, IsNonDecreasing, IsPiece, common_steps, drop-set-lt, get_or-append_right, get_or_append_left, get_or_default, insert, length-set, refill, take_more_set}
use Rattle.std.proofs.Common.{ℕ, List, [], ◌∷◌, ◌++◌, Bool, true, false, ◌≡◌, ◌<◌, ◌≤◌, ◌-◌, ◌+◌, ◌⊎◌, inl, inr, length, get_or, take, drop, leb, leb-true, leb-false, arith, refl, ap, sym, length-append, append_assoc, max, set, subst, ◌∙◌, Err, Ok, OnErr, OnOk, Result}
use Rattle.std.proofs.Math.Seq.{take-append_seam}
use Rattle.std.proofs.lemmas.List.Sorted.{IsNonDecreasingBy-push, IsNonDecreasingBy-take, IsNonDecreasingBy-drop}
use Rattle.std.proofs.lemmas.List.Elements.{Contains-get_or, Contains-append_left, Contains-append_right, Contains-append_cases, Contains-push, Contains-push_cases}
use Rattle.read_marks.specs.Readers.{is_reader, SplitsAt}
use Rattle.read_marks.proofs.Splitting.{reader_is, in_front, in_back, to_front, to_back}

-- of the readers above `above` and up to `until`, with ts, the greatest one
record IsGreatest (xs : List ℕ) (above until ts top : ℕ) : Type 0 where
  pub low : above < top
  pub high : top ≤ until
  pub one : (top ≡ ts) ⊎ Contains xs top
  pub past_ts : ts ≤ top
  pub past : (i : ℕ) → Contains xs i → above < i → i ≤ until → i ≤ top

-- the first reader of the gap overwritten, and the others taken out
written : (xs : List ℕ) (a b top : ℕ) → a < b → a < length xs → take (a + 1) (set xs a top) ++ drop b (set xs a top) ≡ (take a xs ++ top ∷ []) ++ drop b xs
written xs a b top ab lt = rw (take_more_set xs a top lt, drop-set-lt b xs a top ab) refl

-- one put into a gap that has none
put_in : (xs : List ℕ) (a b top : ℕ) → a ≡ b → insert xs a top ≡ (take a xs ++ top ∷ []) ++ drop b xs
put_in xs a b top same = rw (← same) (sym (append_assoc (take a xs) (top ∷ []) (drop a xs)))

-- where none stands in the gap its ends are one place
same_place : (xs : List ℕ) (above until a b : ℕ) → SplitsAt xs above a → SplitsAt xs until b → above ≤ until → a ≤ length xs → b ≤ a → a ≡ b
same_place xs above until a b p q le bound none = grind (arith, common_steps)

-- two tests that pass for the same
pub same_test : (a b : Bool) → (a ≡ true → b ≡ true) → (b ≡ true → a ≡ true) → b ≡ a
same_test a b f g = grind (arith, common_steps)

merged_piece : (xs : List ℕ) (above until ts a b top : ℕ) → SplitsAt xs above a → SplitsAt xs until b → a ≤ length xs → above < ts → IsGreatest xs above until ts top → IsPiece (is_reader xs) (is_reader ((take a xs ++ top ∷ []) ++ drop b xs)) ts above until
merged_piece xs above until ts a b top p q bound gap g = record {
  top = top;
  marked = to_reader (Contains-append_left (take a xs ++ top ∷ []) (drop b xs) top (Contains-push (take a xs) top));
  is = (let one = g.one in let r = reader_is xs top in grind (arith, common_steps));
  least = g.past_ts;
  most = g.high;
  greatest = λ n m low high. g.past n ((reader_is xs n).0 m) low high;
  outside = λ n out. same_test _ _ (λ m. to_reader (kept n ((reader_is xs n).0 m) out)) (λ m. stays n out (from_reader m));
  inside = λ n low high m. only n low high (from_reader m);
}
  where
    to_reader : {n : ℕ} → Contains ((take a xs ++ top ∷ []) ++ drop b xs) n → is_reader ((take a xs ++ top ∷ []) ++ drop b xs) n ≡ true
    to_reader {n} c = (reader_is ((take a xs ++ top ∷ []) ++ drop b xs) n).1 c

    from_reader : {n : ℕ} → is_reader ((take a xs ++ top ∷ []) ++ drop b xs) n ≡ true → (Contains (take a xs) n ⊎ (top ≡ n)) ⊎ Contains (drop b xs) n
    from_reader {n} m = elim (Contains-append_cases (take a xs ++ top ∷ []) (drop b xs) n ((reader_is ((take a xs ++ top ∷ []) ++ drop b xs) n).0 m)) [ inl c ↦ inl (Contains-push_cases (take a xs) top n c) | inr c ↦ inr c ]

    kept : (n : ℕ) → Contains xs n → (n ≤ above) ⊎ (until < n) → Contains ((take a xs ++ top ∷ []) ++ drop b xs) n
    kept n c (inl low) = Contains-append_left (take a xs ++ top ∷ []) (drop b xs) n (Contains-append_left (take a xs) (top ∷ []) n (to_front xs above a n p bound c low))
    kept n c (inr high) = Contains-append_right (take a xs ++ top ∷ []) (drop b xs) n (to_back xs until b n q c high)

    stays : (n : ℕ) → (n ≤ above) ⊎ (until < n) → (Contains (take a xs) n ⊎ (top ≡ n)) ⊎ Contains (drop b xs) n → is_reader xs n ≡ true
    stays n out (inl (inl c)) = (reader_is xs n).1 (in_front xs above a n p bound c).0
    stays n out (inr c) = (reader_is xs n).1 (in_back xs until b n q c).0
    stays n out (inl (inr e)) = absurd (elim out [ inl low ↦ omega (arith, g.low) | inr high ↦ omega (arith, g.high) ])

    only : (n : ℕ) → above < n → n ≤ until → (Contains (take a xs) n ⊎ (top ≡ n)) ⊎ Contains (drop b xs) n → n ≡ top
    only n low high (inl (inl c)) = let h = in_front xs above a n p bound c in let l : n ≤ above = h.1 in absurd (omega arith)
    only n low high (inl (inr e)) = sym e
    only n low high (inr c) = let h = in_back xs until b n q c in let l : until < n = h.1 in absurd (omega arith)

max_cases : (w ts top : ℕ) → top ≡ max w ts → (top ≡ ts) ⊎ (w ≡ top)
max_cases w ts top sum = grind arith

-- the greatest, where readers stand in the gap
greatest_some : (xs : List ℕ) (above until ts a b w top : ℕ) → IsNonDecreasing xs → SplitsAt xs above a → SplitsAt xs until b → above < ts → ts ≤ until → a < b → b ≤ length xs → w ≡ get_or xs (b - 1) w → top ≡ max w ts → IsGreatest xs above until ts top
greatest_some xs above until ts a b w top up p q low high some bound is sum =
    let lt : b - 1 < length xs = omega arith in
    let wlow : above < get_or xs (b - 1) w = leb-false _ _ (p.1 (b - 1) w (omega arith) lt) in
    let whigh : get_or xs (b - 1) w ≤ until = leb-true _ _ (q.0 (b - 1) w (omega arith) (omega arith)) in
    let own : Contains xs w = (b - 1, lt, sym is) in
    record {
      low = omega arith;
      high = omega arith;
      one = (let either = max_cases w ts top sum in grind (arith, common_steps));
      past_ts = omega arith;
      past = λ i c above-i until-i.
          let ci : c.0 < length xs = c.1 in
          let e : get_or xs c.0 i ≡ i = c.2 in
          let h : b ≤ c.0 → until < get_or xs c.0 i = λ g. leb-false _ _ (q.1 c.0 i g ci) in
          let k : c.0 < b = grind (arith, h) in
          let u : get_or xs c.0 i ≤ get_or xs (b - 1) i = up c.0 (b - 1) i (omega arith) lt in
          let f : get_or xs (b - 1) i ≡ get_or xs (b - 1) w = get_or_default xs (b - 1) i w lt in
          omega arith;
    }

-- the greatest, where none does
greatest_none : (xs : List ℕ) (above until ts a b : ℕ) → SplitsAt xs above a → SplitsAt xs until b → above < ts → ts ≤ until → b ≤ a → IsGreatest xs above until ts ts
greatest_none xs above until ts a b p q low high none = grind (arith, common_steps)

-- two rising lists, with a number between them
rises_append : (f g : List ℕ) (m : ℕ) → IsNonDecreasing f → IsNonDecreasing g → ((k d : ℕ) → k < length f → get_or f k d ≤ m) → ((k d : ℕ) → k < length g → m ≤ get_or g k d) → IsNonDecreasing (f ++ g)
rises_append f g m up vp hi lo i j d le lt = by (leb (length f) i) (leb (length f) j) refl refl
  where
    n : length (f ++ g) ≡ length f + length g
    n = length-append f g

    by : (s t : Bool) → leb (length f) i ≡ s → leb (length f) j ≡ t → get_or (f ++ g) i d ≤ get_or (f ++ g) j d
    by true t p q =
        let a : length f ≤ i = leb-true _ _ p in
        rw (get_or-append_right f g (length f) i d refl a, get_or-append_right f g (length f) j d refl (omega arith)) (vp (i - length f) (j - length f) d (omega arith) (omega (arith, n)))
    by false true p q =
        let a : i < length f = leb-false _ _ p in
        let b : length f ≤ j = leb-true _ _ q in
        let x : get_or f i d ≤ m = hi i d a in
        let y : m ≤ get_or g (j - length f) d = lo (j - length f) d (omega (arith, n)) in
        rw (get_or_append_left f g d i a, get_or-append_right f g (length f) j d refl b) (omega arith)
    by false false p q =
        let a : i < length f = leb-false _ _ p in
        let b : j < length f = leb-false _ _ q in
        rw (get_or_append_left f g d i a, get_or_append_left f g d j b) (up i j d le b)

merged_rises : (xs : List ℕ) (above until ts a b top : ℕ) → IsNonDecreasing xs → SplitsAt xs above a → SplitsAt xs until b → a ≤ length xs → IsGreatest xs above until ts top → IsNonDecreasing ((take a xs ++ top ∷ []) ++ drop b xs)
merged_rises xs above until ts a b top up p q bound g =
    rises_append (take a xs ++ top ∷ []) (drop b xs) top
    (IsNonDecreasingBy-push (λ x. x) (take a xs) top (IsNonDecreasingBy-take (λ x. x) a xs up) (λ d some. le _ (inl (Contains-get_or (take a xs) (length (take a xs) - 1) d (omega arith)))))
    (IsNonDecreasingBy-drop (λ x. x) b xs up)
    (λ k d lt. le _ (Contains-push_cases (take a xs) top _ (Contains-get_or (take a xs ++ top ∷ []) k d lt)))
    (λ k d lt. let h = in_back xs until b _ q (Contains-get_or (drop b xs) k d lt) in let u : until < get_or (drop b xs) k d = h.1 in let v : top ≤ until = g.high in omega arith)
  where
    le : (i : ℕ) → Contains (take a xs) i ⊎ (top ≡ i) → i ≤ top
    le i (inl c) = let h = in_front xs above a i p bound c in let u : i ≤ above = h.1 in let v : above < top = g.low in omega arith
    le i (inr e) = omega arith

-- what a merge leaves: rising readers, of which those in the gap are one
abbrev pub IsMerged : (xs zs : List ℕ) (ts above until : ℕ) → Type 0
IsMerged xs zs ts above until = IsNonDecreasing zs × IsPiece (is_reader xs) (is_reader zs) ts above until

merged : (xs zs : List ℕ) (above until ts a b top : ℕ) → IsNonDecreasing xs → SplitsAt xs above a → SplitsAt xs until b → a ≤ length xs → above < ts → IsGreatest xs above until ts top → zs ≡ (take a xs ++ top ∷ []) ++ drop b xs → IsMerged xs zs ts above until
merged xs zs above until ts a b top up p q bound low g is = rw is (merged_rises xs above until ts a b top up p q bound g, merged_piece xs above until ts a b top p q bound low g)

-- a reader written over another, in the list as it was lent
refilled : (xs : List ℕ) (i x : ℕ) → refill (length xs) xs (set xs i x) ≡ set xs i x
refilled xs i x = subst (λ n. take n (set xs i x ++ drop (length (set xs i x)) xs) ≡ set xs i x) (length-set xs i x) (take-append_seam (set xs i x) (drop (length (set xs i x)) xs))

-- where readers stand in the gap
pub merged_some : (xs ys zs : List ℕ) (above until ts a b top : ℕ) → IsNonDecreasing xs → SplitsAt xs above a → SplitsAt xs until b → b ≤ length xs → above < ts → ts ≤ until → a < b → ys ≡ xs → top ≡ max (get_or ys (b - 1) 0) ts
    → zs ≡ take (a + 1) (refill (length xs) xs (set ys a top)) ++ drop b (refill (length xs) xs (set ys a top)) → IsMerged xs zs ts above until
merged_some xs ys zs above until ts a b top up p q bound low high some lent sum is =
    let at : get_or xs (b - 1) 0 ≡ get_or xs (b - 1) (get_or xs (b - 1) 0) = get_or_default xs (b - 1) 0 _ (omega arith) in
    let one = greatest_some xs above until ts a b (get_or xs (b - 1) 0) top up p q low high some bound at (subst (λ vs. top ≡ max (get_or vs (b - 1) 0) ts) lent sum) in
    let over : refill (length xs) xs (set ys a top) ≡ set xs a top = ap (λ vs. refill (length xs) xs (set vs a top)) lent ∙ refilled xs a top in
    merged xs zs above until ts a b top up p q (omega arith) low one (subst (λ vs. zs ≡ take (a + 1) vs ++ drop b vs) over is ∙ written xs a b top some (omega arith))

-- where none does
pub merged_none : (xs zs : List ℕ) (above until ts a b : ℕ) → IsNonDecreasing xs → SplitsAt xs above a → SplitsAt xs until b → a ≤ length xs → above < ts → ts ≤ until → b ≤ a → zs ≡ insert xs a ts → IsMerged xs zs ts above until
merged_none xs zs above until ts a b up p q bound low high none is =
    merged xs zs above until ts a b ts up p q bound low (greatest_none xs above until ts a b p q low high none) (is ∙ put_in xs a b ts (same_place xs above until a b p q (omega arith) bound none))

-- readers that rise, whether one came or not
pub rising_either : {E : Type 0} (r : Result (Unit {0}) E) (xs zs ys : List ℕ) → IsNonDecreasing xs → (zs ≡ ys → IsNonDecreasing zs) → OnOk r (zs ≡ ys) → OnErr r (zs ≡ xs) → IsNonDecreasing zs
rising_either (Ok u) xs zs ys up more ok err = more ok
rising_either (Err e) xs zs ys up more ok err = rw err up
