-- A key that came to a table, and one that went from it.
use Rattle.std.proofs.Common.{◌≡◌, ℕ, List, Option, Some, None, Bool, true, false, cond, refl, sym, ◌∙◌, ap, subst, arith, ◌==◌}
use Rattle.std.specs.Prelude.{◌≢◌, IfSome}
use Rattle.key_table.proofs.Common.{BTreeMap, Slab, get, is_at, key_cmp}
use Rattle.std.proofs.lemmas.Bool.Decides.{nat_tests}
use Rattle.std.proofs.lemmas.Map.Text.{is_eq-slice_cmp}
use Rattle.std.proofs.lemmas.Slice.Eq.{bytes_eq-Decides}
use Rattle.slab.specs.Slab as slab
use Rattle.key_table.specs.Numbers.{Numbered, number_in, IsNumberedAt, IsOwn, AreTied}

by_test : {P : Type 0} (b : Bool) → (b ≡ true → P) → (b ≡ false → P) → P
by_test true on off = on refl
by_test false on off = off refl

same_at : (x y : List ℕ) → is_at (key_cmp x) y ≡ true → x ≡ y
same_at x y e = (bytes_eq-Decides x y).0 (sym (is_eq-slice_cmp x y) ∙ e)

at_itself : (x : List ℕ) → is_at (key_cmp x) x ≡ true
at_itself x = is_eq-slice_cmp x x ∙ (bytes_eq-Decides x x).1 refl

no_both : {A : Type 0} (o : Option A) (a : A) → o ≡ None → o ≡ Some a → ⊥
no_both o a none some = let no : None ≡ Some a = sym none ∙ some in cc

pub one_of : {A : Type 0} (a b : A) → Some a ≡ Some b → a ≡ b
one_of a b e = cc

-- what a map finds once x has what w says
abbrev pub ArePut : BTreeMap (List ℕ) ℕ → BTreeMap (List ℕ) ℕ → List ℕ → Option ℕ → Type 0
ArePut m m' x w = (q : List ℕ) → get key_cmp m' q ≡ cond (is_at (key_cmp x) q) w (get key_cmp m q)

pub numbered_at : (m m' : BTreeMap (List ℕ) ℕ) (x : List ℕ) (w : Option ℕ) → ArePut m m' x w → IsNumberedAt m.entries m'.entries x w
numbered_at m m' x w put y = put y ∙ ap (λ h. cond h w (get key_cmp m y)) (is_eq-slice_cmp x y)

-- how it is found at x, and at any other key
here_put : (m m' : BTreeMap (List ℕ) ℕ) (x y : List ℕ) (w : Option ℕ) → ArePut m m' x w → is_at (key_cmp x) y ≡ true → get key_cmp m' y ≡ w
here_put m m' x y w put here = put y ∙ ap (λ h. cond h w (get key_cmp m y)) here

there_put : (m m' : BTreeMap (List ℕ) ℕ) (x y : List ℕ) (w : Option ℕ) → ArePut m m' x w → is_at (key_cmp x) y ≡ false → get key_cmp m' y ≡ get key_cmp m y
there_put m m' x y w put there = put y ∙ ap (λ h. cond h w (get key_cmp m y)) there

apart : (x y : List ℕ) → is_at (key_cmp x) y ≡ false → x ≡ y → ⊥
apart x y there e = let yes : true ≡ false = sym (subst (λ z. is_at (key_cmp x) z ≡ true) e (at_itself x)) ∙ there in cc

-- x came to be n
pub tied_more : (m m' : BTreeMap (List ℕ) ℕ) (s s' : Slab (List ℕ)) (x : List ℕ) (n : ℕ) → AreTied m s → ArePut m m' x (Some n)
    → get key_cmp m x ≡ None → slab.get s n ≡ None → slab.Updates s s' n (Some x) → AreTied m' s'
tied_more m m' s s' x n tied put absent vacant up y k = by_test (is_at (key_cmp x) y)
    (λ here.
    let same : x ≡ y = same_at x y here in
    let is : get key_cmp m' y ≡ Some n = here_put m m' x y (Some n) put here in (
      λ found.
          let number : n ≡ k = one_of n k (sym is ∙ found) in
          subst (λ j. slab.get s' j ≡ Some y) number (up.changed ∙ ap Some same),
      λ stands. by_test (k == n)
          (λ at. let number : n ≡ k = grind (arith, nat_tests) in is ∙ ap Some number)
          (λ off.
          let other : k ≢ n = (λ e. grind (arith, nat_tests)) in
          let before : slab.get s k ≡ Some x = sym (up.others k other) ∙ stands ∙ ap Some (sym same) in
          absurd (no_both (get key_cmp m x) k absent ((tied x k).1 before))),
    ))
    (λ there.
    let is : get key_cmp m' y ≡ get key_cmp m y = there_put m m' x y (Some n) put there in (
      λ found.
          let before : slab.get s k ≡ Some y = (tied y k).0 (sym is ∙ found) in
          let other : k ≢ n = (λ e. no_both (slab.get s n) y vacant (subst (λ j. slab.get s j ≡ Some y) e before)) in
          up.others k other ∙ before,
      λ stands. by_test (k == n)
          (λ at.
          let number : n ≡ k = grind (arith, nat_tests) in
          absurd (apart x y there (one_of x y (sym (subst (λ j. slab.get s' j ≡ Some x) number up.changed) ∙ stands))))
          (λ off.
          let other : k ≢ n = (λ e. grind (arith, nat_tests)) in
          is ∙ (tied y k).1 (sym (up.others k other) ∙ stands)),
    ))

-- x, which was n, went
pub tied_less : (m m' : BTreeMap (List ℕ) ℕ) (s s' : Slab (List ℕ)) (x : List ℕ) (n : ℕ) → AreTied m s → ArePut m m' x None
    → slab.get s n ≡ Some x → slab.Updates s s' n None → AreTied m' s'
tied_less m m' s s' x n tied put was up y k = by_test (is_at (key_cmp x) y)
    (λ here.
    let same : x ≡ y = same_at x y here in
    let is : get key_cmp m' y ≡ None = here_put m m' x y None put here in (
      λ found. absurd (no_both (get key_cmp m' y) k is found),
      λ stands. by_test (k == n)
          (λ at.
          let number : n ≡ k = grind (arith, nat_tests) in
          absurd (no_both (slab.get s' k) y (subst (λ j. slab.get s' j ≡ None) number up.changed) stands))
          (λ off.
          let other : k ≢ n = (λ e. grind (arith, nat_tests)) in
          let before : get key_cmp m x ≡ Some k = (tied x k).1 (sym (up.others k other) ∙ stands ∙ ap Some (sym same)) in
          absurd (other (one_of k n (sym before ∙ (tied x n).1 was)))),
    ))
    (λ there.
    let is : get key_cmp m' y ≡ get key_cmp m y = there_put m m' x y None put there in (
      λ found.
          let before : slab.get s k ≡ Some y = (tied y k).0 (sym is ∙ found) in
          let other : k ≢ n = (λ e. apart x y there (one_of x y (sym was ∙ subst (λ j. slab.get s j ≡ Some y) e before))) in
          up.others k other ∙ before,
      λ stands. by_test (k == n)
          (λ at.
          let number : n ≡ k = grind (arith, nat_tests) in
          absurd (no_both (slab.get s' k) y (subst (λ j. slab.get s' j ≡ None) number up.changed) stands))
          (λ off.
          let other : k ≢ n = (λ e. grind (arith, nat_tests)) in
          is ∙ (tied y k).1 (sym (up.others k other) ∙ stands)),
    ))

-- x stands at its number
pub stands : (m : BTreeMap (List ℕ) ℕ) (s : Slab (List ℕ)) (ns : Numbered) (x : List ℕ) (n : ℕ) → AreTied m s → m.entries ≡ ns → number_in ns x ≡ Some n → slab.get s n ≡ Some x
stands m s ns x n tied is found = (tied x n).0 (subst (λ ms. number_in ms x ≡ Some n) (sym is) found)

-- and no other key does
pub own_at : (m : BTreeMap (List ℕ) ℕ) (s : Slab (List ℕ)) (ns : Numbered) (x : List ℕ) (n : ℕ) → AreTied m s → m.entries ≡ ns → slab.get s n ≡ Some x → IsOwn ns x n
own_at m s ns x n tied is here y there = one_of y x (sym (stands m s ns y n tied is there) ∙ here)

pub own_found : (m : BTreeMap (List ℕ) ℕ) (s : Slab (List ℕ)) (ns : Numbered) (x : List ℕ) (o : Option ℕ) → AreTied m s → m.entries ≡ ns → o ≡ number_in ns x → IfSome o (IsOwn ns x)
own_found m s ns x None tied is found = tt
own_found m s ns x (Some n) tied is found = own_at m s ns x n tied is (stands m s ns x n tied is (sym found))
