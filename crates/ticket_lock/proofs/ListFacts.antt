-- Lists of views and of numbers.
use Rattle.std.proofs.Common.{◌≡◌, ℕ, zero, suc, ◌+◌, ◌<◌, ◌≤◌, ◌≢◌, eqb, nat_lt, cond, Bool, true, false, List, [], ◌∷◌, ◌++◌, length, set, sym, refl, ap, ◌∙◌, subst, ⊎_elim, arith, append_assoc, append-nil, length-append, eq-eqb, ne_eqb, Some}
use Rattle.ticket_lock.proofs.Common.{at_index, at_longer, at_set, cases_lt, lt-ltb, ltb-true, nil_from_length, set_else, sum_by, sum_by-cons}
use Rattle.std.proofs.lemmas.List.Elements.{filter-append}
use mathlib.Core.Option.{some, some-injective, some-ne-none}
use mathlib.Core.Logic.{dite}
use native.Mathlib.Decide.{ℕ_discrete}
use lib.ListN.{get_elem?, get_or}
use Rattle.ticket_lock.specs.Lists.{StartsWith, of_seat, span, longer}

pub either_way : (b : Bool) → (b ≡ true → ⊥) → b ≡ false
either_way true h = absurd (h refl)
either_way false h = refl

not_less : (a b : ℕ) → b ≤ a → nat_lt a b ≡ false
not_less a b l = either_way (nat_lt a b) (λ e. let x = ltb-true a b e in omega arith)

module _ {A : Type 0} where
  pub each_set : (K : ℕ → A → Type 0) (vs : List A) (me : ℕ) (w : A) → K me w → ((j : ℕ) (d : A) → j ≢ me → get_elem? vs j ≡ some d → K j d) → (j : ℕ) (d : A) → get_elem? (set vs me w) j ≡ some d → K j d
  each_set K vs me w mine others j d e = ⊎_elim (λ (t : (j ≡ me) × (w ≡ d)). subst (λ (x : ℕ × A). K x.0 x.1) (λ i. (sym t.0 i, t.1 i)) mine)
      (λ (t : (j ≢ me) × (get_elem? vs j ≡ some d)). others j d t.0 t.1) (at_set vs me j w d e)

  -- what each at its place has, the one that is read there has
  pub each_read : (K : ℕ → A → Type 0) (l : List A) (i : ℕ) (a : A) → ((j : ℕ) (d : A) → get_elem? l j ≡ some d → K j d) → i < length l → a ≡ get_or l i a → K i a
  each_read K l i a each there at = each i a (at_index l i a there at)

  pub set_there : (l : List A) (i : ℕ) (a b : A) → get_elem? l i ≡ some a → get_elem? (set l i b) i ≡ some b
  set_there [] i a b e = absurd (some-ne-none a (sym e))
  set_there (x ∷ xs) zero a b e = refl
  set_there (x ∷ xs) (suc i) a b e = set_there xs i a b e

  -- what one of the list has, one of it still has once another took the place of v
  pub stays_at : (P : A → Type 0) (vs : List A) (me i : ℕ) (v w : A) → get_elem? vs me ≡ some v → (P v → P w) → (u : A) × (get_elem? vs i ≡ some u) × P u → (u : A) × (get_elem? (set vs me w) i ≡ some u) × P u
  stays_at P vs me i v w at goes there = dite (ℕ_discrete i me)
      (λ e. (w, ap (get_elem? (set vs me w)) e ∙ set_there vs me v w at, goes (subst P (some-injective there.0 v (sym there.1 ∙ ap (get_elem? vs) e ∙ at)) there.2)))
      (λ ne. (there.0, set_else vs me i w ne ∙ there.1, there.2))

  pub longer_at : (P : A → Type 0) (vs ws : List A) (i : ℕ) → (u : A) × (get_elem? vs i ≡ some u) × P u → (u : A) × (get_elem? (vs ++ ws) i ≡ some u) × P u
  longer_at P vs ws i there = (there.0, at_longer vs ws i there.0 there.1, there.2)

  pub sum_set : (f : A → ℕ) (l : List A) (i : ℕ) (a b : A) → get_elem? l i ≡ some a → sum_by f (set l i b) + f a ≡ sum_by f l + f b
  sum_set f [] i a b e = absurd (some-ne-none a (sym e))
  sum_set f (x ∷ xs) zero a b e = let q = ap f (some-injective x a e) in omega (arith, sum_by-cons f x xs, sum_by-cons f b xs)
  sum_set f (x ∷ xs) (suc i) a b e = let q = sum_set f xs i a b e in omega (arith, sum_by-cons f x xs, sum_by-cons f x (set xs i b))

  pub same_sum : (f : A → ℕ) (l : List A) (i : ℕ) (a b : A) (n : ℕ) → get_elem? l i ≡ some a → f b ≡ f a → sum_by f l ≡ n → sum_by f (set l i b) ≡ n
  same_sum f l i a b n at same is = let q = sum_set f l i a b at in omega arith

  pub one_in : (f : A → ℕ) (l : List A) (i : ℕ) (a : A) → get_elem? l i ≡ some a → f a ≤ sum_by f l
  one_in f [] i a e = absurd (some-ne-none a (sym e))
  one_in f (x ∷ xs) zero a e = let q = ap f (some-injective x a e) in omega (arith, sum_by-cons f x xs)
  one_in f (x ∷ xs) (suc i) a e = let q = one_in f xs i a e in omega (arith, sum_by-cons f x xs)

  pub two_in : (f : A → ℕ) (l : List A) (i j : ℕ) (a b : A) → i ≢ j → get_elem? l i ≡ some a → get_elem? l j ≡ some b → f a + f b ≤ sum_by f l
  two_in f [] i j a b ne e g = absurd (some-ne-none a (sym e))
  two_in f (x ∷ xs) zero zero a b ne e g = absurd (ne refl)
  two_in f (x ∷ xs) zero (suc j) a b ne e g = let q = ap f (some-injective x a e) in let p = one_in f xs j b g in omega (arith, sum_by-cons f x xs)
  two_in f (x ∷ xs) (suc i) zero a b ne e g = let q = ap f (some-injective x b g) in let p = one_in f xs i a e in omega (arith, sum_by-cons f x xs)
  two_in f (x ∷ xs) (suc i) (suc j) a b ne e g = let p = two_in f xs i j a b (λ h. ne (ap suc h)) e g in omega (arith, sum_by-cons f x xs)

  no_sum : (g h : A → ℕ) (l : List A) → ((x : A) → g x ≡ 0 → h x ≡ 0) → sum_by g l ≡ 0 → sum_by h l ≡ 0
  no_sum g h [] none is = refl
  no_sum g h (x ∷ xs) none is = let q = sum_by-cons g x xs in let z : g x ≡ 0 = omega arith in let y : sum_by g xs ≡ 0 = omega arith in let r = no_sum g h xs none y in let n = none x z in omega (arith, sum_by-cons h x xs)

  -- where one of the list has all that g counts, it has all that h counts
  pub only_one : (g h : A → ℕ) (l : List A) (i : ℕ) (a : A) → get_elem? l i ≡ some a → ((x : A) → g x ≡ 0 → h x ≡ 0) → sum_by g l ≡ g a → sum_by h l ≡ h a
  only_one g h [] i a e none is = absurd (some-ne-none a (sym e))
  only_one g h (x ∷ xs) zero a e none is = let q = ap g (some-injective x a e) in let p = ap h (some-injective x a e) in let z : sum_by g xs ≡ 0 = omega (arith, sum_by-cons g x xs) in
      let n = no_sum g h xs none z in omega (arith, sum_by-cons h x xs)
  only_one g h (x ∷ xs) (suc i) a e none is = let o = one_in g xs i a e in let q = sum_by-cons g x xs in let z : g x ≡ 0 = omega arith in let y : sum_by g xs ≡ g a = omega arith in
      let r = only_one g h xs i a e none y in let n = none x z in omega (arith, sum_by-cons h x xs)

  pub starts_more : (h seen more : List A) → StartsWith h seen → StartsWith (h ++ more) seen
  starts_more h seen more s = (s.0 ++ more, ap (λ (x : List A). x ++ more) s.1 ∙ append_assoc seen s.0 more)

  pub starts_length : (h seen : List A) → StartsWith h seen → length seen ≤ length h
  starts_length h seen s = let q = ap length s.1 in omega (arith, length-append seen s.0)

  pub of_more : (seat_of : A → ℕ) (n : ℕ) (h : List A) (e : A) → seat_of e ≡ n → of_seat seat_of n (h ++ e ∷ []) ≡ of_seat seat_of n h ++ e ∷ []
  of_more seat_of n h e is = filter-append (λ (x : A). eqb (seat_of x) n) h (e ∷ []) ∙ ap (λ b. of_seat seat_of n h ++ cond b (e ∷ []) []) (eq-eqb (seat_of e) n is)

  pub of_same : (seat_of : A → ℕ) (n : ℕ) (h : List A) (e : A) → seat_of e ≢ n → of_seat seat_of n (h ++ e ∷ []) ≡ of_seat seat_of n h
  of_same seat_of n h e not = filter-append (λ (x : A). eqb (seat_of x) n) h (e ∷ []) ∙ (ap (λ b. of_seat seat_of n h ++ cond b (e ∷ []) []) (ne_eqb (seat_of e) n not) ∙ append-nil (of_seat seat_of n h))

  -- of two beginnings of one list the shorter begins the longer
  pub starts_both : (h a b : List A) → StartsWith h a → StartsWith h b → length a ≤ length b → StartsWith b a
  starts_both h [] b sa sb l = (b, refl)
  starts_both h (x ∷ a) [] sa sb l = absurd (omega arith)
  starts_both [] (x ∷ a) (y ∷ b) sa sb l = absurd (let q = sa.1 in cc)
  starts_both (z ∷ h) (x ∷ a) (y ∷ b) sa sb l = let p = sa.1 in let q = sb.1 in let ha : h ≡ a ++ sa.0 = cc in let hb : h ≡ b ++ sb.0 = cc in let same : x ≡ y = cc in
      let r = starts_both h a b (sa.0, ha) (sb.0, hb) (omega arith) in (r.0, λ i. sym same i ∷ r.1 i)

  pub starts_self : (a : List A) → StartsWith a a
  starts_self a = ([], sym (append-nil a))

  starts_same : (a b : List A) → StartsWith b a → length b ≤ length a → b ≡ a
  starts_same a b s l = let q = ap length s.1 in let z : s.0 ≡ [] = nil_from_length s.0 (omega (arith, length-append a s.0)) in s.1 ∙ (ap (λ (x : List A). a ++ x) z ∙ append-nil a)

  -- the longer of two beginnings of one list
  pub longer_starts : (h a b : List A) → StartsWith h a → StartsWith h b → StartsWith h (longer a b) × StartsWith (longer a b) a × StartsWith (longer a b) b
  longer_starts h a b sa sb = ⊎_elim
      (λ l. subst (λ (t : Bool). StartsWith h (cond t b a) × StartsWith (cond t b a) a × StartsWith (cond t b a) b) (sym (lt-ltb (length a) (length b) l)) (sb, starts_both h a b sa sb (omega arith), starts_self b))
      (λ n. subst (λ (t : Bool). StartsWith h (cond t b a) × StartsWith (cond t b a) a × StartsWith (cond t b a) b) (sym (not_less (length a) (length b) n)) (sa, starts_self a, starts_both h b a sb sa n))
      (cases_lt (length a) (length b))

  pub longer_whole : (a b : List A) → StartsWith b a → longer a b ≡ b
  longer_whole a b s = ⊎_elim (λ l. ap (λ t. cond t b a) (lt-ltb (length a) (length b) l)) (λ n. ap (λ t. cond t b a) (not_less (length a) (length b) n) ∙ sym (starts_same a b s n)) (cases_lt (length a) (length b))

  -- a list between two that have the same entries of a seat has them too
  pub of_between : (seat_of : A → ℕ) (n : ℕ) (h b a : List A) → StartsWith h b → StartsWith b a → of_seat seat_of n a ≡ of_seat seat_of n h → of_seat seat_of n a ≡ of_seat seat_of n b
  of_between seat_of n h b a sh sb same = let F : List A → List A = of_seat seat_of n in
      let p : F h ≡ F b ++ F sh.0 = ap F sh.1 ∙ filter-append (λ (x : A). eqb (seat_of x) n) b sh.0 in let q : F b ≡ F a ++ F sb.0 = ap F sb.1 ∙ filter-append (λ (x : A). eqb (seat_of x) n) a sb.0 in
      let lp = ap length p in let lq = ap length q in let ls = ap length same in
      let z : F sb.0 ≡ [] = nil_from_length (F sb.0) (omega (arith, length-append (F b) (F sh.0), length-append (F a) (F sb.0))) in sym (q ∙ (ap (λ (x : List A). F a ++ x) z ∙ append-nil (F a)))

  in_middle : (xs rest : List A) (x : A) → get_elem? ((xs ++ x ∷ []) ++ rest) (length xs) ≡ some x
  in_middle [] rest x = refl
  in_middle (y ∷ xs) rest x = in_middle xs rest x

  pub at_middle : (xs rest : List A) (x : A) (l m : List A) → l ≡ m ++ rest → m ≡ xs ++ x ∷ [] → get_elem? l (length xs) ≡ some x
  at_middle xs rest x l m e f = ap (λ (z : List A). get_elem? z (length xs)) (e ∙ ap (λ (z : List A). z ++ rest) f) ∙ in_middle xs rest x

  pub one_less : (xs rest : List A) (x : A) (l m : List A) → l ≡ m ++ rest → m ≡ xs ++ x ∷ [] → l ≡ xs ++ x ∷ rest
  one_less xs rest x l m e f = e ∙ (ap (λ (z : List A). z ++ rest) f ∙ append_assoc xs (x ∷ []) rest)

  pub same_value : (P : A → Type 0) (x y : A) → Some x ≡ Some y → P y → P x
  same_value P x y e p = let q : y ≡ x = cc in subst P q p

  pub each_first : (P : A → Type 0) (l : List A) (x : A) → ((k : ℕ) (s : A) → get_elem? l k ≡ some s → P s) → P x → (k : ℕ) (s : A) → get_elem? (x ∷ l) k ≡ some s → P s
  each_first P l x old new zero s e = subst P (some-injective x s e) new
  each_first P l x old new (suc k) s e = old k s e

  each_push : (P : ℕ → A → Type 0) (l : List A) (x : A) → ((k : ℕ) (s : A) → get_elem? l k ≡ some s → P k s) → P (length l) x → (k : ℕ) (s : A) → get_elem? (l ++ x ∷ []) k ≡ some s → P k s
  each_push P [] x old new zero s e = subst (P 0) (some-injective x s e) new
  each_push P [] x old new (suc k) s e = absurd (some-ne-none s (sym e))
  each_push P (y ∷ ys) x old new zero s e = old zero s e
  each_push P (y ∷ ys) x old new (suc k) s e = each_push (λ i. P (suc i)) ys x (λ i t. old (suc i) t) new k s e

  -- the same of a list that has one more than l, which is n long
  pub each_grown : (P : ℕ → A → Type 0) (l m : List A) (x : A) (n : ℕ) → m ≡ l ++ x ∷ [] → length l ≡ n → ((k : ℕ) (s : A) → get_elem? l k ≡ some s → P k s) → P n x → (k : ℕ) (s : A) → get_elem? m k ≡ some s → P k s
  each_grown P l m x n is long old new k s e = each_push P l x old (subst (λ (i : ℕ). P i x) (sym long) new) k s (ap (λ (z : List A). get_elem? z k) (sym is) ∙ e)

-- 1 at n
abbrev pub times : ℕ → ℕ → ℕ
times n x = cond (eqb x n) 1 0

pub times_here : (n : ℕ) → times n n ≡ 1
times_here n = ap (λ b. cond b 1 0) (eq-eqb n n refl)

times_else : (n x : ℕ) → x ≢ n → times n x ≡ 0
times_else n x ne = ap (λ b. cond b 1 0) (ne_eqb x n ne)

pub span_below : (n a k : ℕ) → n < a → sum_by (times n) (span a k) ≡ 0
span_below n a zero l = refl
span_below n a (suc k) l = let q = span_below n (suc a) k (omega arith) in let p = times_else n a (λ e. omega arith) in omega (arith, sum_by-cons (times n) a (span (suc a) k))

pub span_once : (n a k : ℕ) → sum_by (times n) (span a k) ≤ 1
span_once n a zero = omega arith
span_once n a (suc k) = dite (ℕ_discrete a n)
    (λ e. let q = span_below n (suc a) k (omega arith) in let p = ap (times n) e ∙ times_here n in omega (arith, sum_by-cons (times n) a (span (suc a) k)))
    (λ ne. let q = span_once n (suc a) k in let p = times_else n a ne in omega (arith, sum_by-cons (times n) a (span (suc a) k)))

pub span_has : (n a k : ℕ) → a ≤ n → n < a + k → sum_by (times n) (span a k) ≡ 1
span_has n a zero low high = absurd (omega arith)
span_has n a (suc k) low high = dite (ℕ_discrete a n)
    (λ e. let q = span_below n (suc a) k (omega arith) in let p = ap (times n) e ∙ times_here n in omega (arith, sum_by-cons (times n) a (span (suc a) k)))
    (λ ne. let q = span_has n (suc a) k (omega arith) (omega arith) in let p = times_else n a ne in omega (arith, sum_by-cons (times n) a (span (suc a) k)))

pub none_sum : (f : ℕ → ℕ) (l : List ℕ) → sum_by (λ (x : ℕ). 1) l ≡ 0 → sum_by f l ≡ 0
none_sum f [] e = refl
none_sum f (x ∷ xs) e = let q = sum_by-cons (λ (y : ℕ). 1) x xs in absurd (omega arith)

pub ones_span : (a k : ℕ) → sum_by (λ (x : ℕ). 1) (span a k) ≡ k
ones_span a zero = refl
ones_span a (suc k) = let q = ones_span (suc a) k in omega (arith, sum_by-cons (λ (x : ℕ). 1) a (span (suc a) k))

pub ones_length : (l : List ℕ) → sum_by (λ (x : ℕ). 1) l ≡ length l
ones_length [] = refl
ones_length (x ∷ xs) = let q = ones_length xs in omega (arith, sum_by-cons (λ (y : ℕ). 1) x xs)
