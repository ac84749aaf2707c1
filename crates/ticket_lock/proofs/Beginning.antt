-- The lock begins, and issues its seats.
use Rattle.std.proofs.Common.{◌≡◌, ℕ, suc, ◌+◌, ◌-◌, ◌<◌, ◌≤◌, cond, Bool, false, List, [], ◌∷◌, ◌++◌, map, set, sym, refl, ap, ◌∙◌, subst, arith, le_refl, true≢false, Option, Some, None}
use Rattle.ticket_lock.proofs.Common.{Splits, opening, sum_by, sum_by-append, sum_by-cons}
use mathlib.Core.Option.{some, some-ne-none}
use lib.ListN.{get_elem?}
use Rattle.ticket_lock.specs.declared.rule.SeatRecord.{SeatRecord}
use Rattle.ticket_lock.specs.declared.rule.View.{View}
use Rattle.ticket_lock.specs.declared.rule.Setup.{Setup}
use Rattle.ticket_lock.specs.Lists.{most, of_seat, span, head_or, tail}
use Rattle.ticket_lock.specs.Views.{setup, issuer, opener, after_issue, issued, numbers}
use Rattle.ticket_lock.specs.Rule.{Knows, Ordered}
use Rattle.ticket_lock.proofs.ListFacts.{each_set, stays_at, longer_at, sum_set}
use Rattle.ticket_lock.proofs.Keeping.{Of, Mine, Holding, KnowsAt, each_more}

suc_is : (n : ℕ) → suc n ≡ n + 1
suc_is n = omega arith

back : (n c : ℕ) → n < c → c - n ≡ suc (c - suc n)
back n c l = omega arith

span_more : (n c : ℕ) → n < c → span n (c - n) ≡ n ∷ span (suc n) (c - suc n)
span_more n c l = ap (span n) (back n c l)

module _ {T E : Type 0} (stands : T → ℕ → List E → Type 0) (seat_of : E → ℕ) (floor_of : T → ℕ) (key : Setup) where
  abbrev Rule : Of T E → Type 0
  Rule = Ordered stands seat_of floor_of key

  abbrev K : (ticket serving floor : ℕ) → List E → Bool → (ℕ → ℕ) → ℕ → View E → Type 0
  K = Knows seat_of key.first key.count

  split_sum : (f : ℕ → ℕ) (v : View E) (n : ℕ) (ns : List ℕ) → v.unissued ≡ n ∷ ns → sum_by f (numbers (after_issue v)) + sum_by f (numbers (issued v)) ≡ sum_by f (numbers v)
  split_sum f v n ns is = let a : List ℕ = cond v.sits (v.kept.number ∷ []) [] in let b : List ℕ = map (λ (d : SeatRecord E). d.number) v.gathered in
      subst (λ (u : List ℕ). sum_by f (a ++ (b ++ tail u)) + sum_by f (head_or u ∷ []) ≡ sum_by f (a ++ (b ++ u))) (sym is)
      (omega (arith, sum_by-append f a (b ++ ns), sum_by-append f b ns, sum_by-append f a (b ++ n ∷ ns), sum_by-append f b (n ∷ ns), sum_by-cons f n ns, sum_by-cons f n []))

  pub issues : (id : ℕ) (v : View E) (n : ℕ) (ns : List ℕ) → v.unissued ≡ n ∷ ns → n < key.count → v.kept.first ≡ key.first → Splits Rule id v (after_issue v) (issued v)
  issues id v n ns is room base s r at = let l : View E = after_issue v in let w : View E = issued v in let k = r.each id v at in let vs : List (View E) = set s.views id l in let new : List (View E) = w ∷ [] in record {
    turns = r.turns;
    words = r.words;
    home = r.home;
    out = λ t a b. longer_at (λ (u : View E). u.ticket ≡ Some t) vs new (r.owner t) (stays_at (λ (u : View E). u.ticket ≡ Some t) s.views id (r.owner t) v l at (λ p. p) (r.out t a b));
    held = λ a. longer_at (Holding floor_of r.floor r.last) vs new (r.owner r.serving) (stays_at (Holding floor_of r.floor r.last) s.views id (r.owner r.serving) v l at (λ p. p) (r.held a));
    each = each_more (KnowsAt r) vs w
        (each_set (KnowsAt r) s.views id l
        record { sees = k.sees; heard = k.heard; fits = k.fits; gathered = k.gathered; unissued = λ i m e. k.unissued (suc i) m (subst (λ (u : List ℕ). get_elem? (tail u) i ≡ some m → get_elem? u (suc i) ≡ some m) (sym is) (λ x. x) e); low = k.low; cap = k.cap; out = k.out; holder = k.holder }
        (λ j d _. r.each j d))
        (λ j. let own : of_seat seat_of n r.history ≡ [] = k.unissued 0 n (ap (λ (u : List ℕ). get_elem? u 0) is) in let number : head_or v.unissued ≡ n = ap head_or is in record {
          sees = (r.history, refl);
          heard = (r.history, refl);
          fits = λ _. record {
            base = base;
            below = subst (λ (z : ℕ). z < key.count) (sym number) room;
            sees = (r.history, refl);
            owns = sym (ap (λ (z : ℕ). of_seat seat_of z r.history) number ∙ own);
            ended = λ x. absurd (true≢false (sym x));
            low = omega arith;
          };
          gathered = λ i c x. absurd (some-ne-none c (sym x));
          unissued = λ i m x. absurd (some-ne-none m (sym x));
          low = omega arith;
          cap = omega arith;
          out = λ t x. let q : None ≡ Some t = x in cc;
          holder = λ x. absurd (true≢false (sym x));
        });
    counted = λ f. let g : View E → ℕ = λ u. sum_by f (numbers u) in let q = sum_set g s.views id v l at in let p = r.counted f in let d = split_sum f v n ns is in omega (arith, sum_by-append g vs new, sum_by-cons g w []);
  }

  pub opens : (beds : List ℕ) (x : T) → key.first ≤ most → stands x key.first [] → Rule record { words = key.first ∷ key.first ∷ 0 ∷ beds; homes = some (Some x) ∷ []; views = opener key ∷ [] }
  opens beds x low new = record {
    turns = record {
      ticket = key.first;
      serving = key.first;
      floor = 0;
      beds = beds;
      history = [];
      last = x;
      away = false;
      owner = λ t. 0;
      come = omega arith;
      ahead = le_refl key.first;
      bounded = low;
      stood = new;
      capped = λ _. omega arith;
      named = λ i e g. absurd (some-ne-none e (sym g));
    };
    words = refl;
    home = refl;
    out = λ t a b. absurd (omega arith);
    held = λ a. absurd (true≢false (sym a));
    each = each_more (K key.first key.first 0 [] false (λ t. 0)) [] (opener key) (λ j u e. absurd (some-ne-none u (sym e))) (λ j. record {
      sees = ([], refl);
      heard = ([], refl);
      fits = λ z. absurd (true≢false (sym z));
      gathered = λ i c g. absurd (some-ne-none c (sym g));
      unissued = λ i m g. refl;
      low = omega arith;
      cap = omega arith;
      out = λ t z. let q : None ≡ Some t = z in cc;
      holder = λ z. absurd (true≢false (sym z));
    });
    counted = λ f. omega (arith, sum_by-cons (λ (u : View E). sum_by f (numbers u)) (opener key) []);
  }

  pub issues_next : (first count id : ℕ) (m : Mine T E) (n : ℕ) → key ≡ setup first count → n < count → m ≡ (issuer first (span n (count - n)), []) → Splits Rule id m.0 (after_issue m.0) (issued m.0)
  issues_next first count id m n known room is = let v : View E = issuer first (span n (count - n)) in let first_is : first ≡ key.first = sym (ap (λ (k : Setup). k.first) known) in
      subst (λ (z : Mine T E). Splits Rule id z.0 (after_issue z.0) (issued z.0)) (sym is)
      (issues id v n (span (suc n) (count - suc n)) (span_more n count room) (subst (λ (c : ℕ). n < c) (sym (ap (λ (k : Setup). k.count) known)) room) first_is)

  pub issued_next : (first count : ℕ) (m m' : Mine T E) (n : ℕ) → n < count → m ≡ (issuer first (span n (count - n)), []) → m' ≡ (after_issue m.0, m.1) → m' ≡ (issuer first (span (n + 1) (count - (n + 1))), [])
  issued_next first count m m' n room is now = now ∙ (ap (λ (z : Mine T E). (after_issue z.0, z.1)) is ∙ (ap (λ (l : List ℕ). (issuer first (tail l), [])) (span_more n count room) ∙ ap (λ (k : ℕ). (issuer first (span k (count - k)), [])) (suc_is n)))

  pub starts : (first count : ℕ) (beds words : List ℕ) (x : T) (items : List (Option T)) → first ≤ most → key ≡ setup first count → words ≡ first ∷ first ∷ 0 ∷ beds → items ≡ Some x ∷ [] → stands x first [] → Rule (opening words items (opener key))
  starts first count beds words x items low known laid is new = let f : key.first ≡ first = ap (λ (k : Setup). k.first) known in
      subst (λ (z : List ℕ × List (Option T)). Rule (opening z.0 z.1 (opener key))) (λ i. (sym laid i, sym is i))
      (subst (λ (f : ℕ). Rule (opening (f ∷ f ∷ 0 ∷ beds) (Some x ∷ []) (opener key))) f (opens beds x (subst (λ (n : ℕ). n ≤ most) (sym f) low) (subst (λ (f : ℕ). stands x f []) (sym f) new)))
