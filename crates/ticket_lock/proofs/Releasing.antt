-- A turn ends.
use Rattle.std.proofs.Common.{◌≡◌, ℕ, ◌+◌, ◌≤◌, ◌≢◌, cond, Bool, true, false, List, [], ◌∷◌, ◌++◌, map, max, set, sym, refl, ap, ◌∙◌, subst, ⊎_elim, arith, append-nil, length-append, true≢false, Option, Some, None}
use Rattle.ticket_lock.proofs.Common.{Allows, at_map, at_snoc, gives, homes_after, rest, step, sum_by, sum_by-append, sum_by-cons}
use mathlib.Core.Option.{some, some-injective, some-ne-none, none}
use lib.ListN.{get_elem?}
use Rattle.ticket_lock.specs.declared.rule.SeatRecord.{SeatRecord}
use Rattle.ticket_lock.specs.declared.rule.View.{View}
use Rattle.ticket_lock.specs.declared.rule.Setup.{Setup}
use Rattle.ticket_lock.specs.Lists.{of_seat, span}
use Rattle.ticket_lock.specs.Views.{numbers, ended}
use Rattle.ticket_lock.specs.Rule.{Fits, Knows, Ordered}
use Rattle.ticket_lock.specs.Steps.{drew, released}
use Rattle.ticket_lock.proofs.ListFacts.{each_set, stays_at, same_sum, one_in, two_in, starts_more, of_more, of_same, times, times_here, span_once}
use Rattle.ticket_lock.proofs.Keeping.{Of, Mine}

up_is : (x t new : ℕ) → t ≡ x → new ≡ t + 1 → x + 1 ≡ new
up_is x t new is up = omega arith

abbrev first_or : {A : Type 0} → Option A → List (ℕ × Option A) → Option A
first_or d [] = d
first_or d (x ∷ xs) = x.1

module _ {T E : Type 0} (stands : T → ℕ → List E → Type 0) (seat_of : E → ℕ) (floor_of : T → ℕ) (key : Setup) where
  abbrev Rule : Of T E → Type 0
  Rule = Ordered stands seat_of floor_of key

  abbrev K : (ticket serving floor : ℕ) → List E → Bool → (ℕ → ℕ) → ℕ → View E → Type 0
  K = Knows seat_of key.first key.count

  abbrev pub Rises : Type 0
  Rises = (x y : T) (first : ℕ) (before after : List E) → stands x first before → stands y first (before ++ after) → floor_of x ≤ floor_of y

  -- how often a number stands among those of a view
  abbrev often : ℕ → View E → ℕ
  often n v = sum_by (times n) (numbers v)

  own_often : (v : View E) → v.sits ≡ true → 1 ≤ often v.kept.number v
  own_often v sits = let n : ℕ = v.kept.number in let rest : List ℕ = map (λ (c : SeatRecord E). c.number) v.gathered ++ v.unissued in
      subst (λ (b : Bool). 1 ≤ sum_by (times n) (cond b (n ∷ []) [] ++ rest)) (sym sits) (let q = times_here n in omega (arith, sum_by-cons (times n) n rest))

  gathered_often : (v : View E) (i : ℕ) (c : SeatRecord E) → get_elem? v.gathered i ≡ some c → 1 ≤ often c.number v
  gathered_often v i c e = let n : ℕ = c.number in let a : List ℕ = cond v.sits (v.kept.number ∷ []) [] in let b : List ℕ = map (λ (d : SeatRecord E). d.number) v.gathered in
      let q = one_in (times n) b i n (at_map (λ (d : SeatRecord E). d.number) v.gathered i c e) in let h = times_here n in
      omega (arith, sum_by-append (times n) a (b ++ v.unissued), sum_by-append (times n) b v.unissued)

  unissued_often : (v : View E) (i n : ℕ) → get_elem? v.unissued i ≡ some n → 1 ≤ often n v
  unissued_often v i n e = let a : List ℕ = cond v.sits (v.kept.number ∷ []) [] in let b : List ℕ = map (λ (d : SeatRecord E). d.number) v.gathered in
      let q = one_in (times n) v.unissued i n e in let h = times_here n in
      omega (arith, sum_by-append (times n) a (b ++ v.unissued), sum_by-append (times n) b v.unissued)

  -- no number is in two views
  apart : (s : Of T E) (r : Rule s) (i j : ℕ) (v u : View E) (n : ℕ) → i ≢ j → get_elem? s.views i ≡ some v → get_elem? s.views j ≡ some u → 1 ≤ often n v → 1 ≤ often n u → ⊥
  apart s r i j v u n ne e g a b = let q = two_in (often n) s.views i j v u ne e g in let p = r.counted (times n) in let o = span_once n 0 key.count in absurd (omega arith)

  ended_fits : (h : List E) (t x y fl : ℕ) (e : E) (c : SeatRecord E) → seat_of e ≢ c.number → Fits seat_of key.first key.count t x fl h c → Fits seat_of key.first key.count t y fl (h ++ e ∷ []) c
  ended_fits h t x y fl e c ne f = record { base = f.base; below = f.below; sees = starts_more h c.seen (e ∷ []) f.sees; owns = f.owns ∙ sym (of_same seat_of c.number h e ne); ended = f.ended; low = f.low }

  gives_back : (s : Of T E) (r : Rule s) (id : ℕ) (v : View E) (e : E) (y : T) → get_elem? s.views id ≡ some v → v.sits ≡ true → v.gathered ≡ [] → v.unissued ≡ [] → v.ticket ≡ Some r.serving → v.holds ≡ true
      → seat_of e ≡ v.kept.number → stands y v.kept.first (v.found ++ e ∷ []) → r.floor ≤ floor_of y → Rule record { words = r.ticket ∷ (r.serving + 1) ∷ r.floor ∷ r.beds; homes = some (Some y) ∷ []; views = set s.views id (ended v (e ∷ [])) }
  gives_back s r id v e y at sits alone issued_all mine holds names new enough = let w : View E = ended v (e ∷ []) in let k = r.each id v at in let o = k.out r.serving mine in let f = k.fits sits in let found = (k.holder holds).2 in
      let h : List E = r.history in let h' : List E = h ++ e ∷ [] in let n : ℕ = v.kept.number in
      let others : (j : ℕ) (u : View E) (m : ℕ) → j ≢ id → get_elem? s.views j ≡ some u → 1 ≤ often m u → seat_of e ≢ m = λ j u m ne g some_of z. apart s r id j v u m (λ q. ne (sym q)) at g (subst (λ (x : ℕ). 1 ≤ often x v) (sym names ∙ z) (own_often v sits)) some_of in record {
        turns = record (r.turns) { serving = r.serving + 1; history = h'; last = y; away = false; come = let c = r.come in omega (arith, length-append h (e ∷ [])); ahead = let l = o.1 in omega arith; stood = subst (λ (z : ℕ × List E). stands y z.0 (z.1 ++ e ∷ [])) (λ i. (f.base i, found i)) new; capped = λ _. enough; named = λ i d g. ⊎_elim (λ x. r.named i d x) (λ x. let b = f.below in let q = ap seat_of x in omega arith) (at_snoc h e d i g) };
        words = refl;
        home = refl;
        out = λ t a b. stays_at (λ (u : View E). u.ticket ≡ Some t) s.views id (r.owner t) v w at (λ p. let q = sym mine ∙ p in let x : r.serving ≡ t = cc in absurd (omega arith)) (r.out t (omega arith) b);
        held = λ a. absurd (true≢false (sym a));
        each = each_set (K r.ticket (r.serving + 1) r.floor h' false r.owner) s.views id w
            record {
              sees = ([], ap (λ (x : List E). x ++ e ∷ []) (sym found) ∙ sym (append-nil (v.found ++ e ∷ [])));
              heard = starts_more h v.heard (e ∷ []) k.heard;
              fits = λ _. record {
                base = f.base;
                below = f.below;
                sees = ([], ap (λ (x : List E). x ++ e ∷ []) (sym found) ∙ sym (append-nil (v.found ++ e ∷ [])));
                owns = ap (λ (x : List E). x ++ e ∷ []) f.owns ∙ sym (of_more seat_of n h e names);
                ended = f.ended;
                low = f.low;
              };
              gathered = λ i c g. absurd (some-ne-none c (sym g ∙ ap (λ (cs : List (SeatRecord E)). get_elem? cs i) alone));
              unissued = λ i m g. absurd (some-ne-none m (sym g ∙ ap (λ (ms : List ℕ). get_elem? ms i) issued_all));
              low = let l = k.low in omega arith;
              cap = k.cap;
              out = λ t z. let q : None ≡ Some t = z in cc;
              holder = λ z. absurd (true≢false (sym z));
            }
            (λ j u ne g. let ku = r.each j u g in record {
              sees = starts_more h u.kept.seen (e ∷ []) ku.sees;
              heard = starts_more h u.heard (e ∷ []) ku.heard;
              fits = λ us. ended_fits h r.ticket r.serving (r.serving + 1) r.floor e u.kept (others j u u.kept.number ne g (own_often u us)) (ku.fits us);
              gathered = λ i c x. ended_fits h r.ticket r.serving (r.serving + 1) r.floor e c (others j u c.number ne g (gathered_often u i c x)) (ku.gathered i c x);
              unissued = λ i m x. of_same seat_of m h e (others j u m ne g (unissued_often u i m x)) ∙ ku.unissued i m x;
              low = let l = ku.low in omega arith;
              cap = ku.cap;
              out = λ t z. let q = ku.out t z in let q0 = q.0 in let ne_t : t ≢ r.serving = λ x. ne (sym q.2 ∙ (ap r.owner x ∙ o.2)) in (omega arith, q.1, q.2, q.3);
              holder = λ z. let q = (ku.holder z).1 in absurd (ne (sym (ku.out r.serving q).2 ∙ o.2));
            });
        counted = λ p. same_sum (λ (u : View E). sum_by p (numbers u)) s.views id v w (sum_by p (span 0 key.count)) at refl (r.counted p);
      }

  -- what the holder gives back is no lower than the floor word
  high_enough : (s : Of T E) (r : Rule s) (id : ℕ) (v : View E) (e : E) (y : T) → Rises → get_elem? s.views id ≡ some v → v.ticket ≡ Some r.serving → v.holds ≡ true → v.sits ≡ true → stands y v.kept.first (v.found ++ e ∷ []) → v.raised ≤ floor_of y → r.floor ≤ floor_of y
  high_enough s r id v e y rises at mine holds sits new up = let k = r.each id v at in let f = k.fits sits in let hold = k.holder holds in let o = k.out r.serving mine in let h = r.held hold.0 in
      let same : h.0 ≡ v = some-injective h.0 v (sym h.1 ∙ ap (get_elem? s.views) o.2 ∙ at) in let cap : r.floor ≤ max (floor_of r.last) v.raised = subst (λ (u : View E). r.floor ≤ max (floor_of r.last) u.raised) same h.2.1 in
      let more : floor_of r.last ≤ floor_of y = rises r.last y key.first r.history (e ∷ []) r.stood (subst (λ (z : ℕ × List E). stands y z.0 (z.1 ++ e ∷ [])) (λ i. (f.base i, hold.2 i)) new) in omega arith

  pub releases : (slots id : ℕ) (me : Mine T E) (t new : ℕ) (said : List E) (e : E) (y : T) → me.0.sits ≡ true → me.0.gathered ≡ [] → me.0.unissued ≡ [] → me.0.ticket ≡ Some t → me.0.holds ≡ true → me.1 ≡ (0, Some y) ∷ [] → new ≡ t + 1
      → said ≡ e ∷ [] → seat_of e ≡ me.0.kept.number → stands y me.0.kept.first (me.0.found ++ e ∷ []) → Rises → me.0.raised ≤ floor_of y → Allows Rule slots id me 1 (λ _. new) (λ _. released seat_of floor_of said (step slots 1 new 0 none) me new)
  releases slots id me t new said e y sits alone issued_all drew holds hand up is names new_stands rises high s r _ at _ = let v : View E = me.0 in let k = r.each id v at in let hold = k.holder holds in let q = sym drew ∙ hold.1 in let here : t ≡ r.serving = cc in
      let enough = high_enough s r id v e y rises at hold.1 holds sits new_stands high in
      let home : s.homes ≡ none ∷ [] = r.home ∙ ap (λ b. cond b none (some (Some r.last)) ∷ []) hold.0 in (
        ended v said,
        gives,
        tt,
        subst (λ (z : List ℕ × List _ × List (ℕ × Option T) × List E × ℕ). Rule record { words = set z.0 1 z.4; homes = homes_after z.1 z.2 gives; views = set s.views id (ended v z.3) })
            (λ i. (sym r.words i, sym home i, sym hand i, sym is i, up_is r.serving t new here up i))
            (gives_back s r id v e y at sits alone issued_all hold.1 holds names new_stands enough),
        ((λ x g. let q : Some y ≡ Some x = ap (first_or None) (sym hand ∙ g) in let same : y ≡ x = cc in let c = k.cap in subst (λ (z : T). v.kept.known ≤ floor_of z) same (omega arith)), refl, (k.fits sits).owns ∙ ap (of_seat seat_of v.kept.number) (sym hold.2)),
      )

  pub releases_from : (slots id : ℕ) (m m' : Mine T E) (t new : ℕ) (said : List E) (e : E) (y : T) → m' ≡ (m.0, (0, Some y) ∷ rest m.1) → m.0.sits ≡ true → m.0.gathered ≡ [] → m.0.unissued ≡ [] → m.0.ticket ≡ Some t → m.0.holds ≡ true → m.1 ≡ (0, None) ∷ [] → new ≡ t + 1
      → said ≡ e ∷ [] → seat_of e ≡ m.0.kept.number → stands y m.0.kept.first (m.0.found ++ e ∷ []) → Rises → m.0.raised ≤ floor_of y → Allows Rule slots id m' 1 (λ _. new) (λ _. released seat_of floor_of said (step slots 1 new 0 none) m' new)
  releases_from slots id m m' t new said e y now sits alone issued_all mine holds hand up is names stood rises high =
      subst (λ (z : Mine T E). Allows Rule slots id z 1 (λ _. new) (λ _. released seat_of floor_of said (step slots 1 new 0 none) z new)) (sym now)
      (releases slots id (m.0, (0, Some y) ∷ rest m.1) t new said e y sits alone issued_all mine holds (ap (λ (l : List (ℕ × Option T)). (0, Some y) ∷ rest l) hand) up is names stood rises high)
  -- what a release leaves, by what was there before the value came into the slot
