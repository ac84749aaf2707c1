-- What the steps have in common: views that change, come or stay while the rule holds.
use Rattle.std.proofs.Common.{◌≡◌, ℕ, ◌+◌, ◌≤◌, Bool, true, false, List, [], ◌∷◌, ◌++◌, length, max, set, sym, refl, ◌∙◌, subst, ⊎_elim, arith, true≢false, Option, Some, None}
use Rattle.ticket_lock.proofs.Common.{Me, State, at_set, at_snoc, sum_by, sum_by-append, sum_by-cons}
use mathlib.Core.Option.{some, some-ne-none}
use lib.ListN.{get_elem?}
use Rattle.ticket_lock.specs.declared.rule.Look.{Look}
use Rattle.ticket_lock.specs.declared.rule.View.{View}
use Rattle.ticket_lock.specs.declared.rule.Setup.{Setup}
use Rattle.ticket_lock.specs.Lists.{span}
use Rattle.ticket_lock.specs.Views.{numbers, looked, looking, nobody}
use Rattle.ticket_lock.specs.Rule.{Knows, Ordered}
use Rattle.ticket_lock.proofs.ListFacts.{each_set, stays_at, longer_at, sum_set, same_sum, starts_length}

-- the table's state, and what a seat has of it
abbrev pub Of : Type 0 → Type 0 → Type 0
Of T E = State (Option T) (View E)

abbrev pub Mine : Type 0 → Type 0 → Type 0
Mine T E = Me (Option T) (View E)

module _ {E : Type 0} where
  pub none_out : (v : View E) → v.ticket ≡ None → (t : ℕ) → v.ticket ≡ Some t → ⊥
  none_out v free t e = let y = sym free ∙ e in cc

  -- a new view comes last
  pub each_more : (P : ℕ → View E → Type 0) (vs : List (View E)) (w : View E) → ((j : ℕ) (u : View E) → get_elem? vs j ≡ some u → P j u) → ((j : ℕ) → P j w) → (j : ℕ) (u : View E) → get_elem? (vs ++ w ∷ []) j ≡ some u → P j u
  each_more P vs w old new j u e = ⊎_elim (old j u) (λ (t : w ≡ u). subst (P j) t (new j)) (at_snoc vs w u j e)

module _ {E : Type 0} {seat_of : E → ℕ} {first count : ℕ} where
  pub knows_nobody : (ticket serving floor : ℕ) (h : List E) (away : Bool) (owner : ℕ → ℕ) (j : ℕ) → Knows seat_of first count ticket serving floor h away owner j nobody
  knows_nobody ticket serving floor h away owner j = record {
    sees = (h, refl);
    heard = (h, refl);
    fits = λ z. absurd (true≢false (sym z));
    gathered = λ i c g. absurd (some-ne-none c (sym g));
    unissued = λ i m g. absurd (some-ne-none m (sym g));
    low = omega arith;
    cap = omega arith;
    out = λ t z. let q : None ≡ Some t = z in cc;
    holder = λ z. absurd (true≢false (sym z));
  }

module _ {T E : Type 0} where
  -- the seat has the turn, and the floor word is no higher than what it found or raised the word to
  abbrev pub Holding : (T → ℕ) → ℕ → T → View E → Type 0
  Holding floor_of floor last u = (u.holds ≡ true) × (floor ≤ max (floor_of last) u.raised)

module _ {T E : Type 0} {stands : T → ℕ → List E → Type 0} {seat_of : E → ℕ} {floor_of : T → ℕ} {key : Setup} where
  -- what the seat j knows is true in this state
  abbrev pub KnowsAt : {s : Of T E} → Ordered stands seat_of floor_of key s → ℕ → View E → Type 0
  KnowsAt r = Knows seat_of key.first key.count r.ticket r.serving r.floor r.history r.away r.owner

  -- whatever holds at the words as the rule names them holds at the words
  pub at_words : (s : Of T E) (r : Ordered stands seat_of floor_of key s) (F : List ℕ → Type 0) → F (r.ticket ∷ r.serving ∷ r.floor ∷ r.beds) → F s.words
  at_words s r F x = subst F (sym r.words) x

  -- a step that changes no word but a bed, takes no slot and keeps the seat's ticket
  pub unmoved_beds : (s : Of T E) (r : Ordered stands seat_of floor_of key s) (beds : List ℕ) (id : ℕ) (v w : View E) → get_elem? s.views id ≡ some v → w.ticket ≡ v.ticket → w.holds ≡ v.holds → w.raised ≡ v.raised → KnowsAt r id w → ((f : ℕ → ℕ) → sum_by f (numbers w) ≡ sum_by f (numbers v))
      → Ordered stands seat_of floor_of key record { words = r.ticket ∷ r.serving ∷ r.floor ∷ beds; homes = s.homes; views = set s.views id w }
  unmoved_beds s r beds id v w at same_ticket same_holds same_raised mine same = record {
    turns = record (r.turns) { beds = beds };
    words = refl;
    home = r.home;
    out = λ t a b. stays_at (λ (u : View E). u.ticket ≡ Some t) s.views id (r.owner t) v w at (λ p. same_ticket ∙ p) (r.out t a b);
    held = λ a. stays_at (Holding floor_of r.floor r.last) s.views id (r.owner r.serving) v w at (λ p. (same_holds ∙ p.0, let q = p.1 in omega arith)) (r.held a);
    each = each_set (KnowsAt r) s.views id w mine (λ j d _. r.each j d);
    counted = λ f. same_sum (λ (u : View E). sum_by f (numbers u)) s.views id v w (sum_by f (span 0 key.count)) at (same f) (r.counted f);
  }

  -- the same where no word changes
  pub unmoved : (s : Of T E) (r : Ordered stands seat_of floor_of key s) (id : ℕ) (v w : View E) → get_elem? s.views id ≡ some v → w.ticket ≡ v.ticket → w.holds ≡ v.holds → w.raised ≡ v.raised → KnowsAt r id w → ((f : ℕ → ℕ) → sum_by f (numbers w) ≡ sum_by f (numbers v))
      → Ordered stands seat_of floor_of key record { words = r.ticket ∷ r.serving ∷ r.floor ∷ r.beds; homes = s.homes; views = set s.views id w }
  unmoved s r = unmoved_beds s r r.beds

  -- what a seat knows once it has loaded the serving word
  pub knows_looked : (s : Of T E) (r : Ordered stands seat_of floor_of key s) (id : ℕ) (v : View E) → KnowsAt r id v → (n : ℕ) → n ≤ r.serving → KnowsAt r id (looked v n)
  knows_looked s r id v k n l = record { sees = k.sees; heard = k.heard; fits = k.fits; gathered = k.gathered; unissued = k.unissued; low = l; cap = k.cap; out = k.out; holder = k.holder }

  -- its looks are of no account
  pub knows_looking : (s : Of T E) (r : Ordered stands seat_of floor_of key s) (id : ℕ) (v : View E) → KnowsAt r id v → (looks : List Look) → KnowsAt r id (looking v looks)
  knows_looking s r id v k looks = record { sees = k.sees; heard = k.heard; fits = k.fits; gathered = k.gathered; unissued = k.unissued; low = k.low; cap = k.cap; out = k.out; holder = k.holder }

  pub far : (s : Of T E) (r : Ordered stands seat_of floor_of key s) (id : ℕ) (v : View E) → KnowsAt r id v → v.sits ≡ true → v.kept.first + length v.kept.seen ≤ r.serving
  far s r id v k sits = let b = (k.fits sits).base in let c = r.come in let d = starts_length r.history v.kept.seen k.sees in omega arith

  -- a view that counts for nothing comes
  pub came_new : (s : Of T E) (r : Ordered stands seat_of floor_of key s) (w : View E) → ((j : ℕ) → KnowsAt r j w) → ((f : ℕ → ℕ) → sum_by f (numbers w) ≡ 0) → Ordered stands seat_of floor_of key record { words = s.words; homes = s.homes; views = s.views ++ w ∷ [] }
  came_new s r w knows none_of = record {
    turns = r.turns;
    words = r.words;
    home = r.home;
    out = λ t a b. longer_at (λ (u : View E). u.ticket ≡ Some t) s.views (w ∷ []) (r.owner t) (r.out t a b);
    held = λ a. longer_at (Holding floor_of r.floor r.last) s.views (w ∷ []) (r.owner r.serving) (r.held a);
    each = each_more (KnowsAt r) s.views w r.each knows;
    counted = λ f. let g : View E → ℕ = λ u. sum_by f (numbers u) in let p = r.counted f in let z = none_of f in omega (arith, sum_by-append g s.views (w ∷ []), sum_by-cons g w []);
  }

  -- a view joins another, and is spent
  pub joined : (s : Of T E) (r : Ordered stands seat_of floor_of key s) (id other : ℕ) (v u both : View E) → get_elem? s.views id ≡ some v → ¬ (other ≡ id) → get_elem? (set s.views id both) other ≡ some u → both.ticket ≡ v.ticket → both.holds ≡ v.holds → both.raised ≡ v.raised
      → u.ticket ≡ None → u.holds ≡ false → (KnowsAt r other u → KnowsAt r id both) → ((f : ℕ → ℕ) → sum_by f (numbers both) ≡ sum_by f (numbers v) + sum_by f (numbers u))
      → Ordered stands seat_of floor_of key record { words = s.words; homes = s.homes; views = set (set s.views id both) other nobody }
  joined s r id other v u both at apart there same_ticket same_holds same_raised free idle mine same = let vs : List (View E) = set s.views id both in
      let was : get_elem? s.views other ≡ some u = ⊎_elim (λ x. absurd (apart x.0)) (λ x. x.1) (at_set s.views id other both u there) in record {
        turns = r.turns;
        words = r.words;
        home = r.home;
        out = λ t a b. stays_at (λ (x : View E). x.ticket ≡ Some t) vs other (r.owner t) u nobody there (λ p. absurd (none_out u free t p))
            (stays_at (λ (x : View E). x.ticket ≡ Some t) s.views id (r.owner t) v both at (λ p. same_ticket ∙ p) (r.out t a b));
        held = λ a. stays_at (Holding floor_of r.floor r.last) vs other (r.owner r.serving) u nobody there (λ p. absurd (true≢false (sym p.0 ∙ idle)))
            (stays_at (Holding floor_of r.floor r.last) s.views id (r.owner r.serving) v both at (λ p. (same_holds ∙ p.0, let q = p.1 in omega arith)) (r.held a));
        each = each_set (KnowsAt r) vs other nobody (knows_nobody r.ticket r.serving r.floor r.history r.away r.owner other) (λ j d _. each_set (KnowsAt r) s.views id both (mine (r.each other u was)) (λ i x _. r.each i x) j d);
        counted = λ f. let g : View E → ℕ = λ x. sum_by f (numbers x) in let p = r.counted f in let a = sum_set g s.views id v both at in let b = sum_set g vs other u nobody there in let c = same f in
            let z : sum_by f (numbers {E = E} nobody) ≡ 0 = refl in omega arith;
      }
