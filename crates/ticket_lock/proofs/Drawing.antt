-- A seat loads the ticket and the serving word, and draws a ticket.
use Rattle.std.proofs.Common.{◌≡◌, ℕ, ◌+◌, ◌<◌, ◌≤◌, ◌≢◌, eqb, cond, Bool, true, List, [], ◌∷◌, set, get_or, sym, refl, ap, ◌∙◌, subst, arith, le_refl, eq-eqb, ne_eqb, Option, Some, None}
use Rattle.ticket_lock.proofs.Common.{Act, Allows, Valid, carried_after, keeps, step, stepped, sum_by}
use mathlib.Core.Option.{some, none}
use mathlib.Core.Logic.{dite}
use native.Mathlib.Decide.{ℕ_discrete}
use lib.ListN.{get_elem?}
use prog.Atomic.{either}
use Rattle.ticket_lock.specs.declared.rule.SeatRecord.{SeatRecord}
use Rattle.ticket_lock.specs.declared.rule.Look.{Look}
use Rattle.ticket_lock.specs.declared.rule.Look.TheVariants.{Serving}
use Rattle.ticket_lock.specs.declared.rule.View.{View}
use Rattle.ticket_lock.specs.declared.rule.Setup.{Setup}
use Rattle.ticket_lock.specs.Lists.{most, StartsWith, of_seat, span}
use Rattle.ticket_lock.specs.Views.{numbers, met_spent, drawn, looked, looking, noted_serving, noted_next}
use Rattle.ticket_lock.specs.Rule.{Fits, Knows, Ordered}
use Rattle.ticket_lock.specs.Steps.{saw_ticket, drew, saw_serving}
use Rattle.ticket_lock.proofs.ListFacts.{each_set, set_there, stays_at, same_sum}
use Rattle.ticket_lock.proofs.Keeping.{Of, Mine, Holding, KnowsAt, at_words, unmoved, knows_looked, knows_looking, far}

z_is : (t old new : ℕ) → t ≡ old → new ≡ old + 1 → t + 1 ≡ new
z_is t old new is up = omega arith

module _ {T E : Type 0} (stands : T → ℕ → List E → Type 0) (seat_of : E → ℕ) (floor_of : T → ℕ) (key : Setup) where
  abbrev Rule : Of T E → Type 0
  Rule = Ordered stands seat_of floor_of key

  abbrev K : (ticket serving floor : ℕ) → List E → Bool → (ℕ → ℕ) → ℕ → View E → Type 0
  K = Knows seat_of key.first key.count

  knows_spent : (s : Of T E) (r : Rule s) (id : ℕ) (v : View E) → KnowsAt r id v → r.ticket ≡ most → KnowsAt r id (met_spent v)
  knows_spent s r id v k is = record {
    sees = k.sees;
    heard = k.heard;
    fits = λ sits. let f = k.fits sits in record { base = f.base; below = f.below; sees = f.sees; owns = f.owns; ended = λ _. is; low = f.low };
    gathered = k.gathered;
    unissued = k.unissued;
    low = k.low;
    cap = k.cap;
    out = k.out;
    holder = k.holder;
  }

  pub sees_ticket : (slots id : ℕ) (me : Mine T E) → me.0.sits ≡ true → Allows Rule slots id me 0 (λ n. n) (saw_ticket (step slots 0 0 0 none) me)
  sees_ticket slots id me sits s r _ at _ = let v : View E = me.0 in let k = r.each id v at in
      at_words s r (λ ws. (w : View E) × (a : Act (Option T)) × Valid s.homes me.1 a × Rule (stepped record { words = ws; homes = s.homes; views = s.views } 0 (get_or ws 0 0) id me.1 w a)
      × saw_ticket (step slots 0 0 0 none) me (get_or ws 0 0) (w, carried_after me.1 a))
      (let low : v.loaded ≤ r.ticket = (let a = k.low in let b = r.ahead in omega arith) in let w : View E = noted_next v r.ticket in let kw = knows_looking s r id v k w.looks in
      let heard : (v.kept.spent ≡ true → r.ticket ≡ most) = (k.fits sits).ended in
      dite (ℕ_discrete r.ticket most)
      (λ is. (met_spent w, keeps, tt, unmoved s r id v (met_spent w) at refl refl refl (knows_spent s r id w kw is) (λ f. refl), (refl, low, heard, (λ _. refl), (λ not. absurd (not is)))))
      (λ not. (w, keeps, tt, unmoved s r id v w at refl refl refl kw (λ f. refl), (refl, low, heard, (λ is. absurd (not is)), (λ _. refl)))))

  pub sees_serving : (slots id : ℕ) (me : Mine T E) → me.0.sits ≡ true → Allows Rule slots id me 1 (λ n. n) (saw_serving (step slots 1 0 0 none) me)
  sees_serving slots id me sits s r _ at _ = let v : View E = me.0 in let k = r.each id v at in
      at_words s r (λ ws. (w : View E) × (a : Act (Option T)) × Valid s.homes me.1 a × Rule (stepped record { words = ws; homes = s.homes; views = s.views } 1 (get_or ws 1 0) id me.1 w a)
      × saw_serving (step slots 1 0 0 none) me (get_or ws 1 0) (w, carried_after me.1 a))
      (noted_serving v r.serving, keeps, tt, unmoved s r id v (noted_serving v r.serving) at refl refl refl (knows_looking s r id (looked v r.serving) (knows_looked s r id v k r.serving (le_refl r.serving)) (Serving r.serving ∷ v.looks)) (λ f. refl), (refl, k.low, far s r id v k sits))

  -- who draws the next ticket
  abbrev owner_after : ℕ → ℕ → (ℕ → ℕ) → ℕ → ℕ
  owner_after n id owner t = cond (eqb t n) id (owner t)

  draw_fits : (s : Of T E) (r : Rule s) (c : SeatRecord E) → r.ticket < most → Fits seat_of key.first key.count r.ticket r.serving r.floor r.history c → Fits seat_of key.first key.count (r.ticket + 1) r.serving r.floor r.history c
  draw_fits s r c room f = record { base = f.base; below = f.below; sees = f.sees; owns = f.owns; ended = λ e. let x = f.ended e in absurd (omega arith); low = f.low }

  draw_knows : (s : Of T E) (r : Rule s) (id j : ℕ) (v w : View E) → r.ticket < most → KnowsAt r j v → w.kept ≡ v.kept → w.sits ≡ v.sits → w.heard ≡ v.heard → w.gathered ≡ v.gathered → w.unissued ≡ v.unissued → w.loaded ≤ r.serving
      → ((t : ℕ) → w.ticket ≡ Some t → (r.serving ≤ t) × (t < r.ticket + 1) × (owner_after r.ticket id r.owner t ≡ j) × (w.sits ≡ true))
      → (w.holds ≡ true → (r.away ≡ true) × (w.ticket ≡ Some r.serving) × (w.found ≡ r.history)) → K (r.ticket + 1) r.serving r.floor r.history r.away (owner_after r.ticket id r.owner) j w
  draw_knows s r id j v w room k kept sits heard gathered unissued low out holder = record {
    sees = subst (λ (c : SeatRecord E). StartsWith r.history c.seen) (sym kept) k.sees;
    heard = subst (StartsWith r.history) (sym heard) k.heard;
    fits = λ e. subst (Fits seat_of key.first key.count (r.ticket + 1) r.serving r.floor r.history) (sym kept) (draw_fits s r v.kept room (k.fits (sym sits ∙ e)));
    gathered = subst (λ (cs : List (SeatRecord E)). (i : ℕ) (c : SeatRecord E) → get_elem? cs i ≡ some c → Fits seat_of key.first key.count (r.ticket + 1) r.serving r.floor r.history c) (sym gathered) (λ i c e. draw_fits s r c room (k.gathered i c e));
    unissued = subst (λ (ns : List ℕ). (i n : ℕ) → get_elem? ns i ≡ some n → of_seat seat_of n r.history ≡ []) (sym unissued) k.unissued;
    low = low;
    cap = subst (λ (c : SeatRecord E). c.known ≤ r.floor) (sym kept) k.cap;
    out = out;
    holder = holder;
  }

  draw_hit : (s : Of T E) (r : Rule s) (id : ℕ) (v : View E) (looks : List Look) → get_elem? s.views id ≡ some v → v.sits ≡ true → v.ticket ≡ None → r.ticket < most
      → Rule record { words = (r.ticket + 1) ∷ r.serving ∷ r.floor ∷ r.beds; homes = s.homes; views = set s.views id (drawn (looking v looks) r.ticket) }
  draw_hit s r id v looks at sits free room = let w : View E = drawn (looking v looks) r.ticket in let n : ℕ = r.ticket in let k = r.each id v at in
      let own : owner_after n id r.owner n ≡ id = ap (λ b. cond b id (r.owner n)) (eq-eqb n n refl) in
      let other : (t : ℕ) → t ≢ n → owner_after n id r.owner t ≡ r.owner t = λ t ne. ap (λ b. cond b id (r.owner t)) (ne_eqb t n ne) in
      let none_held : v.holds ≡ true → ⊥ = λ h. let x = (k.holder h).1 in let y = sym free ∙ x in cc in record {
        turns = record (r.turns) { ticket = n + 1; owner = owner_after n id r.owner; ahead = let a = r.ahead in omega arith; bounded = omega (arith, room) };
        words = refl;
        home = r.home;
        out = λ t a b. dite (ℕ_discrete t n)
            (λ e. (w, ap (get_elem? (set s.views id w)) (ap (owner_after n id r.owner) e ∙ own) ∙ set_there s.views id v w at, ap (λ (x : ℕ). Some x) (sym e)))
            (λ ne. subst (λ (i : ℕ). (u : View E) × (get_elem? (set s.views id w) i ≡ some u) × (u.ticket ≡ Some t)) (sym (other t ne))
            (stays_at (λ (u : View E). u.ticket ≡ Some t) s.views id (r.owner t) v w at (λ p. let y = sym free ∙ p in absurd (cc)) (r.out t a (omega arith))));
        held = λ a. let h = r.held a in let kh = r.each (r.owner r.serving) h.0 h.1 in let th = (kh.out r.serving (kh.holder h.2.0).1).1 in
            subst (λ (i : ℕ). (u : View E) × (get_elem? (set s.views id w) i ≡ some u) × Holding floor_of r.floor r.last u) (sym (other r.serving (λ e. omega arith)))
            (stays_at (Holding floor_of r.floor r.last) s.views id (r.owner r.serving) v w at (λ p. p) h);
        each = each_set (K (n + 1) r.serving r.floor r.history r.away (owner_after n id r.owner)) s.views id w
            (draw_knows s r id id v w room k refl refl refl refl refl k.low (λ t e. let is : n ≡ t = cc in let a = r.ahead in (omega arith, omega arith, ap (owner_after n id r.owner) (sym is) ∙ own, sits)) (λ h. absurd (none_held h)))
            (λ j d ne e. let kd = r.each j d e in draw_knows s r id j d d room kd refl refl refl refl refl kd.low
            (λ t et. let o = kd.out t et in let o1 = o.1 in (o.0, omega arith, other t (λ z. omega arith) ∙ o.2, o.3)) kd.holder);
        counted = λ f. same_sum (λ (u : View E). sum_by f (numbers u)) s.views id v w (sum_by f (span 0 key.count)) at refl (r.counted f);
      }

  pub draws : (slots id : ℕ) (me : Mine T E) (old new : ℕ) → me.0.sits ≡ true → me.0.ticket ≡ None → old < most → new ≡ old + 1
      → Allows Rule slots id me 0 (λ n. either (eqb n old) new n) (drew (step slots 0 old new none) me)
  draws slots id me old new sits free room up s r _ at _ = let v : View E = me.0 in let k = r.each id v at in
      at_words s r (λ ws. (w : View E) × (a : Act (Option T)) × Valid s.homes me.1 a × Rule (stepped record { words = ws; homes = s.homes; views = s.views } 0 (either (eqb (get_or ws 0 0) old) new (get_or ws 0 0)) id me.1 w a)
      × drew (step slots 0 old new none) me (get_or ws 0 0) (w, carried_after me.1 a))
      (let low : v.loaded ≤ r.ticket = (let a = k.low in let b = r.ahead in omega arith) in let w : View E = noted_next v r.ticket in
      dite (ℕ_discrete r.ticket old)
      (λ is. (
        drawn w old,
        keeps,
        tt,
        subst (λ b. Rule record { words = either b new r.ticket ∷ r.serving ∷ r.floor ∷ r.beds; homes = s.homes; views = set s.views id (drawn w old) }) (sym (eq-eqb r.ticket old is))
            (subst (λ (z : ℕ × ℕ). Rule record { words = z.0 ∷ r.serving ∷ r.floor ∷ r.beds; homes = s.homes; views = set s.views id (drawn w z.1) }) (λ i. (z_is r.ticket old new is up i, is i))
            (draw_hit s r id v w.looks at sits free (omega arith))),
        (refl, low, (λ _. refl), (λ not. absurd (not is))),
      ))
      (λ not. (
        w,
        keeps,
        tt,
        subst (λ b. Rule record { words = either b new r.ticket ∷ r.serving ∷ r.floor ∷ r.beds; homes = s.homes; views = set s.views id w }) (sym (ne_eqb r.ticket old not)) (unmoved s r id v w at refl refl refl (knows_looking s r id v k w.looks) (λ f. refl)),
        (refl, low, (λ is. absurd (not is)), (λ _. refl)),
      )))
