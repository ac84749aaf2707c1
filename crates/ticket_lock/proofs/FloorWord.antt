-- The floor word is raised and loaded.
use Rattle.std.proofs.Common.{◌≡◌, ℕ, ◌≤◌, Bool, true, List, ◌∷◌, max, set, get_or, sym, refl, ap, ◌∙◌, subst, arith, le_refl, true≢false, Option, Some}
use Rattle.ticket_lock.proofs.Common.{Act, Allows, Valid, carried_after, keeps, step, stepped, sum_by}
use mathlib.Core.Option.{some, some-injective, none}
use lib.ListN.{get_elem?}
use Rattle.ticket_lock.specs.declared.rule.SeatRecord.{SeatRecord}
use Rattle.ticket_lock.specs.declared.rule.View.{View}
use Rattle.ticket_lock.specs.declared.rule.Setup.{Setup}
use Rattle.ticket_lock.specs.Lists.{span}
use Rattle.ticket_lock.specs.Views.{numbers, raises, knows_floor}
use Rattle.ticket_lock.specs.Rule.{Fits, Knows, Ordered}
use Rattle.ticket_lock.specs.Steps.{raised_to, saw_floor}
use Rattle.ticket_lock.proofs.ListFacts.{each_set, set_there, stays_at, same_sum}
use Rattle.ticket_lock.proofs.Keeping.{Of, Mine, at_words, unmoved}

module _ {T E : Type 0} (stands : T → ℕ → List E → Type 0) (seat_of : E → ℕ) (floor_of : T → ℕ) (key : Setup) where
  abbrev Rule : Of T E → Type 0
  Rule = Ordered stands seat_of floor_of key

  abbrev K : (ticket serving floor : ℕ) → List E → Bool → (ℕ → ℕ) → ℕ → View E → Type 0
  K = Knows seat_of key.first key.count

  floor_fits : (ticket serving a b : ℕ) (h : List E) (c : SeatRecord E) → a ≤ b → Fits seat_of key.first key.count ticket serving a h c → Fits seat_of key.first key.count ticket serving b h c
  floor_fits ticket serving a b h c le f = record { base = f.base; below = f.below; sees = f.sees; owns = f.owns; ended = f.ended; low = let x = f.low in omega arith }

  raised_word : (s : Of T E) (r : Rule s) (id : ℕ) (v : View E) (n : ℕ) → get_elem? s.views id ≡ some v → v.holds ≡ true → Rule record { words = r.ticket ∷ r.serving ∷ max r.floor n ∷ r.beds; homes = s.homes; views = set s.views id (raises v r.floor n) }
  raised_word s r id v n at holds = let w : View E = raises v r.floor n in let k = r.each id v at in let hold = k.holder holds in let o = k.out r.serving hold.1 in let h = r.held hold.0 in let up : ℕ = max r.floor n in
      let same : h.0 ≡ v = some-injective h.0 v (sym h.1 ∙ ap (get_elem? s.views) o.2 ∙ at) in let cap : r.floor ≤ max (floor_of r.last) v.raised = subst (λ (u : View E). r.floor ≤ max (floor_of r.last) u.raised) same h.2.1 in
      let le : r.floor ≤ up = omega arith in record {
        turns = record (r.turns) { floor = up; capped = λ z. absurd (true≢false (sym hold.0 ∙ z)) };
        words = refl;
        home = r.home;
        out = λ t a b. stays_at (λ (u : View E). u.ticket ≡ Some t) s.views id (r.owner t) v w at (λ p. p) (r.out t a b);
        held = λ _. (w, ap (get_elem? (set s.views id w)) o.2 ∙ set_there s.views id v w at, (holds, omega arith));
        each = each_set (K r.ticket r.serving up r.history r.away r.owner) s.views id w
            record {
              sees = k.sees;
              heard = k.heard;
              fits = λ z. let f = k.fits z in record { base = f.base; below = f.below; sees = f.sees; owns = f.owns; ended = f.ended; low = le_refl up };
              gathered = λ i c e. floor_fits r.ticket r.serving r.floor up r.history c le (k.gathered i c e);
              unissued = k.unissued;
              low = k.low;
              cap = le_refl up;
              out = k.out;
              holder = k.holder;
            }
            (λ j d _ e. let kd = r.each j d e in record {
              sees = kd.sees;
              heard = kd.heard;
              fits = λ z. floor_fits r.ticket r.serving r.floor up r.history d.kept le (kd.fits z);
              gathered = λ i c x. floor_fits r.ticket r.serving r.floor up r.history c le (kd.gathered i c x);
              unissued = kd.unissued;
              low = kd.low;
              cap = let x = kd.cap in omega arith;
              out = kd.out;
              holder = kd.holder;
            });
        counted = λ f. same_sum (λ (u : View E). sum_by f (numbers u)) s.views id v w (sum_by f (span 0 key.count)) at refl (r.counted f);
      }

  pub raises_floor : (slots id : ℕ) (me : Mine T E) (n : ℕ) → me.0.holds ≡ true → Allows Rule slots id me 2 (λ x. max x n) (raised_to (step slots 2 n 0 none) me)
  raises_floor slots id me n holds s r _ at _ = let v : View E = me.0 in let k = r.each id v at in
      at_words s r (λ ws. (w : View E) × (a : Act (Option T)) × Valid s.homes me.1 a × Rule (stepped record { words = ws; homes = s.homes; views = s.views } 2 (max (get_or ws 2 0) n) id me.1 w a)
      × raised_to (step slots 2 n 0 none) me (get_or ws 2 0) (w, carried_after me.1 a))
      (raises v r.floor n, keeps, tt, raised_word s r id v n at holds, (refl, k.cap))

  pub sees_floor : (slots id : ℕ) (me : Mine T E) → Allows Rule slots id me 2 (λ x. x) (saw_floor (step slots 2 0 0 none) me)
  sees_floor slots id me s r _ at _ = let v : View E = me.0 in let k = r.each id v at in
      at_words s r (λ ws. (w : View E) × (a : Act (Option T)) × Valid s.homes me.1 a × Rule (stepped record { words = ws; homes = s.homes; views = s.views } 2 (get_or ws 2 0) id me.1 w a)
      × saw_floor (step slots 2 0 0 none) me (get_or ws 2 0) (w, carried_after me.1 a)) (
        knows_floor v r.floor,
        keeps,
        tt,
        unmoved s r id v (knows_floor v r.floor) at refl refl refl
            record {
              sees = k.sees;
              heard = k.heard;
              fits = λ z. let f = k.fits z in record { base = f.base; below = f.below; sees = f.sees; owns = f.owns; ended = f.ended; low = le_refl r.floor };
              gathered = k.gathered;
              unissued = k.unissued;
              low = k.low;
              cap = le_refl r.floor;
              out = k.out;
              holder = k.holder;
            }
            (λ f. refl),
        (refl, k.cap),
      )
