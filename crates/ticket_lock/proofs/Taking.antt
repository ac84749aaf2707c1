-- A turn comes.
use Rattle.std.proofs.Common.{◌≡◌, ℕ, ◌≤◌, cond, Bool, true, false, List, [], ◌∷◌, set, get_or, sym, refl, ap, ◌∙◌, subst, arith, le_refl, true≢false, Option, Some}
use Rattle.ticket_lock.proofs.Common.{Act, Allows, Valid, carried_after, keeps, step, stepped, sum_by, takes}
use mathlib.Core.Option.{some, some-injective, none}
use mathlib.Core.Logic.{dite}
use native.Mathlib.Decide.{ℕ_discrete}
use lib.ListN.{get_elem?}
use Rattle.ticket_lock.specs.declared.rule.View.{View}
use Rattle.ticket_lock.specs.declared.rule.Setup.{Setup}
use Rattle.ticket_lock.specs.Lists.{span}
use Rattle.ticket_lock.specs.Views.{numbers, looked, holding}
use Rattle.ticket_lock.specs.Rule.{Knows, Ordered}
use Rattle.ticket_lock.specs.Steps.{drew, awaited}
use Rattle.ticket_lock.proofs.ListFacts.{either_way, each_set, set_there, stays_at, same_sum}
use Rattle.ticket_lock.proofs.Keeping.{Of, Mine, at_words, unmoved, knows_looked, far}

module _ {T E : Type 0} (stands : T → ℕ → List E → Type 0) (seat_of : E → ℕ) (floor_of : T → ℕ) (key : Setup) where
  abbrev Rule : Of T E → Type 0
  Rule = Ordered stands seat_of floor_of key

  abbrev K : (ticket serving floor : ℕ) → List E → Bool → (ℕ → ℕ) → ℕ → View E → Type 0
  K = Knows seat_of key.first key.count

  -- the turn came
  takes_it : (s : Of T E) (r : Rule s) (id : ℕ) (v : View E) → get_elem? s.views id ≡ some v → v.ticket ≡ Some r.serving → v.holds ≡ false
      → (r.away ≡ false) × Rule record { words = r.ticket ∷ r.serving ∷ r.floor ∷ r.beds; homes = none ∷ []; views = set s.views id (holding v r.serving r.history) }
  takes_it s r id v at mine idle = let w : View E = holding v r.serving r.history in let k = r.each id v at in let o = k.out r.serving mine in
      let home : r.away ≡ false = either_way r.away (λ a. let h = r.held a in let same : h.0 ≡ v = some-injective h.0 v (sym h.1 ∙ ap (get_elem? s.views) o.2 ∙ at) in let y = sym (ap (λ (u : View E). u.holds) same) ∙ h.2.0 in let z = sym idle ∙ y in cc) in (
        home,
        record {
          turns = record (r.turns) { away = true; capped = λ z. absurd (true≢false z) };
          words = refl;
          home = refl;
          out = λ t a b. stays_at (λ (u : View E). u.ticket ≡ Some t) s.views id (r.owner t) v w at (λ p. p) (r.out t a b);
          held = λ _. (w, ap (get_elem? (set s.views id w)) o.2 ∙ set_there s.views id v w at, (refl, let q = r.capped home in omega arith));
          each = each_set (K r.ticket r.serving r.floor r.history true r.owner) s.views id w
              record { sees = k.sees; heard = k.heard; fits = k.fits; gathered = k.gathered; unissued = k.unissued; low = le_refl r.serving; cap = k.cap; out = k.out; holder = λ _. (refl, mine, refl) }
              (λ j d _ e. let kd = r.each j d e in record { sees = kd.sees; heard = kd.heard; fits = kd.fits; gathered = kd.gathered; unissued = kd.unissued; low = kd.low; cap = kd.cap; out = kd.out; holder = λ h. let x = kd.holder h in (refl, x.1, x.2) });
          counted = λ f. same_sum (λ (u : View E). sum_by f (numbers u)) s.views id v w (sum_by f (span 0 key.count)) at refl (r.counted f);
        },
      )

  pub awaits : (slots id : ℕ) (me : Mine T E) (t : ℕ) → me.0.sits ≡ true → me.0.ticket ≡ Some t → me.0.holds ≡ false → Allows Rule slots id me 1 (λ n. n) (awaited stands floor_of (step slots 1 0 0 none) me)
  awaits slots id me t sits drew idle s r _ at _ = let v : View E = me.0 in let k = r.each id v at in
      at_words s r (λ ws. (w : View E) × (a : Act (Option T)) × Valid s.homes me.1 a × Rule (stepped record { words = ws; homes = s.homes; views = s.views } 1 (get_or ws 1 0) id me.1 w a)
      × awaited stands floor_of (step slots 1 0 0 none) me (get_or ws 1 0) (w, carried_after me.1 a))
      (let more : (z : ℕ) → v.ticket ≡ Some z → r.serving ≤ z = λ z e. (k.out z e).0 in
      dite (ℕ_discrete r.serving t)
      (λ is. let got = takes_it s r id v at (drew ∙ ap (λ (z : ℕ). Some z) (sym is)) idle in let home : s.homes ≡ some (Some r.last) ∷ [] = r.home ∙ ap (λ b. cond b none (some (Some r.last)) ∷ []) got.0 in
      let base = (k.fits sits).base in (
        holding v r.serving r.history,
        takes 0 (Some r.last),
        subst (λ (hs : List _). get_elem? hs 0 ≡ some (some (Some r.last))) (sym home) refl,
        subst (λ (hs : List _). Rule record { words = r.ticket ∷ r.serving ∷ r.floor ∷ r.beds; homes = set hs 0 none; views = set s.views id (holding v r.serving r.history) }) (sym home) got.1,
        (
          k.low,
          far s r id v k sits,
          λ z e. (
            more z e,
            (λ same. (r.history, r.last, ap (λ (n : ℕ). (holding v n r.history, (0, Some r.last) ∷ me.1)) same, (subst (λ (n : ℕ). stands r.last n r.history) (sym base) r.stood, k.sees, (let c = r.come in omega arith), (let q = r.capped got.0 in let z = k.cap in omega arith)))),
            λ not. let y = sym drew ∙ e in let q : t ≡ z = cc in absurd (not (is ∙ q)),
          ),
        ),
      ))
      (λ ne. (
        looked v r.serving,
        keeps,
        tt,
        unmoved s r id v (looked v r.serving) at refl refl refl (knows_looked s r id v k r.serving (le_refl r.serving)) (λ f. refl),
        (k.low, far s r id v k sits, λ z e. (more z e, (λ same. let y = sym drew ∙ e in let q : t ≡ z = cc in absurd (ne (same ∙ sym q))), (λ _. refl))),
      )))
