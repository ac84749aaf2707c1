-- Two seats tell each other what they have seen.
use Rattle.std.proofs.Common.{◌≡◌, ℕ, ◌≤◌, true, List, [], ◌∷◌, ◌++◌, max, set, get_or, sym, refl, ap, ◌∙◌, subst, arith, le_refl, true≢false, Option, Some, None}
use Rattle.ticket_lock.proofs.Common.{Act, Allows, Joins, Splits, Valid, carried_after, keeps, step, stepped, sum_by}
use mathlib.Core.Option.{some-ne-none, none}
use Rattle.ticket_lock.specs.declared.rule.View.{View}
use Rattle.ticket_lock.specs.declared.rule.Setup.{Setup}
use Rattle.ticket_lock.specs.Lists.{longer}
use Rattle.ticket_lock.specs.Views.{numbers, report, nobody, telling, report_of, hearing, caught_up}
use Rattle.ticket_lock.specs.Rule.{Ordered}
use Rattle.ticket_lock.specs.Steps.{compared}
use Rattle.ticket_lock.proofs.ListFacts.{set_there, longer_starts, of_between}
use Rattle.ticket_lock.proofs.Keeping.{Of, Mine, at_words, unmoved, knows_looking, came_new, joined}

module _ {T E : Type 0} (stands : T → ℕ → List E → Type 0) (seat_of : E → ℕ) (floor_of : T → ℕ) (key : Setup) where
  abbrev Rule : Of T E → Type 0
  Rule = Ordered stands seat_of floor_of key

  pub compares : (slots id : ℕ) (me : Mine T E) → me.0.sits ≡ true → Allows Rule slots id me 1 (λ n. n) (compared seat_of (step slots 1 0 0 none) me)
  compares slots id me sits s r _ at _ = let v : View E = me.0 in let k = r.each id v at in let f = k.fits sits in let h : List E = r.history in let l = longer_starts h v.kept.seen v.heard k.sees k.heard in
      at_words s r (λ ws. (w : View E) × (a : Act (Option T)) × Valid s.homes me.1 a × Rule (stepped record { words = ws; homes = s.homes; views = s.views } 1 (get_or ws 1 0) id me.1 w a)
      × compared seat_of (step slots 1 0 0 none) me (get_or ws 1 0) (w, carried_after me.1 a)) (
        caught_up v r.serving,
        keeps,
        tt,
        unmoved s r id v (caught_up v r.serving) at refl refl refl
            record {
              sees = l.0;
              heard = (h, refl);
              fits = λ _. record { base = f.base; below = f.below; sees = l.0; owns = f.owns; ended = f.ended; low = f.low };
              gathered = k.gathered;
              unissued = k.unissued;
              low = le_refl r.serving;
              cap = k.cap;
              out = k.out;
              holder = k.holder;
            }
            (λ g. refl),
        (refl, l.1, l.2, λ own. own ∙ of_between seat_of v.kept.number h (longer v.kept.seen v.heard) v.kept.seen l.0 l.1 (sym own ∙ f.owns)),
      )

  pub hears : (id other : ℕ) (v u : View E) (seen : List E) (known : ℕ) → u ≡ report seen known → Joins Rule id v other u (hearing v u) nobody
  hears id other v u seen known is s r at apart there = joined s r id other v u (hearing v u) at apart there refl refl refl (ap (λ (x : View E). x.ticket) is) (ap (λ (x : View E). x.holds) is)
      (λ ku. let k = r.each id v at in let c : max v.kept.known u.kept.known ≤ r.floor = (let a = k.cap in let b = ku.cap in omega arith) in record { sees = k.sees; heard = ku.sees; fits = λ z. (let f = k.fits z in record { base = f.base; below = f.below; sees = f.sees; owns = f.owns; ended = f.ended; low = c }); gathered = k.gathered; unissued = k.unissued; low = k.low; cap = c; out = k.out; holder = k.holder })
      (λ f. let z : sum_by f (numbers u) ≡ 0 = ap (λ (x : View E). sum_by f (numbers x)) is in omega arith)

  pub reports : (id : ℕ) (v : View E) → Splits Rule id v (telling v) (report_of v)
  reports id v s r at = let w : View E = telling v in
      let told : Of T E = record { words = r.ticket ∷ r.serving ∷ r.floor ∷ r.beds; homes = s.homes; views = set s.views id w } in
      let q : Rule told = unmoved s r id v w at refl refl refl (knows_looking s r id v (r.each id v at) w.looks) (λ f. refl) in
      let k = q.each id w (set_there s.views id v w at) in
      subst (λ (ws : List ℕ). Rule record { words = ws; homes = s.homes; views = set s.views id w ++ report_of v ∷ [] }) (sym r.words)
      (came_new told q (report_of v) (λ j. record {
        sees = k.sees;
        heard = (q.history, refl);
        fits = λ z. absurd (true≢false (sym z));
        gathered = λ i c g. absurd (some-ne-none c (sym g));
        unissued = λ i m g. absurd (some-ne-none m (sym g));
        low = omega arith;
        cap = k.cap;
        out = λ t z. let p : None ≡ Some t = z in cc;
        holder = λ z. absurd (true≢false (sym z));
      })
      (λ f. refl))
