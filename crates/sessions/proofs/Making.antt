-- The events of the calls so far, before and after the next.
use Rattle.std.proofs.Common.{◌≡◌, ◌≢◌, ℕ, zero, suc, ◌+◌, ◌<◌, ◌≤◌, ◌⊎◌, nat_lt, cond, Bool, true, false, List, [], ◌∷◌, ◌++◌, length, set, refl, sym, ap, ◌∙◌, subst, ⊎_elim, arith, append-nil, append_assoc, length-append}
use Rattle.sessions.proofs.Common.{AllNew, Cmd, Db, Event, Ghosts, IsAnswered, IsSpent, Seat, Served, StartsWith, each_set, first_of, le-ltb, longer, mine, most, nil_from_length, same_sum, seen, set_there, starts_length, sum_by, sum_by-cons, sum_set}
use mathlib.Core.Option.{some, some-injective}
use lib.ListN.{get_elem?}
use Rattle.engine.specs.declared.Engine.{Engine}
use Rattle.shared_db.specs.Seats.{IsWhole}
use Rattle.sessions.specs.Seating.{HaveMet}
use Rattle.sessions.specs.Runs.{woven, told, HasMade, HasSpent, IsHistory}

-- ---- lists

set_else : {A : Type 0} (vs : List A) (me i : ℕ) (w : A) → i ≢ me → get_elem? (set vs me w) i ≡ get_elem? vs i
set_else (x ∷ xs) zero zero w ne = absurd (ne refl)
set_else (x ∷ xs) (suc me) (suc i) w ne = set_else xs me i w (λ e. ne (ap suc e))
set_else _ me i w ne = refl

-- what begins with a list and is no longer is that list
starts_whole : {A : Type 0} (whole seen : List A) → StartsWith whole seen → length whole ≤ length seen → whole ≡ seen
starts_whole whole seen s l =
    let q = ap length s.1 in
    let z : s.0 ≡ [] = nil_from_length s.0 (omega (arith, length-append seen s.0)) in
    s.1 ∙ (ap (λ xs. seen ++ xs) z ∙ append-nil seen)

longer_step : {A : Type 0} (t : Bool) (a b n : List A) → n ≡ cond t b a → StartsWith n b → length a ≤ length b → n ≡ b
longer_step true a b n is begins l = is
longer_step false a b n is begins l = starts_whole n b begins (let q = ap length is in omega arith)

-- the longer of two lists
longer_first : {A : Type 0} (a b n : List A) → n ≡ longer a b → StartsWith n b → length a ≤ length b → n ≡ b
longer_first a b n is begins l = longer_step (nat_lt (length a) (length b)) a b n is begins l

longer_other : {A : Type 0} (a b n : List A) → n ≡ longer a b → StartsWith n b → length b ≤ length a → n ≡ a
longer_other a b n is begins l = is ∙ ap (λ (t : Bool). cond t b a) (le-ltb (length a) (length b) l)

woven_more : (xs ys : List (List Event × Event)) → woven (xs ++ ys) ≡ woven xs ++ woven ys
woven_more [] ys = refl
woven_more (x ∷ xs) ys = ap (λ (zs : List Event). (x.0 ++ x.1 ∷ []) ++ zs) (woven_more xs ys) ∙ sym (append_assoc (x.0 ++ x.1 ∷ []) (woven xs) (woven ys))

told_more : (xs ys : List (List Event × Event)) → told (xs ++ ys) ≡ told xs ++ told ys
told_more [] ys = refl
told_more (x ∷ xs) ys = ap (λ (zs : List Event). x.1 ∷ zs) (told_more xs ys)

woven_length : (xs : List (List Event × Event)) → length (told xs) ≤ length (woven xs)
woven_length [] = omega arith
woven_length (x ∷ xs) = let r = woven_length xs in omega (arith, length-append (x.0 ++ x.1 ∷ []) (woven xs), length-append x.0 (x.1 ∷ []))

-- where nothing came between, the events alone are all
woven_tight : (xs : List (List Event × Event)) → length (woven xs) ≤ length (told xs) → woven xs ≡ told xs
woven_tight [] l = refl
woven_tight (x ∷ xs) l =
    let r = woven_length xs in
    let a = length-append (x.0 ++ x.1 ∷ []) (woven xs) in
    let b = length-append x.0 (x.1 ∷ []) in
    let z : x.0 ≡ [] = nil_from_length x.0 (omega arith) in
    let rest = woven_tight xs (omega arith) in
    ap (λ (ys : List Event). (ys ++ x.1 ∷ []) ++ woven xs) z ∙ ap (λ (ys : List Event). x.1 ∷ ys) rest

module _ {C : Ghosts Served Event} where
  -- ---- nothing yet

  none_own : (seats : List (Seat Served Event C)) → ((k : ℕ) (s : Seat Served Event C) → get_elem? seats k ≡ some s → mine s ≡ []) → sum_by (λ (s : Seat Served Event C). length (mine s)) seats ≡ 0
  none_own [] none = refl
  none_own (s ∷ seats) none = let a = ap length (none 0 s refl) in let b = none_own seats (λ k t e. none (suc k) t e) in omega (arith, sum_by-cons (λ (s : Seat Served Event C). length (mine s)) s seats)

  pub none_made : (db : Db) (seats : List (Seat Served Event C)) → AllNew db seats → 0 < length seats → HasMade 0 seats []
  none_made db [] new one = absurd (omega arith)
  none_made db (s ∷ seats) new one = record {
    steps = [];
    events_are = refl;
    latest = s;
    at = refl;
    sees = (new 0 s refl).unseen;
    behind = λ k t e. let q = ap length (new k t e).unseen in omega arith;
    counted = none_own (s ∷ seats) (λ k t e. (new k t e).idle);
  }

  -- ---- two meet, one of whom called last

  pub met_made : (i j l k : ℕ) (old new : List (Seat Served Event C)) (events : List Event) → i ≢ j → HaveMet i j old new → HasMade l old events → (l ≡ i) ⊎ (l ≡ j) → (k ≡ i) ⊎ (k ≡ j) → HasMade k new events
  met_made i j l k old new events apart met m which to =
      let steps = m.steps in
      let saw : seen met.one' ≡ woven steps = ⊎_elim
      (λ (is : l ≡ i). let same : m.latest ≡ met.one = some-injective m.latest met.one (sym m.at ∙ (ap (get_elem? old) is ∙ met.at_one)) in
      let whole : seen met.one ≡ woven steps = ap seen (sym same) ∙ m.sees in
      let q = ap length whole in let b = m.behind j met.other met.at_other in
      longer_first (seen met.other) (seen met.one) (seen met.one') met.longer_seen met.begins_one (omega arith) ∙ whole)
      (λ (is : l ≡ j). let same : m.latest ≡ met.other = some-injective m.latest met.other (sym m.at ∙ (ap (get_elem? old) is ∙ met.at_other)) in
      let whole : seen met.other ≡ woven steps = ap seen (sym same) ∙ m.sees in
      let q = ap length whole in let b = m.behind i met.one met.at_one in
      longer_other (seen met.other) (seen met.one) (seen met.one') met.longer_seen met.begins_one (omega arith) ∙ whole)
      which in
      let saw' : seen met.other' ≡ woven steps = met.same_seen ∙ saw in
      let mid = set old i met.one' in
      let at_mid : get_elem? mid j ≡ some met.other = set_else old i j met.one' (λ e. apart (sym e)) ∙ met.at_other in
      let fine : (q : ℕ) (s : Seat Served Event C) → get_elem? (set mid j met.other') q ≡ some s → length (seen s) ≤ length (woven steps) = each_set (λ q s. length (seen s) ≤ length (woven steps)) mid j met.other' (let q = ap length saw' in omega arith)
      (λ q s ne e. each_set (λ q s. length (seen s) ≤ length (woven steps)) old i met.one' (let r = ap length saw in omega arith) (λ r t ne' e'. m.behind r t e') q s e) in
      let sum : sum_by (λ (s : Seat Served Event C). length (mine s)) (set mid j met.other') ≡ length events = same_sum (λ (s : Seat Served Event C). length (mine s)) mid j met.other met.other' (length events) at_mid (ap length met.other_mine) (same_sum (λ (s : Seat Served Event C). length (mine s)) old i met.one met.one' (length events) met.at_one (ap length met.one_mine) m.counted) in
      let here : (s : Seat Served Event C) × (get_elem? (set mid j met.other') k ≡ some s) × (seen s ≡ woven steps) = ⊎_elim
      (λ (is : k ≡ i). (met.one', ap (get_elem? (set mid j met.other')) is ∙ (set_else mid j i met.other' apart ∙ set_there old i met.one met.one' met.at_one), saw))
      (λ (is : k ≡ j). (met.other', ap (get_elem? (set mid j met.other')) is ∙ set_there mid j met.other met.other' at_mid, saw'))
      to in
      subst (λ (seats : List (Seat Served Event C)). HasMade k seats events) (sym met.seats) (record {
        steps = steps;
        events_are = m.events_are;
        latest = here.0;
        at = here.1;
        sees = here.2;
        behind = fine;
        counted = sum;
      })

  -- ---- a call of the seat that has seen all

  pub call_made : (first l : ℕ) (seats : List (Seat Served Event C)) (s new : Seat Served Event C) (cmd : Cmd) (event : Event) (events : List Event) → get_elem? seats l ≡ some s → IsAnswered first s cmd event new → HasMade l seats events → HasMade l (set seats l new) (events ++ event ∷ [])
  call_made first l seats s new cmd event events at a m =
      let same : m.latest ≡ s = some-injective m.latest s (sym m.at ∙ at) in
      let step : List Event × Event = (a.between, event) in
      let steps = m.steps ++ step ∷ [] in
      let whole : seen s ≡ woven m.steps = ap seen (sym same) ∙ m.sees in
      let more : woven steps ≡ woven m.steps ++ (a.between ++ event ∷ []) = woven_more m.steps (step ∷ []) ∙ ap (λ (xs : List Event). woven m.steps ++ xs) (append-nil (a.between ++ event ∷ [])) in
      let saw : seen new ≡ woven steps = a.history ∙ (ap (λ (xs : List Event). (xs ++ a.between) ++ event ∷ []) whole ∙ (append_assoc (woven m.steps) a.between (event ∷ []) ∙ sym more)) in
      let grown = ap length more in
      record {
        steps = steps;
        events_are = ap (λ (xs : List Event). xs ++ event ∷ []) m.events_are ∙ sym (told_more m.steps (step ∷ []));
        latest = new;
        at = set_there seats l s new at;
        sees = saw;
        behind = each_set (λ k t. length (seen t) ≤ length (woven steps)) seats l new (let q = ap length saw in omega arith) (λ k t ne e. let b = m.behind k t e in omega (arith, length-append (woven m.steps) (a.between ++ event ∷ [])));
        counted = let q = sum_set (λ (s : Seat Served Event C). length (mine s)) seats l s new at in let o = ap length a.own in let c = m.counted in omega (arith, length-append (mine s) (event ∷ []), length-append events (event ∷ []));
      }

  pub spent_made : (l : ℕ) (seats : List (Seat Served Event C)) (s new : Seat Served Event C) (events : List Event) → get_elem? seats l ≡ some s → IsSpent s new → HasMade l seats events → HasMade l (set seats l new) events
  spent_made l seats s new events at a m =
      let same : m.latest ≡ s = some-injective m.latest s (sym m.at ∙ at) in
      let saw : seen new ≡ woven m.steps = a.keeps.seen ∙ (ap seen (sym same) ∙ m.sees) in
      record {
        steps = m.steps;
        events_are = m.events_are;
        latest = new;
        at = set_there seats l s new at;
        sees = saw;
        behind = each_set (λ k t. length (seen t) ≤ length (woven m.steps)) seats l new (let q = ap length saw in omega arith) (λ k t ne e. m.behind k t e);
        counted = same_sum (λ (s : Seat Served Event C). length (mine s)) seats l s new (length events) at (ap length a.keeps.mine) m.counted;
      }

  pub spent_known : (l : ℕ) (seats : List (Seat Served Event C)) (s new : Seat Served Event C) → get_elem? seats l ≡ some s → IsSpent s new → HasSpent (set seats l new)
  spent_known l seats s new at a = (l, new, set_there seats l s new at, a.met)

  -- ---- all seats are back

  made_all : (db : Db) (seats : List (Seat Served Event C)) (engine : Engine) (l : ℕ) (events : List Event) → (w : IsWhole db seats engine) → HasMade l seats events → w.history ≡ events
  made_all db seats engine l events w m =
      let sees = (w.each l m.latest m.at).sees in
      let total = w.total in
      let counted = m.counted in
      let told_length = ap length m.events_are in
      let least = woven_length m.steps in
      let seen_length = starts_length w.history (seen m.latest) sees in
      let saw_length = ap length m.sees in
      let tight : woven m.steps ≡ told m.steps = woven_tight m.steps (omega arith) in
      starts_whole w.history (seen m.latest) sees (omega arith) ∙ (m.sees ∙ (tight ∙ sym m.events_are))

  pub all_legal : (db : Db) (seats : List (Seat Served Event C)) (engine : Engine) (l : ℕ) (events : List Event) → IsWhole db seats engine → HasMade l seats events → IsHistory (first_of db) events
  all_legal db seats engine l events w m = subst (IsHistory (first_of db)) (made_all db seats engine l events w m) (record { legal = w.legal; gapless = w.gapless; bounded = w.bounded })

  pub all_spent : (db : Db) (seats : List (Seat Served Event C)) (engine : Engine) (l : ℕ) (events : List Event) → IsWhole db seats engine → HasMade l seats events → HasSpent seats → first_of db + length events ≡ most
  all_spent db seats engine l events w m spent = subst (λ (h : List Event). first_of db + length h ≡ most) (made_all db seats engine l events w m) ((w.each spent.0 spent.1 spent.2).spent spent.3)
