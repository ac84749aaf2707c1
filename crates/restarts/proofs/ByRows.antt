-- The commands of a dump are those of its rows, one after the other.
use Rattle.restarts.proofs.Common.{After, Close, Cmd, Collect, Commit, Effect, IsIn, IsRowIn, Row, by_test, common_steps, has_in, has_written, horizon_of, in_span, in_stream, is_committed, is_dead, left_version_of, nat_tests, rows_of, stream_of, version_name, write_of, write_set, written_value}
use Rattle.std.proofs.Common.{◌≡◌, ℕ, zero, suc, ◌<◌, Bool, true, false, not, cond, ◌&&◌, List, [], ◌∷◌, ◌++◌, map, Option, Some, None, refl, sym, ◌∙◌, ap, inl, inr, arith, append_assoc}
use Rattle.std.proofs.lemmas.List.Elements.{filter-append}
use Rattle.std.proofs.lemmas.List.{append-nil}
use Rattle.std.specs.Prelude.{filter, is_some, nat_lt}
use Rattle.restarts.specs.Dump.{end_steps, left_keys, transaction_steps, versions_through, write_step, write_steps, all_keys, commands_by_row, dump_commands, ended, is_left, is_open, left_rows, row_commands, started}
use Rattle.restarts.specs.Running.{Step}
use Rattle.restarts.proofs.Rebuilding.{none_kept}

-- a row of t
abbrev row : List Effect → ℕ → List ℕ → Row
row p t x = record { ts = t; key = x; after = written_value (write_of p t x) }

abbrev commands_of : List Step → List Cmd
commands_of steps = map (λ (s : Step). s.0) steps

commands_append : (xs ys : List Step) → commands_of (xs ++ ys) ≡ commands_of xs ++ commands_of ys
commands_append [] ys = refl
commands_append (x ∷ xs) ys = ap (λ l. x.0 ∷ l) (commands_append xs ys)

-- the rows of a transaction that is open
rows_open : (p : List Effect) (t : ℕ) (keys : List (List ℕ)) → row_commands (Some t) (map (row p t) keys) ≡ commands_of (write_steps p t keys) ++ Commit t ∷ []
rows_open p t [] = refl
rows_open p t (x ∷ keys) = grind (arith, common_steps, rows_open p t keys)

-- and of one that comes behind others
abbrev IsOther : Option ℕ → ℕ → Type 0
IsOther o t = is_open o t ≡ false

rows_behind : (p : List Effect) (t : ℕ) (keys : List (List ℕ)) (o : Option ℕ) (rows : List Row) → IsOther o t → ((r : Row) → IsRowIn r rows → r.ts < t)
    → row_commands o (rows ++ map (row p t) keys) ≡ row_commands o rows ++ commands_of (transaction_steps p t keys)
rows_behind p t [] o [] other below = sym (append-nil (ended o))
rows_behind p t (x ∷ keys) o [] other below = grind (arith, common_steps, rows_open, commands_append)
rows_behind p t keys o (r ∷ rows) other below =
    let low : r.ts < t = below r (inl refl) in
    let next : IsOther (Some r.ts) t = grind (arith, nat_tests) in
    ap (λ l. started o r.ts ++ (write_step r.ts r.key r.after).0 ∷ l) (rows_behind p t keys (Some r.ts) rows next (λ q i. below q (inr i)))
    ∙ sym (append_assoc (started o r.ts) ((write_step r.ts r.key r.after).0 ∷ row_commands (Some r.ts) rows) (commands_of (transaction_steps p t keys)))

-- ---- the rows of one timestamp

all_of_keys : (xs : List (List ℕ)) → filter (in_span all_keys) xs ≡ xs
all_of_keys [] = refl
all_of_keys (x ∷ xs) = ap (λ l. x ∷ l) (all_of_keys xs)

left_of_rows : (p : List Effect) (t : ℕ) (xs : List (List ℕ)) → filter (is_left p) (map (row p t) xs) ≡ map (row p t) (filter (λ x. not (is_dead p (version_name x t))) xs)
left_of_rows p t [] = refl
left_of_rows p t (x ∷ xs) = grind (arith, common_steps, left_of_rows p t xs)

-- where t has committed, a key that it wrote is left exactly where its version isn't dead
live_keys : (p : List Effect) (t : ℕ) → is_committed p t ≡ true → (xs : List (List ℕ)) → ((x : List ℕ) → IsIn x xs → is_some (write_of p t x) ≡ true)
    → filter (λ x. not (is_dead p (version_name x t))) xs ≡ filter (λ x. is_some (left_version_of p x t)) xs
live_keys p t done [] wrote = refl
live_keys p t done (x ∷ xs) wrote =
    grind (arith, common_steps, done, wrote x (inl refl), live_keys p t done xs (λ y i. wrote y (inr i)))

timestamp_rows : (p : List Effect) (t : ℕ) → filter (is_left p) (cond (nat_lt 0 (suc t) && is_committed p (suc t)) (rows_of p all_keys (suc t)) []) ≡ map (row p (suc t)) (left_keys p (suc t))
timestamp_rows p t = by_test (is_committed p (suc t))
    (λ done. let some : nat_lt 0 (suc t) ≡ true = grind (arith, nat_tests) in
    ap (λ b. filter (is_left p) (cond b (rows_of p all_keys (suc t)) [])) (ap (λ b. nat_lt 0 (suc t) && b) done ∙ ap (λ b. b && true) some)
    ∙ ap (λ ks. filter (is_left p) (map (row p (suc t)) ks)) (all_of_keys (write_set p (suc t)))
    ∙ left_of_rows p (suc t) (write_set p (suc t))
    ∙ ap (map (row p (suc t))) (live_keys p (suc t) done (write_set p (suc t)) (λ x i. sym (has_written p (suc t) x) ∙ (has_in x (write_set p (suc t))).0 i)))
    (λ undone. rw undone (grind (arith, common_steps))
    ∙ sym (ap (map (row p (suc t))) (none_kept p (suc t) undone (write_set p (suc t)))))

-- ---- all of them

filtered_in : (q : Row → Bool) (r : Row) (rows : List Row) → IsRowIn r (filter q rows) → IsRowIn r rows
filtered_in q r [] i = i
filtered_in q r (s ∷ rows) i = grind (arith, common_steps, filtered_in q r rows)

rows_are : (p : List Effect) (m : ℕ) → row_commands None (left_rows p m) ≡ commands_of (versions_through p m)
rows_are p zero = refl
rows_are p (suc t) =
    let now : List Row = cond (nat_lt 0 (suc t) && is_committed p (suc t)) (rows_of p all_keys (suc t)) [] in
    ap (row_commands None) (filter-append (is_left p) (stream_of p all_keys 0 t) now ∙ ap (λ l. left_rows p t ++ l) (timestamp_rows p t))
    ∙ rows_behind p (suc t) (left_keys p (suc t)) None (left_rows p t) refl (λ r i. let s = (in_stream p all_keys 0 t r).0 (filtered_in (is_left p) r (stream_of p all_keys 0 t) i) in omega (arith, s.low))
    ∙ ap (λ l. l ++ commands_of (transaction_steps p (suc t) (left_keys p (suc t)))) (rows_are p t)
    ∙ sym (commands_append (versions_through p t) (transaction_steps p (suc t) (left_keys p (suc t))))

pub by_row : (p : List Effect) (m : ℕ) → commands_by_row p m ≡ dump_commands p m
by_row p m = ap (λ l. l ++ Close m ∷ Collect (horizon_of p) ∷ []) (rows_are p m) ∙ sym (commands_append (versions_through p m) (end_steps p m))
