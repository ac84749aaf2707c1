-- A follower that stopped, once what is kept was written.
use Rattle.std.proofs.Common.{◌≡◌, ◌≢◌, ℕ, ◌+◌, Bool, List, [], ◌++◌, refl, sym, ap, ◌∙◌, subst, arith, append-nil, inl, inr}
use Rattle.follow.proofs.Common.{HasTaken, Message, Reads, Writes}
use Rattle.sessions.proofs.Transcripts.{begun_on, taken_before, taken_on}
use Rattle.follow.specs.declared.ending.FollowEnd.{FollowEnd}
use Rattle.follow.specs.declared.ending.FollowEnd.TheVariants as ends
use Rattle.follow.specs.declared.options.FollowOptions.{FollowOptions}
use Rattle.follow.specs.declared.fault.FollowError.{FollowError}
use Rattle.follow.specs.declared.fault.FollowError.TheVariants as errors
use Rattle.follow.specs.Following.{IsUnbegun, followed_at}
use Rattle.follow.specs.Ends.{ComesBy, CouldBegin, EndsBy, FailsAt, HasLine, IsFollowed, IsOwed, last_line}
use Rattle.follow.specs.Steps.{EndsWritten, IsStopped, end_by}

module _ (o : FollowOptions) (input : List ℕ) (ended : Bool) (ms : List Message) where
  -- all that is owed was written
  owed_at : (e : FollowEnd) (output : List ℕ) → e ≢ ends.Output → IsOwed o input ended ms e output → EndsBy o input ended ms output e
  owed_at ends.Output output ne owed = absurd (ne refl)
  owed_at _ output ne owed = owed

  -- memory is wanted for the line of the end
  unlined : (e : FollowEnd) (r r' : Reads) (w w' : Writes) → HasLine e → ComesBy o input ended ms e → FailsAt e r w r' w' → ComesBy o input ended ms ends.Memory × FailsAt ends.Memory r w r' w' × (e ≢ ends.Output)
  unlined (ends.Fault line fault) r r' w w' lined (inl begun) f = (inl begun.1, f, λ is. cc)
  unlined (ends.Fault line fault) r r' w w' lined (inr stop) f = (inr (inr (inl (line, fault, stop))), f, λ is. cc)
  unlined ends.Spent r r' w w' lined endless f = (inr (inl endless), f, λ is. cc)
  unlined _ r r' w w' lined comes f = absurd lined

-- all that was left is written, and no write fails
fails_still : (e : FollowEnd) (r r' : Reads) (w w' w'' : Writes) → w''.failures ≡ w'.failures → FailsAt e r w r' w' → FailsAt e r w r' w''
fails_still ends.Output r r' w w' w'' same f = (f.0, f.1, same ∙ f.2)
fails_still _ r r' w w' w'' same f = (f.0, same ∙ f.1)

-- one write more fails
fails_more : (e : FollowEnd) (r r' : Reads) (w w' w'' : Writes) → e ≢ ends.Output → w''.failures ≡ w'.failures + 1 → FailsAt e r w r' w' → FailsAt ends.Output r w r' w''
fails_more ends.Output r r' w w' w'' ne more f = absurd (ne refl)
fails_more _ r r' w w' w'' ne more f = let a = f.0 in let b = f.1 in (omega arith, omega arith, omega arith)

module _ (o : FollowOptions) (r r' : Reads) (w w' : Writes) (kept : List ℕ) (e : FollowEnd) (s : IsStopped o r r' w w' kept e) where
  followed_by : (e' : FollowEnd) (w'' : Writes) (output : List ℕ) → w''.taken ≡ w.taken ++ output → EndsBy o s.over.input r'.ended s.messages output e' → FailsAt e' r w r' w'' → IsFollowed o r r' w w'' e'
  followed_by e' w'' output wrote ends failed = record { messages = s.messages; input = s.over.input; read = s.over.read; output = output; wrote = wrote; begins = s.over.begins; ends = ends; failed = failed }

  -- a write has failed before
  pub followed_cut : e ≡ ends.Output → IsFollowed o r r' w w' ends.Output
  followed_cut is =
      let t = s.told.2 in
      followed_by ends.Output w' t.part t.took (ends.Output, s.told.0 ++ [], (tt, (s.told.0, s.told.1, refl)), (s.rest, append-nil s.told.0 ∙ t.left)) (subst (λ (x : FollowEnd). FailsAt x r w r' w') is s.failed)

  -- what was left, and the line of an end, is written, or a write fails
  told_by : (kept' : List ℕ) (w'' : Writes) (end e' : FollowEnd) → e ≢ ends.Output → end ≢ ends.Output → kept' ≡ kept ++ last_line end → ComesBy o s.over.input r'.ended s.messages end → FailsAt end r w r' w' → EndsWritten kept' end w' w'' e' → IsFollowed o r r' w w'' e'
  told_by kept' w'' end e' ne ne' keeps comes failed written =
      let told = s.told.0 in let whole = told ++ last_line end in
      let t : HasTaken w.taken w'.taken whole kept' = subst (HasTaken w.taken w'.taken whole) (ap (λ (xs : List ℕ). xs ++ last_line end) (s.keeps ne) ∙ sym keeps) (taken_before w.taken w'.taken told s.rest (last_line end) s.told.2) in
      elim written [
        | inl y ↦
            let all = taken_on w.taken w'.taken w''.taken whole kept' [] t y.1 in
            subst (IsFollowed o r r' w w'') (sym y.0)
            (followed_by end w'' all.part all.took (owed_at o s.over.input r'.ended s.messages end all.part ne' (comes, (told, s.told.1, sym (all.left ∙ append-nil all.part)))) (fails_still end r r' w w' w'' y.2 failed))
        | inr y ↦
            let b = begun_on w.taken w'.taken w''.taken whole kept' t y.1 in
            subst (IsFollowed o r r' w w'') (sym y.0)
            (followed_by ends.Output w'' b.1.part b.1.took (end, whole, (comes, (told, s.told.1, refl)), (b.0, b.1.left)) (fails_more end r r' w w' w'' ne' y.2 failed))
      ]

  pub followed_told : (kept' : List ℕ) (w'' : Writes) (e' : FollowEnd) → e ≢ ends.Output → kept' ≡ kept ++ last_line e → EndsWritten kept' e w' w'' e' → IsFollowed o r r' w w'' e'
  followed_told kept' w'' e' ne keeps written = told_by kept' w'' e e' ne ne keeps s.over.comes s.failed written

  -- or memory is wanted for that line
  pub followed_unlined : (kept' : List ℕ) (w'' : Writes) (e' : FollowEnd) → HasLine e → kept' ≡ kept → EndsWritten kept' ends.Memory w' w'' e' → IsFollowed o r r' w w'' e'
  followed_unlined kept' w'' e' lined same written =
      let y = unlined o s.over.input r'.ended s.messages e r r' w w' lined s.over.comes s.failed in
      told_by kept' w'' ends.Memory e' y.2 (λ is. cc) (same ∙ sym (append-nil kept)) y.0 y.1 written

-- ---- nothing was begun

module _ (o : FollowOptions) (r : Reads) (w : Writes) where
  stopped_nothing : (e : FollowEnd) (kept : List ℕ) → kept ≡ [] → ComesBy o [] r.ended [] e → FailsAt e r w r w → IsStopped o r r w w kept e
  stopped_nothing e kept none comes failed = record {
    messages = [];
    over = record { input = []; read = sym (append-nil r.given); begins = λ whole may. ((followed_at o whole).messages, refl); comes = comes };
    rest = kept;
    told = ([], refl, record { part = []; took = sym (append-nil w.taken); left = sym none });
    keeps = λ ne. refl;
    failed = failed;
  }

  -- memory is wanted
  pub followed_memory : IsFollowed o r r w w ends.Memory
  followed_memory = followed_told o r r w w [] ends.Memory (stopped_nothing ends.Memory [] refl (inl refl) (refl, refl)) [] w ends.Memory (λ is. cc) refl (inl (refl, record { part = []; took = sym (append-nil w.taken); left = refl }, refl))

  -- the replica can't begin
  pub stopped_unbegun : (error : FollowError) (kept : List ℕ) → kept ≡ [] → IsUnbegun o.span o.start error → IsStopped o r r w w kept (end_by 0 error)
  stopped_unbegun (errors.Fault fault) kept none why = stopped_nothing (ends.Fault 0 fault) kept none (inl (refl, refl, refl, why)) (refl, refl)
  stopped_unbegun errors.NoMemory kept none why = stopped_nothing ends.Memory kept none (inl refl) (refl, refl)

  pub could_unbegun : (error : FollowError) → CouldBegin o r r (end_by 0 error)
  could_unbegun (errors.Fault fault) = tt
  could_unbegun errors.NoMemory = inl refl

  -- a write that fails changes nothing of that
  pub could_written : (e e' : FollowEnd) (w' w'' : Writes) (bytes : List ℕ) → EndsWritten bytes e w' w'' e' → CouldBegin o r r e → CouldBegin o r r e'
  could_written e e' w' w'' bytes (inl t) could = subst (CouldBegin o r r) (sym t.0) could
  could_written e e' w' w'' bytes (inr t) could = subst (CouldBegin o r r) (sym t.0) (inl refl)
