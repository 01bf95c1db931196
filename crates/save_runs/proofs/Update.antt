-- A show of the version before: beside each of its states stands one of a run in which fails lose their numbers, and its text is the one of this version.
use mathlib.Core.Path.{◌≡◌, refl, sym, ◌∙◌, ap}
use mathlib.Core.Bool.{true}
use mathlib.Core.List.{List, [], ◌∷◌, ◌++◌}
use mathlib.Core.Option.{some}
use borrow.Author.Tests.{eq-eqb}
use Rattle.rig.specs.Limits.{message_limit}
use Rattle.model.specs.State.{Stored}
use Rattle.model.specs.Shape.{well_shaped}
use Rattle.model.specs.Run.{fresh, Sound}
use Rattle.model.specs.Losses.{lost, lost_all, Move, run_with_losses, SoundWithLosses, ShapedWithLosses}
use Rattle.model.proofs.Shaped.{shaped}
use Rattle.model.proofs.Reached.{moves-append}
use Rattle.model.proofs.Theorem.{sound-with-losses}
use Rattle.model.proofs.Always.{shaped-with-losses}
use Rattle.model_earlier.specs.Claims.{Unnumbered, EarlierShaped}
use Rattle.model_earlier.proofs.Shapes.{earlier-shaped}
use Rattle.model_earlier.proofs.Runs.{event-moves, event-unnumbered}
use Rattle.save_text.specs.Text.{text_in, first_spelling}
use Rattle.save_text.specs.Reading.{read_text}
use Rattle.save_text.specs.Calls.{or_refused, read_into}
use Rattle.save_text.specs.Claims.{kept, ReadBack, WrittenBack, FirstSpelled}
use Rattle.save_text.proofs.ReadBack.{read_back, written_back}
use Rattle.save_text.proofs.FirstSpelled.{first-spelled}
use Rattle.save_runs.specs.Breaks.{moves_in, SameState}
use Rattle.save_runs.specs.Update.{EarlierRead, EarlierAct, plays, pauses, earlier_after, earlier_run, UpdateSound}
use Rattle.save_runs.proofs.Same.{same-trans, sound-same, shaped-same}
use Rattle.save_runs.proofs.Sizes.{fresh-state}
use Rattle.save_runs.proofs.Breaks.{kept_same, kept-long, Beside, beside-state, self-beside, moves-beside, breaks-beside}

-- Its texts

pub earlier-read : EarlierRead
unfolding EarlierRead EarlierShaped ReadBack WrittenBack FirstSpelled
earlier-read s h m e =
    let (w, u) = earlier-shaped s m e in
    let text = first-spelled s w u in
    let read : read_text (text_in first_spelling s) ≡ some (kept s) = rw text (read_back s h w) in
    (read, (written_back _ _ read).1)

-- Its runs

module _ (start : Stored) (shapes : (moves : List Move) → well_shaped (run_with_losses start moves) ≡ true) where
  record Covered (s : Stored) : Type 0 where
    pub moves : List Move
    pub beside : Beside s (run_with_losses start moves)
    pub unnumbered : Unnumbered s

  covered-shaped : {s : Stored} → Covered s → well_shaped s ≡ true
  covered-shaped c = shaped-same c.beside.same ∙ shapes c.moves

  kept-beside : {s : Stored} → (c : Covered s) → SameState (kept s) (run_with_losses start c.moves)
  kept-beside {s} c = same-trans (kept_same s (beside-state c.beside) (covered-shaped c)) c.beside.same

  after-covered : (a : EarlierAct) {s : Stored} → Covered s → Covered (earlier_after s a)
  unfolding earlier_after
  after-covered (plays e) {s} c =
      let minimal = (shaped s (covered-shaped c)).minimal in
      let (more, same) = event-moves s e minimal c.unnumbered in
      record {
        moves = c.moves ++ more;
        beside = rw (same, moves-append start c.moves more) (moves-beside more c.beside);
        unnumbered = event-unnumbered s e minimal c.unnumbered;
      }
  after-covered pauses {s} c =
      let state = beside-state c.beside in
      let same = kept_same s state (covered-shaped c) in
      record {
        moves = c.moves;
        beside = record { same = kept-beside c; state = c.beside.state; long = kept-long s state };
        unnumbered = ap lost_all same.messages ∙ c.unnumbered ∙ sym same.messages;
      }

  run-covered : (acts : List EarlierAct) {s : Stored} → Covered s → Covered (earlier_run s acts)
  unfolding earlier_run
  run-covered [] c = c
  run-covered (a ∷ acts) c = run-covered acts (after-covered a c)

pub update-sound : UpdateSound
unfolding UpdateSound SoundWithLosses ShapedWithLosses ReadBack FirstSpelled read_into or_refused fresh run_with_losses lost
update-sound n sets list earlier lent acts e long lent_long =
    let start = fresh n sets list in
    let shapes : (moves : List Move) → well_shaped (run_with_losses start moves) ≡ true = λ moves. shaped-with-losses n sets list moves e in
    let c = run-covered start shapes earlier (record { moves = []; beside = self-beside start (fresh-state n sets list e long); unnumbered = refl }) in
    let s = earlier_run start earlier in
    let state = beside-state c.beside in
    let w = covered-shaped start shapes c in
    let same = kept-beside start shapes c in
    let after = (breaks-beside acts (record { same = same; state = c.beside.state; long = kept-long s state })).0 in
    let whole : Sound (run_with_losses (run_with_losses start c.moves) (moves_in acts)) = rw (← moves-append start c.moves (moves_in acts)) (sound-with-losses n sets list (c.moves ++ moves_in acts) e) in
    (rw (first-spelled s w c.unnumbered, eq-eqb _ message_limit lent_long, read_back s state w), (c.moves, same), sound-same after.same whole)
