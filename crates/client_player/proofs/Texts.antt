-- A whole text, played as one part.
use Prim.Native.Nat.{ℕ, ◌+◌, ◌-◌, ◌≤◌, ◌<◌}
use mathlib.Core.List.{List, [], ◌++◌, append-nil}
use mathlib.Core.Bool.{Bool, true, false}
use mathlib.Core.Logic.{◌⊎◌, ⊎_elim}
use mathlib.Core.Path.{◌≡◌, refl, sym, ap, ◌∙◌}
use native.Mathlib.Omega.{arith}
use lib.ListN.{length, take, drop, length-append, take-append-drop, drop_of_length-le}
use lib.Seq.{take_at, take-length, drop-drop, length-take-le, length-sets, sets-eq}
use Rattle.basics.proofs.Basics.{clash}
use Rattle.player_bytes.specs.Wrote.{Wrote}
use Rattle.player_printing.specs.Printing.{page_length, Printed}
use Rattle.player_text.specs.declared.Stage.{Stage}
use Rattle.player_text.specs.declared.Stage.TheVariants.{Size, Sets, Events, Over}
use Rattle.player_text.specs.Player.{Text, on_end, start, transcript, output}
use Rattle.player_parts.specs.Parts.{Part, reads}
use Rattle.player_parts.proofs.Long.{transcript-over}
use Rattle.player_reading.specs.Reading.{ReadTo, AllOrFull}
use Rattle.player_state.specs.State.{over_at}
use Rattle.client_player.specs.Told.{Tells}
use Rattle.client_player.proofs.Parts.{Goes}

over-stage : (s : Stage) → over_at s ≡ true → s ≡ Over
over-stage Size e = clash false e refl
over-stage Sets e = clash false e refl
over-stage Events e = clash false e refl
over-stage Over e = refl

module _ {u : Text} {cut text out mid : List ℕ} {n at : ℕ} (r : ReadTo start [] text out n u cut at mid) (g : Goes start [] text n u cut at mid) where
  size : length (take at mid) ≡ at
  size = length-take-le at mid r.room

  -- what was written, and what is still to be printed
  printed : output text ≡ take at mid ++ transcript u cut (drop n text)
  unfolding output
  printed = rw (take-append-drop n text) at (g (drop n text))

  at_most : at ≤ length (output text)
  at_most = omega (arith, ap length printed, length-append (take at mid) (transcript u cut (drop n text)), size)

  front : take at (output text) ≡ take at mid
  front = ap (λ (l : List ℕ). take at l) printed ∙ take_at (take at mid) _ at size

  -- the output as the part leaves it
  so_far : mid ≡ take at (output text) ++ drop at out
  so_far =
      sym (take-append-drop at mid)
      ∙ ap (λ (l : List ℕ). take at mid ++ l) r.rest
      ∙ ap (λ (l : List ℕ). l ++ drop at out) (sym front)

  -- it is no shorter than what is written
  inside : at ≤ length out
  inside = let room = r.room in let long = r.long in omega arith

  -- whether the run has ended
  module _ {over : Bool} (asked : over ≡ over_at u.stage) where
    told : over ≡ over_at (reads start [] (take n text)).next.stage
    told = asked ∙ sym (ap (λ (p : Part). over_at p.next.stage) r.part)

    -- It has: nothing more is printed.
    pub tells-over : over ≡ true → Tells text out mid (record { taken = n; written = at; over = over; whole = true })
    tells-over e =
        let none = transcript-over u cut (drop n text) (over-stage u.stage (sym asked ∙ e)) in
        record {
          printed = so_far;
          long = r.long;
          room = inside;
          over = told;
          within = r.within;
          read = λ f. clash true refl f;
          whole = λ _. sym (ap length (printed ∙ ap (λ (l : List ℕ). take at mid ++ l) none ∙ append-nil (take at mid)) ∙ size);
          all = λ _ f. clash over e f;
          enough = λ _. refl;
        }

    -- The output is too short.
    pub tells-short : AllOrFull text out n at → (n < length text) ⊎ (length mid - at < page_length)
        → Tells text out mid (record { taken = n; written = at; over = over; whole = false })
    tells-short full why = record {
      printed = so_far;
      long = r.long;
      room = inside;
      over = told;
      within = r.within;
      read = λ _. ap (λ (p : Part). p.said) r.part ∙ sym front;
      whole = λ e. clash false e refl;
      all = λ e. clash false e refl;
      enough = λ h. let few = at_most in let long = r.long in ⊎_elim (λ w. let f = full w in absurd (omega arith)) (λ w. absurd (omega arith)) why;
    }

    -- The end of the input is reached, and what it prints is copied behind the rest.
    pub tells-end : {page page' after : List ℕ} {k end : ℕ} → (n < length text → ⊥) → at + page_length ≤ length mid → k ≤ page_length
        → Printed (on_end u cut) page page' k → Wrote (take k page') at mid after end
        → Tells text out after (record { taken = n; written = end; over = over; whole = true })
    unfolding transcript
    tells-end {page} {page'} {after} {k} {end} all room few p w =
        let none : drop n text ≡ [] = drop_of_length-le text {i = n} (omega (arith, all)) in
        let bytes = take k page' in
        let whole : output text ≡ take at mid ++ bytes = printed ∙ ap (λ (l : List ℕ). take at mid ++ transcript u cut l) none ∙ ap (λ (l : List ℕ). take at mid ++ l) (sym p.text) in
        let count : length bytes ≡ k = ap length p.text ∙ sym p.count in
        let behind : end ≡ length (output text) = w.behind ∙ sym (ap length whole ∙ length-append (take at mid) bytes ∙ ap (λ (i : ℕ). i + length bytes) size) in
        let stored : after ≡ output text ++ drop (at + length bytes) mid =
        w.stored ∙ sets-eq bytes mid at (omega arith) ∙ ap (λ (l : List ℕ). l ++ drop (at + length bytes) mid) (sym whole) in
        let same : take end (output text) ≡ output text = rw behind (take-length (output text)) in
        let rest : drop (at + length bytes) mid ≡ drop (at + length bytes) out =
        sym (drop-drop (length bytes) at mid) ∙ ap (λ (l : List ℕ). drop (length bytes) l) r.rest ∙ drop-drop (length bytes) at out in
        record {
          printed = stored ∙ ap (λ (l : List ℕ). output text ++ l) (rest ∙ ap (λ (i : ℕ). drop i out) (sym w.behind)) ∙ ap (λ (l : List ℕ). l ++ drop end out) (sym same);
          long = ap length w.stored ∙ length-sets mid at bytes ∙ r.long;
          room = let long = r.long in omega (arith, w.behind, count);
          over = told;
          within = r.within;
          read = λ f. clash true refl f;
          whole = λ _. behind;
          all = λ _ _. let within = r.within in omega (arith, all);
          enough = λ _. refl;
        }
