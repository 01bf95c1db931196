-- What the calls print that play a text and save.
use Prim.Native.Nat.{ℕ}
use mathlib.Core.Bool.{true, false}
use mathlib.Core.List.{List, [], ◌∷◌, ◌++◌, append-nil}
use mathlib.Core.Path.{◌≡◌, refl, sym, ap, ◌∙◌}
use lib.ListN.{take}
use Rattle.basics.proofs.Basics.{clash}
use Rattle.player_text.specs.declared.Stage.{Stage}
use Rattle.player_text.specs.declared.Stage.TheVariants.{Size, Sets, Events, Over}
use Rattle.player_text.specs.Player.{Text}
use Rattle.player_text.proofs.Start.{begins-at-start}
use Rattle.player_parts.specs.Parts.{Part, reads}
use Rattle.player_parts.proofs.Long.{reads_over}
use Rattle.player_parts.proofs.Loop.{reads_more}
use Rattle.player_state.specs.declared.Playing.{Playing}
use Rattle.player_state.specs.State.{known, cut_line, first_playing, over_at}
use Rattle.player_whole.specs.Whole.{Call, read_by, written_by, WholeTextFrom}
use Rattle.player_whole.proofs.Whole.{whole-text-from}
use Rattle.state_text.specs.State.{last_line, at_end, saved_at, saved, save_prints, save_from_prints, play_from_prints}
use Rattle.state_text.specs.Whole.{PartCall, PartsInOrder, SavedAtEnd, SavedAtStop, SavePrinted, SaveFromPrinted, PlayFromPrinted}
use Rattle.state_text.proofs.LastLines.{reads-prints, last_line_lem}

abbrev part : List ℕ → Text → List ℕ → Part
part said next line = record { said = said; next = next; line = line }

-- the calls together read one part
all_read : (s t : Playing) (calls : List Call) → PartsInOrder s calls t → reads (known s) (cut_line s) (read_by calls) ≡ part (written_by calls) (known t) (cut_line t)
unfolding PartsInOrder read_by written_by reads
all_read s t [] e = rw e
all_read s t (c ∷ cs) h =
    reads_more (known s) (cut_line s) (take c.answer.taken c.given) (read_by cs)
    ∙ rw (h.0, all_read c.answer.playing t cs h.1)

-- at a stage that is not the last
at-end : (stage : Stage) (r : Part) → over_at stage ≡ false → saved_at stage r ≡ at_end r.next r.line
unfolding saved_at
at-end Size r e = refl
at-end Sets r e = refl
at-end Events r e = refl
at-end Over r e = clash true refl e

at-stop : (stage : Stage) (r : Part) → over_at stage ≡ true → saved_at stage r ≡ last_line r.said
unfolding saved_at
at-stop Size r e = clash false e refl
at-stop Sets r e = clash false e refl
at-stop Events r e = clash false e refl
at-stop Over r e = refl

is-over : (stage : Stage) → over_at stage ≡ true → stage ≡ Over
is-over Size e = clash false e refl
is-over Sets e = clash false e refl
is-over Events e = clash false e refl
is-over Over e = refl

-- a text of which the whole is one part
saved-part : (p : Text) (text : List ℕ) (r : Part) → reads p [] text ≡ r → saved p text ≡ saved_at r.next.stage r
unfolding saved
saved-part p text r e = rw e

pub saved-at-end : SavedAtEnd
unfolding SavedAtEnd
saved-at-end s t calls cut order goes =
    let r = part (written_by calls) (known t) (cut_line t) in
    sym (saved-part (known s) (read_by calls) r (rw cut at (all_read s t calls order)) ∙ at-end t.player.stage r goes)

-- the same behind a call that ends the run, whatever follows
stopped-part : (t : Playing) (c : Call) (rest : List ℕ) → PartCall t c → over_at c.answer.playing.player.stage ≡ true
    → (line : List ℕ) × (reads (known t) (cut_line t) (take c.answer.taken c.given ++ rest) ≡ part (take c.answer.written c.out.exit.now) (known c.answer.playing) line)
stopped-part t c rest call over =
    let q = known c.answer.playing in
    let l = cut_line c.answer.playing in
    let o = reads_over q l rest (is-over q.stage over) in (
      (reads q l rest).line,
      reads_more (known t) (cut_line t) (take c.answer.taken c.given) rest
          ∙ rw (call, o.0, o.1, append-nil (take c.answer.written c.out.exit.now)),
    )

pub saved-at-stop : SavedAtStop
unfolding SavedAtStop
saved-at-stop s t calls c rest cut order goes call over =
    let given = take c.answer.taken c.given in
    let wrote = take c.answer.written c.out.exit.now in
    let last = stopped-part t c rest call over in
    let r = part (written_by calls ++ wrote) (known c.answer.playing) last.0 in
    let whole : reads (known s) [] (read_by calls ++ (given ++ rest)) ≡ r =
    rw cut at (reads_more (known s) (cut_line s) (read_by calls) (given ++ rest)) ∙ rw (rw cut at (all_read s t calls order), last.1) in
    let first = reads-prints (known s) [] (read_by calls) in
    let here = reads-prints (known t) (cut_line t) given in
    sym (saved-part (known s) (read_by calls ++ (given ++ rest)) r whole
    ∙ (at-stop c.answer.playing.player.stage r over
    ∙ last_line_lem (written_by calls) wrote (rw (rw cut at (all_read s t calls order)) at first.whole) (rw call at (here.stops goes) over)))

-- The commands.
pub save-printed : SavePrinted
unfolding SavePrinted SavedAtEnd save_prints
save-printed t calls order goes = saved-at-end first_playing t calls refl order goes ∙ ap (λ (p : Text). saved p (read_by calls)) begins-at-start

pub save-from-printed : SaveFromPrinted
unfolding SaveFromPrinted SavedAtEnd save_from_prints
save-from-printed s p t calls e cut order goes = saved-at-end p t calls cut order goes ∙ rw e

pub play-from-printed : PlayFromPrinted
unfolding PlayFromPrinted WholeTextFrom play_from_prints
play-from-printed s p t calls e cut order = whole-text-from p calls t order ∙ rw (e, cut)
