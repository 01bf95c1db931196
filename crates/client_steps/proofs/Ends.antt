-- Why a stretch of events ended.
use Prim.Native.Nat.{ℕ, ◌-◌, ◌≤◌}
use mathlib.Core.List.{List}
use mathlib.Core.Logic.{inr, ⊎_elim}
use mathlib.Core.Path.{◌≡◌, ap, ◌∙◌}
use native.Mathlib.Omega.{arith}
use borrow.Author.Tests.{leb-true, leb-false}
use lib.Dec.{leb}
use lib.ListN.{length}
use lib.Seq.{length-sets}
use Rattle.player_printing.specs.Printing.{page_length}
use Rattle.player_text.specs.declared.Player.{Player}
use Rattle.player_text.specs.declared.Stage.TheVariants.{Over}
use Rattle.player_events.specs.declared.Stretch.{Stretch}
use Rattle.player_events.specs.Stretches.{Stretches}
use Rattle.client_steps.specs.Ends.{EndsAt}

pub ends_at : {p : Player} {ts ts' : List (List (List ℕ))} {rows rows' : List (List ℕ)} {bytes out after : List ℕ} {from at : ℕ} {r : Stretch}
    → Stretches p ts ts' rows rows' bytes from out after at r → (r.player.stage ≡ Over → ⊥)
    → EndsAt bytes out (record { stretch = r; done = leb page_length (length after - r.at) })
ends_at {out = out} {after = after} {r = r} s goes =
    let long : length after ≡ length out = ap length s.plays.printed.stored ∙ simp length-sets in
    let room = s.room in
    record {
      done = λ e. let d : page_length ≤ length after - r.at = leb-true _ _ e in ⊎_elim (λ w. w) (λ w. absurd (⊎_elim goes (λ f. omega arith) w)) s.ends;
      cut = λ e. let d = leb-false page_length (length after - r.at) e in inr (omega arith);
    }
