-- An event whose sites are not named, and one whose sites are.
use Prim.Native.Nat.{ℕ}
use mathlib.Core.Path.{◌≡◌}
use mathlib.Core.Bool.{true, false}
use mathlib.Core.List.{List}
use Rattle.rig.specs.declared.Desk.{Desk}
use Rattle.rig.specs.declared.Event.{Event}
use Rattle.rig.specs.declared.Message.{Message}
use Rattle.model.specs.Event.{sites_named, refused, outcome, attempt, attempted, judged, event_at}

module _ (accepted : ℕ) (d : Desk) (ms : List Message) (e : Event) where
  pub unnamed : sites_named d.size e ≡ false → event_at accepted d ms e ≡ outcome 4 d ms
  unfolding event_at attempted judged
  unnamed h = rw h

  pub named : sites_named d.size e ≡ true → event_at accepted d ms e ≡ judged accepted d ms (attempt d ms e)
  unfolding event_at attempted
  named h = rw h

module _ (d : Desk) (ms : List Message) (e : Event) where
  pub unnamed-attempt : sites_named d.size e ≡ false → attempted d ms e ≡ refused 4
  unfolding attempted
  unnamed-attempt h = rw h

  pub named-attempt : sites_named d.size e ≡ true → attempted d ms e ≡ attempt d ms e
  unfolding attempted
  named-attempt h = rw h
