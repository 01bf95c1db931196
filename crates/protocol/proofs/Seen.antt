-- What one arbiter sees of an ask and of a leave, and of the whole rig.
use Prim.Native.Nat.{ℕ, suc}
use mathlib.Core.Bool.{false, not, ◌&&◌, cond}
use lib.Dec.{eqb}
use Rattle.basics.specs.Helpers.{update}
use Rattle.protocol.specs.Ask.{Ask}
use Rattle.protocol.specs.Message.{request, reply, release, hand_over}
use Rattle.protocol.specs.Setting.{Setting, SettingLaw}
use Rattle.protocol.specs.Local.{REST, WAITING, View, view, send, with_sites, without_entry}
use Rattle.protocol.specs.System.{System, Lawful, setting_of}
use Rattle.protocol.specs.Rig.{Rig, messages_of, local_at}

module _ (p : Setting) where
  -- site k makes the ask a
  unfoldable pub ask_seen : View → ℕ → Ask → View
  ask_seen v k a =
      let t = v.tables in
      let w = view (without_entry (with_sites t (update t.mode k WAITING) (update t.ask k a) (update t.failed k false)) k) v.messages in
      cond (p.member k) (send w (request k a)) w

  -- site k leaves
  unfoldable pub leave_seen : View → ℕ → View
  leave_seen v k =
      let t = v.tables in
      let w = view (without_entry (with_sites t (update t.mode k REST) t.ask t.failed) k) v.messages in
      let n = t.held k in
      let x = t.heir k in
      cond (p.member k && not (eqb n 0))
      (cond (eqb x 0) (send w (release k n)) (send (send w (reply k x (suc n))) (hand_over k x n)))
      w

-- arbiter j's part of the rig, with its messages
abbrev pub view_of : Rig → ℕ → View
view_of r j = view (local_at r j) (messages_of j r.under_way)

-- the laws of a lawful system, for arbiter j
abbrev pub law-of : (y : System) → Lawful y → (j : ℕ) → SettingLaw (setting_of y j)
law-of y l j = record { site_in_range = λ k. l.site_in_range k j; arbiter_in_range = λ k. l.member_in_range k j; irreflexive = l.irreflexive; transitive = l.transitive; total = l.total }
