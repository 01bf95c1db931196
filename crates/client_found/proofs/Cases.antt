-- What a delivery leaves, by the case of the search's answer.
use Prim.Native.Nat.{ℕ}
use mathlib.Core.List.{List, []}
use mathlib.Core.Path.{◌≡◌, refl, ◌∙◌}
use lib.ListN.{get_or, take}
use Rattle.rig.specs.declared.Site.{Site}
use Rattle.rig.specs.declared.Arbiter.{Arbiter}
use Rattle.rig.specs.declared.Desk.{Desk}
use Rattle.rig.specs.declared.Message.{Message}
use Rattle.rig.specs.Limits.{HELD, HEIR, INQUIRED, QUEUED}
use Rattle.model.specs.Event.{judged}
use Rattle.model.proofs.Tables.{put_self}
use Rattle.list_rows.specs.State.{Lent}
use Rattle.list_search.specs.declared.Found.{Found}
use Rattle.list_search.specs.declared.Found.TheVariants.{At, Nowhere}
use Rattle.list_search.specs.Places.{found_in}
use Rattle.event_desks.specs.Parts.{desk_at}
use Rattle.event_storing.specs.declared.Done.{Done}
use Rattle.event_storing.specs.Leaves.{Leaves, messages_in}
use Rattle.event_storing.specs.Outbox.{outbox_after, Sends}
use Rattle.event_deliveries.specs.AtPlace.{attempt_at, attempt_from, delivered_from}
use Rattle.client_found.specs.Delivered.{Delivers}

module _ (size accepted b set n : ℕ) (s : Site) (k : Arbiter) (ts : Lent (List (List (List ℕ)))) (rows out : Lent (List (List ℕ))) (r : Done) where
  abbrev d : Desk
  d = desk_at size b set s k ts.entry.now

  abbrev ms : List Message
  ms = messages_in n rows.entry.now

  at-case : (f : Found) → Leaves (judged accepted d ms (attempt_at d ms f)) b n ts rows r → Sends (attempt_at d ms f) out → Delivers f accepted b d n ts rows out r
  unfolding attempt_at judged outbox_after
  at-case (At place) l o = (l, o)
  at-case Nowhere l o =
      let t = ts.entry.now in
      let stays = l.stays refl in (
        λ j. record { code = l.code j; site = l.site j; arbiter = l.arbiter j; count = stays.0 j },
        (λ g. l.rows g ∙ rw (put_self [] (get_or t HELD []) b, put_self [] (get_or t HEIR []) b, put_self [] (get_or t INQUIRED []) b, put_self [] (get_or t QUEUED []) b)),
        stays.1,
        o,
      )

  pub by-case : (a : ℕ) {f : Found} → f ≡ found_in a b (take n rows.entry.now)
      → Leaves (delivered_from a b accepted d n rows.entry.now) b n ts rows r → Sends (attempt_from a b d n rows.entry.now) out
      → Delivers f accepted b d n ts rows out r
  by-case a {f} e l o = rw e (at-case (found_in a b (take n rows.entry.now)) l o)
