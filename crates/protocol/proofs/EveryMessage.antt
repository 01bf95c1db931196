-- The delivery of any message keeps the invariant of its arbiter, and the fresh state has it. Each kind has its own file in Kept/.
use Prim.Native.Nat.{ℕ}
use mathlib.Core.Path.{◌≡◌, refl}
use mathlib.Core.Bool.{Bool, false}
use mathlib.Core.List.{List, [], ◌∷◌}
use mathlib.Core.Option.{some}
use native.Mathlib.Omega.{arith}
use Rattle.basics.specs.Helpers.{tally, first, without_first, All}
use Rattle.protocol.specs.Ask.{no_ask}
use Rattle.protocol.specs.Message.{Message, request, reply, release, hand_over, inquire, fail, yield, transfer, between}
use Rattle.protocol.specs.Setting.{Setting, SettingLaw}
use Rattle.protocol.specs.Local.{Local, View, view}
use Rattle.protocol.specs.Site.{handled}
use Rattle.basics.proofs.Lists.{tally-without}
use Rattle.protocol.proofs.Invariant.{FREE, ghost, is_fail_for, is_inquire, Ordered, Ascending, Invariant}
use Rattle.protocol.proofs.Sending.{first-under_way}
use Rattle.protocol.proofs.Owing.{ascending-first}
use Rattle.protocol.proofs.Kept.Fail.{on_fail-kept}
use Rattle.protocol.proofs.Kept.Inquire.{on_inquire-kept}
use Rattle.protocol.proofs.Kept.Transfer.{on_transfer-kept}
use Rattle.protocol.proofs.Kept.Reply.{on_reply-kept}
use Rattle.protocol.proofs.Kept.Release.{on_release-kept}
use Rattle.protocol.proofs.Kept.Yield.{on_yield-kept}
use Rattle.protocol.proofs.Kept.HandOver.{on_hand_over-kept}
use Rattle.protocol.proofs.Kept.Request.{on_request-kept}

-- the fresh state
unfoldable pub fresh_view : View
fresh_view = view (record { grant = 0; holder = 0; holder_ask = no_ask; queued = λ k. no_ask; mode = λ k. 0; ask = λ k. no_ask; failed = λ k. false; held = λ k. 0; heir = λ k. 0; inquired = λ k. 0 }) []

module _ (p : Setting) (law : SettingLaw p) where
  -- the message that is taken next may stand first
  pub first-invariant : (t : Local) (ms : List Message) (a b : ℕ) (m : Message) → first (between p.arbiter a b) ms ≡ some m → Invariant p (view t ms) → Invariant p (view t (m ∷ without_first (between p.arbiter a b) ms))
  first-invariant t ms a b m e (o, s) =
      let c = s.core in
      let l = s.owed in
      let ch = between p.arbiter a b in (
        o,
        record {
          inquiries_fit = s.inquiries_fit;
          free_queue_empty = s.free_queue_empty;
          core = record { arbiter = c.arbiter; asks = c.asks; column = c.column; under_way = first-under_way p ms a b m e c.under_way };
          owed = record {
            fail_owed = λ k. rw (tally-without ch (is_fail_for k (t.ask k)) ms m e) (l.fail_owed k);
            inquire_owed = rw (tally-without ch (is_inquire o.owner t.grant) ms m e) l.inquire_owed;
            ascending = λ k. ascending-first p.arbiter a b k (t.inquired k) ms m e (l.ascending k);
          };
        },
      )

  -- each kind by its rule
  pub handled-kept : (t : Local) (ms : List Message) (enters : Bool) (m : Message) → Invariant p (view t (m ∷ ms)) → Invariant p (handled p (view t ms) enters m)
  unfolding handled
  handled-kept t ms enters (request k n) v = on_request-kept p law t k n ms v
  handled-kept t ms enters (reply f k n) v = on_reply-kept p t f k n ms enters v
  handled-kept t ms enters (release k n) v = on_release-kept p law t k n ms v
  handled-kept t ms enters (hand_over k x n) v = on_hand_over-kept p law t k x n ms v
  handled-kept t ms enters (inquire k n) v = on_inquire-kept p t k n ms v
  handled-kept t ms enters (fail k n) v = on_fail-kept p t k n ms v
  handled-kept t ms enters (yield k n) v = on_yield-kept p law t k n ms v
  handled-kept t ms enters (transfer k x n) v = on_transfer-kept p law t k x n ms v

  -- nothing is held, queued or under way
  pub fresh-invariant : Invariant p fresh_view
  unfolding fresh_view tally All Ordered Ascending
  fresh-invariant = (
    ghost 0 0 FREE (λ k. 0),
    record {
      inquiries_fit = λ k x. absurd (x refl);
      free_queue_empty = λ z k. refl;
      owed = record { fail_owed = λ k x. absurd (x refl); inquire_owed = λ a b. absurd (b refl); ascending = λ k. tt };
      core = record {
        arbiter = record { ahead_by_one = omega arith; owner_is_holder = λ z. refl; handed_over = λ z. absurd (z refl); when_free = λ z. (refl, refl, refl); when_taken = λ z. absurd (z refl); stage_range = omega arith; holder_not_queued = refl };
        asks = record {
          queued_if_known = λ k ne x. absurd (x refl);
          empty_if_unknown = λ k ne x. refl;
          owner_entry = λ x. absurd (x refl);
          out_known = λ z. absurd (omega arith);
          held_inside = λ z. absurd (omega arith);
          yielded_failed = λ z. absurd (omega arith);
          released_left = λ z. absurd (omega arith);
          known_waits = λ k x. absurd (x refl);
          inside_holds = λ k x. absurd (omega arith);
          waiting_numbered = λ k x. absurd (omega arith);
          not_waiting_clear = λ k x. (refl, refl);
        };
        column = record { holds = λ k x. absurd (x refl); number = λ z. absurd (omega arith); heirs = λ k x. absurd (x refl); remembered = λ k x. absurd (x refl) };
        under_way = record { permissions = refl; requests = λ k x. absurd (omega arith); hand_overs = λ x. absurd (x refl); fit = tt; ordered = tt };
      };
    },
  )
