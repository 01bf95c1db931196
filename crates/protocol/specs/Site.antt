-- Document 01, "One event": what a site does with a reply, an inquire, a fail or a transfer, as far as it concerns this arbiter.
use Rattle.std.specs.Prelude.{ℕ, Bool, true, false, not, ◌&&◌, ◌||◌, cond, eqb}
use Rattle.basics.specs.Helpers.{update}
use Rattle.protocol.specs.Ask.{Ask, no_ask}
use Rattle.protocol.specs.Message.{Message, request, reply, release, hand_over, inquire, fail, yield, transfer}
use Rattle.protocol.specs.Setting.{Setting}
use Rattle.protocol.specs.Local.{WAITING, INSIDE, Local, View, view, send, with_sites, with_entries, without_entry}
use Rattle.protocol.specs.Arbiter.{on_request, on_release, on_hand_over, on_yield}

-- "To yield j: failed is set, a yield with the held number goes to j, and its three entries are cleared."
unfoldable pub yielded : View → ℕ → View
yielded v b =
    let t = v.tables in
    send (view (without_entry (with_sites t t.mode t.ask (update t.failed b true)) b) v.messages) (yield b (t.held b))

-- "the site is inside, and its sequence number, failed mark and all remembered inquires become 0"
unfoldable pub entered : View → ℕ → View
entered v b =
    let t = v.tables in
    view (with_entries (with_sites t (update t.mode b INSIDE) (update t.ask b no_ask) (update t.failed b false)) t.held t.heir (update t.inquired b 0)) v.messages

-- "the number is held, and a remembered inquire of another number is forgotten"
abbrev pub taken : Local → ℕ → ℕ → Local
taken t b n = with_entries t (update t.held b n) t.heir (update t.inquired b (cond (eqb (t.inquired b) n) n 0))

-- "if failed and an inquire for j is remembered"
abbrev pub failed_inquired : Local → ℕ → Bool
failed_inquired t b = t.failed b && not (eqb (t.inquired b) 0)

-- "remembers it", in place of any older one
abbrev pub remembered : Local → ℕ → ℕ → Local
remembered t b n = with_entries t t.held t.heir (update t.inquired b n)

-- "Inquire to a waiting site: if j is held with that number, it yields j when failed, else remembers it. If j is not held, it
-- remembers it in place of any older one."
unfoldable pub on_inquire : View → ℕ → ℕ → View
on_inquire v b n =
    let t = v.tables in
    cond (eqb (t.mode b) WAITING)
    (cond (eqb (t.held b) 0) (view (remembered t b n) v.messages)
    (cond (eqb n (t.held b))
    (cond (t.failed b) (yielded v b) (view (remembered t b n) v.messages))
    v))
    v

-- "Transfer from j whose number the site holds for j"
abbrev pub names_held : Local → ℕ → ℕ → Bool
names_held t b n = eqb n (t.held b)

-- "the heir of j becomes the named site, in place of any older one."
unfoldable pub on_transfer : View → ℕ → ℕ → ℕ → View
on_transfer v b x n =
    let t = v.tables in
    cond (names_held t b n) (view (with_entries t t.held (update t.heir b x) t.inquired) v.messages) v

-- a fail with number n has lost its number
abbrev pub is_lost : ℕ → Bool
is_lost n = eqb n 0

-- it has, or is for the ask a
abbrev pub answers_ask : Ask → ℕ → Bool
answers_ask a n = is_lost n || eqb n a.number

-- Request 2.3: a fail to site b counts where b waits, with the ask that the fail is for
abbrev pub fail_counts : (ℕ → ℕ) → (ℕ → Ask) → ℕ → ℕ → Bool
fail_counts mode ask b n = eqb (mode b) WAITING && answers_ask (ask b) n

module _ (p : Setting) where
  -- "Reply about j, to a waiting site with member j not held"
  abbrev pub takes : Local → ℕ → Bool
  takes t b = eqb (t.mode b) WAITING && (p.member b && eqb (t.held b) 0)

  -- "If all members are held the site is inside ... Otherwise, if failed and an inquire for j is remembered, it yields j.": all_held
  -- says whether all members are held once the number is
  unfoldable pub on_reply : View → ℕ → ℕ → Bool → View
  on_reply v b n all_held =
      let u = taken v.tables b n in
      cond (takes v.tables b)
      (cond all_held (entered (view u v.messages) b)
      (cond (failed_inquired u b) (yielded (view u v.messages) b)
      (view u v.messages)))
      v

  -- "every held member with a remembered inquire": whether this arbiter is such a one
  abbrev pub must_yield : Local → ℕ → Bool
  must_yield t b = p.member b && (not (eqb (t.held b) 0) && not (eqb (t.inquired b) 0))

  -- "Fail to a waiting site: failed is set; every held member with a remembered inquire is yielded": what this arbiter sees of it,
  -- whichever arbiter sent the fail
  unfoldable pub on_fail : View → ℕ → ℕ → View
  on_fail v b n =
      let t = v.tables in
      cond (fail_counts t.mode t.ask b n)
      (cond (must_yield t b) (yielded v b)
      (view (with_sites t t.mode t.ask (update t.failed b true)) v.messages))
      v

  -- each kind by its rule; the message is off the list, and all_held matters for a reply only
  unfoldable pub handled : View → Bool → Message → View
  handled v all_held (request k a) = on_request p v k a
  handled v all_held (reply f k n) = on_reply v k n all_held
  handled v all_held (release k n) = on_release p v k n
  handled v all_held (hand_over k x n) = on_hand_over p v k x n
  handled v all_held (inquire k n) = on_inquire v k n
  handled v all_held (fail k n) = on_fail v k n
  handled v all_held (yield k n) = on_yield p v k n
  handled v all_held (transfer k x n) = on_transfer v k x n
