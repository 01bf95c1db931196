-- Document 01, "One event": what a site does with a reply, an inquire, a fail or a transfer.
use Rattle.std.specs.Prelude.{ℕ, zero, suc, Bool, true, not, ◌&&◌, ◌||◌, cond, [], ◌∷◌, ◌++◌, eqb}
use Rattle.rig.specs.declared.Desk.{Desk}
use Rattle.rig.specs.declared.Mode.TheVariants.{Waiting, Inside}
use Rattle.rig.specs.Limits.{blank_row}
use Rattle.rig.specs.Messages.{yield}
use Rattle.model.specs.Tables.{put}
use Rattle.basics.specs.Helpers.{all}
use Rattle.model.specs.State.{seq_in}
use Rattle.model.specs.Desk.{Effect, effect, has, waits, has_failed, held_for, inquired_for, with_mode, with_entries, without_entry}

-- "failed is set", of a waiting site
unfoldable pub failed_set : Desk → Desk
failed_set d = with_mode d (Waiting (seq_in d.site.mode) true)

-- "To yield j: failed is set, a yield with the held number goes to j, and its three entries are cleared."
unfoldable pub yielded : Desk → ℕ → Effect
yielded d j = effect (without_entry (failed_set d) j) (yield d.number j (held_for d j) ∷ [])

-- "all members are held"
unfoldable pub all_held : Desk → Bool
all_held d = all (λ j. not (has d j) || not (eqb (held_for d j) 0)) d.size

-- "the site is inside, and its sequence number, failed mark and all remembered inquires become 0"
unfoldable pub entered : Desk → Desk
entered d = with_mode (with_entries d d.held d.heir blank_row) Inside

-- "the number is held, and a remembered inquire of another number is forgotten"
unfoldable pub taken : Desk → ℕ → ℕ → Desk
taken d j n = with_entries d (put d.held j n) d.heir (put d.inquired j (cond (eqb (inquired_for d j) n) n 0))

-- "If all members are held the site is inside ... Otherwise, if failed and an inquire for j is remembered, it yields j."
unfoldable pub entered_or_yielded : Desk → ℕ → Effect
entered_or_yielded d j =
    cond (all_held d) (effect (entered d) [])
    (cond (has_failed d && not (eqb (inquired_for d j) 0)) (yielded d j)
    (effect d []))

-- "to a waiting site with member j not held"
unfoldable pub takes : Desk → ℕ → Bool
takes d j = waits d && (has d j && eqb (held_for d j) 0)

-- "Reply about j", with number n
unfoldable pub on_reply : Desk → ℕ → ℕ → Effect
on_reply d j n = cond (takes d j) (entered_or_yielded (taken d j n) j) (effect d [])

-- "remembers it", in place of any older one
unfoldable pub remembered : Desk → ℕ → ℕ → Desk
remembered d j n = with_entries d d.held d.heir (put d.inquired j n)

-- "if j is held with that number, it yields j when failed, else remembers it. If j is not held, it remembers it in place of any
-- older one."
unfoldable pub yielded_or_remembered : Desk → ℕ → ℕ → Effect
yielded_or_remembered d j n =
    cond (eqb (held_for d j) 0) (effect (remembered d j n) [])
    (cond (eqb n (held_for d j))
    (cond (has_failed d) (yielded d j) (effect (remembered d j n) []))
    (effect d []))

-- "Inquire to a waiting site"
unfoldable pub on_inquire : Desk → ℕ → ℕ → Effect
on_inquire d j n = cond (waits d) (yielded_or_remembered d j n) (effect d [])

-- "every held member with a remembered inquire": whether member j is such a one
unfoldable pub must_yield : Desk → ℕ → Bool
must_yield d j = has d j && (not (eqb (held_for d j) 0) && not (eqb (inquired_for d j) 0))

-- "is yielded": member j, if it is such a one
unfoldable pub yielded_if : Desk → ℕ → Effect
yielded_if d j = cond (must_yield d j) (yielded d j) (effect d [])

-- one effect after another
abbrev pub and_then : Effect → Effect → Effect
and_then e f = effect f.desk (e.sent ++ f.sent)

-- "ascending": of the sites 1 to n
unfoldable pub yielded_up_to : Desk → ℕ → Effect
yielded_up_to d zero = effect d []
yielded_up_to d (suc i) = let e = yielded_up_to d i in and_then e (yielded_if e.desk (suc i))

-- Request 2.3: a fail with number n counts at a site that waits with just that sequence number, and a fail numbered 0 "still counts as before"
unfoldable pub fail_counts : Desk → ℕ → Bool
fail_counts d n = waits d && (eqb n 0 || eqb n (seq_in d.site.mode))

-- "Fail to a waiting site: failed is set; every held member with a remembered inquire is yielded, ascending." Request 2.3: "A waiting
-- site with another number takes it off and does nothing."
unfoldable pub on_fail : Desk → ℕ → Effect
on_fail d n = cond (fail_counts d n) (yielded_up_to (failed_set d) d.size) (effect d [])

-- "whose number the site holds for j": n is at least 1 in a well-shaped message, so that j is then held
abbrev pub names_held : Desk → ℕ → ℕ → Bool
names_held d j n = eqb n (held_for d j)

-- "Transfer from j whose number the site holds for j: the heir of j becomes the named site, in place of any older one."
unfoldable pub on_transfer : Desk → ℕ → ℕ → ℕ → Effect
on_transfer d j x n =
    cond (names_held d j n) (effect (with_entries d d.held (put d.heir j x) d.inquired) []) (effect d [])
