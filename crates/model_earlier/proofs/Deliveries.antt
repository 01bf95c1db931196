-- A delivery: the version before makes of it what this version makes, but that the fails sent have lost their numbers; and those numbers are within
-- their limit.
use Prim.Native.Nat.{ℕ, zero, suc, ◌≤◌}
use mathlib.Core.Path.{◌≡◌, refl, sym, ap}
use mathlib.Core.Bool.{Bool, true, false, cond}
use mathlib.Core.List.{List, [], ◌∷◌}
use native.Mathlib.Omega.{arith}
use lib.Dec.{eqb, leb}
use lib.ListN.{get_or, set}
use borrow.Author.Tests.{eqb-true, le-leb}
use Rattle.basics.specs.Helpers.{All}
use Rattle.basics.proofs.Basics.{by_bool}
use Rattle.basics.proofs.Lists.{all_map}
use Rattle.rig.specs.declared.Desk.{Desk}
use Rattle.rig.specs.declared.Message.{Message}
use Rattle.rig.specs.Limits.{site_limit, number_limit}
use Rattle.rig.specs.Messages.{REQUEST, REPLY, RELEASE, INQUIRE, FAIL, YIELD, TRANSFER}
use Rattle.model.specs.Tables.{at, put}
use Rattle.model.specs.Priority.{comes_before}
use Rattle.model.specs.Desk.{Effect, effect, waits, queued_at}
use Rattle.model.specs.Arbiter.{holder_of, holder_key, site_key, head_of, with_queued, fail_to, clock_raised, former_told, fail_former, inquire_or_fail, answers, queued_up, on_request}
use Rattle.model.specs.Site.{failed_set, fail_counts, on_fail}
use Rattle.model.specs.Deliver.{delivered}
use Rattle.model.specs.Losses.{unnumbered, lost, lost_all}
use Rattle.model.proofs.Heads.{head-within}
use Rattle.model.proofs.Sent.{Sends, granted-sends, on_release-sends, on_yield-sends, reply-sends, inquire-sends, yielded_up_to-sends, transfer-sends}
use Rattle.model_earlier.specs.Rules as Earlier
use Rattle.model_earlier.proofs.Lost.{Numberless, others, numberless-number, lost-numberless}

-- the number of a message is within the limit just where it is so once the message has lost it
abbrev pub Fits : Message → Type 0
Fits m = leb (unnumbered m).number number_limit ≡ leb m.number number_limit

-- an effect once the fails sent have lost their numbers
abbrev pub lost_effect : Effect → Effect
lost_effect e = effect e.desk (lost_all e.sent)

-- what the version before makes, and what this one does
pub record Near (old new : Effect) : Type 0 where
  pub same : old ≡ lost_effect new
  pub fits : All Fits new.sent

pub numberless-near : (e : Effect) → Sends Numberless e → Near e e
numberless-near e a = record {
  same = rw (lost-numberless e.sent a);
  fits = all_map Numberless Fits e.sent (λ m h. ap (λ (x : Message). leb x.number number_limit) h) a;
}

near-if : (b : Bool) {x y x' y' : Effect} → (b ≡ true → Near x x') → (b ≡ false → Near y y') → Near (cond b x y) (cond b x' y')
near-if true f g = f refl
near-if false f g = g refl

-- the numbers queued are within their limit
pub record Bounded (d : Desk) : Type 0 where
  pub size : d.size ≤ site_limit
  pub queued : (i : ℕ) → i ≤ site_limit → queued_at d i ≤ number_limit

-- A request

set-bounded : (l : List ℕ) (k v i : ℕ) → get_or l i 0 ≤ number_limit → v ≤ number_limit → get_or (set l k v) i 0 ≤ number_limit
set-bounded [] k v i a b = a
set-bounded (x ∷ l) zero v zero a b = b
set-bounded (x ∷ l) zero v (suc i) a b = a
set-bounded (x ∷ l) (suc k) v zero a b = a
set-bounded (x ∷ l) (suc k) v (suc i) a b = set-bounded l k v i a b

put-bounded : (l : List ℕ) (k v i : ℕ) → at 0 l i ≤ number_limit → v ≤ number_limit → at 0 (put l k v) i ≤ number_limit
unfolding at put
put-bounded l zero v i a b = a
put-bounded l (suc k) v zero a b = a
put-bounded l (suc k) v (suc i) a b = set-bounded l k v i a b

fail-fits : (d : Desk) (k : ℕ) → queued_at d k ≤ number_limit → Fits (fail_to d k)
unfolding unnumbered
fail-fits d k h = sym (le-leb (queued_at d k) number_limit h)

answers-near : (d : Desk) (k former : ℕ) → queued_at d k ≤ number_limit → queued_at d former ≤ number_limit
    → (Earlier.answers d k former ≡ lost_all (answers d k former)) × All Fits (answers d k former)
unfolding Earlier.answers answers Earlier.fail_former fail_former Earlier.inquire_or_fail inquire_or_fail lost unnumbered All
answers-near d k former h g =
    let own = fail-fits d k h in
    let told = fail-fits d former g in
    by_bool (eqb (head_of d) k)
    (λ a. by_bool (former_told d k former)
    (λ b. by_bool (comes_before (site_key d k) (holder_key d))
    (λ c. rw (a, b, c) (refl, (told, (refl, (refl, tt)))))
    (λ c. rw (a, b, c) (refl, (told, (refl, (own, tt))))))
    (λ b. by_bool (comes_before (site_key d k) (holder_key d))
    (λ c. rw (a, b, c) (refl, (refl, (refl, tt))))
    (λ c. rw (a, b, c) (refl, (refl, (own, tt))))))
    (λ a. rw a (refl, (own, tt)))

queued-near : (d : Desk) → Bounded d → (k n : ℕ) → k ≤ site_limit → n ≤ number_limit → Near (Earlier.queued_up d k n) (queued_up d k n)
unfolding Earlier.queued_up queued_up head_of
queued-near d s k n h b =
    let in-queue : (i : ℕ) → i ≤ site_limit → at 0 (put d.queued k n) i ≤ number_limit = λ i l. put-bounded d.queued k n i (s.queued i l) b in
    let w = head-within d.queued d.size in
    let a = answers-near (with_queued d k n) k (head_of d) (in-queue k h) (in-queue (head_of d) (omega (arith, s.size))) in
    record { same = rw a.0; fits = a.1 }

request-near : (d : Desk) → Bounded d → (k n : ℕ) → k ≤ site_limit → n ≤ number_limit → Near (Earlier.on_request d k n) (on_request d k n)
unfolding Earlier.on_request on_request clock_raised
request-near d s k n h b =
    let u = clock_raised d n in
    near-if (eqb (holder_of u) 0)
    (λ e. numberless-near _ (granted-sends Numberless others u k n))
    (λ e. queued-near u (record { size = s.size; queued = s.queued }) k n h b)

-- A fail numbered 0

fail-near : (d : Desk) (n : ℕ) → 0 ≡ n → Near (Earlier.on_fail d) (on_fail d n)
unfolding Earlier.on_fail on_fail fail_counts All
fail-near d n z =
    by_bool (waits d)
    (λ e. rw (← z, e) (numberless-near _ (yielded_up_to-sends Numberless others (failed_set d) d.size)))
    (λ e. rw (← z, e) (numberless-near (effect d []) tt))

-- Any message

pub delivered-near : (d : Desk) (m : Message) → Bounded d → Numberless m → m.from ≤ site_limit → (m.kind ≡ REQUEST → m.number ≤ number_limit) → Near (Earlier.delivered d m) (delivered d m)
unfolding Earlier.delivered delivered All
delivered-near d m s p h b =
    near-if (eqb m.kind REQUEST) (λ e. request-near d s m.from m.number h (b (eqb-true _ _ e)))
    (λ e. near-if (eqb m.kind REPLY) (λ e. numberless-near _ (reply-sends Numberless others d m.about m.number))
    (λ e. near-if (eqb m.kind RELEASE) (λ e. numberless-near _ (on_release-sends Numberless others d m.from m.about m.number))
    (λ e. near-if (eqb m.kind INQUIRE) (λ e. numberless-near _ (inquire-sends Numberless others d m.from m.number))
    (λ e. near-if (eqb m.kind FAIL) (λ e. fail-near d m.number (numberless-number m p e))
    (λ e. near-if (eqb m.kind YIELD) (λ e. numberless-near _ (on_yield-sends Numberless others d m.from m.number))
    (λ e. near-if (eqb m.kind TRANSFER) (λ e. numberless-near _ (transfer-sends Numberless others d m.from m.about m.number))
    (λ e. numberless-near (effect d []) tt)))))))
