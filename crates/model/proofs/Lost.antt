-- Fails that lose their numbers: the machine's lose theirs, and the list stays as long as it is.
use Prim.Native.Nat.{ℕ, zero, suc}
use mathlib.Core.Path.{◌≡◌, refl, sym, ap}
use mathlib.Core.Bool.{Bool, cond}
use mathlib.Core.List.{List, [], ◌∷◌, map}
use lib.Dec.{eqb}
use lib.ListN.{length, take}
use borrow.Author.Tests.{eqb-true, ne_eqb}
use Rattle.basics.specs.Helpers.{All}
use Rattle.basics.proofs.Basics.{by_bool}
use Rattle.rig.specs.declared.Message.{Message}
use Rattle.rig.specs.Messages.{FAIL}
use Rattle.protocol.specs.Rig as R
use Rattle.model.specs.Losses.{unnumbered, lost}
use Rattle.model.proofs.Machine.{sent_of}
use Rattle.model.proofs.Shaped.{by_kind}
use Rattle.model.proofs.Plain.{Plain, AllPlain}

pub length-lost : (p : ℕ → Bool) (ms : List Message) → length (lost p ms) ≡ length ms
unfolding lost
length-lost p [] = refl
length-lost p (m ∷ ms) = ap suc (length-lost (λ i. p (suc i)) ms)

pub take-lost : (p : ℕ → Bool) (n : ℕ) (ms : List Message) → take n (lost p ms) ≡ lost p (take n ms)
unfolding lost
take-lost p zero ms = refl
take-lost p (suc n) [] = refl
take-lost p (suc n) (m ∷ ms) = ap (λ (x : List Message). cond (p 0) (unnumbered m) m ∷ x) (take-lost (λ i. p (suc i)) n ms)

sent-unnumbered : (m : Message) → sent_of (unnumbered m) ≡ R.sent (sent_of m).arbiter (R.unnumbered (sent_of m).message)
unfolding unnumbered
sent-unnumbered m =
    by_kind m.kind
    (λ e. rw e)
    (λ e. rw e)
    (λ e. by_bool (eqb m.about 0) (λ f. rw (e, f)) (λ f. rw (e, f)))
    (λ e. rw e)
    (λ e. rw e)
    (λ e. rw e)
    (λ e. rw e)
    (λ n1 n2 n3 n4 n5 n6 n7. let same : unnumbered m ≡ m = rw (ne_eqb _ _ n5) in rw (same, ne_eqb _ _ n1, ne_eqb _ _ n2, ne_eqb _ _ n3, ne_eqb _ _ n4, ne_eqb _ _ n5, ne_eqb _ _ n6))

-- the machine's messages
pub sent-lost : (p : ℕ → Bool) (ms : List Message) → map sent_of (lost p ms) ≡ R.lost p (map sent_of ms)
unfolding lost R.lost
sent-lost p [] = refl
sent-lost p (m ∷ ms) =
    let ih = sent-lost (λ i. p (suc i)) ms in
    by_bool (p 0) (λ e. rw (e, sent-unnumbered m, ih)) (λ e. rw (e, ih))

plain-unnumbered : (m : Message) → Plain m → Plain (unnumbered m)
unfolding unnumbered
plain-unnumbered m h = by_bool (eqb m.kind FAIL)
    (λ e. let k = eqb-true m.kind FAIL e in
    let q : m.about ≡ 0 = sym (ap (λ (x : Message). x.about) (rw k at h)) in
    rw (k, q))
    (λ e. rw e h)

pub plain-lost : (p : ℕ → Bool) (ms : List Message) → AllPlain ms → AllPlain (lost p ms)
unfolding lost All
plain-lost p [] a = tt
plain-lost p (m ∷ ms) a = (by_bool (p 0) (λ e. rw e (plain-unnumbered m a.0)) (λ e. rw e a.0), plain-lost (λ i. p (suc i)) ms a.1)
