-- The messages of one arbiter within the list of the whole rig: what is sent, and what is taken off, as that arbiter sees it.
use Prim.Native.Nat.{ℕ, zero, suc, ◌≤◌}
use mathlib.Core.Path.{◌≡◌, refl, sym, ◌∙◌}
use mathlib.Core.Logic.{◌≢◌}
use mathlib.Core.Bool.{false}
use mathlib.Core.List.{List, [], ◌∷◌, ◌++◌, append-nil}
use mathlib.Core.Option.{some}
use native.Mathlib.Omega.{arith}
use lib.Dec.{eqb, ltb}
use borrow.Author.Tests.{eqb-true, eqb-false, eq-eqb, ne_eqb, ltb-true, ltb-false}
use Rattle.basics.specs.Helpers.{first, without_first, All}
use Rattle.protocol.specs.Message.{Message, between}
use Rattle.protocol.specs.Rig.{Sent, messages_of, sent_by, in_order, channel}
use Rattle.basics.proofs.Basics.{by_bool}
use Rattle.basics.proofs.Lists.{all_append}

-- a longer list
pub messages-append : (j : ℕ) (xs ys : List Sent) → messages_of j (xs ++ ys) ≡ messages_of j xs ++ messages_of j ys
unfolding messages_of
messages-append j [] ys = refl
messages-append j (x ∷ xs) ys = let ih = messages-append j xs ys in by_bool (eqb j x.arbiter) (λ e. rw (e, ih)) (λ e. rw (e, ih))

-- what one arbiter sends, seen by itself and by another
pub messages-sent_by : (j : ℕ) (ms : List Message) → messages_of j (sent_by j ms) ≡ ms
unfolding messages_of sent_by
messages-sent_by j [] = refl
messages-sent_by j (m ∷ ms) = rw (eq-eqb j j refl, messages-sent_by j ms)

pub messages-other : (i j : ℕ) (ms : List Message) → i ≢ j → messages_of i (sent_by j ms) ≡ []
unfolding messages_of sent_by
messages-other i j [] ne = refl
messages-other i j (m ∷ ms) ne = rw (ne_eqb i j ne, messages-other i j ms ne)

-- what all arbiters send, seen by one outside 1 to n and by one inside
pub messages-none : (j n : ℕ) (f : ℕ → List Message) → ((1 ≤ j) → j ≤ n → ⊥) → messages_of j (in_order f n) ≡ []
unfolding in_order messages_of
messages-none j zero f h = refl
messages-none j (suc n) f h = rw (messages-append, messages-none j n f (λ a b. h a (omega arith)), messages-other j (suc n) (f (suc n)) (λ z. h (omega arith) (omega arith)))

pub messages-in_order : (j n : ℕ) (f : ℕ → List Message) → 1 ≤ j → j ≤ n → messages_of j (in_order f n) ≡ f j
unfolding in_order
messages-in_order j zero f a b = absurd (omega arith)
messages-in_order j (suc n) f a b = by_bool (eqb j (suc n))
    (λ e. let je = eqb-true j (suc n) e in rw je (rw (messages-append, messages-none (suc n) n f (λ x y. omega arith), messages-sent_by (suc n) (f (suc n)))))
    (λ e. let ne = eqb-false j (suc n) e in rw (messages-append, messages-in_order j n f a (omega arith), messages-other j (suc n) (f (suc n)) ne) (append-nil (f j)))

-- what holds of each message that is sent, by one arbiter and by all
module _ (P : Message → Type 0) where
  pub all-sent_by : (j : ℕ) (ms : List Message) → All P ms → All (λ x. P x.message) (sent_by j ms)
  unfolding All sent_by
  all-sent_by j [] a = tt
  all-sent_by j (m ∷ ms) a = (a.0, all-sent_by j ms a.1)

  pub all-in_order : (f : ℕ → List Message) (n : ℕ) → ((j : ℕ) → All P (f j)) → All (λ x. P x.message) (in_order f n)
  unfolding All in_order
  all-in_order f zero h = tt
  all-in_order f (suc n) h = all_append _ (in_order f n) (sent_by (suc n) (f (suc n))) (all-in_order f n h) (all-sent_by (suc n) (f (suc n)) (h (suc n)))

-- what is taken off is the first of its channel also for its arbiter
pub first-messages : (a b : ℕ) (xs : List Sent) (x : Sent) → first (channel a b) xs ≡ some x → first (between x.arbiter a b) (messages_of x.arbiter xs) ≡ some x.message
unfolding first messages_of
first-messages a b [] x e = let z : ◌≡◌ {A = ℕ} 0 1 = cc in absurd (omega arith)
first-messages a b (y ∷ xs) x e = by_bool (channel a b y)
    (λ t. let w : y ≡ x = cc in let t' = rw w at t in rw (w, eq-eqb x.arbiter x.arbiter refl, t'))
    (λ t. let ih = first-messages a b xs x (rw t at e) in by_bool (eqb x.arbiter y.arbiter)
    (λ u. let w = eqb-true x.arbiter y.arbiter u in let t' : between x.arbiter a b y.message ≡ false = rw w t in rw (u, t') ih)
    (λ u. rw u ih))

-- the rest of the list, for its arbiter and for another
pub without-messages : (a b : ℕ) (xs : List Sent) (x : Sent) → first (channel a b) xs ≡ some x → messages_of x.arbiter (without_first (channel a b) xs) ≡ without_first (between x.arbiter a b) (messages_of x.arbiter xs)
unfolding first messages_of without_first
without-messages a b [] x e = refl
without-messages a b (y ∷ xs) x e = by_bool (channel a b y)
    (λ t. let w : y ≡ x = cc in let t' = rw w at t in rw (t, w, eq-eqb x.arbiter x.arbiter refl, t'))
    (λ t. let ih = without-messages a b xs x (rw t at e) in by_bool (eqb x.arbiter y.arbiter)
    (λ u. let w = eqb-true x.arbiter y.arbiter u in let t' : between x.arbiter a b y.message ≡ false = rw w t in rw (t, u, t', ih))
    (λ u. rw (t, u, ih)))

pub without_other : (a b i : ℕ) (xs : List Sent) (x : Sent) → first (channel a b) xs ≡ some x → i ≢ x.arbiter → messages_of i (without_first (channel a b) xs) ≡ messages_of i xs
unfolding first messages_of without_first
without_other a b i [] x e ne = refl
without_other a b i (y ∷ xs) x e ne = by_bool (channel a b y)
    (λ t. let w : y ≡ x = cc in rw (t, w, ne_eqb i x.arbiter ne))
    (λ t. let ih = without_other a b i xs x (rw t at e) ne in by_bool (eqb i y.arbiter) (λ u. rw (t, u, ih)) (λ u. rw (t, u, ih)))

-- the messages of arbiter j among those to all arbiters, where one outside 1 to n has none
pub messages-all : (j n : ℕ) (f : ℕ → List Message) → (((1 ≤ j) → j ≤ n → ⊥) → f j ≡ []) → messages_of j (in_order f n) ≡ f j
messages-all j n f h = by_bool (ltb 0 j)
    (λ a. by_bool (ltb j (suc n))
    (λ b. let x = ltb-true 0 j a in let y = ltb-true j (suc n) b in messages-in_order j n f (omega arith) (omega arith))
    (λ b. let y = ltb-false j (suc n) b in let no : (1 ≤ j) → j ≤ n → ⊥ = (λ u v. omega arith) in messages-none j n f no ∙ sym (h no)))
    (λ a. let y = ltb-false 0 j a in let no : (1 ≤ j) → j ≤ n → ⊥ = (λ u v. omega arith) in messages-none j n f no ∙ sym (h no))

-- what holds of every message of every arbiter holds of every message of the rig
pub all-messages : (P : ℕ → Message → Type 0) (xs : List Sent) → ((j : ℕ) → All (P j) (messages_of j xs)) → All (λ x. P x.arbiter x.message) xs
unfolding messages_of All
all-messages P [] h = tt
all-messages P (x ∷ xs) h = ((rw (eq-eqb x.arbiter x.arbiter refl) at (h x.arbiter)).0, all-messages P xs (λ j. by_bool (eqb j x.arbiter) (λ e. (rw e at (h j)).1) (λ e. rw e at (h j))))

-- no message
pub messages-nil : (j : ℕ) → messages_of j [] ≡ []
unfolding messages_of
messages-nil j = refl
