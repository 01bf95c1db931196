-- A message: its numbers, and back; what its shape says of them.
use Prim.Native.Nat.{ℕ, ◌≤◌}
use mathlib.Core.Bool.{true, false, cond}
use mathlib.Core.List.{List, ◌++◌}
use mathlib.Core.Path.{◌≡◌, refl, sym, ◌∙◌}
use native.Mathlib.Omega.{arith}
use lib.Dec.{eqb, leb}
use lib.ListN.{length, replicate}
use borrow.Author.Tests.{eqb-true, ne_eqb, leb-true}
use Rattle.basics.specs.Helpers.{All}
use Rattle.basics.proofs.Basics.{by_bool, clash, and_split}
use Rattle.rig.specs.declared.Message.{Message}
use Rattle.rig.specs.Limits.{number_limit}
use Rattle.rig.specs.Messages.{REQUEST, REPLY, RELEASE, INQUIRE, FAIL, YIELD, TRANSFER}
use Rattle.model.specs.State.{in_range}
use Rattle.model.specs.Shape.{is_number, is_given, number_shaped, plain_shaped, about_shaped, message_shaped}
use Rattle.model.proofs.Shaped.{by_kind, within}
use Rattle.save_fields.specs.Fields.{nth}
use Rattle.save_messages.specs.Messages.{has_about, numbers_with, message_numbers, message_from}
use Rattle.save_fields.specs.Values.{value_of, first_five}
use Rattle.save_fields.proofs.Fields.{zeros}

module _ (m : Message) where
  message-same : (a n : ℕ) → a ≡ m.about → n ≡ m.number → record { kind = m.kind; from = m.from; to = m.to; about = a; number = n } ≡ m
  message-same a n e f = rw (e, f)

  -- the first of five numbers: a number that is 0 is among the zeros behind
  pub value-about : has_about m.kind ≡ true → first_five m.kind m.from m.to m.about m.number (cond (eqb m.number 0) 4 5) ≡ value_of (message_numbers m)
  unfolding message_numbers numbers_with
  value-about e = by_bool (eqb m.number 0) (λ d. rw (e, d, eqb-true m.number 0 d)) (λ d. rw (e, d))

  pub value-plain : has_about m.kind ≡ false → first_five m.kind m.from m.to m.number 0 (cond (eqb m.number 0) 3 4) ≡ value_of (message_numbers m)
  unfolding message_numbers numbers_with
  value-plain e = by_bool (eqb m.number 0) (λ d. rw (e, d, eqb-true m.number 0 d)) (λ d. rw (e, d))

  pub message-back : (k : ℕ) → (has_about m.kind ≡ false → m.about ≡ 0) → message_from (message_numbers m ++ replicate k 0) ≡ m
  unfolding message_numbers numbers_with message_from
  message-back k f =
      by_bool (has_about m.kind)
      (λ e. by_bool (eqb m.number 0) (λ d. rw (e, d) (message-same _ _ refl (none d))) (λ d. rw (e, d)))
      (λ e. let z = sym (f e) in
      by_bool (eqb m.number 0) (λ d. rw (e, d) (message-same 0 _ z (none d))) (λ d. rw (e, d) (message-same 0 _ z refl)))
    where
      -- a number that lacks is 0
      none : eqb m.number 0 ≡ true → nth (replicate k 0) 0 ≡ m.number
      none d = zeros k 0 ∙ sym (eqb-true m.number 0 d)

  pub message-short : length (message_numbers m) ≤ 5
  unfolding message_numbers numbers_with
  message-short =
      by_bool (has_about m.kind)
      (λ e. by_bool (eqb m.number 0) (λ d. rw (e, d) (omega arith)) (λ d. rw (e, d) (omega arith)))
      (λ e. by_bool (eqb m.number 0) (λ d. rw (e, d) (omega arith)) (λ d. rw (e, d) (omega arith)))

  pub message-bound :
      (b : ℕ) → m.kind ≤ b → m.from ≤ b → m.to ≤ b → m.about ≤ b → m.number ≤ b → All (λ n. n ≤ b) (message_numbers m)
  unfolding message_numbers numbers_with All
  message-bound b k f t a n =
      by_bool (has_about m.kind)
      (λ e. by_bool (eqb m.number 0) (λ d. rw (e, d) (k, (f, (t, (a, tt))))) (λ d. rw (e, d) (k, (f, (t, (a, (n, tt)))))))
      (λ e. by_bool (eqb m.number 0) (λ d. rw (e, d) (k, (f, (t, tt)))) (λ d. rw (e, d) (k, (f, (t, (n, tt))))))

-- What the shape of a message says. That `about` is 31 at most is `about-high` of the model's laws.
module _ (n : ℕ) (sets : List ℕ) (m : Message) (s : message_shaped n sets m ≡ true) where
  parts : (in_range n m.from ≡ true) × (in_range n m.to ≡ true) × (number_shaped m ≡ true) × (about_shaped sets m ≡ true)
  unfolding message_shaped
  parts =
      let a = and_split (in_range n m.from) _ s in
      let b = and_split (in_range n m.to) _ a.1 in
      let c = and_split (number_shaped m) (about_shaped sets m) b.1 in
      (a.0, b.0, c.0, c.1)

  pub from-high : m.from ≤ n
  from-high = (within n m.from parts.0).1

  pub to_high : m.to ≤ n
  to_high = (within n m.to parts.1).1

  pub number-high : m.number ≤ number_limit
  unfolding number_shaped is_given is_number
  number-high =
      let a = parts.2 in
      by_bool (eqb m.kind FAIL)
      (λ e. leb-true m.number number_limit (rw e at a))
      (λ e. leb-true m.number number_limit (and_split (leb 1 m.number) _ (rw e at a)).1)

  -- only a fail may lack its number
  pub numbered : eqb m.kind FAIL ≡ false → eqb m.number 0 ≡ false
  unfolding number_shaped is_given
  numbered e =
      let l = leb-true 1 m.number (and_split (leb 1 m.number) _ (rw e at parts.2)).0 in
      ne_eqb m.number 0 (λ z. omega arith)

  -- by its kind, one of the seven
  one-kind :
      {C : Type 0}
      → (m.kind ≡ REQUEST → C)
      → (m.kind ≡ REPLY → C)
      → (m.kind ≡ RELEASE → C)
      → (m.kind ≡ INQUIRE → C)
      → (m.kind ≡ FAIL → C)
      → (m.kind ≡ YIELD → C)
      → (m.kind ≡ TRANSFER → C)
      → C
  unfolding about_shaped
  one-kind c1 c2 c3 c4 c5 c6 c7 =
      by_kind m.kind c1 c2 c3 c4 c5 c6 c7
      (λ n1 n2 n3 n4 n5 n6 n7.
      let a = rw (ne_eqb _ _ n1, ne_eqb _ _ n2, ne_eqb _ _ n3, ne_eqb _ _ n4) at parts.3 in
      clash false (rw (ne_eqb _ _ n5, ne_eqb _ _ n6, ne_eqb _ _ n7) at a) refl)

  pub kind-high : m.kind ≤ TRANSFER
  kind-high = one-kind (λ k. omega arith) (λ k. omega arith) (λ k. omega arith) (λ k. omega arith) (λ k. omega arith) (λ k. omega arith) (λ k. omega arith)

  -- one that is about no site
  plain-none : (k j : ℕ) → plain_shaped sets m.about k j ≡ true → m.about ≡ 0
  unfolding plain_shaped
  plain-none k j a = eqb-true m.about 0 (and_split (eqb m.about 0) _ a).0

  pub about-none : has_about m.kind ≡ false → m.about ≡ 0
  unfolding has_about about_shaped
  about-none h =
      let a = parts.3 in
      one-kind
      (λ k. plain-none m.from m.to (rw k at a))
      (λ k. clash true refl (rw k at h))
      (λ k. clash true refl (rw k at h))
      (λ k. plain-none m.to m.from (rw k at a))
      (λ k. plain-none m.to m.from (rw k at a))
      (λ k. plain-none m.from m.to (rw k at a))
      (λ k. clash true refl (rw k at h))
