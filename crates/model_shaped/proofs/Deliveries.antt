-- The delivery of a shaped message keeps the receiver's desk shaped, and what it sends is shaped.
use Prim.Native.Nat.{ℕ}
use mathlib.Core.Path.{◌≡◌}
use mathlib.Core.Logic.{◌≢◌}
use mathlib.Core.Bool.{true}
use mathlib.Core.List.{List}
use lib.Dec.{eqb}
use borrow.Author.Tests.{ne_eqb}
use Rattle.basics.specs.Helpers.{All}
use Rattle.basics.proofs.Basics.{and_split}
use Rattle.rig.specs.declared.Desk.{Desk}
use Rattle.rig.specs.declared.Message.{Message}
use Rattle.model.specs.State.{in_range, has_member}
use Rattle.model.specs.Deliver.{delivered}
use Rattle.model.specs.Shape.{number_shaped, plain_shaped, release_shaped, about_shaped, message_shaped}
use Rattle.model.proofs.Shaped.{by_kind}
use Rattle.model_shaped.proofs.Fine.{is-given, Here, Fine, FineEffect}
use Rattle.model_shaped.proofs.Arbiters.{request-fine, release-fine, yield-fine}
use Rattle.model_shaped.proofs.Sites.{reply-fine, inquire-fine, fail-fine, transfer-fine}

parts : (n : ℕ) (sets : List ℕ) (m : Message) → message_shaped n sets m ≡ true → (number_shaped m ≡ true) × (about_shaped sets m ≡ true)
unfolding message_shaped
parts n sets m e =
    and_split (number_shaped m) (about_shaped sets m) (and_split (in_range n m.to) _ (and_split (in_range n m.from) _ e).1).1

-- one that is about no site
plain-tied : (sets : List ℕ) (x k j : ℕ) → plain_shaped sets x k j ≡ true → has_member sets k j ≡ true
unfolding plain_shaped
plain-tied sets x k j e = (and_split (eqb x 0) _ e).1

-- the heir that a release names
heir-named : (sets : List ℕ) (k j x : ℕ) → release_shaped sets k j x ≡ true → x ≢ 0 → has_member sets x j ≡ true
unfolding release_shaped
heir-named sets k j x e ne = rw (ne_eqb x 0 ne) at (and_split (has_member sets k j) _ e).1

pub delivered-fine : {n : ℕ} {sets : List ℕ} {b : ℕ} → Here n sets b → (d : Desk) → Fine n sets b d → (m : Message) → m.to ≡ b → message_shaped n sets m ≡ true → FineEffect n sets b (delivered d m)
unfolding delivered number_shaped about_shaped All
delivered-fine {n} {sets} {b} p d f m q e =
    let w = parts n sets m e in
    let x = m.number in
    let about : about_shaped sets m ≡ true = w.1 in
    by_kind m.kind
    (λ k. let g = is-given x (rw k at w.0) in rw k (request-fine p d f m.from x (plain-tied sets m.about m.from b (rw (k, q) at about)) g.0 g.1))
    (λ k. let g = is-given x (rw k at w.0) in rw k (reply-fine p d f m.about x g.0 g.1))
    (λ k. rw k (release-fine p d f m.from m.about x (heir-named sets m.from b m.about (rw (k, q) at about))))
    (λ k. let g = is-given x (rw k at w.0) in rw k (inquire-fine p d f m.from x (plain-tied sets m.about b m.from (rw (k, q) at about)) g.1))
    (λ k. rw k (fail-fine p d f x))
    (λ k. rw k (yield-fine p d f m.from x (plain-tied sets m.about m.from b (rw (k, q) at about))))
    (λ k. let t = and_split (has_member sets b m.from) _ (rw (k, q) at about) in rw k (transfer-fine p d f m.from m.about x t.0 t.1))
    (λ n1 n2 n3 n4 n5 n6 n7. rw (ne_eqb _ _ n1, ne_eqb _ _ n2, ne_eqb _ _ n3, ne_eqb _ _ n4, ne_eqb _ _ n5, ne_eqb _ _ n6, ne_eqb _ _ n7) (record { desk = f; sent = tt }))
