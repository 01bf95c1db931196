-- `attempt_at` of the place that a search finds is the attempt of model/specs/Event.
use Prim.Native.Nat.{ℕ, zero, suc, ◌<◌}
use mathlib.Core.Path.{◌≡◌, refl, sym, ap, ◌∙◌}
use mathlib.Core.List.{List, [], ◌∷◌, ◌++◌, map, map-append}
use native.Mathlib.Omega.{arith}
use lib.ListN.{length, get_or, take, drop, length-take}
use lib.Seq.{get_or-take}
use Rattle.basics.proofs.Lists.{take-map, drop-map}
use Rattle.rig.specs.declared.Desk.{Desk}
use Rattle.rig.specs.declared.Event.TheVariants.{Deliver}
use Rattle.model.specs.Event.{taken_off, attempt, blank_message}
use Rattle.list_rows.specs.Rows.{message_of}
use Rattle.list_search.specs.declared.Found.{Found}
use Rattle.list_search.specs.declared.Found.TheVariants.{At, Nowhere}
use Rattle.list_search.specs.Places.{found_in}
use Rattle.list_search.proofs.Places.{found_nowhere, found_at, found-stays}
use Rattle.event_storing.specs.Leaves.{messages_in, staying}
use Rattle.event_deliveries.specs.AtPlace.{attempt_at}

by-found : {C : Type 0} (f : Found) → ((i : ℕ) → f ≡ At i → C) → (f ≡ Nowhere → C) → C
by-found (At i) x y = x i refl
by-found Nowhere x y = y refl

module _ {A B : Type 0} (f : A → B) where
  map_at : (xs : List A) (i : ℕ) (a : A) (b : B) → i < length xs → get_or (map f xs) i b ≡ f (get_or xs i a)
  map_at [] i a b h = absurd (omega arith)
  map_at (x ∷ xs) zero a b h = refl
  map_at (x ∷ xs) (suc i) a b h = map_at xs i a b (omega arith)

-- the message at a place, and the others
module _ (n : ℕ) (rows : List (List ℕ)) (place : ℕ) where
  pub others-at : take place (messages_in n rows) ++ drop (suc place) (messages_in n rows) ≡ staying n place rows
  others-at = sym (map-append message_of (take place (take n rows)) (drop (suc place) (take n rows)) ∙ rw (← take-map message_of place (take n rows), ← drop-map message_of (suc place) (take n rows)))

module _ (a b n : ℕ) (rows : List (List ℕ)) (i : ℕ) (found : found_in a b (take n rows) ≡ At i) where
  pub message-at : get_or (messages_in n rows) i blank_message ≡ message_of (get_or rows i [])
  message-at =
      let f = found_at a b n rows i found in
      let l : i < length (take n rows) = rw (length-take n rows) (omega (arith, f.0, f.1)) in
      map_at message_of (take n rows) i [] blank_message l ∙ ap message_of (get_or-take n rows i [] f.0)

pub attempt-at : (a b : ℕ) (d : Desk) (n : ℕ) (rows : List (List ℕ)) → attempt d (messages_in n rows) (Deliver a b) ≡ attempt_at d (messages_in n rows) (found_in a b (take n rows))
unfolding attempt taken_off attempt_at
attempt-at a b d n rows =
    by-found (found_in a b (take n rows))
    (λ i e. rw (e, (found_at a b n rows i e).2, ← found-stays a b n rows i e, message-at a b n rows i e, others-at n rows i))
    (λ e. rw (e, (found_nowhere a b (take n rows)).0 e))
