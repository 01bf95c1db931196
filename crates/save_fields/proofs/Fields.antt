-- A mode, a holder: their numbers, and back.
use Prim.Native.Nat.{ℕ, suc, ◌≤◌}
use mathlib.Core.Bool.{true, false}
use mathlib.Core.List.{◌++◌}
use mathlib.Core.Path.{◌≡◌, refl, sym, ◌∙◌}
use native.Mathlib.Omega.{arith}
use lib.Dec.{eqb}
use lib.ListN.{length, replicate}
use borrow.Author.Tests.{eqb-true}
use Rattle.basics.specs.Helpers.{All}
use Rattle.basics.proofs.Basics.{by_bool}
use Rattle.rig.specs.declared.Arbiter.{Arbiter}
use Rattle.rig.specs.declared.Mode.{Mode}
use Rattle.rig.specs.declared.Mode.TheVariants.{Rest, Waiting, Inside}
use Rattle.model.specs.Tables.{at}
use Rattle.model.specs.State.{seq_in}
use Rattle.model.proofs.Tables.{at_same}
use Rattle.save_fields.specs.Fields.{nth, mode_numbers, mode_from, holder_numbers, arbiter_from}

-- number i of zeros
pub zeros : (k i : ℕ) → nth (replicate k 0) i ≡ 0
unfolding at
zeros k i = at_same 0 k (suc i)

-- A mode.

pub mode-back : (m : Mode) (k : ℕ) → mode_from (mode_numbers m ++ replicate k 0) ≡ m
unfolding mode_numbers mode_from
mode-back Rest k = refl
mode-back (Waiting s true) k = refl
mode-back (Waiting s false) k = refl
mode-back Inside k = refl

pub mode-short : (m : Mode) → length (mode_numbers m) ≤ 3
unfolding mode_numbers
mode-short Rest = omega arith
mode-short (Waiting s f) = omega arith
mode-short Inside = omega arith

pub mode-bound : (b : ℕ) (m : Mode) → 2 ≤ b → seq_in m ≤ b → All (λ n. n ≤ b) (mode_numbers m)
unfolding mode_numbers All
mode-bound b Rest h s = (omega arith, tt)
mode-bound b (Waiting n true) h s = (omega arith, (s, (omega arith, tt)))
mode-bound b (Waiting n false) h s = (omega arith, (s, (omega arith, tt)))
mode-bound b Inside h s = (h, tt)

-- A holder.

module _ (a : Arbiter) where
  arbiter-same : (h s : ℕ) → h ≡ a.holder → s ≡ a.seq → record { grant = a.grant; holder = h; seq = s } ≡ a
  arbiter-same h s e f = rw (e, f)

  pub arbiter-back : (k : ℕ) → (a.holder ≡ 0 → a.seq ≡ 0) → arbiter_from a.grant (holder_numbers a ++ replicate k 0) ≡ a
  unfolding holder_numbers arbiter_from
  arbiter-back k h =
      by_bool (eqb a.holder 0)
      (λ e. let z = eqb-true a.holder 0 e in rw e (arbiter-same 0 _ (sym z) (zeros k 0 ∙ sym (h z))))
      (λ e. rw e)

  pub holder-short : length (holder_numbers a) ≤ 2
  unfolding holder_numbers
  holder-short = by_bool (eqb a.holder 0) (λ e. rw e (omega arith)) (λ e. rw e (omega arith))

  pub holder-bound : (b : ℕ) → a.holder ≤ b → a.seq ≤ b → All (λ n. n ≤ b) (holder_numbers a)
  unfolding holder_numbers All
  holder-bound b h s = by_bool (eqb a.holder 0) (λ e. rw e (omega arith, tt)) (λ e. rw e (h, (s, tt)))
