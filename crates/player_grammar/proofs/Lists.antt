-- A list read part by part.
use Prim.Native.Nat.{ℕ, suc, ◌+◌, ◌-◌, ◌≤◌, ◌<◌}
use mathlib.Core.Bool.{Bool, true, false, ◌&&◌, cond}
use mathlib.Core.List.{List, [], ◌∷◌}
use mathlib.Core.Path.{◌≡◌, refl, sym, ap, ◌∙◌}
use native.Mathlib.Numerals.{add-one}
use native.Mathlib.Omega.{arith}
use borrow.Author.Tests.{ltb-true, ltb-false, le-leb, lt-leb, eqb-true}
use lib.Bits.{bit_or}
use lib.Dec.{leb, ltb, eqb}
use lib.ListN.{length, take, drop, length-drop}
use lib.Seq.{take_all, take-length, drop-drop}
use Rattle.std.specs.Prelude.{Option, Some, None, MatchOption, IsSomeAnd}
use Rattle.std.specs.Option.{option_map}
use Rattle.basics.proofs.Basics.{by_bool, and_second}
use Rattle.byte_scan.specs.Bytes.{index_after, index_of, slice}
use Rattle.player_numbers.specs.Numbers.{is_digit, all_digits, no_leading_zero, number}
use Rattle.player_grammar.specs.Grammar.{longer, parts, before, all_numbers, numbers, ascends, site_bit, with_sites, set_line, one, move_line}
use Rattle.player_grammar.specs.declared.Line.{Line}
use Rattle.player_grammar.specs.declared.Line.TheVariants.{Set, Move}

-- where the first comma is
abbrev pub comma : List ℕ → ℕ
comma bs = index_of 44 bs

parts-comma : (bs : List ℕ) → comma bs < length bs → parts bs ≡ take (comma bs) bs ∷ parts (drop (suc (comma bs)) bs)
unfolding parts longer index_of index_after
parts-comma [] h = absurd (omega arith)
parts-comma (b ∷ bs) h =
    by_bool (eqb b 44)
    (λ e. rw e)
    (λ e. let g : suc (comma bs) < suc (length bs) = rw e at h in rw e (rw (parts-comma bs (omega arith))))

parts_last : (bs : List ℕ) → length bs ≤ comma bs → parts bs ≡ bs ∷ []
unfolding parts longer index_of index_after
parts_last [] h = refl
parts_last (b ∷ bs) h =
    by_bool (eqb b 44)
    (λ e. let g : suc (length bs) ≤ 0 = rw e at h in absurd (omega arith))
    (λ e. let g : suc (length bs) ≤ suc (comma bs) = rw e at h in rw e (rw (parts_last bs (omega arith))))

-- as `find` says it
pub found-comma : (bs : List ℕ) (at end : ℕ) → end ≡ at + index_of 44 (slice at (length bs) bs) → end ≡ at + comma (drop at bs)
unfolding slice
found-comma bs at end h = rw (take-length bs) at h

-- the numbers of the first part and of what is behind its comma, or of the only part
pub numbers-comma : (bs : List ℕ) → comma bs < length bs → numbers bs ≡ before (number (take (comma bs) bs)) (numbers (drop (suc (comma bs)) bs))
unfolding numbers all_numbers
numbers-comma bs h = rw (parts-comma bs h)

pub numbers-last : (bs : List ℕ) → length bs ≤ comma bs → numbers bs ≡ before (number bs) (Some [])
unfolding numbers all_numbers
numbers-last bs h = rw (parts_last bs h)

-- A line with one number: its bytes are that number, since a comma is no digit.
comma-no-digit : (bs : List ℕ) → comma bs < length bs → all_digits bs ≡ false
unfolding all_digits index_of index_after
comma-no-digit [] h = absurd (omega arith)
comma-no-digit (b ∷ bs) h =
    by_bool (eqb b 44)
    (λ e. rw (eqb-true b 44 e))
    (λ e. let g : suc (comma bs) < suc (length bs) = rw e at h in and_second (is_digit b) (all_digits bs) (comma-no-digit bs (omega arith)))

comma-no-number : (bs : List ℕ) → comma bs < length bs → number bs ≡ None
unfolding number
comma-no-number bs h = rw (comma-no-digit bs h, and_second (no_leading_zero bs) false refl)

module _ (line : ℕ → Line) where
  one-before : (x : Option ℕ) → one line (before x (Some [])) ≡ option_map line x
  unfolding one before
  one-before (Some n) = refl
  one-before None = refl

  more-than-one : (x y : Option ℕ) (ns : Option (List ℕ)) → one line (before x (before y ns)) ≡ None
  unfolding one before
  more-than-one (Some n) (Some m) (Some ns) = refl
  more-than-one (Some n) (Some m) None = refl
  more-than-one (Some n) None ns = refl
  more-than-one None y ns = refl

  after-comma : (x : Option ℕ) (bs : List ℕ) → one line (before x (numbers bs)) ≡ None
  after-comma x bs =
      by_bool (ltb (comma bs) (length bs))
      (λ e. rw (numbers-comma bs (ltb-true _ _ e)) (more-than-one x _ _))
      (λ e. rw (numbers-last bs (ltb-false _ _ e)) (more-than-one x _ _))

  pub one_number : (bs : List ℕ) → one line (numbers bs) ≡ option_map line (number bs)
  one_number bs =
      by_bool (ltb (comma bs) (length bs))
      (λ e. let h = ltb-true _ _ e in rw (numbers-comma bs h, comma-no-number bs h) (after-comma _ _))
      (λ e. rw (numbers-last bs (ltb-false _ _ e)) (one-before (number bs)))

  -- as the code reads it
  pub read-one : (x : Option ℕ) (bs : List ℕ) (r : Option Line) → x ≡ number bs → MatchOption x (r ≡ None) (λ n. IsSomeAnd r (λ m. m ≡ line n)) → r ≡ one line (numbers bs)
  read-one (Some n) bs (Some m) e h = ap Some h ∙ sym (one_number bs ∙ rw (← e) refl)
  read-one (Some n) bs None e h = absurd h
  read-one None bs r e h = h ∙ sym (one_number bs ∙ rw (← e) refl)

-- A move: one number, a comma, and one number.
pub move-before : (a : ℕ) (ns : Option (List ℕ)) → move_line (before (Some a) ns) ≡ one (Move a) ns
unfolding move_line before one
move-before a None = refl
move-before a (Some []) = refl
move-before a (Some (b ∷ [])) = refl
move-before a (Some (b ∷ c ∷ ns)) = refl

pub move-malformed : (ns : Option (List ℕ)) → move_line (before None ns) ≡ None
unfolding move_line before
move-malformed ns = refl

pub move-single : (x : Option ℕ) → move_line (before x (Some [])) ≡ None
unfolding move_line before
move-single (Some a) = refl
move-single None = refl

-- A set, where the next number has to be low at least.
abbrev rises : ℕ → List ℕ → Bool
rises low [] = true
rises low (n ∷ ns) = leb low n && rises (suc n) ns

abbrev pub set_from : ℕ → ℕ → Option (List ℕ) → Option Line
set_from low set None = None
set_from low set (Some ns) = cond (rises low ns) (Some (Set (with_sites set ns))) None

ascends-rises : (a : ℕ) (ns : List ℕ) → ascends (a ∷ ns) ≡ rises (suc a) ns
unfolding ascends
ascends-rises a [] = refl
ascends-rises a (b ∷ ns) = rw (ascends-rises b ns)

pub set-begun : (ns : Option (List ℕ)) → set_line ns ≡ set_from 0 0 ns
unfolding set_line ascends
set-begun None = refl
set-begun (Some []) = refl
set-begun (Some (a ∷ ns)) = rw (ascends-rises a ns, le-leb 0 a (omega arith))

module _ (low set : ℕ) where
  pub set_ended : set_from low set (Some []) ≡ Some (Set set)
  unfolding with_sites
  set_ended = refl

  pub set-malformed : (ns : Option (List ℕ)) → set_from low set (before None ns) ≡ None
  unfolding before
  set-malformed ns = refl

  pub set-falls : (n : ℕ) (ns : Option (List ℕ)) → n < low → set_from low set (before (Some n) ns) ≡ None
  unfolding before
  set-falls n None h = refl
  set-falls n (Some ns) h = rw (lt-leb low n h)

  pub set-rises : (n : ℕ) (ns : Option (List ℕ)) → low ≤ n → set_from low set (before (Some n) ns) ≡ set_from (n + 1) (bit_or set (site_bit n)) ns
  unfolding before with_sites
  set-rises n None h = refl
  set-rises n (Some ns) h = rw (le-leb low n h, add-one)

-- The numbers from place `at` on; place length + 1 is behind the last part.
abbrev pub numbers_at : List ℕ → ℕ → Option (List ℕ)
numbers_at bs at = cond (leb at (length bs)) (numbers (drop at bs)) (Some [])

module _ (bs : List ℕ) (at end : ℕ) (h : at ≤ length bs) (e : end ≡ at + comma (drop at bs)) where
  pub next-number : numbers_at bs at ≡ before (number (take (end - at) (drop at bs))) (numbers_at bs (end + 1))
  next-number =
      let d = length-drop at bs in
      let k : end - at ≡ comma (drop at bs) = omega arith in
      let j : end + 1 ≡ at + suc (comma (drop at bs)) = omega arith in
      rw (le-leb at (length bs) h)
      (by_bool (ltb (comma (drop at bs)) (length (drop at bs)))
      (λ t. let l = ltb-true _ _ t in
      rw (numbers-comma (drop at bs) l, k, j, le-leb (at + suc (comma (drop at bs))) (length bs) (omega arith), drop-drop))
      (λ t. let l = ltb-false _ _ t in
      rw (numbers-last (drop at bs) l, k, j, lt-leb (at + suc (comma (drop at bs))) (length bs) (omega arith), take_all (comma (drop at bs)) (drop at bs) l)))
